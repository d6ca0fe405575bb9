-- The narrow edge of an edge whose ends have numbers.
use Rattle.std.proofs.Common.{◌≡◌, ℕ, List, Some, None, sym, ap, ◌∙◌}
use Rattle.std.specs.Prelude.{Option, IfSome, slice_get}
use Rattle.std.specs.Map.{keys_of}
use Rattle.std.proofs.lemmas.Option.{slice_get-get_or, get_or_from_slice_get}
use Rattle.std.specs.List.{position}
use Rattle.grove_edits.specs.declared.vertex.Vertex.{Vertex}
use Rattle.grove_edits.specs.declared.edge.Edge.{Edge}
use Rattle.grove_edits.specs.Vertex.{root}
use Rattle.edge_numbers.specs.declared.narrow_edge.NarrowEdge.{NarrowEdge}
use Rattle.edge_numbers.specs.Numbered.{IsNumberOfEdge}
use Rattle.edge_numbers.specs.Narrow.{NarrowEntries, edge_of, numbered, HasEnds}
use Rattle.edge_numbers.proofs.Places.{place_found}
use Rattle.edge_numbers.proofs.NarrowEq as narrows
use Rattle.edge_numbers.proofs.Narrow.{number_read}

module _ (vs : List Vertex) (e : Edge) where
  module _ (narrow : NarrowEdge) (ends : HasEnds vs narrow) (is : edge_of vs narrow ≡ e) where
    pub source_at : slice_get vs narrow.source ≡ Some e.source
    source_at = slice_get-get_or vs narrow.source root ends.0 ∙ ap (λ (x : Edge). Some x.source) is

    pub target_at : slice_get vs narrow.target ≡ Some e.target
    target_at = slice_get-get_or vs narrow.target root ends.1 ∙ ap (λ (x : Edge). Some x.target) is

    pub only_narrow : (source target : ℕ) → Some source ≡ Some narrow.source → Some target ≡ Some narrow.target
        → Some (record { name = e.name; source = source; target = target; position = e.position }) ≡ Some narrow
    only_narrow source target from to =
        let same_source = same_number source narrow.source from in
        let same_target = same_number target narrow.target to in
        λ j. Some (record { name = (sym is j).name; source = same_source j; target = same_target j; position = (sym is j).position })
      where
        same_number : (m n : ℕ) → Some m ≡ Some n → m ≡ n
        same_number m n same = cc

  pub narrow_found : (source target : ℕ) → slice_get vs source ≡ Some e.source → slice_get vs target ≡ Some e.target
      → edge_of vs (record { name = e.name; source = source; target = target; position = e.position }) ≡ e
  narrow_found source target from to =
      let at_source = get_or_from_slice_get vs source e.source root from in
      let at_target = get_or_from_slice_get vs target e.target root to in
      λ j. record { name = e.name; source = at_source j; position = e.position; target = at_target j }

  -- the index of its narrow edge is the number of the edge
  pub edge_numbers : (es : NarrowEntries) (narrow : NarrowEdge) → edge_of vs narrow ≡ e → (o : Option ℕ) → o ≡ position (narrows.eq narrow) (keys_of es) → IfSome o (IsNumberOfEdge (numbered vs es) e)
  edge_numbers es narrow is None found = tt
  edge_numbers es narrow is (Some n) found = number_read vs es n narrow (place_found narrows.eq narrows.itself narrows.exact (keys_of es) narrow n (sym found)) e is
