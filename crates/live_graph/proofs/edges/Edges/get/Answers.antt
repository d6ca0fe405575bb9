use Rattle.std.proofs.Common.{List, Some, slice_get, sym, ap, subst, ◌∙◌}
use Rattle.std.specs.Option.{option_map}
use Rattle.std.proofs.lemmas.Option.{slice_get-map, slice_get_within, get_or_from_slice_get}
use Rattle.grove_edits.specs.declared.edge.Edge.{Edge}
use Rattle.edge_numbers.specs.Numbered.{edge_at, IsEdgeNumber}
use Rattle.edge_lists.proofs.Numbers.{known_at}
use Rattle.live_graph.proofs.edges.Edges.get.Goals as goal

pub edge-requires : goal.edge-requires
edge-requires c =
    let edges = c.self.inside.edges.now in
    let numbers = c.self.inside.numbers in
    let at = sym c.in_ok-number.ensures in
    subst (IsEdgeNumber edges) (get_or_from_slice_get numbers c.args.index c.in_ok-number.number 0 at)
    (known_at edges numbers c.args.index 0 c.self.invariant (slice_get_within numbers c.args.index c.in_ok-number.number at))

pub returns : goal.returns
returns c = record {
  edge =
      let edges = c.self.inside.edges.now in
      let numbers = c.self.inside.numbers in
      ap Some c.edge.ensures ∙ ap (option_map (edge_at edges)) c.in_ok-number.ensures ∙ sym (slice_get-map (edge_at edges) numbers c.args.index)
      ∙ ap (λ (es : List Edge). slice_get es c.args.index) c.self.view_is;
}
