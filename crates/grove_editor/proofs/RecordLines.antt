-- The lines of records, one after the other.
use Rattle.std.proofs.Common.{◌≡◌, ℕ, List, [], ◌∷◌, ◌++◌, refl, sym, ap, ◌∙◌, append_assoc, append-nil}
use Rattle.std.specs.Prelude.{false, Option, None, Some, is_some, option_map}
use Rattle.std.proofs.lemmas.List.Concat.{flat_map-cons}
use Rattle.grove_edits.specs.declared.vertex.Vertex.{Vertex}
use Rattle.grove_edits.specs.Graph.{Graph}
use Rattle.graph_words.specs.Whole.{IsVertexOf}
use Rattle.kept_records.specs.Kept.{Kept, Records}
use Rattle.mark_store.specs.declared.record.Record.{Record}
use Rattle.mark_incremental.specs.Reading.{kept_by}
use Rattle.mark_incremental.specs.Standing.{KeptMarks, StandFor, kept_in, records_in}
use Rattle.grove_editor.specs.Records.{record_text, records_text, AreRecordsTold, IsRecordTold}

-- one vertex more behind some, where what is left follows
pub line_behind : (records : Records) (v : Vertex) (left : List Vertex) (old new all : List ℕ) → new ≡ old ++ record_text v (records v) → old ++ records_text records (v ∷ left) ≡ all
    → new ++ records_text records left ≡ all
line_behind records v left old new all is so_far =
    ap (λ (xs : List ℕ). xs ++ records_text records left) is
    ∙ append_assoc old (record_text v (records v)) (records_text records left)
    ∙ ap (λ (xs : List ℕ). old ++ xs) (sym (flat_map-cons (λ (u : Vertex). record_text u (records u)) v left))
    ∙ so_far

-- what is told of some vertices by marks that stand for the graph
pub records_told : (g : Graph) (marks : KeptMarks) (vertices : List Vertex) (text : List ℕ) → StandFor g marks → text ≡ records_text (records_in marks) vertices → AreRecordsTold g vertices text
records_told g marks vertices text of is = record { live = of.live; are_live = of.are_live; records = records_in marks; kept = of.kept; written = is }

-- what is kept of a vertex by its record
kept_some : (marks : KeptMarks) (v : Vertex) (r : Record) → kept_in marks v ≡ Some r → records_in marks v ≡ Some (kept_by marks.types marks.contexts r)
kept_some marks v r is = ap (λ (found : Option Record). option_map (kept_by marks.types marks.contexts) found) is

-- and of one that has a record
pub record_told : (g : Graph) (marks : KeptMarks) (v : Vertex) (r : Record) (text : List ℕ) → StandFor g marks → kept_in marks v ≡ Some r → text ≡ records_text (records_in marks) (v ∷ [])
    → IsRecordTold g v text
record_told g marks v r text of found is =
    let own : Kept = kept_by marks.types marks.contexts r in
    let some : records_in marks v ≡ Some own = kept_some marks v r found in
    record {
      live = of.live;
      are_live = of.are_live;
      records = records_in marks;
      kept = of.kept;
      own = own;
      is_own = some;
      written =
          is ∙ flat_map-cons (λ (u : Vertex). record_text u (records_in marks u)) v [] ∙ append-nil (record_text v (records_in marks v))
          ∙ ap (record_text v) some;
    }

some_is_not_none : (kept : Kept) → Some kept ≡ None → ⊥
some_is_not_none kept e = cc

-- a vertex of the graph has one
pub no_vertex : (g : Graph) (marks : KeptMarks) (v : Vertex) → StandFor g marks → kept_in marks v ≡ None → IsVertexOf g v → ⊥
no_vertex g marks v of none is =
    let kept = of.kept.each v is in
    some_is_not_none kept.0 (sym kept.1 ∙ ap (λ (found : Option Record). option_map (kept_by marks.types marks.contexts) found) none)

pub none_found : (found : Option Record) → is_some found ≡ false → found ≡ None
none_found None is = refl
none_found (Some r) is = absurd cc
