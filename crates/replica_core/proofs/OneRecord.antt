-- Marks that stand for a graph keep what marking it says, so those of one graph keep the same.
use Rattle.std.proofs.Common.{◌≡◌, List, subst}
use Rattle.grove_edits.specs.declared.vertex.Vertex.{Vertex}
use Rattle.grove_edits.specs.declared.edge.Edge.{Edge}
use Rattle.grove_edits.specs.declared.edit.Edit.{Edit}
use Rattle.grove_edits.specs.Graph.{Graph, graph, IsSame, HasSameEdits}
use Rattle.graph_words.specs.Whole.{AreLive}
use Rattle.grove_terms.proofs.OneGrove.{one_live}
use Rattle.kept_records.specs.Kept.{AreKept}
use Rattle.kept_records.proofs.Edited.{one_record}
use Rattle.kept_records.proofs.OneSize.{same_graph, live_along, kept_along}
use Rattle.mark_incremental.specs.Standing.{KeptMarks, StandFor, records_in}
use Rattle.replica_core.specs.Content.{no_edits}
use Rattle.replica_core.specs.Calls.{Call, after_calls, edits_of_calls}
use Rattle.replica_core.proofs.Contents.{calls_canonical, same_calls}

pub marks_along : (g h : Graph) (marks : KeptMarks) → IsSame g h → StandFor g marks → StandFor h marks
marks_along g h marks same of = subst (λ (x : Graph). StandFor x marks) (same_graph g h same) of

kept_for : (g : Graph) (marks : KeptMarks) → StandFor g marks → (live : List Edge) → AreLive g live → AreKept g live (records_in marks)
kept_for g marks of live are = subst (λ (edges : List Edge). AreKept g edges (records_in marks)) (one_live g of.live live of.are_live are) of.kept

pub one_record_of : (g : Graph) (a b : KeptMarks) → StandFor g a → StandFor g b → (v : Vertex) → records_in a v ≡ records_in b v
one_record_of g a b of_a of_b =
    one_record of_a.edits of_a.live (records_in a) (records_in b) (live_along g (graph of_a.edits) of_a.live of_a.made of_a.are_live)
    (kept_along g (graph of_a.edits) of_a.live (records_in a) of_a.made of_a.kept)
    (kept_along g (graph of_a.edits) of_a.live (records_in b) of_a.made (kept_for g b of_b of_a.live of_a.are_live))

-- ---- after calls

pub kept_after : (calls : List Call) (marks : KeptMarks) → StandFor (graph (after_calls calls no_edits).edits) marks → (live : List Edge) → AreLive (graph (edits_of_calls calls)) live
    → AreKept (graph (edits_of_calls calls)) live (records_in marks)
kept_after calls marks of = kept_for (graph (edits_of_calls calls)) marks (marks_along (graph (after_calls calls no_edits).edits) (graph (edits_of_calls calls)) marks (calls_canonical calls).same of)

pub same_records : (a b : List Call) → HasSameEdits (edits_of_calls a) (edits_of_calls b) → (m n : KeptMarks) → StandFor (graph (after_calls a no_edits).edits) m
    → StandFor (graph (after_calls b no_edits).edits) n → (v : Vertex) → records_in m v ≡ records_in n v
same_records a b same m n of_m of_n =
    one_record_of (graph (after_calls b no_edits).edits) m n (subst (λ (edits : List Edit). StandFor (graph edits) m) (same_calls a b same) of_m) of_n
