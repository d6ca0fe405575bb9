-- The vertices that are judged otherwise in a graph than in the one before it, by marks that stand for both.
use Rattle.std.proofs.Common.{◌≡◌, Bool, List, sym, ap, subst, ◌∙◌}
use Rattle.grove_edits.specs.declared.vertex.Vertex.{Vertex}
use Rattle.grove_edits.specs.declared.edge.Edge.{Edge}
use Rattle.grove_edits.specs.Graph.{Graph, graph}
use Rattle.graph_words.specs.Class.{is_cycle_root}
use Rattle.graph_words.specs.Whole.{AreLive}
use Rattle.grove_terms.proofs.OneGrove.{one_live}
use Rattle.kept_records.specs.Kept.{Records, AreKept}
use Rattle.kept_records.proofs.Edited.{one_record}
use Rattle.kept_records.proofs.OneSize.{live_along, kept_along}
use Rattle.mark_store.specs.Places.{holds}
use Rattle.mark_incremental.specs.Standing.{KeptMarks, StandFor, records_in}
use Rattle.mark_incremental.specs.Changed.{AreJudgedOtherwise, AreChangedMarks}

module _ (g : Graph) (marks : KeptMarks) (of : StandFor g marks) (live : List Edge) (are : AreLive g live) where
  same_live : of.live ≡ live
  same_live = one_live g of.live live of.are_live are

  roots_are : holds marks.roots ≡ is_cycle_root live
  roots_are = λ j v. (of.rooted v ∙ ap (λ edges. is_cycle_root edges v) same_live) j

  records_are : (records : Records) → AreKept g live records → records_in marks ≡ records
  records_are records kept =
      let own : AreKept g live (records_in marks) = subst (λ (edges : List Edge). AreKept g edges (records_in marks)) same_live of.kept in
      let each = one_record of.edits live (records_in marks) records (live_along g (graph of.edits) live of.made are) (kept_along g (graph of.edits) live (records_in marks) of.made own)
      (kept_along g (graph of.edits) live records of.made kept) in
      λ j v. each v j

pub changed_marks : (g h : Graph) (was now : KeptMarks) → StandFor g was → StandFor h now → (vertices : List Vertex)
    → AreJudgedOtherwise (records_in was) (records_in now) (holds was.roots) (holds now.roots) vertices → AreChangedMarks g h vertices
changed_marks g h was now of_g of_h vertices are live_before live_after before after in_g kept_g in_h kept_h =
    subst (λ (roots : Vertex → Bool). AreJudgedOtherwise before after (is_cycle_root live_before) roots vertices) (roots_are h now of_h live_after in_h)
    (subst (λ (roots : Vertex → Bool). AreJudgedOtherwise before after roots (holds now.roots) vertices) (roots_are g was of_g live_before in_g)
    (subst (λ (records : Records). AreJudgedOtherwise before records (holds was.roots) (holds now.roots) vertices) (records_are h now of_h live_after in_h after kept_h)
    (subst (λ (records : Records). AreJudgedOtherwise records (records_in now) (holds was.roots) (holds now.roots) vertices) (records_are g was of_g live_before in_g before kept_g) are)))
