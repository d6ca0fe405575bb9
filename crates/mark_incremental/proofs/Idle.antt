-- An edit whose edge has its state already changes nothing.
use Rattle.std.proofs.Common.{◌≡◌, Bool, List, [], ◌∷◌, Option, None, refl, sym, ap, subst}
use Rattle.edge_lattice.specs.State.{IsAtMost}
use Rattle.grove_edits.specs.declared.vertex.Vertex.{Vertex}
use Rattle.grove_edits.specs.declared.edit.Edit.{Edit}
use Rattle.grove_edits.specs.Edit.{edit_edge, edit_kind}
use Rattle.grove_edits.specs.Graph.{Graph, graph, graph_join, IsSame, state_of}
use Rattle.graph_words.specs.declared.change.Change.TheVariants.{Same}
use Rattle.graph_words.specs.Change.{IsChange}
use Rattle.graph_words.specs.States.{Entries, state_in}
use Rattle.judging.proofs.Kept.{types-itself, contexts-itself}
use Rattle.mark_store.specs.declared.record.Record.{Record}
use Rattle.mark_incremental.specs.declared.applying.Applied.{Applied}
use Rattle.mark_store.specs.Places.{holds}
use Rattle.mark_incremental.specs.Standing.{KeptMarks, StandFor, kept_in}
use Rattle.mark_incremental.specs.Applying.{put_back_in, roots_back, WasApplied}
use Rattle.mark_incremental.proofs.Raised.{same_graph_from}

pub joined_same : (edit : Edit) (g : Graph) → IsAtMost (state_of (edit_kind edit)) (g (edit_edge edit)) → IsSame g (graph_join g (graph (edit ∷ [])))
joined_same edit g is e = sym (same_graph_from edit g (graph_join g (graph (edit ∷ []))) (λ x. refl) is e)

pub nothing_applied : (edit : Edit) (applied : Applied) (store : Entries) (marks : KeptMarks) → IsAtMost (state_of (edit_kind edit)) (state_in store (edit_edge edit)) → applied.change ≡ Same → applied.old.records.items ≡ []
    → applied.old.root ≡ None → StandFor (state_in store) marks → WasApplied edit applied store marks store marks
nothing_applied edit applied store marks is change none no_root stands = record {
  raised = record {
    joined = joined_same edit (state_in store) is;
    change_is = subst (IsChange (state_in store (edit_edge edit)) (state_of (edit_kind edit))) (sym change) is;
  };
  stood = stands;
  renewed = record {
    records = λ v. ap (λ (old : List (Vertex × Option Record)). put_back_in old (kept_in marks) v) none;
    roots = λ v. ap (λ (root : Option (Vertex × Bool)). roots_back root (holds marks.roots) v) no_root;
    types = types-itself marks.types;
    contexts = contexts-itself marks.contexts;
  };
}
