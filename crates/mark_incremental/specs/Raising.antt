-- One edit raised in a graph.
use Rattle.std.specs.Prelude.{[], ◌∷◌}
use Rattle.grove_edits.specs.declared.edit.Edit.{Edit}
use Rattle.grove_edits.specs.Edit.{edit_edge, edit_kind}
use Rattle.grove_edits.specs.Graph.{graph, graph_join, IsSame, state_of}
use Rattle.graph_words.specs.declared.change.Change.{Change}
use Rattle.graph_words.specs.Change.{IsChange}
use Rattle.graph_words.specs.States.{Entries, state_in}

-- raising the edit, with this change, led from the one graph to the other
pub record WasRaised (edit : Edit) (change : Change) (before after : Entries) : Type 0 where
  pub joined : IsSame (state_in after) (graph_join (state_in before) (graph (edit ∷ [])))
  pub change_is : IsChange (state_in before (edit_edge edit)) (state_of (edit_kind edit)) change
