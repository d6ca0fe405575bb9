-- Raising by its number raises the edge of the edit.
use Rattle.std.proofs.Common.{sym, subst}
use Rattle.grove_edits.specs.declared.edit.EditKind.{EditKind}
use Rattle.grove_edits.specs.Edit.{edit_edge}
use Rattle.grove_edits.specs.Graph.{state_of}
use Rattle.graph_words.specs.Change.{IsChange}
use Rattle.graph_words.specs.States.{state_in}
use Rattle.mark_incremental.proofs.raising.raise.Goals as goal

pub returns-clause-raised : goal.returns-clause-raised
returns-clause-raised c = record {
  joined = c.raise_at-change.ensures.joined c.args.edit.now c.requires.number (sym c.kind.ensures);
  change_is =
      subst (λ (k : EditKind). IsChange (state_in c.args.graph.now (edit_edge c.args.edit.now)) (state_of k) c.raise_at-change.result) c.kind.ensures
      (c.raise_at-change.ensures.change (edit_edge c.args.edit.now) c.requires.number);
}
