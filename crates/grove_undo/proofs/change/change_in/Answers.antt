use Rattle.graph_words.specs.States.{state_in}
use Rattle.grove_undo.proofs.Changed.{change_along_result}
use Rattle.grove_undo.proofs.change.change_in.Goals as goal

pub returns-clause-of_same : goal.returns-clause-of_same
returns-clause-of_same c before same = change_along_result (state_in c.args.graph.now) before c.args.edits.now c.change_by.result same c.change_by.ensures
