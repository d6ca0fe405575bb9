use Rattle.std.proofs.Common.{take}
use Rattle.grove_edits.specs.Graph.{graph}
use Rattle.undo_answers.proofs.Answering.{answer_whole}
use Rattle.undo_answers.proofs.text.append_undoing.Goals as goal

pub returns : goal.returns
returns c =
    answer_whole c.append_undoing_of.result (graph (take c.args.acted.now.before c.args.taken.now)) c.args.acted.now.edits (graph c.args.taken.now) c.args.author c.in_ok-change.change c.args.out.now.items
    c.append_undoing_of.new.out.items c.in_ok-change.ensures c.append_undoing_of.ensures
