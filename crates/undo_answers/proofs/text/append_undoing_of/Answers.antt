use Rattle.grove_edits.specs.Graph.{graph}
use Rattle.graph_words.specs.States.{state_in}
use Rattle.undo_answers.proofs.Answering.{answers_along}
use Rattle.undo_answers.proofs.text.append_undoing_of.Goals as goal

pub returns : goal.returns
returns c =
    answers_along c.append_undoing_in.result (state_in c.in_ok-graph.graph) (graph c.args.taken.now) c.args.author c.args.change.now c.args.out.now.items c.append_undoing_in.new.out.items
    c.in_ok-graph.ensures.graph c.append_undoing_in.ensures
