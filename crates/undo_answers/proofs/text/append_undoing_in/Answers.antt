use Rattle.graph_words.specs.States.{state_in}
use Rattle.live_graph.specs.Live.{live}
use Rattle.undo_answers.proofs.Answering.{undone_answers, refused_answers}
use Rattle.undo_answers.proofs.text.append_undoing_in.Goals as goal

pub returns-in-Ok : goal.returns-in-Ok
returns-in-Ok c =
    undone_answers c.append_undone.result (state_in c.args.graph.now) (live c.args.graph.now) c.args.author c.args.change.now c.in-Ok.undoing c.args.out.now.items c.append_undone.new.out.items
    c.known.ensures c.in-Ok.ensures.undone c.append_undone.ensures.line c.append_undone.ensures.edits

pub returns-in-Err : goal.returns-in-Err
returns-in-Err c =
    refused_answers c.append_refused.result (state_in c.args.graph.now) (live c.args.graph.now) c.args.author c.args.change.now c.in-Err.fault c.args.out.now.items c.append_refused.new.out.items
    c.known.ensures c.in-Err.ensures.refused c.append_refused.ensures.line c.append_refused.ensures.known c.append_refused.ensures.edits
