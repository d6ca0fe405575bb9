use Rattle.undo_answers.proofs.Answering.{nothing_last, some_last, within_some}
use Rattle.undo_answers.proofs.text.append_answer.Goals as goal

pub append_undoing-requires-clause-within : goal.append_undoing-requires-clause-within
append_undoing-requires-clause-within c = within_some c.args.taken.now c.as_slice.result.now c.args.last.now c.in-Some.acted c.in-Some.is c.as_slice.ensures c.requires.within

pub returns-in-None : goal.returns-in-None
returns-in-None c =
    nothing_last c.append_nothing.result c.args.taken.now c.args.last.now c.args.author c.args.out.now.items c.append_nothing.new.out.items c.in-None.is c.append_nothing.ensures.line c.append_nothing.ensures.edits

pub returns-in-Some : goal.returns-in-Some
returns-in-Some c =
    some_last c.append_undoing.result c.args.taken.now c.as_slice.result.now c.args.last.now c.in-Some.acted c.args.author c.args.out.now.items c.append_undoing.new.out.items c.in-Some.is c.as_slice.ensures
    c.append_undoing.ensures
