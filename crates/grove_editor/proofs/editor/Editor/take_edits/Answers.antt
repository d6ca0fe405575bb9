use Rattle.std.proofs.Common.{ℕ, ap}
use Rattle.grove_edits.specs.declared.answer.Answer.TheVariants.{Taken}
use Rattle.grove_editor.specs.declared.reply.Reply.TheVariants.{Answered}
use Rattle.grove_editor.proofs.States.{kept_taken, taken_state}
use Rattle.grove_editor.proofs.editor.Editor.take_edits.Goals as goal

pub invariant_of-self-2 : goal.invariant_of-self-2
invariant_of-self-2 c =
    let done = c.self.inside.done.items in
    let undone = c.self.inside.undone.items in
    kept_taken c.self.inside.replica c.take.new.replica c.args.edits.now done undone done undone c.in_ok-changed.ensures.taken c.self.invariant c.self.invariant.done_known c.self.invariant.undone_known

pub returns-clause-taken : goal.returns-clause-taken
returns-clause-taken c =
    taken_state c.self.inside.replica c.self.inside.fed.items c.self.inside.done.items c.self.inside.undone.items c.self.inside.news c.args.self.now c.self.view_is c.take.new.replica c.args.edits.now
    (record { reply = Answered (Taken c.len.result); made = c.new.result; changed = c.in_ok-changed.changed })
    c.in_ok-changed.ensures.taken c.in_ok-changed.ensures.changed (ap (λ (n : ℕ). Answered (Taken n)) c.len.ensures) c.new.ensures.empty
