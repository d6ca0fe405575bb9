use Rattle.grove_editor.proofs.Turns.{kept_turned, kept_swapped, redone_state}
use Rattle.grove_editor.proofs.editor.Editor.redo_by.Goals as goal

pub invariant_of-self-2 : goal.invariant_of-self-2
invariant_of-self-2 c =
    let inside = c.self.inside in
    kept_swapped c.turn_last.new.replica c.turn_last.new.deeds.items c.turn_last.new.others.items
    (kept_turned c.args.author inside.replica c.turn_last.new.replica inside.undone.items c.turn_last.new.deeds.items inside.done.items c.turn_last.new.others.items c.in_ok-turned.turned
    c.in_ok-turned.ensures.turned c.self.invariant.is_content c.self.invariant.no_opening c.self.invariant.undone_known c.self.invariant.done_known)

pub returns-clause-redone : goal.returns-clause-redone
returns-clause-redone c =
    let inside = c.self.inside in
    redone_state inside.replica c.turn_last.new.replica inside.fed.items inside.news c.args.author inside.undone.items c.turn_last.new.deeds.items inside.done.items c.turn_last.new.others.items
    c.args.self.now c.in_ok-turned.turned c.of.result c.self.view_is c.in_ok-turned.ensures.turned c.of.ensures
