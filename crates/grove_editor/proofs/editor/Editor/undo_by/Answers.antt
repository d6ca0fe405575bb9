use Rattle.grove_editor.proofs.Turns.{kept_turned, undone_state}
use Rattle.grove_editor.proofs.editor.Editor.undo_by.Goals as goal

pub invariant_of-self-2 : goal.invariant_of-self-2
invariant_of-self-2 c =
    let inside = c.self.inside in
    kept_turned c.args.author inside.replica c.turn_last.new.replica inside.done.items c.turn_last.new.deeds.items inside.undone.items c.turn_last.new.others.items c.in_ok-turned.turned
    c.in_ok-turned.ensures.turned c.self.invariant.is_content c.self.invariant.no_opening c.self.invariant.done_known c.self.invariant.undone_known

pub returns-clause-undone : goal.returns-clause-undone
returns-clause-undone c =
    let inside = c.self.inside in
    undone_state inside.replica c.turn_last.new.replica inside.fed.items inside.news c.args.author inside.done.items c.turn_last.new.deeds.items inside.undone.items c.turn_last.new.others.items
    c.args.self.now c.in_ok-turned.turned c.of.result c.self.view_is c.in_ok-turned.ensures.turned c.of.ensures
