use Rattle.std.proofs.Common.{refl, ap, subst, ◌∙◌}
use Rattle.grove_edits.specs.declared.answer.Answer.{Answer}
use Rattle.grove_edits.specs.Graph.{graph}
use Rattle.user_actions.specs.Plan.{IsPlan}
use Rattle.grove_editor.specs.declared.reply.Reply.TheVariants.{Answered}
use Rattle.grove_editor.proofs.States.{refused_state, made_state, made_kept}
use Rattle.grove_editor.proofs.editor.Editor.make.Goals as goal

pub returns-in-Refused-clause-acted : goal.returns-in-Refused-clause-acted
returns-in-Refused-clause-acted c =
    let inside = c.self.inside in
    let edits = c.in_ok-edits.edits in
    let plan = subst (λ (a : Answer). IsPlan (graph inside.replica.edits) inside.replica.opening c.args.author c.args.action.now edits a) c.in-Refused.is c.in_ok-edits.ensures.plan in
    refused_state inside.replica inside.fed.items inside.done.items inside.undone.items inside.news c.args.self.now c.self.view_is c.self.invariant c.args.author c.args.action.now edits c.in-Refused.field-0
    c.told.result plan (c.told.ensures.reply ∙ ap Answered c.in-Refused.is) c.told.ensures.none c.told.ensures.same

pub invariant_of-self-2 : goal.invariant_of-self-2
invariant_of-self-2 c =
    let inside = c.self.inside in
    made_kept inside.replica inside.fed.items inside.done.items inside.undone.items inside.news c.args.self.now c.self.view_is c.self.invariant c.args.author c.args.action.now c.do_deed.new.replica
    c.do_deed.new.deeds.items c.forget.new.deeds.items c.in_ok-edits.edits c.in_ok-changed.changed.items c.in_ok-changed.ensures.done c.forget.ensures

pub returns : goal.returns
returns c =
    let inside = c.self.inside in
    record {
      acted =
          made_state inside.replica inside.fed.items inside.done.items inside.undone.items inside.news c.args.self.now c.self.view_is c.self.invariant c.args.author c.args.action.now c.do_deed.new.replica
          c.do_deed.new.deeds.items c.forget.new.deeds.items c.in_ok-edits.edits c.in_ok-edits.answer
          (record { reply = Answered c.in_ok-edits.answer; made = c.in_ok-edits.edits; changed = c.in_ok-changed.changed }) c.in_ok-edits.ensures.plan c.in_default.not-Refused c.in_ok-changed.ensures.done
          c.forget.ensures refl refl;
      unchanged = tt;
    }
