use Rattle.std.proofs.Common.{ℕ, subst}
use Rattle.session_script.specs.Action.{IsAuthor}
use Rattle.grove_editor.specs.Acted.{HasActed}
use Rattle.grove_editor.proofs.editor.Editor.act.Goals as goal

pub returns-clause-acted : goal.returns-clause-acted
returns-clause-acted c =
    let action = c.in-Some-read_action.action in (
      action,
      c.in-Some-read_action.ensures.found,
      subst IsAuthor c.in-Some.ensures.found c.in-Some.ensures.author,
      subst (λ (author : ℕ). HasActed author action c.args.self.now c.make.new.self) c.in-Some.ensures.found c.in_ok-make.ensures.acted,
    )
