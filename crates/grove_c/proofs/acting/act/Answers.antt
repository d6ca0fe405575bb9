use Rattle.std.proofs.Common.{rules, ◌≡◌, ℕ}
use Rattle.edit_text.specs.Line.{spaced}
use Rattle.session_script.specs.Action.{IsAuthor, action_parts}
use Rattle.grove_edits.specs.declared.action.Action.{Action}
use Rattle.grove_editor.specs.State.{State}
use Rattle.grove_editor.specs.Acted.{HasActed}
use Rattle.grove_c.proofs.Passing.{passed}
use Rattle.grove_c.proofs.acting.act.Goals as goal

pub returns-clause-acted : goal.returns-clause-acted
returns-clause-acted c =
    let author : c.from.result ≡ c.args.given.0 = search rules in
    let before : c.opened.inside.editor ≡ c.args.held.editor = search rules in
    passed c.act-acted.result
    (λ (n : ℕ) (old new : State). (action : Action) × (c.args.given.1.now ≡ spaced (action_parts action)) × IsAuthor n × HasActed n action old new)
    c.from.result c.args.given.0 c.opened.inside.editor c.args.held.editor c.act-acted.new.self c.of.result.editor
    author before c.of.ensures c.act-acted.ensures.acted
