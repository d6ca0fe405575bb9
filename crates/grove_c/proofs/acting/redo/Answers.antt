use Rattle.std.proofs.Common.{rules, ◌≡◌, ℕ}
use Rattle.session_script.specs.Action.{IsAuthor}
use Rattle.grove_editor.specs.State.{State}
use Rattle.grove_editor.specs.Turned.{HasRedone}
use Rattle.grove_c.proofs.Passing.{passed}
use Rattle.grove_c.proofs.acting.redo.Goals as goal

pub returns-clause-redone : goal.returns-clause-redone
returns-clause-redone c =
    let author : c.from.result ≡ c.args.author = search rules in
    let before : c.opened.inside.editor ≡ c.args.held.editor = search rules in
    passed c.redo-redone.result (λ (n : ℕ) (old new : State). IsAuthor n × HasRedone n old new) c.from.result c.args.author c.opened.inside.editor c.args.held.editor c.redo-redone.new.self c.of.result.editor
    author before c.of.ensures c.redo-redone.ensures.redone
