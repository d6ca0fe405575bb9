use Rattle.std.proofs.Common.{rules, ◌≡◌, ℕ}
use Rattle.session_script.specs.Action.{IsAuthor}
use Rattle.grove_editor.specs.State.{State}
use Rattle.grove_editor.specs.Turned.{HasUndone}
use Rattle.grove_c.proofs.Passing.{passed}
use Rattle.grove_c.proofs.acting.undo.Goals as goal

pub returns-clause-undone : goal.returns-clause-undone
returns-clause-undone c =
    let author : c.from.result ≡ c.args.author = search rules in
    let before : c.opened.inside.editor ≡ c.args.held.editor = search rules in
    passed c.undo-undone.result (λ (n : ℕ) (old new : State). IsAuthor n × HasUndone n old new) c.from.result c.args.author c.opened.inside.editor c.args.held.editor c.undo-undone.new.self c.of.result.editor
    author before c.of.ensures c.undo-undone.ensures.undone
