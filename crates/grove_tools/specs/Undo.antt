-- What `undo` makes of a text.
use Rattle.std.specs.Prelude.{◌≡◌, ℕ, false, List}
use Rattle.session_script.specs.declared.session.Session.{Session}
use Rattle.session_script.specs.Session.{Spells}
use Rattle.undo_answers.specs.Fit.{IsFit, is_fit}
use Rattle.undo_answers.specs.UndoText.{IsUndoText}

-- the text spells a session at one replica in which nothing is sent
pub record SpellsFit (text : List ℕ) : Type 0 where
  pub session : Session
  pub spelled : Spells text session
  pub fit : IsFit session

-- the text spells another session
pub record SpellsUnfit (text : List ℕ) : Type 0 where
  pub session : Session
  pub spelled : Spells text session
  pub unfit : is_fit session ≡ false

-- the author's last action that was not refused in the session is undone, where there is one and it can be
pub record IsUndoOf (author : ℕ) (text answer : List ℕ) : Type 0 where
  pub session : SpellsFit text
  pub undone : IsUndoText session.session author answer
