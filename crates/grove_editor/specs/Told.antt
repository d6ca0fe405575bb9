-- The lines of replies.
use Rattle.std.specs.Prelude.{ℕ, List, [], ◌∷◌, ◌++◌, codes, decimal}
use Rattle.answer_words.specs.Answer.{answer_text}
use Rattle.undo_answers.specs.UndoText.{nothing_line, refused_line, undone_line}
use Rattle.grove_editor.specs.declared.reply.Reply.{Reply}
use Rattle.grove_editor.specs.declared.reply.Reply.TheVariants.{Unasked, Answered, Undone, Redone, NothingToTurn, NotTurned}

abbrev pub redone_line : ℕ → List ℕ
redone_line count = codes "redone " ++ (decimal count ++ 10 ∷ [])

-- the words of an answer as journals have them, or those of `undo`
abbrev pub reply_text : Reply → List ℕ
reply_text Unasked = []
reply_text (Answered answer) = answer_text answer ++ 10 ∷ []
reply_text (Undone edits) = undone_line edits
reply_text (Redone edits) = redone_line edits
reply_text NothingToTurn = nothing_line
reply_text (NotTurned fault) = refused_line fault
