-- What is written of the entries of a journal.
-- The promise of the commands rests on these definitions.
use Rattle.std.specs.Prelude.{ℕ, List, [], ◌∷◌, ◌++◌, codes, decimal}
use Rattle.edit_text.specs.Line.{spaced}
use Rattle.grove_edits.specs.declared.actor.Actor.{Actor}
use Rattle.grove_edits.specs.declared.actor.Actor.TheVariants.{Author, Send}
use Rattle.grove_edits.specs.declared.answer.Answer.{Answer}
use Rattle.grove_edits.specs.declared.command.Command.{Command}
use Rattle.grove_edits.specs.declared.command.Command.TheVariants.{Act, Take}
use Rattle.shared_replica.specs.declared.journal.Entry.{Entry}
use Rattle.session_script.specs.Action.{action_line}
use Rattle.answer_words.specs.Answer.{answer_parts, answer_text}

-- an author's entry is the author's line and the answer; a piece's is the number of its `send` line, its own, and the answer
abbrev pub entry_line : Actor → Command → Answer → List ℕ
entry_line (Author author) (Act action) answer = action_line author action ++ (codes " = " ++ answer_text answer)
entry_line (Send number) (Take piece bytes edits) answer = spaced (codes "send" ∷ decimal number ∷ codes "piece" ∷ decimal piece ∷ answer_parts answer)
entry_line actor command answer = []

module _ {M E : Type 0} where
  abbrev pub entry_text : Entry M Command E Answer → List ℕ
  entry_text entry = entry_line entry.actor entry.command entry.reply ++ 10 ∷ []
