-- What C is told of how a call ended.
use Rattle.std.specs.Prelude.{ℕ, Bool, true, false, ◌==◌, ◌||◌}
use Rattle.grove_edits.specs.declared.answer.Answer.{Answer}
use Rattle.grove_edits.specs.declared.answer.Answer.TheVariants.{Refused}
use Rattle.grove_editor.specs.declared.reply.Reply.{Reply}
use Rattle.grove_editor.specs.declared.reply.Reply.TheVariants.{Unasked, Answered, Undone, Redone, NothingToTurn, NotTurned}
use Rattle.grove_c.specs.declared.code.TheConstants.{DONE, REFUSED, MALFORMED, NO_MEMORY, NO_AUTHOR, NOTHING}

abbrev pub answer_code : Answer → ℕ
answer_code (Refused fault) = REFUSED
answer_code _ = DONE

-- what the reply of an editor came to
abbrev pub reply_code : Reply → ℕ
reply_code (Answered answer) = answer_code answer
reply_code (NotTurned fault) = REFUSED
reply_code NothingToTurn = NOTHING
reply_code _ = DONE

-- the call was not made, and there is no reply to it
abbrev pub is_fault : ℕ → Bool
is_fault code = (code == MALFORMED) || ((code == NO_MEMORY) || (code == NO_AUTHOR))
