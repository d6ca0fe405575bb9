-- The step of a machine that gathers what it takes.
use Rattle.std.specs.Prelude.{List, ◌++◌, length}
use Rattle.grove_edits.specs.declared.edit.Edit.{Edit}
use Rattle.grove_edits.specs.declared.actor.Actor.{Actor}
use Rattle.grove_edits.specs.declared.answer.Answer.{Answer}
use Rattle.grove_edits.specs.declared.answer.Answer.TheVariants.{Taken}
use Rattle.edit_runs.specs.declared.piece.Piece.{Piece}

-- the edits that were taken, with those of a piece behind them
abbrev pub after : List Edit → Actor → Piece → List Edit
after taken actor piece = taken ++ piece.edits

-- the edits of a step are those of the piece, whoever the actor is
abbrev pub effect : List Edit → Actor → Piece → List Edit
effect taken actor piece = piece.edits

-- and what is answered is how many these are
abbrev pub reply : List Edit → Actor → Piece → Answer
reply taken actor piece = Taken (length piece.edits)
