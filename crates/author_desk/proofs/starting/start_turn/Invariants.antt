use Rattle.std.proofs.Common.{take}
use Rattle.author_desk.specs.Lines.{slots_cut}
use Rattle.author_desk.specs.Cuts.{opening_edits, Raises}
use Rattle.author_desk.proofs.FirstTurn.{AreOpeningCuts}
use Rattle.author_desk.proofs.starting.start_turn.Given as goal

-- the lines so far are opening cuts, and their slots are raised
abbrev pub invariant-loop-index : goal.invariant-loop-index
invariant-loop-index g l =
    AreOpeningCuts (opening_edits l.fn.cuts) (take l.index l.lines) × Raises l.fn.cuts l.cuts (slots_cut (opening_edits l.fn.cuts) (take l.index l.lines))
