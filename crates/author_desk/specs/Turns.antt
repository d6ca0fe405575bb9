-- In which turns the lines of an author are entered: a cut of opening edges goes with the line behind it.
use Rattle.std.specs.Prelude.{◌≡◌, if◌then◌else◌, false, IsTrue, List, [], ◌∷◌, map}
use mathlib.Core.List.{IsPrefix}
use Rattle.grove_edits.specs.declared.action.Action.{Action}
use Rattle.grove_edits.specs.declared.command.Command.{Command}
use Rattle.grove_edits.specs.declared.command.Command.TheVariants.{Act}
use Rattle.grove_edits.specs.declared.edit.Edit.{Edit}
use Rattle.shared_replica.specs.Passes.{Call, Passing, EntersInTurns, all_calls}
use Rattle.author_desk.specs.Lines.{is_opening_cut}

-- the turns, with a line more at the front of the first one, or in a turn of its own where there is none
abbrev pub in_first_turn : Action → List (List Action) → List (List Action)
in_first_turn line [] = (line ∷ []) ∷ []
in_first_turn line (turn ∷ turns) = (line ∷ turn) ∷ turns

-- the lines, as turns: each is a run of opening cuts and the line behind it, and the last one may be such a run alone
abbrev pub turns_of : List Edit → List Action → List (List Action)
turns_of opening [] = []
turns_of opening (line ∷ lines) = if is_opening_cut opening line then in_first_turn line (turns_of opening lines) else (line ∷ []) ∷ turns_of opening lines

-- opening cuts, and then one line, which may be such a cut too
abbrev pub IsTurn : List Edit → List Action → Type 0
IsTurn opening [] = ⊥
IsTurn opening (line ∷ []) = Unit {0}
IsTurn opening (line ∷ next ∷ lines) = IsTrue (is_opening_cut opening line) × IsTurn opening (next ∷ lines)

-- the last line is no opening cut
abbrev pub EndsAtOther : List Edit → List Action → Type 0
EndsAtOther opening [] = ⊥
EndsAtOther opening (line ∷ []) = is_opening_cut opening line ≡ false
EndsAtOther opening (line ∷ next ∷ lines) = EndsAtOther opening (next ∷ lines)

-- each turn but the last ends at a line that is no opening cut
abbrev pub AreLongest : List Edit → List (List Action) → Type 0
AreLongest opening [] = Unit {0}
AreLongest opening (turn ∷ []) = Unit {0}
AreLongest opening (turn ∷ next ∷ turns) = EndsAtOther opening turn × AreLongest opening (next ∷ turns)

abbrev pub commands_of : {R : Type 0} → List (Call Command R) → List Command
commands_of calls = map (λ call. call.command) calls

module _ {M E R : Type 0} where
  -- the pass entered the lines, each turn of them by one turn
  abbrev pub EntersLines : Passing M Command E R → Passing M Command E R → List Edit → List Action → Type 0
  EntersLines before after opening lines =
      (turns : List (List (Call Command R))) × (map commands_of turns ≡ map (map Act) (turns_of opening lines)) × EntersInTurns before after turns

  -- the pass entered the first of the lines, perhaps all or none, and nothing else
  abbrev pub EntersFirstLines : Passing M Command E R → Passing M Command E R → List Action → Type 0
  EntersFirstLines before after lines =
      (turns : List (List (Call Command R))) × IsPrefix (commands_of (all_calls turns)) (map Act lines) × EntersInTurns before after turns
