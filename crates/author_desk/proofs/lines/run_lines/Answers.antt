use Rattle.std.proofs.Common.{◌≡◌, List, [], ◌∷◌, length, length-append, refl, ap, ◌∙◌, arith}
use Rattle.author_desk.specs.Lines.{slots_cut}
use Rattle.author_desk.specs.Cuts.{opening_edits}
use Rattle.author_desk.proofs.Raising.{keeps_seat}
use Rattle.author_desk.proofs.UnderWay.{lengths, begins, goes_on, enters_first, raises_first, turns_same, ends_entered, ends_raised, ends_made, ends_left}
use Rattle.grove_sorts.proofs.Truths.{after_error}
use Rattle.author_desk.proofs.lines.run_lines.Goals as goal

nothing : {X : Type 0} (xs : List X) → length xs ≡ 0 → xs ≡ []
nothing [] none = refl
nothing (x ∷ xs) none = absurd (omega arith)

pub loop-left-init : goal.loop-left-init
loop-left-init g c = (begins c.args.pass.now c.args.cuts.now c.args.lines.now c.requires.calls, refl)

pub enter-requires-clause-shared : goal.enter-requires-clause-shared
enter-requires-clause-shared g c κs within =
    let u = c.loop-left.invariant.0 in
    (turns_same c.args.pass.now c.loop-left.pass u.turns u.entered).0 ∙ c.requires.shared

pub start_turn-requires-clause-asked : goal.start_turn-requires-clause-asked
start_turn-requires-clause-asked g c κs within = λ number low high.
    let u = c.loop-left.invariant.0 in
    let calls = c.loop-left.invariant.1 in
    let all = ap length u.split in
    let both = length-append u.done c.loop-left.left.now in
    c.requires.asked number (omega (arith, low, high, calls, all, both)) (omega (arith, low, high, calls, all, both))

pub loop-left-preserved : goal.loop-left-preserved
loop-left-preserved g c =
    let s = c.start_turn.ensures.started in
    let calls = c.loop-left.invariant.1 in
    let parts = lengths c.loop-left.cuts c.start_turn.new.cuts c.loop-left.left.now c.start_turn.result.0.now c.start_turn.result.1.now s in (
      goes_on c.args.pass.now c.loop-left.pass c.enter.new.pass c.args.cuts.now c.loop-left.cuts c.start_turn.new.cuts c.args.lines.now c.loop-left.left.now c.start_turn.result.0.now c.start_turn.result.1.now c.requires.cuts
          c.loop-left.invariant.0 s c.in_ok-enter.ensures.entered,
      omega arith,
    )

pub returns-in_err-enter-clause-entered_first : goal.returns-in_err-enter-clause-entered_first
returns-in_err-enter-clause-entered_first g c =
    after_error c.from_residual.result
    (enters_first c.args.pass.now c.loop-left.pass c.enter.new.pass c.args.cuts.now c.loop-left.cuts c.args.lines.now c.loop-left.left.now c.start_turn.result.0.now c.start_turn.result.1.now c.loop-left.invariant.0
    c.start_turn.ensures.started.split c.in_err-enter.ensures.first)

pub returns-in_err-enter-clause-raised_first : goal.returns-in_err-enter-clause-raised_first
returns-in_err-enter-clause-raised_first g c =
    after_error c.from_residual.result
    (raises_first c.args.pass.now c.loop-left.pass c.args.cuts.now c.loop-left.cuts c.start_turn.new.cuts c.args.lines.now c.loop-left.left.now c.start_turn.result.0.now c.start_turn.result.1.now c.requires.cuts
    c.loop-left.invariant.0 c.start_turn.ensures.started)

pub returns-in_err-enter-clause-kept : goal.returns-in_err-enter-clause-kept
returns-in_err-enter-clause-kept g c =
    let h = raises_first c.args.pass.now c.loop-left.pass c.args.cuts.now c.loop-left.cuts c.start_turn.new.cuts c.args.lines.now c.loop-left.left.now c.start_turn.result.0.now c.start_turn.result.1.now c.requires.cuts
    c.loop-left.invariant.0 c.start_turn.ensures.started in
    keeps_seat c.args.cuts.now c.start_turn.new.cuts (slots_cut (opening_edits c.args.cuts.now) h.0) h.2

pub returns-clause-kept : goal.returns-clause-kept
returns-clause-kept g c =
    let u = c.loop-left.invariant.0 in
    keeps_seat c.args.cuts.now c.loop-left.cuts (slots_cut (opening_edits c.args.cuts.now) u.done) u.raised

pub returns-in_err-enter-clause-same : goal.returns-in_err-enter-clause-same
returns-in_err-enter-clause-same g c =
    let h = enters_first c.args.pass.now c.loop-left.pass c.enter.new.pass c.args.cuts.now c.loop-left.cuts c.args.lines.now c.loop-left.left.now c.start_turn.result.0.now c.start_turn.result.1.now c.loop-left.invariant.0
    c.start_turn.ensures.started.split c.in_err-enter.ensures.first in
    turns_same c.args.pass.now c.enter.new.pass h.0 h.2

pub returns-clause-same : goal.returns-clause-same
returns-clause-same g c = let u = c.loop-left.invariant.0 in turns_same c.args.pass.now c.loop-left.pass u.turns u.entered

pub returns-clause-entered : goal.returns-clause-entered
returns-clause-entered g c =
    ends_entered c.args.pass.now c.loop-left.pass c.args.cuts.now c.loop-left.cuts c.args.lines.now c.loop-left.left.now c.loop-left.invariant.0 (nothing c.loop-left.left.now (grind arith))

pub returns-clause-raised : goal.returns-clause-raised
returns-clause-raised g c =
    ends_raised c.args.pass.now c.loop-left.pass c.args.cuts.now c.loop-left.cuts c.args.lines.now c.loop-left.left.now c.loop-left.invariant.0 (nothing c.loop-left.left.now (grind arith))

pub returns-clause-made : goal.returns-clause-made
returns-clause-made g c =
    ends_made c.args.pass.now c.loop-left.pass c.args.cuts.now c.loop-left.cuts c.args.lines.now c.loop-left.left.now c.loop-left.invariant.0 (nothing c.loop-left.left.now (grind arith))

pub returns-clause-left : goal.returns-clause-left
returns-clause-left g c =
    ends_left c.args.pass.now c.loop-left.pass c.args.cuts.now c.loop-left.cuts c.args.lines.now c.loop-left.left.now c.loop-left.invariant.0 (nothing c.loop-left.left.now (grind arith))
