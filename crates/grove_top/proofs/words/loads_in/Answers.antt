use Rattle.std.proofs.Common.{◌≡◌, ◌<◌, ◌^◌, sym, ◌∙◌, arith}
use Rattle.grove_calls.proofs.Numbers.{one_number}
use Rattle.grove_top.proofs.words.loads_in.Goals as goal

pub returns-then-loads-gt-MOST_LOADS-clause-none : goal.returns-then-loads-gt-MOST_LOADS-clause-none
returns-then-loads-gt-MOST_LOADS-clause-none c = λ loads word number some few.
    let small : loads < 2 ^ 64 = omega arith in
    let same : c.in_ok-loads.loads ≡ loads = one_number c.args.number.now c.in_ok-loads.loads loads (omega arith) small (sym c.as_bytes.ensures.value ∙ c.in_ok-loads.ensures.found) number in
    omega arith

pub returns-then-loads-lt1-clause-none : goal.returns-then-loads-lt1-clause-none
returns-then-loads-lt1-clause-none c = λ loads word number some few.
    let small : loads < 2 ^ 64 = omega arith in
    let same : c.in_ok-loads.loads ≡ loads = one_number c.args.number.now c.in_ok-loads.loads loads (omega arith) small (sym c.as_bytes.ensures.value ∙ c.in_ok-loads.ensures.found) number in
    omega arith
