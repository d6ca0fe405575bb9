use Rattle.std.proofs.Common.{◌≡◌, ◌<◌, ◌^◌, sym, ◌∙◌, arith}
use Rattle.grove_calls.proofs.Numbers.{one_number}
use Rattle.grove_tools.proofs.words.senders_in.Goals as goal

pub returns-then-senders-clause-none : goal.returns-then-senders-clause-none
returns-then-senders-clause-none c = λ senders word number some few.
    let small : senders < 2 ^ 64 = omega arith in
    let same : c.in_ok-senders.senders ≡ senders = one_number c.args.number.now c.in_ok-senders.senders senders (omega arith) small (sym c.as_bytes.ensures.value ∙ c.in_ok-senders.ensures.found) number in
    omega arith

pub returns-then-senders-lt1-clause-none : goal.returns-then-senders-lt1-clause-none
returns-then-senders-lt1-clause-none c = λ senders word number some few.
    let small : senders < 2 ^ 64 = omega arith in
    let same : c.in_ok-senders.senders ≡ senders = one_number c.args.number.now c.in_ok-senders.senders senders (omega arith) small (sym c.as_bytes.ensures.value ∙ c.in_ok-senders.ensures.found) number in
    omega arith
