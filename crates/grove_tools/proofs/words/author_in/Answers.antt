use Rattle.std.proofs.Common.{◌≡◌, ◌<◌, ◌^◌, sym, ◌∙◌, arith}
use Rattle.grove_calls.proofs.Numbers.{one_number}
use Rattle.grove_tools.proofs.words.author_in.Goals as goal

pub returns-then-author-clause-none : goal.returns-then-author-clause-none
returns-then-author-clause-none c = λ author word number some few.
    let small : author < 2 ^ 64 = omega arith in
    let same : c.in_ok-author.author ≡ author = one_number c.args.number.now c.in_ok-author.author author (omega arith) small (sym c.as_bytes.ensures.value ∙ c.in_ok-author.ensures.found) number in
    omega arith

pub returns-then-author-lt1-clause-none : goal.returns-then-author-lt1-clause-none
returns-then-author-lt1-clause-none c = λ author word number some few.
    let small : author < 2 ^ 64 = omega arith in
    let same : c.in_ok-author.author ≡ author = one_number c.args.number.now c.in_ok-author.author author (omega arith) small (sym c.as_bytes.ensures.value ∙ c.in_ok-author.ensures.found) number in
    omega arith
