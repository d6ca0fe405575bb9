use Rattle.std.proofs.Common.{ℕ, [], ◌∷◌, ◌++◌, length, refl, ap, ◌∙◌, arith}
use Rattle.session_answers.specs.Numbers.{numbers_behind}
use Rattle.session_answers.proofs.Numbers.{fits_at, one_counted, all_counted}
use Rattle.session_answers.proofs.counting.count_lines.Goals as goal

pub number_behind-requires : goal.number_behind-requires
number_behind-requires c = fits_at (length c.args.lines.now) c.args.calls.now c.loop-index.index 0 c.loop-index-test.true c.requires.room

pub loop-index-preserved : goal.loop-index-preserved
loop-index-preserved c =
    let lines = c.args.lines.now in
    let authors = c.args.authors.now in
    let calls = c.args.calls.now in
    let done = c.loop-index.behind.items in
    let many = c.requires.calls in
    let test = c.loop-index-test.true in
    one_counted lines authors calls done c.push.new.self.items (numbers_behind lines authors calls) c.loop-index.index 0 _ _ c.requires.calls (omega arith) refl c.loop-index.invariant
    (c.in_ok-push.ensures.items ∙ ap (λ (n : ℕ). done ++ n ∷ []) c.number_behind.ensures)

pub returns : goal.returns
returns c =
    let lines = c.args.lines.now in
    let authors = c.args.authors.now in
    let calls = c.args.calls.now in
    let many = c.requires.calls in
    let test = c.loop-index-test.false in
    all_counted lines authors calls c.loop-index.behind.items (numbers_behind lines authors calls) c.loop-index.index (omega arith) c.loop-index.invariant
