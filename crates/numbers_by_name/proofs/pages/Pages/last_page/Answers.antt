use Rattle.std.proofs.Common.{IsSome, refl, sym, subst}
use Rattle.numbers_by_name.proofs.Found.{if_none}
use Rattle.numbers_by_name.proofs.Last.{none_of_pages, last_of_pages, none_of_author}
use Rattle.numbers_by_name.proofs.pages.Pages.last_page.Goals as goal

pub returns-in_err-page-clause-none : goal.returns-in_err-page-clause-none
returns-in_err-page-clause-none c =
    if_none c.from_residual.result
    (none_of_pages c.args.self.now c.requires c.args.author c.args.before c.in-Some.number c.in-Some.ensures.up_to c.in-Some.ensures.before
    (λ q up_to. (c.range.ensures.in_range tt).5 c.in_err-page.ensures.steps.0 q (tt, up_to)))

pub returns-then-page-author-clause-last : goal.returns-then-page-author-clause-last
returns-then-page-author-clause-last c =
    let in_range = c.range.ensures.in_range tt in
    let here = in_range.3 (c.in_ok-page.page.now, c.in_ok-page.field-0-1.now) c.next_back.new.self c.in_ok-page.ensures.steps in
    last_of_pages c.args.self.now c.requires c.args.author c.args.before c.in-Some.number c.in-Some.ensures.up_to c.in-Some.ensures.before c.in_ok-page.page.now
    (subst IsSome (sym here.1) refl) here.0.1 (λ q up_to some. in_range.4 (c.in_ok-page.page.now, c.in_ok-page.field-0-1.now) c.next_back.new.self c.in_ok-page.ensures.steps q (tt, up_to) some)
    c.if-page-author.true

pub returns-else-page-author-clause-none : goal.returns-else-page-author-clause-none
returns-else-page-author-clause-none c =
    let in_range = c.range.ensures.in_range tt in
    let here = in_range.3 (c.in_ok-page.page.now, c.in_ok-page.field-0-1.now) c.next_back.new.self c.in_ok-page.ensures.steps in
    none_of_author c.args.self.now c.requires c.args.author c.args.before c.in-Some.number c.in-Some.ensures.up_to c.in-Some.ensures.before c.in_ok-page.page.now
    (subst IsSome (sym here.1) refl) here.0.1 (λ q up_to some. in_range.4 (c.in_ok-page.page.now, c.in_ok-page.field-0-1.now) c.next_back.new.self c.in_ok-page.ensures.steps q (tt, up_to) some)
    c.if-page-author.false
