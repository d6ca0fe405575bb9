use Rattle.std.proofs.Common.{◌++◌, sym, ap, ◌∙◌}
use Rattle.std.proofs.lemmas.List.{append_assoc}
use Rattle.numbers_by_name.specs.ByName.{all_numbers}
use Rattle.numbers_by_name.specs.Pages.{numbers_in, names_on, names_listed}
use Rattle.numbers_by_name.proofs.Listed.{all_append}
use Rattle.numbers_by_name.proofs.pages.Pages.append_all.Goals as goal

pub loop-page-preserved : goal.loop-page-preserved
loop-page-preserved c =
    let numbers = numbers_in c.args.self.now in
    let before = c.loop-page.numbers.items in
    let left = names_listed numbers c.next.new.self in
    let page = names_on numbers c.in-Some.page.now 64 in
    ap (λ ns. ns ++ all_numbers left) c.in_ok-append.ensures ∙ append_assoc before (all_numbers page) (all_numbers left)
    ∙ ap (λ ns. before ++ ns) (sym (all_append left page)) ∙ ap (λ pages. before ++ all_numbers (names_listed numbers pages)) (sym c.in-Some.ensures.steps)
    ∙ c.loop-page.invariant
