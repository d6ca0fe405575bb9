use Rattle.std.proofs.Common.{◌≡◌, ◌≢◌, ℕ, [], sym, ap, subst, ◌∙◌}
use Rattle.numbers_by_name.specs.ByName.{numbers_of, name_by}
use Rattle.numbers_by_name.specs.Pages.{numbers_in}
use Rattle.numbers_by_name.proofs.Found.{if_some, if_none_some}
use Rattle.numbers_by_name.proofs.Last.{only_last}
use Rattle.numbers_by_name.proofs.Listed.{numbers_listed}
use Rattle.numbers_by_name.proofs.numbers_by_name.NumbersByName.last_before.Goals as goal

numbers_are : (c : goal.After-last_before) (counter : ℕ) → numbers_of c.args.self.now (name_by c.args.author counter) ≡ numbers_in c.self.inside.pages (name_by c.args.author counter)
numbers_are c counter = ap (λ lists. numbers_of lists (name_by c.args.author counter)) (sym c.self.view_is) ∙ numbers_listed c.self.inside.pages (name_by c.args.author counter)

pub returns-clause-counter : goal.returns-clause-counter
returns-clause-counter c =
    if_some _ _ c.last_before.result
    (λ found last. record {
      before = last.before;
      numbers = subst (λ ns. ns ≢ []) (sym (numbers_are c found.0)) last.has;
      no_greater = λ d before has. last.no_greater d before (subst (λ ns. ns ≢ []) (numbers_are c d) has);
    })
    c.last_before.ensures.last

pub returns-clause-numbers : goal.returns-clause-numbers
returns-clause-numbers c = if_some _ _ c.last_before.result (λ found same. same ∙ sym (numbers_are c found.0)) c.last_before.ensures.numbers

pub returns-clause-none : goal.returns-clause-none
returns-clause-none c = if_none_some c.last_before.result (λ none counter before. numbers_are c counter ∙ none counter before) c.last_before.ensures.none

pub returns-clause-only : goal.returns-clause-only
returns-clause-only c counter last =
    only_last c.args.self.now c.args.author c.args.before c.last_before.result (returns-clause-counter c) (returns-clause-none c) counter last
