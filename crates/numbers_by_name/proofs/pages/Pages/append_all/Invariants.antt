use Rattle.std.proofs.Common.{◌≡◌, ◌++◌}
use Rattle.numbers_by_name.specs.ByName.{all_numbers}
use Rattle.numbers_by_name.specs.Pages.{numbers_in, names_listed}
use Rattle.numbers_by_name.proofs.pages.Pages.append_all.Given as goal

-- the numbers so far, and then those of the pages that are left, are all
abbrev pub invariant-loop-page : goal.invariant-loop-page
invariant-loop-page l =
    l.numbers.items ++ all_numbers (names_listed (numbers_in l.self) l.page-iterator)
    ≡ l.initial.numbers.items ++ all_numbers (names_listed (numbers_in l.self) l.initial.page-iterator)
