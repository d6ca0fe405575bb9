use Rattle.std.proofs.Common.{◌≡◌, ◌++◌}
use Rattle.numbers_by_name.specs.ByName.{all_numbers}
use Rattle.numbers_by_name.specs.Pages.{page_numbers, names_on}
use Rattle.numbers_by_name.proofs.on_page.append_page.Given as goal

-- those of the places so far stand behind the others
abbrev pub invariant-loop-place : goal.invariant-loop-place
invariant-loop-place l = l.numbers.items ≡ l.initial.numbers.items ++ all_numbers (names_on (page_numbers l.page l.lists.entries) l.page.name l.place)
