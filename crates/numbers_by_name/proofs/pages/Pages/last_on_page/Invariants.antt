use Rattle.std.proofs.Common.{◌≡◌, ℕ, ◌+◌, ◌*◌, ◌<◌, ◌≤◌, []}
use Rattle.numbers_by_name.specs.ByName.{name_by, IsBefore}
use Rattle.numbers_by_name.specs.Pages.{numbers_in}
use Rattle.numbers_by_name.proofs.pages.Pages.last_on_page.Given as goal

-- the places from here on have none
abbrev pub invariant-loop-places : goal.invariant-loop-places
invariant-loop-places l =
    (l.places ≤ 64) × ((place : ℕ) → l.places ≤ place → place < 64 → IsBefore l.before (64 * l.page.counter + place) → numbers_in l.self (name_by l.page.author (64 * l.page.counter + place)) ≡ [])

abbrev pub decreases-loop-places : goal.decreases-loop-places
decreases-loop-places l = l.places
