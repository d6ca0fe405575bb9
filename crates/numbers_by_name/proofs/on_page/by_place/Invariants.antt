use Rattle.std.proofs.Common.{◌≡◌, ℕ, ◌<◌, get_or, drop, length, None}
use Rattle.numbers_by_name.specs.Pages.{entry_at}
use Rattle.numbers_by_name.proofs.Found.{or_else}
use Rattle.numbers_by_name.proofs.on_page.by_place.Given as goal

-- what stands at a place, or else is the first among what is left, is the first of all
abbrev pub invariant-loop-entry : goal.invariant-loop-entry
invariant-loop-entry l =
    (length l.places ≡ 64) × ((place : ℕ) → place < 64 → or_else (get_or l.places place None) (entry_at place (drop l.entry-index l.entries)) ≡ entry_at place l.entries)
