use Rattle.std.proofs.Common.{◌≡◌, ℕ, ◌≤◌, drop}
use Rattle.numbers_by_name.specs.Pages.{entry_at}
use Rattle.numbers_by_name.proofs.on_page.places_used.Given as goal

-- no entry so far stands at one of the places behind
abbrev pub invariant-loop-entry : goal.invariant-loop-entry
invariant-loop-entry l =
    (l.used ≤ 256) × ((place : ℕ) → l.used ≤ place → entry_at place (drop l.entry-index l.entries) ≡ entry_at place l.entries)
