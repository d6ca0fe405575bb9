use Rattle.std.proofs.Common.{◌≡◌, ℕ, ◌<◌, ◌+◌, List, length, get_or, drop, Option, None, Some, refl, false, sym, ap, subst, ◌∙◌, arith}
use Rattle.std.proofs.lemmas.Bool.Decides.{nat_tests}
use Rattle.std.proofs.lemmas.List.{get_or-replicate}
use Rattle.numbers_by_name.specs.declared.page.Entry.{Entry}
use Rattle.numbers_by_name.specs.Pages.{entry_at}
use Rattle.numbers_by_name.proofs.Found.{or_else, set_length, free_from_test, passed_over, passed_taken, laid}
use Rattle.numbers_by_name.proofs.on_page.by_place.Goals as goal
use Rattle.numbers_by_name.proofs.on_page.by_place.Goals.{then-place-lt64+then-is_none, else-place-lt64, else-place-lt64-via-then-place-lt64+else-is_none, else-place-lt64-via-else-place-lt64}

pub loop-entry-init : goal.loop-entry-init
loop-entry-init c = (refl, λ place lt. ap (λ o. or_else o (entry_at place c.args.entries.now)) (get_or-replicate 64 place None None lt))

abbrev no_entry : Entry
no_entry = record { place = 0; several = false; number = 0 }

-- the places after an entry, where they are these
module _ (c : goal.Joined-place-lt64) where
  abbrev Goes : List (Option Entry) → Type 0
  Goes places = (length places ≡ 64) × ((place : ℕ) → place < 64 → or_else (get_or places place None) (entry_at place (drop (c.loop-entry.entry-index + 1) c.args.entries.now)) ≡ entry_at place c.args.entries.now)

  abbrev before : List (Option Entry)
  before = c.loop-entry.places

pub loop-entry-preserved : goal.loop-entry-preserved
loop-entry-preserved c =
    let entries = c.args.entries.now in
    let index = c.loop-entry.entry-index in
    let entry = get_or entries index no_entry in
    elim c.if-place-lt64.branch [
      | then-place-lt64+then-is_none w ↦ subst (Goes c) (sym w.places-is) (
        set_length (before c) entry.place (Some entry) ∙ c.loop-entry.invariant.0,
        λ place lt. laid (before c) entries index no_entry c.loop-entry-test.true place (c.loop-entry.invariant.1 place lt) c.loop-entry.invariant.0 w.if-place-lt64.true (free_from_test (get_or (before c) entry.place None) w.if-is_none.ensures),
      )
      | else-place-lt64 w ↦ elim w.else-place-lt64.branch [
        | else-place-lt64-via-then-place-lt64+else-is_none v ↦ subst (Goes c) (sym w.places-is) (
          c.loop-entry.invariant.0,
          λ place lt. passed_taken (before c) entries index no_entry c.loop-entry-test.true place (c.loop-entry.invariant.1 place lt) v.if-is_none.ensures,
        )
        | else-place-lt64-via-else-place-lt64 v ↦ subst (Goes c) (sym w.places-is) (
          c.loop-entry.invariant.0,
          λ place lt. passed_over (before c) entries index no_entry c.loop-entry-test.true place (c.loop-entry.invariant.1 place lt)
              (λ none. let past = v.if-place-lt64.false in grind (arith, nat_tests, lt, past)),
        )
      ]
    ]
