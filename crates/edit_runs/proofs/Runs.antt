-- Lists of edits in runs, and the entries that hand them on.
use Rattle.std.proofs.Common.{◌≡◌, ℕ, zero, suc, ◌+◌, ◌≤◌, List, [], ◌∷◌, ◌++◌, map, length, refl, sym, ap, ◌∙◌, subst, arith, append-nil, length-append, length-take, ◌<◌, ◌-◌, take, drop, get_or, slice_range}
use Rattle.std.specs.Prelude.{slice_get, Some}
use Rattle.std.specs.List.{AllByRecursion}
use Rattle.std.proofs.lemmas.Grind.{flat_map-append}
use Rattle.std.proofs.lemmas.List.{take_more}
use Rattle.grove_edits.specs.declared.edit.Edit.{Edit}
use Rattle.grove_edits.specs.declared.actor.Actor.TheVariants.{Send}
use Rattle.shared_replica.specs.declared.journal.Entry.{Entry}
use Rattle.live_relay.specs.Parcels.{IsNumber}
use Rattle.live_relay.specs.Flow.{AreEntriesOf, commands_from}
use Rattle.edit_runs.specs.declared.piece.Piece.{Piece}
use Rattle.edit_runs.specs.declared.stretch.Stretch.{Stretch}
use Rattle.edit_runs.specs.Stretch.{edits_in, piece_of}
use Rattle.edit_runs.specs.Runs.{joined, IsShort, AreRunsOf, AreCut, pieces_from, AreEntriesInRuns}

pub joined-push : (runs : List (List Edit)) (run : List Edit) → joined (runs ++ run ∷ []) ≡ joined runs ++ run
joined-push runs run = flat_map-append (λ r. r) runs (run ∷ []) ∙ ap (λ (es : List Edit). joined runs ++ es) (append-nil run)

-- the runs up to an index, with the one that stands there
pub next_run : (runs : List (List Edit)) (index : ℕ) (run : List Edit) → index < length runs → run ≡ get_or runs index run → joined (take (index + 1) runs) ≡ joined (take index runs) ++ run
next_run runs index run lt is =
    ap joined (take_more runs index run lt ∙ ap (λ (r : List Edit). take index runs ++ r ∷ []) (sym is)) ∙ joined-push (take index runs) run

take-nil : (n : ℕ) → take {A = Edit} n [] ≡ []
take-nil zero = refl
take-nil (suc n) = refl

take-split : (edits : List Edit) (front more : ℕ) → take front edits ++ take more (drop front edits) ≡ take (front + more) edits
take-split edits zero more = let e : more ≡ 0 + more = omega arith in ap (λ (n : ℕ). take n edits) e
take-split [] (suc front) more = take-nil more ∙ sym (take-nil (suc front + more))
take-split (x ∷ xs) (suc front) more =
    let e : suc (front + more) ≡ suc front + more = omega arith in
    ap (λ (es : List Edit). x ∷ es) (take-split xs front more) ∙ ap (λ (n : ℕ). take n (x ∷ xs)) e

-- the edits up to an index, and then those up to a later one
pub take-range : (edits : List Edit) (from to : ℕ) → from ≤ to → take from edits ++ slice_range edits from to ≡ take to edits
take-range edits from to le = let e : from + (to - from) ≡ to = omega arith in take-split edits from (to - from) ∙ ap (λ (n : ℕ). take n edits) e

pub range-length : (edits : List Edit) (from to : ℕ) → from ≤ to → to ≤ length edits → length (slice_range edits from to) ≡ to - from
range-length edits from to le within =
    let both = ap (λ (xs : List Edit). length xs) (take-range edits from to le) in
    omega (arith, length-append (take from edits) (slice_range edits from to), length-take from edits, length-take to edits, both)

pub short_push : (runs : List (List Edit)) (run : List Edit) → AllByRecursion IsShort runs → IsShort run → AllByRecursion IsShort (runs ++ run ∷ [])
short_push [] run all is = (is, tt)
short_push (r ∷ rs) run all is = (all.0, short_push rs run all.1 is)

pub map-push : {A B : Type 0} (f : A → B) (xs : List A) (x : A) → map f (xs ++ x ∷ []) ≡ map f xs ++ f x ∷ []
map-push f [] x = refl
map-push f (y ∷ ys) x = ap (λ zs. f y ∷ zs) (map-push f ys x)

-- the pieces of stretches are those of their edits
pieces-map : (place : ℕ) (stretches : List Stretch) → commands_from piece_of place stretches ≡ pieces_from place (map edits_in stretches)
pieces-map place [] = refl
pieces-map place (s ∷ ss) = ap (λ (ps : List Piece). piece_of place s ∷ ps) (pieces-map (place + 1) ss)

pub cut_length : (lists : List (List Edit)) (cuts : List (List Stretch)) → AreCut lists cuts → length cuts ≡ length lists
cut_length [] [] h = refl
cut_length [] (c ∷ cs) h = absurd h
cut_length (l ∷ ls) [] h = absurd h
cut_length (l ∷ ls) (c ∷ cs) h = ap suc (cut_length ls cs h.1)

pub cut_more : (lists : List (List Edit)) (cuts : List (List Stretch)) (list : List Edit) (cut : List Stretch) → AreCut lists cuts → AreRunsOf list cut → AreCut (lists ++ list ∷ []) (cuts ++ cut ∷ [])
cut_more [] [] list cut h is = (is, tt)
cut_more [] (c ∷ cs) list cut h is = absurd h
cut_more (l ∷ ls) [] list cut h is = absurd h
cut_more (l ∷ ls) (c ∷ cs) list cut h is = (h.0, cut_more ls cs list cut h.1 is)

-- the runs of the list at an index
record IsCutAt (list : List Edit) (cuts : List (List Stretch)) (index : ℕ) : Type 0 where
  cut : List Stretch
  there : slice_get cuts index ≡ Some cut
  are : AreRunsOf list cut

cut_at : (lists : List (List Edit)) (cuts : List (List Stretch)) (index : ℕ) (list : List Edit) → AreCut lists cuts → slice_get lists index ≡ Some list → IsCutAt list cuts index
cut_at [] cuts index list h at = absurd (cc)
cut_at (l ∷ ls) [] index list h at = absurd h
cut_at (l ∷ ls) (c ∷ cs) zero list h at = let same : l ≡ list = cc in record { cut = c; there = refl; are = subst (λ (es : List Edit). AreRunsOf es c) same h.0 }
cut_at (l ∷ ls) (c ∷ cs) (suc index) list h at = let found = cut_at ls cs index list h.1 at in record { cut = found.cut; there = found.there; are = found.are }

-- entries of the stretches of lists are entries of the lists in runs
pub entries_in_runs : {M E R : Type 0} (lists : List (List Edit)) (cuts : List (List Stretch)) (journal : List (Entry M Piece E R)) → AreCut lists cuts → AreEntriesOf piece_of cuts journal → AreEntriesInRuns lists journal
entries_in_runs lists cuts journal are entries = record {
  each = λ index list at.
      let found = cut_at lists cuts index list are at in
      record { runs = map edits_in found.cut; whole = found.are.whole; short = found.are.short; are = entries.each index found.cut found.there ∙ pieces-map 1 found.cut };
  no_other = subst (λ n. AllByRecursion (λ entry. (number : ℕ) × IsNumber n number × (entry.actor ≡ Send number)) journal) (cut_length lists cuts are) entries.no_other;
}
