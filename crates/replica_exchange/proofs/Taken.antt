-- Taking pieces one after the other.
use Rattle.std.proofs.Common.{◌≡◌, ℕ, zero, suc, ◌+◌, List, [], ◌∷◌, ◌++◌, None, length, take, drop, refl, sym, ap, subst, ◌∙◌, append_assoc, append-nil, zero-add}
use Rattle.std.proofs.lemmas.Grind.{flat_map-append}
use Rattle.std.proofs.lemmas.List.{append_cancel_left, take-append-drop}
use Rattle.text_parts.specs.Separated.{Lacks}
use Rattle.grove_sorts.specs.declared.version.Version.TheVariants.{Two}
use Rattle.grove_edits.specs.declared.edit.Edit.{Edit}
use Rattle.grove_edits.specs.Edit.{edit_edge}
use Rattle.edit_text.specs.Text.{line_of, text_of, AreOf}
use Rattle.edit_text.proofs.Lines.{all_in_two}
use Rattle.edit_stream.specs.Stream.{StreamState, fresh, line_count}
use Rattle.edit_stream.proofs.Cuts.{one_answer}
use Rattle.replica_exchange.specs.Send.{joined, line_ends, edits_by_piece}
use Rattle.replica_exchange.specs.Taker.{TakesAll}
use Rattle.replica_exchange.proofs.Shares.{line_ends-append, line_ends-lacks, front_of, joined_parts}

abbrev good_stream : List ℕ → ℕ → StreamState
good_stream kept lines = record { version = Two; kept = kept; lines = lines; fault = None }

of_two : (edits : List Edit) → AreOf Two edits
of_two [] = tt
of_two (edit ∷ edits) = (all_in_two (edit_edge edit), of_two edits)

-- all edits are the first ones and the others
text_of-parts : (edits : List Edit) (n : ℕ) → text_of edits ≡ text_of (take n edits) ++ text_of (drop n edits)
text_of-parts edits n = ap text_of (sym (take-append-drop n edits)) ∙ flat_map-append line_of (take n edits) (drop n edits)

-- the first pieces of what is left of a text, behind bytes without an LF
takes_front : (edits : List Edit) (pieces : List (List ℕ)) (more kept : List ℕ) (lines : ℕ) → Lacks 10 kept → kept ++ (joined pieces ++ more) ≡ text_of edits
    → (last : StreamState) × TakesAll (good_stream kept lines) pieces (edits_by_piece edits pieces) last × (last.fault ≡ None)
takes_front edits [] more kept lines none whole = (good_stream kept lines, refl, refl)
takes_front edits (piece ∷ pieces) more kept lines none whole =
    let n = line_ends piece in
    let behind_piece = joined pieces ++ more in
    let count : line_ends (kept ++ piece) ≡ n = line_ends-append kept piece ∙ ap (λ k. k + n) (line_ends-lacks kept none) ∙ zero-add n in
    let regrouped : (kept ++ piece) ++ behind_piece ≡ text_of edits =
    append_assoc kept piece behind_piece ∙ ap (λ (t : List ℕ). kept ++ t) (sym (append_assoc piece (joined pieces) more)) ∙ whole in
    let front = front_of edits (kept ++ piece) behind_piece regrouped in
    let parts : kept ++ piece ≡ text_of (take n edits) ++ front.0 = front.2 ∙ ap (λ k. text_of (take k edits) ++ front.0) count in
    let behind : front.0 ++ behind_piece ≡ text_of (drop n edits) =
    append_cancel_left (text_of (take n edits)) (front.0 ++ behind_piece) (text_of (drop n edits))
    (sym (append_assoc (text_of (take n edits)) front.0 behind_piece) ∙ ap (λ (t : List ℕ). t ++ behind_piece) (sym parts) ∙ regrouped ∙ text_of-parts edits n) in
    let read = line_count (lines + length (take n edits)) in
    let rest = takes_front (drop n edits) pieces more front.0 read front.1 behind in
    (rest.0, (good_stream front.0 read, (record { parts = parts; of_version = of_two (take n edits); unended = front.1 }, refl, refl), rest.1), rest.2)

pub takes_all : (edits : List Edit) (pieces : List (List ℕ)) → joined pieces ≡ text_of edits
    → (last : StreamState) × TakesAll (fresh Two) pieces (edits_by_piece edits pieces) last × (last.fault ≡ None)
takes_all edits pieces whole = takes_front edits pieces [] [] 0 tt (append-nil (joined pieces) ∙ whole)

-- the edits of the first pieces are the first ones
first_edits : (edits : List Edit) (pieces : List (List ℕ)) (count : ℕ) → edits_by_piece edits (take count pieces) ≡ take count (edits_by_piece edits pieces)
first_edits edits pieces zero = refl
first_edits edits [] (suc count) = refl
first_edits edits (piece ∷ pieces) (suc count) =
    ap (λ (more : List (List Edit)). take (line_ends piece) edits ∷ more) (first_edits (drop (line_ends piece) edits) pieces count)

-- pieces have one taking
one_taking : (old last other : StreamState) (pieces : List (List ℕ)) (xs ys : List (List Edit)) → TakesAll old pieces xs last → TakesAll old pieces ys other
    → (xs ≡ ys) × (last ≡ other)
one_taking old last other [] [] [] h k = (refl, h ∙ sym k)
one_taking old last other [] [] (y ∷ ys) h k = absurd k
one_taking old last other [] (x ∷ xs) ys h k = absurd h
one_taking old last other (piece ∷ pieces) [] ys h k = absurd h
one_taking old last other (piece ∷ pieces) (x ∷ xs) [] h k = absurd k
one_taking old last other (piece ∷ pieces) (x ∷ xs) (y ∷ ys) h k =
    let same = one_answer old h.0 k.0 piece x y h.1 k.1 in
    let rest = one_taking k.0 last other pieces xs ys (subst (λ (m : StreamState). TakesAll m pieces xs last) same.1 h.2) k.2 in
    (ap (λ (z : List Edit). z ∷ xs) same.0 ∙ ap (λ (zs : List (List Edit)). y ∷ zs) rest.0, rest.1)

-- whoever has taken the first pieces has their edits, and met no fault
pub fronts_taken : (edits : List Edit) (pieces : List (List ℕ)) (count : ℕ) (taken : List (List Edit)) (last : StreamState) → joined pieces ≡ text_of edits
    → TakesAll (fresh Two) (take count pieces) taken last → (taken ≡ take count (edits_by_piece edits pieces)) × (last.fault ≡ None)
fronts_taken edits pieces count taken last whole h =
    let some = takes_front edits (take count pieces) (joined (drop count pieces)) [] 0 tt (joined_parts pieces count ∙ whole) in
    let same = one_taking (fresh Two) last some.0 (take count pieces) taken (edits_by_piece edits (take count pieces)) h some.1 in
    (same.0 ∙ first_edits edits pieces count, ap (λ (s : StreamState). s.fault) same.1 ∙ some.2)

pub one_taken : (edits : List Edit) (pieces : List (List ℕ)) (taken : List (List Edit)) (last : StreamState) → joined pieces ≡ text_of edits
    → TakesAll (fresh Two) pieces taken last → (taken ≡ edits_by_piece edits pieces) × (last.fault ≡ None)
one_taken edits pieces taken last whole h =
    let all = takes_all edits pieces whole in
    let same = one_taking (fresh Two) last all.0 pieces taken (edits_by_piece edits pieces) h all.1 in
    (same.0, ap (λ (s : StreamState). s.fault) same.1 ∙ all.2)
