-- A seat of which a part is handed to a worker, and which takes it in again.
use Rattle.std.proofs.Common.{◌≡◌, ℕ, ◌+◌, ◌≤◌, List, [], ◌∷◌, ◌++◌, sum_by, refl, sym, ap, subst, ◌∙◌, append_assoc, append-nil, arith}
use Rattle.edge_board.specs.Seats.{BoardStanding}
use Rattle.edge_board.specs.States.{joined_states}
use Rattle.edge_board.proofs.States.{most_then}
use Rattle.author_desk.proofs.SeenStates.{joined_left, joined_right, raised_later, raised_all}
use Rattle.author_desk.specs.declared.cuts.Cuts.{Cuts}
use Rattle.author_desk.specs.declared.cuts.Cuts.TheVariants.{Empty, On}
use Rattle.author_desk.specs.Cuts.{opening_edits, CanRaise, HasPartsFor, HandsOver, CanTakeIn, TakesIn, Raises, KeepsSeat}
use Rattle.session_run.specs.declared.worker.Worker.{Worker}
use Rattle.session_run.specs.declared.worker.Worker.TheVariants as worker
use Rattle.session_run.specs.Workers.{seats_of, HandsTo}
use Rattle.session_run.proofs.Joined.{sum_of_front}

pub fewer_parts : (cuts : Cuts) (few many : ℕ) → few ≤ many → HasPartsFor many cuts → HasPartsFor few cuts
fewer_parts Empty few many le has = tt
fewer_parts (On opening board seat) few many le has = omega arith

-- the parts for all workers are those for the last one and those for the others
pub parts_divide : (cuts : Cuts) (workers front : List Worker) (last : Worker) → workers ≡ front ++ last ∷ [] → HasPartsFor (sum_by seats_of workers) cuts
    → HasPartsFor (sum_by seats_of front + seats_of last) cuts × HasPartsFor (seats_of last) cuts
parts_divide cuts workers front last both has =
    let all = ap (sum_by seats_of) both ∙ sum_of_front seats_of front last in
    let some = subst (λ (n : ℕ). HasPartsFor n cuts) all has in
    (some, fewer_parts cuts (seats_of last) (sum_by seats_of front + seats_of last) (omega arith) some)

-- ---- what both have

pub handed_opening : (w : Worker) (c c' own : Cuts) → HandsTo w c c' own → opening_edits c' ≡ opening_edits c
handed_opening (worker.Author lines) Empty c' own h = ap opening_edits h.0
handed_opening (worker.Author lines) (On opening board seat) c' own h = ap opening_edits h.0
handed_opening (worker.Send number pieces) c c' own h = ap opening_edits h.0

pub given_opening : (c c' own : Cuts) → HandsOver c c' own → opening_edits own ≡ opening_edits c
given_opening Empty c' own h = ap opening_edits h.1
given_opening (On opening board seat) c' own h = ap opening_edits h.1

pub both_can_raise : (w : Worker) (c c' own : Cuts) → CanRaise c → HandsTo w c c' own → CanRaise c' × CanRaise own
both_can_raise (worker.Author lines) Empty c' own can h = (subst CanRaise (sym h.0) tt, subst CanRaise (sym h.1) tt)
both_can_raise (worker.Author lines) (On opening board seat) c' own can h = (subst CanRaise (sym h.0) can, subst CanRaise (sym h.1) can)
both_can_raise (worker.Send number pieces) c c' own can h = (subst CanRaise (sym h.0) can, subst CanRaise (sym h.1) tt)

-- what was handed over is missing at the others
pub parts_left : (w : Worker) (c c' own : Cuts) (others : ℕ) → HandsTo w c c' own → HasPartsFor (others + seats_of w) c → HasPartsFor others c'
parts_left (worker.Author lines) Empty c' own others h has = subst (HasPartsFor others) (sym h.0) tt
parts_left (worker.Author lines) (On opening board seat) c' own others h has = subst (HasPartsFor others) (sym h.0) (omega arith)
parts_left (worker.Send number pieces) c c' own others h has = subst (HasPartsFor others) (sym h.0) (fewer_parts c others (others + 0) (omega arith) has)

-- ---- taken in again

module _ (opening : _) (board : _) (seat kept given : BoardStanding) where
  -- the others kept the seat, and so did the worker
  pub can_take_in : (c c2 own own2 : Cuts) → c ≡ On opening board kept → own ≡ On opening board given → kept.board ≡ board.now → given.board ≡ board.now → KeepsSeat c c2 → KeepsSeat own own2 → CanTakeIn c2 own2
  can_take_in c c2 own own2 is is' at at' keeps keeps' =
      let k = subst (λ z. KeepsSeat z c2) is keeps in
      let k' = subst (λ z. KeepsSeat z own2) is' keeps' in
      subst (λ z. CanTakeIn z own2) (sym k.1) (subst (CanTakeIn (On opening board k.0)) (sym k'.1) (k.2 ∙ at, k'.2 ∙ at'))

nothing_to_take : (c own own2 : Cuts) → own ≡ Empty → KeepsSeat own own2 → CanTakeIn c own2
nothing_to_take c own own2 is keeps = subst (CanTakeIn c) (sym (subst (λ z. KeepsSeat z own2) is keeps)) tt

pub can_take : (w : Worker) (c c1 own c2 own2 : Cuts) → CanRaise c → HandsTo w c c1 own → KeepsSeat c1 c2 → KeepsSeat own own2 → CanTakeIn c2 own2
can_take (worker.Author lines) Empty c1 own c2 own2 can h keeps keeps' = nothing_to_take c2 own own2 h.1 keeps'
can_take (worker.Author lines) (On opening board seat) c1 own c2 own2 can h keeps keeps' =
    can_take_in opening board seat _ _ c1 c2 own own2 h.0 h.1 can.2 can.2 keeps keeps'
can_take (worker.Send number pieces) c c1 own c2 own2 can h keeps keeps' = nothing_to_take c2 own own2 h.1 keeps'

-- where nothing was given, nothing is taken in
nothing_taken : (own c2 own2 c3 : Cuts) → own ≡ Empty → KeepsSeat own own2 → TakesIn c2 own2 c3 → c3 ≡ c2
nothing_taken own c2 own2 c3 is keeps takes = subst (λ z. TakesIn c2 z c3) (subst (λ z. KeepsSeat z own2) is keeps) takes

pub seat_whole : (w : Worker) (c c1 own c2 own2 c3 : Cuts) → HasPartsFor (seats_of w) c → HandsTo w c c1 own → KeepsSeat c1 c2 → KeepsSeat own own2 → TakesIn c2 own2 c3 → KeepsSeat c c3
seat_whole (worker.Author lines) Empty c1 own c2 own2 c3 has h keeps keeps' takes =
    nothing_taken own c2 own2 c3 h.1 keeps' takes ∙ subst (λ z. KeepsSeat z c2) h.0 keeps
seat_whole (worker.Author lines) (On opening board seat) c1 own c2 own2 c3 has h keeps keeps' takes =
    let k = subst (λ z. KeepsSeat z c2) h.0 keeps in
    let k' = subst (λ z. KeepsSeat z own2) h.1 keeps' in
    let taken = subst (λ z. TakesIn z (On opening board k'.0) c3) k.1 (subst (λ z. TakesIn c2 z c3) k'.1 takes) in
    let left = k.3 in
    let its = k'.3 in
    (_, taken, k.2, omega arith)
seat_whole (worker.Send number pieces) c c1 own c2 own2 c3 has h keeps keeps' takes =
    subst (KeepsSeat c) (sym (nothing_taken own c2 own2 c3 h.1 keeps' takes)) (subst (λ z. KeepsSeat z c2) h.0 keeps)

no_seat : (own own2 : Cuts) (slots : List ℕ) → own ≡ Empty → Raises own own2 slots → KeepsSeat own own2
no_seat own own2 slots is raises = subst (λ z. KeepsSeat z own2) (sym is) (subst (λ z. Raises z own2 slots) is raises)

-- and what both raised is raised by the whole
pub raised_by_both : (w : Worker) (c c1 own c2 own2 c3 : Cuts) (xs ys : List ℕ) → HasPartsFor (seats_of w) c → HandsTo w c c1 own → Raises c1 c2 xs → Raises own own2 ys → (seats_of w ≡ 0 → ys ≡ []) → TakesIn c2 own2 c3 → Raises c c3 (xs ++ ys)
raised_by_both (worker.Author lines) Empty c1 own c2 own2 c3 xs ys has h raises raises' none takes =
    nothing_taken own c2 own2 c3 h.1 (no_seat own own2 ys h.1 raises') takes ∙ subst (λ z. Raises z c2 xs) h.0 raises
raised_by_both (worker.Author lines) (On opening board seat) c1 own c2 own2 c3 xs ys has h raises raises' none takes =
    let k = subst (λ z. Raises z c2 xs) h.0 raises in
    let k' = subst (λ z. Raises z own2 ys) h.1 raises' in
    let taken = subst (λ z. TakesIn z (On opening board k'.0) c3) k.1 (subst (λ z. TakesIn c2 z c3) k'.1 takes) in
    let left = k.2.parts in
    let its = k'.2.parts in (
      _,
      taken,
      record {
        board = k.2.board;
        parts = omega arith;
        marks = ap (λ marks. marks ++ k'.0.marks) k.2.marks ∙ (ap (λ marks. (seat.marks ++ xs) ++ marks) k'.2.marks ∙ append_assoc seat.marks xs ys);
        seen = most_then seat.seen k.0.seen (joined_states k.0.seen k'.0.seen) k.2.seen (joined_left k.0.seen k'.0.seen);
        seen_raised = raised_all (joined_states k.0.seen k'.0.seen) xs ys (raised_later k.0.seen (joined_states k.0.seen k'.0.seen) xs (joined_left k.0.seen k'.0.seen) k.2.seen_raised)
            (raised_later k'.0.seen (joined_states k.0.seen k'.0.seen) ys (joined_right k.0.seen k'.0.seen) k'.2.seen_raised);
      },
    )
raised_by_both (worker.Send number pieces) c c1 own c2 own2 c3 xs ys has h raises raises' none takes =
    subst (Raises c c3) (sym (ap (λ slots. xs ++ slots) (none refl) ∙ append-nil xs))
    (subst (λ z. Raises c z xs) (sym (nothing_taken own c2 own2 c3 h.1 (no_seat own own2 ys h.1 raises') takes)) (subst (λ z. Raises z c2 xs) h.0 raises))
