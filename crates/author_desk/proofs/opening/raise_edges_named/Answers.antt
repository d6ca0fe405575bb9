use Rattle.std.proofs.Common.{◌≡◌, suc, ◌+◌, ◌-◌, [], ◌∷◌, ◌++◌, refl, sym, ap, subst, ◌∙◌, arith, append_assoc, append-nil}
use Rattle.std.specs.List.{range_with_len}
use Rattle.edge_board.specs.Seats.{BoardStanding}
use Rattle.edge_board.specs.States.{AreAtMost}
use Rattle.edge_board.proofs.States.{most_raised, most_then}
use Rattle.author_desk.specs.Cuts.{AreSeenRaised}
use Rattle.author_desk.proofs.SeenStates.{most_itself, still_raised}
use Rattle.author_desk.proofs.Named.{first_le_end, slots_between, any_between}
use Rattle.author_desk.proofs.opening.raise_edges_named.Goals as goal

pub loop-slot-init : goal.loop-slot-init
loop-slot-init c = (refl, refl, refl, most_itself c.args.seat.now.seen, λ later most are. are)

pub loop-slot-preserved : goal.loop-slot-preserved
loop-slot-preserved c =
    let i = c.loop-slot.invariant in
    let seat = c.loop-slot.seat in
    let slot = c.loop-slot.slot in
    let end = c.count_up_to-end.result in
    let is = c.raise.ensures.seat in
    let rest = range_with_len (slot + 1) (end - (slot + 1)) in
    let new = c.raise.new.seat in
    let rises : AreAtMost seat.seen new.seen = subst (AreAtMost seat.seen) (sym (ap (λ (s : BoardStanding). s.seen) is)) (most_raised seat.seen slot) in
    let one : end - slot ≡ suc (end - (slot + 1)) = omega arith in (
      ap (λ (s : BoardStanding). s.board) is ∙ i.0,
      ap (λ (s : BoardStanding). s.parts) is ∙ i.1,
      ap (λ (s : BoardStanding). s.marks ++ rest) is ∙ (append_assoc seat.marks (slot ∷ []) rest ∙ (ap (λ n. seat.marks ++ range_with_len slot n) (sym one) ∙ i.2)),
      most_then c.args.seat.now.seen seat.seen new.seen i.3 rises,
      λ later most are.
          i.4 later (most_then seat.seen new.seen later rises most)
          (subst (λ n. AreSeenRaised later (range_with_len slot n)) (sym one) (still_raised new.seen later slot most c.raise.ensures.there, are)),
    )

pub returns-clause-any : goal.returns-clause-any
returns-clause-any c =
    let name = c.args.name in
    let opening = c.args.opening.now in
    let first = c.count_before-first.result in
    let end = c.count_up_to-end.result in
    let before = c.count_before-first.ensures.parted in
    let up_to = c.count_up_to-end.ensures.parted in
    let le = first_le_end name opening first end c.count_before-first.ensures.within before up_to in
    any_between name opening first (end - first) end (omega arith) c.count_up_to-end.ensures.within before up_to

pub returns-clause-raised : goal.returns-clause-raised
returns-clause-raised c =
    let i = c.loop-slot.invariant in
    let name = c.args.name in
    let opening = c.args.opening.now in
    let first = c.count_before-first.result in
    let end = c.count_up_to-end.result in
    let before = c.count_before-first.ensures.parted in
    let up_to = c.count_up_to-end.ensures.parted in
    let le = first_le_end name opening first end c.count_before-first.ensures.within before up_to in
    let marks = c.loop-slot.seat.marks in
    let none : end - c.loop-slot.slot ≡ 0 = omega arith in
    let seen = c.loop-slot.seat.seen in
    let between = slots_between name opening 0 first (end - first) end first (omega arith) c.count_up_to-end.ensures.within before up_to (omega arith) in
    record {
      board = i.0;
      parts = i.1;
      marks =
          sym (append-nil marks)
          ∙ (ap (λ n. marks ++ range_with_len c.loop-slot.slot n) (sym none)
          ∙ (i.2 ∙ ap (λ slots. c.args.seat.now.marks ++ slots) (sym between)));
      seen = i.3;
      seen_raised = subst (AreSeenRaised seen) (sym between) (i.4 seen (most_itself seen) (subst (λ n. AreSeenRaised seen (range_with_len c.loop-slot.slot n)) (sym none) tt));
    }
