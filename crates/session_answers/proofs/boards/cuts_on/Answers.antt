use Rattle.std.proofs.Common.{◌≡◌, ◌+◌, ◌++◌, [], ◌∷◌, length, map, refl, sym, ap, ◌∙◌, arith, rules, append_assoc, length-append}
use Rattle.std.specs.Option.{option_map}
use Rattle.std.specs.Vec.Iter.{into_iter_items}
use Rattle.std.proofs.lemmas.Grind.{common_steps}
use Rattle.std.proofs.lemmas.List.{length-map, map-append, take_all}
use Rattle.std.proofs.lemmas.Option.{slice_get_read}
use Rattle.edge_board.specs.Seats.{first_board_seat}
use Rattle.author_desk.specs.Cuts.{opening_edits, seat_of}
use Rattle.session_answers.specs.Boards.{cut_from, all_cut_from, board_of}
use Rattle.session_answers.proofs.OnBoards.{item_within, mapped_more, cut_from_read, length-all_cut_from}
use Rattle.session_answers.proofs.boards.cuts_on.Goals as goal

pub bounds-lists-replica : goal.bounds-lists-replica
bounds-lists-replica c =
    let before = c.loop-seat.invariant in
    let within = item_within c.loop-seat.yielded (into_iter_items c.loop-seat.seat-iterator) (into_iter_items c.next.new.self) c.args.seats.items c.in-Some.seat before.3 c.in-Some.ensures.steps.0 in
    let seats = ap (λ ss. length ss) c.requires.seats ∙ length-map c.args.boards.now (option_map first_board_seat) in
    let boards = c.requires.boards in
    let cuts = sym (length-map c.loop-seat.cuts.items seat_of) ∙ ap (λ ss. length ss) before.2 in
    let place : c.len-replica.result ≡ length c.loop-seat.cuts.items = search rules in
    omega arith

pub loop-seat-preserved : goal.loop-seat-preserved
loop-seat-preserved c =
    let before = c.loop-seat.invariant in
    let yielded = c.loop-seat.yielded in
    let own = c.cuts_from.ensures in
    let within = item_within yielded (into_iter_items c.loop-seat.seat-iterator) (into_iter_items c.next.new.self) c.args.seats.items c.in-Some.seat before.3 c.in-Some.ensures.steps.0 in
    let seats = ap (λ ss. length ss) c.requires.seats ∙ length-map c.args.boards.now (option_map first_board_seat) in
    let boards = c.requires.boards in
    let all = length-all_cut_from c.args.lists.now c.args.boards.now boards in
    let cuts = sym (length-map c.loop-seat.cuts.items seat_of) ∙ ap (λ ss. length ss) before.2 in
    let place : c.len-replica.result ≡ length c.loop-seat.cuts.items = search rules in
    let opening = c.index-lists-replica.result in
    let board = c.index-boards-replica.result in
    let is_opening = slice_get_read c.args.lists.now (length c.args.lists.now) c.len-replica.result opening refl (omega arith) c.index-lists-replica.is in
    let is_board = slice_get_read c.args.boards.now (length c.args.boards.now) c.len-replica.result board refl (omega arith) c.index-boards-replica.is in
    let next : length (yielded ++ c.in-Some.seat ∷ []) ≡ length yielded + 1 = length-append yielded (c.in-Some.seat ∷ []) in (
      mapped_more opening_edits c.loop-seat.cuts.items c.push.new.self.items c.cuts_from.result (all_cut_from c.args.lists.now c.args.boards.now) (length yielded) c.len-replica.result (length (yielded ++ c.in-Some.seat ∷ []))
          (cut_from opening board) before.0 (omega arith) next c.in_ok-push.ensures.items own.opening (omega arith)
          (cut_from_read c.args.lists.now c.args.boards.now c.len-replica.result opening board (omega arith) (omega arith) is_opening is_board),
      mapped_more board_of c.loop-seat.cuts.items c.push.new.self.items c.cuts_from.result c.args.boards.now (length yielded) c.len-replica.result (length (yielded ++ c.in-Some.seat ∷ []))
          board before.1 (omega arith) next c.in_ok-push.ensures.items own.board (omega arith) c.index-boards-replica.is,
      ap (map seat_of) c.in_ok-push.ensures.items ∙ map-append seat_of c.loop-seat.cuts.items (c.cuts_from.result ∷ []) ∙ ap (λ ss. ss ++ seat_of c.cuts_from.result ∷ []) before.2
          ∙ ap (λ s. yielded ++ s ∷ []) own.seat,
      append_assoc yielded (c.in-Some.seat ∷ []) (into_iter_items c.next.new.self) ∙ ap (λ ss. yielded ++ ss) (sym c.in-Some.ensures.steps.0) ∙ before.3,
    )

pub returns-clause-opening : goal.returns-clause-opening
returns-clause-opening c =
    let all : map seat_of c.loop-seat.cuts.items ≡ c.args.seats.items = grind (arith, common_steps) in
    let cuts = sym (length-map c.loop-seat.cuts.items seat_of) ∙ ap (λ ss. length ss) all in
    let yielded = sym (length-map c.loop-seat.cuts.items seat_of) ∙ ap (λ ss. length ss) c.loop-seat.invariant.2 in
    let seats = ap (λ ss. length ss) c.requires.seats ∙ length-map c.args.boards.now (option_map first_board_seat) in
    let long = length-all_cut_from c.args.lists.now c.args.boards.now c.requires.boards in
    let boards = c.requires.boards in
    c.loop-seat.invariant.0 ∙ take_all (length c.loop-seat.yielded) (all_cut_from c.args.lists.now c.args.boards.now) (omega arith)
