use Rattle.std.proofs.Common.{[], ◌∷◌, ◌++◌, List, length, map, refl, sym, ap, subst, ◌∙◌, arith, length-append}
use Rattle.std.specs.Option.{option_map}
use Rattle.std.proofs.lemmas.List.{map-append}
use Rattle.std.proofs.lemmas.Option.{slice_get_read}
use Rattle.grove_edits.specs.declared.edit.Edit.{Edit}
use Rattle.edge_board.specs.Seats.{first_board_seat}
use Rattle.session_answers.specs.Boards.{parts_at, IsBoardFor}
use Rattle.session_answers.specs.Opened.{cuts_at}
use Rattle.session_answers.proofs.OnBoards.{board_more}
use Rattle.session_answers.proofs.boards.boards_of.Goals as goal

pub loop-replica-preserved : goal.loop-replica-preserved
loop-replica-preserved c =
    let before = c.loop-replica.invariant in
    let boards = c.loop-replica.boards.items in
    let last = c.in_ok-board.board ∷ [] in
    let pushed = c.in_ok-push.ensures.items in
    let source = c.index-lists-replica.result in
    let own = slice_get_read c.args.lists.now (length c.args.lists.now) c.loop-replica.replica source refl c.loop-replica-test.true c.index-lists-replica.is in
    let for =
    subst (λ (es : List Edit). IsBoardFor (cuts_at c.args.authors.now c.args.lines.now c.loop-replica.replica) es (parts_at c.args.authors.now c.args.lines.now c.loop-replica.replica) c.in_ok-board.board)
    c.as_slice.ensures c.in_ok-board.ensures.board in (
      (let long = before.0 in let longer = ap (λ bs. length bs) pushed in omega (arith, length-append boards last)),
      c.in_ok-push-2.ensures.items ∙ ap (λ ss. ss ++ c.in_ok-board.seat ∷ []) before.1 ∙ ap (λ s. map (option_map first_board_seat) boards ++ s ∷ []) c.in_ok-board.ensures.seat
          ∙ sym (map-append (option_map first_board_seat) boards last) ∙ ap (map (option_map first_board_seat)) (sym pushed),
      board_more c.args.authors.now c.args.lines.now c.args.lists.now boards c.push.new.self.items c.loop-replica.replica source c.in_ok-board.board before.0 own for pushed before.2,
    )
