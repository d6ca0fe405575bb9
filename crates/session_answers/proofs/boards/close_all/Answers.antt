use Rattle.std.proofs.Common.{[], ◌∷◌, ◌++◌, length, map, sym, ap, ◌∙◌, arith}
use Rattle.std.specs.Iterator.Adapters.{zip_first, zip_second}
use Rattle.std.specs.Vec.Iter.{into_iter_items}
use Rattle.std.proofs.lemmas.List.{map-append}
use Rattle.session_answers.specs.Boards.{IsWholeSeat, all_held, states_in}
use Rattle.session_answers.proofs.OnBoards.{next_zipped, held_more, held_end, either_ends}
use Rattle.session_answers.proofs.boards.close_all.Goals as goal

pub close-requires : goal.close-requires
close-requires c =
    let left = c.loop-board.board-iterator in
    let next = c.next.new.self in
    let steps = c.in-Some.ensures.steps in
    (next_zipped IsWholeSeat (into_iter_items (zip_first left)) (into_iter_items (zip_first next)) (into_iter_items (zip_second left)) (into_iter_items (zip_second next)) c.in-Some.board c.in-Some.seat steps.0.0
    steps.1.0 c.loop-board.invariant.0).0

pub loop-board-preserved : goal.loop-board-preserved
loop-board-preserved c =
    let left = c.loop-board.board-iterator in
    let next = c.next.new.self in
    let steps = c.in-Some.ensures.steps in
    let done = c.loop-board.held.items in
    let own = c.close.result in (
      (next_zipped IsWholeSeat (into_iter_items (zip_first left)) (into_iter_items (zip_first next)) (into_iter_items (zip_second left)) (into_iter_items (zip_second next)) c.in-Some.board c.in-Some.seat steps.0.0
          steps.1.0 c.loop-board.invariant.0).1,
      held_more (into_iter_items (zip_first left)) (into_iter_items (zip_first next)) c.args.boards.items (into_iter_items (zip_second left)) (into_iter_items (zip_second next)) c.args.seats.items c.in-Some.board c.in-Some.seat
          (map states_in done) (map states_in c.push.new.self.items) steps.0.0 steps.1.0
          (ap (map states_in) c.in_ok-push.ensures.items ∙ (map-append states_in done (own ∷ []) ∙ ap (λ held. map states_in done ++ held ∷ []) c.close.ensures)) c.loop-board.invariant.1,
      (let had = c.loop-board.invariant.2 in let one = steps.0.1 in let more = ap (λ bs. length bs) steps.0.0 in omega arith),
      (let had = c.loop-board.invariant.3 in let one = steps.1.1 in let more = ap (λ ss. length ss) steps.1.0 in omega arith),
    )

pub returns : goal.returns
returns c =
    let left = c.loop-board.board-iterator in
    let i = c.loop-board.invariant in
    held_end (into_iter_items (zip_first left)) (into_iter_items (zip_second left)) (map states_in c.loop-board.held.items) (all_held c.args.boards.items c.args.seats.items)
    (either_ends c.in-None.ensures.steps (λ u ended. sym i.2 ∙ ended.0) (λ u ended. sym i.3 ∙ ended.0)) i.1
