-- The marks stand for the graph with the edit, or all is as before.
use Rattle.std.proofs.Common.{refl, arith}
use Rattle.graph_words.specs.States.{state_in}
use Rattle.live_graph.specs.Live.{live}
use Rattle.mark_incremental.proofs.SizeBound.{size_at, before_within}
use Rattle.grove_sorts.proofs.Truths.{after_error}
use Rattle.mark_incremental.proofs.Edited.{stands_before, nothing_grown}
use Rattle.mark_incremental.proofs.marks.Marks.apply_whole.Goals as goal

pub renew-requires-clause-before : goal.renew-requires-clause-before
renew-requires-clause-before g c =
    stands_before c.args.edit.now c.args.edge.now c.requires.edge (state_in c.args.graph.now) (state_in c.args.graph.now) (state_in c.raise-change.new.graph) (live c.args.graph.now) c.args.self.now c.in_ok-before.before c.requires.stand
    (λ e. refl) c.edge_count-edges.ensures.live c.raise-change.ensures.raised.joined c.in_ok-before.ensures.walks

pub returns-in-Ok-clause-applied : goal.returns-in-Ok-clause-applied
returns-in-Ok-clause-applied g c = record {
  was = record { raised = c.raise-change.ensures.raised; stood = c.requires.stand; renewed = c.in-Ok.ensures.old };
  stand = c.in-Ok.ensures.stand;
}

pub returns-in_err-before-clause-unchanged : goal.returns-in_err-before-clause-unchanged
returns-in_err-before-clause-unchanged g c = after_error c.from_residual.result (record { same = λ e. refl; grown = nothing_grown c.args.self.now })

pub returns-clause-unchanged : goal.returns-clause-unchanged
returns-clause-unchanged g c =
    record { same = c.put_back.ensures.put_back c.args.graph.now c.raise-change.ensures.raised; grown = c.in-Err.ensures.grown }

pub returns-clause-room_stays : goal.returns-clause-room_stays
returns-clause-room_stays g c = λ e held. c.put_back.ensures.room_stays e (c.raise-change.ensures.room_stays e held)

pub returns-clause-numbers_stay : goal.returns-clause-numbers_stay
returns-clause-numbers_stay g c = λ e n is. c.put_back.ensures.numbers_stay e n (c.raise-change.ensures.numbers_stay e n is)

pub returns-in_err-before-clause-ticks : goal.returns-in_err-before-clause-ticks
returns-in_err-before-clause-ticks g c = λ n size.
    let walks = before_within c.requires.stand.edits c.args.edit.now (state_in c.args.graph.now) c.requires.stand.made c.args.edge.now c.requires.edge n size (live c.args.graph.now) c.edge_count-edges.ensures.live in
    let ticks = c.walk_from_ends.ensures.ticks in
    omega (arith, walks, ticks)

pub returns-in-Ok-clause-ticks : goal.returns-in-Ok-clause-ticks
returns-in-Ok-clause-ticks g c = λ n size.
    let walks = before_within c.requires.stand.edits c.args.edit.now (state_in c.args.graph.now) c.requires.stand.made c.args.edge.now c.requires.edge n size (live c.args.graph.now) c.edge_count-edges.ensures.live in
    let ticks = c.walk_from_ends.ensures.ticks in
    let renewed =
    c.renew.ensures.ticks
    (stands_before c.args.edit.now c.args.edge.now c.requires.edge (state_in c.args.graph.now) (state_in c.args.graph.now) (state_in c.raise-change.new.graph) (live c.args.graph.now) c.args.self.now c.in_ok-before.before
    c.requires.stand (λ e. refl) c.edge_count-edges.ensures.live c.raise-change.ensures.raised.joined c.in_ok-before.ensures.walks)
    n (size_at c.requires.stand.edits c.args.edit.now (state_in c.args.graph.now) c.requires.stand.made c.args.edge.now c.requires.edge n size) in
    omega (arith, walks, ticks, renewed)

pub returns-clause-ticks : goal.returns-clause-ticks
returns-clause-ticks g c = λ n size.
    let walks = before_within c.requires.stand.edits c.args.edit.now (state_in c.args.graph.now) c.requires.stand.made c.args.edge.now c.requires.edge n size (live c.args.graph.now) c.edge_count-edges.ensures.live in
    let ticks = c.walk_from_ends.ensures.ticks in
    let renewed =
    c.renew.ensures.ticks
    (stands_before c.args.edit.now c.args.edge.now c.requires.edge (state_in c.args.graph.now) (state_in c.args.graph.now) (state_in c.raise-change.new.graph) (live c.args.graph.now) c.args.self.now c.in_ok-before.before
    c.requires.stand (λ e. refl) c.edge_count-edges.ensures.live c.raise-change.ensures.raised.joined c.in_ok-before.ensures.walks)
    n (size_at c.requires.stand.edits c.args.edit.now (state_in c.args.graph.now) c.requires.stand.made c.args.edge.now c.requires.edge n size) in
    omega (arith, walks, ticks, renewed)
