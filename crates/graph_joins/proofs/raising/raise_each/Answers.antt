use Rattle.std.proofs.Common.{sym, subst}
use Rattle.grove_edits.specs.declared.edge.Edge.{Edge}
use Rattle.graph_words.specs.States.{state_in}
use Rattle.live_graph.specs.NumberOf.{IsNumberOf}
use Rattle.graph_joins.proofs.Raised.{raised_next, raised_all}
use Rattle.graph_joins.proofs.raising.raise_each.Goals as goal

pub loop-edit-preserved : goal.loop-edit-preserved
loop-edit-preserved c =
    let edit = c.edit-item.result in
    let number = subst (λ (e : Edge). IsNumberOf c.make_room.new.self e c.in_ok-number.number) c.edge.ensures c.in_ok-number.ensures.number in
    raised_next (state_in c.args.kept.now) (state_in c.loop-edit.kept) (state_in c.make_room.new.self) (state_in c.raise_at.new.self) c.args.edits.now c.loop-edit.edit-index edit
    c.loop-edit-test.true c.edit-item.is c.loop-edit.invariant c.make_room.ensures.unchanged (c.raise_at.ensures.joined edit number (sym c.kind.ensures))

pub returns : goal.returns
returns c = raised_all (state_in c.args.kept.now) (state_in c.loop-edit.kept) c.args.edits.now c.loop-edit.edit-index c.loop-edit-test.false c.loop-edit.invariant
