-- The child that is looked at is not the edge.
use Rattle.std.proofs.Common.{◌≡◌, false, sym, ap, ◌∙◌}
use Rattle.std.specs.Prelude.{◌||◌}
use Rattle.grove_edits.specs.declared.edge.Edge.{Edge}
use Rattle.grove_edits.specs.Graph.{is_same_edge}
use Rattle.grove_edits.proofs.Orders.{eq_is_same_edge}
use Rattle.graph_words.specs.Live.{holds_edge}
use Rattle.mark_incremental.proofs.conflict.is_absent.Goals as goal

pub loop-child-preserved : goal.loop-child-preserved
loop-child-preserved c =
    let other : is_same_edge c.in-Some.child c.args.edge.now ≡ false =
    ap (λ (x : Edge). is_same_edge x c.args.edge.now) (sym c.edge.ensures) ∙ sym (eq_is_same_edge c.edge.result c.args.edge.now) ∙ sym c.eq.ensures ∙ c.if-eq.false in
    c.loop-child.invariant ∙ ap (holds_edge c.args.edge.now) c.in-Some.ensures.both ∙ ap (λ b. b || holds_edge c.args.edge.now c.in-Some.others) other
