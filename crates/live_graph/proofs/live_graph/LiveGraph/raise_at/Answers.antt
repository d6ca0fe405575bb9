use Rattle.std.proofs.Common.{◌≤◌, ◌<◌, true≢false, sym, ap, subst, ◌∙◌}
use Rattle.edge_lattice.specs.declared.state.State.{State}
use Rattle.edge_lattice.specs.State.{rank}
use Rattle.grove_edits.specs.declared.edge.Edge.{Edge}
use Rattle.grove_edits.specs.Edit.{edit_edge}
use Rattle.grove_edits.specs.Graph.{IsSame, state_of}
use Rattle.graph_words.specs.States.{state_in, with_state}
use Rattle.live_graph.specs.NumberOf.{IsNumberOf}
use Rattle.live_graph.proofs.Raises.{raised, not_raised, raised_at, not_raised_at, above_from_not}
use Rattle.live_graph.proofs.live_graph.LiveGraph.raise_at.Goals as goal
use Rattle.live_graph.proofs.live_graph.LiveGraph.raise_at.Goals.{Then-leq, After-set_state_at}

at_most : (c : goal.Then-leq) (e : Edge) → IsNumberOf c.args.self.now e c.args.number → rank (state_of c.args.kind) ≤ rank (state_in c.args.self.now e)
at_most c e is =
    let below : rank c.asked_by-asked.result ≤ rank c.state_at-old.result = c.leq.ensures.at_most.0 c.if-leq.true in
    subst (λ (s : State). rank s ≤ rank (state_in c.args.self.now e)) c.asked_by-asked.ensures (subst (λ (s : State). rank c.asked_by-asked.result ≤ rank s) (c.state_at-old.ensures e is) below)

below : (c : goal.After-set_state_at) (e : Edge) → IsNumberOf c.args.self.now e c.args.number → rank (state_in c.args.self.now e) < rank (state_of c.args.kind)
below c e is =
    let above : rank c.state_at-old.result < rank c.asked_by-asked.result = above_from_not c.state_at-old.result c.asked_by-asked.result (λ most. true≢false (sym (c.leq.ensures.at_most.1 most) ∙ c.if-leq.false)) in
    subst (λ (s : State). rank (state_in c.args.self.now e) < rank s) c.asked_by-asked.ensures (subst (λ (s : State). rank s < rank c.asked_by-asked.result) (c.state_at-old.ensures e is) above)

set : (c : goal.After-set_state_at) (e : Edge) → IsNumberOf c.args.self.now e c.args.number → IsSame (state_in c.set_state_at.new.self) (with_state e (state_of c.args.kind) (state_in c.args.self.now))
set c e is f = c.set_state_at.ensures.state e is f ∙ ap (λ s. with_state e s (state_in c.args.self.now) f) c.asked_by-asked.ensures

pub returns-then-leq-clause-joined : goal.returns-then-leq-clause-joined
returns-then-leq-clause-joined c edit is kind =
    not_raised (state_in c.args.self.now) edit (subst (λ k. rank (state_of k) ≤ rank (state_in c.args.self.now (edit_edge edit))) (sym kind) (at_most c (edit_edge edit) is))

pub returns-then-leq-clause-state : goal.returns-then-leq-clause-state
returns-then-leq-clause-state c e is = not_raised_at (state_in c.args.self.now) e (state_of c.args.kind) (at_most c e is)

pub returns-then-leq-clause-change : goal.returns-then-leq-clause-change
returns-then-leq-clause-change c e is = at_most c e is

pub returns-clause-joined : goal.returns-clause-joined
returns-clause-joined c edit is kind =
    let g = state_in c.args.self.now in
    raised g (state_in c.set_state_at.new.self) edit (λ f. set c (edit_edge edit) is f ∙ ap (λ k. with_state (edit_edge edit) (state_of k) g f) (sym kind))
    (subst (λ k. rank (g (edit_edge edit)) < rank (state_of k)) (sym kind) (below c (edit_edge edit) is))

pub returns-clause-state : goal.returns-clause-state
returns-clause-state c e is = raised_at (state_in c.args.self.now) (state_in c.set_state_at.new.self) e (state_of c.args.kind) (set c e is) (below c e is)

pub returns-clause-change : goal.returns-clause-change
returns-clause-change c e is = (c.state_at-old.ensures e is, below c e is)
