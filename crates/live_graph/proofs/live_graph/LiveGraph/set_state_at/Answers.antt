use Rattle.std.proofs.Common.{length, ap, subst, ◌∙◌}
use Rattle.grove_edits.specs.Graph.{IsSame}
use Rattle.graph_words.specs.States.{Entries, state_in, with_state}
use Rattle.live_graph.specs.NumberOf.{IsNumberOf, KeepsNumbersOf}
use Rattle.live_graph.proofs.Counts.{names_set}
use Rattle.live_graph.proofs.Names.{names_kept}
use Rattle.live_graph.proofs.NumbersStay.{numbers_kept}
use Rattle.live_graph.proofs.live_graph.LiveGraph.set_state_at.Goals as goal

pub returns-clause-state : goal.returns-clause-state
returns-clause-state c e =
    let entries = c.self.inside.edges.entries in
    let after = c.set_counted_state.new.edges.entries in
    subst (λ (es : Entries). IsNumberOf es e c.args.number → IsSame (state_in after) (with_state e c.args.state (state_in es))) c.self.view_is
    (λ is f. c.set_counted_state.ensures.graph f ∙ ap (λ x. with_state x c.args.state (state_in entries) f) is.1)

pub returns-clause-numbers_stay : goal.returns-clause-numbers_stay
returns-clause-numbers_stay c =
    let after = c.set_counted_state.new.edges in
    subst (λ (es : Entries). KeepsNumbersOf es after.entries) c.self.view_is (numbers_kept c.self.inside.edges after c.set_counted_state.ensures.set.numbers)

pub invariant_of-self : goal.invariant_of-self
invariant_of-self c = record {
  listed = c.set_counted_state.ensures.listed;
  counted = c.set_counted_state.ensures.counted;
  named = names_kept c.self.inside.edges c.set_counted_state.new.edges c.self.inside.edge_names c.self.inside.edge_names c.set_counted_state.ensures.set.kept_edges (λ name n held. held) c.self.invariant.named;
  used = c.recount_ends.ensures.uses c.set_counted_state.new.edges c.set_counted_state.ensures.set;
  vertices_named = names_set c.self.inside.edges c.set_counted_state.new.edges (length c.self.inside.uses.items) (length c.recount_ends.new.uses.items) c.self.inside.vertex_names
      c.set_counted_state.ensures.set.vertices c.recount_ends.ensures.count c.self.invariant.vertices_named;
}
