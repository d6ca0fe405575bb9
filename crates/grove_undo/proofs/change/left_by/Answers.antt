use Rattle.std.proofs.Common.{ap, ◌∙◌}
use Rattle.std.specs.List.{list_any}
use Rattle.grove_edits.specs.Graph.{graph_join}
use Rattle.graph_words.specs.Live.{holds_edge}
use Rattle.graph_words.specs.States.{state_in}
use Rattle.live_graph.specs.Live.{live}
use Rattle.user_actions.specs.NamedEdges.{is_live_in}
use Rattle.grove_undo.specs.Places.{is_place}
use Rattle.grove_undo.proofs.Changed.{left_held}
use Rattle.grove_undo.proofs.change.left_by.Goals as goal

pub returns-clause-left : goal.returns-clause-left
returns-clause-left c e =
    c.sort_edges.ensures.same e ∙ ap (holds_edge e) c.in_ok-extend_from_slice.ensures.items
    ∙ left_held (is_live_in (graph_join (state_in c.args.graph.now) (state_in c.args.asked.now))) c.args.removed.now c.args.added.now (live c.args.graph.now) c.deref.result.now
    c.in_ok-standing.standing.items c.deref-2.result.now c.in_ok-left.left.items (λ v p. ap (list_any (is_place v p)) c.deref.ensures.value ∙ c.in_ok-places.ensures v p) c.in_ok-standing.ensures.standing
    c.deref-2.ensures.value c.in_ok-left.ensures e
