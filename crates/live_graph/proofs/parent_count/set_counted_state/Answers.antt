use Rattle.std.proofs.Common.{◌≡◌, get_or, ap, ◌∙◌, arith}
use Rattle.grove_edits.specs.Vertex.{stands_in, root}
use Rattle.graph_words.specs.Live.{targets_of}
use Rattle.edge_numbers.specs.Numbered.{edge_at}
use Rattle.live_graph.specs.Live.{live}
use Rattle.live_graph.specs.Around.{once}
use Rattle.live_graph.proofs.Targets.{targets_fit, targets_set}
use Rattle.live_graph.proofs.parent_count.set_counted_state.Goals as goal

pub recount-requires-clause-fits : goal.recount-requires-clause-fits
recount-requires-clause-fits c = omega (arith, c.requires.counted, c.requires.listed.fits, targets_fit c.args.edges.now.entries)

pub returns-clause-counted : goal.returns-clause-counted
returns-clause-counted c =
    let edges = c.args.edges.now in
    let after = c.set_state.new.edges in
    let edge = edge_at edges c.args.number in
    let at = c.target-target.ensures.1 in
    let had : once c.has_parent-had.result ≡ once (stands_in edge.target (targets_of (live edges.entries))) =
    ap once (c.has_parent-had.ensures ∙ ap (λ v. stands_in v (targets_of (live edges.entries))) at) in
    let has : once c.has_parent-has.result ≡ once (stands_in edge.target (targets_of (live after.entries))) =
    ap once (c.has_parent-has.ensures ∙ ap (λ v. stands_in v (targets_of (live after.entries))) (ap (λ vs. get_or vs c.target-target.result root) c.set_state.ensures.set.vertices ∙ at)) in
    let change = targets_set edge c.args.state edges.entries after.entries c.edge_count-before.ensures.once c.edge_count-after.ensures.once c.set_state.ensures.graph in
    omega (arith, had, has, c.recount.ensures, change, c.requires.counted)
