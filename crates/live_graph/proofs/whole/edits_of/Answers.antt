use Rattle.std.proofs.Common.{ap, ◌∙◌, arith}
use Rattle.grove_edits.specs.Graph.{graph}
use Rattle.live_graph.proofs.Listing.{made_more, all_made}
use Rattle.live_graph.proofs.whole.edits_of.Goals as goal

pub loop-number-init : goal.loop-number-init
loop-number-init c e = ap (λ l. graph l e) (c.reserve.ensures.unchanged ∙ c.new-edits.ensures.empty)

pub loop-number-preserved : goal.loop-number-preserved
loop-number-preserved c =
    made_more c.args.edges.now c.deref-number-items.result.now c.loop-number.number-index c.loop-number.edits c.push_edit.new.edits c.loop-number-test.true c.loop-number.invariant c.in_ok-push_edit.ensures

pub returns : goal.returns
returns c =
    all_made c.args.edges.now c.edge_count-count.ensures.once c.args.names.now c.requires c.deref-number-items.result.now c.loop-number.number-index c.loop-number.edits (c.deref-number-items.ensures.value ∙ c.in_ok-numbers.ensures) (omega arith) c.loop-number.invariant
