use Rattle.std.proofs.Common.{◌≡◌, ◌≤◌, length, take, ap, sym, ◌∙◌, arith}
use Rattle.std.proofs.lemmas.Bool.{eqb-true}
use Rattle.std.proofs.lemmas.List.{take_all}
use Rattle.grove_edits.specs.Graph.{graph}
use Rattle.live_graph.proofs.Listing.{made_more, all_made}
use Rattle.live_graph.proofs.whole.are_edits.Goals as goal

pub loop-number-preserved : goal.loop-number-preserved
loop-number-preserved c = (
  c.in-Some.ensures.within,
  made_more c.args.edges.now c.deref-number-items.result.now c.loop-number.number-index (take c.loop-number.at c.args.edits.now) (take c.in-Some.next c.args.edits.now) c.loop-number-test.true
      c.loop-number.invariant.1 c.in-Some.ensures.told,
)

pub returns : goal.returns
returns c listed e =
    let last : c.loop-number.at ≡ length c.args.edits.now = eqb-true c.loop-number.at (length c.args.edits.now) listed in
    let whole : length c.args.edits.now ≤ c.loop-number.at = omega (arith, last) in
    ap (λ l. graph l e) (sym (take_all c.loop-number.at c.args.edits.now whole))
    ∙ all_made c.args.edges.now c.edge_count-count.ensures.once c.args.names.now c.requires c.deref-number-items.result.now c.loop-number.number-index (take c.loop-number.at c.args.edits.now)
    (c.deref-number-items.ensures.value ∙ c.in_ok-numbers.ensures) (omega arith) c.loop-number.invariant.1 e
