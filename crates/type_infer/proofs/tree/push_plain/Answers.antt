use Rattle.std.proofs.Common.{reverse, ap, ◌∙◌}
use Rattle.type_infer.proofs.StepLemmas.{plain_more}
use Rattle.type_infer.proofs.tree.push_plain.Goals as goal

pub loop-preserved : goal.loop-preserved
loop-preserved c = ap reverse c.in_ok-push.ensures.items ∙ plain_more c.loop.counter c.loop.places.items (reverse c.args.places.now.items) c.loop.invariant
