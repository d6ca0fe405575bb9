use Rattle.type_core.proofs.NodeLemmas.{KeepsTypes-trans}
use Rattle.mark_tests.proofs.type_core_tests.doubled.Goals as goal

pub loop-i-preserved : goal.loop-i-preserved
loop-i-preserved c =
    (c.in_ok-t.ensures.number, KeepsTypes-trans _ _ _ c.loop-i.invariant.1 c.in_ok-t.ensures.kept)
