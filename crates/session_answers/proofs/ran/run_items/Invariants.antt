use Rattle.std.proofs.Common.{take}
use Rattle.session_answers.specs.Running.{IsBehind}
use Rattle.session_answers.proofs.ran.run_items.Given as goal

abbrev pub invariant-loop-index : goal.invariant-loop-index
invariant-loop-index g l = IsBehind l.session (take l.index l.item-items) l.running
