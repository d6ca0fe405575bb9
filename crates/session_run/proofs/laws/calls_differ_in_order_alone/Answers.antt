use Rattle.session_run.proofs.SameCommands.{same_commands}
use Rattle.session_run.proofs.laws.calls_differ_in_order_alone.Goals as goal

pub returns : goal.returns
returns g c = same_commands
