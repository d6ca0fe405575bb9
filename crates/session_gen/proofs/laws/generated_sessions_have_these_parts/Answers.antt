use Rattle.session_gen.proofs.Values.{has_parts}
use Rattle.session_gen.proofs.laws.generated_sessions_have_these_parts.Goals as goal

pub returns : goal.returns
returns c = has_parts
