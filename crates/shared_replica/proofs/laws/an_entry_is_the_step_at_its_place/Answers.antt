use Rattle.shared_replica.proofs.Turns.{step_at}
use Rattle.shared_replica.proofs.laws.an_entry_is_the_step_at_its_place.Goals as goal

pub returns-clause-effect : goal.returns-clause-effect
returns-clause-effect g c first before behind e s = let b = g.M.Machine in (step_at b.after b.effect b.reply first before behind e s).0

pub returns-clause-reply : goal.returns-clause-reply
returns-clause-reply g c first before behind e s = let b = g.M.Machine in (step_at b.after b.effect b.reply first before behind e s).1
