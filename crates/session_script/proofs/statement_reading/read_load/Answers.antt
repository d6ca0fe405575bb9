use Rattle.session_script.proofs.NotRead.{load_fault}
use Rattle.session_script.proofs.statement_reading.read_load.Goals as goal

pub returns-in-Err-clause-fault : goal.returns-in-Err-clause-fault
returns-in-Err-clause-fault c = load_fault c.args.version c.args.text.now c.in-Some.rest.now c.in-Some.replica c.in-Err.fault c.in-Some.ensures.of_version c.in-Some.ensures.found c.in-Err.ensures.first_fault
