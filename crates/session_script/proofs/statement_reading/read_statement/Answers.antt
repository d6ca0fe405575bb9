use Rattle.session_script.proofs.NotRead.{form_fault}
use Rattle.session_script.proofs.statement_reading.read_statement.Goals as goal

pub returns-in-Err-clause-form_fault : goal.returns-in-Err-clause-form_fault
returns-in-Err-clause-form_fault c = form_fault c.args.version c.args.line.now c.in-Some-after_word.rest.now c.in-Err.fault c.in-Some-after_word.ensures.found c.in-Err.ensures.fault

pub returns-in-Some-clause-says : goal.returns-in-Some-clause-says
returns-in-Some-clause-says c = record { in_range = c.in-Some.ensures.in_range; of_version = c.in-Some.ensures.of_versions c.args.version; text = c.in-Some.ensures.found }
