use Rattle.grove_editor.proofs.reading.read_edits.Goals as goal

pub returns-in-Err-clause-fault : goal.returns-in-Err-clause-fault
returns-in-Err-clause-fault c = c.fault_of_text.ensures
