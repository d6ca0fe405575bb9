use Rattle.grove_top.proofs.commands.merge_text_in_parts.Goals as goal

pub returns-in-Err-clause-fault : goal.returns-in-Err-clause-fault
returns-in-Err-clause-fault g c =
    c.fault_of_text.ensures c.args.text.now c.split_version-version.result.1.now c.split_version-version.ensures c.in-Err.ensures.fault
