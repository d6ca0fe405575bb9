use Rattle.edit_text.proofs.Lines.{each_in_two, one_edit, edit_or_fault, one_fault, no_prefix, kept_in_two}
use Rattle.edit_text.proofs.laws.lines_are_exact.Goals as goal

pub returns-clause-each_in_two : goal.returns-clause-each_in_two
returns-clause-each_in_two c = each_in_two

pub returns-clause-one_edit : goal.returns-clause-one_edit
returns-clause-one_edit c = one_edit

pub returns-clause-edit_or_fault : goal.returns-clause-edit_or_fault
returns-clause-edit_or_fault c = edit_or_fault

pub returns-clause-one_fault : goal.returns-clause-one_fault
returns-clause-one_fault c = one_fault

pub returns-clause-no_prefix : goal.returns-clause-no_prefix
returns-clause-no_prefix c = no_prefix

pub returns-clause-kept_in_two : goal.returns-clause-kept_in_two
returns-clause-kept_in_two c = kept_in_two
