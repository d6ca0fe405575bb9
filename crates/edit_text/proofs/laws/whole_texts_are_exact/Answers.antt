use Rattle.edit_text.proofs.WholeTexts.{one_list, not_malformed, no_rest, one_line, malformed_or_rest, one_rest, kept_in_two}
use Rattle.edit_text.proofs.laws.whole_texts_are_exact.Goals as goal

pub returns-clause-one_list : goal.returns-clause-one_list
returns-clause-one_list c = one_list

pub returns-clause-not_malformed : goal.returns-clause-not_malformed
returns-clause-not_malformed c = not_malformed

pub returns-clause-no_rest : goal.returns-clause-no_rest
returns-clause-no_rest c = no_rest

pub returns-clause-one_line : goal.returns-clause-one_line
returns-clause-one_line c = one_line

pub returns-clause-malformed_or_rest : goal.returns-clause-malformed_or_rest
returns-clause-malformed_or_rest c = malformed_or_rest

pub returns-clause-one_rest : goal.returns-clause-one_rest
returns-clause-one_rest c = one_rest

pub returns-clause-kept_in_two : goal.returns-clause-kept_in_two
returns-clause-kept_in_two c = kept_in_two
