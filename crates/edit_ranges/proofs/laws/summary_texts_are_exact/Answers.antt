use Rattle.edit_ranges.proofs.SummaryTexts.{one_text, summary_or_fault, one_fault}
use Rattle.edit_ranges.proofs.laws.summary_texts_are_exact.Goals as goal

pub returns-clause-one_summary : goal.returns-clause-one_summary
returns-clause-one_summary c = one_text

pub returns-clause-summary_or_fault : goal.returns-clause-summary_or_fault
returns-clause-summary_or_fault c = summary_or_fault

pub returns-clause-one_fault : goal.returns-clause-one_fault
returns-clause-one_fault c = one_fault
