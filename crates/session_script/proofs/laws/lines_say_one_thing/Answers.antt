use Rattle.session_script.proofs.Statements.{one_statement, not_nothing, no_bad_edge, kept_in_two, author_line}
use Rattle.session_script.proofs.Scripts.{one_line_fault}
use Rattle.session_script.proofs.laws.lines_say_one_thing.Goals as goal

pub returns-clause-one : goal.returns-clause-one
returns-clause-one c = λ version. one_statement version version

pub returns-clause-not_nothing : goal.returns-clause-not_nothing
returns-clause-not_nothing c = not_nothing

pub returns-clause-no_bad_edge : goal.returns-clause-no_bad_edge
returns-clause-no_bad_edge c = no_bad_edge

pub returns-clause-one_fault : goal.returns-clause-one_fault
returns-clause-one_fault c = one_line_fault

pub returns-clause-kept_in_two : goal.returns-clause-kept_in_two
returns-clause-kept_in_two c = kept_in_two

pub returns-clause-author_line : goal.returns-clause-author_line
returns-clause-author_line c = author_line
