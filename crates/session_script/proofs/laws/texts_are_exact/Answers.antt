use Rattle.session_script.proofs.InTwo.{session_kept_in_two}
use Rattle.session_script.proofs.Scripts.{one_fault}
use Rattle.session_script.proofs.OneSession.{one_session, session_or_fault}
use Rattle.session_script.proofs.Whole.{spells_one, is_whole}
use Rattle.session_script.proofs.laws.texts_are_exact.Goals as goal

pub returns-clause-some_session : goal.returns-clause-some_session
returns-clause-some_session c = λ text. (spells_one text, λ h. is_whole text h.0 h.1)

pub returns-clause-one_session : goal.returns-clause-one_session
returns-clause-one_session c = one_session

pub returns-clause-one_fault : goal.returns-clause-one_fault
returns-clause-one_fault c = one_fault

pub returns-clause-session_or_fault : goal.returns-clause-session_or_fault
returns-clause-session_or_fault c = session_or_fault

pub returns-clause-kept_in_two : goal.returns-clause-kept_in_two
returns-clause-kept_in_two c = session_kept_in_two
