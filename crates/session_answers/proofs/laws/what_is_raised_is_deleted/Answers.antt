use Rattle.session_answers.proofs.Raised.{raised_are_deleted, held_is_had}
use Rattle.session_answers.proofs.laws.what_is_raised_is_deleted.Goals as goal

pub returns-clause-deleted : goal.returns-clause-deleted
returns-clause-deleted c = λ session block first_send firsts lasts journals is run number first last is_first is_last opens.
    raised_are_deleted session block first_send firsts journals lasts is run number first last is_first is_last opens

pub returns-clause-held : goal.returns-clause-held
returns-clause-held c = λ session block first_send firsts lasts journals is run number first last is_first is_last opens.
    held_is_had session block first_send firsts journals lasts is run number first last is_first is_last opens
