use Rattle.numbers_by_name.proofs.Last.{end_of}
use Rattle.numbers_by_name.proofs.pages.Pages.+last_before.Given as goal

abbrev pub decreases-last_before : goal.decreases-last_before
decreases-last_before l = end_of l.before
