use Rattle.numbers_by_name.proofs.Found.{if_none_some}
use Rattle.numbers_by_name.proofs.Last.{none_before_page}
use Rattle.numbers_by_name.proofs.pages.Pages.+last_before.Goals as goal

pub returns-in-None-clause-none : goal.returns-in-None-clause-none
returns-in-None-clause-none t c =
    if_none_some c.last_before.result (none_before_page c.args.self.now c.args.author c.args.before c.in_ok-page.page c.in_ok-page.ensures.last c.in-None.ensures.none) c.last_before.ensures.none
