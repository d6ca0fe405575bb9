use Rattle.std.proofs.Common.{sym}
use Rattle.numbers_by_name.proofs.Added.{place_within}
use Rattle.numbers_by_name.proofs.pages.Pages.place.Goals as goal

pub returns-clause-bound : goal.returns-clause-bound
returns-clause-bound c = place_within c.args.self.now.list.items c.args.self.now.places.entries c.requires c.args.page c.in_ok-get.field-0.now (sym c.in_ok-get.ensures.value)
