use Rattle.std.proofs.Common.{sym, ap, ◌∙◌}
use Rattle.numbers_by_name.specs.ByName.{numbers_of}
use Rattle.numbers_by_name.proofs.Listed.{numbers_listed}
use Rattle.numbers_by_name.proofs.numbers_by_name.NumbersByName.with_name.Goals as goal

pub returns : goal.returns
returns c = c.numbers.ensures ∙ sym (numbers_listed c.self.inside.pages c.args.name) ∙ ap (λ lists. numbers_of lists c.args.name) c.self.view_is
