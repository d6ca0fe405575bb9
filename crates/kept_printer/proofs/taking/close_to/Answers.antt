use Rattle.std.proofs.Common.{ap, ◌∙◌, subst, sym}
use Rattle.std.proofs.lemmas.List.Elements.{All-take}
use Rattle.kept_printer.specs.Parents.{parents_at, IsParentOf, AreParentsOf}
use Rattle.kept_printer.proofs.Stack.{cut}
use Rattle.kept_printer.proofs.taking.close_to.Goals as goal

pub returns-clause-left : goal.returns-clause-left
returns-clause-left c = λ types. ap (parents_at types) c.truncate.ensures.items ∙ cut types c.args.depth c.args.parents.now.items

pub returns-clause-numbers : goal.returns-clause-numbers
returns-clause-numbers c = λ types are. subst (AreParentsOf types) (sym c.truncate.ensures.items) (All-take (IsParentOf types) c.args.depth c.args.parents.now.items are)
