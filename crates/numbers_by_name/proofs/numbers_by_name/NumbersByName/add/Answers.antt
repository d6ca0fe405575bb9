use Rattle.std.proofs.Common.{[], ◌∷◌, ◌++◌, cond, sym, ap, ◌∙◌}
use Rattle.std.proofs.lemmas.Result.{on_ok_weaker, on_err_weaker}
use Rattle.numbers_by_name.specs.ByName.{numbers_of, is_same_name}
use Rattle.numbers_by_name.proofs.Listed.{numbers_listed, lists_same}
use Rattle.numbers_by_name.proofs.numbers_by_name.NumbersByName.add.Goals as goal

pub returns-clause-added : goal.returns-clause-added
returns-clause-added c =
    on_ok_weaker c.add.result
    (λ more n.
    numbers_listed c.add.new.self n ∙ more n
    ∙ ap (λ ns. cond (is_same_name c.args.name n) (ns ++ c.args.number ∷ []) ns) (sym (numbers_listed c.self.inside.pages n) ∙ ap (λ lists. numbers_of lists n) c.self.view_is))
    c.add.ensures.added

pub returns-clause-unchanged : goal.returns-clause-unchanged
returns-clause-unchanged c = on_err_weaker c.add.result (λ same. lists_same c.self.inside.pages c.add.new.self same ∙ c.self.view_is) c.add.ensures.unchanged
