use Rattle.std.proofs.Common.{◌∷◌, [], map, ap, sym, ◌∙◌}
use Rattle.std.specs.Prelude.{option_to_list}
use Rattle.marking.specs.Added.{with_added}
use Rattle.marking.specs.Reading.{meant}
use Rattle.kept_printer.specs.Above.{Above, counted}
use Rattle.kept_printer.specs.Parents.{parent_at}
use Rattle.kept_printer.proofs.taking.counted.Goals as goal

pub returns-in-Some-clause-counted : goal.returns-in-Some-clause-counted
returns-in-Some-clause-counted c =
    λ types node. ap (λ (a : Above). a ∷ []) (c.after.ensures.after types node)
    ∙ ap (λ p. counted (meant types (with_added node c.args.added.now)) (map (parent_at types) (option_to_list p))) (sym c.in-Some.is)
