use Rattle.std.proofs.Common.{◌≡◌, ◌++◌, reverse, replicate}
use Rattle.type_infer.specs.declared.tree.Place.TheVariants.{Plain}
use Rattle.type_infer.proofs.tree.push_plain.Given as goal

abbrev pub invariant-loop : goal.invariant-loop
invariant-loop l = reverse l.places.items ≡ replicate l.counter Plain ++ reverse l.initial.places.items
