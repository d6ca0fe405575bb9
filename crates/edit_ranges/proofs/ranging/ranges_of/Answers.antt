use Rattle.std.proofs.Common.{ap, ◌∙◌, Result, Ok, Err, IfOk}
use Rattle.std.specs.Prelude.{List}
use Rattle.edit_ranges.specs.declared.name_range.NameRange.{NameRange}
use Rattle.edit_ranges.specs.Ranges.{are_ranges, tell}
use Rattle.edit_ranges.specs.Facts.{ranges_of}
use Rattle.edit_ranges.proofs.Grouping.{in_order_moved, told_moved}
use Rattle.edit_ranges.proofs.ranging.ranges_of.Goals as goal

-- what holds of the one value that an answer may have holds of the answer
if_ok : {T E : Type 0} (P Q : T → Type 0) (r : Result T E) → IfOk r P → ((x : T) → P x → Q x) → IfOk r Q
if_ok P Q (Ok x) h f = f x h
if_ok P Q (Err e) h f = tt

pub returns-clause-in_order : goal.returns-clause-in_order
returns-clause-in_order c =
    if_ok _ _ c.ranges_of_sorted.result c.ranges_of_sorted.ensures (λ ranges is.
    ap are_ranges (is ∙ ap ranges_of c.deref.ensures.value)
    ∙ in_order_moved c.args.facts.items c.sort_unstable.new.self.items c.sort_unstable.ensures.permutation c.sort_unstable.ensures.sorted c.requires.in_range)

pub returns-clause-told : goal.returns-clause-told
returns-clause-told c =
    if_ok _ _ c.ranges_of_sorted.result c.ranges_of_sorted.ensures (λ ranges is told name.
    ap (λ (rs : List NameRange). tell rs told name) (is ∙ ap ranges_of c.deref.ensures.value)
    ∙ told_moved c.args.facts.items c.sort_unstable.new.self.items told name c.sort_unstable.ensures.permutation c.sort_unstable.ensures.sorted)
