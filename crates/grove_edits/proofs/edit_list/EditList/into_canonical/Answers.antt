use Rattle.std.proofs.Common.{List, subst}
use Rattle.std.specs.List.Sorted.{IsPermutation}
use Rattle.grove_edits.specs.declared.edit.Edit.{Edit}
use Rattle.grove_edits.proofs.Unique.{canonical_moved}
use Rattle.grove_edits.proofs.edit_list.EditList.into_canonical.Goals as goal

pub returns : goal.returns
returns c =
    let sorted = c.sort_unstable.new.self.items in
    let moved : IsPermutation c.args.self sorted = subst (λ (xs : List Edit). IsPermutation xs sorted) c.self.view_is c.sort_unstable.ensures.permutation in
    record { canonical = canonical_moved c.args.self sorted c.keep_last_of_each_edge.new.edits.items moved c.keep_last_of_each_edge.ensures }
