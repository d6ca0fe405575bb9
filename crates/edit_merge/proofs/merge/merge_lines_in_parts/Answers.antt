use Rattle.std.proofs.Common.{[], sym, subst}
use Rattle.edit_merge.specs.Named.{DoStand, IsWritten}
use Rattle.edit_merge.proofs.Moved.{DoStand-moved, merged}
use Rattle.edit_merge.proofs.merge.merge_lines_in_parts.Goals as goal

pub write_lines-requires-clause-stand : goal.write_lines-requires-clause-stand
write_lines-requires-clause-stand g c =
    let named = c.in_ok-named.ensures.named in
    subst (DoStand c.args.version c.args.lines.now) (sym c.deref.ensures.value)
    (DoStand-moved c.args.version c.args.lines.now c.in_ok-named.named.items c.sort_in_parts.new.lines.items c.sort_in_parts.ensures.permutation (named.edits, named.stand))

pub returns-clause-merged : goal.returns-clause-merged
returns-clause-merged g c =
    let text = c.args.lines.now in
    let out = c.in_ok-write_lines.field-0.items in
    merged c.args.version text c.in_ok-named.named.items c.sort_in_parts.new.lines.items out c.sort_in_parts.ensures.permutation c.in_ok-named.ensures.named
    (subst (λ lines. IsWritten c.args.version text lines [] out) c.deref.ensures.value c.in_ok-write_lines.ensures)
