use Rattle.std.proofs.Common.{subst, sym}
use Rattle.grove_edits.specs.Edit.{edit_edge}
use Rattle.edit_merge.specs.EditLine.{edit_of, IsSpelled}
use Rattle.edit_merge.proofs.Copied.{begins_with-first_line}
use Rattle.edit_merge.proofs.writing.begins_with_edge.Goals as goal

pub are_of_one_edge-requires-clause-line : goal.are_of_one_edge-requires-clause-line
are_of_one_edge-requires-clause-line c = (c.requires.0, c.requires.1)

pub are_of_one_edge-requires-clause-other : goal.are_of_one_edge-requires-clause-other
are_of_one_edge-requires-clause-other c =
    let first = c.first-item.result in
    (c.requires.0, (edit_of first, subst (IsSpelled c.requires.0 c.args.text.now) (sym c.first-item.is) (c.requires.2 0 first c.in-len1-up.len_at_least)))

pub returns-in-len1-up : goal.returns-in-len1-up
returns-in-len1-up c = λ version edit stands spelled.
    let first = c.first-item.result in
    let of_first = subst (IsSpelled version c.args.text.now) (sym c.first-item.is) (spelled 0 first c.in-len1-up.len_at_least) in
    begins_with-first_line (edit_edge edit) c.args.lines.now first c.are_of_one_edge.result c.in-len1-up.len_at_least c.first-item.is (c.are_of_one_edge.ensures version edit (edit_of first) stands of_first)
