use Rattle.edit_merge.proofs.Standing.{read_has_no_fault, read_stands}
use Rattle.edit_merge.proofs.writing.read_again.Goals as goal

pub unreachable-requires : goal.unreachable-requires
unreachable-requires c =
    read_has_no_fault c.args.version c.args.text.now c.args.line c.line_at.result.now c.in-Err.field-0 c.requires (c.line_at.ensures c.args.version) c.in-Err.ensures.first_fault

pub returns : goal.returns
returns c =
    read_stands c.args.version c.args.text.now c.args.line c.line_at.result.now c.in-Ok.edit c.requires (c.line_at.ensures c.args.version) c.in-Ok.ensures.edit
