use Rattle.text_parts.proofs.Parts.{Lacks-append}
use Rattle.edit_stream.proofs.edit_stream.EditStream.end_line.Goals as goal

pub read_lines-requires : goal.read_lines-requires
read_lines-requires c = record { one_line = rw c.deref.ensures.value (Lacks-append 10 c.self.inside.kept.items c.args.end.now c.self.invariant c.requires.one_line) }
