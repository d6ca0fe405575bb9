use Rattle.std.proofs.Common.{refl}
use Rattle.std.specs.Prelude.{codes}
use Rattle.json.specs.Print.{escape_byte}
use Rattle.grove_terms.specs.Lent.{what_of}
use Rattle.grove_printer.specs.Print.{vertex_column}
use Rattle.grove_json.proofs.Plain.{vertex_plain}
use Rattle.grove_json.proofs.Texts.{member_written}
use Rattle.grove_json.proofs.members.append_vertex_member.Goals as goal

pub returns : goal.returns
unfolding escape_byte
returns c =
    member_written c.args.out.now.items c.write_short.new.out.items c.append_vertex.new.out.items c.push.new.self.items _ (codes "vertex") (vertex_column (what_of c.args.what.now))
    c.in_ok-write_short.ensures.appended c.in_ok-append_vertex.ensures.appended c.in_ok-push.ensures.items refl (vertex_plain (what_of c.args.what.now))
