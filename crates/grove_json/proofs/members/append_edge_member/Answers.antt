use Rattle.std.proofs.Common.{refl}
use Rattle.std.specs.Prelude.{codes}
use Rattle.json.specs.Print.{escape_byte}
use Rattle.std.specs.Option.{option_map}
use Rattle.grove_terms.specs.Lent.{edge_of}
use Rattle.grove_printer.specs.Print.{edge_column}
use Rattle.grove_json.proofs.Plain.{edge_plain}
use Rattle.grove_json.proofs.Texts.{member_written}
use Rattle.grove_json.proofs.members.append_edge_member.Goals as goal

pub returns : goal.returns
unfolding escape_byte
returns c =
    member_written c.args.out.now.items c.write_short.new.out.items c.append_edge.new.out.items c.push.new.self.items _ (codes "edge") (edge_column (option_map edge_of c.args.edge))
    c.in_ok-write_short.ensures.appended c.in_ok-append_edge.ensures.appended c.in_ok-push.ensures.items refl (edge_plain (option_map edge_of c.args.edge))
