use Rattle.std.proofs.Common.{refl}
use Rattle.std.specs.Prelude.{codes}
use Rattle.json.specs.Print.{escape_byte}
use Rattle.std.specs.Option.{option_map}
use Rattle.type_core.specs.TypeTable.{type_at}
use Rattle.grove_printer.specs.Print.{type_column}
use Rattle.grove_json.proofs.Plain.{type_column_plain}
use Rattle.grove_json.proofs.Texts.{member_written}
use Rattle.grove_json.proofs.members.append_type_member.Goals as goal

pub returns-clause-appended : goal.returns-clause-appended
unfolding escape_byte
returns-clause-appended c =
    member_written c.args.out.now.items c.write_short.new.out.items c.append_type.new.out.items c.push.new.self.items _ (codes "type") (type_column (option_map (type_at c.args.types.now) c.args.typ))
    c.in_ok-write_short.ensures.appended c.in_ok-append_type.ensures.appended c.in_ok-push.ensures.items refl (type_column_plain (option_map (type_at c.args.types.now) c.args.typ))
