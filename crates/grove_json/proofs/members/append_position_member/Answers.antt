use Rattle.std.proofs.Common.{refl}
use Rattle.std.specs.Prelude.{codes}
use Rattle.json.specs.Print.{escape_byte}
use Rattle.grove_printer.specs.Print.{position_column}
use Rattle.grove_json.proofs.Plain.{position_plain}
use Rattle.grove_json.proofs.Texts.{member_written}
use Rattle.grove_json.proofs.members.append_position_member.Goals as goal

pub returns : goal.returns
unfolding escape_byte
returns c =
    member_written c.args.out.now.items c.write_short.new.out.items c.append_position.new.out.items c.push.new.self.items _ (codes "position") (position_column c.args.position)
    c.in_ok-write_short.ensures.appended c.in_ok-append_position.ensures.appended c.in_ok-push.ensures.items refl (position_plain c.args.position)
