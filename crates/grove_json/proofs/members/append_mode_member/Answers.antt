use Rattle.std.proofs.Common.{refl}
use Rattle.std.specs.Prelude.{codes}
use Rattle.json.specs.Print.{escape_byte}
use Rattle.std.specs.Option.{option_map}
use Rattle.mark_step.specs.Node.{wanted_at}
use Rattle.grove_printer.specs.Print.{mode_column}
use Rattle.grove_json.proofs.Plain.{mode_plain}
use Rattle.grove_json.proofs.Texts.{member_written}
use Rattle.grove_json.proofs.members.append_mode_member.Goals as goal

pub returns-clause-appended : goal.returns-clause-appended
unfolding escape_byte
returns-clause-appended c =
    member_written c.args.out.now.items c.write_short.new.out.items c.append_mode.new.out.items c.push.new.self.items _ (codes "mode") (mode_column c.args.sort (option_map (wanted_at c.args.types.now) c.args.mode))
    c.in_ok-write_short.ensures.appended c.in_ok-append_mode.ensures.appended c.in_ok-push.ensures.items refl (mode_plain c.args.sort (option_map (wanted_at c.args.types.now) c.args.mode))
