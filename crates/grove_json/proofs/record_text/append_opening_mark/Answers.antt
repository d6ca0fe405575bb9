use Rattle.std.proofs.Common.{refl, ap, ◌∙◌, ◌++◌}
use Rattle.std.specs.Prelude.{codes}
use Rattle.json.specs.Print.{escape_byte}
use Rattle.grove_printer.specs.Print.{mark_text}
use Rattle.grove_json.proofs.Plain.{mark_plain}
use Rattle.grove_json.proofs.Texts.{opening_written}
use Rattle.grove_json.proofs.record_text.append_opening_mark.Goals as goal

pub returns : goal.returns
unfolding escape_byte
returns c =
    opening_written c.args.out.now.items c.write_short.new.out.items c.write_short-2.new.out.items c.push.new.self.items _ (codes "mark") (mark_text c.args.mark)
    c.in_ok-write_short.ensures.appended (c.in_ok-write_short-2.ensures.appended ∙ ap (λ text. c.write_short.new.out.items ++ text) c.mark_word.ensures) c.in_ok-push.ensures.items refl (mark_plain c.args.mark)
