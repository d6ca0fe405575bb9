use Rattle.std.proofs.Common.{sym, subst}
use Rattle.grove_printer.specs.Print.{Extends}
use Rattle.grove_printer.proofs.Extending.{extends_appended}
use Rattle.grove_sorts.proofs.Truths.{after_error}
use Rattle.grove_printer.proofs.marks.append_marks.Goals as goal

pub returns-in_err-push-2-clause-in_part : goal.returns-in_err-push-2-clause-in_part
returns-in_err-push-2-clause-in_part c =
    let mode : Extends c.args.out.now.items c.append_mode.new.out.items = (_, c.in_ok-append_mode.ensures.appended) in
    let space = extends_appended _ _ _ _ mode c.in_ok-push.ensures.items in
    let typ = extends_appended _ _ _ _ space c.in_ok-append_type.ensures.appended in
    after_error c.from_residual-in_err-push-2.result (subst (Extends c.args.out.now.items) (sym c.in_err-push-2.ensures.items) typ)

pub returns-in_err-write_short-clause-in_part : goal.returns-in_err-write_short-clause-in_part
returns-in_err-write_short-clause-in_part c =
    let mode : Extends c.args.out.now.items c.append_mode.new.out.items = (_, c.in_ok-append_mode.ensures.appended) in
    let space = extends_appended _ _ _ _ mode c.in_ok-push.ensures.items in
    let typ = extends_appended _ _ _ _ space c.in_ok-append_type.ensures.appended in
    let second = extends_appended _ _ _ _ typ c.in_ok-push-2.ensures.items in
    after_error c.from_residual-in_err-write_short.result (subst (Extends c.args.out.now.items) (sym c.in_err-write_short.ensures.unchanged) second)
