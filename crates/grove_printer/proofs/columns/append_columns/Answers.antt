use Rattle.grove_printer.specs.Print.{Extends}
use Rattle.grove_printer.proofs.Extending.{extends_appended, extends_on_error}
use Rattle.grove_printer.proofs.columns.append_columns.Goals as goal

pub returns-clause-in_part : goal.returns-clause-in_part
returns-clause-in_part c =
    let place : Extends c.args.out.now.items c.append_place.new.out.items = (_, c.in_ok-append_place.ensures.appended) in
    let space = extends_appended _ _ _ _ place c.in_ok-push.ensures.items in
    let vertex = extends_appended _ _ _ _ space c.in_ok-append_vertex.ensures.appended in
    extends_on_error c.append_what.result _ _ _ (extends_appended _ _ _ _ vertex c.in_ok-push-2.ensures.items) c.append_what.ensures.in_part
