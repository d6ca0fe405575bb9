use Rattle.judging.proofs.Filling.{types_of_row}
use Rattle.judging.proofs.view.types_so_far.Goals as goal

pub returns : goal.returns
returns c =
    types_of_row c.args.vertex.now.given c.args.vertex.now.next c.type_before.result c.type_before-2.result c.type_before-3.result c.type_before-4.result c.type_before-5.result
    (c.type_before.ensures.given, c.type_before.ensures.none) (c.type_before-2.ensures.given, c.type_before-2.ensures.none) (c.type_before-3.ensures.given, c.type_before-3.ensures.none)
    (c.type_before-4.ensures.given, c.type_before-4.ensures.none) (c.type_before-5.ensures.given, c.type_before-5.ensures.none)
