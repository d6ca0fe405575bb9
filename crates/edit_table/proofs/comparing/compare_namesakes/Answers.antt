use Rattle.edit_table.specs.Keys.{vertices_of}
use Rattle.edit_table.proofs.Orders.{namesakes}
use Rattle.edit_table.proofs.comparing.compare_namesakes.Goals as goal

pub returns : goal.returns
returns c =
    namesakes (vertices_of c.args.ranked.now.ctors.now c.args.keys.now) c.args.a.now c.args.b.now c.compare_numbered-sources.result c.cmp-positions.result c.compare_numbered-targets.result c.cmp-kinds.result
    c.then.result c.then-2.result c.then-3.result c.requires c.compare_numbered-sources.ensures c.cmp-positions.ensures c.compare_numbered-targets.ensures c.cmp-kinds.ensures
    c.then.ensures c.then-2.ensures c.then-3.ensures
