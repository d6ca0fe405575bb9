use Rattle.std.proofs.Common.{arith, sym, ◌<◌, ◌∙◌}
use Rattle.ctx_table.proofs.TableLemmas.{entry_link, entry_way}
use Rattle.ctx_table.proofs.ways.nearest.Goals as goal

pub returns-in-Some-default-Map : goal.returns-in-Some-default-Map
returns-in-Some-default-Map c =
    entry_way c.args.links.now.entries c.args.ctx.0 _ _ (omega (arith, c.if-ctx-eq0.false)) (sym c.in-Some-default-Map.ensures.entry)
    ∙ c.in-Some-default-Map.field-0-1-is

pub returns-in-Some-default-Outward : goal.returns-in-Some-default-Outward
returns-in-Some-default-Outward c =
    let positive : 0 < c.args.ctx.0 = omega (arith, c.if-ctx-eq0.false) in
    (positive, entry_link c.args.links.now.entries c.args.ctx.0 _ _ positive (sym c.in-Some-default-Outward.ensures.entry))
