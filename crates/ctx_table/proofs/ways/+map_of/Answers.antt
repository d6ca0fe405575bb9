use Rattle.std.proofs.Common.{arith, ap, length, refl}
use Rattle.std.proofs.lemmas.Map.Entries.{length-keys_of}
use Rattle.ctx_table.proofs.TableLemmas.{map_at, length-table, near_context, IsMapped-kept, made_map, made_mapped, made_same}
use Rattle.ctx_table.proofs.ways.+map_of.Goals as goal

pub returns-in-Mapped-clause-map : goal.returns-in-Mapped-clause-map
returns-in-Mapped-clause-map t c =
    map_at c.args.links.now.entries _ _ _ c.requires.mapped refl c.args.ctx.0 _ (omega (arith, c.requires.within, length-table c.args.links.now.entries _ refl)) c.in-Mapped.ensures

pub map_of-requires : goal.map_of-requires
map_of-requires t c =
    let before = (near_context c.args.links.now.entries c.requires.mapped.table c.args.ctx.0 c.in-Bound.link c.requires.within c.in-Bound.ensures).1 in (
      omega (arith, c.decreases, before),
      (c.requires.mapped, omega (arith, c.requires.within, before)),
    )

pub returns-in_err-root-clause-mapped : goal.returns-in_err-root-clause-mapped
returns-in_err-root-clause-mapped t c =
    let below = c.in_ok-outer.ensures.mapped in
    let names = c.in_ok-number.ensures in
    let scopes = c.in_err-root.ensures in
    IsMapped-kept _ _ _ _ names.kept below.arena scopes.kept _ below names.numbered scopes.arena

pub index_mut-requires : goal.index_mut-requires
index_mut-requires t c =
    let positive = c.in-Bound.ensures.0 in
    let same = ap length c.in_ok-outer.ensures.same in
    omega (arith, c.requires.within, positive, same, length-keys_of c.map_of.new.links.entries, length-keys_of c.args.links.now.entries)

pub returns-clause-mapped : goal.returns-clause-mapped
returns-clause-mapped t c =
    let below = c.in_ok-outer.ensures in
    let names = c.in_ok-number.ensures in
    let scopes = c.in_ok-root.ensures in
    made_mapped c.args.links.now.entries c.map_of.new.links.entries _ _ _ _ c.args.ctx.0 c.in-Bound.link c.in_ok-outer.outer c.in_ok-root.root c.in_ok-number.number
    c.requires.within c.in-Bound.ensures below.mapped below.same below.map names.numbered names.kept names.number scopes.arena scopes.kept scopes.map

pub returns-clause-same : goal.returns-clause-same
returns-clause-same t c =
    let below = c.in_ok-outer.ensures in
    let names = c.in_ok-number.ensures in
    let scopes = c.in_ok-root.ensures in
    made_same c.args.links.now.entries c.map_of.new.links.entries _ _ _ _ c.args.ctx.0 c.in-Bound.link c.in_ok-outer.outer c.in_ok-root.root c.in_ok-number.number
    c.requires.within c.in-Bound.ensures below.mapped below.same below.map names.numbered names.kept names.number scopes.arena scopes.kept scopes.map

pub returns-clause-map : goal.returns-clause-map
returns-clause-map t c =
    let below = c.in_ok-outer.ensures in
    let names = c.in_ok-number.ensures in
    let scopes = c.in_ok-root.ensures in
    made_map c.args.links.now.entries c.map_of.new.links.entries _ _ _ _ c.args.ctx.0 c.in-Bound.link c.in_ok-outer.outer c.in_ok-root.root c.in_ok-number.number
    c.requires.within c.in-Bound.ensures below.mapped below.same below.map names.numbered names.kept names.number scopes.arena scopes.kept scopes.map
