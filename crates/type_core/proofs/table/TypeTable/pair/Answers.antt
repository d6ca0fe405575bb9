use Rattle.type_core.proofs.NodeLemmas.{placed_nodes, placed_added, placed_kept, placed_number, placed_type}
use Rattle.type_core.proofs.RelationLemmas.{IsWhole-grown}
use Rattle.type_core.proofs.table.TypeTable.pair.Goals as goal

pub invariant_of-self-2 : goal.invariant_of-self-2
invariant_of-self-2 c =
    let e = c.in_ok-place.ensures in
    IsWhole-grown _ _ _ _ c.self.view_is c.self.invariant
    (placed_nodes _ _ _ _ c.self.view_is c.self.invariant.table (c.requires.first, c.requires.second) e.added e.once)
    (placed_kept _ _ _ _ c.self.view_is c.self.invariant.table (c.requires.first, c.requires.second) e.added e.once)

pub returns-clause-number : goal.returns-clause-number
returns-clause-number c =
    let e = c.in_ok-place.ensures in
    placed_number _ _ _ _ c.self.view_is c.self.invariant.table (c.requires.first, c.requires.second) e.added e.once _ e.within

pub returns-clause-typ : goal.returns-clause-typ
returns-clause-typ c =
    let e = c.in_ok-place.ensures in
    placed_type _ _ _ _ c.self.view_is c.self.invariant.table (c.requires.first, c.requires.second) e.added e.once _ e.within e.node

pub returns-clause-added : goal.returns-clause-added
returns-clause-added c =
    let e = c.in_ok-place.ensures in
    placed_added _ _ _ _ c.self.view_is c.self.invariant.table (c.requires.first, c.requires.second) e.added e.once

pub returns-clause-kept : goal.returns-clause-kept
returns-clause-kept c =
    let e = c.in_ok-place.ensures in
    placed_kept _ _ _ _ c.self.view_is c.self.invariant.table (c.requires.first, c.requires.second) e.added e.once
