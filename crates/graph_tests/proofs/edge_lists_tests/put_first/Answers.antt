use Rattle.std.proofs.Common.{◌<◌, ℕ, List, [], length, map, sym, ap, subst}
use Rattle.graph_words.specs.Live.{holds_edge}
use Rattle.edge_numbers.specs.Numbered.{Numbered, edge_at}
use Rattle.edge_lists.specs.Lists.{AreEdgeNumbers, places_at}
use Rattle.edge_lists.specs.Order.{IsInOrder, position_first}
use Rattle.graph_tests.proofs.edge_lists_tests.put_first.Goals as goal

none_known : (edges : Numbered) → AreEdgeNumbers edges []
none_known edges n held = absurd cc

pub put-requires-clause-known : goal.put-requires-clause-known
put-requires-clause-known c = subst (AreEdgeNumbers c.args.edges.now) (sym c.requires.numbers) (none_known c.args.edges.now)

pub put-requires-clause-in_order : goal.put-requires-clause-in_order
put-requires-clause-in_order c = subst (λ ns. IsInOrder position_first (map (edge_at c.args.edges.now) ns)) (sym c.requires.numbers) tt

pub put-requires-clause-new : goal.put-requires-clause-new
put-requires-clause-new c = ap (λ ns. holds_edge (edge_at c.args.edges.now c.args.edge) (map (edge_at c.args.edges.now) ns)) c.requires.numbers

pub put-requires-clause-place : goal.put-requires-clause-place
put-requires-clause-place c = subst (λ (ns : List ℕ). length ns < places_at c.args.lists.now 0) (sym c.requires.numbers) c.requires.place

pub returns : goal.returns
returns c = subst (λ count. 0 < count) (sym c.put.ensures.count) c.requires.vertex
