use Rattle.std.proofs.Common.{◌≡◌, List, subst}
use Rattle.std.specs.Prelude.{IfOk}
use Rattle.grove_edits.specs.declared.vertex.Vertex.{Vertex}
use Rattle.graph_words.proofs.Found.{roots_are_cycles}
use Rattle.unicycle_roots.proofs.roots.cycle_roots.Goals as goal

pub returns : goal.returns
returns g c =
    let is = roots_are_cycles (g.P.ParentOf.live c.args.parents.now) c.args.vertices.now c.in_ok-roots.roots.keys c.in_ok-roots.ensures.roots in
    record { roots = subst (λ (xs : List Vertex). IfOk c.held.result (λ found. found.items ≡ xs)) is c.held.ensures; ticks = c.in_ok-roots.ensures.ticks }
