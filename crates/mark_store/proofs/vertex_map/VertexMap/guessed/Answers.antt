use Rattle.std.proofs.Common.{sym, ap, ◌∙◌}
use Rattle.mark_store.specs.Places.{place_at}
use Rattle.mark_store.proofs.Lookups.{found_there}
use Rattle.mark_store.proofs.vertex_map.VertexMap.guessed.Goals as goal

pub returns-then-eq : goal.returns-then-eq
returns-then-eq g c =
    ap (λ places. place_at places c.args.vertex.now) (sym c.self.view_is)
    ∙ found_there c.self.inside.places.entries c.in_ok-found.found.now c.args.vertex.now c.in_ok-found.value.now c.in_ok-found.ensures.value (sym c.eq.ensures ∙ c.if-eq.true)
