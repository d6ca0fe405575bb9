use Rattle.std.proofs.Common.{ap, ◌∙◌, None}
use Rattle.std.specs.Prelude.{unwrap_or}
use Rattle.mark_store.specs.Places.{place_at}
use Rattle.mark_store.proofs.Lookups.{lookup_is_place}
use Rattle.mark_store.proofs.vertex_map.VertexMap.get.Goals as goal

pub returns-in-None : goal.returns-in-None
returns-in-None g c =
    c.unwrap_or.ensures
    ∙ ap (λ o. unwrap_or o None)
    (c.copied.ensures ∙ c.get.ensures.value ∙ lookup_is_place c.self.inside.places.entries c.args.vertex.now ∙ ap (λ places. place_at places c.args.vertex.now) c.self.view_is)
