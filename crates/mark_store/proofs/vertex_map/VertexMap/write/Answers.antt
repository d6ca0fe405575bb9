use Rattle.std.proofs.Common.{subst, sym, ap, ◌∙◌}
use Rattle.indexmap.specs.IndexMap.{IndexMap, set_value_at}
use Rattle.mark_store.proofs.Lookups.{Writes, writes_through, writes_nothing, writes_at}
use Rattle.mark_store.proofs.vertex_map.VertexMap.write.Goals as goal

pub returns-in_default : goal.returns-in_default
returns-in_default g c =
    let same = ap (λ (m : IndexMap _ _ _). m.entries) c.get_mut.follows.holds-at-none in
    subst (λ after. Writes c.args.vertex.now c.args.value c.args.self.now after) (sym c.self.view_is ∙ sym same)
    (subst (λ places. Writes c.args.vertex.now c.args.value places places) c.self.view_is
    (writes_nothing c.args.vertex.now c.args.value c.self.inside.places.entries c.in_default.ensures.value))

pub returns-then-is_at : goal.returns-then-is_at
returns-then-is_at g c =
    let there = c.is_at.ensures c.if-is_at.true in
    subst (λ before. Writes c.args.vertex.now c.args.value before (set_value_at c.self.inside.places.entries c.guess-guess.result c.args.value)) c.self.view_is
    (writes_at c.args.vertex.now c.self.inside.places c.guess-guess.result there.0 c.args.value c.len-places.ensures.unique there.1)

pub returns : goal.returns
returns g c =
    subst (λ before. Writes c.args.vertex.now c.args.value before (c.get_mut.follows.lender c.args.value).entries) c.self.view_is
    (writes_through c.args.vertex.now c.self.inside.places (c.get_mut.follows.lender c.args.value) c.in-Some.place.now c.args.value c.in-Some.ensures.value (c.get_mut.follows.holds c.args.value))
