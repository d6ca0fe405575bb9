use Rattle.std.proofs.Common.{is_some, ap, ◌∙◌}
use Rattle.grove_edits.specs.Vertex.{stands_in}
use Rattle.mark_store.specs.Places.{holds}
use Rattle.mark_store.proofs.Sets.{holds_first, holds_later}
use Rattle.mark_store.proofs.vertex_set.VertexSet.holds.Goals as goal

pub returns-then-is_listed : goal.returns-then-is_listed
returns-then-is_listed c =
    let v = c.args.vertex.now in
    holds_first v c.self.inside.listed.items c.self.inside.others c.is_listed.result (c.is_listed.ensures ∙ ap (stands_in v) c.deref.ensures.value) c.if-is_listed.true
    ∙ ap (λ set. holds set v) c.self.view_is

pub returns-else-is_listed : goal.returns-else-is_listed
returns-else-is_listed c =
    let v = c.args.vertex.now in
    c.is_some.ensures ∙ ap is_some c.get.ensures
    ∙ holds_later v c.self.inside.listed.items c.self.inside.others c.is_listed.result (c.is_listed.ensures ∙ ap (stands_in v) c.deref.ensures.value) c.if-is_listed.false
    ∙ ap (λ set. holds set v) c.self.view_is
