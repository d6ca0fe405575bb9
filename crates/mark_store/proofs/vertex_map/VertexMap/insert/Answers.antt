use Rattle.std.proofs.Common.{◌≡◌, Some, cond, subst}
use Rattle.grove_edits.specs.declared.vertex.Vertex.{Vertex}
use Rattle.grove_edits.specs.Vertex.{is_same_vertex}
use Rattle.mark_store.specs.Places.{value_at, KeepsRoom}
use Rattle.mark_store.proofs.Lookups.{value_inserted, room_inserted}
use Rattle.mark_store.proofs.vertex_map.VertexMap.insert.Goals as goal

pub returns-clause-put : goal.returns-clause-put
returns-clause-put g c =
    subst (λ before. (v : Vertex) → value_at c.insert.new.self.entries v ≡ cond (is_same_vertex c.args.vertex.now v) (Some c.args.value) (value_at before v)) c.self.view_is
    (value_inserted c.args.vertex.now c.self.inside.places c.insert.new.self c.args.value c.in_ok-insert.ensures.updates)

pub returns-clause-room_stays : goal.returns-clause-room_stays
returns-clause-room_stays g c =
    subst (λ before. KeepsRoom before c.insert.new.self.entries) c.self.view_is
    (room_inserted c.args.vertex.now c.self.inside.places c.insert.new.self c.args.value c.in_ok-insert.ensures.updates)
