use Rattle.std.proofs.Common.{◌≡◌, subst, sym, ap, ◌∙◌, is_some}
use Rattle.grove_edits.specs.declared.vertex.Vertex.{Vertex}
use Rattle.grove_edits.proofs.Vertices.{same_vertex_itself}
use Rattle.mark_store.specs.Places.{value_at, HasRoom, KeepsRoom}
use Rattle.mark_store.proofs.Lookups.{GetsRoom, gets_room, lookup_is_place, room_made, value_stays, room_stays, none_from, has_room}
use Rattle.mark_store.proofs.vertex_map.VertexMap.make_room.Goals as goal

pub returns-in_ok-insert-clause-room : goal.returns-in_ok-insert-clause-room
returns-in_ok-insert-clause-room g c =
    let gets : GetsRoom c.args.vertex.now c.self.inside.places.entries c.insert.new.self.entries =
    gets_room c.args.vertex.now c.self.inside.places c.insert.new.self (none_from _ (sym c.contains_key.ensures ∙ c.if-not-contains_key.true)) c.in_ok-insert.ensures.updates in
    room_made c.args.vertex.now c.self.inside.places.entries c.insert.new.self.entries gets (same_vertex_itself c.args.vertex.now)

pub returns-in_ok-insert-clause-unchanged : goal.returns-in_ok-insert-clause-unchanged
returns-in_ok-insert-clause-unchanged g c =
    let gets : GetsRoom c.args.vertex.now c.self.inside.places.entries c.insert.new.self.entries =
    gets_room c.args.vertex.now c.self.inside.places c.insert.new.self (none_from _ (sym c.contains_key.ensures ∙ c.if-not-contains_key.true)) c.in_ok-insert.ensures.updates in
    subst (λ before. (v : Vertex) → value_at c.insert.new.self.entries v ≡ value_at before v) c.self.view_is (value_stays c.args.vertex.now c.self.inside.places.entries c.insert.new.self.entries gets)

pub returns-in_ok-insert-clause-room_stays : goal.returns-in_ok-insert-clause-room_stays
returns-in_ok-insert-clause-room_stays g c =
    let gets : GetsRoom c.args.vertex.now c.self.inside.places.entries c.insert.new.self.entries =
    gets_room c.args.vertex.now c.self.inside.places c.insert.new.self (none_from _ (sym c.contains_key.ensures ∙ c.if-not-contains_key.true)) c.in_ok-insert.ensures.updates in
    subst (λ before. KeepsRoom before c.insert.new.self.entries) c.self.view_is (room_stays c.args.vertex.now c.self.inside.places.entries c.insert.new.self.entries gets)

pub returns-else-not-contains_key-clause-room : goal.returns-else-not-contains_key-clause-room
returns-else-not-contains_key-clause-room g c =
    subst (λ places. HasRoom places c.args.vertex.now) c.self.view_is
    (ap is_some (sym (lookup_is_place c.self.inside.places.entries c.args.vertex.now)) ∙ sym c.contains_key.ensures ∙ c.if-not-contains_key.false)

pub returns-then-is_some-clause-room : goal.returns-then-is_some-clause-room
returns-then-is_some-clause-room g c = has_room c.args.self.now c.args.vertex.now c.guessed.result c.guessed.ensures (sym c.is_some.ensures ∙ c.if-is_some.true)
