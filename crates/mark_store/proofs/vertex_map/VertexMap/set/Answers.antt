use Rattle.std.proofs.Common.{Some}
use Rattle.mark_store.proofs.Lookups.{room_kept, value_put}
use Rattle.mark_store.proofs.vertex_map.VertexMap.set.Goals as goal

pub returns : goal.returns
returns g c = record {
  put = value_put c.args.vertex.now (Some c.args.value) c.args.self.now c.write.new.self c.write.ensures c.requires;
  room_stays = room_kept c.args.vertex.now (Some c.args.value) c.args.self.now c.write.new.self c.write.ensures;
}
