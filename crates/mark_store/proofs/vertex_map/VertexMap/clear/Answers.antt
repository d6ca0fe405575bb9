use Rattle.std.proofs.Common.{None}
use Rattle.mark_store.proofs.Lookups.{room_kept, value_cleared}
use Rattle.mark_store.proofs.vertex_map.VertexMap.clear.Goals as goal

pub returns : goal.returns
returns g c = record {
  cleared = value_cleared c.args.vertex.now c.args.self.now c.write.new.self c.write.ensures;
  room_stays = room_kept c.args.vertex.now None c.args.self.now c.write.new.self c.write.ensures;
}
