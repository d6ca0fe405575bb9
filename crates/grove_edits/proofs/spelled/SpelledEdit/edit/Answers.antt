use Rattle.std.proofs.Common.{refl, ap}
use Rattle.grove_edits.specs.declared.vertex.Vertex.{Vertex}
use Rattle.grove_edits.specs.Edge.{edge_from}
use Rattle.grove_edits.proofs.Unique.{edit_from_fields}
use Rattle.grove_edits.proofs.spelled.SpelledEdit.edit.Goals as goal

pub returns : goal.returns
returns c =
    let s = c.args.self.now in
    edit_from_fields _ _ refl (ap (λ (target : Vertex). edge_from s.name s.source s.branch s.position target) c.vertex.ensures)
