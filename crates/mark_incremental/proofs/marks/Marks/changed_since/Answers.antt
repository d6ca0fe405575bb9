use Rattle.mark_incremental.proofs.Judgements.{all_found}
use Rattle.mark_incremental.proofs.marks.Marks.changed_since.Goals as goal

pub returns : goal.returns
returns c was entries led numbers =
    let were = c.in_ok-before.ensures.were was entries led numbers in
    all_found was.marks c.args.self.now c.in_ok-before.before were c.in_ok-before.ensures.listed c.in_ok-changed.changed.items c.sort_vertices.new.vertices.items (c.in_ok-changed.ensures was.marks were)
    c.sort_vertices.ensures.in_order c.sort_vertices.ensures.same
