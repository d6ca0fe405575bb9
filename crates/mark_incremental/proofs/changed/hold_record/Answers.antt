use Rattle.std.proofs.Common.{sym, ap, ◌∙◌}
use Rattle.grove_edits.specs.Vertex.{stands_in}
use Rattle.mark_incremental.proofs.HeldBefore.{one_held, none_unlisted, still_unlisted}
use Rattle.mark_incremental.proofs.changed.hold_record.Goals as goal

pub returns-clause-listed : goal.returns-clause-listed
returns-clause-listed c =
    let before = c.args.before.now in
    let v = c.args.vertex.now in
    record {
      records = λ u off.
          none_unlisted before.records c.insert.new.self v c.args.old c.in_ok-insert.ensures.put before.vertices.items c.requires.records u
          (sym (ap (stands_in u) c.in_ok-push.ensures.items) ∙ off);
      roots = λ u off. still_unlisted before.roots v before.vertices.items c.requires.roots u (sym (ap (stands_in u) c.in_ok-push.ensures.items) ∙ off);
    }

pub returns-clause-records : goal.returns-clause-records
returns-clause-records c = one_held c.args.before.now.records c.insert.new.self c.args.vertex.now c.args.old c.in_ok-insert.ensures.put
