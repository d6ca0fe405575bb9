use Rattle.std.proofs.Common.{sym, ap, ◌∙◌}
use Rattle.grove_edits.specs.Vertex.{stands_in}
use Rattle.mark_incremental.proofs.HeldBefore.{one_held, none_unlisted, still_unlisted}
use Rattle.mark_incremental.proofs.changed.hold_root.Goals as goal

pub returns-clause-listed : goal.returns-clause-listed
returns-clause-listed c =
    let before = c.args.before.now in
    let v = c.args.vertex.now in
    record {
      records = λ u off. still_unlisted before.records v before.vertices.items c.requires.records u (sym (ap (stands_in u) c.in_ok-push.ensures.items) ∙ off);
      roots = λ u off.
          none_unlisted before.roots c.insert.new.self v c.args.was_root c.in_ok-insert.ensures.put before.vertices.items c.requires.roots u
          (sym (ap (stands_in u) c.in_ok-push.ensures.items) ∙ off);
    }
