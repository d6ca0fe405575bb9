use Rattle.std.proofs.Common.{◌≤◌, length, subst, sym}
use Rattle.edit_merge.specs.Named.{DoStand}
use Rattle.edit_merge.proofs.Standing.{DoStand-take}
use Rattle.edit_merge.proofs.Groups.{written_to_first, group_within, written_next}
use Rattle.edit_merge.proofs.writing.write_lines.Goals as goal

pub loop-rest-init : goal.loop-rest-init
loop-rest-init c = written_to_first c.args.version c.args.text.now c.args.lines.now c.in_ok-out.out.items c.in_ok-out.ensures.items c.requires.sorted c.requires.stand

pub split_at-requires : goal.split_at-requires
split_at-requires c = subst (λ n. n ≤ length c.loop-rest.rest.now) (sym c.group_length.ensures) (group_within _ c.loop-rest.rest.now)

pub write_group-requires : goal.write_group-requires
write_group-requires c =
    subst (DoStand c.args.version c.args.text.now) (sym c.split_at.ensures.front) (DoStand-take c.args.version c.args.text.now c.group_length.result c.loop-rest.rest.now c.loop-rest.invariant.stand)

pub loop-rest-preserved : goal.loop-rest-preserved
loop-rest-preserved c =
    written_next c.args.version c.args.text.now c.args.lines.now c.loop-rest.rest.now _ c.group_length.result c.split_at.result.0.now c.split_at.result.1.now c.loop-rest.out.items c.write_group.new.out.items
    c.in-len1-up.len_at_least c.group_length.ensures c.split_at.ensures.front c.split_at.ensures.back c.loop-rest.invariant c.in_ok-write_group.ensures
