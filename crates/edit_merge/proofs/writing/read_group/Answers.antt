use Rattle.std.proofs.Common.{refl, arith}
use Rattle.edit_merge.proofs.EditLines.{read_more}
use Rattle.edit_merge.proofs.Standing.{DoStand-at}
use Rattle.edit_merge.proofs.writing.read_group.Goals as goal

pub read_again-edit-requires : goal.read_again-edit-requires
read_again-edit-requires c = DoStand-at c.args.version c.args.text.now c.loop-line.line-index c.args.group.now _ c.loop-line-test.true c.requires

pub loop-line-preserved : goal.loop-line-preserved
loop-line-preserved c =
    record {
      read =
          read_more c.args.version c.args.text.now c.args.group.now c.loop-line.line-index _ c.loop-line.lines.items c.push_reserved.new.self.items _
          c.loop-line-test.true refl c.read_again-edit.ensures c.push_reserved.ensures.items c.loop-line.invariant.read;
      count = let was = c.loop-line.invariant.count in let more = c.push_reserved.ensures.len in omega (arith, was, more);
      room = let was = c.loop-line.invariant.room in let same = c.push_reserved.ensures.capacity in omega (arith, was, same);
    }
