use Rattle.std.proofs.Common.{◌+◌, subst, sym}
use Rattle.edit_merge.proofs.Copied.{AreCopiedTo, copied_more, copied_no_more, copied_all}
use Rattle.edit_merge.proofs.EditLines.{AreSpelled-later, stands_at}
use Rattle.edit_merge.proofs.writing.copy_last_of_each_edge.Goals as goal
use Rattle.edit_merge.proofs.writing.copy_last_of_each_edge.Goals.{then-not-begins_with_edge+in_ok-copy_line, else-not-begins_with_edge}

pub begins_with_edge-requires : goal.begins_with_edge-requires
begins_with_edge-requires c =
    let (version, spelled) = c.requires.spelled in
    let lines = c.args.lines.now in
    let x = c.index-lines-i.result in
    (version, (x.edit, stands_at version c.args.text.now lines c.loop-i.i x c.loop-i-test.true c.index-lines-i.is spelled), AreSpelled-later version c.args.text.now lines (c.loop-i.i + 1) spelled)

pub copy_line-requires : goal.copy_line-requires
copy_line-requires c =
    let (version, spelled) = c.requires.spelled in
    let x = c.index-lines-i.result in
    (version, (x.edit, stands_at version c.args.text.now c.args.lines.now c.loop-i.i x c.loop-i-test.true c.index-lines-i.is spelled))

pub loop-i-preserved : goal.loop-i-preserved
loop-i-preserved c =
    let (version, spelled) = c.requires.spelled in
    let text = c.args.text.now in
    let lines = c.args.lines.now in
    let i = c.loop-i.i in
    let x = c.index-lines-i.result in
    let before = c.args.out.now.items in
    let stands = stands_at version text lines i x c.loop-i-test.true c.index-lines-i.is spelled in
    let later = AreSpelled-later version text lines (i + 1) spelled in
    elim c.if-not-begins_with_edge.branch [
      | then-not-begins_with_edge+in_ok-copy_line w ↦
          let copied = copied_more lines i x before c.loop-i.out.items w.copy_line.new.out.items c.loop-i-test.true c.index-lines-i.is (w.if-not-begins_with_edge.ensures version x.edit stands later) (w.in_ok-copy_line.ensures version x.edit stands) c.loop-i.invariant in
          subst (λ v. AreCopiedTo lines (i + 1) before v.items) (sym w.out-is) copied
      | else-not-begins_with_edge w ↦
          let copied = copied_no_more lines i x before c.loop-i.out.items c.loop-i-test.true c.index-lines-i.is (w.if-not-begins_with_edge.ensures version x.edit stands later) c.loop-i.invariant in
          subst (λ v. AreCopiedTo lines (i + 1) before v.items) (sym w.out-is) copied
    ]

pub returns : goal.returns
returns c = copied_all c.args.lines.now c.loop-i.i c.args.out.now.items c.loop-i.out.items c.loop-i-test.false c.requires.sorted c.loop-i.invariant
