use Rattle.std.proofs.lemmas.Result.{on_ok_weaker}
use Rattle.std.proofs.Common.{sym, subst}
use Rattle.edit_merge.specs.EditLine.{AreSpelled, AreCopied}
use Rattle.edit_merge.proofs.Copied.{written_by_copies}
use Rattle.edit_merge.proofs.EditLines.{AreSpelled-moved}
use Rattle.edit_merge.proofs.Groups.{written_by_one}
use Rattle.edit_merge.proofs.writing.write_group.Goals as goal

pub copy_line-requires : goal.copy_line-requires
copy_line-requires c =
    let all = c.in-Some.ensures c.args.version c.requires in
    (c.args.version, (all.edit, all.stands))

pub returns-in-Some : goal.returns-in-Some
returns-in-Some c =
    on_ok_weaker c.copy_line.result
    (λ copied. written_by_one c.args.version c.args.text.now c.args.group.now c.in-Some.line c.args.out.now.items c.copy_line.new.out.items (c.in-Some.ensures c.args.version c.requires) (copied c.args.version))
    c.copy_line.ensures

pub copy_last_of_each_edge-requires-clause-spelled : goal.copy_last_of_each_edge-requires-clause-spelled
copy_last_of_each_edge-requires-clause-spelled c =
    let version = c.args.version in
    let text = c.args.text.now in
    let read = c.in_ok-lines-in-None.lines.items in
    (version, subst (AreSpelled version text) (sym c.deref.ensures.value) (AreSpelled-moved version text read c.sort_unstable.new.self.items c.sort_unstable.ensures.permutation c.in_ok-lines-in-None.ensures.spelled))

pub returns-in_ok-lines-in-None : goal.returns-in_ok-lines-in-None
returns-in_ok-lines-in-None c =
    let old = c.args.out.now.items in
    let new = c.copy_last_of_each_edge.new.out.items in
    let sorted = c.sort_unstable.new.self.items in
    on_ok_weaker c.copy_last_of_each_edge.result
    (λ copied. written_by_copies c.args.version c.args.text.now c.args.group.now c.in_ok-lines-in-None.lines.items sorted old new c.in_ok-lines-in-None.ensures c.sort_unstable.ensures.permutation
    (subst (λ lines. AreCopied lines old new) c.deref.ensures.value copied))
    c.copy_last_of_each_edge.ensures
