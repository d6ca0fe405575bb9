use Rattle.std.proofs.Common.{rules, ◌≡◌, ◌++◌, length, map, ap, subst, ◌∙◌}
use Rattle.std.specs.Prelude.{IfOk, IfErr}
use Rattle.edit_text.specs.Text.{HasTextFault}
use Rattle.edit_merge.specs.InParts.{moved}
use Rattle.edit_merge.specs.Named.{AreNamed}
use Rattle.edit_merge.proofs.InParts.{named_both, fault_in_first, fault_in_second}
use Rattle.edit_merge.proofs.joined_names.join_named.Goals as goal

pub returns-in_ok-with_moved-in-Ok-back_lines-clause-named :
    goal.returns-in_ok-with_moved-in-Ok-back_lines-clause-named
returns-in_ok-with_moved-in-Ok-back_lines-clause-named c =
    let version = c.args.version in
    let front = c.args.front.now in
    let back = c.args.back.now in
    named_both version front back c.in-Ok.lines.items c.in-Ok-back_lines.others.items c.in_ok-with_moved-in-Ok-back_lines.field-0.items
    (c.in_ok-with_moved-in-Ok-back_lines.ensures ∙ ap (λ ls. c.in-Ok.lines.items ++ map (moved (length front)) ls) c.deref.ensures.value)
    (subst (λ r. IfOk r (λ lines. AreNamed version front lines.items)) c.in-Ok.is c.requires.front_named)
    (subst (λ r. IfOk r (λ lines. AreNamed version back lines.items)) c.in-Ok-back_lines.is c.requires.back_named)

pub returns-in-Err-back_lines-clause-fault : goal.returns-in-Err-back_lines-clause-fault
returns-in-Err-back_lines-clause-fault c =
    let version = c.args.version in
    let front = c.args.front.now in
    let back = c.args.back.now in
    let count : c.len.result ≡ length c.in-Ok.lines.items = search rules in
    fault_in_second version front back c.in-Ok.lines.items c.len.result c.in-Err-back_lines.fault c.fault_behind.result count
    (subst (λ r. IfOk r (λ lines. AreNamed version front lines.items)) c.in-Ok.is c.requires.front_named)
    (subst (λ r. IfErr r (HasTextFault version back)) c.in-Err-back_lines.is c.requires.back_fault)
    c.fault_behind.ensures

pub returns-in-Err-clause-fault : goal.returns-in-Err-clause-fault
returns-in-Err-clause-fault c =
    let version = c.args.version in
    let front = c.args.front.now in
    fault_in_first version front c.args.back.now c.in-Err.fault c.requires.ended
    (subst (λ r. IfErr r (HasTextFault version front)) c.in-Err.is c.requires.front_fault)
