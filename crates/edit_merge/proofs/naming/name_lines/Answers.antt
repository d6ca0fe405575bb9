use Rattle.std.proofs.Common.{ℕ, List, ◌==◌, length, sym, ap, ◌∙◌, ◌+◌, arith}
use Rattle.std.proofs.lemmas.Bool.{false≢true}
use Rattle.grove_edits.specs.SpelledEdit.{spelled_edit}
use Rattle.edit_merge.proofs.NamedLines.{named_more, malformed_here, rest_here}
use Rattle.edit_merge.proofs.naming.name_lines.Goals as goal

pub returns-in-Err-clause-fault : goal.returns-in-Err-clause-fault
returns-in-Err-clause-fault c =
    malformed_here c.args.version c.args.text.now c.loop-line.rest.now c.in-Some.line.now c.in-Some.after.now c.loop-line.lines.items (c.len.result + 1) c.in-Err.fault
    c.loop-line.invariant c.in-Some.ensures.parts c.in-Some.ensures.first c.in-Err.ensures.first_fault (omega (arith, c.len.ensures))

pub loop-line-preserved : goal.loop-line-preserved
loop-line-preserved c =
    named_more c.args.version c.args.text.now c.loop-line.rest.now c.in-Some.line.now c.in-Some.after.now c.loop-line.lines.items c.push.new.lines.items _
    (spelled_edit c.in-Ok.edit) c.loop-line.invariant c.in-Some.ensures.parts c.in-Ok.ensures.edit (c.in_ok-named-in-Ok.ensures.name ∙ c.name.ensures)
    c.in_ok-named-in-Ok.ensures.start (c.in_ok-named-in-Ok.ensures.end ∙ ap (λ (n : ℕ). n + length c.in-Some.line.now) (sym c.in_ok-named-in-Ok.ensures.start)) c.in_ok-push-in-Ok.ensures

pub returns-else-is_empty-clause-fault : goal.returns-else-is_empty-clause-fault
returns-else-is_empty-clause-fault c =
    rest_here c.args.version c.args.text.now c.loop-line.rest.now c.loop-line.lines.items (c.len-else-is_empty.result + 1)
    c.loop-line.invariant c.in_default.ensures.none (λ nothing. false≢true (c.if-is_empty.ensures ∙ ap (λ (bytes : List ℕ). length bytes == 0) nothing)) (omega (arith, c.len-else-is_empty.ensures))
