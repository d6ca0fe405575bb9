use Rattle.std.proofs.Common.{◌∷◌, [], ◌++◌, List, IfOk, IfErr, ap, ◌∙◌, subst}
use Rattle.grove_edits.specs.declared.edit.Edit.{Edit}
use Rattle.edit_text.specs.Line.{Spells, HasFault}
use Rattle.edit_stream.proofs.Pieces.{stops_first, first_read}
use Rattle.edit_stream.proofs.reading.read_lines.Goals as goal

pub returns-in-Err : goal.returns-in-Err
returns-in-Err c = record {
  reads = stops_first c.args.version c.args.kept.now c.args.end.now c.args.rest.now c.stopped.result.kept.items c.stopped.result.edits c.stopped.result.fault c.in-Err.fault c.requires.one_line
      (subst (λ r. IfErr r (HasFault c.args.version (c.args.kept.now ++ c.args.end.now))) c.in-Err.is c.in_ok-fault.ensures.first_fault)
      (c.stopped.ensures.edits ∙ c.new-edits.ensures.empty) c.stopped.ensures.nothing c.stopped.ensures.fault;
}

pub returns-in_ok-push-in-Ok : goal.returns-in_ok-push-in-Ok
returns-in_ok-push-in-Ok c =
    rw (first_read c.args.version c.args.kept.now c.args.end.now c.args.rest.now c.push.new.self c.in-Ok.edit
    (subst (λ r. IfOk r (Spells c.args.version (c.args.kept.now ++ c.args.end.now))) c.in-Ok.is c.in_ok-fault.ensures.edit)
    (c.in_ok-push-in-Ok.ensures.appended ∙ ap (λ (es : List Edit). es ++ c.in-Ok.edit ∷ []) (c.in_ok-reserve-in-Ok.ensures.unchanged ∙ c.new-edits.ensures.empty)))
    c.read_more_lines.ensures
