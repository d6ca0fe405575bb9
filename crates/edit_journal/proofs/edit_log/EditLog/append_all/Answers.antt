-- What the records written say of the edits.
use Rattle.std.proofs.Common.{rules, refl, true, ◌≡◌, ◌≢◌, ◌==◌, ◌≤◌, ◌∙◌, ℕ, List, [], ◌∷◌, Ok, Err, ◌-◌, map, take, drop, length, ap, subst, arith}
use Rattle.std.proofs.lemmas.Bool.{false≢true}
use Rattle.std.proofs.lemmas.List.{take_all, length-drop}
use Rattle.std.specs.List.{AllByRecursion}
use Rattle.grove_edits.specs.declared.edit.Edit.{Edit}
use Rattle.edit_text.specs.Text.{line_of}
use Rattle.edit_journal.specs.declared.fault.AppendFault.TheVariants.{Failed}
use Rattle.edit_journal.specs.Fault.{length_with}
use Rattle.edit_journal.specs.LogFile.{longest_file, Fits, at_rest, IsWithOrWithout}
use Rattle.edit_journal.specs.LogState.{LogState}
use Rattle.edit_journal.specs.Writing.{HasWithOrWithout}
use Rattle.edit_journal.specs.Calls.{HasTriedToAppend}
use Rattle.edit_journal.proofs.Lines.{fit_in_range}
use Rattle.edit_journal.proofs.Logs.{behind_first_gate}
use Rattle.edit_journal.proofs.Moments.{leaves_more}
use Rattle.edit_journal.proofs.Committing.{appends_edits, edits_added, edits_left, at_rest_with}
use Rattle.edit_journal.proofs.edit_log.EditLog.append_all.Goals as goal

pub invariant_of-self-in-Ok : goal.invariant_of-self-in-Ok
invariant_of-self-in-Ok g c =
    let live = c.self.invariant.live c.if-self.false in
    let disk = c.self.inside.disk in
    let long = c.self.inside.length in
    let edits = c.args.edits.now in
    let some : edits ≢ [] = λ none. false≢true (c.if-is_empty.ensures ∙ ap (λ (es : List Edit). length es == 0) none) in
    let all = c.deref.result.now in
    let piece = take (length all - 1) (drop 1 all) in
    let piece_is : 1 ∷ piece ≡ at_rest (map line_of edits) = ap (λ (l : List ℕ). 1 ∷ l) (take_all (length all - 1) (drop 1 all) (omega (arith, length-drop 1 all)))
    ∙ ap (λ (l : List ℕ). 1 ∷ drop 1 l) (c.deref.ensures.value ∙ c.in_ok-write_piece.ensures) ∙ behind_first_gate edits some in
    let fits : AllByRecursion Fits (map line_of edits) = fit_in_range (map line_of edits) (omega (arith, c.in_ok-length.ensures.with_all, c.in_ok-length.ensures.in_range)) in
    let lines = map line_of live.edits in
    let group = map line_of edits in
    let appends = appends_edits g.D.Disk.bytes g.D.Disk.may_leave disk long live edits piece piece_is fits in
    record {
      some = omega (arith, c.in_ok-length.ensures.with_all, c.self.invariant.some);
      short = c.in_ok-length.ensures.in_range;
      live = λ _. at_rest_with g.D.Disk.bytes g.D.Disk.may_leave disk long live edits piece piece_is fits c.write_records.new.disk c.in_ok-length.length
          c.in_ok-length.ensures.with_all (c.in-Ok.ensures.appended lines group appends) c.in-Ok.ensures.durable;
    }

pub returns-in-Ok-clause-log : goal.returns-in-Ok-clause-log
returns-in-Ok-clause-log g c =
    let live = c.self.invariant.live c.if-self.false in
    let disk = c.self.inside.disk in
    let long = c.self.inside.length in
    let edits = c.args.edits.now in
    let some : edits ≢ [] = λ none. false≢true (c.if-is_empty.ensures ∙ ap (λ (es : List Edit). length es == 0) none) in
    let all = c.deref.result.now in
    let piece = take (length all - 1) (drop 1 all) in
    let piece_is : 1 ∷ piece ≡ at_rest (map line_of edits) = ap (λ (l : List ℕ). 1 ∷ l) (take_all (length all - 1) (drop 1 all) (omega (arith, length-drop 1 all)))
    ∙ ap (λ (l : List ℕ). 1 ∷ drop 1 l) (c.deref.ensures.value ∙ c.in_ok-write_piece.ensures) ∙ behind_first_gate edits some in
    let fits : AllByRecursion Fits (map line_of edits) = fit_in_range (map line_of edits) (omega (arith, c.in_ok-length.ensures.with_all, c.in_ok-length.ensures.in_range)) in
    let lines = map line_of live.edits in
    let group = map line_of edits in
    let appends = appends_edits g.D.Disk.bytes g.D.Disk.may_leave disk long live edits piece piece_is fits in
    let room : length_with (g.D.Disk.bytes disk) edits ≤ longest_file = omega (arith, live.size, c.in_ok-length.ensures.with_all, c.in_ok-length.ensures.in_range) in
    let new : LogState g.row.D.Denot = record { disk = c.write_records.new.disk; stopped = c.self.inside.stopped } in
    subst (λ (old : LogState g.row.D.Denot). HasTriedToAppend g.D.Disk.bytes g.D.Disk.may_leave g.D.Disk.tells_past g.D.Disk.moment g.D.Disk.left_since old new edits (Ok tt)) c.self.view_is
    (record {
      added = edits_added g.D.Disk.bytes g.D.Disk.may_leave disk long live edits piece piece_is fits (g.D.Disk.bytes c.write_records.new.disk) (c.in-Ok.ensures.appended lines group appends);
      durable = c.in-Ok.ensures.durable;
      accepted = (c.if-self.false, room);
      fault = search rules;
      stops = refl;
      unchanged = search rules;
      crash = λ runs before is f left. edits_left g.D.Disk.bytes g.D.Disk.may_leave disk long live edits piece piece_is fits before is f (c.in-Ok.ensures.crash live.durable lines group appends f left);
      any_moment = λ told runs before is. leaves_more g.D.Disk.tells_past g.D.Disk.moment g.D.Disk.left_since g.D.Disk.may_leave disk c.write_records.new.disk (HasWithOrWithout lines group) (IsWithOrWithout before edits)
          (edits_left g.D.Disk.bytes g.D.Disk.may_leave disk long live edits piece piece_is fits before is)
          (c.in-Ok.ensures.any_moment told live.durable lines group appends);
    })

pub returns-in-Err-clause-log : goal.returns-in-Err-clause-log
returns-in-Err-clause-log g c =
    let live = c.self.invariant.live c.if-self.false in
    let disk = c.self.inside.disk in
    let long = c.self.inside.length in
    let edits = c.args.edits.now in
    let some : edits ≢ [] = λ none. false≢true (c.if-is_empty.ensures ∙ ap (λ (es : List Edit). length es == 0) none) in
    let all = c.deref.result.now in
    let piece = take (length all - 1) (drop 1 all) in
    let piece_is : 1 ∷ piece ≡ at_rest (map line_of edits) = ap (λ (l : List ℕ). 1 ∷ l) (take_all (length all - 1) (drop 1 all) (omega (arith, length-drop 1 all)))
    ∙ ap (λ (l : List ℕ). 1 ∷ drop 1 l) (c.deref.ensures.value ∙ c.in_ok-write_piece.ensures) ∙ behind_first_gate edits some in
    let fits : AllByRecursion Fits (map line_of edits) = fit_in_range (map line_of edits) (omega (arith, c.in_ok-length.ensures.with_all, c.in_ok-length.ensures.in_range)) in
    let lines = map line_of live.edits in
    let group = map line_of edits in
    let appends = appends_edits g.D.Disk.bytes g.D.Disk.may_leave disk long live edits piece piece_is fits in
    let room : length_with (g.D.Disk.bytes disk) edits ≤ longest_file = omega (arith, live.size, c.in_ok-length.ensures.with_all, c.in_ok-length.ensures.in_range) in
    let new : LogState g.row.D.Denot = record { disk = c.write_records.new.disk; stopped = true } in
    subst (λ (old : LogState g.row.D.Denot). HasTriedToAppend g.D.Disk.bytes g.D.Disk.may_leave g.D.Disk.tells_past g.D.Disk.moment g.D.Disk.left_since old new edits (Err Failed)) c.self.view_is
    (record {
      added = search rules;
      durable = search rules;
      accepted = search rules;
      fault = (c.if-self.false, room);
      stops = refl;
      unchanged = λ other. absurd (other refl);
      crash = λ runs before is f left. edits_left g.D.Disk.bytes g.D.Disk.may_leave disk long live edits piece piece_is fits before is f (c.in-Err.ensures.crash live.durable lines group appends f left);
      any_moment = λ told runs before is. leaves_more g.D.Disk.tells_past g.D.Disk.moment g.D.Disk.left_since g.D.Disk.may_leave disk c.write_records.new.disk (HasWithOrWithout lines group) (IsWithOrWithout before edits)
          (edits_left g.D.Disk.bytes g.D.Disk.may_leave disk long live edits piece piece_is fits before is)
          (c.in-Err.ensures.any_moment told live.durable lines group appends);
    })
