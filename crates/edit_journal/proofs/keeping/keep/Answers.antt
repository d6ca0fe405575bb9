-- The log begins without edits, and has room for those of the text.
use Rattle.std.proofs.Common.{[], refl, subst, sym}
use Rattle.edit_journal.specs.LogFile.{IsLogOf}
use Rattle.edit_journal.proofs.Logs.{short_either}
use Rattle.edit_journal.proofs.Kept.{room_to_keep, opened_on_nothing, log_of_none}
use Rattle.edit_journal.proofs.keeping.keep.Goals as goal

pub returns-in-Ok : goal.returns-in-Ok
returns-in-Ok c =
    let log = c.in_ok-log.log.disk in
    let empty = opened_on_nothing c.args.disk log c.in_ok-log.field-0-1 c.requires.empty c.in_ok-log.ensures.edits c.in_ok-log.ensures.ends in
    let is = log_of_none log empty in
    let new = c.append_all.new.self.disk in
    let short = short_either [] c.args.edits.now new (c.in-Ok.ensures.log.crash c.in_ok-log.ensures.runs [] is new refl) in
    record { kept = subst (IsLogOf c.args.edits.now) (sym c.close.ensures.disk) (c.in-Ok.ensures.log.added [] is, short) }

pub unreachable-requires-in-Err-Full : goal.unreachable-requires-in-Err-Full
unreachable-requires-in-Err-Full c =
    let log = c.in_ok-log.log.disk in
    let empty = opened_on_nothing c.args.disk log c.in_ok-log.field-0-1 c.requires.empty c.in_ok-log.ensures.edits c.in_ok-log.ensures.ends in
    let fault = rw c.in-Err-Full.field-0-is at c.in-Err-Full.ensures.log.fault in
    room_to_keep log c.args.edits.now c.in-Err-Full.field-0-0 empty c.requires.short fault.1
