use Rattle.std.proofs.Common.{◌≡◌, ◌++◌, length, take}
use Rattle.std.specs.List.{flat_map}
use Rattle.session_report.specs.Entry.{entry_text}
use Rattle.session_report.specs.Report.{journal_heading}
use Rattle.session_report.proofs.report_writing.append_journal.Given as goal

abbrev pub invariant-loop-entry : goal.invariant-loop-entry
invariant-loop-entry g l = l.out.items ≡ l.fn.out.items ++ (journal_heading l.name (length l.journal) ++ flat_map entry_text (take l.entry-index l.entry-items))
