use Rattle.std.specs.Iterator.Adapters.{zip_first, zip_second}
use Rattle.std.specs.Slice.Iter.{iter_rest}
use Rattle.std.proofs.lemmas.Slice.Zip.{either_empty_from_Zip}
use Rattle.session_report.specs.Report.{journal_text_of}
use Rattle.session_report.proofs.Zipped.{all_written}
use Rattle.session_report.proofs.report_writing.append_journals.Goals as goal

pub returns-clause-appended : goal.returns-clause-appended
returns-clause-appended g c =
    let left = c.loop-name.name-iterator in
    all_written journal_text_of (iter_rest (zip_first left)) (iter_rest (zip_second left)) c.loop-name.out.items _
    (either_empty_from_Zip left c.next.new.self c.next.result c.in-None.is c.next.ensures.steps) c.loop-name.invariant.0
