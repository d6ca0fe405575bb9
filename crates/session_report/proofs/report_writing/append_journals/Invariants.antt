use Rattle.std.proofs.Common.{◌≡◌, ◌++◌}
use Rattle.std.specs.List.{flat_map, zip}
use Rattle.std.specs.Iterator.Adapters.{zip_first, zip_second}
use Rattle.std.specs.Slice.Iter.{iter_rest}
use Rattle.edit_text.specs.Line.{Extends}
use Rattle.session_report.specs.Report.{journal_text_of, block_heading}
use Rattle.session_report.proofs.report_writing.append_journals.Given as goal

-- what is written, with what is still to be written
abbrev pub invariant-loop-name : goal.invariant-loop-name
invariant-loop-name g l =
    (l.out.items ++ flat_map journal_text_of (zip (iter_rest (zip_first l.name-iterator)) (iter_rest (zip_second l.name-iterator)))
    ≡ l.fn.out.items ++ (block_heading l.block ++ flat_map journal_text_of (zip l.names l.journals)))
    × Extends l.fn.out.items l.out.items
