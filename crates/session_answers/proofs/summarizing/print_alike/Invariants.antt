use Rattle.std.proofs.Common.{ℕ, List, take}
use Rattle.grove_edits.specs.Graph.{graph}
use Rattle.grove_answers.specs.Texts.{IsPrintText}
use Rattle.session_answers.specs.Summarizing.{AllPrint}
use Rattle.session_answers.proofs.summarizing.print_alike.Given as goal

-- those so far print what the first prints
abbrev pub invariant-loop-other : goal.invariant-loop-other
invariant-loop-other l = (text : List ℕ) → IsPrintText (graph l.first.edits) text → AllPrint text (take l.other-index l.others)
