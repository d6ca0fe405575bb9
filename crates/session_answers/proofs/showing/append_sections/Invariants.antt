use Rattle.std.proofs.Common.{◌≡◌, ℕ, List, ◌++◌}
use Rattle.std.specs.List.{zip}
use Rattle.std.specs.Iterator.Adapters.{zip_first, zip_second}
use Rattle.std.specs.Slice.Iter.{iter_rest}
use Rattle.session_answers.specs.Running.{AreShown}
use Rattle.session_answers.proofs.showing.append_sections.Given as goal

-- the sections so far, behind which those that are still to come make the whole
abbrev pub invariant-loop-name : goal.invariant-loop-name
invariant-loop-name l =
    (sections : List ℕ) × (l.out.items ≡ l.initial.out.items ++ sections)
    × ((rest : List ℕ) → AreShown (zip (iter_rest (zip_first l.name-iterator)) (iter_rest (zip_second l.name-iterator))) rest → AreShown (zip l.names l.replicas) (sections ++ rest))
