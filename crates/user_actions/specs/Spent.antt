-- That an author's new names are spent.
use Rattle.std.specs.Prelude.{ℕ, ◌+◌, ◌<◌}
use Rattle.graph_words.specs.Names.{IsGreatest, IsNameOf}
use Rattle.grove_edits.specs.Graph.{Graph}
use Rattle.grove_edits.specs.declared.act_fault.ActFault.{ActFault}
use Rattle.grove_edits.specs.declared.act_fault.ActFault.TheVariants.{NamesSpent}
use Rattle.user_actions.specs.Faults.{last_counter}

-- the fault tells the author's greatest counter, which is too great for so many further names
abbrev pub IsSpent : Graph → ℕ → ℕ → ActFault → Type 0
IsSpent g author count (NamesSpent greatest) = IsGreatest (IsNameOf g) author greatest × (last_counter < greatest + count)
IsSpent g author count _ = ⊥
