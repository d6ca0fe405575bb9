-- The least two edges of a list.
use Rattle.std.specs.Prelude.{ℕ, List, [], ◌∷◌}
use Rattle.grove_edits.specs.declared.edge.Edge.{Edge}
use Rattle.graph_words.specs.declared.few.Few.{Few}
use Rattle.graph_words.specs.declared.few.Few.TheVariants.{Zero, One, More}

-- the first two edges of a list in edge order, or fewer where there are fewer
abbrev pub first_two : List Edge → Few
first_two [] = Zero
first_two (e ∷ []) = One e
first_two (e ∷ f ∷ _) = More e f

abbrev pub few_len : Few → ℕ
few_len Zero = 0
few_len (One _) = 1
few_len (More _ _) = 2
