-- The numbers of edges where edges are entered and states are set.
use Rattle.std.proofs.Common.{◌≡◌, ℕ, None, Some, sym, subst, ◌∙◌}
use Rattle.grove_edits.specs.declared.edge.Edge.{Edge}
use Rattle.edge_numbers.specs.Numbered.{Numbered, KeepsNumbers}
use Rattle.graph_words.specs.States.{Entries, HasRoom}
use Rattle.live_graph.specs.NumberOf.{IsNumberOf, KeepsNumbersOf}
use Rattle.live_graph.proofs.Numbers.{number_of_room}

pub numbers_kept : (edges after : Numbered) → KeepsNumbers edges after → KeepsNumbersOf edges.entries after.entries
numbers_kept edges after keeps e n is = let kept = keeps n is.0 in (kept.0, kept.1 ∙ is.1)

pub none_moved : (before after : Entries) → after ≡ before → KeepsNumbersOf before after
none_moved before after same e n is = subst (λ (es : Entries). IsNumberOf es e n) (sym same) is

pub moved_twice : (before between after : Entries) → KeepsNumbersOf before between → KeepsNumbersOf between after → KeepsNumbersOf before after
moved_twice before between after first second e n is = second e n (first e n is)

-- an edge with room has a number
pub no_room : (entries : Entries) (e : Edge) → ((n : ℕ) → IsNumberOf entries e n → None ≡ Some n) → HasRoom entries e → ⊥
no_room entries e only room = let found = number_of_room entries e room in none_is_some (only found.0 (found.1, found.2)) where
  none_is_some : {n : ℕ} → None ≡ Some n → ⊥
  none_is_some h = absurd cc
