-- The texts that are written of a graph.
-- The promise of the commands rests on these definitions.
use Rattle.std.specs.Prelude.{◌≡◌, ℕ, List, [], ◌∷◌, ◌++◌, length, codes, decimal}
use Rattle.grove_edits.specs.declared.edit.Edit.{Edit}
use Rattle.grove_edits.specs.Graph.{Graph, IsCanonical}
use Rattle.edit_text.specs.Text.{text_of}
use Rattle.grove_terms.specs.declared.node.Node.{Node}
use Rattle.grove_terms.specs.declared.grove.Grove.{Grove}
use Rattle.grove_terms.specs.Grove.{IsGrove}
use Rattle.marking.specs.Grove.{MarkedTrees, IsMarkedGrove}
use Rattle.plain_typing.specs.Typed.{AreTyped}
use Rattle.grove_printer.specs.Print.{print_text, marked_lines}

-- the text of the canonical list of the graph
pub record IsCanonicalText (g : Graph) (text : List ℕ) : Type 0 where
  pub edits : List Edit
  pub is_canonical : IsCanonical g edits
  pub written : text ≡ text_of edits

-- the print text of the marked grove of the graph
pub record IsPrintText (g : Graph) (text : List ℕ) : Type 0 where
  pub grove : Grove
  pub marked : MarkedTrees
  pub is_grove : IsGrove g grove
  pub is_marked : IsMarkedGrove grove marked
  pub written : text ≡ print_text marked

-- the trees of a grove, in the order of the print text
abbrev pub all_trees : Grove → List (List Node)
all_trees grove = grove.none ++ (grove.multi ++ grove.cycle)

-- how many trees there are, and how many of them are typed
abbrev pub roots_line : ℕ → ℕ → List ℕ
roots_line roots typed = codes "roots " ++ (decimal roots ++ (codes " typed " ++ (decimal typed ++ 10 ∷ [])))

-- the marked lines of that grove, and how many of its trees are typed
pub record IsCheckText (g : Graph) (text : List ℕ) : Type 0 where
  pub grove : Grove
  pub marked : MarkedTrees
  pub typed : ℕ
  pub is_grove : IsGrove g grove
  pub is_marked : IsMarkedGrove grove marked
  pub are_typed : AreTyped (all_trees grove) typed
  pub written : text ≡ marked_lines marked ++ roots_line (length (all_trees grove)) typed
