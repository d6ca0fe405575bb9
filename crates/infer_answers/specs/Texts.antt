-- The text that is written of the types of a graph's holes.
use Rattle.std.specs.Prelude.{◌≡◌, ℕ, ◌+◌, ◌*◌, List, [], ◌∷◌, ◌++◌, length, codes, decimal}
use Rattle.grove_names.specs.declared.name.Name.{Name}
use Rattle.grove_names.specs.Name.{name_text}
use Rattle.grove_sorts.specs.declared.sort.Sort.{Sort}
use Rattle.grove_sorts.specs.declared.sort.Sort.TheVariants.{Top, Exp, Pat, Typ}
use Rattle.grove_sorts.specs.Ctor.{sort_of_ctor}
use Rattle.grove_edits.specs.declared.vertex.Vertex.{Vertex}
use Rattle.grove_edits.specs.Graph.{Graph}
use Rattle.grove_terms.specs.declared.grove.Grove.{Grove}
use Rattle.grove_terms.specs.declared.node.Node.{Node}
use Rattle.grove_terms.specs.declared.node.What.{What}
use Rattle.grove_terms.specs.declared.node.What.TheVariants.{Hole}
use Rattle.grove_terms.specs.Forest.{Forest}
use Rattle.grove_terms.specs.Grove.{IsGrove}
use Rattle.grove_terms.specs.Nodes.{tree_nodes}
use Rattle.type_core.specs.Typ.{type_text}
use Rattle.type_infer.specs.declared.solving.Inference.{Inference}
use Rattle.type_infer.specs.declared.solving.Inference.TheVariants.{Solved, Clash}
use Rattle.type_infer.specs.Terms.{Term, shown, term_at}
use Rattle.type_infer.specs.TreeEquations.{first_variable, tree_equations}
use Rattle.type_infer.specs.Inference.{IsAnswer}

-- ---- a tree

-- the line's number, and the type that must stand there, to 8 levels; each type that is not settled is `?`
abbrev pub type_line : List Term → ℕ → List ℕ
type_line terms line = decimal line ++ (codes " " ++ (type_text 8 (shown (term_at terms (first_variable line))) ++ 10 ∷ []))

abbrev pub hole_line : List Term → What → ℕ → List ℕ
hole_line terms (Hole Typ) line = type_line terms line
hole_line terms _ line = []

-- a line for each hole for a type, the nodes being listed from a line on
abbrev pub hole_lines : List Term → List Node → ℕ → List ℕ
hole_lines terms [] line = []
hole_lines terms (n ∷ ns) line = hole_line terms n.what line ++ hole_lines terms ns (line + 1)

abbrev pub clash_text : ℕ → List ℕ
clash_text equation = codes "clash " ++ (decimal equation ++ 10 ∷ [])

-- what an answer to the equations of a tree says of its nodes
abbrev pub answer_text : Inference → List Node → List ℕ
answer_text (Solved terms) nodes = hole_lines terms nodes 0
answer_text (Clash equation) nodes = clash_text equation

abbrev pub head_line : Name → List ℕ
head_line name = codes "tree " ++ (name_text name ++ 10 ∷ [])

-- the text tells the answer to the equations of a tree
pub record IsInferred (v : Vertex) (f : Forest) (text : List ℕ) : Type 0 where
  pub answer : Inference
  pub is_answer : IsAnswer (record { variables = 3 * length (tree_nodes v f); equations = tree_equations v f }) answer
  pub written : text ≡ head_line v.name ++ answer_text answer (tree_nodes v f)

-- of a tree whose head is a pattern or a type nothing is said
abbrev pub IsTextBySort : Sort → Vertex → Forest → List ℕ → Type 0
IsTextBySort Top v f text = IsInferred v f text
IsTextBySort Exp v f text = IsInferred v f text
IsTextBySort Pat v f text = text ≡ []
IsTextBySort Typ v f text = text ≡ []

-- the nodes are those of a tree, and this is what is said of it
pub record IsTreeText (nodes : List Node) (text : List ℕ) : Type 0 where
  pub head : Vertex
  pub forest : Forest
  pub is_tree : nodes ≡ tree_nodes head forest
  pub is_text : IsTextBySort (sort_of_ctor head.ctor) head forest text

-- ---- all trees

abbrev pub AreTreeTexts : List (List Node) → List (List ℕ) → Type 0
AreTreeTexts [] [] = Unit {0}
AreTreeTexts [] (x ∷ xs) = ⊥
AreTreeTexts (t ∷ ts) [] = ⊥
AreTreeTexts (t ∷ ts) (x ∷ xs) = IsTreeText t x × AreTreeTexts ts xs

abbrev pub joined : List (List ℕ) → List ℕ
joined [] = []
joined (x ∷ xs) = x ++ joined xs

-- what is said of the trees of the graph's grove, one after the other in the order of the print text
pub record IsInferText (g : Graph) (text : List ℕ) : Type 0 where
  pub grove : Grove
  pub texts : List (List ℕ)
  pub is_grove : IsGrove g grove
  pub are_texts : AreTreeTexts (grove.none ++ (grove.multi ++ grove.cycle)) texts
  pub written : text ≡ joined texts
