-- Trees that were told, and one more; and all trees of a graph.
use Rattle.std.proofs.Common.{◌≡◌, ℕ, ◌+◌, ◌*◌, List, [], ◌∷◌, ◌++◌, length, drop, Some, refl, sym, ap, subst, ◌∙◌, append_assoc, append-nil}
use Rattle.std.specs.Prelude.{slice_get}
use Rattle.std.specs.List.{AllByRecursion}
use Rattle.std.proofs.lemmas.List.{length-map}
use Rattle.grove_edits.specs.declared.vertex.Vertex.{Vertex}
use Rattle.grove_edits.specs.declared.edge.Edge.{Edge}
use Rattle.grove_edits.specs.Graph.{graph}
use Rattle.graph_words.specs.declared.class.Class.{Class}
use Rattle.graph_words.specs.declared.class.Class.TheVariants.{Cycle as CycleClass, Inner}
use Rattle.graph_words.specs.Class.{class, of_class}
use Rattle.graph_words.specs.Whole.{AreVertices, AreLive}
use Rattle.graph_table.specs.Table.{Table, live, vertex_at, IsNumber}
use Rattle.grove_terms.specs.declared.node.LentNode.{LentNode}
use Rattle.grove_terms.specs.declared.node.Node.{Node}
use Rattle.grove_terms.specs.Lent.{node_of, nodes_of}
use Rattle.grove_terms.specs.Grove.{IsTreeOf, AreTreesOf}
use Rattle.grove_decompose.specs.declared.trees.NumberedHeads.{NumberedHeads}
use Rattle.grove_decompose.specs.Trees.{vertices_of}
use Rattle.grove_decompose.proofs.Going.{outer_of_class, trees_along}
use Rattle.grove_terms.specs.Forest.{Forest}
use Rattle.grove_terms.specs.Nodes.{tree_nodes}
use Rattle.type_infer.specs.declared.solving.Inference.{Inference}
use Rattle.type_infer.specs.declared.solving.Inference.TheVariants.{Solved, Clash}
use Rattle.type_infer.specs.EqList.{Listed}
use Rattle.type_infer.specs.Equations.{TermEquation}
use Rattle.type_infer.specs.Inference.{IsAnswer}
use Rattle.type_infer.specs.Terms.{Term}
use Rattle.type_infer.specs.TreeEquations.{tree_equations}
use Rattle.type_infer.proofs.StepLemmas.{drop_here}
use Rattle.infer_answers.specs.Texts.{hole_line, hole_lines, answer_text, head_line, IsInferred, IsTreeText, AreTreeTexts, joined, IsInferText}
use Rattle.infer_answers.specs.Telling.{AreHeads, AreInferred, IsHead, IsWide}

pub vertices-append : (table : Table) (a b : List ℕ) → vertices_of table (a ++ b) ≡ vertices_of table a ++ vertices_of table b
vertices-append table [] b = refl
vertices-append table (n ∷ ns) b = ap (λ (vs : List Vertex). vertex_at table n ∷ vs) (vertices-append table ns b)

heads_by : (table : Table) (ns : List ℕ) → AllByRecursion (λ v. class (live table) v ≡ Inner → ⊥) (vertices_of table ns) → AllByRecursion (IsNumber table) ns → AllByRecursion (IsHead table) ns
heads_by table [] outer numbers = tt
heads_by table (n ∷ ns) outer numbers = (record { number = numbers.0; outer = outer.0 }, heads_by table ns outer.1 numbers.1)

-- vertices of a class that is not Inner head trees
pub heads_of_class : (c : Class) (table : Table) (vertices : List Vertex) (ns : List ℕ) → (c ≡ Inner → ⊥) → vertices_of table ns ≡ of_class c (live table) vertices → AllByRecursion (IsNumber table) ns
    → AllByRecursion (IsHead table) ns
heads_of_class c table vertices ns other are numbers = heads_by table ns (outer_of_class c (live table) vertices (vertices_of table ns) other are) numbers

trees-append : (live : List Edge) (vs ws : List Vertex) (a b : List (List Node)) → AreTreesOf live vs a → AreTreesOf live ws b → AreTreesOf live (vs ++ ws) (a ++ b)
trees-append live [] ws [] b of_vs of_ws = of_ws
trees-append live [] ws (t ∷ ts) b of_vs of_ws = absurd of_vs
trees-append live (v ∷ vs) ws [] b of_vs of_ws = absurd of_vs
trees-append live (v ∷ vs) ws (t ∷ ts) b of_vs of_ws = (of_vs.0, trees-append live vs ws ts b of_vs.1 of_ws)

texts-append : (a b : List (List Node)) (x y : List (List ℕ)) → AreTreeTexts a x → AreTreeTexts b y → AreTreeTexts (a ++ b) (x ++ y)
texts-append [] b [] y of_a of_b = of_b
texts-append [] b (x ∷ xs) y of_a of_b = absurd of_a
texts-append (t ∷ ts) b [] y of_a of_b = absurd of_a
texts-append (t ∷ ts) b (x ∷ xs) y of_a of_b = (of_a.0, texts-append ts b xs y of_a.1 of_b)

joined-append : (x y : List (List ℕ)) → joined (x ++ y) ≡ joined x ++ joined y
joined-append [] y = refl
joined-append (t ∷ x) y = ap (λ (ns : List ℕ). t ++ ns) (joined-append x y) ∙ sym (append_assoc t (joined x) (joined y))

module _ (live : List Edge) where
  pub told_none : (before : List ℕ) → AreInferred live [] before before
  told_none before = record { trees = []; texts = []; are_trees = tt; are_texts = tt; written = sym (append-nil before) }

  pub told_one_more : (all vs : List Vertex) (v : Vertex) (tree : List Node) (text before between after : List ℕ) → all ≡ vs ++ v ∷ [] → AreInferred live vs before between
      → IsTreeOf live v tree → IsTreeText tree text → after ≡ between ++ text → AreInferred live all before after
  told_one_more all vs v tree text before between after is_all so_far is_tree is_text written =
      subst (λ (us : List Vertex). AreInferred live us before after) (sym is_all)
      (record {
        trees = so_far.trees ++ tree ∷ [];
        texts = so_far.texts ++ text ∷ [];
        are_trees = trees-append live vs (v ∷ []) so_far.trees (tree ∷ []) so_far.are_trees (is_tree, tt);
        are_texts = texts-append so_far.trees (tree ∷ []) so_far.texts (text ∷ []) so_far.are_texts (is_text, tt);
        written = written ∙ ap (λ (ns : List ℕ). ns ++ text) so_far.written ∙ append_assoc before (joined so_far.texts) text
            ∙ ap (λ (ns : List ℕ). before ++ (joined so_far.texts ++ ns)) (sym (append-nil text)) ∙ ap (λ (ns : List ℕ). before ++ ns) (sym (joined-append so_far.texts (text ∷ [])));
      })

pub whole_told : (table : Table) (heads : NumberedHeads) (vertices : List Vertex) (cycles : List ℕ) (before x y after : List ℕ) → AreLive (graph table.edits) (live table) → AreHeads table heads
    → AreVertices (graph table.edits) vertices → vertices_of table cycles ≡ of_class CycleClass (live table) vertices
    → AreInferred (live table) (vertices_of table heads.none.items) before x → AreInferred (live table) (vertices_of table heads.multi.items) x y
    → AreInferred (live table) (vertices_of table cycles) y after → (text : List ℕ) × IsInferText (graph table.edits) text × (after ≡ before ++ text)
whole_told table heads vertices cycles before x y after are_live is are are_cycles none multi cycle =
    let later : List (List ℕ) = multi.texts ++ cycle.texts in
    let ends : joined (none.texts ++ later) ≡ joined none.texts ++ (joined multi.texts ++ joined cycle.texts) =
    joined-append none.texts later ∙ ap (λ (ns : List ℕ). joined none.texts ++ ns) (joined-append multi.texts cycle.texts) in (
      joined (none.texts ++ later),
      record {
        grove = record { none = none.trees; multi = multi.trees; cycle = cycle.trees };
        texts = none.texts ++ later;
        is_grove = record {
          live = live table;
          vertices = vertices;
          are_live = are_live;
          are_vertices = are;
          none = trees_along (live table) _ _ none.trees (is.none vertices are) none.are_trees;
          multi = trees_along (live table) _ _ multi.trees (is.multi vertices are) multi.are_trees;
          cycle = trees_along (live table) _ _ cycle.trees are_cycles cycle.are_trees;
        };
        are_texts = texts-append none.trees (multi.trees ++ cycle.trees) none.texts later none.are_texts
            (texts-append multi.trees cycle.trees multi.texts cycle.texts multi.are_texts cycle.are_texts);
        written = refl;
      },
      cycle.written
          ∙ ap (λ (ns : List ℕ). ns ++ joined cycle.texts) (multi.written ∙ ap (λ (ns : List ℕ). ns ++ joined multi.texts) none.written)
          ∙ regroup before (joined none.texts) (joined multi.texts) (joined cycle.texts)
          ∙ ap (λ (ns : List ℕ). before ++ ns) (sym ends),
    )
  where
    regroup : (a b c d : List ℕ) → ((a ++ b) ++ c) ++ d ≡ a ++ (b ++ (c ++ d))
    regroup a b c d = simp append_assoc

-- the line of the node here, and those behind it
pub holes_here : (terms : List Term) (nodes : List LentNode) (x : LentNode) (line : ℕ) → slice_get nodes line ≡ Some x
    → hole_lines terms (drop line (nodes_of nodes)) line ≡ hole_line terms (node_of x).what line ++ hole_lines terms (drop (line + 1) (nodes_of nodes)) (line + 1)
holes_here terms nodes x line h = ap (λ ns. hole_lines terms ns line) (drop_here nodes x line h)

-- ---- a tree

pub wide : (list : Listed) (lines : ℕ) (answer : Inference) → list.variables ≡ 3 * lines → IsAnswer list answer → IsWide lines answer
wide list lines (Solved terms) e is = is.count ∙ e
wide list lines (Clash equation) e is = tt

module _ (v : Vertex) (f : Forest) (nodes : List LentNode) (list : Listed) (answer : Inference) (old new : List ℕ) (of : nodes_of nodes ≡ tree_nodes v f) where
  listed : list.variables ≡ 3 * length nodes → list.equations ≡ tree_equations v f → list ≡ record { variables = 3 * length (tree_nodes v f); equations = tree_equations v f }
  listed variables equations =
      let l : 3 * length nodes ≡ 3 * length (tree_nodes v f) = ap (λ n. 3 * n) (sym (length-map nodes node_of) ∙ ap length of) in
      ap (λ (n : ℕ). let r : Listed = record { variables = n; equations = list.equations } in r) (variables ∙ l)
      ∙ ap (λ (es : List TermEquation). let r : Listed = record { variables = 3 * length (tree_nodes v f); equations = es } in r) equations

  -- the name of the head, and then what the answer says
  pub inferred : list.variables ≡ 3 * length nodes → list.equations ≡ tree_equations v f → IsAnswer list answer → new ≡ (old ++ head_line v.name) ++ answer_text answer (nodes_of nodes)
      → (text : List ℕ) × IsInferred v f text × (new ≡ old ++ text)
  inferred variables equations is written = (
    head_line v.name ++ answer_text answer (nodes_of nodes),
    record {
      answer = answer;
      is_answer = subst (λ (l : Listed). IsAnswer l answer) (listed variables equations) is;
      written = ap (λ (ns : List Node). head_line v.name ++ answer_text answer ns) of;
    },
    written ∙ append_assoc old (head_line v.name) (answer_text answer (nodes_of nodes)),
  )
