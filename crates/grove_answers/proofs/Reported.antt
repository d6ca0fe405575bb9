-- Trees that a report took in, and one more; and all trees of a graph.
use Rattle.std.proofs.Common.{◌≡◌, ℕ, suc, List, [], ◌∷◌, ◌++◌, length, refl, sym, ap, subst}
use Rattle.grove_edits.specs.declared.vertex.Vertex.{Vertex}
use Rattle.grove_edits.specs.declared.edge.Edge.{Edge}
use Rattle.grove_edits.specs.Graph.{graph}
use Rattle.graph_words.specs.declared.class.Class.TheVariants.{Cycle as CycleClass}
use Rattle.graph_words.specs.Class.{of_class}
use Rattle.graph_words.specs.Whole.{AreVertices}
use Rattle.graph_table.specs.Table.{live}
use Rattle.grove_terms.specs.declared.node.Node.{Node}
use Rattle.grove_terms.specs.Grove.{IsTreeOf, AreTreesOf}
use Rattle.grove_decompose.specs.Trees.{vertices_of}
use Rattle.grove_decompose.proofs.Going.{trees_along}
use Rattle.marking.specs.Marking.{MarkedNode}
use Rattle.marking.specs.Grove.{IsMarkedTree, AreMarkedTrees}
use Rattle.grove_printer.specs.declared.section.Section.{Section}
use Rattle.grove_printer.specs.declared.section.Section.TheVariants.{NoParent, Multi, Cycle}
use Rattle.grove_answers.specs.declared.program.Program.{Program}
use Rattle.grove_answers.specs.Program.{IsProgram}
use Rattle.grove_answers.specs.Reports.{AreReported, TakesSection, IsReported}

trees-append : (live : List Edge) (vs ws : List Vertex) (a b : List (List Node)) → AreTreesOf live vs a → AreTreesOf live ws b → AreTreesOf live (vs ++ ws) (a ++ b)
trees-append live [] ws [] b of_vs of_ws = of_ws
trees-append live [] ws (t ∷ ts) b of_vs of_ws = absurd of_vs
trees-append live (v ∷ vs) ws [] b of_vs of_ws = absurd of_vs
trees-append live (v ∷ vs) ws (t ∷ ts) b of_vs of_ws = (of_vs.0, trees-append live vs ws ts b of_vs.1 of_ws)

marked-append : (a b : List (List Node)) (m n : List (List MarkedNode)) → AreMarkedTrees a m → AreMarkedTrees b n → AreMarkedTrees (a ++ b) (m ++ n)
marked-append [] b [] n of_a of_b = of_b
marked-append [] b (m ∷ ms) n of_a of_b = absurd of_a
marked-append (t ∷ ts) b [] n of_a of_b = absurd of_a
marked-append (t ∷ ts) b (m ∷ ms) n of_a of_b = (of_a.0, marked-append ts b ms n of_a.1 of_b)

-- as many trees as vertices
pub as_many_trees : (live : List Edge) (vs : List Vertex) (trees : List (List Node)) → AreTreesOf live vs trees → length vs ≡ length trees
as_many_trees live [] [] of_vs = refl
as_many_trees live [] (t ∷ ts) of_vs = absurd of_vs
as_many_trees live (v ∷ vs) [] of_vs = absurd of_vs
as_many_trees live (v ∷ vs) (t ∷ ts) of_vs = ap (λ (n : ℕ). suc n) (as_many_trees live vs ts of_vs.1)

module _ {R : Type 0} (takes : R → List (List Node) → List (List MarkedNode) → R → Type 0) (live : List Edge) where
  pub reported_none : ((r : R) → takes r [] [] r) → (before : R) → AreReported takes live [] before before
  reported_none none before = record { trees = []; marked = []; are_trees = tt; are_marked = tt; taken = none before }

  pub reported_one_more : ((r s t : R) (a b : List (List Node)) (m n : List (List MarkedNode)) → takes r a m s → takes s b n t → takes r (a ++ b) (m ++ n) t)
      → (all vs : List Vertex) (v : Vertex) (tree : List Node) (marked : List MarkedNode) (before between after : R) → all ≡ vs ++ v ∷ [] → AreReported takes live vs before between
      → IsTreeOf live v tree → IsMarkedTree tree marked → takes between (tree ∷ []) (marked ∷ []) after → AreReported takes live all before after
  reported_one_more more all vs v tree marked before between after is_all so_far is_tree is_marked taken =
      subst (λ (us : List Vertex). AreReported takes live us before after) (sym is_all)
      (record {
        trees = so_far.trees ++ tree ∷ [];
        marked = so_far.marked ++ marked ∷ [];
        are_trees = trees-append live vs (v ∷ []) so_far.trees (tree ∷ []) so_far.are_trees (is_tree, tt);
        are_marked = marked-append so_far.trees (tree ∷ []) so_far.marked (marked ∷ []) so_far.are_marked (is_marked, tt);
        taken = more before between after so_far.trees (tree ∷ []) so_far.marked (marked ∷ []) so_far.taken taken;
      })

module _ {R : Type 0} (begins : R → Section → ℕ → R → Type 0) (takes : R → List (List Node) → List (List MarkedNode) → R → Type 0) where
  pub section_reported : (live : List Edge) (section : Section) (vs : List Vertex) (before begun after : R) → begins before section (length vs) begun → AreReported takes live vs begun after
      → AreReported (TakesSection begins takes section) live vs before after
  section_reported live section vs before begun after begin reported = record {
    trees = reported.trees;
    marked = reported.marked;
    are_trees = reported.are_trees;
    are_marked = reported.are_marked;
    taken = record {
      begun = begun;
      begin = subst (λ (n : ℕ). begins before section n begun) (as_many_trees live vs reported.trees reported.are_trees) begin;
      taken = reported.taken;
    };
  }

  pub whole_reported : (program : Program) (vertices : List Vertex) (cycles : List ℕ) (before x y after : R) → IsProgram program → AreVertices (graph program.table.edits) vertices
      → vertices_of program.table cycles ≡ of_class CycleClass (live program.table) vertices
      → AreReported (TakesSection begins takes NoParent) (live program.table) (vertices_of program.table program.heads.none.items) before x
      → AreReported (TakesSection begins takes Multi) (live program.table) (vertices_of program.table program.heads.multi.items) x y
      → AreReported (TakesSection begins takes Cycle) (live program.table) (vertices_of program.table cycles) y after → IsReported begins takes (graph program.table.edits) before after
  whole_reported program vertices cycles before x y after is are are_cycles none multi cycle = record {
    grove = record { none = none.trees; multi = multi.trees; cycle = cycle.trees };
    marked = record { none = none.marked; multi = multi.marked; cycle = cycle.marked };
    is_grove = record {
      live = live program.table;
      vertices = vertices;
      are_live = is.are_live;
      are_vertices = are;
      none = trees_along (live program.table) _ _ none.trees (is.none vertices are) none.are_trees;
      multi = trees_along (live program.table) _ _ multi.trees (is.multi vertices are) multi.are_trees;
      cycle = trees_along (live program.table) _ _ cycle.trees are_cycles cycle.are_trees;
    };
    is_marked = record { none = none.are_marked; multi = multi.are_marked; cycle = cycle.are_marked };
    after_none = x;
    after_multi = y;
    none = none.taken;
    multi = multi.taken;
    cycle = cycle.taken;
  }

module _ {R : Type 0} (blank : R → Type 0) (takes : R → List (List Node) → List (List MarkedNode) → R → Type 0) (live : List Edge) where
  -- trees that were taken in, and those of a part that began blank
  pub reported_joined : ((r s t : R) (a b : List (List Node)) (m n : List (List MarkedNode)) → takes r a m s → takes s b n t → takes r (a ++ b) (m ++ n) t)
      → (all vs ws : List Vertex) (before between begun part after : R) → all ≡ vs ++ ws → AreReported takes live vs before between → blank begun → AreReported takes live ws begun part
      → ((none : R) (trees : List (List Node)) (marked : List (List MarkedNode)) → blank none → takes none trees marked part → takes between trees marked after) → AreReported takes live all before after
  reported_joined more all vs ws before between begun part after is_all first is_blank then joined =
      subst (λ (us : List Vertex). AreReported takes live us before after) (sym is_all)
      (record {
        trees = first.trees ++ then.trees;
        marked = first.marked ++ then.marked;
        are_trees = trees-append live vs ws first.trees then.trees first.are_trees then.are_trees;
        are_marked = marked-append first.trees then.trees first.marked then.marked first.are_marked then.are_marked;
        taken = more before between after first.trees then.trees first.marked then.marked first.taken (joined begun then.trees then.marked is_blank then.taken);
      })
