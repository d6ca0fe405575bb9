-- Trees that are listed one after the other.
use Rattle.std.proofs.Common.{◌≡◌, ◌+◌, List, [], ◌∷◌, ◌++◌, sym, ap, subst, ◌∙◌, append-nil, append_assoc}
use Rattle.grove_edits.specs.declared.vertex.Vertex.{Vertex}
use Rattle.grove_edits.specs.declared.edge.Edge.{Edge}
use Rattle.std.specs.List.{AllByRecursion}
use Rattle.graph_words.specs.declared.class.Class.TheVariants.{Inner}
use Rattle.graph_words.specs.Class.{class}
use Rattle.grove_terms.specs.declared.node.Node.{Node}
use Rattle.grove_terms.specs.Grove.{IsTreeOf, AreTreesOf}

-- the trees so far, with those of the roots that are left, are those of all
pub record AreSoFar (live : List Edge) (all left : List Vertex) (made : List (List Node)) : Type 0 where
  pub trees : (more : List (List Node)) → AreTreesOf live left more → AreTreesOf live all (made ++ more)
  pub outer : AllByRecursion (λ v. class live v ≡ Inner → ⊥) left

pub one_more_tree : (live : List Edge) (all left rest : List Vertex) (v : Vertex) (trees new : List (List Node)) (tree : List Node) → AreSoFar live all left trees → left ≡ v ∷ rest → IsTreeOf live v tree
    → new ≡ trees ++ tree ∷ [] → AreSoFar live all rest new
one_more_tree live all left rest v trees new tree so_far is of_v pushed =
    let at : AreSoFar live all (v ∷ rest) trees = subst (λ (vs : List Vertex). AreSoFar live all vs trees) is so_far in
    record {
      trees = λ more of_rest. subst (AreTreesOf live all) (sym (append_assoc trees (tree ∷ []) more) ∙ ap (λ ts. ts ++ more) (sym pushed)) (at.trees (tree ∷ more) (of_v, of_rest));
      outer = at.outer.1;
    }

pub all_trees : (live : List Edge) (all left : List Vertex) (trees : List (List Node)) → AreSoFar live all left trees → left ≡ [] → AreTreesOf live all trees
all_trees live all left trees so_far none =
    let at : AreSoFar live all [] trees = subst (λ (vs : List Vertex). AreSoFar live all vs trees) none so_far in
    subst (AreTreesOf live all) (append-nil trees) (at.trees [] tt)
