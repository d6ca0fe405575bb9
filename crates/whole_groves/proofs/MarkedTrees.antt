-- Trees that are marked one after the other, and their nodes without what marking added.
use Rattle.std.proofs.Common.{◌≡◌, List, [], ◌∷◌, ◌++◌, map, refl, sym, ap, subst, ◌∙◌, append-nil, append_assoc}
use Rattle.type_core.specs.Typ.{Typ}
use Rattle.type_core.specs.TypeTable.{KeepsTypes}
use Rattle.grove_terms.specs.declared.node.Node.{Node}
use Rattle.marking.specs.Marking.{MarkedNode as MeantNode}
use Rattle.marking.specs.Grove.{IsMarkedTree, AreMarkedTrees}
use Rattle.marking.specs.declared.marked_node.MarkedNode.{MarkedNode}
use Rattle.grove_terms.specs.Lent.{node_of, nodes_of}
use Rattle.marking.specs.Reading.{meant_nodes, bare_nodes}
use Rattle.marking.specs.Numbers.{AreMarkedNodesOf}
use Rattle.whole_groves.specs.Marked.{AreMarkedListsOf}
use Rattle.grove_terms.specs.Sorted.{IsSortedTree, AreSortedTrees}
use Rattle.mark_rules.proofs.Kept.{meant_nodes_kept, marked_nodes_kept}

pub lists_kept : (old new : List Typ) → KeepsTypes old new → (ts : List (List MarkedNode)) → AreMarkedListsOf old ts → AreMarkedListsOf new ts
lists_kept old new keeps [] all = tt
lists_kept old new keeps (t ∷ ts) all = (marked_nodes_kept old new keeps t all.0, lists_kept old new keeps ts all.1)

pub meant_lists_kept : (old new : List Typ) → KeepsTypes old new → (ts : List (List MarkedNode)) → AreMarkedListsOf old ts → map (meant_nodes new) ts ≡ map (meant_nodes old) ts
meant_lists_kept old new keeps [] all = refl
meant_lists_kept old new keeps (t ∷ ts) all = ap (λ x. x ∷ map (meant_nodes new) ts) (meant_nodes_kept old new keeps t all.0) ∙ ap (λ xs. meant_nodes old t ∷ xs) (meant_lists_kept old new keeps ts all.1)

-- the same trees, marked, over later tables
pub marked_trees_kept : (old new : List Typ) → KeepsTypes old new → (trees : List (List Node)) (ts : List (List MarkedNode)) → AreMarkedListsOf old ts → AreMarkedTrees trees (map (meant_nodes old) ts) → AreMarkedTrees trees (map (meant_nodes new) ts)
marked_trees_kept old new keeps trees ts all marked = subst (AreMarkedTrees trees) (sym (meant_lists_kept old new keeps ts all)) marked

-- the marked trees so far, with those of the trees that are left, are those of all
pub record AreSoFar (types : List Typ) (all left : List (List Node)) (made : List (List MarkedNode)) : Type 0 where
  pub trees : (more : List (List MeantNode)) → AreMarkedTrees left more → AreMarkedTrees all (map (meant_nodes types) made ++ more)

lists-push : (types : List Typ) (ts : List (List MarkedNode)) (t : List MarkedNode) → map (meant_nodes types) (ts ++ t ∷ []) ≡ map (meant_nodes types) ts ++ meant_nodes types t ∷ []
lists-push types [] t = refl
lists-push types (u ∷ ts) t = ap (λ xs. meant_nodes types u ∷ xs) (lists-push types ts t)

pub one_more_tree : (old new : List Typ) (all left rest : List (List Node)) (nodes : List Node) (made after : List (List MarkedNode)) (t : List MarkedNode) → KeepsTypes old new → AreMarkedListsOf old made
    → AreSoFar old all left made → left ≡ nodes ∷ rest → IsMarkedTree nodes (meant_nodes new t) → after ≡ made ++ t ∷ [] → AreSoFar new all rest after
one_more_tree old new all left rest nodes made after t keeps numbers so_far is marked pushed = record {
  trees = λ more of_rest.
      subst (AreMarkedTrees all)
      (ap (λ xs. xs ++ (meant_nodes new t ∷ more)) (sym (meant_lists_kept old new keeps made numbers)) ∙ sym (append_assoc (map (meant_nodes new) made) (meant_nodes new t ∷ []) more)
      ∙ ap (λ xs. xs ++ more) (sym (lists-push new made t) ∙ ap (map (meant_nodes new)) (sym pushed)))
      (so_far.trees (meant_nodes new t ∷ more) (subst (λ (xs : List (List Node)). AreMarkedTrees xs (meant_nodes new t ∷ more)) (sym is) (marked, of_rest)));
}

lists_are-push : (types : List Typ) (ts : List (List MarkedNode)) (t : List MarkedNode) → AreMarkedListsOf types ts → AreMarkedNodesOf types t → AreMarkedListsOf types (ts ++ t ∷ [])
lists_are-push types [] t all is = (is, tt)
lists_are-push types (u ∷ ts) t all is = (all.0, lists_are-push types ts t all.1 is)

pub more_numbers : (old new : List Typ) (made after : List (List MarkedNode)) (t : List MarkedNode) → KeepsTypes old new → AreMarkedListsOf old made → AreMarkedNodesOf new t → after ≡ made ++ t ∷ [] → AreMarkedListsOf new after
more_numbers old new made after t keeps numbers is pushed = subst (AreMarkedListsOf new) (sym pushed) (lists_are-push new made t (lists_kept old new keeps made numbers) is)

pub all_marked : (types : List Typ) (all left : List (List Node)) (made : List (List MarkedNode)) → AreSoFar types all left made → left ≡ [] → AreMarkedTrees all (map (meant_nodes types) made)
all_marked types all left made so_far none =
    subst (AreMarkedTrees all) (append-nil (map (meant_nodes types) made)) (so_far.trees [] (subst (λ (xs : List (List Node)). AreMarkedTrees xs []) (sym none) tt))

pub next_sorted : (left rest : List (List Node)) (nodes : List Node) → left ≡ nodes ∷ rest → AreSortedTrees left → IsSortedTree nodes
next_sorted left rest nodes is all = by (subst AreSortedTrees is all) where
  by : AreSortedTrees (nodes ∷ rest) → IsSortedTree nodes
  by both = both.0

pub rest_sorted : (left rest : List (List Node)) (nodes : List Node) → left ≡ nodes ∷ rest → AreSortedTrees left → AreSortedTrees rest
rest_sorted left rest nodes is all = by (subst AreSortedTrees is all) where
  by : AreSortedTrees (nodes ∷ rest) → AreSortedTrees rest
  by both = both.1

pub marked_for : (types : List Typ) (trees all left : List (List Node)) (made : List (List MarkedNode)) → all ≡ trees → AreSoFar types all left made → left ≡ [] → AreMarkedTrees trees (map (meant_nodes types) made)
marked_for types trees all left made same so_far none = subst (λ (xs : List (List Node)). AreMarkedTrees xs (map (meant_nodes types) made)) same (all_marked types all left made so_far none)

pub bare_are : (ms : List MarkedNode) → nodes_of (map (λ m. m.node) ms) ≡ bare_nodes ms
bare_are [] = refl
bare_are (m ∷ ms) = ap (λ ns. node_of m.node ∷ ns) (bare_are ms)
