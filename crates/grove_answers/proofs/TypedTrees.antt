-- Trees are typed exactly where their marking has no mark.
use Rattle.std.proofs.Common.{◌≡◌, ◌≢◌, ℕ, ◌+◌, Bool, true, false, cond, List, [], ◌∷◌, inl, inr, map, refl, sym, ap, subst, ◌∙◌, arith}
use Rattle.std.specs.Prelude.{count_by}
use Rattle.std.proofs.lemmas.List.Sums.{sum_by-cons}
use Rattle.grove_edits.specs.declared.vertex.Vertex.{Vertex}
use Rattle.grove_terms.specs.declared.node.Node.{Node}
use Rattle.grove_terms.specs.Forest.{Forest}
use Rattle.grove_terms.proofs.OneList.{one_tree}
use Rattle.type_core.specs.Typ.{Typ}
use Rattle.marking.specs.Marking.{MarkedNode, has_mark, HasNoMark}
use Rattle.marking.specs.Grove.{IsMarkedTree}
use Rattle.marking.specs.Reading.{meant, meant_nodes}
use Rattle.marking.specs.Added.{added_to}
use Rattle.marking.specs.declared.added.Added.{Added}
use Rattle.marking.specs.declared.marked_node.MarkedNode.{MarkedNode as NodeByNumber}
use Rattle.marking.proofs.ByRows.{alone_only}
use Rattle.plain_typing.specs.Typed.{IsTyped, IsTypedTree, AreTyped}
use Rattle.plain_typing.proofs.Typings.{typed_is_clean}
use Rattle.grove_answers.proofs.Counted.{count_by-map}

abbrev pub marks : List MarkedNode → ℕ
marks ms = count_by (λ m. has_mark m.mark) ms

marks_of_more : (m : MarkedNode) (ms : List MarkedNode) → marks (m ∷ ms) ≡ cond (has_mark m.mark) 1 0 + marks ms
marks_of_more m ms = sum_by-cons (λ (x : MarkedNode). cond (has_mark x.mark) 1 0) m ms

-- as many as of what is added to the nodes by number that stand for them
pub marks_counted : (types : List Typ) (nodes : List NodeByNumber) (added : List Added) (count : ℕ) → added ≡ map added_to nodes → count ≡ count_by (λ a. has_mark a.mark) added → marks (meant_nodes types nodes) ≡ count
marks_counted types nodes added count beside is =
    count_by-map (λ (m : MarkedNode). has_mark m.mark) (meant types) nodes ∙ sym (count_by-map (λ (a : Added). has_mark a.mark) added_to nodes)
    ∙ ap (count_by (λ (a : Added). has_mark a.mark)) (sym beside) ∙ sym is

unmarked_first : (marked : Bool) (others all : ℕ) → all ≡ cond marked 1 0 + others → all ≡ 0 → (marked ≡ false) × (others ≡ 0)
unmarked_first true others all is none = absurd (omega arith)
unmarked_first false others all is none = (refl, omega arith)

no_mark_in : (ms : List MarkedNode) → marks ms ≡ 0 → HasNoMark ms
no_mark_in [] none = tt
no_mark_in (m ∷ ms) none =
    let first = unmarked_first (has_mark m.mark) (marks ms) (marks (m ∷ ms)) (marks_of_more m ms) none in
    (first.0, no_mark_in ms first.1)

no_mark_counted : (ms : List MarkedNode) → HasNoMark ms → marks ms ≡ 0
no_mark_counted [] none = refl
no_mark_counted (m ∷ ms) none =
    marks_of_more m ms ∙ ap (λ (marked : Bool). cond marked 1 0 + marks ms) none.0 ∙ ap (λ (n : ℕ). 0 + n) (no_mark_counted ms none.1)

typed_unmarked : (tree : List Node) (ms : List MarkedNode) → IsMarkedTree tree ms → IsTypedTree tree → HasNoMark ms
typed_unmarked tree ms is typed =
    let same = one_tree typed.head is.head typed.forest is.forest typed.well_sorted is.well_sorted (sym typed.listed ∙ is.listed) in
    let also : IsTyped is.head is.forest = subst (λ (f : Forest). IsTyped is.head f) same.1 (subst (λ (v : Vertex). IsTyped v typed.forest) same.0 typed.typed) in
    subst HasNoMark (sym (alone_only is.head is.forest ms is.well_sorted is.marks)) ((typed_is_clean is.head is.forest is.well_sorted).0 also)

unmarked_typed : (tree : List Node) (ms : List MarkedNode) → IsMarkedTree tree ms → HasNoMark ms → IsTypedTree tree
unmarked_typed tree ms is none = record {
  head = is.head;
  forest = is.forest;
  well_sorted = is.well_sorted;
  listed = is.listed;
  typed = (typed_is_clean is.head is.forest is.well_sorted).1 (subst HasNoMark (alone_only is.head is.forest ms is.well_sorted is.marks) none);
}

-- a tree without a mark is one more that is typed
pub one_typed : (tree : List Node) (ms : List MarkedNode) → IsMarkedTree tree ms → marks ms ≡ 0 → AreTyped (tree ∷ []) 1
one_typed tree ms is none = inl (unmarked_typed tree ms is (no_mark_in ms none), 0, refl, refl)

-- and one with a mark is none
pub none_typed : (tree : List Node) (ms : List MarkedNode) → IsMarkedTree tree ms → marks ms ≢ 0 → AreTyped (tree ∷ []) 0
none_typed tree ms is some = inr (λ typed. some (no_mark_counted ms (typed_unmarked tree ms is typed)), refl)
