-- The counts of whole groves.
use Rattle.std.proofs.Common.{◌≡◌, ℕ, ◌+◌, Bool, cond, List, [], ◌∷◌, ◌++◌, length, map, refl, sym, ap, ◌∙◌, arith}
use Rattle.std.specs.Prelude.{sum_by, count_by}
use Rattle.std.proofs.lemmas.List.Sums.{sum_by-cons, sum_by-append}
use Rattle.grove_edits.specs.Graph.{Graph}
use Rattle.grove_terms.specs.declared.grove.Grove.{Grove}
use Rattle.grove_terms.specs.Grove.{IsGrove}
use Rattle.marking.specs.Marking.{MarkedNode, has_mark}
use Rattle.marking.specs.Grove.{MarkedTrees, IsMarkedGrove}
use Rattle.grove_printer.specs.declared.section.Section.TheVariants.{NoParent, Multi, Cycle}
use Rattle.grove_answers.specs.declared.counts.Counts.{Counts}
use Rattle.grove_answers.specs.Counts.{AreCounts, is_conflict, with_trees, with_nodes}

pub count_by-map : {A B : Type 0} (p : B → Bool) (f : A → B) (xs : List A) → count_by p (map f xs) ≡ count_by (λ x. p (f x)) xs
count_by-map p f [] = refl
count_by-map {A = A} {B = B} p f (x ∷ xs) =
    sum_by-cons (λ (y : B). cond (p y) 1 0) (f x) (map f xs)
    ∙ ap (λ n. cond (p (f x)) 1 0 + n) (count_by-map p f xs)
    ∙ sym (sum_by-cons (λ (y : A). cond (p (f y)) 1 0) x xs)

abbrev after_sections : Grove → MarkedTrees → Counts → Counts
after_sections grove marked start =
    with_nodes marked.cycle (with_trees Cycle (length grove.cycle) (with_nodes marked.multi (with_trees Multi (length grove.multi) (with_nodes marked.none (with_trees NoParent (length grove.none) start)))))

pub all_sections : (grove : Grove) (marked : MarkedTrees) (start a x b y c after : Counts) → a ≡ with_trees NoParent (length grove.none) start → x ≡ with_nodes marked.none a
    → b ≡ with_trees Multi (length grove.multi) x → y ≡ with_nodes marked.multi b → c ≡ with_trees Cycle (length grove.cycle) y → after ≡ with_nodes marked.cycle c
    → after ≡ after_sections grove marked start
all_sections grove marked start a x b y c after is_a is_x is_b is_y is_c is_after =
    is_after ∙ ap (with_nodes marked.cycle) (is_c ∙ ap (with_trees Cycle (length grove.cycle)) (is_y ∙ ap (with_nodes marked.multi) (is_b ∙ ap (with_trees Multi (length grove.multi)) (is_x ∙ ap (with_nodes marked.none) is_a))))

three_sums : (f : List MarkedNode → ℕ) (start : ℕ) (a b c : List (List MarkedNode)) → start ≡ 0 → ((start + sum_by f a) + sum_by f b) + sum_by f c ≡ sum_by f (a ++ (b ++ c))
three_sums f start a b c zero = omega (arith, zero, sum_by-append f a (b ++ c), sum_by-append f b c)

pub whole_counts : (g : Graph) (grove : Grove) (marked : MarkedTrees) (start after : Counts) → IsGrove g grove → IsMarkedGrove grove marked → start.conflicts ≡ 0 → start.marks ≡ 0
    → after ≡ after_sections grove marked start → AreCounts g after
whole_counts g grove marked start after is_grove is_marked no_conflict no_mark is = record {
  grove = grove;
  marked = marked;
  is_grove = is_grove;
  is_marked = is_marked;
  none = ap (λ (k : Counts). k.none) is;
  multi = ap (λ (k : Counts). k.multi) is;
  cycle = ap (λ (k : Counts). k.cycle) is;
  conflicts = ap (λ (k : Counts). k.conflicts) is ∙ three_sums (count_by (λ m. is_conflict m.node.what)) start.conflicts marked.none marked.multi marked.cycle no_conflict;
  marks = ap (λ (k : Counts). k.marks) is ∙ three_sums (count_by (λ m. has_mark m.mark)) start.marks marked.none marked.multi marked.cycle no_mark;
}
