-- The texts of whole reports.
use Rattle.std.proofs.Common.{◌≡◌, ℕ, suc, ◌+◌, List, [], ◌∷◌, ◌++◌, length, refl, ap, subst, ◌∙◌, append_assoc, length-append, arith}
use Rattle.grove_terms.specs.declared.node.Node.{Node}
use Rattle.marking.specs.Marking.{MarkedNode}
use Rattle.marking.specs.Grove.{AreMarkedTrees}
use Rattle.grove_printer.specs.declared.section.Section.{Section}
use Rattle.plain_typing.specs.Typed.{AreTyped}
use Rattle.grove_printer.specs.Print.{heading, trees_text, trees_marked_lines}
use Rattle.grove_answers.specs.Laws.{HasCounted, typed-append}
use Rattle.grove_answers.specs.Texts.{roots_line}

-- three parts, one behind the other, of a text that was empty
pub three : (old a b c x y z : List ℕ) → old ≡ [] → x ≡ old ++ a → y ≡ x ++ b → z ≡ y ++ c → z ≡ a ++ (b ++ c)
three old a b c x y z empty is_x is_y is_z =
    is_z ∙ ap (λ (xs : List ℕ). xs ++ c) (is_y ∙ ap (λ (xs : List ℕ). xs ++ b) (is_x ∙ ap (λ (xs : List ℕ). xs ++ a) empty)) ∙ append_assoc a b c

-- as many marked trees as trees
as_many_marked : (trees : List (List Node)) (marked : List (List MarkedNode)) → AreMarkedTrees trees marked → length trees ≡ length marked
as_many_marked [] [] are = refl
as_many_marked [] (m ∷ ms) are = absurd are
as_many_marked (t ∷ ts) [] are = absurd are
as_many_marked (t ∷ ts) (m ∷ ms) are = ap (λ (n : ℕ). suc n) (as_many_marked ts ms are.1)

-- a heading and the trees, as the print text has them
pub section_printed : (section : Section) (trees : List (List Node)) (marked : List (List MarkedNode)) (before begun after : List ℕ) → AreMarkedTrees trees marked
    → begun ≡ before ++ heading section (length trees) → after ≡ begun ++ trees_text marked → after ≡ before ++ (heading section (length marked) ++ trees_text marked)
section_printed section trees marked before begun after are begin taken =
    taken
    ∙ ap (λ (xs : List ℕ). xs ++ trees_text marked) (begin ∙ ap (λ (n : ℕ). before ++ heading section n) (as_many_marked trees marked are))
    ∙ append_assoc before (heading section (length marked)) (trees_text marked)

-- three numbers of trees, one after the other
pub three_counts : (a b c : List (List Node)) (none x y all : ℕ) → none ≡ 0 → x ≡ none + length a → y ≡ x + length b → all ≡ y + length c → all ≡ length (a ++ (b ++ c))
three_counts a b c none x y all zero is_x is_y is_all = omega (arith, zero, is_x, is_y, is_all, length-append a (b ++ c), length-append b c)

-- of the trees of three lists, one after the other, so many are typed
pub three_typed : (a b c : List (List Node)) (none x0 x y0 y z0 z : ℕ) → none ≡ 0 → x0 ≡ none → HasCounted a x0 x → y0 ≡ x → HasCounted b y0 y → z0 ≡ y → HasCounted c z0 z → AreTyped (a ++ (b ++ c)) z
three_typed a b c none x0 x y0 y z0 z zero is_x0 of_a is_y0 of_b is_z0 of_c =
    let all : of_a.0 + (of_b.0 + of_c.0) ≡ z = (let is_x = of_a.2 in let is_y = of_b.2 in let is_z = of_c.2 in omega (arith, zero, is_x0, is_y0, is_z0, is_x, is_y, is_z)) in
    subst (AreTyped (a ++ (b ++ c))) all (typed-append a (b ++ c) of_a.0 (of_b.0 + of_c.0) of_a.1 (typed-append b c of_b.0 of_c.0 of_b.1 of_c.1))

-- marked lines behind a heading that writes none
pub section_lines : (marked : List (List MarkedNode)) (before begun after : List ℕ) → begun ≡ before → after ≡ begun ++ trees_marked_lines marked → after ≡ before ++ trees_marked_lines marked
section_lines marked before begun after begin taken = taken ∙ ap (λ (xs : List ℕ). xs ++ trees_marked_lines marked) begin

pub roots_behind : (lines text out : List ℕ) (roots typed count : ℕ) → text ≡ lines → roots ≡ count → out ≡ text ++ roots_line roots typed → out ≡ lines ++ roots_line count typed
roots_behind lines text out roots typed count are_lines is_count is_out =
    is_out ∙ ap (λ (xs : List ℕ). xs ++ roots_line roots typed) are_lines ∙ ap (λ (n : ℕ). lines ++ roots_line n typed) is_count
