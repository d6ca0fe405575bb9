-- Graphs that are the same have the same texts and counts, and each has one of each kind.
use Rattle.std.proofs.Common.{◌≡◌, inl, inr, ℕ, suc, List, [], ◌∷◌, ◌++◌, length, sym, ap, subst, ◌∙◌}
use Rattle.grove_edits.specs.Graph.{Graph, IsSame}
use Rattle.grove_edits.proofs.Unique.{canonical_once}
use Rattle.edit_text.specs.Text.{text_of}
use Rattle.grove_terms.specs.declared.node.Node.{Node}
use Rattle.grove_terms.specs.declared.grove.Grove.{Grove}
use Rattle.grove_terms.proofs.OneGrove.{one_grove, grove_along}
use Rattle.marking.specs.Grove.{MarkedTrees, IsMarkedGrove}
use Rattle.marking.proofs.OneMarking.{one_marking}
use Rattle.plain_typing.specs.Typed.{AreTyped}
use Rattle.grove_printer.specs.Print.{print_text, marked_lines}
use Rattle.grove_answers.specs.declared.counts.Counts.{Counts}
use Rattle.grove_answers.specs.Counts.{AreCounts, conflict_count, mark_count, all_marked}
use Rattle.grove_answers.specs.Texts.{IsCanonicalText, IsPrintText, IsCheckText, all_trees, roots_line}

pub canonical_along : (g h : Graph) (text : List ℕ) → IsSame g h → IsCanonicalText g text → IsCanonicalText h text
canonical_along g h text same is = record {
  edits = is.edits;
  is_canonical = record { in_order = is.is_canonical.in_order; same = λ e. is.is_canonical.same e ∙ same e };
  written = is.written;
}

pub printed_along : (g h : Graph) (text : List ℕ) → IsSame g h → IsPrintText g text → IsPrintText h text
printed_along g h text same is = record { grove = is.grove; marked = is.marked; is_grove = grove_along g h is.grove same is.is_grove; is_marked = is.is_marked; written = is.written }

pub checked_along : (g h : Graph) (text : List ℕ) → IsSame g h → IsCheckText g text → IsCheckText h text
checked_along g h text same is = record {
  grove = is.grove;
  marked = is.marked;
  typed = is.typed;
  is_grove = grove_along g h is.grove same is.is_grove;
  is_marked = is.is_marked;
  are_typed = is.are_typed;
  written = is.written;
}

pub one_canonical_text : (g : Graph) (x y : List ℕ) → IsCanonicalText g x → IsCanonicalText g y → x ≡ y
one_canonical_text g x y a b = a.written ∙ ap text_of (canonical_once g a.edits b.edits a.is_canonical b.is_canonical) ∙ sym b.written

-- a grove has one marking
marked_alike : (a b : Grove) (m n : MarkedTrees) → a ≡ b → IsMarkedGrove a m → IsMarkedGrove b n → m ≡ n
marked_alike a b m n same of_a of_b = one_marking b m n (subst (λ (g : Grove). IsMarkedGrove g m) same of_a) of_b

pub one_print_text : (g : Graph) (x y : List ℕ) → IsPrintText g x → IsPrintText g y → x ≡ y
one_print_text g x y a b =
    let groves : a.grove ≡ b.grove = one_grove g a.grove b.grove a.is_grove b.is_grove in
    a.written ∙ ap print_text (marked_alike a.grove b.grove a.marked b.marked groves a.is_marked b.is_marked) ∙ sym b.written

-- of some trees one number is typed
one_number_typed : (trees : List (List Node)) (m n : ℕ) → AreTyped trees m → AreTyped trees n → m ≡ n
one_number_typed [] m n a b = a ∙ sym b
one_number_typed (t ∷ ts) m n (inl a) (inl b) = a.2 ∙ ap suc (one_number_typed ts a.1 b.1 a.3 b.3) ∙ sym b.2
one_number_typed (t ∷ ts) m n (inl a) (inr b) = absurd (b.0 a.0)
one_number_typed (t ∷ ts) m n (inr a) (inl b) = absurd (a.0 b.0)
one_number_typed (t ∷ ts) m n (inr a) (inr b) = one_number_typed ts m n a.1 b.1

pub one_check_text : (g : Graph) (x y : List ℕ) → IsCheckText g x → IsCheckText g y → x ≡ y
one_check_text g x y a b =
    let groves : a.grove ≡ b.grove = one_grove g a.grove b.grove a.is_grove b.is_grove in
    let marks : a.marked ≡ b.marked = marked_alike a.grove b.grove a.marked b.marked groves a.is_marked b.is_marked in
    let numbers : a.typed ≡ b.typed = one_number_typed (all_trees b.grove) a.typed b.typed (subst (λ (h : Grove). AreTyped (all_trees h) a.typed) groves a.are_typed) b.are_typed in
    a.written
    ∙ ap (λ (ms : MarkedTrees). marked_lines ms ++ roots_line (length (all_trees a.grove)) a.typed) marks
    ∙ ap (λ (h : Grove). marked_lines b.marked ++ roots_line (length (all_trees h)) a.typed) groves
    ∙ ap (λ (k : ℕ). marked_lines b.marked ++ roots_line (length (all_trees b.grove)) k) numbers
    ∙ sym b.written

pub counts_along : (g h : Graph) (counts : Counts) → IsSame g h → AreCounts g counts → AreCounts h counts
counts_along g h counts same are = record {
  grove = are.grove;
  marked = are.marked;
  is_grove = grove_along g h are.grove same are.is_grove;
  is_marked = are.is_marked;
  none = are.none;
  multi = are.multi;
  cycle = are.cycle;
  conflicts = are.conflicts;
  marks = are.marks;
}

counts_from_fields : (a b : Counts) → a.none ≡ b.none → a.multi ≡ b.multi → a.cycle ≡ b.cycle → a.conflicts ≡ b.conflicts → a.marks ≡ b.marks → a ≡ b
counts_from_fields a b none multi cycle conflicts marks =
    ap (λ n. record { none = n; multi = a.multi; cycle = a.cycle; conflicts = a.conflicts; marks = a.marks }) none
    ∙ ap (λ n. record { none = b.none; multi = n; cycle = a.cycle; conflicts = a.conflicts; marks = a.marks }) multi
    ∙ ap (λ n. record { none = b.none; multi = b.multi; cycle = n; conflicts = a.conflicts; marks = a.marks }) cycle
    ∙ ap (λ n. record { none = b.none; multi = b.multi; cycle = b.cycle; conflicts = n; marks = a.marks }) conflicts
    ∙ ap (λ n. record { none = b.none; multi = b.multi; cycle = b.cycle; conflicts = b.conflicts; marks = n }) marks

pub one_counts : (g : Graph) (x y : Counts) → AreCounts g x → AreCounts g y → x ≡ y
one_counts g x y a b =
    let groves : a.grove ≡ b.grove = one_grove g a.grove b.grove a.is_grove b.is_grove in
    let marks : a.marked ≡ b.marked = marked_alike a.grove b.grove a.marked b.marked groves a.is_marked b.is_marked in
    counts_from_fields x y
    (a.none ∙ ap (λ (h : Grove). length h.none) groves ∙ sym b.none)
    (a.multi ∙ ap (λ (h : Grove). length h.multi) groves ∙ sym b.multi)
    (a.cycle ∙ ap (λ (h : Grove). length h.cycle) groves ∙ sym b.cycle)
    (a.conflicts ∙ ap (λ (m : MarkedTrees). conflict_count (all_marked m)) marks ∙ sym b.conflicts)
    (a.marks ∙ ap (λ (m : MarkedTrees). mark_count (all_marked m)) marks ∙ sym b.marks)
