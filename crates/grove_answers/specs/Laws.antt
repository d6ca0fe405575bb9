-- What one tree after the other adds to a text, to the number of those that are typed, and to counts.
use Rattle.std.proofs.Common.{◌≡◌, inl, inr, ℕ, ◌+◌, List, [], ◌∷◌, ◌++◌, refl, sym, ap, subst, ◌∙◌, arith, append_assoc, append-nil}
use Rattle.std.specs.Prelude.{count_by}
use Rattle.std.proofs.lemmas.List.Sums.{sum_by-append}
use Rattle.grove_terms.specs.declared.node.Node.{Node}
use Rattle.marking.specs.Marking.{MarkedNode, has_mark}
use Rattle.plain_typing.specs.Typed.{AreTyped}
use Rattle.grove_printer.specs.Print.{tree_text, trees_text, tree_marked_lines, trees_marked_lines}
use Rattle.grove_answers.specs.declared.counts.Counts.{Counts}
use Rattle.grove_answers.specs.Counts.{is_conflict, conflict_count, mark_count, with_nodes}

trees_text-append : (a b : List (List MarkedNode)) → trees_text (a ++ b) ≡ trees_text a ++ trees_text b
trees_text-append [] b = refl
trees_text-append (t ∷ ts) b = ap (λ (xs : List ℕ). tree_text t ++ xs) (trees_text-append ts b) ∙ sym (append_assoc (tree_text t) (trees_text ts) (trees_text b))

marked_lines-append : (a b : List (List MarkedNode)) → trees_marked_lines (a ++ b) ≡ trees_marked_lines a ++ trees_marked_lines b
marked_lines-append [] b = refl
marked_lines-append (t ∷ ts) b =
    ap (λ (xs : List ℕ). tree_marked_lines t ++ xs) (marked_lines-append ts b) ∙ sym (append_assoc (tree_marked_lines t) (trees_marked_lines ts) (trees_marked_lines b))

-- two parts, one behind the other
both : (r s t x y z : List ℕ) → z ≡ x ++ y → s ≡ r ++ x → t ≡ s ++ y → t ≡ r ++ z
both r s t x y z is_z first then = then ∙ ap (λ (xs : List ℕ). xs ++ y) first ∙ append_assoc r x y ∙ ap (λ (xs : List ℕ). r ++ xs) (sym is_z)

pub prints_none : (text : List ℕ) → text ≡ text ++ trees_text []
prints_none text = sym (append-nil text)

pub prints_more : (r s t : List ℕ) (m n : List (List MarkedNode)) → s ≡ r ++ trees_text m → t ≡ s ++ trees_text n → t ≡ r ++ trees_text (m ++ n)
prints_more r s t m n = both r s t (trees_text m) (trees_text n) (trees_text (m ++ n)) (trees_text-append m n)

pub lines_none : (text : List ℕ) → text ≡ text ++ trees_marked_lines []
lines_none text = sym (append-nil text)

pub lines_more : (r s t : List ℕ) (m n : List (List MarkedNode)) → s ≡ r ++ trees_marked_lines m → t ≡ s ++ trees_marked_lines n → t ≡ r ++ trees_marked_lines (m ++ n)
lines_more r s t m n = both r s t (trees_marked_lines m) (trees_marked_lines n) (trees_marked_lines (m ++ n)) (marked_lines-append m n)

-- so many trees of these are typed, and the count has risen by as many
abbrev pub HasCounted : List (List Node) → ℕ → ℕ → Type 0
HasCounted trees before after = (count : ℕ) × AreTyped trees count × (after ≡ before + count)

pub typed_none : (typed : ℕ) → HasCounted [] typed typed
typed_none typed = (0, refl, omega arith)

pub typed-append : (a b : List (List Node)) (m n : ℕ) → AreTyped a m → AreTyped b n → AreTyped (a ++ b) (m + n)
typed-append [] b m n of_a of_b = let same : n ≡ m + n = omega (arith, of_a) in subst (AreTyped b) same of_b
typed-append (t ∷ ts) b m n (inl of_a) of_b = inl (of_a.0, of_a.1 + n, omega (arith, of_a.2), typed-append ts b of_a.1 n of_a.3 of_b)
typed-append (t ∷ ts) b m n (inr of_a) of_b = inr (of_a.0, typed-append ts b m n of_a.1 of_b)

pub typed_more : (a b : List (List Node)) (r s t : ℕ) → HasCounted a r s → HasCounted b s t → HasCounted (a ++ b) r t
typed_more a b r s t first then = (first.0 + then.0, typed-append a b first.0 then.0 first.1 then.1, (let rose = first.2 in let rose_more = then.2 in omega arith))

-- ---- counts

-- the counts with other numbers of conflicts and marks
abbrev with_numbers : ℕ → ℕ → Counts → Counts
with_numbers conflicts marks counts = record counts { conflicts = conflicts; marks = marks }

numbers_alike : (counts : Counts) (c d m n : ℕ) → c ≡ d → m ≡ n → with_numbers c m counts ≡ with_numbers d n counts
numbers_alike counts c d m n same_conflicts same_marks = ap (λ k. with_numbers k m counts) same_conflicts ∙ ap (λ k. with_numbers d k counts) same_marks

pub nodes_none : (counts : Counts) → counts ≡ with_nodes [] counts
nodes_none counts = numbers_alike counts counts.conflicts (counts.conflicts + conflict_count []) counts.marks (counts.marks + mark_count []) (omega arith) (omega arith)

pub nodes_more : (r s t : Counts) (m n : List (List MarkedNode)) → s ≡ with_nodes m r → t ≡ with_nodes n s → t ≡ with_nodes (m ++ n) r
nodes_more r s t m n first then =
    let conflicts = sum_by-append (count_by (λ (x : MarkedNode). is_conflict x.node.what)) m n in
    let marks = sum_by-append (count_by (λ (x : MarkedNode). has_mark x.mark)) m n in
    then ∙ ap (with_nodes n) first
    ∙ numbers_alike r ((r.conflicts + conflict_count m) + conflict_count n) (r.conflicts + conflict_count (m ++ n)) ((r.marks + mark_count m) + mark_count n) (r.marks + mark_count (m ++ n))
    (omega (arith, conflicts)) (omega (arith, marks))
