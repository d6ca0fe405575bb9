-- In a canonical list the edges that share a name stand next to each other.
use Rattle.std.proofs.Common.{◌≡◌, ◌≢◌, ℕ, Bool, true, false, cond, List, [], ◌∷◌, refl, sym, ap, subst, ◌∙◌, ◌⊎◌, inl, inr, arith}
use Rattle.std.specs.Prelude.{◌&&◌, ◌||◌, ◌==◌}
use Rattle.std.specs.List.{AllByRecursion, list_any}
use Rattle.std.specs.declared.cmp.Ordering.{Ordering}
use Rattle.std.specs.declared.cmp.Ordering.TheVariants.{Less, Equal, Greater}
use Rattle.std.specs.Ordering.{ordering_then, ordering_reverse}
use Rattle.std.proofs.lemmas.Bool.{false≢true}
use Rattle.std.proofs.lemmas.Bool.Decides.{nat_tests}
use Rattle.std.proofs.lemmas.Cmp.{tied_itself}
use Rattle.edge_lattice.specs.declared.state.State.TheVariants.{Absent}
use Rattle.grove_names.specs.declared.name.Name.{Name}
use Rattle.grove_names.specs.Name.{name_cmp}
use Rattle.grove_names.proofs.Orders.{name_cmp_total, name_cmp_exact}
use Rattle.grove_names.proofs.Texts.{name_from_fields}
use Rattle.grove_sorts.specs.Position.{position_cmp}
use Rattle.grove_edits.specs.declared.edge.Edge.{Edge}
use Rattle.grove_edits.specs.declared.edit.Edit.{Edit}
use Rattle.grove_edits.specs.Vertex.{vertex_cmp}
use Rattle.grove_edits.specs.Edge.{edge_cmp}
use Rattle.grove_edits.specs.Edit.{edit_edge}
use Rattle.grove_edits.specs.Graph.{graph, Ascends}
use Rattle.grove_edits.proofs.Orders.{edge_cmp_total}
use Rattle.edit_ranges.specs.declared.told.Told.{Told}
use Rattle.edit_ranges.specs.declared.told.Told.TheVariants.{Named}
use Rattle.edit_ranges.specs.declared.fact.Fact.{Fact}
use Rattle.edit_ranges.specs.Ranges.{told_number}
use Rattle.edit_ranges.specs.Summary.{IsOfOneEdge}
use Rattle.edit_ranges.specs.Facts.{fact, is_fact, is_same_name, begins_with_name, shared_facts}
use Rattle.edit_ranges.proofs.InOrder.{one_of}
use Rattle.edit_ranges.proofs.Present.{present_first, present_later, first_or_later}

-- ---- tests of names and facts

pub one_name : (a b : Name) → is_same_name a b ≡ true → a ≡ b
one_name a b h = name_from_fields a b (first a.author b.author a.counter b.counter h) (second a.author b.author a.counter b.counter h) where
  first : (m n p q : ℕ) → ((m == n) && (p == q)) ≡ true → m ≡ n
  first m n p q h = grind (arith, nat_tests)

  second : (m n p q : ℕ) → ((m == n) && (p == q)) ≡ true → p ≡ q
  second m n p q h = grind (arith, nat_tests)

same_name : (a b : Name) → a ≡ b → is_same_name a b ≡ true
same_name a b same = by_numbers a.author b.author a.counter b.counter (ap (λ (n : Name). n.author) same) (ap (λ (n : Name). n.counter) same) where
  by_numbers : (m n p q : ℕ) → m ≡ n → p ≡ q → ((m == n) && (p == q)) ≡ true
  by_numbers m n p q author counter = grind (arith, nat_tests)

pub fact_here : (t : Told) (n m : Name) → m ≡ n → is_fact t n (fact t m) ≡ true
fact_here t n m same = by_numbers (told_number t) m.author n.author m.counter n.counter (ap (λ (x : Name). x.author) same) (ap (λ (x : Name). x.counter) same) where
  by_numbers : (t m n p q : ℕ) → m ≡ n → p ≡ q → ((t == t) && (m == n) && (p == q)) ≡ true
  by_numbers t m n p q author counter = grind (arith, nat_tests)

pub fact_name : (t : Told) (n : Name) (f : Fact) → is_fact t n f ≡ true → f.name ≡ n
fact_name t n f h = name_from_fields f.name n
    (first (told_number f.told) (told_number t) f.name.author n.author f.name.counter n.counter h)
    (second (told_number f.told) (told_number t) f.name.author n.author f.name.counter n.counter h)
  where
    first : (t u m n p q : ℕ) → ((t == u) && (m == n) && (p == q)) ≡ true → m ≡ n
    first t u m n p q h = grind (arith, nat_tests)

    second : (t u m n p q : ℕ) → ((t == u) && (m == n) && (p == q)) ≡ true → p ≡ q
    second t u m n p q h = grind (arith, nat_tests)

-- ---- names in edge order

-- an edge of a list comes after what comes before all of it
pub after_edge : (e : Edge) (xs : List Edit) (f : Edge) → AllByRecursion (λ later. edge_cmp e (edit_edge later) ≡ Less) xs → graph xs f ≢ Absent → edge_cmp e f ≡ Less
after_edge e [] f all is = absurd (is refl)
after_edge e (x ∷ xs) f all is = elim (first_or_later x xs f is) [
  | inl same ↦ subst (λ (g : Edge). edge_cmp e g ≡ Less) same all.0
  | inr later ↦ after_edge e xs f all.1 later
]

not_greater : (o p : Ordering) → ordering_then o p ≡ Less → o ≡ Greater → ⊥
not_greater Less p lt is = cc
not_greater Equal p lt is = cc
not_greater Greater p lt is = cc

pub names_rise : (a b : Edge) → edge_cmp a b ≡ Less → name_cmp a.name b.name ≡ Greater → ⊥
names_rise a b lt is =
    not_greater (name_cmp a.name b.name) (ordering_then (vertex_cmp a.source b.source) (ordering_then (position_cmp a.position b.position) (vertex_cmp a.target b.target))) lt is

-- an edge between two of one name has that name
name_between : (a b c : Edge) → edge_cmp a b ≡ Less → edge_cmp b c ≡ Less → c.name ≡ a.name → b.name ≡ a.name
name_between a b c first second same = by_order (name_cmp a.name b.name) refl where
  by_order : (o : Ordering) → name_cmp a.name b.name ≡ o → b.name ≡ a.name
  by_order Less is = absurd (names_rise b c second (ap (name_cmp b.name) same ∙ name_cmp_total.antisymm b.name a.name ∙ ap ordering_reverse is))
  by_order Equal is = sym (name_cmp_exact a.name b.name is)
  by_order Greater is = absurd (names_rise a b first is)

next_has_name : (x : Edit) (xs : List Edit) (f : Edge) → Ascends (x ∷ xs) → graph xs f ≢ Absent → f.name ≡ (edit_edge x).name → begins_with_name (edit_edge x).name xs ≡ true
next_has_name x [] f up is same = absurd (is refl)
next_has_name x (y ∷ ys) f up is same = same_name (edit_edge y).name (edit_edge x).name (elim (first_or_later y ys f is) [
  | inl here ↦ ap (λ (e : Edge). e.name) here ∙ same
  | inr later ↦ name_between (edit_edge x) (edit_edge y) f up.0.0 (after_edge (edit_edge y) ys f up.1.0 later) same
])

pub not_before_itself : (e f : Edge) → edge_cmp e f ≡ Less → e ≡ f → ⊥
not_before_itself e f lt same = less_not_equal (edge_cmp e f) lt (ap (edge_cmp e) (sym same) ∙ tied_itself edge_cmp_total e) where
  less_not_equal : (o : Ordering) → o ≡ Less → o ≡ Equal → ⊥
  less_not_equal o less equal = absurd (absurd_both (sym less ∙ equal)) where
    absurd_both : Less ≡ Equal → ⊥
    absurd_both h = cc

-- ---- shared names

pub in_rest : (x : Edit) (xs : List Edit) (n : Name) → IsOfOneEdge (graph (x ∷ xs)) n → IsOfOneEdge (graph xs) n
in_rest x xs n once e f is_e is_f name_e name_f = once e f (present_later x xs e is_e) (present_later x xs f is_f) name_e name_f

shared_first : (x : Edit) (xs : List Edit) (n : Name) → Ascends (x ∷ xs) → begins_with_name (edit_edge x).name xs ≡ true → (edit_edge x).name ≡ n → IsOfOneEdge (graph (x ∷ xs)) n → ⊥
shared_first x [] n up begins name once = false≢true begins
shared_first x (y ∷ ys) n up begins name once =
    not_before_itself (edit_edge x) (edit_edge y) up.0.0
    (once (edit_edge x) (edit_edge y) (present_first x (y ∷ ys)) (present_later x (y ∷ ys) (edit_edge y) (present_first y ys)) name
    (one_name (edit_edge y).name (edit_edge x).name begins ∙ name))

-- a shared name is not of one edge
pub shared_to : (xs : List Edit) (n : Name) → Ascends xs → list_any (is_fact Named n) (shared_facts xs) ≡ true → IsOfOneEdge (graph xs) n → ⊥
shared_to [] n up is once = false≢true is
shared_to (x ∷ xs) n up is once = by_test (begins_with_name (edit_edge x).name xs) (λ later. shared_to xs n up.1 later (in_rest x xs n once)) refl is where
  by_test : (b : Bool) → (list_any (is_fact Named n) (shared_facts xs) ≡ true → ⊥) → begins_with_name (edit_edge x).name xs ≡ b → list_any (is_fact Named n) (cond b (fact Named (edit_edge x).name ∷ shared_facts xs) (shared_facts xs)) ≡ true → ⊥
  by_test true rest begins any = elim (one_of (is_fact Named n (fact Named (edit_edge x).name)) (list_any (is_fact Named n) (shared_facts xs)) any) [
    | inl here ↦ shared_first x xs n up begins (fact_name Named n (fact Named (edit_edge x).name) here) once
    | inr later ↦ rest later
  ]
  by_test false rest begins any = rest any

not_shared_rest : (x : Edit) (xs : List Edit) (n : Name) → list_any (is_fact Named n) (shared_facts (x ∷ xs)) ≡ false → list_any (is_fact Named n) (shared_facts xs) ≡ false
not_shared_rest x xs n none = by_test (begins_with_name (edit_edge x).name xs) none where
  or_parts : (a b : Bool) → (a || b) ≡ false → b ≡ false
  or_parts true b h = absurd cc
  or_parts false b h = h

  by_test : (b : Bool) → list_any (is_fact Named n) (cond b (fact Named (edit_edge x).name ∷ shared_facts xs) (shared_facts xs)) ≡ false → list_any (is_fact Named n) (shared_facts xs) ≡ false
  by_test true none = or_parts (is_fact Named n (fact Named (edit_edge x).name)) (list_any (is_fact Named n) (shared_facts xs)) none
  by_test false none = none

-- where the name is not shared, no later edge has the first one's
no_later : (x : Edit) (xs : List Edit) (n : Name) (f : Edge) → Ascends (x ∷ xs) → list_any (is_fact Named n) (shared_facts (x ∷ xs)) ≡ false → (edit_edge x).name ≡ n → graph xs f ≢ Absent → f.name ≡ n → ⊥
no_later x xs n f up none name is same =
    let begins = next_has_name x xs f up is (same ∙ sym name) in
    let some : list_any (is_fact Named n) (shared_facts (x ∷ xs)) ≡ true =
    ap (λ b. list_any (is_fact Named n) (cond b (fact Named (edit_edge x).name ∷ shared_facts xs) (shared_facts xs))) begins
    ∙ ap (λ b. b || list_any (is_fact Named n) (shared_facts xs)) (fact_here Named n (edit_edge x).name name) in
    false≢true (sym none ∙ some)

-- a name that is not shared is of one edge at most
pub shared_back : (xs : List Edit) (n : Name) → Ascends xs → list_any (is_fact Named n) (shared_facts xs) ≡ false → IsOfOneEdge (graph xs) n
shared_back [] n up none e f is_e is_f name_e name_f = absurd (is_e refl)
shared_back (x ∷ xs) n up none e f is_e is_f name_e name_f =
    by_cases (first_or_later x xs e is_e) (first_or_later x xs f is_f)
    (λ later_e later_f. shared_back xs n up.1 (not_shared_rest x xs n none) e f later_e later_f name_e name_f)
  where
    by_cases : (edit_edge x ≡ e) ⊎ (graph xs e ≢ Absent) → (edit_edge x ≡ f) ⊎ (graph xs f ≢ Absent) → (graph xs e ≢ Absent → graph xs f ≢ Absent → e ≡ f) → e ≡ f
    by_cases (inl a) (inl b) rest = sym a ∙ b
    by_cases (inl a) (inr later) rest = absurd (no_later x xs n f up none (ap (λ (g : Edge). g.name) a ∙ name_e) later name_f)
    by_cases (inr later) (inl b) rest = absurd (no_later x xs n e up none (ap (λ (g : Edge). g.name) b ∙ name_f) later name_e)
    by_cases (inr a) (inr b) rest = rest a b
