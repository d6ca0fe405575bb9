-- What the edits that a replica lacks make of its graph.
use Rattle.std.proofs.Common.{◌≡◌, ◌≢◌, zero, suc, ◌<◌, Bool, true, false, cond, List, [], ◌∷◌, refl, sym, ap, subst, ◌∙◌, ◌⊎◌, inl, inr, arith}
use Rattle.std.specs.Prelude.{not}
use Rattle.std.specs.List.{AllByRecursion}
use Rattle.std.specs.declared.cmp.Ordering.TheVariants.{Less}
use Rattle.std.proofs.lemmas.Bool.{false≢true, cases_lt}
use Rattle.edge_lattice.specs.declared.state.State.{State}
use Rattle.edge_lattice.specs.declared.state.State.TheVariants.{Absent, Live, Deleted}
use Rattle.edge_lattice.specs.State.{state_join, IsAtMost, rank}
use Rattle.edge_lattice.proofs.States.{state_join_assoc, state_join_comm}
use Rattle.grove_names.specs.declared.name.Name.{Name}
use Rattle.grove_edits.specs.declared.edge.Edge.{Edge}
use Rattle.grove_edits.specs.declared.edit.Edit.{Edit}
use Rattle.grove_edits.specs.declared.edit.EditKind.{EditKind}
use Rattle.grove_edits.specs.declared.edit.EditKind.TheVariants.{Insert, Delete}
use Rattle.grove_edits.specs.Edge.{edge_cmp}
use Rattle.grove_edits.specs.Edit.{edit_edge, edit_kind}
use Rattle.grove_edits.specs.Graph.{Graph, graph, graph_join, state_of, is_same_edge, Ascends, HasAll, IsBelow, IsSame}
use Rattle.grove_edits.proofs.Orders.{one_edge}
use Rattle.grove_edits.proofs.Graphs.{asked}
use Rattle.edit_ranges.specs.declared.name_range.NameRange.{NameRange}
use Rattle.edit_ranges.specs.Ranges.{tell}
use Rattle.edit_ranges.specs.Summary.{IsBetweenGone, IsGone, IsHad, IsOfOneEdge, IsSummaryOf}
use Rattle.edit_ranges.specs.Lacking.{told_by, is_taken, lacking, IsKnownByName, AreNamesOnce}
use Rattle.edit_ranges.proofs.Present.{absent_first, absent_second, deleted_present, present_first, present_later}

-- ---- states

absorbed : (a b : State) → IsAtMost a b → state_join b a ≡ b
absorbed Absent Absent le = refl
absorbed Absent Live le = refl
absorbed Absent Deleted le = refl
absorbed Live Absent le = absurd (omega arith)
absorbed Live Live le = refl
absorbed Live Deleted le = refl
absorbed Deleted Absent le = absurd (omega arith)
absorbed Deleted Live le = absurd (omega arith)
absorbed Deleted Deleted le = refl

join-Absent : (a : State) → state_join a Absent ≡ a
join-Absent Absent = refl
join-Absent Live = refl
join-Absent Deleted = refl

least : (a b c : State) → IsAtMost a c → IsAtMost b c → IsAtMost (state_join a b) c
least Absent Absent c one two = two
least Absent Live c one two = two
least Absent Deleted c one two = two
least Live Absent c one two = one
least Live Live c one two = two
least Live Deleted c one two = two
least Deleted Absent c one two = one
least Deleted Live c one two = one
least Deleted Deleted c one two = two

above_second : (a b : State) → IsAtMost b (state_join a b)
above_second Absent b = subst (λ s. IsAtMost b s) (sym (state_join_comm Absent b ∙ join-Absent b)) (omega arith)
above_second Live Absent = omega arith
above_second Live Live = omega arith
above_second Live Deleted = omega arith
above_second Deleted Absent = omega arith
above_second Deleted Live = omega arith
above_second Deleted Deleted = omega arith

above_first : (a b : State) → IsAtMost a (state_join a b)
above_first a b = subst (λ s. IsAtMost a s) (state_join_comm b a) (above_second b a)

at_most_through : (a b c : State) → IsAtMost a b → IsAtMost b c → IsAtMost a c
at_most_through a b c one two = omega arith

swapped : (a b c : State) → state_join a (state_join b c) ≡ state_join b (state_join a c)
swapped a b c = sym (state_join_assoc a b c) ∙ ap (λ s. state_join s c) (state_join_comm a b) ∙ state_join_assoc b a c

-- ---- what is not sent is there already

-- the graph is at least what the edit asks
abbrev IsThere : Graph → Edit → Type 0
IsThere g x = IsAtMost (state_of (edit_kind x)) (g (edit_edge x))

nothing_asked : (g : Graph) (x : Edit) (e : Edge) → IsThere g x → state_join (g e) (asked x e) ≡ g e
nothing_asked g x e there = by_test (is_same_edge (edit_edge x) e) refl where
  by_test : (b : Bool) → is_same_edge (edit_edge x) e ≡ b → state_join (g e) (cond b (state_of (edit_kind x)) Absent) ≡ g e
  by_test true same = absorbed (state_of (edit_kind x)) (g e) (subst (λ (f : Edge). IsAtMost (state_of (edit_kind x)) (g f)) (one_edge (edit_edge x) e same) there)
  by_test false other = join-Absent (g e)

joined : (g : Graph) (ranges : List NameRange) (a : List Edit) → AllByRecursion (λ x. is_taken ranges x ≡ true → IsThere g x) a → (e : Edge) → state_join (g e) (graph (lacking ranges a) e) ≡ state_join (g e) (graph a e)
joined g ranges [] all e = refl
joined g ranges (x ∷ xs) all e = by_test (is_taken ranges x) refl (joined g ranges xs all.1 e) where
  by_test : (b : Bool) → is_taken ranges x ≡ b → state_join (g e) (graph (lacking ranges xs) e) ≡ state_join (g e) (graph xs e)
      → state_join (g e) (graph (cond (not b) (x ∷ lacking ranges xs) (lacking ranges xs)) e) ≡ state_join (g e) (state_join (asked x e) (graph xs e))
  by_test true is rest =
      rest ∙ ap (λ s. state_join s (graph xs e)) (sym (nothing_asked g x e (all.0 is))) ∙ state_join_assoc (g e) (asked x e) (graph xs e)
  by_test false is rest =
      swapped (g e) (asked x e) (graph (lacking ranges xs) e) ∙ ap (state_join (asked x e)) rest ∙ swapped (asked x e) (g e) (graph xs e)

present_at_least : (s : State) → s ≢ Absent → IsAtMost Live s
present_at_least Absent h = absurd (h refl)
present_at_least Live h = omega arith
present_at_least Deleted h = omega arith

taken_is_there : (h : Graph) (ranges : List NameRange) (x : Edit) → IsSummaryOf h ranges → (IsHad h (edit_edge x).name → h (edit_edge x) ≢ Absent) → is_taken ranges x ≡ true → IsThere h x
taken_is_there h ranges x summary known is = by_kind (edit_kind x) is where
  gone_is_there : IsGone h (edit_edge x).name → IsAtMost Deleted (h (edit_edge x))
  gone_is_there gone =
      let f = gone.0.0 in
      let there : h f ≢ Absent = λ none. deleted_present (sym gone.0.1 ∙ none) in
      let here = known ((f, there, inl gone.0.2), gone.1) in
      let same : edit_edge x ≡ f = gone.1 (edit_edge x) f here there refl gone.0.2 in
      subst (λ s. IsAtMost Deleted s) (sym (ap h same ∙ gone.0.1)) (omega arith)

  -- a vertex has the name, so the edge would stand in the graph, and no edge with the name does
  not_between : IsBetweenGone h (edit_edge x).name → ⊥
  not_between between =
      let f = between.behind_gone.0.0 in
      let there : h f ≢ Absent = λ none. deleted_present (sym between.behind_gone.0.1 ∙ none) in
      between.no_edge (edit_edge x) (known ((f, there, inr (inr between.leads)), λ e g is_e is_g name_e name_g. absurd (between.no_edge e is_e name_e))) refl

  by_kind : (k : EditKind) → tell ranges (told_by k) (edit_edge x).name ≡ true → IsAtMost (state_of k) (h (edit_edge x))
  by_kind Insert named = present_at_least (h (edit_edge x)) (known ((summary.named (edit_edge x).name).0 named))
  by_kind Delete deleted =
      elim ((summary.deleted (edit_edge x).name).0 deleted) [ inl gone ↦ gone_is_there gone | inr between ↦ absurd (not_between between) ]

all_there : (h : Graph) (ranges : List NameRange) (a : List Edit) → IsSummaryOf h ranges → IsKnownByName (graph a) h → AllByRecursion (λ x. is_taken ranges x ≡ true → IsThere h x) a
all_there h ranges [] summary known = tt
all_there h ranges (x ∷ xs) summary known = (
  taken_is_there h ranges x summary (known (edit_edge x) (present_first x xs)),
  all_there h ranges xs summary (λ e is. known e (present_later x xs e is)),
)

pub enough : (a b : List Edit) (ranges : List NameRange) → IsSummaryOf (graph b) ranges → IsKnownByName (graph a) (graph b)
    → IsSame (graph_join (graph b) (graph (lacking ranges a))) (graph_join (graph a) (graph b))
enough a b ranges summary known e =
    joined (graph b) ranges a (all_there (graph b) ranges a summary known) e ∙ state_join_comm (graph b e) (graph a e)

-- ---- names that are given once

abbrev IsWithin : Graph → Graph → Type 0
IsWithin g j = (e : Edge) → g e ≢ Absent → j e ≢ Absent

pub known_by_name : (j g h : Graph) → IsWithin g j → IsWithin h j → AreNamesOnce j → IsKnownByName g h
known_by_name j g h of_g of_h once e is had = by_cases had.0.2 where
  by_cases : (had.0.0.name ≡ e.name) ⊎ (had.0.0.source.name ≡ e.name) ⊎ (had.0.0.target.name ≡ e.name) → h e ≢ Absent
  by_cases (inl name) none = had.0.1 (ap h (once.one_edge had.0.0 e (of_h had.0.0 had.0.1) (of_g e is) name) ∙ none)
  by_cases (inr (inl source)) none = once.no_source e had.0.0 (of_g e is) (of_h had.0.0 had.0.1) (sym source)
  by_cases (inr (inr target)) none = once.no_target e had.0.0 (of_g e is) (of_h had.0.0 had.0.1) (sym target)

pub within_first : (g h : Graph) → IsWithin g (graph_join g h)
within_first g h e is none = is (absent_first (g e) (h e) none)

pub within_second : (g h : Graph) → IsWithin h (graph_join g h)
within_second g h e is none = is (absent_second (g e) (h e) none)

-- ---- both have the join

pub joined_by_first : (a b : List Edit) (told : List NameRange) → IsSummaryOf (graph a) told → AreNamesOnce (graph_join (graph a) (graph b))
    → IsSame (graph_join (graph a) (graph (lacking told b))) (graph_join (graph a) (graph b))
joined_by_first a b told summary once e =
    enough b a told summary
    (known_by_name (graph_join (graph a) (graph b)) (graph b) (graph a) (within_second (graph a) (graph b)) (within_first (graph a) (graph b)) once) e
    ∙ state_join_comm (graph b e) (graph a e)

pub once_along : (g h : Graph) → IsSame g h → AreNamesOnce g → AreNamesOnce h
once_along g h same once = record {
  one_edge = λ e f one other. once.one_edge e f (there e one) (there f other);
  no_source = λ e f one other. once.no_source e f (there e one) (there f other);
  no_target = λ e f one other. once.no_target e f (there e one) (there f other);
} where
  there : (e : Edge) → h e ≢ Absent → g e ≢ Absent
  there e is none = is (sym (same e) ∙ none)

-- ---- what is sent is there

has_more : (y : Edit) (xs ys : List Edit) → HasAll xs ys → HasAll (y ∷ xs) ys
has_more y xs [] all = tt
has_more y xs (z ∷ zs) all = ((suc all.0.0, omega (arith, all.0.1), all.0.2), has_more y xs zs all.1)

has_itself : (xs : List Edit) → HasAll xs xs
has_itself [] = tt
has_itself (x ∷ xs) = ((zero, omega arith, refl), has_more x xs xs (has_itself xs))

has_lacking : (ranges : List NameRange) (has a : List Edit) → HasAll has a → HasAll has (lacking ranges a)
has_lacking ranges has [] all = tt
has_lacking ranges has (x ∷ xs) all = by_test (not (is_taken ranges x)) (has_lacking ranges has xs all.1) where
  by_test : (b : Bool) → HasAll has (lacking ranges xs) → HasAll has (cond b (x ∷ lacking ranges xs) (lacking ranges xs))
  by_test true rest = (all.0, rest)
  by_test false rest = rest

pub only_its_edits : (ranges : List NameRange) (a : List Edit) → HasAll a (lacking ranges a)
only_its_edits ranges a = has_lacking ranges a a (has_itself a)

all_lacking : (P : Edit → Type 0) (ranges : List NameRange) (a : List Edit) → AllByRecursion P a → AllByRecursion P (lacking ranges a)
all_lacking P ranges [] all = tt
all_lacking P ranges (x ∷ xs) all = by_test (not (is_taken ranges x)) (all_lacking P ranges xs all.1) where
  by_test : (b : Bool) → AllByRecursion P (lacking ranges xs) → AllByRecursion P (cond b (x ∷ lacking ranges xs) (lacking ranges xs))
  by_test true rest = (all.0, rest)
  by_test false rest = rest

pub lacking_ascends : (ranges : List NameRange) (a : List Edit) → Ascends a → Ascends (lacking ranges a)
lacking_ascends ranges [] up = tt
lacking_ascends ranges (x ∷ xs) up = by_test (not (is_taken ranges x)) (all_lacking (λ later. edge_cmp (edit_edge x) (edit_edge later) ≡ Less) ranges xs up.0) (lacking_ascends ranges xs up.1) where
  by_test : (b : Bool) → AllByRecursion (λ later. edge_cmp (edit_edge x) (edit_edge later) ≡ Less) (lacking ranges xs) → Ascends (lacking ranges xs) → Ascends (cond b (x ∷ lacking ranges xs) (lacking ranges xs))
  by_test true after rest = (after, rest)
  by_test false after rest = rest

lacking_below : (ranges : List NameRange) (a : List Edit) (e : Edge) → IsAtMost (graph (lacking ranges a) e) (graph a e)
lacking_below ranges [] e = omega arith
lacking_below ranges (x ∷ xs) e = by_test (not (is_taken ranges x)) (lacking_below ranges xs e) where
  by_test : (b : Bool) → IsAtMost (graph (lacking ranges xs) e) (graph xs e) → IsAtMost (graph (cond b (x ∷ lacking ranges xs) (lacking ranges xs)) e) (graph (x ∷ xs) e)
  by_test true rest =
      least (asked x e) (graph (lacking ranges xs) e) (state_join (asked x e) (graph xs e)) (above_first (asked x e) (graph xs e))
      (at_most_through (graph (lacking ranges xs) e) (graph xs e) (state_join (asked x e) (graph xs e)) rest (above_second (asked x e) (graph xs e)))
  by_test false rest = at_most_through (graph (lacking ranges xs) e) (graph xs e) (state_join (asked x e) (graph xs e)) rest (above_second (asked x e) (graph xs e))

pub nothing_invented : (ranges : List NameRange) (a b : List Edit) → IsBelow (graph_join (graph b) (graph (lacking ranges a))) (graph_join (graph a) (graph b))
nothing_invented ranges a b e =
    least (graph b e) (graph (lacking ranges a) e) (state_join (graph a e) (graph b e)) (above_second (graph a e) (graph b e))
    (at_most_through (graph (lacking ranges a) e) (graph a e) (state_join (graph a e) (graph b e)) (lacking_below ranges a e) (above_first (graph a e) (graph b e)))

-- ---- what is sent was lacking

deleted_from : (s : State) → IsAtMost Deleted s → s ≡ Deleted
deleted_from Absent le = absurd (omega arith)
deleted_from Live le = absurd (omega arith)
deleted_from Deleted le = refl

not_absent : (s : State) → IsAtMost Live s → s ≢ Absent
not_absent Absent le = absurd (omega arith)
not_absent Live le = λ h. absurd cc
not_absent Deleted le = λ h. absurd cc

there_is_taken : (h : Graph) (ranges : List NameRange) (x : Edit) → IsSummaryOf h ranges → IsOfOneEdge h (edit_edge x).name → IsThere h x → is_taken ranges x ≡ true
there_is_taken h ranges x summary once there = by_kind (edit_kind x) there where
  by_kind : (k : EditKind) → IsAtMost (state_of k) (h (edit_edge x)) → tell ranges (told_by k) (edit_edge x).name ≡ true
  by_kind Insert le = (summary.named (edit_edge x).name).1 ((edit_edge x, not_absent (h (edit_edge x)) le, inl refl), once)
  by_kind Delete le = (summary.deleted (edit_edge x).name).1 (inl ((edit_edge x, deleted_from (h (edit_edge x)) le, refl), once))

pub none_in_vain : (a b : List Edit) (ranges : List NameRange) → IsSummaryOf (graph b) ranges → ((n : Name) → IsOfOneEdge (graph b) n)
    → AllByRecursion (λ x. rank (graph b (edit_edge x)) < rank (state_of (edit_kind x))) (lacking ranges a)
none_in_vain [] b ranges summary once = tt
none_in_vain (x ∷ xs) b ranges summary once = by_test (is_taken ranges x) refl (none_in_vain xs b ranges summary once) where
  by_test : (t : Bool) → is_taken ranges x ≡ t → AllByRecursion (λ x. rank (graph b (edit_edge x)) < rank (state_of (edit_kind x))) (lacking ranges xs)
      → AllByRecursion (λ x. rank (graph b (edit_edge x)) < rank (state_of (edit_kind x))) (cond (not t) (x ∷ lacking ranges xs) (lacking ranges xs))
  by_test true is rest = rest
  by_test false is rest = (
    elim (cases_lt (rank (graph b (edit_edge x))) (rank (state_of (edit_kind x)))) [
      | inl less ↦ less
      | inr there ↦ absurd (false≢true (sym is ∙ there_is_taken (graph b) ranges x summary (once (edit_edge x).name) there))
    ],
    rest,
  )
