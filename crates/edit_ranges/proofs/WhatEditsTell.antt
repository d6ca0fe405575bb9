-- The facts of edits are what a summary tells of their graph.
use Rattle.std.proofs.Common.{◌≡◌, ◌≢◌, Bool, true, false, cond, List, [], ◌∷◌, ◌++◌, refl, sym, ap, subst, ◌∙◌, inl, inr}
use Rattle.std.specs.Prelude.{◌&&◌, ◌||◌, not, filter}
use Rattle.std.specs.List.{All, AllByRecursion, list_any, flat_map}
use Rattle.std.proofs.lemmas.Bool.{false≢true}
use Rattle.std.proofs.lemmas.List.Folds.{list_any-append}
use Rattle.std.proofs.lemmas.Map.Views.{any-filter_same}
use Rattle.std.proofs.lemmas.List.Elements.{All-from_recursion}
use Rattle.edge_lattice.specs.declared.state.State.TheVariants.{Absent, Deleted}
use Rattle.grove_names.specs.declared.name.Name.{Name}
use Rattle.grove_edits.specs.declared.edge.Edge.{Edge}
use Rattle.grove_edits.specs.declared.edit.Edit.{Edit}
use Rattle.grove_edits.specs.declared.edit.EditKind.{EditKind}
use Rattle.grove_edits.specs.declared.edit.EditKind.TheVariants.{Insert, Delete}
use Rattle.grove_edits.specs.Edit.{edit_edge, edit_kind}
use Rattle.grove_edits.specs.Graph.{graph, Ascends}
use Rattle.edit_ranges.specs.declared.told.Told.{Told}
use Rattle.edit_ranges.specs.declared.told.Told.TheVariants as told
use Rattle.edit_ranges.specs.declared.fact.Fact.{Fact}
use Rattle.edit_ranges.specs.declared.name_range.NameRange.{NameRange}
use Rattle.edit_ranges.specs.Ranges.{tell, are_ranges}
use Rattle.edit_ranges.specs.Summary.{Mentions, IsBetweenGone, IsOfOneEdge, IsSummaryOf, name_behind}
use Rattle.edit_ranges.specs.Facts.{FactInRange, fact, is_fact, deletion_of, facts_of_edit, begins_with_name, between_facts, shared_facts, is_told_by}
use Rattle.edit_ranges.proofs.InOrder.{both, both_hold, one_of, false_from, or_false}
use Rattle.edit_ranges.proofs.NamesBetween.{Around, Found, all_append, between_back, between_in_range, between_to, none_named}
use Rattle.edit_ranges.proofs.Present.{present_first, present_later, first_or_later, deleted_later, deleted_first, deleted_by}
use Rattle.edit_ranges.proofs.SharedNames.{fact_here, fact_name, shared_to, shared_back}

abbrev told_in : Told → Name → List Edit → Bool
told_in t n edits = list_any (is_fact t n) (flat_map facts_of_edit edits)

split_any : (t : Told) (n : Name) (x : Edit) (xs : List Edit) → told_in t n (x ∷ xs) ≡ (list_any (is_fact t n) (facts_of_edit x) || told_in t n xs)
split_any t n x xs = list_any-append (is_fact t n) (facts_of_edit x) (flat_map facts_of_edit xs)

or_first : (a b : Bool) → a ≡ true → (a || b) ≡ true
or_first a b is = ap (λ c. c || b) is

or_second : (a b : Bool) → b ≡ true → (a || b) ≡ true
or_second true b is = refl
or_second false b is = is

-- ---- names

-- a deletion tells nothing of `Named`
no_name_of_deletion : (k : EditKind) (m n : Name) → list_any (is_fact told.Named n) (deletion_of k m) ≡ true → ⊥
no_name_of_deletion Insert m n is = false≢true is
no_name_of_deletion Delete m n is = false≢true is

abbrev is_named : Name → Name → Bool
is_named n m = is_fact told.Named n (fact told.Named m)

abbrev named_by_deletion : Name → Edit → Bool
named_by_deletion n x = list_any (is_fact told.Named n) (deletion_of (edit_kind x) (edit_edge x).name)

mentioned : (x : Edit) (n : Name) → list_any (is_fact told.Named n) (facts_of_edit x) ≡ true → Mentions (edit_edge x) n
mentioned x n is =
    elim (one_of (is_named n (edit_edge x).name) (is_named n (edit_edge x).source.name || (is_named n (edit_edge x).target.name || named_by_deletion n x)) is) [
      | inl name ↦ inl (fact_name told.Named n (fact told.Named (edit_edge x).name) name)
      | inr rest ↦ inr (elim (one_of (is_named n (edit_edge x).source.name) (is_named n (edit_edge x).target.name || named_by_deletion n x) rest) [
        | inl source ↦ inl (fact_name told.Named n (fact told.Named (edit_edge x).source.name) source)
        | inr others ↦ inr (elim (one_of (is_named n (edit_edge x).target.name) (named_by_deletion n x) others) [
          | inl target ↦ fact_name told.Named n (fact told.Named (edit_edge x).target.name) target
          | inr none ↦ absurd (no_name_of_deletion (edit_kind x) (edit_edge x).name n none)
        ])
      ])
    ]

mentions_told : (x : Edit) (n : Name) → Mentions (edit_edge x) n → list_any (is_fact told.Named n) (facts_of_edit x) ≡ true
mentions_told x n (inl name) = or_first (is_named n (edit_edge x).name) _ (fact_here told.Named n (edit_edge x).name name)
mentions_told x n (inr (inl source)) =
    or_second (is_named n (edit_edge x).name) (is_named n (edit_edge x).source.name || (is_named n (edit_edge x).target.name || named_by_deletion n x))
    (or_first (is_named n (edit_edge x).source.name) (is_named n (edit_edge x).target.name || named_by_deletion n x) (fact_here told.Named n (edit_edge x).source.name source))
mentions_told x n (inr (inr target)) =
    or_second (is_named n (edit_edge x).name) (is_named n (edit_edge x).source.name || (is_named n (edit_edge x).target.name || named_by_deletion n x))
    (or_second (is_named n (edit_edge x).source.name) (is_named n (edit_edge x).target.name || named_by_deletion n x)
    (or_first (is_named n (edit_edge x).target.name) (named_by_deletion n x) (fact_here told.Named n (edit_edge x).target.name target)))

named_to : (edits : List Edit) (n : Name) → told_in told.Named n edits ≡ true → (e : Edge) × (graph edits e ≢ Absent) × Mentions e n
named_to [] n is = absurd (false≢true is)
named_to (x ∷ xs) n is =
    elim (one_of (list_any (is_fact told.Named n) (facts_of_edit x)) (told_in told.Named n xs) (sym (split_any told.Named n x xs) ∙ is)) [
      | inl here ↦ (edit_edge x, present_first x xs, mentioned x n here)
      | inr later ↦ let there = named_to xs n later in (there.0, present_later x xs there.0 there.1, there.2)
    ]

named_back : (edits : List Edit) (n : Name) (e : Edge) → graph edits e ≢ Absent → Mentions e n → told_in told.Named n edits ≡ true
named_back [] n e is mentions = absurd (is refl)
named_back (x ∷ xs) n e is mentions =
    split_any told.Named n x xs
    ∙ elim (first_or_later x xs e is) [
      | inl same ↦
          or_first (list_any (is_fact told.Named n) (facts_of_edit x)) (told_in told.Named n xs)
          (mentions_told x n (subst (λ (f : Edge). Mentions f n) (sym same) mentions))
      | inr later ↦ or_second (list_any (is_fact told.Named n) (facts_of_edit x)) (told_in told.Named n xs) (named_back xs n e later mentions)
    ]

-- ---- deletions

deleted_by_kind : (k : EditKind) (m n : Name) → list_any (is_fact told.Deleted n) (deletion_of k m) ≡ true → (k ≡ Delete) × (m ≡ n)
deleted_by_kind Insert m n is = absurd (false≢true is)
deleted_by_kind Delete m n is = (refl, fact_name told.Deleted n (fact told.Deleted m) (one (is_fact told.Deleted n (fact told.Deleted m)) is)) where
  one : (b : Bool) → (b || false) ≡ true → b ≡ true
  one true h = refl
  one false h = h

-- of an edit's facts only the last can tell of `Deleted`
told_deleted : (x : Edit) (n : Name) → list_any (is_fact told.Deleted n) (facts_of_edit x) ≡ list_any (is_fact told.Deleted n) (deletion_of (edit_kind x) (edit_edge x).name)
told_deleted x n = refl

gone_to : (edits : List Edit) (n : Name) → told_in told.Deleted n edits ≡ true → (e : Edge) × (graph edits e ≡ Deleted) × (e.name ≡ n)
gone_to [] n is = absurd (false≢true is)
gone_to (x ∷ xs) n is =
    elim (one_of (list_any (is_fact told.Deleted n) (facts_of_edit x)) (told_in told.Deleted n xs) (sym (split_any told.Deleted n x xs) ∙ is)) [
      | inl here ↦
          let both = deleted_by_kind (edit_kind x) (edit_edge x).name n (sym (told_deleted x n) ∙ here) in
          (edit_edge x, deleted_first x xs both.0, both.1)
      | inr later ↦ let there = gone_to xs n later in (there.0, deleted_later x xs there.0 there.1, there.2)
    ]

deletion_told : (k : EditKind) (m n : Name) → k ≡ Delete → m ≡ n → list_any (is_fact told.Deleted n) (deletion_of k m) ≡ true
deletion_told k m n kind name =
    ap (λ (j : EditKind). list_any (is_fact told.Deleted n) (deletion_of j m)) kind ∙ or_first (is_fact told.Deleted n (fact told.Deleted m)) false (fact_here told.Deleted n m name)

gone_back : (edits : List Edit) (n : Name) (e : Edge) → graph edits e ≡ Deleted → e.name ≡ n → told_in told.Deleted n edits ≡ true
gone_back [] n e is name = absurd cc
gone_back (x ∷ xs) n e is name =
    split_any told.Deleted n x xs
    ∙ elim (deleted_by x xs e is) [
      | inl here ↦
          or_first (list_any (is_fact told.Deleted n) (facts_of_edit x)) (told_in told.Deleted n xs)
          (told_deleted x n ∙ deletion_told (edit_kind x) (edit_edge x).name n here.1 (ap (λ (f : Edge). f.name) here.0 ∙ name))
      | inr later ↦ or_second (list_any (is_fact told.Deleted n) (facts_of_edit x)) (told_in told.Deleted n xs) (gone_back xs n e later name)
    ]

-- ---- the summary

-- the facts whose names are not shared
abbrev kept : List NameRange → List Edit → List Fact
kept shared edits = filter (λ f. not (is_told_by shared f)) (flat_map facts_of_edit edits)

kept_told : (shared : List NameRange) (edits : List Edit) (t : Told) (n : Name) → list_any (is_fact t n) (kept shared edits) ≡ (not (tell shared told.Named n) && told_in t n edits)
kept_told shared edits t n =
    any-filter_same (is_fact t n) (λ f. not (is_told_by shared f)) (not (tell shared told.Named n))
    (λ f is. ap (λ (m : Name). not (tell shared told.Named m)) (fact_name t n f is)) (flat_map facts_of_edit edits)

not_true : (b : Bool) → not b ≡ true → b ≡ false
not_true true h = absurd cc
not_true false h = refl

not_false : (b : Bool) → b ≡ false → not b ≡ true
not_false b h = ap not h

pub is_summary : (edits : List Edit) (shared ranges : List NameRange) → Ascends edits → are_ranges ranges ≡ true
    → ((t : Told) (n : Name) → tell shared t n ≡ list_any (is_fact t n) (shared_facts edits))
    → ((t : Told) (n : Name) → tell ranges t n ≡ list_any (is_fact t n) (filter (λ f. not (is_told_by shared f)) (flat_map facts_of_edit edits) ++ between_facts shared edits))
    → IsSummaryOf (graph edits) ranges
is_summary edits shared ranges up in_order shares tells = record {
  in_order = in_order;
  named = λ n. (
    λ is.
        let parts = both (not (tell shared told.Named n)) (told_in told.Named n edits) (sym (named_part n) ∙ is) in
        (named_to edits n parts.1, once n parts.0),
    λ had. named_part n
        ∙ both_hold (not (tell shared told.Named n)) (told_in told.Named n edits) (alone n had.1) (named_back edits n had.0.0 had.0.1 had.0.2),
  );
  deleted = λ n. (
    λ is. elim (one_of (not (tell shared told.Named n) && told_in told.Deleted n edits) (list_any (is_fact told.Deleted n) (between_facts shared edits)) (sym (whole_told told.Deleted n) ∙ is)) [
      | inl gone ↦
          let parts = both (not (tell shared told.Named n)) (told_in told.Deleted n edits) gone in
          inl (gone_to edits n parts.1, once n parts.0)
      | inr passed ↦ inr (between_gone n (between_to shared edits n up passed))
    ],
    λ either. whole_told told.Deleted n ∙ elim either [
      | inl gone ↦
          or_first (not (tell shared told.Named n) && told_in told.Deleted n edits) (list_any (is_fact told.Deleted n) (between_facts shared edits))
          (both_hold (not (tell shared told.Named n)) (told_in told.Deleted n edits) (alone n gone.1) (gone_back edits n gone.0.0 gone.0.1 gone.0.2))
      | inr passed ↦
          or_second (not (tell shared told.Named n) && told_in told.Deleted n edits) (list_any (is_fact told.Deleted n) (between_facts shared edits)) (gone_between n passed)
    ],
  );
}
  where
    once : (n : Name) → not (tell shared told.Named n) ≡ true → IsOfOneEdge (graph edits) n
    once n is = shared_back edits n up (sym (shares told.Named n) ∙ not_true (tell shared told.Named n) is)

    alone : (n : Name) → IsOfOneEdge (graph edits) n → not (tell shared told.Named n) ≡ true
    alone n one = not_false (tell shared told.Named n) (false_from (tell shared told.Named n) (λ is. shared_to edits n up (sym (shares told.Named n) ∙ is) one))

    whole_told : (t : Told) (n : Name) → tell ranges t n ≡ ((not (tell shared told.Named n) && told_in t n edits) || list_any (is_fact t n) (between_facts shared edits))
    whole_told t n =
        tells t n ∙ list_any-append (is_fact t n) (kept shared edits) (between_facts shared edits)
        ∙ ap (λ b. b || list_any (is_fact t n) (between_facts shared edits)) (kept_told shared edits t n)

    named_part : (n : Name) → tell ranges told.Named n ≡ (not (tell shared told.Named n) && told_in told.Named n edits)
    named_part n =
        whole_told told.Named n
        ∙ or_false (not (tell shared told.Named n) && told_in told.Named n edits) (list_any (is_fact told.Named n) (between_facts shared edits)) (none_named shared edits n)

    between_gone : (n : Name) → Found shared edits n → IsBetweenGone (graph edits) n
    between_gone n found =
        let h = found.0 in
        record {
          no_edge = h.no_edge;
          before = h.before.name;
          follows = h.follows;
          before_gone = ((h.before, h.before_gone, refl), once h.before.name found.1);
          behind_gone = ((h.behind, h.behind_gone, h.followed), subst (λ (m : Name). IsOfOneEdge (graph edits) m) h.followed (once h.behind.name found.2));
          leads = h.leads;
        }

    gone_between : (n : Name) → IsBetweenGone (graph edits) n → list_any (is_fact told.Deleted n) (between_facts shared edits) ≡ true
    gone_between n passed =
        let one_before = subst (λ (m : Name). IsOfOneEdge (graph edits) m) (sym passed.before_gone.0.2) passed.before_gone.1 in
        let one_behind = subst (λ (m : Name). IsOfOneEdge (graph edits) m) (sym passed.behind_gone.0.2) passed.behind_gone.1 in
        let around : Around edits n = record {
          before = passed.before_gone.0.0;
          behind = passed.behind_gone.0.0;
          before_gone = passed.before_gone.0.1;
          behind_gone = passed.behind_gone.0.1;
          follows = passed.follows ∙ ap name_behind (sym passed.before_gone.0.2);
          followed = passed.behind_gone.0.2;
          leads = passed.leads;
          no_edge = passed.no_edge;
        } in
        between_back shared edits n up around one_before one_behind
        (alone passed.before_gone.0.0.name one_before) (alone passed.behind_gone.0.0.name one_behind)

-- ---- the numbers of facts fit

all_filtered : {X : Type 0} (P : X → Type 0) (p : X → Bool) (xs : List X) → AllByRecursion P xs → AllByRecursion P (filter p xs)
all_filtered P p [] all = tt
all_filtered P p (x ∷ xs) all = by_test (p x) (all_filtered P p xs all.1) where
  by_test : (b : Bool) → AllByRecursion P (filter p xs) → AllByRecursion P (cond b (x ∷ filter p xs) (filter p xs))
  by_test true rest = (all.0, rest)
  by_test false rest = rest

deletion_in_range : (k : EditKind) (t : Told) (m : Name) → FactInRange (fact t m) → AllByRecursion FactInRange (deletion_of k m)
deletion_in_range Insert t m in_range = tt
deletion_in_range Delete t m in_range = (in_range, tt)

edit_in_range : (x : Edit) → AllByRecursion FactInRange (facts_of_edit x)
edit_in_range x =
    let in_range = x.in_range in
    ((in_range.0, in_range.1), ((in_range.2.0, in_range.2.1), ((in_range.3.0, in_range.3.1), deletion_in_range (edit_kind x) told.Named (edit_edge x).name (in_range.0, in_range.1))))

facts_in_range : (edits : List Edit) → AllByRecursion FactInRange (flat_map facts_of_edit edits)
facts_in_range [] = tt
facts_in_range (x ∷ xs) = all_append FactInRange (facts_of_edit x) (flat_map facts_of_edit xs) (edit_in_range x) (facts_in_range xs)

pub kept_in_range : (p : Fact → Bool) (shared : List NameRange) (edits : List Edit) → All FactInRange (filter p (flat_map facts_of_edit edits) ++ between_facts shared edits)
kept_in_range p shared edits =
    All-from_recursion FactInRange (filter p (flat_map facts_of_edit edits) ++ between_facts shared edits)
    (all_append FactInRange (filter p (flat_map facts_of_edit edits)) (between_facts shared edits) (all_filtered FactInRange p (flat_map facts_of_edit edits) (facts_in_range edits)) (between_in_range shared edits))

shared_by_recursion : (edits : List Edit) → AllByRecursion FactInRange (shared_facts edits)
shared_by_recursion [] = tt
shared_by_recursion (x ∷ xs) = by_test (begins_with_name (edit_edge x).name xs) (shared_by_recursion xs) where
  by_test : (b : Bool) → AllByRecursion FactInRange (shared_facts xs) → AllByRecursion FactInRange (cond b (fact told.Named (edit_edge x).name ∷ shared_facts xs) (shared_facts xs))
  by_test true rest = let in_range = x.in_range in ((in_range.0, in_range.1), rest)
  by_test false rest = rest

pub shared_in_range : (edits : List Edit) → All FactInRange (shared_facts edits)
shared_in_range edits = All-from_recursion FactInRange (shared_facts edits) (shared_by_recursion edits)
