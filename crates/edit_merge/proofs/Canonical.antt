-- Canonical lists one after the other.
use Rattle.std.proofs.Common.{◌≡◌, ◌≢◌, Bool, true, false, cond, List, [], ◌∷◌, ◌++◌, refl, sym, ap, subst, ◌∙◌}
use Rattle.std.specs.List.{AllByRecursion}
use Rattle.std.specs.Ordering.{is_eq}
use Rattle.std.specs.declared.cmp.Ordering.TheVariants.{Less}
use Rattle.std.proofs.lemmas.Cmp.{tied_itself}
use Rattle.edge_lattice.specs.declared.state.State.{State}
use Rattle.edge_lattice.specs.declared.state.State.TheVariants.{Absent, Live, Deleted}
use Rattle.edge_lattice.specs.State.{state_join}
use Rattle.edge_lattice.proofs.States.{Absent-state_join}
use Rattle.grove_edits.specs.declared.edge.Edge.{Edge}
use Rattle.grove_edits.specs.declared.edit.Edit.{Edit}
use Rattle.grove_edits.specs.declared.edit.EditKind.{EditKind}
use Rattle.grove_edits.specs.declared.edit.EditKind.TheVariants.{Insert, Delete}
use Rattle.grove_edits.specs.Edge.{edge_cmp}
use Rattle.grove_edits.specs.Edit.{edit_edge, edit_kind}
use Rattle.grove_edits.specs.Graph.{graph, state_of, is_same_edge, Ascends, IsCanonical}
use Rattle.grove_edits.proofs.Graphs.{graph-append}
use Rattle.grove_edits.proofs.Orders.{edge_cmp_total, one_edge}

pub All-append : {X : Type 0} (P : X → Type 0) (xs ys : List X) → AllByRecursion P xs → AllByRecursion P ys → AllByRecursion P (xs ++ ys)
All-append P [] ys first second = second
All-append P (x ∷ xs) ys first second = (first.0, All-append P xs ys first.1 second)

pub All-weaker : {X : Type 0} (P Q : X → Type 0) (xs : List X) → ((x : X) → P x → Q x) → AllByRecursion P xs → AllByRecursion Q xs
All-weaker P Q [] weaker all = tt
All-weaker P Q (x ∷ xs) weaker all = (weaker x all.0, All-weaker P Q xs weaker all.1)

-- ---- the edges of a graph are those of its edits

-- an edge that is not Absent is named by an edit
named_in : (P : Edge → Type 0) (edits : List Edit) (e : Edge) → AllByRecursion (λ x. P (edit_edge x)) edits → graph edits e ≢ Absent → P e
named_in P [] e all there = absurd (there refl)
named_in P (x ∷ edits) e all there = by_test (is_same_edge (edit_edge x) e) refl (named_in P edits e all.1) where
  by_test : (b : Bool) → is_same_edge (edit_edge x) e ≡ b → (graph edits e ≢ Absent → P e) → P e
  by_test true same rest = subst P (one_edge (edit_edge x) e same) all.0
  by_test false other rest =
      let later : graph (x ∷ edits) e ≡ graph edits e = ap (λ b. state_join (cond b (state_of (edit_kind x)) Absent) (graph edits e)) other ∙ Absent-state_join (graph edits e) in
      rest (λ none. there (later ∙ none))

kind_there : (k : EditKind) (s : State) → state_join (state_of k) s ≢ Absent
kind_there Insert Absent e = absurd cc
kind_there Insert Live e = absurd cc
kind_there Insert Deleted e = absurd cc
kind_there Delete Absent e = absurd cc
kind_there Delete Live e = absurd cc
kind_there Delete Deleted e = absurd cc

join_there : (s t : State) → t ≢ Absent → state_join s t ≢ Absent
join_there Absent t there e = there (sym (Absent-state_join t) ∙ e)
join_there Live t there e = kind_there Insert t e
join_there Deleted t there e = kind_there Delete t e

first_there : (x : Edit) (edits : List Edit) → graph (x ∷ edits) (edit_edge x) ≢ Absent
first_there x edits e =
    kind_there (edit_kind x) (graph edits (edit_edge x))
    (sym (ap (λ b. state_join (cond b (state_of (edit_kind x)) Absent) (graph edits (edit_edge x))) (ap is_eq (tied_itself edge_cmp_total (edit_edge x)))) ∙ e)

all_there : (P : Edge → Type 0) (edits : List Edit) → ((e : Edge) → graph edits e ≢ Absent → P e) → AllByRecursion (λ x. P (edit_edge x)) edits
all_there P [] each = tt
all_there P (x ∷ edits) each =
    (each (edit_edge x) (first_there x edits), all_there P edits (λ e there. each e (join_there _ (graph edits e) there)))

-- what holds of the edges of edits holds of those of the canonical list
pub all_of_canonical : (P : Edge → Type 0) (edits canonical : List Edit) → IsCanonical (graph edits) canonical
    → AllByRecursion (λ x. P (edit_edge x)) edits → AllByRecursion (λ x. P (edit_edge x)) canonical
all_of_canonical P edits canonical is all = all_there P canonical (λ e there. named_in P edits e all (λ none. there (is.same e ∙ none)))

-- ---- one after the other

-- each edge of the first list comes before each of the second
abbrev pub ComesBefore : List Edit → List Edit → Type 0
ComesBefore xs ys = AllByRecursion (λ x. AllByRecursion (λ y. edge_cmp (edit_edge x) (edit_edge y) ≡ Less) ys) xs

Ascends-append : (xs ys : List Edit) → Ascends xs → Ascends ys → ComesBefore xs ys → Ascends (xs ++ ys)
Ascends-append [] ys first second before = second
Ascends-append (x ∷ xs) ys first second before =
    (All-append (λ y. edge_cmp (edit_edge x) (edit_edge y) ≡ Less) xs ys first.0 before.0, Ascends-append xs ys first.1 second before.1)

same_joins : (a b c d : State) → a ≡ c → b ≡ d → state_join a b ≡ state_join c d
same_joins a b c d first second = ap (λ s. state_join s b) first ∙ ap (state_join c) second

pub IsCanonical-append : (es fs xs ys : List Edit) → IsCanonical (graph es) xs → IsCanonical (graph fs) ys → ComesBefore xs ys → IsCanonical (graph (es ++ fs)) (xs ++ ys)
IsCanonical-append es fs xs ys first second before = record {
  in_order = Ascends-append xs ys first.in_order second.in_order before;
  same = λ e. graph-append xs ys e ∙ same_joins (graph xs e) (graph ys e) (graph es e) (graph fs e) (first.same e) (second.same e) ∙ sym (graph-append es fs e);
}

-- the list of one edit is its own canonical list
pub one_is_canonical : (edit : Edit) → IsCanonical (graph (edit ∷ [])) (edit ∷ [])
one_is_canonical edit = record { in_order = (tt, tt); same = λ e. refl }
