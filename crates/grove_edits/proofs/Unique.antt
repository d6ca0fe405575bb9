-- An edit is its kind and its edge, and a graph has one canonical list.
use Rattle.std.proofs.Common.{◌≡◌, zero, suc, Bool, true, false, cond, List, [], ◌∷◌, refl, sym, ap, subst, ◌∙◌, arith}
use Rattle.std.proofs.Props.{props}
use Rattle.std.specs.List.{AllByRecursion, Contains}
use Rattle.std.specs.declared.cmp.Ordering.{Ordering}
use Rattle.std.specs.declared.cmp.Ordering.TheVariants.{Less, Equal, Greater}
use Rattle.std.specs.Ordering.{is_eq, ordering_reverse}
use Rattle.std.specs.List.Sorted.{IsPermutation}
use Rattle.std.proofs.lemmas.Cmp.{tied_itself}
use Rattle.std.proofs.lemmas.List.Sorted.{Contains-permutation, IsPermutation-sym}
use Rattle.edge_lattice.specs.declared.state.State.TheVariants.{Absent}
use Rattle.edge_lattice.specs.State.{state_join}
use Rattle.edge_lattice.proofs.States.{state_join_comm, Absent-state_join}
use Rattle.grove_names.specs.declared.name.Name.{Name}
use Rattle.grove_sorts.specs.declared.plain.Plain.{Plain}
use Rattle.grove_sorts.specs.declared.position.Position.{Position}
use Rattle.grove_sorts.proofs.Plains.{one_plain}
use Rattle.grove_edits.specs.declared.vertex.Vertex.{Vertex}
use Rattle.grove_edits.specs.declared.edge.Edge.{Edge}
use Rattle.grove_edits.specs.declared.edit.Edit.{Edit}
use Rattle.grove_edits.specs.declared.edit.EditKind.{EditKind}
use Rattle.grove_edits.specs.declared.edit.EditKind.TheVariants.{Insert, Delete}
use Rattle.grove_edits.specs.Edge.{edge_cmp, edge_from, IsWellFormed, EdgeInRange}
use Rattle.grove_edits.specs.Edit.{edit_edge, edit_kind}
use Rattle.grove_edits.specs.Graph.{Graph, graph, state_of, is_same_edge, IsSame, Ascends, IsCanonical, HasAll}
use Rattle.grove_edits.proofs.Orders.{edge_cmp_total, edge_cmp_exact}
use Rattle.grove_edits.proofs.Graphs.{graph-same_edits}

-- ---- an edit is its kind and its edge

abbrev Kept : Edge → Type 0
Kept edge = IsWellFormed edge × EdgeInRange edge

Kept-prop : (edge : Edge) → IsProp (Kept edge)
Kept-prop edge = hlevel props

-- the parts of an edit beside what holds of them
record Parts : Type 0 where
  name : Name
  source : Name
  branch : Plain
  position : Position
  target : Vertex
  kind : EditKind

abbrev edge_in : Parts → Edge
edge_in parts = edge_from parts.name parts.source parts.branch parts.position parts.target

abbrev made : (parts : Parts) → Kept (edge_in parts) → Edit
made parts kept =
    record { name = parts.name; source = parts.source; branch = parts.branch; position = parts.position; target = parts.target; kind = parts.kind; well_formed = kept.0; in_range = kept.1 }

made_same : (a b : Parts) → a ≡ b → (kept : Kept (edge_in a)) (held : Kept (edge_in b)) → made a kept ≡ made b held
made_same a b same kept = subst (λ x. (held : Kept (edge_in x)) → made a kept ≡ made x held) same (λ held. ap (made a) (Kept-prop (edge_in a) kept held))

abbrev parts_from : Name → Name → Plain → Position → Vertex → EditKind → Parts
parts_from n s b p t k = record { name = n; source = s; branch = b; position = p; target = t; kind = k }

same_parts : (n m s z : Name) (b c : Plain) (p q : Position) (t u : Vertex) (k l : EditKind) → n ≡ m → s ≡ z → b ≡ c → p ≡ q → t ≡ u → k ≡ l
    → parts_from n s b p t k ≡ parts_from m z c q u l
same_parts n m s z b c p q t u k l name source branch position target kind = rw name (rw source (rw branch (rw position (rw target (rw kind refl)))))

pub edit_from_fields : (a b : Edit) → edit_kind a ≡ edit_kind b → edit_edge a ≡ edit_edge b → a ≡ b
edit_from_fields a b kind edge =
    let branch : a.branch ≡ b.branch = one_plain a.branch b.branch (ap (λ (e : Edge). e.source.ctor) edge) in
    let parts = same_parts a.name b.name a.source b.source a.branch b.branch a.position b.position a.target b.target a.kind b.kind
    (ap (λ (e : Edge). e.name) edge) (ap (λ (e : Edge). e.source.name) edge) branch (ap (λ (e : Edge). e.position) edge) (ap (λ (e : Edge). e.target) edge) kind in
    made_same (parts_from a.name a.source a.branch a.position a.target a.kind) (parts_from b.name b.source b.branch b.position b.target b.kind) parts
    (a.well_formed, a.in_range) (b.well_formed, b.in_range)

-- ---- lists with the same edits

Contains-more : (x y : Edit) (xs : List Edit) → Contains xs y → Contains (x ∷ xs) y
Contains-more x y xs has = (suc has.0, omega (arith, has.1), has.2)

HasAll-from : (has : List Edit) (xs : List Edit) → ((x : Edit) → Contains xs x → Contains has x) → HasAll has xs
HasAll-from has [] each = tt
HasAll-from has (x ∷ xs) each = (each x (zero, omega arith, refl), HasAll-from has xs (λ y in_rest. each y (Contains-more x y xs in_rest)))

-- a list in another order has the same graph
pub graph-permutation : (xs ys : List Edit) → IsPermutation xs ys → IsSame (graph ys) (graph xs)
graph-permutation xs ys moved =
    graph-same_edits ys xs (HasAll-from ys xs (λ x. Contains-permutation xs ys x moved)) (HasAll-from xs ys (λ x. Contains-permutation ys xs x (IsPermutation-sym xs ys moved)))

-- ---- one canonical list

pub greater_from : (o : Ordering) → o ≡ Less → is_eq (ordering_reverse o) ≡ false
greater_from o e = rw e refl

-- an edge before all edges of a list is Absent in its graph
pub absent_before : (e : Edge) (xs : List Edit) → AllByRecursion (λ x. edge_cmp e (edit_edge x) ≡ Less) xs → graph xs e ≡ Absent
absent_before e [] before = refl
absent_before e (x ∷ xs) before =
    let other : is_same_edge (edit_edge x) e ≡ false = ap is_eq (edge_cmp_total.antisymm (edit_edge x) e) ∙ greater_from (edge_cmp e (edit_edge x)) before.0 in
    rw other (Absent-state_join (graph xs e) ∙ absent_before e xs before.1)

same_itself : (e : Edge) → is_same_edge e e ≡ true
same_itself e = ap is_eq (tied_itself edge_cmp_total e)

-- the state of a canonical list's first edge
first_state : (x : Edit) (xs : List Edit) → Ascends (x ∷ xs) → graph (x ∷ xs) (edit_edge x) ≡ state_of (edit_kind x)
first_state x xs up =
    ap (λ s. state_join s (graph xs (edit_edge x))) (ap (λ b. cond b (state_of (edit_kind x)) Absent) (same_itself (edit_edge x)))
    ∙ ap (state_join (state_of (edit_kind x))) (absent_before (edit_edge x) xs up.0)
    ∙ state_join_comm (state_of (edit_kind x)) Absent ∙ Absent-state_join (state_of (edit_kind x))

not_absent : (k : EditKind) → state_of k ≡ Absent → ⊥
not_absent Insert e = cc
not_absent Delete e = cc

state_of_injective : (k l : EditKind) → state_of k ≡ state_of l → k ≡ l
state_of_injective Insert Insert e = refl
state_of_injective Insert Delete e = absurd cc
state_of_injective Delete Insert e = absurd cc
state_of_injective Delete Delete e = refl

all_after : (e f : Edge) (xs : List Edit) → edge_cmp e f ≡ Less → AllByRecursion (λ x. edge_cmp f (edit_edge x) ≡ Less) xs → AllByRecursion (λ x. edge_cmp e (edit_edge x) ≡ Less) xs
all_after e f [] lt after = tt
all_after e f (x ∷ xs) lt after = (edge_cmp_total.trans e f (edit_edge x) lt after.0, all_after e f xs lt after.1)

-- two ascending lists with one graph begin alike
begin_alike : (x y : Edit) (xs ys : List Edit) → Ascends (x ∷ xs) → Ascends (y ∷ ys) → IsSame (graph (x ∷ xs)) (graph (y ∷ ys)) → edge_cmp (edit_edge x) (edit_edge y) ≡ Less → ⊥
begin_alike x y xs ys up_x up_y same lt =
    not_absent (edit_kind x) (sym (first_state x xs up_x) ∙ same (edit_edge x) ∙ absent_before (edit_edge x) (y ∷ ys) (lt, all_after (edit_edge x) (edit_edge y) ys lt up_y.0))

same_rest_by : (x y : Edit) (xs ys : List Edit) → x ≡ y → Ascends (x ∷ xs) → Ascends (y ∷ ys) → IsSame (graph (x ∷ xs)) (graph (y ∷ ys)) → (e : Edge) (b : Bool) → is_same_edge (edit_edge x) e ≡ b → graph xs e ≡ graph ys e
same_rest_by x y xs ys eq up_x up_y same e true is =
    let here : edit_edge x ≡ e = edge_cmp_exact (edit_edge x) e (equal_from (edge_cmp (edit_edge x) e) is) in
    let there : edit_edge y ≡ e = ap edit_edge (sym eq) ∙ here in
    ap (graph xs) (sym here) ∙ absent_before (edit_edge x) xs up_x.0 ∙ sym (absent_before (edit_edge y) ys up_y.0) ∙ ap (graph ys) there
  where
    equal_from : (o : Ordering) → is_eq o ≡ true → o ≡ Equal
    equal_from Less e = absurd cc
    equal_from Equal e = refl
    equal_from Greater e = absurd cc
same_rest_by x y xs ys eq up_x up_y same e false is =
    let other : is_same_edge (edit_edge y) e ≡ false = ap (λ z. is_same_edge (edit_edge z) e) (sym eq) ∙ is in
    let left : graph (x ∷ xs) e ≡ graph xs e = ap (λ b. state_join (cond b (state_of (edit_kind x)) Absent) (graph xs e)) is ∙ Absent-state_join (graph xs e) in
    let right : graph (y ∷ ys) e ≡ graph ys e = ap (λ b. state_join (cond b (state_of (edit_kind y)) Absent) (graph ys e)) other ∙ Absent-state_join (graph ys e) in
    sym left ∙ same e ∙ right

-- their first edits are one
first_same : (x y : Edit) (xs ys : List Edit) → Ascends (x ∷ xs) → Ascends (y ∷ ys) → IsSame (graph (x ∷ xs)) (graph (y ∷ ys)) → (o : Ordering) → edge_cmp (edit_edge x) (edit_edge y) ≡ o → x ≡ y
first_same x y xs ys up_x up_y same Less is = absurd (begin_alike x y xs ys up_x up_y same is)
first_same x y xs ys up_x up_y same Equal is =
    let edge = edge_cmp_exact (edit_edge x) (edit_edge y) is in
    let states : state_of (edit_kind x) ≡ state_of (edit_kind y) = sym (first_state x xs up_x) ∙ same (edit_edge x) ∙ ap (graph (y ∷ ys)) edge ∙ first_state y ys up_y in
    edit_from_fields x y (state_of_injective (edit_kind x) (edit_kind y) states) edge
first_same x y xs ys up_x up_y same Greater is =
    let less : edge_cmp (edit_edge y) (edit_edge x) ≡ Less = edge_cmp_total.antisymm (edit_edge y) (edit_edge x) ∙ ap ordering_reverse is in
    absurd (begin_alike y x ys xs up_y up_x (λ e. sym (same e)) less)

one_ascending : (xs ys : List Edit) → Ascends xs → Ascends ys → IsSame (graph xs) (graph ys) → xs ≡ ys
one_ascending [] [] up_x up_y same = refl
one_ascending [] (y ∷ ys) up_x up_y same = absurd (not_absent (edit_kind y) (sym (first_state y ys up_y) ∙ sym (same (edit_edge y))))
one_ascending (x ∷ xs) [] up_x up_y same = absurd (not_absent (edit_kind x) (sym (first_state x xs up_x) ∙ same (edit_edge x)))
one_ascending (x ∷ xs) (y ∷ ys) up_x up_y same =
    let one = first_same x y xs ys up_x up_y same (edge_cmp (edit_edge x) (edit_edge y)) refl in
    let rest = one_ascending xs ys up_x.1 up_y.1 (λ e. same_rest_by x y xs ys one up_x up_y same e (is_same_edge (edit_edge x) e) refl) in
    ap (λ (z : Edit). z ∷ xs) one ∙ ap (λ (zs : List Edit). y ∷ zs) rest

pub canonical_once : (g : Graph) (xs ys : List Edit) → IsCanonical g xs → IsCanonical g ys → xs ≡ ys
canonical_once g xs ys a b = one_ascending xs ys a.in_order b.in_order (λ e. a.same e ∙ sym (b.same e))

-- the canonical list of a list in another order is its own
pub canonical_moved : (xs ys edits : List Edit) → IsPermutation xs ys → IsCanonical (graph ys) edits → IsCanonical (graph xs) edits
canonical_moved xs ys edits moved canonical = record { in_order = canonical.in_order; same = λ e. canonical.same e ∙ graph-permutation xs ys moved e }
