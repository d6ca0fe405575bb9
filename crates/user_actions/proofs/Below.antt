-- What stands below the new vertex after a wrap, and after a vertex becomes another.
use Rattle.std.proofs.Common.{◌≡◌, inl, inr, ℕ, ◌+◌, ◌<◌, ◌≤◌, Bool, true, false, cond, List, [], ◌∷◌, ◌++◌, map, filter, refl, sym, ap, subst, ◌∙◌, arith}
use Rattle.std.specs.Prelude.{◌||◌, ◌&&◌, ◌==◌, not, Option, Some, None}
use Rattle.std.specs.List.{AllByRecursion}
use Rattle.std.specs.declared.cmp.Ordering.TheVariants.{Less, Equal}
use Rattle.std.specs.Ordering.{nat_cmp, ordering_then}
use Rattle.std.specs.Cmp.{nat_cmp_is}
use Rattle.edge_lattice.specs.declared.state.State.TheVariants.{Absent, Live}
use Rattle.grove_names.specs.declared.name.Name.{Name}
use Rattle.grove_names.specs.Name.{name_cmp}
use Rattle.grove_sorts.specs.declared.sort.Sort.{Sort}
use Rattle.grove_sorts.specs.declared.position.Position.{Position}
use Rattle.grove_sorts.specs.declared.ctor.Ctor.{Ctor}
use Rattle.grove_sorts.specs.Position.{position_number, position_cmp, is_same_position}
use Rattle.grove_sorts.specs.Ctor.{positions, sort_at, sort_in}
use Rattle.grove_sorts.proofs.Truths.{both_true, or_left, or_right, not_true, and_true}
use Rattle.grove_sorts.proofs.Orders.{position_same}
use Rattle.grove_edits.specs.declared.vertex.Vertex.{Vertex}
use Rattle.grove_edits.specs.declared.edge.Edge.{Edge}
use Rattle.grove_edits.specs.declared.edit.Edit.{Edit}
use Rattle.grove_edits.specs.declared.edit.EditKind.{EditKind}
use Rattle.grove_edits.specs.declared.edit.EditKind.TheVariants.{Insert}
use Rattle.grove_edits.specs.Vertex.{is_same_vertex, stands_in, vertex_cmp}
use Rattle.grove_edits.specs.Edge.{is_sort, edge_cmp}
use Rattle.grove_edits.specs.Graph.{Graph, is_same_edge}
use Rattle.grove_edits.proofs.Orders.{one_edge}
use Rattle.grove_edits.proofs.Vertices.{same_vertex_exact, same_vertex_itself}
use Rattle.grove_edits.specs.declared.action.Place.{Place}
use Rattle.grove_edits.specs.declared.action.Action.TheVariants.{Wrap, Become}
use Rattle.grove_edits.specs.declared.answer.Answer.TheVariants.{Made}
use Rattle.graph_words.specs.Live.{IsInEdgeOrder, holds_edge, children_of}
use Rattle.graph_words.specs.Whole.{AreLive, IsVertexOf}
use Rattle.graph_words.proofs.Ordered.{holds-filter}
use Rattle.grove_terms.proofs.OneGrove.{one_live}
use Rattle.user_actions.specs.Lists.{GraphLists, AreListsOf}
use Rattle.user_actions.specs.Names.{new_name, greatest_counter}
use Rattle.user_actions.specs.Place.{edges_at}
use Rattle.user_actions.specs.PlainEdits.{PlainEdit, plain, deletions, new_vertex, to_new_vertex, put_below, carry_over, wrap_edits, become_edits}
use Rattle.user_actions.specs.Plan.{IsPlan, IsMade}
use Rattle.user_actions.specs.Carried.{has_same_sort, carried, carried_from}
use Rattle.user_actions.specs.After.{graph_after, vertex_of, targets_at, goes_along}
use Rattle.user_actions.specs.Checks.{wrapping_position}
use Rattle.user_actions.proofs.NewNames.{not_vertex_name, new_absent}
use Rattle.user_actions.proofs.PlainGraphs.{AllEdits, HasEdit, PutsEdges, is_at, only_edge, after_edits, inserted_live, edges_left}
use Rattle.user_actions.proofs.EditLists.{all_append, has_second, all_deletions, edge_with, held_first, held_later}
use Rattle.user_actions.proofs.NoFault.{no_fault, only_one}
use Rattle.user_actions.proofs.OnePlace.{IsEntry, puts_wrap, puts_become, at_itself}
use Rattle.user_actions.proofs.Accepted.{made, edits_here}
use Rattle.user_actions.proofs.GoodPlans.{ToWrap, to_wrap, ToBecome, to_become}
use Rattle.user_actions.proofs.PlanLaws.{live_along, after_is}
use Rattle.user_actions.proofs.InsertedNames.{made_is}
use Rattle.user_actions.proofs.Meant.{made_vertex}

-- ---- the edges that are put below a vertex, in edge order

abbrev put_edges : ℕ → ℕ → Vertex → Position → ℕ → List Edge → List Edge
put_edges author greatest v p number [] = []
put_edges author greatest v p number (e ∷ es) = edge_with author greatest number v p e.target ∷ put_edges author greatest v p (number + 1) es

put_targets : (author greatest : ℕ) (v : Vertex) (p : Position) (number : ℕ) (es : List Edge) → map (λ e. e.target) (put_edges author greatest v p number es) ≡ map (λ e. e.target) es
put_targets author greatest v p number [] = refl
put_targets author greatest v p number (e ∷ es) = ap (λ ts. e.target ∷ ts) (put_targets author greatest v p (number + 1) es)

name_less : (author greatest k n : ℕ) → k < n → name_cmp (new_name author greatest k) (new_name author greatest n) ≡ Less
name_less author greatest k n lt =
    let same : nat_cmp author author ≡ Equal = sym (nat_cmp_is author author Equal refl) in
    let less : nat_cmp (greatest + k) (greatest + n) ≡ Less = sym (nat_cmp_is (greatest + k) (greatest + n) Less (omega arith)) in
    ap (λ o. ordering_then o (nat_cmp (greatest + k) (greatest + n))) same ∙ less

put_after : (author greatest : ℕ) (v : Vertex) (p : Position) (k n : ℕ) (t : Vertex) (es : List Edge) → k < n
    → AllByRecursion (λ later. edge_cmp (edge_with author greatest k v p t) later ≡ Less) (put_edges author greatest v p n es)
put_after author greatest v p k n t [] lt = tt
put_after author greatest v p k n t (e ∷ es) lt =
    let x = edge_with author greatest k v p t in
    let y = edge_with author greatest n v p e.target in (
      ap (λ o. ordering_then o (ordering_then (vertex_cmp x.source y.source) (ordering_then (position_cmp x.position y.position) (vertex_cmp x.target y.target)))) (name_less author greatest k n lt),
      put_after author greatest v p k (n + 1) t es (omega arith),
    )

put_in_order : (author greatest : ℕ) (v : Vertex) (p : Position) (number : ℕ) (es : List Edge) → IsInEdgeOrder (put_edges author greatest v p number es)
put_in_order author greatest v p number [] = tt
put_in_order author greatest v p number (e ∷ es) = (put_after author greatest v p number (number + 1) e.target es (omega arith), put_in_order author greatest v p (number + 1) es)

-- each of them is one of the new edges
record IsPut (author greatest : ℕ) (v : Vertex) (p : Position) (number : ℕ) (ps : List PlainEdit) (x : Edge) : Type 0 where
  at : ℕ
  from : number ≤ at
  name : x.name ≡ new_name author greatest at
  source : x.source ≡ v
  position : x.position ≡ p
  inserted : HasEdit Insert x ps

is_put : (author greatest : ℕ) (v : Vertex) (p : Position) (number : ℕ) (es : List Edge) (x : Edge) → holds_edge x (put_edges author greatest v p number es) ≡ true
    → IsPut author greatest v p number (put_below author greatest v p number es) x
is_put author greatest v p number [] x held = absurd cc
is_put author greatest v p number (e ∷ es) x held = by_test (is_same_edge first x) refl held (is_put author greatest v p (number + 1) es x) where
  first : Edge
  first = edge_with author greatest number v p e.target

  by_test : (b : Bool) → is_same_edge first x ≡ b → (b || holds_edge x (put_edges author greatest v p (number + 1) es)) ≡ true
      → (holds_edge x (put_edges author greatest v p (number + 1) es) ≡ true → IsPut author greatest v p (number + 1) (put_below author greatest v p (number + 1) es) x)
      → IsPut author greatest v p number (put_below author greatest v p number (e ∷ es)) x
  by_test true same h later =
      subst (IsPut author greatest v p number (put_below author greatest v p number (e ∷ es))) (one_edge first x same)
      (record { at = number; from = omega arith; name = refl; source = refl; position = refl; inserted = inl (refl, refl) })
  by_test false other h later =
      let rest = later h in
      let from = rest.from in
      record { at = rest.at; from = omega arith; name = rest.name; source = rest.source; position = rest.position; inserted = inr rest.inserted }

all_put : (P : EditKind → Edge → Type 0) (author greatest : ℕ) (v : Vertex) (p : Position) (number : ℕ) (es : List Edge)
    → ((e : Edge) → holds_edge e (put_edges author greatest v p number es) ≡ true → P Insert e) → AllEdits P (put_below author greatest v p number es)
all_put P author greatest v p number [] each = tt
all_put P author greatest v p number (e ∷ es) each =
    let first = edge_with author greatest number v p e.target in
    let rest = put_edges author greatest v p (number + 1) es in
    (each first (held_first first rest), all_put P author greatest v p (number + 1) es (λ f held. each f (held_later first f rest held)))

-- ---- the edges that a constructor takes over

target_stands : (e : Edge) (es : List Edge) → holds_edge e es ≡ true → stands_in e.target (map (λ x. x.target) es) ≡ true
target_stands e [] held = absurd cc
target_stands e (x ∷ xs) held = by_test (is_same_edge x e) refl held (target_stands e xs) where
  by_test : (b : Bool) → is_same_edge x e ≡ b → (b || holds_edge e xs) ≡ true → (holds_edge e xs ≡ true → stands_in e.target (map (λ y. y.target) xs) ≡ true)
      → (is_same_vertex x.target e.target || stands_in e.target (map (λ y. y.target) xs)) ≡ true
  by_test true same h later =
      or_left (is_same_vertex x.target e.target) (stands_in e.target (map (λ y. y.target) xs)) (ap (λ (y : Edge). is_same_vertex y.target e.target) (one_edge x e same) ∙ same_vertex_itself e.target)
  by_test false other h later = or_right (is_same_vertex x.target e.target) (stands_in e.target (map (λ y. y.target) xs)) (later h)

held_left : (e : Edge) (xs ys : List Edge) → holds_edge e xs ≡ true → holds_edge e (xs ++ ys) ≡ true
held_left e [] ys held = absurd cc
held_left e (x ∷ xs) ys held = by_test (is_same_edge x e) held (held_left e xs ys) where
  by_test : (b : Bool) → (b || holds_edge e xs) ≡ true → (holds_edge e xs ≡ true → holds_edge e (xs ++ ys) ≡ true) → (b || holds_edge e (xs ++ ys)) ≡ true
  by_test true h later = refl
  by_test false h later = later h

held_right : (e : Edge) (xs ys : List Edge) → holds_edge e ys ≡ true → holds_edge e (xs ++ ys) ≡ true
held_right e [] ys held = held
held_right e (x ∷ xs) ys held = or_right (is_same_edge x e) (holds_edge e (xs ++ ys)) (held_right e xs ys held)

entry_in : (entries : List (Position × Sort)) (p : Position) (s : Sort) → sort_in entries p ≡ Some s → IsEntry (p, s) entries
entry_in [] p s found = absurd cc
entry_in (entry ∷ entries) p s found = by_test (position_number entry.0 == position_number p) refl found (entry_in entries p s) where
  by_test : (b : Bool) → (position_number entry.0 == position_number p) ≡ b → cond b (Some entry.1) (sort_in entries p) ≡ Some s → (sort_in entries p ≡ Some s → IsEntry (p, s) entries) → IsEntry (p, s) (entry ∷ entries)
  by_test true same h later =
      let one : entry.0 ≡ p = position_same entry.0 p same in
      let sort : entry.1 ≡ s = cc in
      inl (ap (λ q. (q, entry.1)) one ∙ ap (λ t. (p, t)) sort)
  by_test false other h later = inr (later h)

is_carried : (entries : List (Position × Sort)) (ctor : Ctor) (w : Vertex) (e : Edge) (live : List Edge) (c : Edge) (entry : Position × Sort) → IsEntry entry entries → is_sort (sort_at ctor entry.0) entry.1 ≡ true
    → is_at w entry.0 c ≡ true → is_same_edge c e ≡ false → holds_edge c live ≡ true → holds_edge c (carried_from entries ctor w e live) ≡ true
is_carried [] ctor w e live c entry listed sorted here other held = absurd listed
is_carried (x ∷ xs) ctor w e live c entry (inl same) sorted here other held =
    let there : holds_edge c (children_of w entry.0 live) ≡ true = holds-filter (is_at w entry.0) c live ∙ and_true (is_at w entry.0 c) (holds_edge c live) here held in
    let kept : holds_edge c (filter (λ d. not (is_same_edge d e)) (children_of w entry.0 live)) ≡ true =
    holds-filter (λ d. not (is_same_edge d e)) c (children_of w entry.0 live) ∙ and_true (not (is_same_edge c e)) (holds_edge c (children_of w entry.0 live)) (ap not other) there in
    let taken : holds_edge c (cond (is_sort (sort_at ctor entry.0) entry.1) (filter (λ d. not (is_same_edge d e)) (children_of w entry.0 live)) []) ≡ true =
    ap (λ b. holds_edge c (cond b (filter (λ d. not (is_same_edge d e)) (children_of w entry.0 live)) [])) sorted ∙ kept in
    held_left c (cond (is_sort (sort_at ctor x.0) x.1) (filter (λ d. not (is_same_edge d e)) (children_of w x.0 live)) []) (carried_from xs ctor w e live)
    (ap (λ (y : Position × Sort). holds_edge c (cond (is_sort (sort_at ctor y.0) y.1) (filter (λ d. not (is_same_edge d e)) (children_of w y.0 live)) [])) same ∙ taken)
is_carried (x ∷ xs) ctor w e live c entry (inr later) sorted here other held =
    held_right c (cond (is_sort (sort_at ctor x.0) x.1) (filter (λ d. not (is_same_edge d e)) (children_of w x.0 live)) []) (carried_from xs ctor w e live)
    (is_carried xs ctor w e live c entry later sorted here other held)

-- an edge that is carried over has a new edge from the other vertex
has_carried : (author greatest : ℕ) (v : Vertex) (number : ℕ) (es : List Edge) (c : Edge) → holds_edge c es ≡ true
    → (k : ℕ) × (number ≤ k) × HasEdit Insert (edge_with author greatest k v c.position c.target) (carry_over author greatest v number es)
has_carried author greatest v number [] c held = absurd cc
has_carried author greatest v number (e ∷ es) c held = by_test (is_same_edge e c) refl held (has_carried author greatest v (number + 1) es c) where
  by_test : (b : Bool) → is_same_edge e c ≡ b → (b || holds_edge c es) ≡ true
      → (holds_edge c es ≡ true → (k : ℕ) × (number + 1 ≤ k) × HasEdit Insert (edge_with author greatest k v c.position c.target) (carry_over author greatest v (number + 1) es))
      → (k : ℕ) × (number ≤ k) × HasEdit Insert (edge_with author greatest k v c.position c.target) (carry_over author greatest v number (e ∷ es))
  by_test true same h later = (number, omega arith, inr (inl (refl, ap (λ (x : Edge). edge_with author greatest number v x.position x.target) (one_edge e c same))))
  by_test false other h later = let rest = later h in let from = rest.1 in (rest.0, omega arith, inr (inr rest.2))

-- both have the position with the same sort, so one of them has it with the sort of the other
sort_shared : (a b : Option Sort) → has_same_sort a b ≡ true → (s : Sort) × (b ≡ Some s) × (is_sort a s ≡ true)
sort_shared a None same = absurd cc
sort_shared a (Some s) same = (s, refl, same)

-- ---- after the edits

some_position : (a b : Position) → Some a ≡ Some b → a ≡ b
some_position a b h = cc

pub wrapped_stand : (g : Graph) (opening : List Edge) (author : ℕ) (place : Place) (ctor : Ctor) (edits : List Edit) (name : Name) (v : Vertex) (below : Position) (before after : List Edge)
    → IsPlan g opening author (Wrap place ctor) edits (Made name) → IsVertexOf g v → v.name ≡ place.name → wrapping_position ctor v place ≡ Some below → AreLive g before → AreLive (graph_after g edits) after
    → targets_at (vertex_of name ctor) below after ≡ targets_at v place.position before
wrapped_stand g opening author place ctor edits name v below before after planned vertex at wraps of_g of_h =
    ap (λ w. targets_at w below after) (sym is_made) ∙ ap (map (λ e. e.target)) left ∙ put_targets author greatest nv below 3 es ∙ ap (targets_at v place.position) (one_live g lists.live before of.live of_g)
  where
    lists : GraphLists
    lists = planned.lists

    of : AreListsOf g lists
    of = planned.are_lists

    greatest : ℕ
    greatest = greatest_counter lists author

    is : IsMade lists opening author (Wrap place ctor) edits (Made name)
    is = made lists opening author (Wrap place ctor) edits (Made name) planned.edits_are planned.answer_is tt

    to : ToWrap lists place ctor
    to = to_wrap lists opening author place ctor (no_fault lists opening author (Wrap place ctor) is.no_fault)

    one : to.has.vertex ≡ v
    one = only_one lists place.name to.has.vertex v to.has.only (of.vertices.each v vertex) at

    nv : Vertex
    nv = new_vertex author greatest ctor

    es : List Edge
    es = edges_at lists v place

    xs : List Edge
    xs = put_edges author greatest nv below 3 es

    ps : List PlainEdit
    ps = wrap_edits author greatest ctor v place (Some below) es

    is_made : nv ≡ vertex_of name ctor
    is_made = made_vertex author greatest ctor name ctor refl (made_is lists author (Wrap place ctor) name is.answer_is)

    stands : stands_in v lists.vertices ≡ true
    stands = of.vertices.each v vertex

    are : map plain edits ≡ ps
    are =
        is.edits_are ∙ edits_here lists author (Wrap place ctor) place to.has.vertex to.has.only
        ∙ ap (λ w. wrap_edits author greatest ctor w place (wrapping_position ctor w place) (edges_at lists w place)) one ∙ ap (λ o. wrap_edits author greatest ctor v place o es) wraps

    -- no vertex of the graph is the new one
    not_new : (w : Vertex) → stands_in w lists.vertices ≡ true → w ≡ nv → ⊥
    not_new w there same = not_vertex_name g lists of author 1 (omega arith) w there (ap (λ (x : Vertex). x.name) same)

    from_place : (e : Edge) → e.source ≡ v → is_at nv below e ≡ true → ⊥
    from_place e from here = not_new v stands (sym from ∙ same_vertex_exact e.source nv (both_true (is_same_vertex e.source nv) (is_same_position e.position below) here).0)

    puts : PutsEdges g lists.live nv below xs ps
    puts = record {
      in_order = put_in_order author greatest nv below 3 es;
      here = λ x held. let put = is_put author greatest nv below 3 es x held in at_itself g lists of author nv below x put.source put.position;
      new = λ x held. let put = is_put author greatest nv below 3 es x held in let from = put.from in new_absent g lists of author put.at (omega arith) x put.name;
      inserted = λ x held.
          has_second Insert x (deletions es) (to_new_vertex author greatest ctor v place ∷ put_below author greatest nv below 3 es) (inr (is_put author greatest nv below 3 es x held).inserted);
      no_other =
          all_append (λ kind e. kind ≡ Insert → is_at nv below e ≡ true → holds_edge e xs ≡ true) (deletions es) (to_new_vertex author greatest ctor v place ∷ put_below author greatest nv below 3 es)
          (all_deletions (λ kind e. kind ≡ Insert → is_at nv below e ≡ true → holds_edge e xs ≡ true) es (λ e held insert. absurd cc)) (
            λ insert here. absurd (from_place (edge_with author greatest 2 v place.position nv) refl here),
            all_put (λ kind e. kind ≡ Insert → is_at nv below e ≡ true → holds_edge e xs ≡ true) author greatest nv below 3 es (λ e held _ _. held),
          );
      known = (puts_wrap g lists of author place ctor v below stands).known;
      cleared = λ e held.
          let parts = both_true (is_at nv below e) (holds_edge e lists.live) (sym (holds-filter (is_at nv below) e lists.live) ∙ held) in
          let source : e.source ≡ nv = same_vertex_exact e.source nv (both_true (is_same_vertex e.source nv) (is_same_position e.position below) parts.0).0 in
          let live = of.live.no_other e parts.1 in
          absurd (not_new e.source (of.vertices.each e.source (inr (e, (λ absent. let both : Live ≡ Absent = sym live ∙ absent in cc), inl refl))) source);
    }

    left : children_of nv below after ≡ xs
    left = edges_left g lists.live after nv below xs ps of.live puts (live_along (graph_after g edits) (after_edits g ps) after (after_is g edits ps are) of_h)

pub carried_stand : (g : Graph) (opening : List Edge) (author : ℕ) (place : Place) (ctor : Ctor) (edits : List Edit) (name : Name) (v : Vertex) (before after : List Edge) (replaced child : Edge)
    → IsPlan g opening author (Become place ctor) edits (Made name) → IsVertexOf g v → v.name ≡ place.name → AreLive g before → AreLive (graph_after g edits) after
    → holds_edge replaced (children_of v place.position before) ≡ true → holds_edge child before ≡ true → goes_along ctor replaced child ≡ true
    → stands_in child.target (targets_at (vertex_of name ctor) child.position after) ≡ true
carried_stand g opening author place ctor edits name v before after replaced child planned vertex at of_g of_h stood held along =
    ap (λ w. stands_in child.target (targets_at w child.position after)) (sym is_made) ∙ target_stands x (children_of nv child.position after) there
  where
    lists : GraphLists
    lists = planned.lists

    of : AreListsOf g lists
    of = planned.are_lists

    greatest : ℕ
    greatest = greatest_counter lists author

    is : IsMade lists opening author (Become place ctor) edits (Made name)
    is = made lists opening author (Become place ctor) edits (Made name) planned.edits_are planned.answer_is tt

    to : ToBecome lists place ctor
    to = to_become lists opening author place ctor (no_fault lists opening author (Become place ctor) is.no_fault)

    one : to.has.vertex ≡ v
    one = only_one lists place.name to.has.vertex v to.has.only (of.vertices.each v vertex) at

    nv : Vertex
    nv = new_vertex author greatest ctor

    is_made : nv ≡ vertex_of name ctor
    is_made = made_vertex author greatest ctor name ctor refl (made_is lists author (Become place ctor) name is.answer_is)

    same_live : lists.live ≡ before
    same_live = one_live g lists.live before of.live of_g

    sole : edges_at lists v place ≡ to.edge ∷ []
    sole = ap (λ w. edges_at lists w place) (sym one) ∙ to.sole

    replaced_is : to.edge ≡ replaced
    replaced_is = only_edge to.edge replaced (sym (ap (holds_edge replaced) (ap (children_of v place.position) (sym same_live) ∙ sole)) ∙ stood)

    ps : List PlainEdit
    ps = become_edits author greatest ctor v place (replaced ∷ []) lists.live

    cs : List Edge
    cs = carried ctor replaced lists.live

    are : map plain edits ≡ ps
    are =
        is.edits_are ∙ edits_here lists author (Become place ctor) place to.has.vertex to.has.only
        ∙ ap (λ w. become_edits author greatest ctor w place (edges_at lists w place) lists.live) one ∙ ap (λ es. become_edits author greatest ctor v place es lists.live) (sole ∙ ap (λ e. e ∷ []) replaced_is)

    taken : holds_edge child cs ≡ true
    taken =
        let parts = both_true (is_same_vertex child.source replaced.target && not (is_same_edge child replaced)) (has_same_sort (sort_at ctor child.position) (sort_at replaced.target.ctor child.position)) along in
        let ends = both_true (is_same_vertex child.source replaced.target) (not (is_same_edge child replaced)) parts.0 in
        let shared = sort_shared (sort_at ctor child.position) (sort_at replaced.target.ctor child.position) parts.1 in
        is_carried (positions replaced.target.ctor) ctor replaced.target replaced lists.live child (child.position, shared.0) (entry_in (positions replaced.target.ctor) child.position shared.0 shared.1) shared.2
        (at_itself g lists of author replaced.target child.position child (same_vertex_exact child.source replaced.target ends.0) refl) (not_true (is_same_edge child replaced) ends.1)
        (ap (holds_edge child) same_live ∙ held)

    put : (k : ℕ) × (3 ≤ k) × HasEdit Insert (edge_with author greatest k nv child.position child.target) (carry_over author greatest nv 3 cs)
    put = has_carried author greatest nv 3 cs child taken

    x : Edge
    x = edge_with author greatest put.0 nv child.position child.target

    positive : 0 < put.0
    positive = let from = put.1 in omega arith

    live : after_edits g ps x ≡ Live
    live =
        inserted_live g x ps (new_absent g lists of author put.0 positive x refl) (inr (inr put.2))
        (puts_become g lists of author place ctor v replaced (of.vertices.each v vertex) (sole ∙ ap (λ e. e ∷ []) replaced_is)).known

    there : holds_edge x (children_of nv child.position after) ≡ true
    there =
        holds-filter (is_at nv child.position) x after
        ∙ and_true (is_at nv child.position x) (holds_edge x after) (at_itself g lists of author nv child.position x refl refl)
        ((live_along (graph_after g edits) (after_edits g ps) after (after_is g edits ps are) of_h).each x live)
