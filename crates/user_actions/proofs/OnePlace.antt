-- The edits of an action to which no fault applies leave one live edge at its place, or none where it deletes.
use Rattle.std.proofs.Common.{◌≡◌, ◌≢◌, ℕ, Bool, true, false, cond, List, [], ◌∷◌, ◌++◌, refl, sym, ap, subst, ◌∙◌, inl, inr, ◌⊎◌, arith}
use Rattle.std.specs.Prelude.{◌||◌, not, Some, filter}
use Rattle.std.specs.List.{AllByRecursion}
use Rattle.std.specs.Ordering.{is_eq}
use Rattle.std.proofs.lemmas.Cmp.{tied_itself}
use Rattle.edge_lattice.specs.declared.state.State.TheVariants.{Absent, Live}
use Rattle.grove_names.specs.declared.name.Name.{Name}
use Rattle.grove_sorts.specs.declared.sort.Sort.{Sort}
use Rattle.grove_sorts.specs.declared.position.Position.{Position}
use Rattle.grove_sorts.specs.declared.ctor.Ctor.{Ctor}
use Rattle.grove_sorts.specs.Ctor.{sort_at, positions}
use Rattle.grove_sorts.proofs.Orders.{position_cmp_total}
use Rattle.grove_edits.specs.declared.vertex.Vertex.{Vertex}
use Rattle.grove_edits.specs.declared.edge.Edge.{Edge}
use Rattle.grove_edits.specs.declared.edit.EditKind.TheVariants.{Insert, Delete}
use Rattle.grove_edits.specs.Edge.{is_sort}
use Rattle.grove_edits.specs.Graph.{Graph, is_same_edge}
use Rattle.graph_words.specs.Live.{holds_edge, children_of}
use Rattle.grove_edits.specs.Vertex.{is_same_vertex, stands_in}
use Rattle.grove_sorts.specs.Position.{is_same_position}
use Rattle.grove_edits.proofs.Vertices.{same_vertex_exact, same_vertex_itself}
use Rattle.graph_words.proofs.Ordered.{holds-filter}
use Rattle.grove_edits.specs.declared.action.Place.{Place}
use Rattle.user_actions.specs.Lists.{GraphLists, AreListsOf}
use Rattle.user_actions.specs.Names.{is_same_name, new_name, edges_named, greatest_counter}
use Rattle.user_actions.specs.Place.{edges_at}
use Rattle.user_actions.specs.Carried.{carried, carried_from}
use Rattle.user_actions.specs.PlainEdits.{deletions, insertion, new_vertex, to_new_vertex, put_below, wrap_edits, become_edits, relocate_edits}
use Rattle.grove_sorts.proofs.Truths.{both_true, not_true, and_true}
use Rattle.user_actions.proofs.NewNames.{not_vertex_name, new_absent}
use Rattle.user_actions.proofs.PlainGraphs.{only_edge, PutsOne, is_at}
use Rattle.user_actions.proofs.EditLists.{all_append, has_first, has_second, all_deletions, has_deletion, all_put_below, all_carry_over, edge_with, held_first}

-- ---- what is carried over is live

held_append : (e : Edge) (xs ys : List Edge) → holds_edge e (xs ++ ys) ≡ true → (holds_edge e xs ≡ true) ⊎ (holds_edge e ys ≡ true)
held_append e [] ys h = inr h
held_append e (x ∷ xs) ys h = by_test (is_same_edge x e) h (held_append e xs ys) where
  by_test : (b : Bool) → (b || holds_edge e (xs ++ ys)) ≡ true → (holds_edge e (xs ++ ys) ≡ true → (holds_edge e xs ≡ true) ⊎ (holds_edge e ys ≡ true))
      → ((b || holds_edge e xs) ≡ true) ⊎ (holds_edge e ys ≡ true)
  by_test true held later = inl refl
  by_test false held later = later held

abbrev pub IsEntry : (Position × Sort) → List (Position × Sort) → Type 0
IsEntry entry [] = ⊥
IsEntry entry (x ∷ xs) = (x ≡ entry) ⊎ IsEntry entry xs

pub entry_found : (ctor : Ctor) (entry : Position × Sort) (entries : List (Position × Sort)) → IsEntry entry entries → AllByRecursion (λ (x : Position × Sort). sort_at ctor x.0 ≡ Some x.1) entries
    → sort_at ctor entry.0 ≡ Some entry.1
entry_found ctor entry [] is all = absurd is
entry_found ctor entry (x ∷ xs) (inl same) all = subst (λ (y : Position × Sort). sort_at ctor y.0 ≡ Some y.1) same all.0
entry_found ctor entry (x ∷ xs) (inr later) all = entry_found ctor entry xs later all.1

-- an edge that is carried over is live, leads from the vertex at a position that the other constructor has with the same sort, and is
-- not the edge that is replaced
pub record IsCarried (entries : List (Position × Sort)) (ctor : Ctor) (w : Vertex) (e : Edge) (live : List Edge) (c : Edge) : Type 0 where
  pub live_edge : holds_edge c live ≡ true
  pub other : is_same_edge c e ≡ false
  pub entry : Position × Sort
  pub listed : IsEntry entry entries
  pub here : is_at w entry.0 c ≡ true
  pub sorted : is_sort (sort_at ctor entry.0) entry.1 ≡ true

pub carried_is : (entries : List (Position × Sort)) (ctor : Ctor) (w : Vertex) (e : Edge) (live : List Edge) (c : Edge) → holds_edge c (carried_from entries ctor w e live) ≡ true
    → IsCarried entries ctor w e live c
carried_is [] ctor w e live c held = absurd cc
carried_is (entry ∷ entries) ctor w e live c held =
    by_part (held_append c (cond (is_sort (sort_at ctor entry.0) entry.1) (filter (λ d. not (is_same_edge d e)) (children_of w entry.0 live)) []) (carried_from entries ctor w e live) held)
    (carried_is entries ctor w e live c)
  where
    by_sort : (b : Bool) → is_sort (sort_at ctor entry.0) entry.1 ≡ b → holds_edge c (cond b (filter (λ d. not (is_same_edge d e)) (children_of w entry.0 live)) []) ≡ true
        → IsCarried (entry ∷ entries) ctor w e live c
    by_sort true sorted here =
        let kept = both_true (not (is_same_edge c e)) (holds_edge c (children_of w entry.0 live)) (sym (holds-filter (λ d. not (is_same_edge d e)) c (children_of w entry.0 live)) ∙ here) in
        let parts = both_true (is_at w entry.0 c) (holds_edge c live) (sym (holds-filter (is_at w entry.0) c live) ∙ kept.1) in
        record { live_edge = parts.1; other = not_true (is_same_edge c e) kept.0; entry = entry; listed = inl refl; here = parts.0; sorted = sorted }
    by_sort false sorted here = absurd cc

    by_part : (holds_edge c (cond (is_sort (sort_at ctor entry.0) entry.1) (filter (λ d. not (is_same_edge d e)) (children_of w entry.0 live)) []) ≡ true)
        ⊎ (holds_edge c (carried_from entries ctor w e live) ≡ true) → (holds_edge c (carried_from entries ctor w e live) ≡ true → IsCarried entries ctor w e live c)
        → IsCarried (entry ∷ entries) ctor w e live c
    by_part (inl first) later = by_sort (is_sort (sort_at ctor entry.0) entry.1) refl first
    by_part (inr rest) later =
        let r = later rest in
        record { live_edge = r.live_edge; other = r.other; entry = r.entry; listed = inr r.listed; here = r.here; sorted = r.sorted }

same_position_itself : (p : Position) → is_same_position p p ≡ true
same_position_itself p = ap is_eq (tied_itself position_cmp_total p)

module _ (g : Graph) (lists : GraphLists) (of : AreListsOf g lists) (author : ℕ) where
  -- ---- the edges that stand at a place

  pub held_at_place : (v : Vertex) (place : Place) (e : Edge) → holds_edge e (edges_at lists v place) ≡ true → (is_at v place.position e ≡ true) × (holds_edge e lists.live ≡ true)
  held_at_place v place e held = both_true (is_at v place.position e) (holds_edge e lists.live) (sym (holds-filter (is_at v place.position) e lists.live) ∙ held)

  pub live_known : (e : Edge) → holds_edge e lists.live ≡ true → g e ≢ Absent
  live_known e held absent = let live = of.live.no_other e held in let both : Live ≡ Absent = sym live ∙ absent in cc

  pub at_itself : (v : Vertex) (p : Position) (e : Edge) → e.source ≡ v → e.position ≡ p → is_at v p e ≡ true
  at_itself v p e from at =
      and_true (is_same_vertex e.source v) (is_same_position e.position p) (ap (λ x. is_same_vertex x v) from ∙ same_vertex_itself v) (ap (λ q. is_same_position q p) at ∙ same_position_itself p)

  -- no edge from the new vertex stands at a place of the graph
  not_from_new : (ctor : Ctor) (v : Vertex) (p : Position) (e : Edge) → stands_in v lists.vertices ≡ true → e.source ≡ new_vertex author (greatest_counter lists author) ctor → is_at v p e ≡ true → ⊥
  not_from_new ctor v p e stands from at =
      let source : e.source ≡ v = same_vertex_exact e.source v (both_true (is_same_vertex e.source v) (is_same_position e.position p) at).0 in
      not_vertex_name g lists of author 1 (omega arith) v stands (ap (λ (x : Vertex). x.name) (sym source ∙ from))

  -- ---- the edits of each action

  pub puts_construct : (place : Place) (ctor : Ctor) (v : Vertex) → stands_in v lists.vertices ≡ true → edges_at lists v place ≡ []
      → PutsOne g lists.live v place.position (edge_with author (greatest_counter lists author) 2 v place.position (new_vertex author (greatest_counter lists author) ctor)) (to_new_vertex author (greatest_counter lists author) ctor v place ∷ [])
  puts_construct place ctor v stands free =
      let x = edge_with author (greatest_counter lists author) 2 v place.position (new_vertex author (greatest_counter lists author) ctor) in
      record {
        here = at_itself v place.position x refl refl;
        new = new_absent g lists of author 2 (omega arith) x refl;
        inserted = inl (refl, refl);
        no_other = (λ _ _. refl, tt);
        known = (λ is. absurd cc, tt);
        cleared = λ e held. let none = ap (holds_edge e) free in absurd cc;
      }

  pub puts_restore : (place : Place) (moved v : Vertex) → edges_at lists v place ≡ []
      → PutsOne g lists.live v place.position (edge_with author (greatest_counter lists author) 1 v place.position moved) (insertion (new_name author (greatest_counter lists author) 1) v place.position moved ∷ [])
  puts_restore place moved v free =
      let x = edge_with author (greatest_counter lists author) 1 v place.position moved in
      record {
        here = at_itself v place.position x refl refl;
        new = new_absent g lists of author 1 (omega arith) x refl;
        inserted = inl (refl, refl);
        no_other = (λ _ _. refl, tt);
        known = (λ is. absurd cc, tt);
        cleared = λ e held. let none = ap (holds_edge e) free in absurd cc;
      }

  pub puts_wrap : (place : Place) (ctor : Ctor) (v : Vertex) (q : Position) → stands_in v lists.vertices ≡ true
      → PutsOne g lists.live v place.position (edge_with author (greatest_counter lists author) 2 v place.position (new_vertex author (greatest_counter lists author) ctor)) (wrap_edits author (greatest_counter lists author) ctor v place (Some q) (edges_at lists v place))
  puts_wrap place ctor v q stands =
      let x = edge_with author (greatest_counter lists author) 2 v place.position (new_vertex author (greatest_counter lists author) ctor) in
      let es = edges_at lists v place in
      let below = put_below author (greatest_counter lists author) (new_vertex author (greatest_counter lists author) ctor) q 3 es in
      record {
        here = at_itself v place.position x refl refl;
        new = new_absent g lists of author 2 (omega arith) x refl;
        inserted = has_second Insert x (deletions es) (to_new_vertex author (greatest_counter lists author) ctor v place ∷ below) (inl (refl, refl));
        no_other =
            all_append (λ kind e. kind ≡ Insert → is_at v place.position e ≡ true → e ≡ x) (deletions es) (to_new_vertex author (greatest_counter lists author) ctor v place ∷ below)
            (all_deletions (λ kind e. kind ≡ Insert → is_at v place.position e ≡ true → e ≡ x) es (λ e held is. absurd cc)) (
              λ _ _. refl,
              all_put_below (λ kind e. kind ≡ Insert → is_at v place.position e ≡ true → e ≡ x) author (greatest_counter lists author) (new_vertex author (greatest_counter lists author) ctor) q 3 es
                  (λ k e from to held _ at. absurd (not_from_new ctor v place.position (edge_with author (greatest_counter lists author) k (new_vertex author (greatest_counter lists author) ctor) q e.target) stands refl at)),
            );
        known =
            all_append (λ kind e. kind ≡ Delete → g e ≢ Absent) (deletions es) (to_new_vertex author (greatest_counter lists author) ctor v place ∷ below)
            (all_deletions (λ kind e. kind ≡ Delete → g e ≢ Absent) es (λ e held _. live_known e (held_at_place v place e held).1)) (
              λ is. absurd cc,
              all_put_below (λ kind e. kind ≡ Delete → g e ≢ Absent) author (greatest_counter lists author) (new_vertex author (greatest_counter lists author) ctor) q 3 es (λ k e from to held is. absurd cc),
            );
        cleared = λ e held. has_first Delete e (deletions es) (to_new_vertex author (greatest_counter lists author) ctor v place ∷ below) (has_deletion es e held);
      }

  pub puts_become : (place : Place) (ctor : Ctor) (v : Vertex) (e : Edge) → stands_in v lists.vertices ≡ true → edges_at lists v place ≡ e ∷ []
      → PutsOne g lists.live v place.position (edge_with author (greatest_counter lists author) 2 v place.position (new_vertex author (greatest_counter lists author) ctor)) (become_edits author (greatest_counter lists author) ctor v place (e ∷ []) lists.live)
  puts_become place ctor v e stands sole =
      let x = edge_with author (greatest_counter lists author) 2 v place.position (new_vertex author (greatest_counter lists author) ctor) in
      let cs = carried ctor e lists.live in
      record {
        here = at_itself v place.position x refl refl;
        new = new_absent g lists of author 2 (omega arith) x refl;
        inserted = inr (inl (refl, refl));
        no_other = (
          λ is. absurd cc,
          (
            λ _ _. refl,
            all_carry_over (λ kind f. kind ≡ Insert → is_at v place.position f ≡ true → f ≡ x) author (greatest_counter lists author) (new_vertex author (greatest_counter lists author) ctor) 3 cs (λ f held is. absurd cc)
                (λ k f from to held _ at. absurd (not_from_new ctor v place.position (edge_with author (greatest_counter lists author) k (new_vertex author (greatest_counter lists author) ctor) f.position f.target) stands refl at)),
          ),
        );
        known = (
          λ _. live_known e (held_at_place v place e (ap (holds_edge e) sole ∙ held_first e [])).1,
          (
            λ is. absurd cc,
            all_carry_over (λ kind f. kind ≡ Delete → g f ≢ Absent) author (greatest_counter lists author) (new_vertex author (greatest_counter lists author) ctor) 3 cs
                (λ f held _. live_known f (carried_is (positions e.target.ctor) ctor e.target e lists.live f held).live_edge) (λ k f from to held is. absurd cc),
          ),
        );
        cleared = λ f held. inl (refl, only_edge e f (sym (ap (holds_edge f) sole) ∙ held));
      }

  pub puts_relocate : (place : Place) (edge : Name) (v : Vertex) (e : Edge) → edges_named edge lists.live ≡ e ∷ [] → filter (λ f. not (is_same_name f.name edge)) (edges_at lists v place) ≡ []
      → PutsOne g lists.live v place.position (edge_with author (greatest_counter lists author) 1 v place.position e.target) (relocate_edits author (greatest_counter lists author) v place (e ∷ []))
  puts_relocate place edge v e sole free =
      let x = edge_with author (greatest_counter lists author) 1 v place.position e.target in
      record {
        here = at_itself v place.position x refl refl;
        new = new_absent g lists of author 1 (omega arith) x refl;
        inserted = inr (inl (refl, refl));
        no_other = (λ is. absurd cc, (λ _ _. refl, tt));
        known = (λ _. live_known e (named_live e (ap (holds_edge e) sole ∙ held_first e [])), (λ is. absurd cc, tt));
        cleared = λ f held. inl (refl, only_edge e f (sym (ap (holds_edge f) sole) ∙ named_here f held));
      }
    where
      named_live : (f : Edge) → holds_edge f (edges_named edge lists.live) ≡ true → holds_edge f lists.live ≡ true
      named_live f held = (both_true (is_same_name f.name edge) (holds_edge f lists.live) (sym (holds-filter (λ c. is_same_name c.name edge) f lists.live) ∙ held)).1

      -- what stands at the place has the name
      named_here : (f : Edge) → holds_edge f (edges_at lists v place) ≡ true → holds_edge f (edges_named edge lists.live) ≡ true
      named_here f held = by_test (is_same_name f.name edge) refl where
        by_test : (b : Bool) → is_same_name f.name edge ≡ b → holds_edge f (edges_named edge lists.live) ≡ true
        by_test true named = holds-filter (λ c. is_same_name c.name edge) f lists.live ∙ and_true (is_same_name f.name edge) (holds_edge f lists.live) named (held_at_place v place f held).1
        by_test false other =
            let there : holds_edge f (filter (λ c. not (is_same_name c.name edge)) (edges_at lists v place)) ≡ true =
            holds-filter (λ c. not (is_same_name c.name edge)) f (edges_at lists v place) ∙ and_true (not (is_same_name f.name edge)) (holds_edge f (edges_at lists v place)) (ap not other) held in
            let none = ap (holds_edge f) free in
            absurd cc
