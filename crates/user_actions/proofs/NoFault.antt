-- What holds of an action to which no fault applies.
use Rattle.std.proofs.Common.{◌≡◌, ℕ, Bool, true, false, cond, List, [], ◌∷◌, refl, sym, ap, ◌∙◌}
use Rattle.std.specs.Prelude.{◌||◌, Option, None, Some, is_none, slice_get, option_map}
use Rattle.grove_names.specs.declared.name.Name.{Name}
use Rattle.grove_sorts.specs.declared.sort.Sort.{Sort}
use Rattle.grove_edits.specs.declared.vertex.Vertex.{Vertex}
use Rattle.grove_edits.specs.declared.edge.Edge.{Edge}
use Rattle.grove_edits.specs.Edge.{is_sort}
use Rattle.grove_edits.specs.Vertex.{is_same_vertex, stands_in}
use Rattle.grove_edits.proofs.Vertices.{same_vertex_exact, same_vertex_itself}
use Rattle.grove_edits.specs.declared.action.Place.{Place}
use Rattle.grove_edits.specs.declared.action.Action.{Action}
use Rattle.grove_edits.specs.declared.act_fault.ActFault.{ActFault}
use Rattle.grove_edits.specs.declared.act_fault.ActFault.TheVariants.{WrongSort}
use Rattle.grove_edits.proofs.WellFormed.{one_sort}
use Rattle.user_actions.specs.Lists.{GraphLists}
use Rattle.user_actions.specs.Names.{is_same_name, vertices_named}
use Rattle.user_actions.specs.Place.{vertex_named, of_vertex}
use Rattle.user_actions.specs.Faults.{no_vertex, ambiguous_vertex, no_position, wrong_sort, occupied, empty, into_itself, names_spent, first_some, first_fault}
use Rattle.user_actions.specs.Actions.{vertex_names, cannot_wrap, no_edge, ambiguous_edge, not_loose}
use Rattle.user_actions.specs.Checks.{at_place, two_vertices, other_sort, two_edges}
use Rattle.grove_sorts.proofs.Truths.{or_left, or_right}
use Rattle.user_actions.proofs.Truths.{same_name_exact, same_name_itself}

-- no fault of any number applies
pub record NoFault (lists : GraphLists) (opening : List Edge) (author : ℕ) (action : Action) : Type 0 where
  pub vertex : no_vertex lists.vertices (vertex_names action) ≡ None
  pub one_vertex : ambiguous_vertex lists.vertices (vertex_names action) ≡ None
  pub position : no_position lists action ≡ None
  pub sort : wrong_sort lists action ≡ None
  pub free : occupied lists action ≡ None
  pub filled : empty lists action ≡ None
  pub wraps : cannot_wrap lists action ≡ None
  pub edge : no_edge lists opening action ≡ None
  pub one_edge : ambiguous_edge lists action ≡ None
  pub apart : into_itself lists action ≡ None
  pub loose : not_loose lists action ≡ None
  pub names : names_spent lists author action ≡ None

first_none : (o : Option ActFault) (os : List (Option ActFault)) → first_some (o ∷ os) ≡ None → (o ≡ None) × (first_some os ≡ None)
first_none None os h = (refl, h)
first_none (Some fault) os h = absurd cc

pub no_fault : (lists : GraphLists) (opening : List Edge) (author : ℕ) (action : Action) → first_fault lists opening author action ≡ None → NoFault lists opening author action
no_fault lists opening author action none =
    let r1 = first_none (no_vertex lists.vertices (vertex_names action)) _ none in
    let r2 = first_none (ambiguous_vertex lists.vertices (vertex_names action)) _ r1.1 in
    let r3 = first_none (no_position lists action) _ r2.1 in
    let r4 = first_none (wrong_sort lists action) _ r3.1 in
    let r5 = first_none (occupied lists action) _ r4.1 in
    let r6 = first_none (empty lists action) _ r5.1 in
    let r7 = first_none (cannot_wrap lists action) _ r6.1 in
    let r8 = first_none (no_edge lists opening action) _ r7.1 in
    let r9 = first_none (ambiguous_edge lists action) _ r8.1 in
    let r10 = first_none (into_itself lists action) _ r9.1 in
    let r11 = first_none (not_loose lists action) _ r10.1 in
    let r12 = first_none (names_spent lists author action) _ r11.1 in
    record {
      vertex = r1.0;
      one_vertex = r2.0;
      position = r3.0;
      sort = r4.0;
      free = r5.0;
      filled = r6.0;
      wraps = r7.0;
      edge = r8.0;
      one_edge = r9.0;
      apart = r10.0;
      loose = r11.0;
      names = r12.0;
    }

-- ---- the vertices that are named

-- exactly one vertex has the name
abbrev pub IsOnly : GraphLists → Name → Vertex → Type 0
IsOnly lists name v = vertices_named name lists.vertices ≡ v ∷ []

pub one_named : (fault : ActFault) (rest others : Option ActFault) (xs : List Vertex) → cond (is_none (slice_get xs 0)) (Some fault) rest ≡ None → two_vertices xs others ≡ None
    → (v : Vertex) × (xs ≡ v ∷ []) × (rest ≡ None) × (others ≡ None)
one_named fault rest others [] some one = absurd cc
one_named fault rest others (v ∷ []) some one = (v, refl, some, one)
one_named fault rest others (v ∷ w ∷ xs) some one = absurd cc

pub vertex_named_is : (lists : GraphLists) (name : Name) (v : Vertex) → IsOnly lists name v → vertex_named lists name ≡ Some v
vertex_named_is lists name v only = ap (λ (xs : List Vertex). slice_get xs 0) only

-- what is told of the vertex of a place
pub at_place_is : (lists : GraphLists) (place : Place) (v : Vertex) (fault : Vertex → Place → Option ActFault) → IsOnly lists place.name v → at_place lists (Some place) fault ≡ fault v place
at_place_is lists place v fault only = ap (λ (xs : List Vertex). of_vertex (slice_get xs 0) None (λ w. fault w place)) only

named_first : (name : Name) (vs : List Vertex) (v : Vertex) (ws : List Vertex) → vertices_named name vs ≡ v ∷ ws → (stands_in v vs ≡ true) × (v.name ≡ name)
named_first name [] v ws is = absurd cc
named_first name (x ∷ xs) v ws is = by_test (is_same_name x.name name) refl is (named_first name xs v ws) where
  by_test : (b : Bool) → is_same_name x.name name ≡ b → cond b (x ∷ vertices_named name xs) (vertices_named name xs) ≡ v ∷ ws
      → (vertices_named name xs ≡ v ∷ ws → (stands_in v xs ≡ true) × (v.name ≡ name)) → ((is_same_vertex x v || stands_in v xs) ≡ true) × (v.name ≡ name)
  by_test true same h later =
      let one : x ≡ v = cc in
      (or_left (is_same_vertex x v) (stands_in v xs) (ap (λ y. is_same_vertex y v) one ∙ same_vertex_itself v), ap (λ (y : Vertex). y.name) (sym one) ∙ same_name_exact x.name name same)
  by_test false other h later = let rest = later h in (or_right (is_same_vertex x v) (stands_in v xs) rest.0, rest.1)

-- it is a vertex of the graph, and has the name
pub only_stands : (lists : GraphLists) (name : Name) (v : Vertex) → IsOnly lists name v → (stands_in v lists.vertices ≡ true) × (v.name ≡ name)
only_stands lists name v only = named_first name lists.vertices v [] only

pub still_named : (name : Name) (vs : List Vertex) (u : Vertex) → stands_in u vs ≡ true → u.name ≡ name → stands_in u (vertices_named name vs) ≡ true
still_named name [] u is named = absurd cc
still_named name (x ∷ xs) u is named = by_tests (is_same_name x.name name) (is_same_vertex x u) refl refl is (λ rest. still_named name xs u rest named) where
  by_tests : (a b : Bool) → is_same_name x.name name ≡ a → is_same_vertex x u ≡ b → (b || stands_in u xs) ≡ true → (stands_in u xs ≡ true → stands_in u (vertices_named name xs) ≡ true)
      → stands_in u (cond a (x ∷ vertices_named name xs) (vertices_named name xs)) ≡ true
  by_tests true true same one h later = or_left (is_same_vertex x u) (stands_in u (vertices_named name xs)) one
  by_tests true false same other h later = or_right (is_same_vertex x u) (stands_in u (vertices_named name xs)) (later h)
  by_tests false true differ one h later =
      let same : is_same_name x.name name ≡ true = ap (λ (y : Vertex). is_same_name y.name name) (same_vertex_exact x u one) ∙ ap (λ n. is_same_name n name) named ∙ same_name_itself name in
      absurd cc
  by_tests false false differ other h later = later h

-- no other vertex of the graph has it
pub only_one : (lists : GraphLists) (name : Name) (v u : Vertex) → IsOnly lists name v → stands_in u lists.vertices ≡ true → u.name ≡ name → v ≡ u
only_one lists name v u only is named =
    same_vertex_exact v u (alone (is_same_vertex v u) (ap (stands_in u) (sym only) ∙ still_named name lists.vertices u is named)) where
      alone : (b : Bool) → (b || false) ≡ true → b ≡ true
      alone true h = refl
      alone false h = absurd cc

-- ---- options and lists

pub some_from : {X : Type 0} (o : Option X) (fault : ActFault) → cond (is_none o) (Some fault) None ≡ None → (x : X) × (o ≡ Some x)
some_from None fault h = absurd cc
some_from (Some x) fault h = (x, refl)

pub wanted_sort : (wanted found : Sort) → other_sort (Some wanted) (Some found) ≡ None → wanted ≡ found
wanted_sort wanted found h = by_test (is_sort (Some wanted) found) refl h where
  by_test : (b : Bool) → is_sort (Some wanted) found ≡ b → cond b None (Some (WrongSort wanted found)) ≡ None → wanted ≡ found
  by_test true same none = sym (one_sort wanted found same)
  by_test false other none = absurd cc

pub nothing_from : {X : Type 0} (make : X → ActFault) (xs : List X) → option_map make (slice_get xs 0) ≡ None → xs ≡ []
nothing_from make [] h = refl
nothing_from make (x ∷ xs) h = absurd cc

pub something_from : {X : Type 0} (fault : ActFault) (xs : List X) → cond (is_none (slice_get xs 0)) (Some fault) None ≡ None → (x : X) × (rest : List X) × (xs ≡ x ∷ rest)
something_from fault [] h = absurd cc
something_from fault (x ∷ xs) h = (x, xs, refl)

pub one_edge_from : (es : List Edge) (e : Edge) (rest : List Edge) → es ≡ e ∷ rest → two_edges es ≡ None → es ≡ e ∷ []
one_edge_from [] e rest is two = absurd cc
one_edge_from (x ∷ []) e rest is two = let one : x ≡ e = cc in ap (λ y. y ∷ []) one
one_edge_from (x ∷ y ∷ es) e rest is two = absurd cc
