-- What look-ups in a graph tell of its lists.
use Rattle.std.proofs.Common.{◌≡◌, ℕ, ◌≤◌, Bool, true, false, cond, List, [], ◌∷◌, ◌++◌, map, filter, refl, sym, ap, subst, ◌∙◌, inl, inr, ◌⊎◌, arith}
use borrow.Author.Tests.{eqb-true}
use Rattle.std.specs.Prelude.{◌||◌, ◌==◌, Option, None, Some, is_none, slice_get}
use Rattle.std.specs.List.{AllByRecursion}
use Rattle.std.specs.declared.cmp.Ordering.{Ordering}
use Rattle.std.specs.declared.cmp.Ordering.TheVariants.{Less, Equal, Greater}
use Rattle.std.specs.Ordering.{is_lt}
use Rattle.std.proofs.lemmas.Cmp.{tied_itself}
use Rattle.grove_names.specs.declared.name.Name.{Name}
use Rattle.grove_edits.specs.declared.vertex.Vertex.{Vertex}
use Rattle.grove_edits.specs.declared.edge.Edge.{Edge}
use Rattle.grove_edits.specs.Vertex.{vertex_cmp, is_same_vertex, stands_in}
use Rattle.grove_edits.specs.Graph.{Graph}
use Rattle.grove_edits.proofs.Orders.{vertex_cmp_total}
use Rattle.graph_words.specs.Live.{holds_edge}
use Rattle.graph_words.specs.Whole.{IsInVertexOrder}
use Rattle.grove_edits.proofs.Vertices.{same_vertex_exact, same_vertex_itself}
use Rattle.graph_words.specs.Names.{IsGreatest, IsNameOf, name_by}
use Rattle.grove_edits.specs.declared.act_fault.ActFault.{ActFault}
use Rattle.grove_edits.specs.declared.act_fault.ActFault.TheVariants.{NoVertex, AmbiguousVertex, NoPosition, WrongSort, Occupied, Empty, CannotWrap, NoEdge, AmbiguousEdge, IntoItself, NotLoose, NamesSpent}
use Rattle.user_actions.specs.Lists.{GraphLists, AreListsOf}
use Rattle.user_actions.specs.Names.{is_same_name, vertices_named, greatest_in, names_of, greatest_counter}
use Rattle.user_actions.specs.NamedVertices.{IsVertexNamed, IsOneNamed, IsNoneNamed, AreTwoNamed, IsVertexFault, IsFirstVertexFault}
use Rattle.user_actions.specs.Faults.{no_vertex, ambiguous_vertex, first_some}
use Rattle.user_actions.specs.Checks.{two_vertices}
use Rattle.grove_sorts.proofs.Truths.{or_left, or_right}
use Rattle.user_actions.proofs.Truths.{same_name_exact}
use Rattle.user_actions.proofs.NewNames.{IsAmong, counter_within, vertex_among, edge_among, among_first, among_second}
use Rattle.user_actions.proofs.EditLists.{held_first, held_later}
use Rattle.user_actions.proofs.NoFault.{IsOnly, still_named}

-- ---- steps through the faults

pub stop : (o : Option ActFault) (os : List (Option ActFault)) (fault : ActFault) → o ≡ Some fault → first_some (o ∷ os) ≡ Some fault
stop o os fault is = ap (λ p. first_some (p ∷ os)) is

pub skip : (o : Option ActFault) (os : List (Option ActFault)) → o ≡ None → first_some (o ∷ os) ≡ first_some os
skip o os is = ap (λ p. first_some (p ∷ os)) is

-- ---- lists in vertex order

all_kept : (test : Vertex → Bool) (v : Vertex) (vs : List Vertex) → AllByRecursion (λ later. vertex_cmp v later ≡ Less) vs → AllByRecursion (λ later. vertex_cmp v later ≡ Less) (filter test vs)
all_kept test v [] all = tt
all_kept test v (x ∷ xs) all = by_test (test x) (all_kept test v xs all.1) where
  by_test : (b : Bool) → AllByRecursion (λ later. vertex_cmp v later ≡ Less) (filter test xs) → AllByRecursion (λ later. vertex_cmp v later ≡ Less) (cond b (x ∷ filter test xs) (filter test xs))
  by_test true rest = (all.0, rest)
  by_test false rest = rest

order_kept : (test : Vertex → Bool) (vs : List Vertex) → IsInVertexOrder vs → IsInVertexOrder (filter test vs)
order_kept test [] order = tt
order_kept test (x ∷ xs) order = by_test (test x) (order_kept test xs order.1) where
  by_test : (b : Bool) → IsInVertexOrder (filter test xs) → IsInVertexOrder (cond b (x ∷ filter test xs) (filter test xs))
  by_test true rest = (all_kept test x xs order.0, rest)
  by_test false rest = rest

less_than_held : (v : Vertex) (vs : List Vertex) (u : Vertex) → AllByRecursion (λ later. vertex_cmp v later ≡ Less) vs → stands_in u vs ≡ true → vertex_cmp v u ≡ Less
less_than_held v [] u all stands = absurd cc
less_than_held v (x ∷ xs) u all stands = by_test (is_same_vertex x u) refl stands (less_than_held v xs u all.1) where
  by_test : (b : Bool) → is_same_vertex x u ≡ b → (b || stands_in u xs) ≡ true → (stands_in u xs ≡ true → vertex_cmp v u ≡ Less) → vertex_cmp v u ≡ Less
  by_test true same h later = ap (vertex_cmp v) (sym (same_vertex_exact x u same)) ∙ all.0
  by_test false other h later = later h

not_less_itself : (v : Vertex) → vertex_cmp v v ≡ Less → ⊥
not_less_itself v lt = let tie = tied_itself vertex_cmp_total v in cc

first_stands : (x : Vertex) (xs : List Vertex) → stands_in x (x ∷ xs) ≡ true
first_stands x xs = or_left (is_same_vertex x x) (stands_in x xs) (same_vertex_itself x)

second_stands : (x y : Vertex) (xs : List Vertex) → stands_in y (x ∷ y ∷ xs) ≡ true
second_stands x y xs = or_right (is_same_vertex x y) (is_same_vertex y y || stands_in y xs) (first_stands y xs)

named_stands : (name : Name) (vs : List Vertex) (v : Vertex) → stands_in v (vertices_named name vs) ≡ true → (stands_in v vs ≡ true) × (v.name ≡ name)
named_stands name [] v h = absurd cc
named_stands name (x ∷ xs) v h = by_test (is_same_name x.name name) refl h (named_stands name xs v) where
  keep : (stands_in v xs ≡ true) × (v.name ≡ name) → (stands_in v (x ∷ xs) ≡ true) × (v.name ≡ name)
  keep rest = (or_right (is_same_vertex x v) (stands_in v xs) rest.0, rest.1)

  by_vertex : (b : Bool) → is_same_vertex x v ≡ b → is_same_name x.name name ≡ true → (b || stands_in v (vertices_named name xs)) ≡ true → (stands_in v (vertices_named name xs) ≡ true → (stands_in v xs ≡ true) × (v.name ≡ name))
      → (stands_in v (x ∷ xs) ≡ true) × (v.name ≡ name)
  by_vertex true same named here later =
      (or_left (is_same_vertex x v) (stands_in v xs) same, ap (λ (y : Vertex). y.name) (sym (same_vertex_exact x v same)) ∙ same_name_exact x.name name named)
  by_vertex false other named here later = keep (later here)

  by_test : (b : Bool) → is_same_name x.name name ≡ b → stands_in v (cond b (x ∷ vertices_named name xs) (vertices_named name xs)) ≡ true → (stands_in v (vertices_named name xs) ≡ true → (stands_in v xs ≡ true) × (v.name ≡ name))
      → (stands_in v (x ∷ xs) ≡ true) × (v.name ≡ name)
  by_test true named here later = by_vertex (is_same_vertex x v) refl named here later
  by_test false other here later = keep (later here)

some_from_option : (fault : ActFault) (b : Bool) (rest : Option ActFault) → b ≡ true → cond b (Some fault) rest ≡ Some fault
some_from_option fault b rest is = ap (λ c. cond c (Some fault) rest) is

module _ (g : Graph) (lists : GraphLists) (of : AreListsOf g lists) where
  is_named : (name : Name) (v : Vertex) → stands_in v (vertices_named name lists.vertices) ≡ true → IsVertexNamed g name v
  is_named name v h = let parts = named_stands name lists.vertices v h in (parts.1, of.vertices.no_other v parts.0)

  stands_named : (name : Name) (v : Vertex) → IsVertexNamed g name v → stands_in v (vertices_named name lists.vertices) ≡ true
  stands_named name v is = still_named name lists.vertices v (of.vertices.each v is.1) is.0

  pub only_from : (name : Name) (v : Vertex) → IsOneNamed g name v → IsOnly lists name v
  only_from name v one = by_list (vertices_named name lists.vertices) refl (order_kept (λ x. is_same_name x.name name) lists.vertices of.vertices.in_order) where
    by_list : (xs : List Vertex) → vertices_named name lists.vertices ≡ xs → IsInVertexOrder xs → xs ≡ v ∷ []
    by_list [] is order = let there = ap (stands_in v) (sym is) ∙ stands_named name v one.0 in absurd cc
    by_list (a ∷ []) is order = ap (λ x. x ∷ []) (one.1 a (is_named name a (ap (stands_in a) is ∙ first_stands a [])))
    by_list (a ∷ b ∷ rest) is order =
        let first = one.1 a (is_named name a (ap (stands_in a) is ∙ first_stands a (b ∷ rest))) in
        let second = one.1 b (is_named name b (ap (stands_in b) is ∙ second_stands a b rest)) in
        absurd (not_less_itself v (ap (λ x. vertex_cmp x v) (sym first) ∙ ap (vertex_cmp a) (sym second) ∙ order.0.0))

  pub none_from : (name : Name) → IsNoneNamed g name → vertices_named name lists.vertices ≡ []
  none_from name none = by_list (vertices_named name lists.vertices) refl where
    by_list : (xs : List Vertex) → vertices_named name lists.vertices ≡ xs → xs ≡ []
    by_list [] is = refl
    by_list (a ∷ rest) is = absurd (none a (is_named name a (ap (stands_in a) is ∙ first_stands a rest)))

  pub two_from : (name : Name) (a b : Vertex) → AreTwoNamed g name a b → (rest : List Vertex) × (vertices_named name lists.vertices ≡ a ∷ b ∷ rest)
  two_from name a b two = by_list (vertices_named name lists.vertices) refl (order_kept (λ x. is_same_name x.name name) lists.vertices of.vertices.in_order) where
    has : (xs : List Vertex) → vertices_named name lists.vertices ≡ xs → (u : Vertex) → IsVertexNamed g name u → stands_in u xs ≡ true
    has xs is u named = ap (stands_in u) (sym is) ∙ stands_named name u named

    only : (x u : Vertex) → stands_in u (x ∷ []) ≡ true → x ≡ u
    only x u h = same_vertex_exact x u (alone (is_same_vertex x u) h) where
      alone : (c : Bool) → (c || false) ≡ true → c ≡ true
      alone true h = refl
      alone false h = absurd cc

    lt_not : (o : Ordering) → o ≡ Less → is_lt o ≡ false → ⊥
    lt_not Less is h = cc
    lt_not Equal is h = cc
    lt_not Greater is h = cc

    split : (x : Vertex) (xs : List Vertex) (u : Vertex) → stands_in u (x ∷ xs) ≡ true → (x ≡ u) ⊎ (stands_in u xs ≡ true)
    split x xs u h = by_test (is_same_vertex x u) refl h where
      by_test : (c : Bool) → is_same_vertex x u ≡ c → (c || stands_in u xs) ≡ true → (x ≡ u) ⊎ (stands_in u xs ≡ true)
      by_test true same _ = inl (same_vertex_exact x u same)
      by_test false other h = inr h

    by_list : (xs : List Vertex) → vertices_named name lists.vertices ≡ xs → IsInVertexOrder xs → (rest : List Vertex) × (xs ≡ a ∷ b ∷ rest)
    by_list [] is order = let there = has [] is a two.0 in absurd cc
    by_list (x ∷ []) is order =
        let one = only x a (has (x ∷ []) is a two.0) in
        let other = only x b (has (x ∷ []) is b two.1) in
        absurd (not_less_itself x (ap (λ y. vertex_cmp y x) one ∙ ap (vertex_cmp a) other ∙ two.2))
    by_list (x ∷ y ∷ rest) is order =
        let first : x ≡ a = by_first (two.3 x (is_named name x (ap (stands_in x) is ∙ first_stands x (y ∷ rest)))) (split x (y ∷ rest) a (has (x ∷ y ∷ rest) is a two.0)) in
        let second : y ≡ b = by_second first (two.3 y (is_named name y (ap (stands_in y) is ∙ second_stands x y rest))) (split x (y ∷ rest) b (has (x ∷ y ∷ rest) is b two.1)) in
        (rest, ap (λ z. z ∷ y ∷ rest) first ∙ ap (λ z. a ∷ z ∷ rest) second)
      where
        by_first : (x ≡ a) ⊎ (is_lt (vertex_cmp x b) ≡ false) → (x ≡ a) ⊎ (stands_in a (y ∷ rest) ≡ true) → x ≡ a
        by_first (inl same) where_a = same
        by_first (inr not) (inl same) = same
        by_first (inr not) (inr later) = absurd (lt_not (vertex_cmp x b) (vertex_cmp_total.trans x a b (less_than_held x (y ∷ rest) a order.0 later) two.2) not)

        last : y ≡ b → y ≡ b
        last h = h

        by_rest : is_lt (vertex_cmp y b) ≡ false → (y ≡ b) ⊎ (stands_in b rest ≡ true) → y ≡ b
        by_rest not (inl same) = same
        by_rest not (inr later) = absurd (lt_not (vertex_cmp y b) (less_than_held y rest b order.1.0 later) not)

        by_second : x ≡ a → (y ≡ a) ⊎ (is_lt (vertex_cmp y b) ≡ false) → (x ≡ b) ⊎ (stands_in b (y ∷ rest) ≡ true) → y ≡ b
        by_second first (inl same) where_b = absurd (not_less_itself a (ap (λ z. vertex_cmp z a) (sym first) ∙ ap (vertex_cmp x) (sym same) ∙ order.0.0))
        by_second first (inr not) (inl same) = absurd (not_less_itself a (ap (vertex_cmp a) (sym first ∙ same) ∙ two.2))
        by_second first (inr not) (inr later) = by_rest not (split y rest b later)

  -- the fault of one name is told
  pub vertex_fault_tells : (name : Name) (fault : ActFault) → IsVertexFault g name fault → (rest : List (Option ActFault))
      → first_some (no_vertex lists.vertices (name ∷ []) ∷ ambiguous_vertex lists.vertices (name ∷ []) ∷ rest) ≡ Some fault
  vertex_fault_tells name (NoVertex missing) is rest =
      stop (no_vertex lists.vertices (name ∷ [])) (ambiguous_vertex lists.vertices (name ∷ []) ∷ rest) (NoVertex missing)
      (ap (λ (xs : List Vertex). cond (is_none (slice_get xs 0)) (Some (NoVertex name)) None) (none_from name is.1) ∙ ap (λ n. Some (NoVertex n)) (sym is.0))
  vertex_fault_tells name (AmbiguousVertex a b) is rest =
      let two = two_from name a b is in
      skip (no_vertex lists.vertices (name ∷ [])) (ambiguous_vertex lists.vertices (name ∷ []) ∷ rest) (ap (λ (xs : List Vertex). cond (is_none (slice_get xs 0)) (Some (NoVertex name)) None) two.1)
      ∙ stop (ambiguous_vertex lists.vertices (name ∷ [])) rest (AmbiguousVertex a b) (ap (λ xs. two_vertices xs None) two.1)
  vertex_fault_tells name (NoPosition v) is rest = absurd is
  vertex_fault_tells name (WrongSort wanted found) is rest = absurd is
  vertex_fault_tells name (Occupied e) is rest = absurd is
  vertex_fault_tells name (Empty place) is rest = absurd is
  vertex_fault_tells name (CannotWrap ctor) is rest = absurd is
  vertex_fault_tells name (NoEdge n) is rest = absurd is
  vertex_fault_tells name (AmbiguousEdge e f) is rest = absurd is
  vertex_fault_tells name (IntoItself v) is rest = absurd is
  vertex_fault_tells name (NotLoose e) is rest = absurd is
  vertex_fault_tells name (NamesSpent n) is rest = absurd is

  -- where one vertex has the name, neither fault of it applies
  pub one_tells : (name : Name) (v : Vertex) → IsOnly lists name v → (rest : List (Option ActFault))
      → first_some (no_vertex lists.vertices (name ∷ []) ∷ ambiguous_vertex lists.vertices (name ∷ []) ∷ rest) ≡ first_some rest
  one_tells name v only rest =
      skip (no_vertex lists.vertices (name ∷ [])) (ambiguous_vertex lists.vertices (name ∷ []) ∷ rest) (ap (λ (xs : List Vertex). cond (is_none (slice_get xs 0)) (Some (NoVertex name)) None) only)
      ∙ skip (ambiguous_vertex lists.vertices (name ∷ [])) rest (ap (λ xs. two_vertices xs None) only)

  is_some_named : (name : Name) (v : Vertex) → IsVertexNamed g name v → (x : Vertex) × (rest : List Vertex) × (vertices_named name lists.vertices ≡ x ∷ rest)
  is_some_named name v is = by_list (vertices_named name lists.vertices) refl where
    by_list : (xs : List Vertex) → vertices_named name lists.vertices ≡ xs → (x : Vertex) × (rest : List Vertex) × (xs ≡ x ∷ rest)
    by_list [] nil = let there = ap (stands_in v) (sym nil) ∙ stands_named name v is in absurd cc
    by_list (x ∷ rest) nil = (x, rest, refl)

  not_none : (name : Name) → (IsNoneNamed g name → ⊥) → (xs : List Vertex) → vertices_named name lists.vertices ≡ xs → is_none (slice_get xs 0) ≡ false
  not_none name some [] is = absurd (some (λ u named. let there = ap (stands_in u) (sym is) ∙ stands_named name u named in cc))
  not_none name some (x ∷ xs) is = refl

  -- the fault of two names is told
  pub two_names_tell : (one two : Name) (fault : ActFault) → IsFirstVertexFault g one two fault → (rest : List (Option ActFault))
      → first_some (no_vertex lists.vertices (one ∷ two ∷ []) ∷ ambiguous_vertex lists.vertices (one ∷ two ∷ []) ∷ rest) ≡ Some fault
  two_names_tell one two (NoVertex name) (inl is) rest =
      stop (no_vertex lists.vertices (one ∷ two ∷ [])) (ambiguous_vertex lists.vertices (one ∷ two ∷ []) ∷ rest) (NoVertex name)
      (ap (λ (xs : List Vertex). cond (is_none (slice_get xs 0)) (Some (NoVertex one)) (no_vertex lists.vertices (two ∷ []))) (none_from one is.1) ∙ ap (λ n. Some (NoVertex n)) (sym is.0))
  two_names_tell one two (NoVertex name) (inr is) rest =
      let some = is_some_named one is.1.0 is.1.1 in
      stop (no_vertex lists.vertices (one ∷ two ∷ [])) (ambiguous_vertex lists.vertices (one ∷ two ∷ []) ∷ rest) (NoVertex name)
      (ap (λ (xs : List Vertex). cond (is_none (slice_get xs 0)) (Some (NoVertex one)) (no_vertex lists.vertices (two ∷ []))) some.2
      ∙ ap (λ (xs : List Vertex). cond (is_none (slice_get xs 0)) (Some (NoVertex two)) None) (none_from two is.2) ∙ ap (λ n. Some (NoVertex n)) (sym is.0))
  two_names_tell one two (AmbiguousVertex a b) (inl is) rest =
      let found = two_from one a b is.0 in
      skip (no_vertex lists.vertices (one ∷ two ∷ [])) (ambiguous_vertex lists.vertices (one ∷ two ∷ []) ∷ rest)
      (ap (λ (xs : List Vertex). cond (is_none (slice_get xs 0)) (Some (NoVertex one)) (no_vertex lists.vertices (two ∷ []))) found.1
      ∙ ap (λ t. cond t (Some (NoVertex two)) None) (not_none two is.1 (vertices_named two lists.vertices) refl))
      ∙ stop (ambiguous_vertex lists.vertices (one ∷ two ∷ [])) rest (AmbiguousVertex a b) (ap (λ xs. two_vertices xs (ambiguous_vertex lists.vertices (two ∷ []))) found.1)
  two_names_tell one two (AmbiguousVertex a b) (inr is) rest =
      let only = only_from one is.0 is.1 in
      let found = two_from two a b is.2 in
      skip (no_vertex lists.vertices (one ∷ two ∷ [])) (ambiguous_vertex lists.vertices (one ∷ two ∷ []) ∷ rest)
      (ap (λ (xs : List Vertex). cond (is_none (slice_get xs 0)) (Some (NoVertex one)) (no_vertex lists.vertices (two ∷ []))) only
      ∙ ap (λ (xs : List Vertex). cond (is_none (slice_get xs 0)) (Some (NoVertex two)) None) found.1)
      ∙ stop (ambiguous_vertex lists.vertices (one ∷ two ∷ [])) rest (AmbiguousVertex a b)
      (ap (λ xs. two_vertices xs (ambiguous_vertex lists.vertices (two ∷ []))) only ∙ ap (λ xs. two_vertices xs None) found.1)
  two_names_tell one two (NoPosition v) is rest = absurd is
  two_names_tell one two (WrongSort wanted found) is rest = absurd is
  two_names_tell one two (Occupied e) is rest = absurd is
  two_names_tell one two (Empty place) is rest = absurd is
  two_names_tell one two (CannotWrap ctor) is rest = absurd is
  two_names_tell one two (NoEdge n) is rest = absurd is
  two_names_tell one two (AmbiguousEdge e f) is rest = absurd is
  two_names_tell one two (IntoItself v) is rest = absurd is
  two_names_tell one two (NotLoose e) is rest = absurd is
  two_names_tell one two (NamesSpent n) is rest = absurd is

  pub two_names_one : (one two : Name) (v w : Vertex) → IsOnly lists one v → IsOnly lists two w → (rest : List (Option ActFault))
      → first_some (no_vertex lists.vertices (one ∷ two ∷ []) ∷ ambiguous_vertex lists.vertices (one ∷ two ∷ []) ∷ rest) ≡ first_some rest
  two_names_one one two v w first second rest =
      skip (no_vertex lists.vertices (one ∷ two ∷ [])) (ambiguous_vertex lists.vertices (one ∷ two ∷ []) ∷ rest)
      (ap (λ (xs : List Vertex). cond (is_none (slice_get xs 0)) (Some (NoVertex one)) (no_vertex lists.vertices (two ∷ []))) first
      ∙ ap (λ (xs : List Vertex). cond (is_none (slice_get xs 0)) (Some (NoVertex two)) None) second)
      ∙ skip (ambiguous_vertex lists.vertices (one ∷ two ∷ [])) rest
      (ap (λ xs. two_vertices xs (ambiguous_vertex lists.vertices (two ∷ []))) first ∙ ap (λ xs. two_vertices xs None) second)

-- ---- the greatest counter

among_split : (n : Name) (ms ns : List Name) → IsAmong n (ms ++ ns) → IsAmong n ms ⊎ IsAmong n ns
among_split n [] ns is = inr is
among_split n (m ∷ ms) ns (inl same) = inl (inl same)
among_split n (m ∷ ms) ns (inr later) = by_rest (among_split n ms ns later) where
  by_rest : IsAmong n ms ⊎ IsAmong n ns → IsAmong n (m ∷ ms) ⊎ IsAmong n ns
  by_rest (inl first) = inl (inr first)
  by_rest (inr second) = inr second

vertex_from_name : (n : Name) (vs : List Vertex) → IsAmong n (map (λ x. x.name) vs) → (v : Vertex) × (stands_in v vs ≡ true) × (v.name ≡ n)
vertex_from_name n [] is = absurd is
vertex_from_name n (x ∷ xs) (inl same) = (x, first_stands x xs, same)
vertex_from_name n (x ∷ xs) (inr later) = let found = vertex_from_name n xs later in (found.0, or_right (is_same_vertex x found.0) (stands_in found.0 xs) found.1, found.2)

edge_from_name : (n : Name) (es : List Edge) → IsAmong n (map (λ x. x.name) es) → (e : Edge) × (holds_edge e es ≡ true) × (e.name ≡ n)
edge_from_name n [] is = absurd is
edge_from_name n (x ∷ xs) (inl same) = (x, held_first_of x xs, same) where
  held_first_of : (y : Edge) (ys : List Edge) → holds_edge y (y ∷ ys) ≡ true
  held_first_of y ys = held_first y ys
edge_from_name n (x ∷ xs) (inr later) = let found = edge_from_name n xs later in (found.0, held_later x found.0 xs found.1, found.2)

all_within : (author n : ℕ) (ns : List Name) → ((m : Name) → IsAmong m ns → m.author ≡ author → m.counter ≤ n) → greatest_in author ns ≤ n
all_within author n [] each = omega arith
all_within author n (m ∷ ms) each =
    let rest = all_within author n ms (λ k is by. each k (inr is) by) in
    let first = by_author (m.author == author) refl in
    omega arith
  where
    by_author : (b : Bool) → (m.author == author) ≡ b → cond b m.counter 0 ≤ n
    by_author true same = each m (inl refl) (eqb-true m.author author same)
    by_author false other = omega arith

pub greatest_is : (g : Graph) (lists : GraphLists) → AreListsOf g lists → (author n : ℕ) → IsGreatest (IsNameOf g) author n → greatest_counter lists author ≡ n
greatest_is g lists of author n is =
    let at_most = all_within author n (names_of lists) (λ m among by. is.no_greater m (name_from m (among_split m (map (λ x. x.name) lists.vertices) (map (λ x. x.name) lists.present) among)) by) in
    let at_least = by_reached is.reached in
    omega arith
  where
    name_from : (m : Name) → IsAmong m (map (λ (x : Vertex). x.name) lists.vertices) ⊎ IsAmong m (map (λ (x : Edge). x.name) lists.present) → IsNameOf g m
    name_from m (inl vertex) = let found = vertex_from_name m lists.vertices vertex in inr (found.0, of.vertices.no_other found.0 found.1, found.2)
    name_from m (inr edge) = let found = edge_from_name m lists.present edge in inl (found.0, of.present.no_other found.0 found.1, found.2)

    among_from : (m : Name) → IsNameOf g m → IsAmong m (names_of lists)
    among_from m (inl edge) =
        subst (λ k. IsAmong k (names_of lists)) edge.2 (among_second edge.0.name (map (λ (x : Vertex). x.name) lists.vertices) (map (λ (x : Edge). x.name) lists.present) (edge_among edge.0 lists.present (of.present.each edge.0 edge.1)))
    among_from m (inr vertex) =
        subst (λ k. IsAmong k (names_of lists)) vertex.2 (among_first vertex.0.name (map (λ (x : Vertex). x.name) lists.vertices) (map (λ (x : Edge). x.name) lists.present) (vertex_among vertex.0 lists.vertices (of.vertices.each vertex.0 vertex.1)))

    by_reached : (n ≡ 0) ⊎ IsNameOf g (name_by author n) → n ≤ greatest_counter lists author
    by_reached (inl none) = omega arith
    by_reached (inr named) = counter_within author (names_of lists) (name_by author n) (among_from (name_by author n) named) refl
