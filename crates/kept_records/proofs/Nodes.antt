-- The touched trees of an edit, and that trees which are new have together no more nodes than they.
use Rattle.std.proofs.Common.{◌≡◌, ◌⊎◌, inl, inr, ℕ, ◌+◌, ◌≤◌, Bool, true, false, cond, List, [], ◌∷◌, ◌++◌, length, sum_by, refl, sym, ap, subst, ◌∙◌, arith}
use Rattle.std.specs.Prelude.{◌||◌, Option}
use Rattle.std.specs.List.{AllByRecursion}
use Rattle.std.proofs.lemmas.Bool.{cases_eq, or_left, or_right}
use Rattle.std.proofs.lemmas.List.Sums.{sum_by-cons}
use Rattle.grove_sorts.specs.declared.position.Position.{Position}
use Rattle.grove_sorts.specs.declared.sort.Sort.{Sort}
use Rattle.grove_sorts.specs.declared.sort.Sort.TheVariants.{Top, Exp, Pat, Typ as TypeSort}
use Rattle.grove_edits.specs.declared.vertex.Vertex.{Vertex as VertexOf}
use Rattle.grove_edits.specs.declared.edge.Edge.{Edge}
use Rattle.grove_edits.specs.declared.edit.Edit.{Edit}
use Rattle.grove_edits.specs.Edge.{IsWellFormed}
use Rattle.grove_edits.specs.Graph.{graph}
use Rattle.graph_words.specs.declared.class.Class.{Class}
use Rattle.graph_words.specs.declared.class.Class.TheVariants.{NoParent, Multi, Cycle, Inner}
use Rattle.grove_sorts.specs.Position.{is_same_position}
use Rattle.grove_edits.specs.Vertex.{is_same_vertex, stands_in}
use Rattle.graph_words.specs.Class.{class, is_same_class, of_class}
use Rattle.graph_words.specs.Whole.{IsVertexOf}
use Rattle.grove_edits.proofs.Vertices.{same_vertex_exact, same_vertex_itself}
use Rattle.grove_terms.specs.declared.node.Node.{Node}
use Rattle.grove_terms.specs.declared.node.What.{What}
use Rattle.grove_terms.specs.declared.node.What.TheVariants.{Vertex, Hole, Conflict, MultiRef, CycleRef}
use Rattle.grove_terms.specs.declared.grove.Grove.{Grove}
use Rattle.grove_terms.specs.Nodes.{tree_nodes}
use Rattle.grove_terms.specs.Grove.{IsTreeOf, AreTreesOf, IsGrove}
use Rattle.grove_terms.proofs.Forests.{one_forest, forest_of, root_stands}
use Rattle.grove_terms.proofs.OneGrove.{tree_of}
use Rattle.grove_terms.proofs.OneList.{one_tree}
use Rattle.grove_sorts.proofs.Orders.{same_position_laws, one_position}
use Rattle.grove_terms.proofs.WellSorted.{stands_sorted, live_well_formed}
use Rattle.kept_records.specs.Change.{IsAmong, trees_in, AreOnlyAmong, AreTouched, node_count, StandOnce}
use Rattle.kept_records.proofs.Decided.{AreSameOrNot, edge_or, option_or, list_or}
use Rattle.kept_records.proofs.Other.{HasHead, head_in_grove, among_cases}
use Rattle.kept_records.proofs.Sizes.{sum_within}

-- ---- nodes are the same or not

vertex_or : (a b : VertexOf) → AreSameOrNot a b
vertex_or a b = by_test (is_same_vertex a b) refl where
  by_test : (t : Bool) → is_same_vertex a b ≡ t → AreSameOrNot a b
  by_test true is = inl (same_vertex_exact a b is)
  by_test false other = inr (λ e. let clash : true ≡ false = sym (same_vertex_itself a) ∙ ap (is_same_vertex a) e ∙ other in cc)

position_or : (a b : Position) → AreSameOrNot a b
position_or a b = by_test (is_same_position a b) refl where
  by_test : (t : Bool) → is_same_position a b ≡ t → AreSameOrNot a b
  by_test true is = inl (one_position a b is)
  by_test false other = inr (λ e. let clash : true ≡ false = sym (same_position_laws.refl a) ∙ ap (is_same_position a) e ∙ other in cc)

sort_or : (a b : Sort) → AreSameOrNot a b
sort_or Top Top = inl refl
sort_or Exp Exp = inl refl
sort_or Pat Pat = inl refl
sort_or TypeSort TypeSort = inl refl
sort_or a b = inr (λ e. cc)

vertex_part : (a b : VertexOf) → Vertex a ≡ Vertex b → a ≡ b
vertex_part a b e = cc

hole_part : (a b : Sort) → Hole a ≡ Hole b → a ≡ b
hole_part a b e = cc

conflict_parts : (a b : Sort) (m n : ℕ) → Conflict a m ≡ Conflict b n → (a ≡ b) × (m ≡ n)
conflict_parts a b m n e = (cc, cc)

multi_part : (a b : VertexOf) → MultiRef a ≡ MultiRef b → a ≡ b
multi_part a b e = cc

cycle_part : (a b : VertexOf) → CycleRef a ≡ CycleRef b → a ≡ b
cycle_part a b e = cc

mapped : {X Y : Type 0} (f : X → Y) (a b : X) → (f a ≡ f b → a ≡ b) → AreSameOrNot a b → AreSameOrNot (f a) (f b)
mapped f a b part (inl is) = inl (ap f is)
mapped f a b part (inr other) = inr (λ e. other (part e))

what_or : (a b : What) → AreSameOrNot a b
what_or (Vertex a) (Vertex b) = mapped Vertex a b (vertex_part a b) (vertex_or a b)
what_or (Hole a) (Hole b) = mapped Hole a b (hole_part a b) (sort_or a b)
what_or (Conflict a m) (Conflict b n) = by_parts (sort_or a b) (cases_eq m n) where
  by_parts : AreSameOrNot a b → AreSameOrNot m n → AreSameOrNot (Conflict a m) (Conflict b n)
  by_parts (inl x) (inl y) = inl (ap (λ s. Conflict s m) x ∙ ap (Conflict b) y)
  by_parts (inr x) y = inr (λ e. x (conflict_parts a b m n e).0)
  by_parts (inl x) (inr y) = inr (λ e. y (conflict_parts a b m n e).1)
what_or (MultiRef a) (MultiRef b) = mapped MultiRef a b (multi_part a b) (vertex_or a b)
what_or (CycleRef a) (CycleRef b) = mapped CycleRef a b (cycle_part a b) (vertex_or a b)
what_or a b = inr (λ e. cc)

node_or : (a b : Node) → AreSameOrNot a b
node_or a b = by_parts (cases_eq a.depth b.depth) (option_or position_or a.position b.position) (option_or edge_or a.edge b.edge) (what_or a.what b.what) where
  by_parts : AreSameOrNot a.depth b.depth → AreSameOrNot a.position b.position → AreSameOrNot a.edge b.edge → AreSameOrNot a.what b.what → AreSameOrNot a b
  by_parts (inl x) (inl y) (inl z) (inl w) =
      inl (ap (λ (n : ℕ). let k : Node = record { depth = n; position = a.position; edge = a.edge; what = a.what } in k) x
      ∙ ap (λ (p : Option Position). let k : Node = record { depth = b.depth; position = p; edge = a.edge; what = a.what } in k) y
      ∙ ap (λ (d : Option Edge). let k : Node = record { depth = b.depth; position = b.position; edge = d; what = a.what } in k) z
      ∙ ap (λ (t : What). let k : Node = record { depth = b.depth; position = b.position; edge = b.edge; what = t } in k) w)
  by_parts (inr x) y z w = inr (λ e. x (ap (λ (n : Node). n.depth) e))
  by_parts (inl x) (inr y) z w = inr (λ e. y (ap (λ (n : Node). n.position) e))
  by_parts (inl x) (inl y) (inr z) w = inr (λ e. z (ap (λ (n : Node). n.edge) e))
  by_parts (inl x) (inl y) (inl z) (inr w) = inr (λ e. w (ap (λ (n : Node). n.what) e))

-- ---- the trees that are not among others

among_or : (t : List Node) (ts : List (List Node)) → IsAmong t ts ⊎ (IsAmong t ts → ⊥)
among_or t [] = inr (λ is. is)
among_or t (s ∷ ss) = by_first (list_or node_or s t) (among_or t ss) where
  by_first : AreSameOrNot s t → IsAmong t ss ⊎ (IsAmong t ss → ⊥) → IsAmong t (s ∷ ss) ⊎ (IsAmong t (s ∷ ss) → ⊥)
  by_first (inl is) rest = inl (inl is)
  by_first (inr other) (inl rest) = inl (inr rest)
  by_first (inr other) (inr none) = inr refuted where
    refuted : IsAmong t (s ∷ ss) → ⊥
    refuted (inl is) = other is
    refuted (inr is) = none is

some_only : (ts others : List (List Node)) → (only : List (List Node)) × AreOnlyAmong ts others only
some_only [] others = ([], refl)
some_only (t ∷ ts) others = by_test (among_or t others) (some_only ts others) where
  by_test : IsAmong t others ⊎ (IsAmong t others → ⊥) → (only : List (List Node)) × AreOnlyAmong ts others only → (only : List (List Node)) × AreOnlyAmong (t ∷ ts) others only
  by_test (inl is) rest = (rest.0, inl (is, rest.1))
  by_test (inr other) rest = (t ∷ rest.0, inr (other, (rest.0, refl, rest.1)))

one_only : (ts others x y : List (List Node)) → AreOnlyAmong ts others x → AreOnlyAmong ts others y → x ≡ y
one_only [] others x y a b = a ∙ sym b
one_only (t ∷ ts) others x y (inl a) (inl b) = one_only ts others x y a.1 b.1
one_only (t ∷ ts) others x y (inl a) (inr b) = absurd (b.0 a.0)
one_only (t ∷ ts) others x y (inr a) (inl b) = absurd (a.0 b.0)
one_only (t ∷ ts) others x y (inr a) (inr b) = a.1.1 ∙ ap (λ zs. t ∷ zs) (one_only ts others a.1.0 b.1.0 a.1.2 b.1.2) ∙ sym b.1.1

only_has : (ts others only : List (List Node)) → AreOnlyAmong ts others only → (t : List Node) → IsAmong t ts → (IsAmong t others → ⊥) → IsAmong t only
only_has [] others only are t is other = absurd is
only_has (s ∷ ss) others only (inl are) t (inl is) other = absurd (other (subst (λ z. IsAmong z others) is are.0))
only_has (s ∷ ss) others only (inl are) t (inr is) other = only_has ss others only are.1 t is other
only_has (s ∷ ss) others only (inr are) t (inl is) other = subst (λ zs. IsAmong t zs) (sym are.1.1) (inl is)
only_has (s ∷ ss) others only (inr are) t (inr is) other = subst (λ zs. IsAmong t zs) (sym are.1.1) (inr (only_has ss others are.1.0 are.1.2 t is other))

only_from : (ts others only : List (List Node)) → AreOnlyAmong ts others only → (t : List Node) → IsAmong t only → IsAmong t ts
only_from [] others only are t is = absurd (subst (λ zs. IsAmong t zs) are is)
only_from (s ∷ ss) others only (inl are) t is = inr (only_from ss others only are.1 t is)
only_from (s ∷ ss) others only (inr are) t is = by_place (subst (λ zs. IsAmong t zs) are.1.1 is) (only_from ss others are.1.0 are.1.2 t) where
  by_place : (s ≡ t) ⊎ IsAmong t are.1.0 → (IsAmong t are.1.0 → IsAmong t ss) → IsAmong t (s ∷ ss)
  by_place (inl one) later = inl one
  by_place (inr rest) later = inr (later rest)

-- ---- sums over trees of distinct heads

sum_append : {X : Type 0} (f : X → ℕ) (xs ys : List X) → sum_by f (xs ++ ys) ≡ sum_by f xs + sum_by f ys
sum_append f [] ys = omega arith
sum_append f (x ∷ xs) ys =
    let a = sum_by-cons f x (xs ++ ys) in
    let b = sum_by-cons f x xs in
    let rest = sum_append f xs ys in
    omega (arith, a, b, rest)

module _ (live : List Edge) (well : AllByRecursion IsWellFormed live) where
  weight_of : VertexOf → ℕ
  weight_of v = length (tree_of live v)

  whole_tree : (v : VertexOf) (t : List Node) → (class live v ≡ Inner → ⊥) → IsTreeOf live v t → t ≡ tree_of live v
  whole_tree v t outer is =
      let s = root_stands live v outer in
      is.listed ∙ ap (tree_nodes v) (one_forest live is.forest (forest_of live v) (is.stands.edges ∙ sym s.edges) is.stands.children s.children)

  sum_of_trees : (vs : List VertexOf) (ts : List (List Node)) → AllByRecursion (λ v. class live v ≡ Inner → ⊥) vs → AreTreesOf live vs ts → node_count ts ≡ sum_by (λ v. length (tree_of live v)) vs
  sum_of_trees [] [] outer are = refl
  sum_of_trees [] (t ∷ ts) outer are = absurd are
  sum_of_trees (v ∷ vs) [] outer are = absurd are
  sum_of_trees (v ∷ vs) (t ∷ ts) outer are =
      let a = sum_by-cons length t ts in
      let b = sum_by-cons (λ u. length (tree_of live u)) v vs in
      let here : length t ≡ length (tree_of live v) = ap (λ (ns : List Node). length ns) (whole_tree v t outer.0 are.0) in
      let rest = sum_of_trees vs ts outer.1 are.1 in
      omega (arith, a, b, here, rest)

  record HaveHeads (ts : List (List Node)) : Type 0 where
    heads : List VertexOf
    outer : AllByRecursion (λ v. class live v ≡ Inner → ⊥) heads
    are : AreTreesOf live heads ts

  heads_of : (ts : List (List Node)) → ((t : List Node) → IsAmong t ts → HasHead live t) → HaveHeads ts
  heads_of [] each = record { heads = []; outer = tt; are = tt }
  heads_of (t ∷ ts) each =
      let h = each t (inl refl) in
      let rest = heads_of ts (λ s is. each s (inr is)) in
      record { heads = h.head ∷ rest.heads; outer = (h.heads, rest.outer); are = (h.is, rest.are) }

  -- the head of a tree among some is one of their heads
  head_stands : (v : VertexOf) (t : List Node) → IsTreeOf live v t → (vs : List VertexOf) (ts : List (List Node)) → AreTreesOf live vs ts → IsAmong t ts → stands_in v vs ≡ true
  head_stands v t is [] [] are among = absurd among
  head_stands v t is [] (s ∷ ss) are among = absurd are
  head_stands v t is (u ∷ us) [] are among = absurd are
  head_stands v t is (u ∷ us) (s ∷ ss) are (inl one) =
      let same = one_tree u v are.0.forest is.forest (stands_sorted live u are.0.forest well are.0.stands) (stands_sorted live v is.forest well is.stands) (sym are.0.listed ∙ one ∙ is.listed) in
      or_left (is_same_vertex u v) (stands_in v us) (ap (λ z. is_same_vertex z v) same.0 ∙ same_vertex_itself v)
  head_stands v t is (u ∷ us) (s ∷ ss) are (inr among) = or_right (is_same_vertex u v) (stands_in v us) (head_stands v t is us ss are.1 among)

  each_stands : (hs : List VertexOf) (ms : List (List Node)) → AreTreesOf live hs ms → (vs : List VertexOf) (ts : List (List Node)) → AreTreesOf live vs ts → ((m : List Node) → IsAmong m ms → IsAmong m ts)
      → (v : VertexOf) → stands_in v hs ≡ true → stands_in v vs ≡ true
  each_stands [] ms are_m vs ts are within v stands = absurd cc
  each_stands (h ∷ hs) [] are_m vs ts are within v stands = absurd are_m
  each_stands (h ∷ hs) (m ∷ ms) are_m vs ts are within v stands = by_test (is_same_vertex h v) refl stands (each_stands hs ms are_m.1 vs ts are (λ n is. within n (inr is)) v) where
    by_test : (b : Bool) → is_same_vertex h v ≡ b → (b || stands_in v hs) ≡ true → (stands_in v hs ≡ true → stands_in v vs ≡ true) → stands_in v vs ≡ true
    by_test true one s later = ap (λ z. stands_in z vs) (sym (same_vertex_exact h v one)) ∙ head_stands h m are_m.0 vs ts are (within m (inl refl))
    by_test false other s later = later s

  -- trees of distinct heads that are among some have together no more nodes than these
  pub nodes_within : (hs : List VertexOf) (ms : List (List Node)) → StandOnce hs → AllByRecursion (λ v. class live v ≡ Inner → ⊥) hs → AreTreesOf live hs ms
      → (ts : List (List Node)) → ((t : List Node) → IsAmong t ts → HasHead live t) → ((m : List Node) → IsAmong m ms → IsAmong m ts) → node_count ms ≤ node_count ts
  nodes_within hs ms once outer are ts heads within =
      let h = heads_of ts heads in
      let a = sum_of_trees hs ms outer are in
      let b = sum_of_trees h.heads ts h.outer h.are in
      let c = sum_within (λ v. length (tree_of live v)) hs h.heads once (each_stands hs ms are h.heads ts h.are within) in
      omega (arith, a, b, c)

-- ---- of an edit

pub some_touched : (before after : List (List Node)) → (touched : List (List Node)) × AreTouched before after touched
some_touched before after =
    let g = some_only before after in
    let c = some_only after before in
    (g.0 ++ c.0, record { gone = g.0; come = c.0; gone_are = g.1; come_are = c.1; all = refl })

pub one_touched : (before after x y : List (List Node)) → AreTouched before after x → AreTouched before after y → x ≡ y
one_touched before after x y a b =
    a.all ∙ ap (λ g. g ++ a.come) (one_only before after a.gone b.gone a.gone_are b.gone_are) ∙ ap (λ c. b.gone ++ c) (one_only after before a.come b.come a.come_are b.come_are) ∙ sym b.all

-- new trees of distinct heads have together no more nodes than the touched ones
pub new_within : (edits : List Edit) (a b : Grove) (of : IsGrove (graph edits) b) (touched : List (List Node)) → AreTouched (trees_in a) (trees_in b) touched
    → (hs : List VertexOf) (ms : List (List Node)) → StandOnce hs → AllByRecursion (λ v. class of.live v ≡ Inner → ⊥) hs → AreTreesOf of.live hs ms
    → ((m : List Node) → IsAmong m ms → IsAmong m (trees_in b)) → ((m : List Node) → IsAmong m ms → IsAmong m (trees_in a) → ⊥) → node_count ms ≤ node_count touched
new_within edits a b of touched are hs ms once outer trees within new =
    let well = live_well_formed edits of.live of.are_live in
    let come = nodes_within of.live well hs ms once outer trees are.come
    (λ t is. head_in_grove edits b of t (only_from (trees_in b) (trees_in a) are.come are.come_are t is))
    (λ m is. only_has (trees_in b) (trees_in a) are.come are.come_are m (within m is) (new m is)) in
    let all : node_count touched ≡ node_count (are.gone ++ are.come) = ap node_count are.all in
    let parts = sum_append length are.gone are.come in
    omega (arith, come, all, parts)

-- ---- trees of vertices that came

among_from_class : (c : Class) (live : List Edge) (vs : List VertexOf) (v : VertexOf) → IsAmong v (of_class c live vs) → stands_in v vs ≡ true
among_from_class c live [] v among = absurd among
among_from_class c live (x ∷ xs) v among = by_test (is_same_class (class live x) c) among (among_from_class c live xs v) where
  by_place : (x ≡ v) ⊎ IsAmong v (of_class c live xs) → (IsAmong v (of_class c live xs) → stands_in v xs ≡ true) → (is_same_vertex x v || stands_in v xs) ≡ true
  by_place (inl one) later = or_left (is_same_vertex x v) (stands_in v xs) (ap (λ z. is_same_vertex z v) one ∙ same_vertex_itself v)
  by_place (inr rest) later = or_right (is_same_vertex x v) (stands_in v xs) (later rest)

  by_test : (b : Bool) → IsAmong v (cond b (x ∷ of_class c live xs) (of_class c live xs)) → (IsAmong v (of_class c live xs) → stands_in v xs ≡ true) → (is_same_vertex x v || stands_in v xs) ≡ true
  by_test true among later = by_place among later
  by_test false among later = or_right (is_same_vertex x v) (stands_in v xs) (later among)

record HasOwner (live : List Edge) (vs : List VertexOf) (t : List Node) : Type 0 where
  owner : VertexOf
  among : IsAmong owner vs
  is : IsTreeOf live owner t

owner_among : (live : List Edge) (vs : List VertexOf) (ts : List (List Node)) → AreTreesOf live vs ts → (t : List Node) → IsAmong t ts → HasOwner live vs t
owner_among live [] [] are t among = absurd among
owner_among live [] (s ∷ ss) are t among = absurd are
owner_among live (v ∷ vs) [] are t among = absurd are
owner_among live (v ∷ vs) (s ∷ ss) are t (inl one) = record { owner = v; among = inl refl; is = subst (IsTreeOf live v) one are.0 }
owner_among live (v ∷ vs) (s ∷ ss) are t (inr among) = let o = owner_among live vs ss are.1 t among in record { owner = o.owner; among = inr o.among; is = o.is }

-- a tree of a vertex that was none before is a new tree
pub came : (edits : List Edit) (edit : Edit) (a b : Grove) (of_a : IsGrove (graph edits) a) (of_b : IsGrove (graph (edit ∷ edits)) b) (head : VertexOf) (t : List Node)
    → (IsVertexOf (graph edits) head → ⊥) → IsTreeOf of_b.live head t → IsAmong t (trees_in a) → ⊥
came edits edit a b of_a of_b head t outside is among = by_list (among_cases t a.none (a.multi ++ a.cycle) among) where
  owned : (c : Class) → HasOwner of_a.live (of_class c of_a.live of_a.vertices) t → ⊥
  owned c o =
      let one = one_tree head o.owner is.forest o.is.forest (stands_sorted of_b.live head is.forest (live_well_formed (edit ∷ edits) of_b.live of_b.are_live) is.stands)
      (stands_sorted of_a.live o.owner o.is.forest (live_well_formed edits of_a.live of_a.are_live) o.is.stands) (sym is.listed ∙ o.is.listed) in
      outside (subst (IsVertexOf (graph edits)) (sym one.0) (of_a.are_vertices.no_other o.owner (among_from_class c of_a.live of_a.vertices o.owner o.among)))

  by_rest : IsAmong t a.multi ⊎ IsAmong t a.cycle → ⊥
  by_rest (inl k) = owned Multi (owner_among of_a.live (of_class Multi of_a.live of_a.vertices) a.multi of_a.multi t k)
  by_rest (inr k) = owned Cycle (owner_among of_a.live (of_class Cycle of_a.live of_a.vertices) a.cycle of_a.cycle t k)

  by_list : IsAmong t a.none ⊎ IsAmong t (a.multi ++ a.cycle) → ⊥
  by_list (inl k) = owned NoParent (owner_among of_a.live (of_class NoParent of_a.live of_a.vertices) a.none of_a.none t k)
  by_list (inr k) = by_rest (among_cases t a.multi a.cycle k)
