-- A walk down from the target of an edge at a conflict makes what a short walk from the source makes, but for the record of the source,
-- which is what it was.
use Rattle.std.proofs.Common.{◌≡◌, ◌⊎◌, inl, inr, ℕ, suc, ◌<◌, ◌≤◌, Bool, true, false, cond, List, [], ◌∷◌, ◌++◌, drop, length, filter, sum_by, refl, sym, ap, subst, ◌∙◌, append_assoc, append-nil, arith}
use Rattle.std.specs.Prelude.{◌||◌, ◌&&◌, ◌==◌, not, Some, None}
use Rattle.std.specs.List.{AllByRecursion}
use Rattle.std.proofs.lemmas.Bool.{false_from_ne_true, or_left, or_right}
use Rattle.std.proofs.lemmas.List.Elements.{filter-append}
use Rattle.grove_sorts.specs.declared.position.Position.{Position}
use Rattle.grove_sorts.specs.declared.sort.Sort.{Sort}
use Rattle.grove_sorts.specs.declared.sort.Sort.TheVariants.{Top, Exp}
use Rattle.grove_sorts.specs.Ctor.{positions, sort_in, sort_at, sort_of_ctor}
use Rattle.grove_sorts.specs.Position.{position_number, is_same_position}
use Rattle.grove_sorts.proofs.Orders.{position_same, one_position, same_position_laws}
use Rattle.grove_edits.specs.declared.vertex.Vertex.{Vertex}
use Rattle.grove_edits.specs.declared.edge.Edge.{Edge}
use Rattle.grove_edits.specs.declared.edit.Edit.{Edit}
use Rattle.grove_edits.specs.Edge.{IsWellFormed}
use Rattle.grove_edits.specs.Edit.{edit_edge}
use Rattle.grove_edits.specs.Graph.{Graph, graph, is_same_edge}
use Rattle.grove_edits.specs.Vertex.{is_same_vertex, stands_in}
use Rattle.grove_edits.proofs.Orders.{same_edge_laws}
use Rattle.grove_edits.proofs.Vertices.{same_vertex_exact, same_vertex_itself}
use Rattle.grove_edits.proofs.WellFormed.{place_fits}
use Rattle.graph_words.specs.declared.class.Class.TheVariants.{Inner}
use Rattle.graph_words.specs.Live.{holds_edge, children_of, parents_of}
use Rattle.graph_words.specs.Class.{class}
use Rattle.graph_words.specs.Whole.{IsVertexOf, AreLive}
use Rattle.graph_words.proofs.Chains.{has_chain, chain_is_one}
use Rattle.grove_terms.specs.Forest.{Forest, none, multi_ref, cycle_ref, tree, child_edges, edges_from, edges_under, StandsUnder}
use Rattle.grove_terms.specs.Nodes.{count_at}
use Rattle.grove_terms.proofs.Forests.{one_forest}
use Rattle.grove_terms.proofs.InLive.{IsFromPlace, children_lead}
use Rattle.mark_step.specs.Expression.{Demanded}
use Rattle.mark_step.specs.Step.{settled}
use Rattle.marking.specs.Types.{tree_type}
use Rattle.marking.specs.Marking.{children_types}
use Rattle.kept_records.specs.Kept.{Kept, Records, AreKept, IsKeptOf, kept_of, expression_of, demanded_at, IsTreeIn, Stands}
use Rattle.kept_records.specs.Local.{kept_demand, typ_in}
use Rattle.kept_records.specs.Change.{Changes, CyclesStay, IsNear, StandOnce, AreNear, weight, near_size}
use Rattle.kept_records.specs.Renewal.{HasToBeJudged, IsLeft, MakesUnder, names, put}
use Rattle.kept_records.specs.Short.{SourceAloneSees, MakesFrom, MakesTarget, within, IsShortWalk, TypeStays}
use Rattle.kept_records.specs.Conflict.{PositionAloneSees, MakesInConflict, outer, left, judged, IsConflictWalk}
use Rattle.grove_sorts.proofs.Truths.{not_both, not_true}
use Rattle.kept_records.proofs.Sorts.{IsJudged, above_expression}
use Rattle.kept_records.proofs.Children.{sole_parent, tree_inner, tree_stands, HasTree, has_tree, held_under, IsTreeOf, under_are_of, children_are_of, all_held}
use Rattle.kept_records.proofs.Standing.{stands_under, child_stands, HasPlace, has_place}
use Rattle.kept_records.proofs.Scratch.{kept_of_any, demand_kept, top_alone, source_vertex, target_vertex, kept_there}
use Rattle.kept_records.proofs.Edits.{change_filtered, class_stays}
use Rattle.kept_records.proofs.Before.{count_at_position}
use Rattle.kept_records.proofs.Names.{has_name, name_left}
use Rattle.kept_records.proofs.Once.{EdgesOnce, under_once, longer}
use Rattle.kept_records.proofs.Starting.{judged_or}
use Rattle.kept_records.proofs.Raised.{changed}
use Rattle.kept_records.proofs.Edited.{well_old, well_new}
use Rattle.kept_records.proofs.Sizes.{weight_within}
use Rattle.kept_records.proofs.Line as line
use Rattle.kept_records.proofs.Short.{held_before, short_kept, short_near, short_once}
use Rattle.kept_records.proofs.Elsewhere.{is_elsewhere, elsewhere, edges_elsewhere, children_elsewhere, kept_alike, demand_alike, seem_alike, SeemAlike, stood_before}

-- ---- as many children stand at a position as edges lead from it

-- where a row has a position
record IsInRow (row : List (Position × Sort)) (p : Position) : Type 0 where
  index : ℕ
  sort : Sort
  behind : List (Position × Sort)
  there : drop index row ≡ (p, sort) ∷ behind

in_row : (row : List (Position × Sort)) (p : Position) (s : Sort) → sort_in row p ≡ Some s → IsInRow row p
in_row [] p s is = absurd cc
in_row (q ∷ row) p s is = by_test (position_number q.0 == position_number p) refl is (in_row row p s) where
  by_test : (b : Bool) → (position_number q.0 == position_number p) ≡ b → cond b (Some q.1) (sort_in row p) ≡ Some s → (sort_in row p ≡ Some s → IsInRow row p) → IsInRow (q ∷ row) p
  by_test true same found later = record { index = 0; sort = q.1; behind = row; there = ap (λ x. (x, q.1) ∷ row) (position_same q.0 p same) }
  by_test false other found later = let r = later found in record { index = suc r.index; sort = r.sort; behind = r.behind; there = r.there }

-- some edge leads from the position
record HasChild (live : List Edge) (v : Vertex) (p : Position) : Type 0 where
  child : Edge
  held : holds_edge child live ≡ true
  source : child.source ≡ v
  position : child.position ≡ p

has_child : (live : List Edge) (v : Vertex) (p : Position) → 1 < length (children_of v p live) → HasChild live v p
has_child live v p several = first (children_of v p live) several (children_lead live v p) where
  first : (es : List Edge) → 1 < length es → AllByRecursion (IsFromPlace live v p) es → HasChild live v p
  first [] more lead = absurd (omega (arith, more))
  first (x ∷ xs) more lead = record { child = x; held = lead.0.held; source = lead.0.source; position = one_position x.position p lead.0.position }

count_children : (live : List Edge) → AllByRecursion IsWellFormed live → (v : Vertex) (p : Position) (f : Forest) → child_edges f ≡ edges_under live v → HasChild live v p → count_at f p ≡ length (children_of v p live)
count_children live well v p f edges some =
    let wanted = place_fits some.child (all_held IsWellFormed live well some.child some.held) in
    let r = in_row (positions v.ctor) p (sort_of_ctor some.child.target.ctor)
    (ap (λ (x : Vertex). sort_at x.ctor p) (sym some.source) ∙ ap (sort_at some.child.source.ctor) (sym some.position) ∙ wanted) in
    count_at_position live v f edges r.index (p, r.sort) r.behind r.there

-- ---- what is made under a vertex

-- a tree among children is at the end of one of the edges to them
held_tree : (f : Forest) (x : Edge) (b : Forest) → IsTreeIn f x b → holds_edge x (child_edges f) ≡ true
held_tree none x b is = absurd is
held_tree (multi_ref d rest) x b is = or_right (is_same_edge d x) (holds_edge x (child_edges rest)) (held_tree rest x b is)
held_tree (cycle_ref d rest) x b is = or_right (is_same_edge d x) (holds_edge x (child_edges rest)) (held_tree rest x b is)
held_tree (tree d below rest) x b (inl is) = or_left (is_same_edge d x) (holds_edge x (child_edges rest)) (ap (λ y. is_same_edge y x) is.0 ∙ same_edge_laws.refl x)
held_tree (tree d below rest) x b (inr is) = or_right (is_same_edge d x) (holds_edge x (child_edges rest)) (held_tree rest x b is)

module _ (on : Vertex → Bool) (records : Records) (given : Position → Demanded) where
  -- where each child is left as it is, nothing
  all_left : (f : Forest) → ((x : Edge) (b : Forest) → IsTreeIn f x b → IsLeft on records x.target (given x.position)) → MakesUnder on records given f []
  all_left none is = refl
  all_left (multi_ref d rest) is = all_left rest is
  all_left (cycle_ref d rest) is = all_left rest is
  all_left (tree d below rest) is = inl (is d below (inl (refl, refl)), all_left rest (λ x b there. is x b (inr there)))

  -- where one alone is judged again, what is made below it, and its record
  one_judged : (f : Forest) (x : Edge) (b : Forest) → IsTreeIn f x b → EdgesOnce (child_edges f) → ((y : Edge) (c : Forest) → IsTreeIn f y c → (y ≡ x → ⊥) → IsLeft on records y.target (given y.position))
      → HasToBeJudged on records x.target (given x.position) → (inner : List (Vertex × Kept)) → MakesUnder on records (demanded_at (expression_of x.target b (given x.position)) b) b inner
      → MakesUnder on records given f (inner ++ (x.target, kept_of x.target b (given x.position)) ∷ [])
  one_judged none x b is once others cause inner makes = absurd is
  one_judged (multi_ref d rest) x b is once others cause inner makes = one_judged rest x b is once.1 others cause inner makes
  one_judged (cycle_ref d rest) x b is once others cause inner makes = one_judged rest x b is once.1 others cause inner makes
  one_judged (tree d below rest) x b (inl is) once others cause inner makes =
      inr (
        subst (λ (y : Edge). HasToBeJudged on records y.target (given y.position)) (sym is.0) cause,
        inner,
        [],
        ap (λ (y : Edge). inner ++ (y.target, kept_of y.target b (given y.position)) ∷ []) (sym is.0) ∙ ap (λ c. inner ++ (d.target, kept_of d.target c (given d.position)) ∷ []) (sym is.1),
        subst (λ (y : Edge). MakesUnder on records (demanded_at (expression_of y.target below (given y.position)) below) below inner) (sym is.0)
            (subst (λ c. MakesUnder on records (demanded_at (expression_of x.target c (given x.position)) c) c inner) (sym is.1) makes),
        all_left rest
            (λ y c there. others y c (inr there)
            (λ same. not_both (holds_edge d (child_edges rest)) (ap (λ z. holds_edge z (child_edges rest)) (is.0 ∙ sym same) ∙ held_tree rest y c there) once.0)),
      )
  one_judged (tree d below rest) x b (inr is) once others cause inner makes =
      inl (
        others d below (inl (refl, refl)) (λ same. not_both (holds_edge d (child_edges rest)) (ap (λ z. holds_edge z (child_edges rest)) same ∙ held_tree rest x b is) once.0),
        one_judged rest x b is once.1 (λ y c there. others y c (inr there)) cause inner makes,
      )

-- ---- small facts

filter_both : (a b : Edge → Bool) (xs : List Edge) → filter a (filter b xs) ≡ filter (λ x. a x && b x) xs
filter_both a b [] = refl
filter_both a b (x ∷ xs) = by_test (a x) (b x) refl (filter_both a b xs) where
  by_test : (s t : Bool) → a x ≡ s → filter a (filter b xs) ≡ filter (λ y. a y && b y) xs → filter a (cond t (x ∷ filter b xs) (filter b xs)) ≡ cond (s && t) (x ∷ filter (λ y. a y && b y) xs) (filter (λ y. a y && b y) xs)
  by_test true true is later = ap (λ c. cond c (x ∷ filter a (filter b xs)) (filter a (filter b xs))) is ∙ ap (λ ys. x ∷ ys) later
  by_test true false is later = later
  by_test false true is later = ap (λ c. cond c (x ∷ filter a (filter b xs)) (filter a (filter b xs))) is ∙ later
  by_test false false is later = later

one_edge_of : (a b : Edge) → a ∷ [] ≡ b ∷ [] → a ≡ b
one_edge_of a b same = cc

tree_elsewhere : (p : Position) (f : Forest) (x : Edge) (c : Forest) → IsTreeIn (elsewhere p f) x c → IsTreeIn f x c
tree_elsewhere p none x c is = is
tree_elsewhere p (multi_ref d rest) x c is = by_test (is_elsewhere p d) is (tree_elsewhere p rest x c) where
  by_test : (b : Bool) → IsTreeIn (cond b (multi_ref d (elsewhere p rest)) (elsewhere p rest)) x c → (IsTreeIn (elsewhere p rest) x c → IsTreeIn rest x c) → IsTreeIn rest x c
  by_test true is later = later is
  by_test false is later = later is
tree_elsewhere p (cycle_ref d rest) x c is = by_test (is_elsewhere p d) is (tree_elsewhere p rest x c) where
  by_test : (b : Bool) → IsTreeIn (cond b (cycle_ref d (elsewhere p rest)) (elsewhere p rest)) x c → (IsTreeIn (elsewhere p rest) x c → IsTreeIn rest x c) → IsTreeIn rest x c
  by_test true is later = later is
  by_test false is later = later is
tree_elsewhere p (tree d below rest) x c is = by_test (is_elsewhere p d) is (tree_elsewhere p rest x c) where
  by_test : (b : Bool) → IsTreeIn (cond b (tree d below (elsewhere p rest)) (elsewhere p rest)) x c → (IsTreeIn (elsewhere p rest) x c → IsTreeIn rest x c) → IsTreeIn (tree d below rest) x c
  by_test true (inl is) later = inl is
  by_test true (inr is) later = inr (later is)
  by_test false is later = inr (later is)

-- a last record that was there already changes nothing
put_same : (s : Vertex) (k : Kept) (records : Records) → records s ≡ Some k → (ms : List (Vertex × Kept)) (v : Vertex) → put (ms ++ (s, k) ∷ []) records v ≡ put ms records v
put_same s k records is [] v = by_test (is_same_vertex s v) refl where
  by_test : (b : Bool) → is_same_vertex s v ≡ b → cond b (Some k) (records v) ≡ records v
  by_test true same = sym is ∙ ap records (same_vertex_exact s v same)
  by_test false other = refl
put_same s k records is (m ∷ ms) v = ap (λ o. cond (is_same_vertex m.0 v) (Some m.1) o) (put_same s k records is ms v)

-- the first of some vertices that stand once stand once
first_once : (ms : List (Vertex × Kept)) (n : Vertex × Kept) → StandOnce (names (ms ++ n ∷ [])) → StandOnce (names ms)
first_once [] n once = tt
first_once (m ∷ ms) n once = (false_from_ne_true (has_name m.0 ms) (λ is. not_both (has_name m.0 (ms ++ n ∷ [])) (name_left m.0 ms (n ∷ []) is) once.0), first_once ms n once.1)

-- ---- the walk

module _ (edits : List Edit) (edit : Edit) (old new : List Edge) (live_old : AreLive (graph edits) old) (live_new : AreLive (graph (edit ∷ edits)) new) (stay : CyclesStay old new)
    (records : Records) (kept : AreKept (graph edits) old records) (on : Vertex → Bool) (made : List (Vertex × Kept))
    (w : IsConflictWalk (edit_edge edit) (graph edits) (graph (edit ∷ edits)) old new records on made) where
  abbrev e : Edge
  e = edit_edge edit

  abbrev s : Vertex
  s = e.source

  abbrev g : Graph
  g = graph edits

  abbrev h : Graph
  h = graph (edit ∷ edits)

  change : Changes (edit_edge edit) old new
  change = changed edits edit old new live_old live_new

  well_before : AllByRecursion IsWellFormed old
  well_before = well_old edits edit old new live_old live_new

  well_after : AllByRecursion IsWellFormed new
  well_after = well_new edits edit old new live_old live_new

  sees : SourceAloneSees (edit_edge edit) old new
  sees = by_case w.position_sees where
    by_case : PositionAloneSees (edit_edge edit) old new → SourceAloneSees (edit_edge edit) old new
    by_case (inl same) = inr (inl same)
    by_case (inr from) = inr (inr (λ d held one. (from d held one).0))

  -- ---- the source, before and after

  child_before : HasChild old s e.position
  child_before = has_child old s e.position w.several_before

  child_after : HasChild new s e.position
  child_after = has_child new s e.position w.several_after

  source_known : IsVertexOf (graph edits) s
  source_known = subst (IsVertexOf g) child_before.source (source_vertex g old live_old well_before child_before.child child_before.held)

  before : HasPlace old well_before s
  before = has_place old well_before s

  after : HasPlace new well_after s
  after = has_place new well_after s

  under_before : StandsUnder old s before.forest
  under_before = stands_under old before.above s before.forest before.demanded before.stands

  under_after : StandsUnder new s after.forest
  under_after = stands_under new after.above s after.forest after.demanded after.stands

  abbrev told : Demanded
  told = kept_demand records s

  tree_of : (x : Edge) (c : Forest) → IsTreeIn after.forest x c → IsTreeOf new s x
  tree_of x c is = children_are_of new well_after s after.forest under_after.edges x c is

  -- a child of the source is not above it
  off_line : (x : Edge) (c : Forest) → IsTreeIn after.forest x c → line.on_line e old new change stay x.target ≡ false
  off_line x c is = false_from_ne_true (line.on_line e old new change stay x.target) refuted where
    refuted : line.on_line e old new change stay x.target ≡ true → ⊥
    refuted there =
        let stands = child_stands new well_after s after.above after.forest after.demanded after.stands x c is in
        let r = line.find_on new s (line.rises e old new change stay) (has_chain new s).is x.target there in
        let chain = chain_is_one new x.target r.behind (s ∷ after.above) r.chain
        (line.chain_of new well_after (s ∷ after.above) x.target c (demanded_at (expression_of s after.forest after.demanded) after.forest x.position) stands) in
        let up = chain_is_one new s after.above (line.rises e old new change stay) (line.chain_of new well_after after.above s after.forest after.demanded after.stands) (has_chain new s).is in
        longer (s ∷ line.rises e old new change stay) r.before x.target (r.split ∙ ap (λ ws. r.before ++ x.target ∷ ws) (chain ∙ ap (λ ws. s ∷ ws) up))

  -- ---- at other positions it has the same children

  class_elsewhere : (x : Edge) → IsTreeOf new s x → is_same_position x.position e.position ≡ false → class old x.target ≡ class new x.target
  class_elsewhere x of other = by_test (is_same_vertex e.target x.target) refl where
    by_sees : e.target ≡ x.target → PositionAloneSees (edit_edge edit) old new → class old x.target ≡ class new x.target
    by_sees one (inl same) = ap (class old) (sym one) ∙ same.0 ∙ ap (class new) one
    by_sees one (inr from) =
        absurd (not_both (is_same_position x.position e.position)
        (ap (λ q. is_same_position q e.position) (from x (inr of.held) (sym one)).1 ∙ same_position_laws.refl e.position) other)

    by_test : (b : Bool) → is_same_vertex e.target x.target ≡ b → class old x.target ≡ class new x.target
    by_test true same = by_sees (same_vertex_exact e.target x.target same) w.position_sees
    by_test false differs = class_stays e old new change x.target differs (stay x.target)

  abbrev there : Edge → Bool
  there = is_elsewhere e.position

  children_elsewhere_stay : (q : Position) → filter there (children_of s q old) ≡ filter there (children_of s q new)
  children_elsewhere_stay q =
      filter_both there (λ x. is_same_vertex x.source s && is_same_position x.position q) old
      ∙ change_filtered (λ x. there x && (is_same_vertex x.source s && is_same_position x.position q)) e old new change
      (ap (λ b. not b && (is_same_vertex e.source s && is_same_position e.position q)) (same_position_laws.refl e.position))
      ∙ sym (filter_both there (λ x. is_same_vertex x.source s && is_same_position x.position q) new)

  edges_elsewhere_stay : (row : List (Position × Sort)) → filter there (edges_from old s row) ≡ filter there (edges_from new s row)
  edges_elsewhere_stay [] = refl
  edges_elsewhere_stay (q ∷ row) =
      filter-append there (children_of s q.0 old) (edges_from old s row)
      ∙ ap (λ es. es ++ filter there (edges_from old s row)) (children_elsewhere_stay q.0)
      ∙ ap (λ es. filter there (children_of s q.0 new) ++ es) (edges_elsewhere_stay row)
      ∙ sym (filter-append there (children_of s q.0 new) (edges_from new s row))

  classes_stay : (es : List Edge) → AllByRecursion (IsTreeOf new s) es → AllByRecursion (λ x. class old x.target ≡ class new x.target) (filter there es)
  classes_stay [] of = tt
  classes_stay (x ∷ xs) of = by_test (there x) refl (classes_stay xs of.1) where
    by_test : (b : Bool) → there x ≡ b → AllByRecursion (λ y. class old y.target ≡ class new y.target) (filter there xs)
        → AllByRecursion (λ y. class old y.target ≡ class new y.target) (cond b (x ∷ filter there xs) (filter there xs))
    by_test true is later = (class_elsewhere x of.0 (not_true (is_same_position x.position e.position) is), later)
    by_test false is later = later

  same_elsewhere : elsewhere e.position before.forest ≡ elsewhere e.position after.forest
  same_elsewhere =
      one_forest old (elsewhere e.position before.forest) (elsewhere e.position after.forest)
      (edges_elsewhere e.position before.forest ∙ ap (filter there) under_before.edges ∙ edges_elsewhere_stay (positions s.ctor) ∙ sym after_edges)
      (children_elsewhere e.position old before.forest under_before.children)
      (stood_before old new (elsewhere e.position after.forest) (children_elsewhere e.position new after.forest under_after.children)
      (subst (AllByRecursion (λ x. class old x.target ≡ class new x.target)) (sym after_edges) (classes_stay (edges_under new s) (under_are_of new well_after s)))
      (λ x c is.
      let is_there = tree_elsewhere e.position after.forest x c is in
      line.stood_under e old new change stay sees x.target c (off_line x c is_there) (tree_stands new after.forest under_after.children x c is_there)))
    where
      after_edges : child_edges (elsewhere e.position after.forest) ≡ filter there (edges_under new s)
      after_edges = edges_elsewhere e.position after.forest ∙ ap (filter there) under_after.edges

  alike : SeemAlike before.forest after.forest
  alike =
      let many = count_children old well_before s e.position before.forest under_before.edges child_before in
      let more = count_children new well_after s e.position after.forest under_after.edges child_after in
      seem_alike e.position before.forest after.forest same_elsewhere (omega (arith, many, w.several_before)) (omega (arith, more, w.several_after))

  -- ---- so its record stays, and so do those of the children that are not the target

  source_there : records s ≡ Some (kept_of s before.forest before.demanded)
  source_there = kept_there g old live_old well_before records kept before.above s before.forest before.demanded before.stands source_known

  told_is : IsJudged s.ctor → told ≡ before.demanded
  told_is judges =
      demand_kept (sort_of_ctor s.ctor) before.demanded (settled (expression_of s before.forest before.demanded) (children_types (expression_of s before.forest before.demanded) before.forest))
      (tree_type s.ctor before.forest) records s source_there judges (top_alone old well_before before.above s before.forest before.demanded before.stands)

  record_stays : records s ≡ Some (kept_of s after.forest told)
  record_stays = source_there ∙ ap Some (kept_of_any s before.forest before.demanded told (λ sort. sym (told_is (inl sort))) ∙ kept_alike s before.forest after.forest alike told)

  abbrev given : Position → Demanded
  given = demanded_at (expression_of s after.forest told) after.forest

  module _ (y : Edge) (c : Forest) (is : IsTreeIn after.forest y c) (differs : y.target ≡ e.target → ⊥) where
    held_old : holds_edge y old ≡ true
    held_old = held_before edits edit old new live_old live_new y (tree_of y c is).held (λ same. differs (ap (λ (x : Edge). x.target) same))

    inner_old : class old y.target ≡ Inner
    inner_old =
        class_stays e old new change y.target (false_from_ne_true (is_same_vertex e.target y.target) (λ same. differs (sym (same_vertex_exact e.target y.target same)))) (stay y.target)
        ∙ tree_inner new after.forest under_after.children y c is

    was_tree : HasTree before.forest y
    was_tree =
        has_tree old before.forest under_before.children y
        (ap (holds_edge y) under_before.edges ∙ ap (λ v. holds_edge y (edges_under old v)) (sym (tree_of y c is).source) ∙ held_under old y held_old (all_held IsWellFormed old well_before y held_old))
        inner_old

    child_known : IsVertexOf (graph edits) y.target
    child_known = target_vertex g old live_old well_before y held_old

    not_anew : on y.target ≡ false
    not_anew = false_from_ne_true (on y.target) (λ anew. by_why (w.anew.no_other y.target anew)) where
      itself : (is_same_vertex s y.target || false) ≡ true → ⊥
      itself stands = by_test (is_same_vertex s y.target) refl stands where
        by_test : (b : Bool) → is_same_vertex s y.target ≡ b → (b || false) ≡ true → ⊥
        by_test true same h =
            not_both (line.on_line e old new change stay y.target) (ap (line.on_line e old new change stay) (sym (same_vertex_exact s y.target same)) ∙ line.source_on_line e old new change stay) (off_line y c is)
        by_test false other h = absurd cc

      by_why : (stands_in y.target (s ∷ []) ≡ true) ⊎ (IsVertexOf (graph (edit ∷ edits)) y.target × (IsVertexOf (graph edits) y.target → ⊥)) → ⊥
      by_why (inl stands) = itself stands
      by_why (inr came) = came.1 child_known

    same_demand : sort_of_ctor y.target.ctor ≡ Exp → kept_demand records y.target ≡ given y.position
    same_demand sort =
        demand_kept (sort_of_ctor y.target.ctor) d (settled (expression_of y.target was_tree.below d) (children_types (expression_of y.target was_tree.below d) was_tree.below))
        (tree_type y.target.ctor was_tree.below) records y.target
        (kept_there g old live_old well_before records kept (s ∷ before.above) y.target was_tree.below d
        (child_stands old well_before s before.above before.forest before.demanded before.stands y was_tree.below was_tree.is) child_known)
        (inl sort) (λ top. let x : Exp ≡ Top = sym sort ∙ top in cc)
        ∙ ap (λ x. demanded_at (expression_of s before.forest x) before.forest y.position) (sym (told_is (above_expression s.ctor y.position ((tree_of y c is).sorted ∙ ap Some sort))))
        ∙ demand_alike s before.forest after.forest alike told y.position
      where
        d : Demanded
        d = demanded_at (expression_of s before.forest before.demanded) before.forest y.position

    other_left : IsLeft on records y.target (given y.position)
    other_left = (not_anew, same_demand)

  -- ---- the short walk from the source

  abbrev own_record : Vertex × Kept
  own_record = (s, kept_of s after.forest told)

  record HasShortWalk : Type 0 where
    walk : IsShortWalk (edit_edge edit) (graph edits) (graph (edit ∷ edits)) old new records [] s on (made ++ own_record ∷ [])
    type_stays : TypeStays new records s walk.makes_own.forest

  build : (target inner : List (Vertex × Kept)) → MakesTarget (edit_edge edit) new records [] on target → MakesUnder on records given after.forest inner → made ≡ target ++ inner → HasShortWalk
  build target inner makes_target under are = record {
    walk = record {
      alone_sees = sees;
      leads = refl;
      anew = w.anew;
      target = target;
      makes_target = makes_target;
      own = inner ++ own_record ∷ [];
      makes_own = record { forest = after.forest; stands = under_after; inner = inner; made_are = refl; under = under };
      all = ap (λ ms. ms ++ own_record ∷ []) are ∙ append_assoc target inner (own_record ∷ []);
    };
    type_stays = λ _. sym (ap typ_in record_stays);
  }

  -- the target, where it stands in the tree of the source, stands at the position
  position_of : class new e.target ≡ Inner → (x : Edge) → holds_edge x new ≡ true → x.target ≡ e.target → (x.source ≡ s) × (x.position ≡ e.position)
  position_of inner x held one = by_sees w.position_sees where
    by_sees : PositionAloneSees (edit_edge edit) old new → (x.source ≡ s) × (x.position ≡ e.position)
    by_sees (inl same) = absurd (same.1 inner)
    by_sees (inr from) = from x (inr held) one

  record HasTarget : Type 0 where
    edge : Edge
    below : Forest
    is_tree : IsTreeIn after.forest edge below
    target : edge.target ≡ e.target
    position : edge.position ≡ e.position

  has_target : class new e.target ≡ Inner → HasTarget
  has_target inner = by_place (has_place new well_after e.target).above (has_place new well_after e.target).stands where
    by_place : (us : List Vertex) → Stands new us e.target (has_place new well_after e.target).forest (has_place new well_after e.target).demanded → HasTarget
    by_place [] at = absurd (at.0 inner)
    by_place (u ∷ us) at =
        let under = stands_under new us u at.0 at.1 at.2 in
        let of : IsTreeOf new u at.3.edge = children_are_of new well_after u at.0 under.edges at.3.edge (has_place new well_after e.target).forest at.3.is_tree in
        let from = position_of inner at.3.edge of.held at.3.target in
        let t = has_tree new after.forest under_after.children at.3.edge
        (ap (holds_edge at.3.edge) under_after.edges ∙ ap (λ v. holds_edge at.3.edge (edges_under new v)) (sym from.0)
        ∙ held_under new at.3.edge of.held (all_held IsWellFormed new well_after at.3.edge of.held)) (ap (class new) at.3.target ∙ inner) in
        record { edge = at.3.edge; below = t.below; is_tree = t.is; target = at.3.target; position = from.1 }

  -- what has to be judged again is what is not left
  judged_unless_left : (v : Vertex) (d : Demanded) → (IsLeft on records v d → ⊥) → HasToBeJudged on records v d
  judged_unless_left v d not_left = cause (on v) refl (judged_or v.ctor) where
    cause : (b : Bool) → on v ≡ b → IsJudged v.ctor ⊎ (IsJudged v.ctor → ⊥) → HasToBeJudged on records v d
    cause true is sorted = inl is
    cause false is (inr plain) = absurd (not_left (is, λ sort. absurd (plain (inl sort))))
    cause false is (inl (inl sort)) = inr (sort, λ same. not_left (is, λ _. same))
    cause false is (inl (inr top)) = absurd (not_left (is, λ sort. let x : Top ≡ Exp = sym top ∙ sort in cc))

  from_target : class new e.target ≡ Inner → (IsLeft on records e.target (given e.position) → ⊥) → MakesFrom on new records e.target (given e.position) made → HasTarget → MakesUnder on records given after.forest made
  from_target inner not_left makes t =
      subst (MakesUnder on records given after.forest) (sym (m.made_are ∙ ap (λ c. m.inner ++ (t.edge.target, kept_of t.edge.target c (given t.edge.position)) ∷ []) one))
      (one_judged on records given after.forest t.edge t.below t.is_tree
      (subst EdgesOnce (sym under_after.edges) (under_once new live_new.in_order well_after s))
      others (judged_unless_left t.edge.target (given t.edge.position) still_not)
      m.inner (subst (λ c. MakesUnder on records (demanded_at (expression_of t.edge.target c (given t.edge.position)) c) c m.inner) one m.under))
    where
      m : MakesFrom on new records t.edge.target (given t.edge.position) made
      m =
          subst (λ q. MakesFrom on new records t.edge.target (given q) made) (sym t.position)
          (subst (λ v. MakesFrom on new records v (given e.position) made) (sym t.target) makes)

      still_not : IsLeft on records t.edge.target (given t.edge.position) → ⊥
      still_not left_there = not_left (subst (λ v. IsLeft on records v (given e.position)) t.target (subst (λ q. IsLeft on records t.edge.target (given q)) t.position left_there))

      stands : StandsUnder new t.edge.target t.below
      stands = tree_stands new after.forest under_after.children t.edge t.below t.is_tree

      one : m.forest ≡ t.below
      one = one_forest new m.forest t.below (m.stands.edges ∙ sym stands.edges) m.stands.children stands.children

      others : (y : Edge) (c : Forest) → IsTreeIn after.forest y c → (y ≡ t.edge → ⊥) → IsLeft on records y.target (given y.position)
      others y c is differs = other_left y c is (λ same. differs (one_edge_of y t.edge
          (sym (sole_parent new y (tree_of y c is).held (tree_inner new after.forest under_after.children y c is))
          ∙ ap (λ v. parents_of v new) (same ∙ sym t.target)
          ∙ sole_parent new t.edge (tree_of t.edge t.below t.is_tree).held (ap (class new) t.target ∙ inner))))

  same_forest : w.forest ≡ after.forest
  same_forest = one_forest new w.forest after.forest (w.stands.edges ∙ sym under_after.edges) w.stands.children under_after.children

  short : HasShortWalk
  short = by_case (subst (λ f. MakesInConflict (edit_edge edit) new records on (demanded_at (expression_of s f told) f e.position) made) same_forest w.makes) where
    each_left : class new e.target ≡ Inner → IsLeft on records e.target (given e.position) → (x : Edge) (c : Forest) → IsTreeIn after.forest x c → IsLeft on records x.target (given x.position)
    each_left inner is_left x c is = by_test (is_same_vertex e.target x.target) refl where
      by_test : (b : Bool) → is_same_vertex e.target x.target ≡ b → IsLeft on records x.target (given x.position)
      by_test true same =
          let one = same_vertex_exact e.target x.target same in
          subst (λ q. IsLeft on records x.target (given q)) (sym (position_of inner x (tree_of x c is).held (sym one)).1)
          (subst (λ v. IsLeft on records v (given e.position)) one is_left)
      by_test false other = other_left x c is (λ one. not_both (is_same_vertex e.target x.target) (ap (is_same_vertex e.target) one ∙ same_vertex_itself e.target) other)

    by_case : MakesInConflict (edit_edge edit) new records on (given e.position) made → HasShortWalk
    by_case (outer heads makes) =
        build made [] makes
        (all_left on records given after.forest
        (λ x c is. other_left x c is (λ one. heads (ap (class new) (sym one) ∙ tree_inner new after.forest under_after.children x c is))))
        (sym (append-nil made))
    by_case (left inner is_left nothing) = build [] [] (within inner refl) (all_left on records given after.forest (each_left inner is_left)) nothing
    by_case (judged inner not_left makes) = build [] made (within inner refl) (from_target inner not_left makes (has_target inner)) refl

  -- ---- what it makes

  pub conflict_kept : AreKept (graph (edit ∷ edits)) new (put made records)
  conflict_kept = record { each = each; no_other = no_other } where
    with_own : AreKept (graph (edit ∷ edits)) new (put (made ++ own_record ∷ []) records)
    with_own = short_kept edits edit old new live_old live_new stay records kept [] s on (made ++ own_record ∷ []) short.walk short.type_stays

    each : (v : Vertex) → IsVertexOf (graph (edit ∷ edits)) v → (k : Kept) × (put made records v ≡ Some k) × IsKeptOf new v k
    each v is = let k = with_own.each v is in (k.0, sym (put_same s (kept_of s after.forest told) records record_stays made v) ∙ k.1, k.2)

    no_other : (v : Vertex) → (IsVertexOf (graph (edit ∷ edits)) v → ⊥) → put made records v ≡ None
    no_other v outside = sym (put_same s (kept_of s after.forest told) records record_stays made v) ∙ with_own.no_other v outside

  pub conflict_near : (v : Vertex) → stands_in v (names made) ≡ true → IsNear (edit_edge edit) old new v
  conflict_near v named = short_near edits edit old new live_old live_new stay records kept [] s on (made ++ own_record ∷ []) short.walk v (name_left v made (own_record ∷ []) named)

  pub conflict_once : StandOnce (names made)
  conflict_once = first_once made own_record (short_once edits edit old new live_old live_new stay records kept [] s on (made ++ own_record ∷ []) short.walk)

  pub conflict_within : (near : List Vertex) → AreNear (edit_edge edit) old new near → sum_by (weight old new) (names made) ≤ near_size old new near
  conflict_within near are = weight_within (edit_edge edit) old new near are (names made) conflict_once conflict_near
