-- A tree that an edit changes is in the one grove alone.
use Rattle.std.proofs.Common.{◌≡◌, ◌⊎◌, inl, inr, suc, Bool, true, false, cond, List, [], ◌∷◌, ◌++◌, length, filter, refl, sym, ap, subst, ◌∙◌}
use Rattle.std.specs.Prelude.{Option, Some, None}
use Rattle.std.specs.List.{AllByRecursion}
use Rattle.std.proofs.lemmas.Bool.{or_right}
use Rattle.grove_edits.specs.declared.vertex.Vertex.{Vertex}
use Rattle.grove_edits.specs.declared.edge.Edge.{Edge}
use Rattle.grove_edits.specs.declared.edit.Edit.{Edit}
use Rattle.grove_edits.specs.Edge.{IsWellFormed}
use Rattle.grove_edits.specs.Edit.{edit_edge}
use Rattle.grove_edits.specs.Graph.{graph, is_same_edge}
use Rattle.graph_words.specs.declared.class.Class.{Class}
use Rattle.graph_words.specs.declared.class.Class.TheVariants.{NoParent, Multi, Cycle, Inner}
use Rattle.graph_words.specs.Live.{IsInEdgeOrder, holds_edge, parents_of}
use Rattle.grove_edits.specs.Vertex.{is_same_vertex}
use Rattle.graph_words.specs.Walk.{only_source, above}
use Rattle.graph_words.specs.Class.{class, class_by, is_cycle_root, is_same_class, of_class}
use Rattle.graph_words.proofs.Up.{up, next_above, up-shift}
use Rattle.graph_words.proofs.Cycles.{no_root_below_none, one_root, class_is_cycle}
use Rattle.grove_terms.specs.declared.node.Node.{Node}
use Rattle.grove_terms.specs.declared.grove.Grove.{Grove}
use Rattle.grove_terms.specs.Forest.{Forest, none, multi_ref, cycle_ref, tree, child_edges, edges_under, AreChildren, StandsUnder}
use Rattle.grove_terms.specs.Grove.{IsTreeOf, AreTreesOf, IsGrove}
use Rattle.grove_terms.proofs.Forests.{one_forest}
use Rattle.grove_terms.proofs.InLive.{IsFrom, under_lead}
use Rattle.grove_terms.proofs.OneGrove.{all_of_class}
use Rattle.grove_terms.proofs.OneList.{one_tree}
use Rattle.grove_terms.proofs.WellSorted.{stands_sorted, live_well_formed, held_first}
use Rattle.mark_step.specs.Expression.{Demanded}
use Rattle.kept_records.specs.Kept.{alone, expression_of, demanded_at, Stands}
use Rattle.kept_records.specs.Change.{HasOneMore, Changes, same, comes, goes, IsAmong, trees_in, top_of, StandsIn, IsConcerned, is_target, is_root, holds_source, holds_parent, refers_to_root, HasOtherTree, inner_there, source_within, target_differs}
use Rattle.kept_records.proofs.Children.{all_held, held_in_filter, parents_lead, held_under}
use Rattle.kept_records.proofs.Standing.{stands_under, above_child, child_stands, HasPlace, has_place}
use Rattle.kept_records.proofs.Edits.{change_back}
use Rattle.kept_records.proofs.Raised.{gone_without, changed}

-- ---- an edge that came or went is live in one of both graphs

held_between : (e : Edge) (before behind : List Edge) → holds_edge e (before ++ e ∷ behind) ≡ true
held_between e [] behind = held_first e behind
held_between e (x ∷ xs) behind = or_right (is_same_edge x e) (holds_edge e (xs ++ e ∷ behind)) (held_between e xs behind)

-- an edge that is live in the one graph under its source exactly where it is in the other is not the one more of them
not_more : (e : Edge) (less more : List Edge) → IsInEdgeOrder more → HasOneMore e less more → (holds_edge e more ≡ true → holds_edge e less ≡ true) → ⊥
not_more e less more order has back =
    let held : holds_edge e more ≡ true = ap (holds_edge e) has.with_it ∙ held_between e has.before has.behind in
    gone_without e has.before has.behind (subst IsInEdgeOrder has.with_it order) (ap (holds_edge e) (sym has.without) ∙ back held)

one_class : (old new : List Edge) (g : Forest) → AreChildren old g → AreChildren new g → AllByRecursion (λ d. class old d.target ≡ class new d.target) (child_edges g)
one_class old new none a b = tt
one_class old new (multi_ref d rest) a b = (a.0 ∙ sym b.0, one_class old new rest a.1 b.1)
one_class old new (cycle_ref d rest) a b = (a.0 ∙ sym b.0, one_class old new rest a.1 b.1)
one_class old new (tree d below rest) a b = (a.0 ∙ sym b.0, one_class old new rest a.3 b.3)

module _ (e : Edge) (live there : List Edge) (change : Changes e live there) (order_live : IsInEdgeOrder live) (order_there : IsInEdgeOrder there)
    (well_live : AllByRecursion IsWellFormed live) (well_there : AllByRecursion IsWellFormed there)
    (head : Vertex) (nodes : List Node) (here : IsTreeOf live head nodes) (other : Vertex) (outer : class there other ≡ Inner → ⊥) (too : IsTreeOf there other nodes) where
  one : (head ≡ other) × (here.forest ≡ too.forest)
  one =
      one_tree head other here.forest too.forest (stands_sorted live head here.forest well_live here.stands) (stands_sorted there other too.forest well_there too.stands)
      (sym here.listed ∙ too.listed)

  stands_there : StandsUnder there head here.forest
  stands_there = subst (StandsUnder there head) (sym one.1) (subst (λ v. StandsUnder there v too.forest) (sym one.0) too.stands)

  record StandsToo (us : List Vertex) (v : Vertex) (g : Forest) : Type 0 where
    given : Demanded
    stands : Stands there us v g given

  -- each vertex in the tree stands in the other graph with the same under it
  along : (us : List Vertex) (v : Vertex) (g : Forest) (d : Demanded) → Stands live us v g d → top_of v us ≡ head → StandsToo us v g
  along [] v g d s top =
      let root : StandsUnder live v here.forest = subst (λ w. StandsUnder live w here.forest) (sym top) here.stands in
      let same : here.forest ≡ g = one_forest live here.forest g (root.edges ∙ sym s.1.edges) root.children s.1.children in
      record {
        given = alone;
        stands = (λ inner. outer (ap (class there) (sym one.0 ∙ sym top) ∙ inner), subst (StandsUnder there v) same (subst (λ w. StandsUnder there w here.forest) (sym top) stands_there), refl);
      }
  along (u ∷ us) v g d s top =
      let up = along us u s.0 s.1 s.2 top in
      record {
        given = demanded_at (expression_of u s.0 up.given) s.0 s.3.edge.position;
        stands = subst (λ w. Stands there (u ∷ us) w g (demanded_at (expression_of u s.0 up.given) s.0 s.3.edge.position)) s.3.target
            (child_stands there well_there u us s.0 up.given up.stands s.3.edge g s.3.is_tree);
      }

  -- what stands under a vertex of the tree stands under it in both graphs
  both : (v : Vertex) → StandsIn live head v → (g : Forest) × StandsUnder live v g × StandsUnder there v g
  both v inside =
      let too = along inside.above v inside.forest inside.demanded inside.stands inside.top in
      (inside.forest, stands_under live inside.above v inside.forest inside.demanded inside.stands, stands_under there inside.above v inside.forest too.given too.stands)

  no_source : (live ≡ there → ⊥) → StandsIn live head e.source → ⊥
  no_source differ inside = by_change change where
    b : (g : Forest) × StandsUnder live e.source g × StandsUnder there e.source g
    b = both e.source inside

    under_same : edges_under live e.source ≡ edges_under there e.source
    under_same = sym b.1.edges ∙ b.2.edges

    to_there : holds_edge e live ≡ true → holds_edge e there ≡ true
    to_there held =
        let under = ap (holds_edge e) (sym under_same) ∙ held_under live e held (all_held IsWellFormed live well_live e held) in
        let from : IsFrom there e.source e = all_held (IsFrom there e.source) (edges_under there e.source) (under_lead there e.source) e under in
        from.held

    to_live : holds_edge e there ≡ true → holds_edge e live ≡ true
    to_live held =
        let under = ap (holds_edge e) under_same ∙ held_under there e held (all_held IsWellFormed there well_there e held) in
        let from : IsFrom live e.source e = all_held (IsFrom live e.source) (edges_under live e.source) (under_lead live e.source) e under in
        from.held

    by_change : Changes e live there → ⊥
    by_change (same is) = differ is
    by_change (comes has) = not_more e live there order_there has to_live
    by_change (goes has) = not_more e there live order_live has to_there

  no_edge_to : (d : Edge) → holds_edge d live ≡ true → (class live d.target ≡ class there d.target → ⊥) → StandsIn live head d.source → ⊥
  no_edge_to d held differ inside =
      let b = both d.source inside in
      let classes = one_class live there b.0 b.1.children b.2.children in
      differ (all_held (λ x. class live x.target ≡ class there x.target) (child_edges b.0) classes d
      (ap (holds_edge d) b.1.edges ∙ held_under live d held (all_held IsWellFormed live well_live d held)))

  pub not_there : HasOtherTree e live there head → ⊥
  not_there (inner_there inner) = outer (ap (class there) (sym one.0) ∙ inner)
  not_there (source_within differ inside) = no_source differ inside
  not_there (target_differs d held differ inside) = no_edge_to d held differ inside

-- ---- heads that an edit concerns

module _ (live : List Edge) (well : AllByRecursion IsWellFormed live) where
  stands_up : (us : List Vertex) (v : Vertex) (f : Forest) (d : Demanded) → Stands live us v f d → up live (length us) (Some v) ≡ Some (top_of v us)
  stands_up [] v f d s = refl
  stands_up (u ∷ us) v f d s =
      sym (up-shift live (Some v) (length us)) ∙ ap (up live (length us)) (above_child live well u us v f d s) ∙ stands_up us u s.0 s.1 s.2

  top_heads : (us : List Vertex) (v : Vertex) (f : Forest) (d : Demanded) → Stands live us v f d → class live (top_of v us) ≡ Inner → ⊥
  top_heads [] v f d s = s.0
  top_heads (u ∷ us) v f d s = top_heads us u s.0 s.1 s.2

  only_by : (ps : List Edge) (b : Bool) → class_by ps b ≡ Cycle → (d : Edge) × (ps ≡ d ∷ [])
  only_by [] b is = absurd cc
  only_by (p ∷ []) b is = (p, refl)
  only_by (p ∷ q ∷ ps) b is = absurd cc

  pub root_by : (ps : List Edge) (b : Bool) (x : Vertex) → only_source ps ≡ Some x → (class_by ps b ≡ Inner → ⊥) → b ≡ true
  root_by [] b x is outer = absurd cc
  root_by (p ∷ []) true x is outer = refl
  root_by (p ∷ []) false x is outer = absurd (outer refl)
  root_by (p ∷ q ∷ ps) b x is outer = absurd cc

  pub record HasOwnEdge (t : Vertex) : Type 0 where
    pub edge : Edge
    pub held : holds_edge edge live ≡ true
    pub target : edge.target ≡ t
    pub inside : StandsIn live t edge.source

  -- the parent of the root of a cycle stands in the tree of the root
  pub own_edge : (t : Vertex) → class live t ≡ Cycle → HasOwnEdge t
  own_edge t is = record { edge = d; held = held; target = target; inside = record { above = p.above; forest = p.forest; demanded = p.demanded; stands = p.stands; top = sym same } } where
    sole : (x : Edge) × (parents_of t live ≡ x ∷ [])
    sole = only_by (parents_of t live) (is_cycle_root live t) is

    d : Edge
    d = sole.0

    among : holds_edge sole.0 (parents_of t live) ≡ true
    among = ap (holds_edge sole.0) sole.1 ∙ held_first sole.0 []

    held : holds_edge sole.0 live ≡ true
    held = held_in_filter (λ x. is_same_vertex x.target t) sole.0 live among

    target : sole.0.target ≡ t
    target = all_held (λ x. x.target ≡ t) (parents_of t live) (parents_lead t live) sole.0 among

    p : HasPlace live well sole.0.source
    p = has_place live well sole.0.source

    up_one : above live t ≡ Some sole.0.source
    up_one = ap only_source sole.1

    r : Vertex
    r = top_of sole.0.source p.above

    leads : up live (suc (length p.above)) (Some t) ≡ Some (top_of sole.0.source p.above)
    leads = sym (up-shift live (Some t) (length p.above)) ∙ ap (up live (length p.above)) up_one ∙ stands_up p.above sole.0.source p.forest p.demanded p.stands

    root : is_cycle_root live t ≡ true
    root = sym (class_is_cycle live t) ∙ ap (λ c. is_same_class c Cycle) is

    by_next : (o : Option Vertex) → above live (top_of sole.0.source p.above) ≡ o → t ≡ top_of sole.0.source p.above
    by_next None ends = absurd (no_root_below_none live t t (suc (suc (length p.above))) root (0, refl) (ap (next_above live) leads ∙ ends))
    by_next (Some x) goes_on =
        one_root live t t (top_of sole.0.source p.above) root
        (root_by (parents_of (top_of sole.0.source p.above) live) (is_cycle_root live (top_of sole.0.source p.above)) x goes_on (top_heads p.above sole.0.source p.forest p.demanded p.stands)) (0, refl) (suc (length p.above), leads)

    same : t ≡ top_of sole.0.source p.above
    same = by_next (above live (top_of sole.0.source p.above)) refl

-- ---- no vertex goes from no parent to several by one edit

filter_append : (p : Edge → Bool) (xs ys : List Edge) → filter p (xs ++ ys) ≡ filter p xs ++ filter p ys
filter_append p [] ys = refl
filter_append p (x ∷ xs) ys = by_test (p x) (filter_append p xs ys) where
  by_test : (b : Bool) → filter p (xs ++ ys) ≡ filter p xs ++ filter p ys → cond b (x ∷ filter p (xs ++ ys)) (filter p (xs ++ ys)) ≡ cond b (x ∷ filter p xs) (filter p xs) ++ filter p ys
  by_test true rest = ap (λ zs. x ∷ zs) rest
  by_test false rest = rest

none_then_few : (xs ys : List Edge) (b : Bool) (e : Edge) → xs ++ ys ≡ [] → (p q : Edge) (ps : List Edge) → xs ++ cond b (e ∷ ys) ys ≡ p ∷ q ∷ ps → ⊥
none_then_few [] [] true e nothing p q ps are = cc
none_then_few [] [] false e nothing p q ps are = cc
none_then_few [] (y ∷ ys) b e nothing p q ps are = cc
none_then_few (x ∷ xs) ys b e nothing p q ps are = cc

not_several : (e : Edge) (less more : List Edge) → HasOneMore e less more → (t : Edge → Bool) → filter t less ≡ [] → (p q : Edge) (ps : List Edge) → filter t more ≡ p ∷ q ∷ ps → ⊥
not_several e less more has t nothing p q ps are =
    none_then_few (filter t has.before) (filter t has.behind) (t e) e (sym (filter_append t has.before has.behind) ∙ ap (filter t) (sym has.without) ∙ nothing) p q ps
    (sym (filter_append t has.before (e ∷ has.behind)) ∙ ap (filter t) (sym has.with_it) ∙ are)

more_not_none : (e : Edge) (less more : List Edge) → HasOneMore e less more → (t : Edge → Bool) → (p q : Edge) (ps : List Edge) → filter t less ≡ p ∷ q ∷ ps → filter t more ≡ [] → ⊥
more_not_none e less more has t p q ps are nothing =
    some_then_none (filter t has.before) (filter t has.behind) (t e) e p (q ∷ ps) (sym (filter_append t has.before has.behind) ∙ ap (filter t) (sym has.without) ∙ are)
    (sym (filter_append t has.before (e ∷ has.behind)) ∙ ap (filter t) (sym has.with_it) ∙ nothing) where
      some_then_none : (xs ys : List Edge) (b : Bool) (e : Edge) (p : Edge) (ps : List Edge) → xs ++ ys ≡ p ∷ ps → xs ++ cond b (e ∷ ys) ys ≡ [] → ⊥
      some_then_none [] [] b e p ps are none_there = cc
      some_then_none [] (y ∷ ys) true e p ps are none_there = cc
      some_then_none [] (y ∷ ys) false e p ps are none_there = cc
      some_then_none (x ∷ xs) ys b e p ps are none_there = cc

several_by : (ps : List Edge) (b : Bool) → class_by ps b ≡ Multi → (p : Edge) × (q : Edge) × (rest : List Edge) × (ps ≡ p ∷ q ∷ rest)
several_by [] b is = absurd cc
several_by (p ∷ []) true is = absurd cc
several_by (p ∷ []) false is = absurd cc
several_by (p ∷ q ∷ ps) b is = (p, q, ps, refl)

none_by : (ps : List Edge) (b : Bool) → class_by ps b ≡ NoParent → ps ≡ []
none_by [] b is = refl
none_by (p ∷ []) true is = absurd cc
none_by (p ∷ []) false is = absurd cc
none_by (p ∷ q ∷ ps) b is = absurd cc

none_or_several : (e : Edge) (live there : List Edge) → Changes e live there → (v : Vertex) → class live v ≡ NoParent → class there v ≡ Multi → ⊥
none_or_several e live there change v is_none is_multi = by_change change where
  s : (p : Edge) × (q : Edge) × (rest : List Edge) × (parents_of v there ≡ p ∷ q ∷ rest)
  s = several_by (parents_of v there) (is_cycle_root there v) is_multi

  nothing : parents_of v live ≡ []
  nothing = none_by (parents_of v live) (is_cycle_root live v) is_none

  by_change : Changes e live there → ⊥
  by_change (same is) = let x : [] ≡ s.0 ∷ s.1 ∷ s.2 = sym nothing ∙ ap (parents_of v) is ∙ s.3 in cc
  by_change (comes has) = not_several e live there has (λ x. is_same_vertex x.target v) nothing s.0 s.1 s.2 s.3
  by_change (goes has) = more_not_none e there live has (λ x. is_same_vertex x.target v) s.0 s.1 s.2 s.3 nothing

-- ---- heads that an edit concerns have other trees

module _ (e : Edge) (live there : List Edge) (change : Changes e live there) (order_live : IsInEdgeOrder live) (order_there : IsInEdgeOrder there)
    (well_live : AllByRecursion IsWellFormed live) (well_there : AllByRecursion IsWellFormed there)
    (head : Vertex) (nodes : List Node) (outer_live : class live head ≡ Inner → ⊥) (here : IsTreeOf live head nodes) (other : Vertex) (outer : class there other ≡ Inner → ⊥) (too : IsTreeOf there other nodes) where
  refuted : HasOtherTree e live there head → ⊥
  refuted = not_there e live there change order_live order_there well_live well_there head nodes here other outer too

  same_head : head ≡ other
  same_head = (one e live there change order_live order_there well_live well_there head nodes here other outer too).0

  refuted_back : HasOtherTree e there live other → ⊥
  refuted_back = not_there e there live (change_back e live there change) order_there order_live well_there well_live other nodes too head outer_live here

  -- a head that is of another class in the other graph
  other_class : (class live head ≡ class there head → ⊥) → ⊥
  other_class differ = by_classes (class live head) (class there head) refl refl where
    by_own_live : class live head ≡ Cycle → ⊥
    by_own_live is =
        let o = own_edge live well_live head is in
        refuted (target_differs o.edge o.held (λ k. differ (ap (class live) (sym o.target) ∙ k ∙ ap (class there) o.target)) o.inside)

    by_own_there : class there head ≡ Cycle → ⊥
    by_own_there is =
        let o = own_edge there well_there head is in
        refuted_back (subst (HasOtherTree e there live) same_head (target_differs o.edge o.held (λ k. differ (ap (class live) (sym o.target) ∙ sym k ∙ ap (class there) o.target)) o.inside))

    by_classes : (a b : Class) → class live head ≡ a → class there head ≡ b → ⊥
    by_classes Inner b is_a is_b = outer_live is_a
    by_classes a Inner is_a is_b = refuted (inner_there is_b)
    by_classes Cycle b is_a is_b = by_own_live is_a
    by_classes a Cycle is_a is_b = by_own_there is_b
    by_classes NoParent NoParent is_a is_b = differ (is_a ∙ sym is_b)
    by_classes NoParent Multi is_a is_b = none_or_several e live there change head is_a is_b
    by_classes Multi NoParent is_a is_b = none_or_several e there live (change_back e live there change) head is_b is_a
    by_classes Multi Multi is_a is_b = differ (is_a ∙ sym is_b)

  root_differs : (v : Vertex) → (is_cycle_root live v ≡ is_cycle_root there v → ⊥) → class live v ≡ class there v → ⊥
  root_differs v differ same_class = differ (sym (class_is_cycle live v) ∙ ap (λ c. is_same_class c Cycle) same_class ∙ class_is_cycle there v)

  pub concerned_elsewhere : (live ≡ there → ⊥) → IsConcerned e live there live head → ⊥
  concerned_elsewhere differ (is_target one_is moves) = other_class (λ k. moves (ap (class live) (sym one_is) ∙ k ∙ ap (class there) one_is))
  concerned_elsewhere differ (is_root moves) = other_class (root_differs head moves)
  concerned_elsewhere differ (holds_source inside) = refuted (source_within differ inside)
  concerned_elsewhere differ (holds_parent d held target moves inside) = refuted (target_differs d held (λ k. moves (ap (class live) (sym target) ∙ k ∙ ap (class there) target)) inside)
  concerned_elsewhere differ (refers_to_root d held moves inside) = refuted (target_differs d held (root_differs d.target moves) inside)

-- ---- in groves

pub record HasHead (live : List Edge) (t : List Node) : Type 0 where
  pub head : Vertex
  pub heads : class live head ≡ Inner → ⊥
  pub is : IsTreeOf live head t

head_among : (live : List Edge) (vs : List Vertex) (ts : List (List Node)) → AreTreesOf live vs ts → AllByRecursion (λ v. class live v ≡ Inner → ⊥) vs → (t : List Node) → IsAmong t ts → HasHead live t
head_among live [] [] are outer t among = absurd among
head_among live [] (s ∷ ss) are outer t among = absurd are
head_among live (v ∷ vs) [] are outer t among = absurd are
head_among live (v ∷ vs) (s ∷ ss) are outer t (inl one) = record { head = v; heads = outer.0; is = subst (IsTreeOf live v) one are.0 }
head_among live (v ∷ vs) (s ∷ ss) are outer t (inr among) = head_among live vs ss are.1 outer.1 t among

pub among_cases : {X : Type 0} (x : X) (xs ys : List X) → IsAmong x (xs ++ ys) → IsAmong x xs ⊎ IsAmong x ys
among_cases x [] ys is = inr is
among_cases x (z ∷ xs) ys (inl is) = inl (inl is)
among_cases x (z ∷ xs) ys (inr is) = by_case (among_cases x xs ys is) where
  by_case : IsAmong x xs ⊎ IsAmong x ys → IsAmong x (z ∷ xs) ⊎ IsAmong x ys
  by_case (inl k) = inl (inr k)
  by_case (inr k) = inr k

all_outer : (live : List Edge) (vs : List Vertex) (c : Class) → (c ≡ Inner → ⊥) → AllByRecursion (λ v. class live v ≡ c) vs → AllByRecursion (λ v. class live v ≡ Inner → ⊥) vs
all_outer live [] c outer all = tt
all_outer live (v ∷ vs) c outer all = (λ inner. outer (sym all.0 ∙ inner), all_outer live vs c outer all.1)

-- a tree of a grove has a head
pub head_in_grove : (edits : List Edit) (grove : Grove) (of : IsGrove (graph edits) grove) (t : List Node) → IsAmong t (trees_in grove) → HasHead of.live t
head_in_grove edits grove of t among = by_list (among_cases t grove.none (grove.multi ++ grove.cycle) among) where
  by_rest : IsAmong t grove.multi ⊎ IsAmong t grove.cycle → HasHead of.live t
  by_rest (inl k) = head_among of.live (of_class Multi of.live of.vertices) grove.multi of.multi (all_outer of.live (of_class Multi of.live of.vertices) Multi (λ e. cc) (all_of_class Multi of.live of.vertices)) t k
  by_rest (inr k) = head_among of.live (of_class Cycle of.live of.vertices) grove.cycle of.cycle (all_outer of.live (of_class Cycle of.live of.vertices) Cycle (λ e. cc) (all_of_class Cycle of.live of.vertices)) t k

  by_list : IsAmong t grove.none ⊎ IsAmong t (grove.multi ++ grove.cycle) → HasHead of.live t
  by_list (inl k) = head_among of.live (of_class NoParent of.live of.vertices) grove.none of.none (all_outer of.live (of_class NoParent of.live of.vertices) NoParent (λ e. cc) (all_of_class NoParent of.live of.vertices)) t k
  by_list (inr k) = by_rest (among_cases t grove.multi grove.cycle k)

module _ (edits : List Edit) (edit : Edit) (a b : Grove) (of_a : IsGrove (graph edits) a) (of_b : IsGrove (graph (edit ∷ edits)) b) where
  change : Changes (edit_edge edit) of_a.live of_b.live
  change = changed edits edit of_a.live of_b.live of_a.are_live of_b.are_live

  -- a tree after the edit that was none before
  pub is_new : (head : Vertex) (t : List Node) → (class of_b.live head ≡ Inner → ⊥) → IsTreeOf of_b.live head t → (of_b.live ≡ of_a.live → ⊥)
      → IsConcerned (edit_edge edit) of_b.live of_a.live of_b.live head → IsAmong t (trees_in a) → ⊥
  is_new head t outer is differ concerned among =
      let k = head_in_grove edits a of_a t among in
      concerned_elsewhere (edit_edge edit) of_b.live of_a.live (change_back (edit_edge edit) of_a.live of_b.live change) of_b.are_live.in_order of_a.are_live.in_order
      (live_well_formed (edit ∷ edits) of_b.live of_b.are_live) (live_well_formed edits of_a.live of_a.are_live) head t outer is k.head k.heads k.is differ concerned

  -- a tree before the edit that is none after
  pub is_gone : (head : Vertex) (t : List Node) → (class of_a.live head ≡ Inner → ⊥) → IsTreeOf of_a.live head t → (of_a.live ≡ of_b.live → ⊥)
      → IsConcerned (edit_edge edit) of_a.live of_b.live of_a.live head → IsAmong t (trees_in b) → ⊥
  is_gone head t outer is differ concerned among =
      let k = head_in_grove (edit ∷ edits) b of_b t among in
      concerned_elsewhere (edit_edge edit) of_a.live of_b.live change of_a.are_live.in_order of_b.are_live.in_order
      (live_well_formed edits of_a.live of_a.are_live) (live_well_formed (edit ∷ edits) of_b.live of_b.are_live) head t outer is k.head k.heads k.is differ concerned
