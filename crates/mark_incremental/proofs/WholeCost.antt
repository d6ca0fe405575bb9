-- What an edit that makes or ends the root of a cycle counts is within its size, which is the nodes of the trees that it touches.
use Rattle.std.proofs.Common.{◌≡◌, inl, inr, ℕ, ◌+◌, ◌*◌, ◌≤◌, Bool, true, false, cond, not, List, [], ◌∷◌, ◌++◌, length, map, refl, sym, ap, subst, ◌∙◌, arith}
use Rattle.std.specs.Prelude.{◌||◌, None, filter}
use Rattle.std.specs.List.{AllByRecursion, sum_by}
use Rattle.std.proofs.lemmas.Bool.{or_left, or_right}
use Rattle.std.proofs.lemmas.List.Sums.{sum_by-cons, sum_by-append}
use Rattle.edge_lattice.specs.declared.state.State.TheVariants.{Absent, Live}
use Rattle.grove_edits.specs.declared.vertex.Vertex.{Vertex}
use Rattle.grove_edits.specs.declared.edge.Edge.{Edge}
use Rattle.grove_edits.specs.declared.edit.Edit.{Edit}
use Rattle.grove_edits.specs.Edge.{IsWellFormed}
use Rattle.grove_edits.specs.Edit.{edit_edge}
use Rattle.grove_edits.specs.Vertex.{is_same_vertex, stands_in}
use Rattle.grove_edits.specs.Graph.{Graph, graph}
use Rattle.grove_edits.proofs.Vertices.{same_vertex_exact, same_vertex_itself}
use Rattle.graph_words.specs.declared.class.Class.TheVariants.{Inner}
use Rattle.graph_words.specs.Live.{holds_edge, parents_of}
use Rattle.graph_words.specs.Walk.{only_source, above, IsEnd, walk}
use Rattle.graph_words.specs.Class.{class}
use Rattle.graph_words.specs.Whole.{AreLive, IsVertexOf}
use Rattle.graph_words.proofs.Endings.{walk_is_one}
use Rattle.graph_words.proofs.Cycles.{leads_from_reaches}
use Rattle.grove_terms.specs.declared.node.Node.{Node}
use Rattle.grove_terms.specs.declared.grove.Grove.{Grove}
use Rattle.grove_terms.specs.Forest.{Forest}
use Rattle.grove_terms.specs.Nodes.{tree_nodes}
use Rattle.grove_terms.specs.Grove.{IsTreeOf, AreTreesOf, IsGrove}
use Rattle.grove_terms.proofs.Forests.{forest_of, root_stands}
use Rattle.grove_terms.proofs.OneGrove.{one_live}
use Rattle.grove_terms.proofs.WellSorted.{live_well_formed, held_first}
use Rattle.type_core.specs.Typ.{Typ}
use Rattle.ctx_table.specs.Context.{Context}
use Rattle.mark_step.specs.Expression.{Demanded}
use Rattle.kept_records.specs.Kept.{Kept, Records, Stands}
use Rattle.kept_records.specs.Local.{is_inner}
use Rattle.kept_records.specs.Change.{Changes, top_of, StandsIn, IsConcerned, holds_source, IsAmong, trees_in, AreTouched, node_count, StandOnce}
use Rattle.kept_records.specs.Renewal.{MakesTrees, AreAllInTrees}
use Rattle.kept_records.specs.Size.{IsSize, IsSizeBy, of_trees, of_near}
use Rattle.kept_records.proofs.Children.{all_held, held_in_filter, parents_lead}
use Rattle.kept_records.proofs.Scratch.{above_vertex}
use Rattle.kept_records.proofs.OnWalks.{on_new_source, on_new_target}
use Rattle.kept_records.proofs.Edits.{change_back}
use Rattle.kept_records.proofs.InTree.{walk_in_tree}
use Rattle.kept_records.proofs.Nodes.{new_within}
use Rattle.kept_records.proofs.Other.{is_new, is_gone}
use Rattle.kept_records.proofs.Sizes.{sum_within}
use Rattle.kept_records.proofs.Touched.{tree_in_grove}
use Rattle.mark_store.specs.declared.record.Record.{Record}
use Rattle.mark_store.specs.Places.{Places}
use Rattle.mark_incremental.specs.Looking.{on}
use Rattle.mark_incremental.specs.Rooting.{IsOnlyRoot}
use Rattle.mark_incremental.specs.Ticks.{AreTreesPaidFor}
use Rattle.mark_incremental.proofs.NearCost.{whole_counted}
use Rattle.mark_incremental.proofs.OneHead.{has_head, head_outer, reaches_head}
use Rattle.mark_incremental.proofs.Concerned.{head_concerned}
use Rattle.mark_incremental.proofs.WholeTrees.{change, lists_differ, on_one_new, on_one_old, rooted_new, rooted_old, walked, of_vertex, head_parts, head_is_concerned}

-- ---- lists

all_from : (P : Vertex → Type 0) (vs : List Vertex) → ((v : Vertex) → stands_in v vs ≡ true → P v) → AllByRecursion P vs
all_from P [] each = tt
all_from P (x ∷ xs) each =
    (each x (or_left (is_same_vertex x x) (stands_in x xs) (same_vertex_itself x)), all_from P xs (λ v stands. each v (or_right (is_same_vertex x v) (stands_in v xs) stands)))

sum_of_ones : (vs : List Vertex) → sum_by (λ v. 1) vs ≡ length vs
sum_of_ones [] = refl
sum_of_ones (v ∷ vs) = let rest = sum_of_ones vs in let first = sum_by-cons (λ (x : Vertex). 1) v vs in omega (arith, rest, first)

filtered_once : (p : Vertex → Bool) (vs : List Vertex) → StandOnce vs → StandOnce (filter p vs)
filtered_once p [] once = tt
filtered_once p (v ∷ vs) once = by (p v) (filtered_once p vs once.1) where
  not_among : (xs : List Vertex) → stands_in v xs ≡ false → stands_in v (filter p xs) ≡ false
  not_among [] off = refl
  not_among (x ∷ xs) off = by_first (is_same_vertex x v) refl off (not_among xs) where
    by_passes : (b : Bool) → is_same_vertex x v ≡ false → stands_in v (filter p xs) ≡ false → stands_in v (cond b (x ∷ filter p xs) (filter p xs)) ≡ false
    by_passes true other rest = ap (λ c. c || stands_in v (filter p xs)) other ∙ rest
    by_passes false other rest = rest

    by_first : (b : Bool) → is_same_vertex x v ≡ b → (b || stands_in v xs) ≡ false → (stands_in v xs ≡ false → stands_in v (filter p xs) ≡ false) → stands_in v (cond (p x) (x ∷ filter p xs) (filter p xs)) ≡ false
    by_first true one off later = absurd cc
    by_first false other off later = by_passes (p x) other (later off)

  by : (b : Bool) → StandOnce (filter p vs) → StandOnce (cond b (v ∷ filter p vs) (filter p vs))
  by true rest = (not_among vs once.0, rest)
  by false rest = rest

-- ---- trees

abbrev tree_at : List Edge → Vertex → List Node
tree_at live v = tree_nodes v (forest_of live v)

is_tree : (live : List Edge) (v : Vertex) → (class live v ≡ Inner → ⊥) → IsTreeOf live v (tree_at live v)
is_tree live v outer = record { forest = forest_of live v; stands = root_stands live v outer; listed = refl }

are_trees : (live : List Edge) (vs : List Vertex) → AllByRecursion (λ v. class live v ≡ Inner → ⊥) vs → AreTreesOf live vs (map (tree_at live) vs)
are_trees live [] outer = tt
are_trees live (v ∷ vs) outer = (is_tree live v outer.0, are_trees live vs outer.1)

owner : (live : List Edge) (vs : List Vertex) (ts : List (List Node)) → AreTreesOf live vs ts → (t : List Node) → IsAmong t ts → (v : Vertex) × (stands_in v vs ≡ true) × IsTreeOf live v t
owner live [] [] are t among = absurd among
owner live [] (s ∷ ss) are t among = absurd are
owner live (v ∷ vs) [] are t among = absurd are
owner live (v ∷ vs) (s ∷ ss) are t (inl one) = (v, or_left (is_same_vertex v v) (stands_in v vs) (same_vertex_itself v), subst (IsTreeOf live v) one are.0)
owner live (v ∷ vs) (s ∷ ss) are t (inr among) = let o = owner live vs ss are.1 t among in (o.0, or_right (is_same_vertex v o.0) (stands_in o.0 vs) o.1, o.2)

-- ---- a walk from what is no vertex

no_parent : (g : Graph) (live : List Edge) → AreLive g live → (v : Vertex) → (IsVertexOf g v → ⊥) → above live v ≡ None
no_parent g live are v outside = by (parents_of v live) refl where
  parent : (d : Edge) (ps : List Edge) → parents_of v live ≡ d ∷ ps → ⊥
  parent d ps is =
      let among : holds_edge d (parents_of v live) ≡ true = ap (holds_edge d) is ∙ held_first d ps in
      let held : holds_edge d live ≡ true = held_in_filter (λ x. is_same_vertex x.target v) d live among in
      let leads : d.target ≡ v = all_held (λ x. x.target ≡ v) (parents_of v live) (parents_lead v live) d among in
      outside (inr (d, (λ absent. let clash : Absent ≡ Live = sym absent ∙ are.no_other d held in cc), inr leads))

  by : (ps : List Edge) → parents_of v live ≡ ps → above live v ≡ None
  by [] is = ap only_source is
  by (d ∷ ps) is = absurd (parent d ps is)

walk_alone : (live : List Edge) (v : Vertex) → above live v ≡ None → length (walk live v) ≡ 1
walk_alone live v ends = ap length (sym (walk_is_one live v (v ∷ []) (refl, refl, subst (IsEnd (v ∷ [])) (sym ends) tt)))

-- ---- the touched trees

module _ (edits : List Edit) (edit : Edit) (a b : Grove) (of_a : IsGrove (graph edits) a) (of_b : IsGrove (graph (edit ∷ edits)) b) (r : Vertex) (only : IsOnlyRoot of_a.live of_b.live r) (touched : List (List Node))
    (are : AreTouched (trees_in a) (trees_in b) touched) where
  abbrev pub e : Edge
  e = edit_edge edit

  moved : Changes e of_a.live of_b.live
  moved = change edits edit of_a.live of_b.live of_a.are_live of_b.are_live r only

  differ : of_a.live ≡ of_b.live → ⊥
  differ = lists_differ edits edit of_a.live of_b.live of_a.are_live of_b.are_live r only

  -- trees of concern after the edit have together no more nodes than the touched ones
  pub new_trees_within : (hs : List Vertex) (trees : List (List Node)) → StandOnce hs → AreTreesOf of_b.live hs trees
      → ((v : Vertex) → stands_in v hs ≡ true → (class of_b.live v ≡ Inner → ⊥) × IsVertexOf (graph (edit ∷ edits)) v × IsConcerned e of_b.live of_a.live of_b.live v) → node_count trees ≤ node_count touched
  new_trees_within hs trees once trees_are each =
      new_within (edit ∷ edits) a b of_b touched are hs trees once (all_from (λ v. class of_b.live v ≡ Inner → ⊥) hs (λ v stands. (each v stands).0)) trees_are
      (λ m among. let o = owner of_b.live hs trees trees_are m among in let at = each o.0 o.1 in tree_in_grove (edit ∷ edits) b of_b o.0 m at.1 at.0 o.2)
      (λ m among there. let o = owner of_b.live hs trees trees_are m among in let at = each o.0 o.1 in is_new edits edit a b of_a of_b o.0 m at.0 o.2 (λ one. differ (sym one)) at.2 there)

  one_stands : (h v : Vertex) → stands_in v (h ∷ []) ≡ true → h ≡ v
  one_stands h v stands = by (is_same_vertex h v) refl stands where
    by : (b : Bool) → is_same_vertex h v ≡ b → (b || false) ≡ true → h ≡ v
    by true one rest = same_vertex_exact h v one
    by false other rest = absurd cc

  new_tree_within : (h : Vertex) → (class of_b.live h ≡ Inner → ⊥) → IsVertexOf (graph (edit ∷ edits)) h → IsConcerned e of_b.live of_a.live of_b.live h → length (tree_at of_b.live h) ≤ node_count touched
  new_tree_within h outer vertex concerned =
      let all = new_trees_within (h ∷ []) (tree_at of_b.live h ∷ []) (refl, tt) (is_tree of_b.live h outer, tt)
      (λ v stands.
      let one = one_stands h v stands in
      ((λ inner. outer (ap (class of_b.live) one ∙ inner)), subst (IsVertexOf (graph (edit ∷ edits))) one vertex, subst (IsConcerned e of_b.live of_a.live of_b.live) one concerned)) in
      let count : node_count (tree_at of_b.live h ∷ []) ≡ length (tree_at of_b.live h) + node_count [] = sum_by-cons length (tree_at of_b.live h) [] in
      omega (arith, all, count)

  old_tree_within : (h : Vertex) → (class of_a.live h ≡ Inner → ⊥) → IsVertexOf (graph edits) h → IsConcerned e of_a.live of_b.live of_a.live h → length (tree_at of_a.live h) ≤ node_count touched
  old_tree_within h outer vertex concerned =
      let all = new_within edits b a of_a (are.come ++ are.gone) (record { gone = are.come; come = are.gone; gone_are = are.come_are; come_are = are.gone_are; all = refl }) (h ∷ []) (tree_at of_a.live h ∷ []) (refl, tt)
      (outer, tt) (is_tree of_a.live h outer, tt) among gone in
      let count : node_count (tree_at of_a.live h ∷ []) ≡ length (tree_at of_a.live h) + node_count [] = sum_by-cons length (tree_at of_a.live h) [] in
      let here : node_count touched ≡ node_count (are.gone ++ are.come) = ap node_count are.all in
      let parts = sum_by-append length are.gone are.come in
      let back = sum_by-append length are.come are.gone in
      omega (arith, all, count, here, parts, back)
    where
      among : (m : List Node) → IsAmong m (tree_at of_a.live h ∷ []) → IsAmong m (trees_in a)
      among m (inl one) = tree_in_grove edits a of_a h m vertex outer (subst (IsTreeOf of_a.live h) one (is_tree of_a.live h outer))
      among m (inr no_more) = absurd no_more

      gone : (m : List Node) → IsAmong m (tree_at of_a.live h ∷ []) → IsAmong m (trees_in b) → ⊥
      gone m (inl one) there = is_gone edits edit a b of_a of_b h m outer (subst (IsTreeOf of_a.live h) one (is_tree of_a.live h outer)) differ concerned there
      gone m (inr no_more) there = absurd no_more

  -- ---- the four walks

  well_old : AllByRecursion IsWellFormed of_a.live
  well_old = live_well_formed edits of_a.live of_a.are_live

  well_now : AllByRecursion IsWellFormed of_b.live
  well_now = live_well_formed (edit ∷ edits) of_b.live of_b.are_live

  new_walk : (v head : Vertex) → StandsIn of_b.live head v → IsVertexOf (graph (edit ∷ edits)) head → IsConcerned e of_b.live of_a.live of_b.live head → length (walk of_b.live v) ≤ 2 * node_count touched
  new_walk v head inside vertex concerned =
      let outer = head_outer of_b.live well_now head v inside in
      let most = walk_in_tree (edit ∷ edits) of_b.live of_b.are_live head v (tree_at of_b.live head) inside (is_tree of_b.live head outer) in
      let nodes = new_tree_within head outer vertex concerned in
      omega (arith, most, nodes)

  pub new_source_walk : length (walk of_b.live e.source) ≤ 2 * node_count touched
  new_source_walk =
      let h = has_head of_b.live well_now e.source in
      new_walk e.source h.head h.inside
      (walked edits edit of_a.live of_b.live of_a.are_live of_b.are_live r only h.head
      (on_new_source e of_a.live of_b.live h.head (leads_from_reaches of_b.live e.source h.head (reaches_head of_b.live well_now h.head e.source h.inside))))
      (holds_source h.inside)

  pub new_target_walk : length (walk of_b.live e.target) ≤ 2 * node_count touched
  new_target_walk =
      let h = has_head of_b.live well_now e.target in
      new_walk e.target h.head h.inside
      (walked edits edit of_a.live of_b.live of_a.are_live of_b.are_live r only h.head
      (on_new_target e of_a.live of_b.live h.head (leads_from_reaches of_b.live e.target h.head (reaches_head of_b.live well_now h.head e.target h.inside))))
      (head_concerned e of_b.live of_a.live (change_back e of_a.live of_b.live moved) (λ one. differ (sym one)) well_now r (rooted_new edits edit of_a.live of_b.live of_a.are_live of_b.are_live r only)
      (rooted_old edits edit of_a.live of_b.live of_a.are_live of_b.are_live r only) (λ one. only.moves (sym one)) (on_one_new edits edit of_a.live of_b.live of_a.are_live of_b.are_live r only) h.head h.inside)

  top_vertex : (us : List Vertex) (v : Vertex) (f : Forest) (d : Demanded) → Stands of_a.live us v f d → IsVertexOf (graph edits) v → IsVertexOf (graph edits) (top_of v us)
  top_vertex [] v f d s is = is
  top_vertex (u ∷ us) v f d s is = top_vertex us u s.0 s.1 s.2 (above_vertex (graph edits) of_a.live of_a.are_live well_old u us v f d s)

  old_walk : (v head : Vertex) → StandsIn of_a.live head v → IsConcerned e of_a.live of_b.live of_a.live head → length (walk of_a.live v) ≤ 2 * node_count touched + 1
  old_walk v head inside concerned = by (stands_in v of_a.vertices) refl where
    of_old : IsVertexOf (graph edits) v → length (walk of_a.live v) ≤ 2 * node_count touched + 1
    of_old vertex =
        let outer = head_outer of_a.live well_old head v inside in
        let most = walk_in_tree edits of_a.live of_a.are_live head v (tree_at of_a.live head) inside (is_tree of_a.live head outer) in
        let nodes =
        old_tree_within head outer (subst (IsVertexOf (graph edits)) inside.top (top_vertex inside.above v inside.forest inside.demanded inside.stands vertex)) concerned in
        omega (arith, most, nodes)

    by : (b : Bool) → stands_in v of_a.vertices ≡ b → length (walk of_a.live v) ≤ 2 * node_count touched + 1
    by true stands = of_old (of_a.are_vertices.no_other v stands)
    by false off =
        let one =
        walk_alone of_a.live v (no_parent (graph edits) of_a.live of_a.are_live v (λ vertex. let clash : true ≡ false = sym (of_a.are_vertices.each v vertex) ∙ off in cc)) in
        omega (arith, one)

  pub old_source_walk : length (walk of_a.live e.source) ≤ 2 * node_count touched + 1
  old_source_walk = let h = has_head of_a.live well_old e.source in old_walk e.source h.head h.inside (holds_source h.inside)

  pub old_target_walk : length (walk of_a.live e.target) ≤ 2 * node_count touched + 1
  old_target_walk =
      let h = has_head of_a.live well_old e.target in
      old_walk e.target h.head h.inside
      (head_concerned e of_a.live of_b.live moved differ well_old r (rooted_old edits edit of_a.live of_b.live of_a.are_live of_b.are_live r only) (rooted_new edits edit of_a.live of_b.live of_a.are_live of_b.are_live r only)
      only.moves (on_one_old edits edit of_a.live of_b.live of_a.are_live of_b.are_live r only) h.head h.inside)

  -- ---- the walks down

  module _ (vertices : List Vertex) (these : (v : Vertex) → stands_in v vertices ≡ (is_same_vertex r v || (is_same_vertex e.target v || stands_in v (walk of_b.live e.source)))) (once : StandOnce vertices) where
    few : length vertices ≤ 2 * node_count touched + 2
    few =
        let within = sum_within (λ v. 1) vertices (r ∷ e.target ∷ walk of_b.live e.source) once (λ v stands. sym (these v) ∙ stands) in
        let ones = sum_of_ones vertices in
        let more = sum_of_ones (r ∷ e.target ∷ walk of_b.live e.source) in
        let up = new_source_walk in
        omega (arith, within, ones, more, up)

    at_head : (v : Vertex) → stands_in v (filter (λ x. not (is_inner of_b.live x)) vertices) ≡ true → (class of_b.live v ≡ Inner → ⊥) × IsVertexOf (graph (edit ∷ edits)) v × IsConcerned e of_b.live of_a.live of_b.live v
    at_head v stands =
        let parts = head_parts edits edit of_a.live of_b.live of_a.are_live of_b.are_live r only vertices these v stands in
        (parts.0, of_vertex edits edit of_a.live of_b.live of_a.are_live of_b.are_live r only vertices these v parts.1, head_is_concerned edits edit of_a.live of_b.live of_a.are_live of_b.are_live r only vertices these v stands)

    pub whole_ticked : ((new : List Edge) (records : Records) (heads : List Vertex) (made : List (Vertex × Kept)) → MakesTrees (λ v. true) new records heads made → AreAllInTrees new heads made) → (types : List Typ) (ctxs : List Context)
        (places : Places Record) (passed : Places Bool) (listed : List Vertex) → listed ≡ vertices → (start end : ℕ)
        → ((most : ℕ) → ((before after : ℕ) → AreTreesPaidFor of_b.live types ctxs places (on true passed) (filter (λ v. not (is_inner of_b.live v)) listed) before after → after ≤ before + most) → end ≤ start + 3 * length listed + most)
        → end ≤ start + 16 * node_count touched + 9
    whole_ticked all_made types ctxs places passed listed same start end ticked =
        let outer = all_from (λ v. class of_b.live v ≡ Inner → ⊥) (filter (λ v. not (is_inner of_b.live v)) vertices) (λ v stands. (at_head v stands).0) in
        let trees_are = are_trees of_b.live (filter (λ v. not (is_inner of_b.live v)) vertices) outer in
        let nodes =
        new_trees_within (filter (λ v. not (is_inner of_b.live v)) vertices) (map (tree_at of_b.live) (filter (λ v. not (is_inner of_b.live v)) vertices))
        (filtered_once (λ v. not (is_inner of_b.live v)) vertices once) trees_are at_head in
        let all = ticked (10 * node_count (map (tree_at of_b.live) (filter (λ v. not (is_inner of_b.live v)) vertices)))
        (λ before after paid. whole_counted all_made (edit ∷ edits) of_b.live of_b.are_live types ctxs places passed (filter (λ v. not (is_inner of_b.live v)) vertices) before after
        (subst (λ vs. AreTreesPaidFor of_b.live types ctxs places (on true passed) (filter (λ v. not (is_inner of_b.live v)) vs) before after) same paid)
        (map (tree_at of_b.live) (filter (λ v. not (is_inner of_b.live v)) vertices)) trees_are) in
        let long : length listed ≡ length vertices = ap length same in
        let short = few in
        omega (arith, nodes, all, long, short)

-- ---- by the size

module _ (edits : List Edit) (edit : Edit) (old new : List Edge) (are_old : AreLive (graph edits) old) (are_new : AreLive (graph (edit ∷ edits)) new) (r : Vertex) (only : IsOnlyRoot old new r) (n : ℕ)
    (size : IsSize (edit_edge edit) (graph edits) (graph (edit ∷ edits)) n) where
  old_is : size.is_before.live ≡ old
  old_is = one_live (graph edits) size.is_before.live old size.is_before.are_live are_old

  new_is : size.is_after.live ≡ new
  new_is = one_live (graph (edit ∷ edits)) size.is_after.live new size.is_after.are_live are_new

  only_here : IsOnlyRoot size.is_before.live size.is_after.live r
  only_here = subst (λ es. IsOnlyRoot es size.is_after.live r) (sym old_is) (subst (λ es. IsOnlyRoot old es r) (sym new_is) only)

  record HasTouched : Type 0 where
    touched : List (List Node)
    are : AreTouched (trees_in size.grove_before) (trees_in size.grove_after) touched
    is : n ≡ node_count touched

  has_touched : HasTouched
  has_touched = by size.size where
    by : IsSizeBy (edit_edge edit) (graph edits) (graph (edit ∷ edits)) size.is_before.live size.is_after.live (trees_in size.grove_before) (trees_in size.grove_after) n → HasTouched
    by (of_trees moves touched are is) = record { touched = touched; are = are; is = is }
    by (of_near stay near are is) = absurd (only_here.moves (stay r))

  pub whole_old_source : length (walk old (edit_edge edit).source) ≤ 2 * n + 1
  whole_old_source =
      let t = has_touched in
      let most = old_source_walk edits edit size.grove_before size.grove_after size.is_before size.is_after r only_here t.touched t.are in
      let nodes = t.is in
      subst (λ es. length (walk es (edit_edge edit).source) ≤ 2 * n + 1) old_is (omega (arith, most, nodes))

  pub whole_old_target : length (walk old (edit_edge edit).target) ≤ 2 * n + 1
  whole_old_target =
      let t = has_touched in
      let most = old_target_walk edits edit size.grove_before size.grove_after size.is_before size.is_after r only_here t.touched t.are in
      let nodes = t.is in
      subst (λ es. length (walk es (edit_edge edit).target) ≤ 2 * n + 1) old_is (omega (arith, most, nodes))

  pub whole_new_source : length (walk new (edit_edge edit).source) ≤ 2 * n + 1
  whole_new_source =
      let t = has_touched in
      let most = new_source_walk edits edit size.grove_before size.grove_after size.is_before size.is_after r only_here t.touched t.are in
      let nodes = t.is in
      subst (λ es. length (walk es (edit_edge edit).source) ≤ 2 * n + 1) new_is (omega (arith, most, nodes))

  pub whole_new_target : length (walk new (edit_edge edit).target) ≤ 2 * n + 1
  whole_new_target =
      let t = has_touched in
      let most = new_target_walk edits edit size.grove_before size.grove_after size.is_before size.is_after r only_here t.touched t.are in
      let nodes = t.is in
      subst (λ es. length (walk es (edit_edge edit).target) ≤ 2 * n + 1) new_is (omega (arith, most, nodes))

  pub whole_within : (vertices : List Vertex) → ((v : Vertex) → stands_in v vertices ≡ (is_same_vertex r v || (is_same_vertex (edit_edge edit).target v || stands_in v (walk new (edit_edge edit).source)))) → StandOnce vertices
      → ((new : List Edge) (records : Records) (heads : List Vertex) (made : List (Vertex × Kept)) → MakesTrees (λ v. true) new records heads made → AreAllInTrees new heads made) → (types : List Typ) (ctxs : List Context)
      (places : Places Record) (passed : Places Bool) (listed : List Vertex) → listed ≡ vertices → (start end : ℕ)
      → ((most : ℕ) → ((before after : ℕ) → AreTreesPaidFor new types ctxs places (on true passed) (filter (λ v. not (is_inner new v)) listed) before after → after ≤ before + most) → end ≤ start + 3 * length listed + most)
      → end ≤ start + 16 * n + 9
  whole_within vertices these once all_made types ctxs places passed listed same start end ticked =
      let t = has_touched in
      let all =
      whole_ticked edits edit size.grove_before size.grove_after size.is_before size.is_after r only_here t.touched t.are vertices
      (subst (λ es. (v : Vertex) → stands_in v vertices ≡ (is_same_vertex r v || (is_same_vertex (edit_edge edit).target v || stands_in v (walk es (edit_edge edit).source)))) (sym new_is) these) once all_made types ctxs places passed listed
      same start end
      (subst
      (λ es. (most : ℕ) → ((before after : ℕ) → AreTreesPaidFor es types ctxs places (on true passed) (filter (λ v. not (is_inner es v)) listed) before after → after ≤ before + most) → end ≤ start + 3 * length listed + most)
      (sym new_is) ticked) in
      let nodes = t.is in
      omega (arith, all, nodes)
