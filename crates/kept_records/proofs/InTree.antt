-- The walk up from a vertex stays in its tree.
use Rattle.std.proofs.Common.{◌≡◌, ◌*◌, ◌≤◌, Bool, true, false, List, [], ◌∷◌, length, sum_by, refl, sym, ap, subst, ◌∙◌, arith}
use Rattle.std.specs.Prelude.{◌||◌, Option, Some}
use Rattle.std.specs.List.{AllByRecursion}
use Rattle.std.proofs.lemmas.List.Sums.{sum_by-cons}
use Rattle.grove_edits.specs.declared.vertex.Vertex.{Vertex}
use Rattle.grove_edits.specs.declared.edge.Edge.{Edge}
use Rattle.grove_edits.specs.declared.edit.Edit.{Edit}
use Rattle.grove_edits.specs.Edge.{IsWellFormed}
use Rattle.grove_edits.specs.Graph.{graph}
use Rattle.graph_words.specs.declared.class.Class.{Class}
use Rattle.graph_words.specs.declared.class.Class.TheVariants.{NoParent, Multi, Cycle, Inner}
use Rattle.graph_words.specs.Live.{parents_of}
use Rattle.grove_edits.specs.Vertex.{is_same_vertex, stands_in}
use Rattle.graph_words.specs.Walk.{above, GoesOn, walk}
use Rattle.graph_words.specs.Class.{class, is_same_class, is_cycle_root}
use Rattle.graph_words.specs.Whole.{AreLive}
use Rattle.grove_edits.proofs.Vertices.{same_vertex_exact}
use Rattle.graph_words.proofs.Endings.{walk_is}
use Rattle.graph_words.proofs.Returns.{some_same}
use Rattle.graph_words.proofs.Cycles.{class_is_cycle}
use Rattle.grove_terms.specs.declared.node.Node.{Node}
use Rattle.grove_terms.specs.Forest.{Forest}
use Rattle.grove_terms.specs.Nodes.{tree_nodes}
use Rattle.grove_terms.specs.Grove.{IsTreeOf}
use Rattle.grove_terms.proofs.Totals.{total}
use Rattle.grove_terms.proofs.WellSorted.{live_well_formed}
use Rattle.mark_step.specs.Expression.{Demanded}
use Rattle.kept_records.specs.Kept.{Kept, Stands}
use Rattle.kept_records.specs.Change.{top_of, StandsIn}
use Rattle.kept_records.specs.Renewal.{names, all_in_tree}
use Rattle.kept_records.proofs.Standing.{above_child}
use Rattle.kept_records.proofs.Staying.{above_unless_multi}
use Rattle.kept_records.proofs.Other.{HasOwnEdge, own_edge, root_by}
use Rattle.kept_records.proofs.Sizes.{sum_within, walk_once}
use Rattle.kept_records.proofs.Whole.{in_tree}
use Rattle.kept_records.proofs.Cost.{cost, tree_weighs}

cycle_from : (c : Class) → is_same_class c Cycle ≡ true → c ≡ Cycle
cycle_from NoParent h = absurd cc
cycle_from Multi h = absurd cc
cycle_from Cycle h = refl
cycle_from Inner h = absurd cc

-- what is so of the first vertex, and with a vertex of the one above it, is so of all on a walk
goes_within : (P : Vertex → Type 0) (live : List Edge) → ((x w : Vertex) → P x → above live x ≡ Some w → P w) → (passed : List Vertex) (o : Option Vertex) → ((w : Vertex) → o ≡ Some w → P w) → (xs : List Vertex)
    → GoesOn live passed o xs → (v : Vertex) → stands_in v xs ≡ true → P v
goes_within P live up passed o first [] g v stands = absurd cc
goes_within P live up passed o first (x ∷ xs) g v stands =
    by_test (is_same_vertex x v) refl stands (goes_within P live up (x ∷ passed) (above live x) (λ w is. up x w (first x g.0) is) xs g.2 v) where
      by_test : (b : Bool) → is_same_vertex x v ≡ b → (b || stands_in v xs) ≡ true → (stands_in v xs ≡ true → P v) → P v
      by_test true one h later = subst P (same_vertex_exact x v one) (first x g.0)
      by_test false other h later = later h

module _ (live : List Edge) (well : AllByRecursion IsWellFormed live) (head : Vertex) where
  -- above the head of a tree nothing stands, or a vertex of the tree
  above_head : (w : Vertex) → (class live head ≡ Inner → ⊥) → above live head ≡ Some w → StandsIn live head w
  above_head w outer up = subst (StandsIn live head) same o.inside where
    cycle : class live head ≡ Cycle
    cycle = cycle_from (class live head) (class_is_cycle live head ∙ root_by live well (parents_of head live) (is_cycle_root live head) w up outer)

    o : HasOwnEdge live well head
    o = own_edge live well head cycle

    same : o.edge.source ≡ w
    same =
        some_same o.edge.source w
        (sym (above_unless_multi live o.edge o.held (λ multi. let clash : Multi ≡ Cycle = sym multi ∙ ap (class live) o.target ∙ cycle in cc)) ∙ ap (above live) o.target ∙ up)

  above_inside : (x w : Vertex) (us : List Vertex) (f : Forest) (d : Demanded) → Stands live us x f d → top_of x us ≡ head → above live x ≡ Some w → StandsIn live head w
  above_inside x w [] f d s top up = above_head w (λ inner. s.0 (ap (class live) top ∙ inner)) (ap (above live) (sym top) ∙ up)
  above_inside x w (u ∷ us) f d s top up =
      let one : u ≡ w = some_same u w (sym (above_child live well u us x f d s) ∙ up) in
      subst (StandsIn live head) one (record { above = us; forest = s.0; demanded = s.1; stands = s.2; top = top })

  walk_inside : (v : Vertex) → StandsIn live head v → (x : Vertex) → stands_in x (walk live v) ≡ true → StandsIn live head x
  walk_inside v inside x stands =
      goes_within (StandsIn live head) live (λ z w in_z up. above_inside z w in_z.above in_z.forest in_z.demanded in_z.stands in_z.top up) [] (Some v)
      (λ w is. subst (StandsIn live head) (some_same v w is) inside) (walk live v) (walk_is live v) x stands

  length_names : (ms : List (Vertex × Kept)) → sum_by (λ v. 1) (names ms) ≤ total (cost live well) ms
  length_names [] = omega arith
  length_names (m ∷ ms) = let first = sum_by-cons (λ (v : Vertex). 1) m.0 (names ms) in let rest = length_names ms in omega (arith, first, rest)

  sum_of_ones : (xs : List Vertex) → sum_by (λ v. 1) xs ≡ length xs
  sum_of_ones [] = refl
  sum_of_ones (x ∷ xs) = let rest = sum_of_ones xs in let first = sum_by-cons (λ (v : Vertex). 1) x xs in omega (arith, rest, first)

pub walk_in_tree : (edits : List Edit) (live : List Edge) → AreLive (graph edits) live → (head v : Vertex) (t : List Node) → StandsIn live head v → IsTreeOf live head t → length (walk live v) ≤ 2 * length t
walk_in_tree edits live are head v t inside is =
    let well = live_well_formed edits live are in
    let once = sum_within (λ v. 1) (walk live v) (names (all_in_tree head is.forest)) (walk_once live v)
    (λ x stands. let i = walk_inside live well head v inside x stands in
    (in_tree live well (graph edits) are head is.forest is.stands i.above x i.forest i.demanded i.stands i.top).itself) in
    let ones = sum_of_ones live well head (walk live v) in
    let named = length_names live well head (all_in_tree head is.forest) in
    let most = tree_weighs live well head is.forest is.stands in
    let listed : length (tree_nodes head is.forest) ≡ length t = ap (λ (ns : List Node). length ns) (sym is.listed) in
    omega (arith, once, ones, named, most, listed)
