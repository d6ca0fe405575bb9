-- The nodes of a marked tree tell what is kept of its vertices.
use Rattle.std.proofs.Common.{◌≡◌, inl, inr, ℕ, zero, suc, ◌+◌, Bool, true, false, cond, List, [], ◌∷◌, ◌++◌, refl, sym, ap, subst, ◌∙◌}
use Rattle.std.specs.Prelude.{if◌then◌else◌, Some}
use Rattle.std.specs.List.{AllByRecursion}
use Rattle.grove_sorts.specs.declared.position.Position.{Position}
use Rattle.grove_sorts.specs.declared.sort.Sort.{Sort}
use Rattle.grove_sorts.specs.declared.sort.Sort.TheVariants.{Top, Exp, Pat, Typ as TypeSort}
use Rattle.grove_sorts.specs.declared.ctor.Ctor.{Ctor}
use Rattle.grove_sorts.specs.Ctor.{positions, Rises, sort_in, sort_of_ctor}
use Rattle.grove_edits.specs.declared.vertex.Vertex.{Vertex as VertexOf}
use Rattle.grove_edits.specs.declared.edge.Edge.{Edge}
use Rattle.grove_edits.specs.Edge.{IsWellFormed}
use Rattle.graph_words.specs.declared.class.Class.TheVariants.{Inner}
use Rattle.grove_sorts.specs.Position.{position_number, is_same_position}
use Rattle.graph_words.specs.Class.{class}
use Rattle.grove_terms.specs.declared.node.Node.{Node}
use Rattle.grove_terms.specs.declared.node.What.TheVariants.{Vertex, Hole, Conflict, MultiRef, CycleRef}
use Rattle.grove_terms.specs.Forest.{Forest, none, multi_ref, cycle_ref, tree, StandsUnder}
use Rattle.grove_terms.specs.Nodes.{node_at, child_node, head_node, count_at}
use Rattle.grove_sorts.proofs.Orders.{one_position, same_position_laws}
use Rattle.grove_sorts.proofs.Rows.{positions_rise, found_first, found_behind, other_behind}
use Rattle.mark_step.specs.Rows.{is_exp}
use Rattle.type_core.specs.Typ.{Typ}
use Rattle.mark_step.specs.Expression.{Wanted, Expression, Demanded}
use Rattle.mark_step.specs.Step.{demand, settled}
use Rattle.marking.specs.Types.{tree_type}
use Rattle.marking.specs.Marking.{MarkedNode, children_types, judged_in, marked_plain, marked_vertex, marked_place, marked_places, marked_children, marked_tree, synthesised_in}
use Rattle.kept_records.specs.Kept.{Kept, alone, kept_as, kept_of, expression_of, types_before, demanded_among, demanded_at, IsTreeIn, Stands, IsKeptOf}
use Rattle.kept_records.specs.Told.{IsToldOf, TellsAs, Tells}
use Rattle.kept_records.proofs.Standing.{child_stands}

abbrev AllTell : List Edge → List MarkedNode → Type 0
AllTell live ms = AllByRecursion (λ m. Tells live m) ms

all_tell : (live : List Edge) (xs ys : List MarkedNode) → AllTell live xs → AllTell live ys → AllTell live (xs ++ ys)
all_tell live [] ys a b = b
all_tell live (x ∷ xs) ys a b = (a.0, all_tell live xs ys a.1 b)

plain_tells : (live : List Edge) (s : Sort) (w : Wanted) (n : Node) → ((m : MarkedNode) → TellsAs live m n.what) → Tells live (marked_plain s w n)
plain_tells live Top w n tells = tells (marked_plain Top w n)
plain_tells live Exp w n tells = tells (marked_plain Exp w n)
plain_tells live Pat w n tells = tells (marked_plain Pat w n)
plain_tells live TypeSort w n tells = tells (marked_plain TypeSort w n)

vertex_tells : (live : List Edge) (us : List VertexOf) (v : VertexOf) (f : Forest) (d : Demanded) → Stands live us v f d → (n : Node) → n.what ≡ Vertex v → Tells live (marked_vertex (sort_of_ctor v.ctor) (expression_of v f d) f n)
vertex_tells live us v f d s n what = by_sort (sort_of_ctor v.ctor) refl where
  of : IsKeptOf live v (kept_of v f d)
  of = record { above = us; forest = f; demanded = d; stands = s; is = refl }

  kept : Sort → Kept
  kept k = kept_as k d (settled (expression_of v f d) (children_types (expression_of v f d) f)) (tree_type v.ctor f)

  -- a node that has what the record has
  told : (k : Sort) → sort_of_ctor v.ctor ≡ k → (m : MarkedNode) → m.wanted ≡ (kept k).wanted → m.typ ≡ (kept k).typ → m.mark ≡ (kept k).mark → IsToldOf live v m
  told k sort m wanted typ mark = record {
    kept = kept_of v f d;
    is = of;
    wanted = wanted ∙ ap (λ s. (kept s).wanted) (sym sort);
    typ = typ ∙ ap (λ s. (kept s).typ) (sym sort);
    mark = mark ∙ ap (λ s. (kept s).mark) (sym sort);
  }

  by_sort : (k : Sort) → sort_of_ctor v.ctor ≡ k → Tells live (marked_vertex k (expression_of v f d) f n)
  by_sort Exp sort = let m = marked_vertex Exp (expression_of v f d) f n in subst (TellsAs live m) (sym what) (told Exp sort m refl refl refl)
  by_sort TypeSort sort = let m = marked_vertex TypeSort (expression_of v f d) f n in subst (TellsAs live m) (sym what) (told TypeSort sort m refl refl refl)
  by_sort Pat sort = let m = marked_vertex Pat (expression_of v f d) f n in subst (TellsAs live m) (sym what) (told Pat sort m refl refl refl)
  by_sort Top sort = let m = marked_vertex Top (expression_of v f d) f n in subst (TellsAs live m) (sym what) (told Top sort m refl refl refl)

-- ---- the nodes at the positions of a vertex, where those of its children tell

-- the nodes of the children at each position tell, where it is demanded there what marking demands
abbrev ChildrenTell : List Edge → Ctor → Expression → Forest → Type 0
ChildrenTell live c x f =
    (depth : ℕ) (p : Position) (d : Demanded) → d ≡ demanded_among (count_at f p) (demand x (types_before x (judged_in f) p (positions c) [])) → AllTell live (marked_children f depth p d)

module _ (live : List Edge) (x : Expression) (f : Forest) where
  -- the nodes of a position, where those of its children tell
  place_tells : (p : Position) (s : Sort) (before : List Typ) → ((depth : ℕ) (d : Demanded) → d ≡ demanded_among (count_at f p) (demand x before) → AllTell live (marked_children f depth p d))
      → (depth : ℕ) → AllTell live (marked_place (count_at f p) (λ at d. marked_children f at p d) depth p s (demand x before))
  place_tells p s before children depth = by_count (count_at f p) refl where
    by_count : (n : ℕ) → count_at f p ≡ n → AllTell live (marked_place n (λ at d. marked_children f at p d) depth p s (demand x before))
    by_count zero count = (plain_tells live s (demand x before).wanted (node_at depth p (Hole s)) (λ m. tt), tt)
    by_count (suc zero) count = children depth (demand x before) (ap (λ k. demanded_among k (demand x before)) (sym count))
    by_count (suc (suc n)) count = (
      plain_tells live s (demand x before).wanted (node_at depth p (Conflict s (suc (suc n)))) (λ m. tt),
      children (depth + 1) (synthesised_in (demand x before)) (ap (λ k. demanded_among k (demand x before)) (sym count)),
    )

  -- the children at each of some positions tell, where it is demanded there what marking demands after these types
  abbrev TellFrom : List (Position × Sort) → List Typ → Type 0
  TellFrom ps before =
      (depth : ℕ) (p : Position) (s : Sort) → sort_in ps p ≡ Some s → (d : Demanded) → d ≡ demanded_among (count_at f p) (demand x (types_before x (judged_in f) p ps before)) → AllTell live (marked_children f depth p d)

  places_tell_from : (low : ℕ) (ps : List (Position × Sort)) (before : List Typ) → Rises low ps → TellFrom ps before
      → (depth : ℕ) → AllTell live (marked_places x (count_at f) (marked_children f) (judged_in f) depth ps before)
  places_tell_from low [] before rises children depth = tt
  places_tell_from low (p ∷ ps) before rises children depth =
      let next : List Typ = if is_exp p.1 then (before ++ judged_in f p.0 (demand x before) ∷ []) else before in
      all_tell live (marked_place (count_at f p.0) (λ at d. marked_children f at p.0 d) depth p.0 p.1 (demand x before)) (marked_places x (count_at f) (marked_children f) (judged_in f) depth ps next)
      (place_tells p.0 p.1 before (λ at d is.
      children at p.0 p.1 (found_first p ps) d
      (is ∙ ap (λ b. demanded_among (count_at f p.0) (demand x (cond b before (types_before x (judged_in f) p.0 ps next)))) (sym (same_position_laws.refl p.0)))) depth)
      (places_tell_from (suc (position_number p.0)) ps next rises.1 (λ at q s there d is.
      children at q s (found_behind p ps q s rises.1 there) d
      (is ∙ ap (λ b. demanded_among (count_at f q) (demand x (cond b before (types_before x (judged_in f) q ps next)))) (sym (other_behind p ps q s rises.1 there)))) depth)

places_tell : (live : List Edge) (c : Ctor) (x : Expression) (f : Forest) → ChildrenTell live c x f → (depth : ℕ) → AllTell live (marked_places x (count_at f) (marked_children f) (judged_in f) depth (positions c) [])
places_tell live c x f children depth = places_tell_from live x f 0 (positions c) [] (positions_rise c) (λ at p s there d is. children at p d is) depth

-- ---- whole trees

module _ (live : List Edge) (well : AllByRecursion IsWellFormed live) where
  children_tell : (us : List VertexOf) (v : VertexOf) (f : Forest) (d : Demanded) → Stands live us v f d → (some : Forest) → ((e : Edge) (b : Forest) → IsTreeIn some e b → IsTreeIn f e b)
      → (depth : ℕ) (p : Position) (given : Demanded) → given ≡ demanded_at (expression_of v f d) f p → AllTell live (marked_children some depth p given)
  children_tell us v f d s none among depth p given is = tt
  children_tell us v f d s (multi_ref e rest) among depth p given is = by_test (is_same_position e.position p) (children_tell us v f d s rest among depth p given is) where
    by_test : (b : Bool) → AllTell live (marked_children rest depth p given)
        → AllTell live (cond b (marked_plain (sort_of_ctor e.target.ctor) given.wanted (child_node depth p e (MultiRef e.target)) ∷ marked_children rest depth p given) (marked_children rest depth p given))
    by_test true later = (plain_tells live (sort_of_ctor e.target.ctor) given.wanted (child_node depth p e (MultiRef e.target)) (λ m. tt), later)
    by_test false later = later
  children_tell us v f d s (cycle_ref e rest) among depth p given is = by_test (is_same_position e.position p) (children_tell us v f d s rest among depth p given is) where
    by_test : (b : Bool) → AllTell live (marked_children rest depth p given)
        → AllTell live (cond b (marked_plain (sort_of_ctor e.target.ctor) given.wanted (child_node depth p e (CycleRef e.target)) ∷ marked_children rest depth p given) (marked_children rest depth p given))
    by_test true later = (plain_tells live (sort_of_ctor e.target.ctor) given.wanted (child_node depth p e (CycleRef e.target)) (λ m. tt), later)
    by_test false later = later
  children_tell us v f d s (tree e below rest) among depth p given is =
      by_test (is_same_position e.position p) refl (children_tell us v f d s rest (λ x b there. among x b (inr there)) depth p given is)
      (λ stands. places_tell live e.target.ctor (expression_of e.target below given) below (λ at q demanded there. children_tell (v ∷ us) e.target below given stands below (λ x b here. here) at q demanded there) (depth + 1)) where
        x : Expression
        x = expression_of e.target below given

        stands_there : is_same_position e.position p ≡ true → Stands live (v ∷ us) e.target below given
        stands_there same =
            subst (Stands live (v ∷ us) e.target below) (ap (demanded_at (expression_of v f d) f) (one_position e.position p same) ∙ sym is)
            (child_stands live well v us f d s e below (among e below (inl (refl, refl))))

        by_test : (b : Bool) → is_same_position e.position p ≡ b → AllTell live (marked_children rest depth p given)
            → (Stands live (v ∷ us) e.target below given → AllTell live (marked_places (expression_of e.target below given) (count_at below) (marked_children below) (judged_in below) (depth + 1) (positions e.target.ctor) []))
            → AllTell live (cond b (marked_vertex (sort_of_ctor e.target.ctor) (expression_of e.target below given) below (child_node depth p e (Vertex e.target))
            ∷ (marked_places (expression_of e.target below given) (count_at below) (marked_children below) (judged_in below) (depth + 1) (positions e.target.ctor) [] ++ marked_children rest depth p given)) (marked_children rest depth p given))
        by_test true same later places = (
          vertex_tells live (v ∷ us) e.target below given (stands_there same) (child_node depth p e (Vertex e.target)) refl,
          all_tell live (marked_places (expression_of e.target below given) (count_at below) (marked_children below) (judged_in below) (depth + 1) (positions e.target.ctor) []) (marked_children rest depth p given) (places (stands_there same)) later,
        )
        by_test false other later places = later

  pub tree_tells : (v : VertexOf) (f : Forest) → (class live v ≡ Inner → ⊥) → StandsUnder live v f → AllByRecursion (λ m. Tells live m) (marked_tree v f)
  tree_tells v f outer stands =
      let s : Stands live [] v f alone = (outer, stands, refl) in
      (vertex_tells live [] v f alone s (head_node v) refl, places_tell live v.ctor (expression_of v f alone) f (λ at q demanded there. children_tell [] v f alone s f (λ x b here. here) at q demanded there) 1)
