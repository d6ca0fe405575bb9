-- The records of all vertices of the trees that an edit concerns, with the kept records of all other vertices, are those of the new graph.
use Rattle.std.proofs.Common.{◌≡◌, inl, inr, Bool, true, false, cond, List, [], ◌∷◌, ◌++◌, refl, sym, ap, subst, ◌∙◌}
use Rattle.std.specs.Prelude.{◌||◌, Some, None}
use Rattle.std.specs.List.{AllByRecursion}
use Rattle.std.proofs.lemmas.Bool.{or_left, or_right}
use Rattle.grove_sorts.specs.declared.position.Position.{Position}
use Rattle.grove_edits.specs.declared.vertex.Vertex.{Vertex}
use Rattle.grove_edits.specs.declared.edge.Edge.{Edge}
use Rattle.grove_edits.specs.declared.edit.Edit.{Edit}
use Rattle.grove_edits.specs.Edge.{IsWellFormed}
use Rattle.grove_edits.specs.Edit.{edit_edge}
use Rattle.grove_edits.specs.Graph.{Graph, graph}
use Rattle.graph_words.specs.declared.class.Class.TheVariants.{Inner}
use Rattle.grove_edits.specs.Vertex.{is_same_vertex, stands_in}
use Rattle.graph_words.specs.Class.{class}
use Rattle.graph_words.specs.Whole.{IsVertexOf, AreLive}
use Rattle.grove_edits.proofs.Vertices.{same_vertex_exact, same_vertex_itself}
use Rattle.grove_terms.specs.Forest.{Forest, none, multi_ref, cycle_ref, tree, StandsUnder}
use Rattle.grove_terms.proofs.Forests.{one_forest}
use Rattle.grove_terms.proofs.OneGrove.{vertices_of, vertices_are}
use Rattle.grove_terms.proofs.WellSorted.{live_well_formed}
use Rattle.mark_step.specs.Expression.{Demanded}
use Rattle.kept_records.specs.Kept.{Kept, Records, AreKept, alone, kept_of, expression_of, demanded_at, IsTreeIn, Stands, IsKeptOf}
use Rattle.kept_records.specs.Change.{top_of, IsConcerned}
use Rattle.kept_records.specs.Renewal.{put, all_under, all_in_tree, AreAllInTrees, CoverConcerned}
use Rattle.kept_records.proofs.Children.{IsTreeOf, children_are_of}
use Rattle.kept_records.proofs.Standing.{child_stands, stands_under, has_place}
use Rattle.kept_records.proofs.Scratch.{kept_there, above_vertex, target_vertex}
use Rattle.kept_records.proofs.Names.{has_name, name_first, name_later, name_left, name_right}
use Rattle.kept_records.proofs.Touched.{vertex_stays, concerned_back}
use Rattle.kept_records.proofs.Raised.{changed}
use Rattle.kept_records.proofs.Apart.{stood_apart}

module _ (new : List Edge) (well_new : AllByRecursion IsWellFormed new) (h : Graph) (live_new : AreLive h new) where
  -- the record is that of a vertex of the graph
  record IsOwn (m : Vertex × Kept) : Type 0 where
    above : List Vertex
    forest : Forest
    demanded : Demanded
    stands : Stands new above m.0 forest demanded
    vertex : IsVertexOf h m.0
    is : m.1 ≡ kept_of m.0 forest demanded

  own_append : (xs ys : List (Vertex × Kept)) → AllByRecursion IsOwn xs → AllByRecursion IsOwn ys → AllByRecursion IsOwn (xs ++ ys)
  own_append [] ys a b = b
  own_append (x ∷ xs) ys a b = (a.0, own_append xs ys a.1 b)

  vertex_below : (us : List Vertex) (v : Vertex) (f : Forest) (d : Demanded) → Stands new us v f d → (x : Edge) (b : Forest) → IsTreeIn f x b → IsVertexOf h x.target
  vertex_below us v f d s x b is =
      let under = stands_under new us v f d s in
      let of : IsTreeOf new v x = children_are_of new well_new v f under.edges x b is in
      target_vertex h new live_new well_new x of.held

  all_own : (us : List Vertex) (v : Vertex) (f : Forest) (d : Demanded) → Stands new us v f d → (some : Forest) → ((x : Edge) (b : Forest) → IsTreeIn some x b → IsTreeIn f x b)
      → AllByRecursion IsOwn (all_under (demanded_at (expression_of v f d) f) some)
  all_own us v f d s none among = tt
  all_own us v f d s (multi_ref x rest) among = all_own us v f d s rest among
  all_own us v f d s (cycle_ref x rest) among = all_own us v f d s rest among
  all_own us v f d s (tree x below rest) among =
      let given = demanded_at (expression_of v f d) f x.position in
      let there = child_stands new well_new v us f d s x below (among x below (inl (refl, refl))) in
      let here : IsOwn (x.target, kept_of x.target below given) = record {
        above = v ∷ us;
        forest = below;
        demanded = given;
        stands = there;
        vertex = vertex_below us v f d s x below (among x below (inl (refl, refl)));
        is = refl;
      } in
      own_append (all_under (demanded_at (expression_of x.target below given) below) below) ((x.target, kept_of x.target below given) ∷ all_under (demanded_at (expression_of v f d) f) rest)
      (all_own (v ∷ us) x.target below given there below (λ y b is. is)) (here, all_own us v f d s rest (λ y b is. among y b (inr is)))

  -- a vertex that has a record among those under another passes it on
  record Holds (f : Forest) (given : Position → Demanded) (x : Edge) (b : Forest) : Type 0 where
    itself : has_name x.target (all_under given f) ≡ true
    under : (w : Vertex) → has_name w (all_under (demanded_at (expression_of x.target b (given x.position)) b) b) ≡ true → has_name w (all_under given f) ≡ true

  all_hold : (given : Position → Demanded) (f : Forest) (x : Edge) (b : Forest) → IsTreeIn f x b → Holds f given x b
  all_hold given none x b is = absurd is
  all_hold given (multi_ref y rest) x b is = let r = all_hold given rest x b is in record { itself = r.itself; under = r.under }
  all_hold given (cycle_ref y rest) x b is = let r = all_hold given rest x b is in record { itself = r.itself; under = r.under }
  all_hold given (tree y below rest) x b (inl is) =
      let inner = all_under (demanded_at (expression_of y.target below (given y.position)) below) below in
      let m : Vertex × Kept = (y.target, kept_of y.target below (given y.position)) in
      let later = all_under given rest in
      record {
        itself = name_right x.target inner (m ∷ later) (name_first x.target m later (ap (λ (z : Edge). z.target) is.0));
        under = λ w k. name_left w inner (m ∷ later)
            (subst (λ (z : Edge). has_name w (all_under (demanded_at (expression_of z.target below (given z.position)) below) below) ≡ true) (sym is.0)
            (subst (λ g. has_name w (all_under (demanded_at (expression_of x.target g (given x.position)) g) g) ≡ true) (sym is.1) k));
      }
  all_hold given (tree y below rest) x b (inr is) =
      let inner = all_under (demanded_at (expression_of y.target below (given y.position)) below) below in
      let m : Vertex × Kept = (y.target, kept_of y.target below (given y.position)) in
      let later = all_under given rest in
      let r = all_hold given rest x b is in
      record {
        itself = name_right x.target inner (m ∷ later) (name_later x.target m later r.itself);
        under = λ w k. name_right w inner (m ∷ later) (name_later w m later (r.under w k));
      }

  module _ (head : Vertex) (f : Forest) (stands : StandsUnder new head f) where
    -- each vertex in the tree has a record, and so have those under it
    pub record InTree (v : Vertex) (g : Forest) (d : Demanded) : Type 0 where
      pub itself : has_name v (all_in_tree head f) ≡ true
      pub under : (w : Vertex) → has_name w (all_under (demanded_at (expression_of v g d) g) g) ≡ true → has_name w (all_in_tree head f) ≡ true

    pub in_tree : (us : List Vertex) (v : Vertex) (g : Forest) (d : Demanded) → Stands new us v g d → top_of v us ≡ head → InTree v g d
    in_tree [] v g d s top =
        let here : StandsUnder new v f = subst (λ x. StandsUnder new x f) (sym top) stands in
        let same : g ≡ f = one_forest new g f (s.1.edges ∙ sym here.edges) s.1.children here.children in
        let m : Vertex × Kept = (head, kept_of head f alone) in
        let inner = all_under (demanded_at (expression_of head f alone) f) f in
        record {
          itself = name_right v inner (m ∷ []) (name_first v m [] (sym top));
          under = λ w k. name_left w inner (m ∷ [])
              (subst (λ x. has_name w (all_under (demanded_at (expression_of x f alone) f) f) ≡ true) top
              (subst (λ x. has_name w (all_under (demanded_at (expression_of v f x) f) f) ≡ true) s.2
              (subst (λ x. has_name w (all_under (demanded_at (expression_of v x d) x) x) ≡ true) same k)));
        }
    in_tree (u ∷ us) v g d s top =
        let up = in_tree us u s.0 s.1 s.2 top in
        let held = all_hold (demanded_at (expression_of u s.0 s.1) s.0) s.0 s.3.edge g s.3.is_tree in
        record {
          itself = subst (λ x. has_name x (all_in_tree head f) ≡ true) s.3.target (up.under s.3.edge.target held.itself);
          under = λ w k. up.under w (held.under w
              (subst (λ x. has_name w (all_under (demanded_at (expression_of s.3.edge.target g x) g) g) ≡ true) s.3.demanded
              (subst (λ x. has_name w (all_under (demanded_at (expression_of x g d) g) g) ≡ true) (sym s.3.target) k)));
        }

  tree_own : (head : Vertex) (f : Forest) → (class new head ≡ Inner → ⊥) → StandsUnder new head f → IsVertexOf h head → AllByRecursion IsOwn (all_in_tree head f)
  tree_own head f outer stands vertex =
      let s : Stands new [] head f alone = (outer, stands, refl) in
      let here : IsOwn (head, kept_of head f alone) = record { above = []; forest = f; demanded = alone; stands = s; vertex = vertex; is = refl } in
      own_append (all_under (demanded_at (expression_of head f alone) f) f) ((head, kept_of head f alone) ∷ []) (all_own [] head f alone s f (λ y b is. is)) (here, tt)

  record AllTrees (heads : List Vertex) (made : List (Vertex × Kept)) : Type 0 where
    own : AllByRecursion IsOwn made
    each : (us : List Vertex) (v : Vertex) (g : Forest) (d : Demanded) → Stands new us v g d → stands_in (top_of v us) heads ≡ true → has_name v made ≡ true

  all_trees : (heads : List Vertex) → ((v : Vertex) → stands_in v heads ≡ true → class new v ≡ Inner → ⊥) → ((v : Vertex) → stands_in v heads ≡ true → IsVertexOf h v)
      → (made : List (Vertex × Kept)) → AreAllInTrees new heads made → AllTrees heads made
  all_trees [] outer vertices made are = record { own = subst (AllByRecursion IsOwn) (sym are) tt; each = λ us v g d s stands. absurd cc }
  all_trees (head ∷ heads) outer vertices made are =
      joined (all_trees heads (λ v stands. outer v (or_right (is_same_vertex head v) (stands_in v heads) stands)) (λ v stands. vertices v (or_right (is_same_vertex head v) (stands_in v heads) stands)) are.1 are.4) where
        first : stands_in head (head ∷ heads) ≡ true
        first = or_left (is_same_vertex head head) (stands_in head heads) (same_vertex_itself head)

        joined : AllTrees heads are.1 → AllTrees (head ∷ heads) made
        joined rest = record {
          own = subst (AllByRecursion IsOwn) (sym are.3) (own_append (all_in_tree head are.0) are.1 (tree_own head are.0 (outer head first) are.2 (vertices head first)) rest.own);
          each = λ us v g d s stands. ap (has_name v) are.3 ∙ by_test us v g d s (is_same_vertex head (top_of v us)) refl stands;
        } where
          by_test : (us : List Vertex) (v : Vertex) (g : Forest) (d : Demanded) → Stands new us v g d → (b : Bool) → is_same_vertex head (top_of v us) ≡ b → (b || stands_in (top_of v us) heads) ≡ true
              → has_name v (all_in_tree head are.0 ++ are.1) ≡ true
          by_test us v g d s true one stands = name_left v (all_in_tree head are.0) are.1 (in_tree head are.0 are.2 us v g d s (sym (same_vertex_exact head (top_of v us) one))).itself
          by_test us v g d s false other stands = name_right v (all_in_tree head are.0) are.1 (rest.each us v g d s stands)

  record FindsOwn (ms : List (Vertex × Kept)) (v : Vertex) : Type 0 where
    m : Vertex × Kept
    own : IsOwn m
    one : m.0 ≡ v
    puts : (rs : Records) → put ms rs v ≡ Some m.1

  find_own : (ms : List (Vertex × Kept)) → AllByRecursion IsOwn ms → (v : Vertex) → has_name v ms ≡ true → FindsOwn ms v
  find_own [] all v named = absurd cc
  find_own (x ∷ xs) all v named = by_test (is_same_vertex x.0 v) refl named (find_own xs all.1 v) where
    by_test : (b : Bool) → is_same_vertex x.0 v ≡ b → (b || has_name v xs) ≡ true → (has_name v xs ≡ true → FindsOwn xs v) → FindsOwn (x ∷ xs) v
    by_test true one k later = record { m = x; own = all.0; one = same_vertex_exact x.0 v one; puts = λ rs. ap (λ b. cond b (Some x.1) (put xs rs v)) one }
    by_test false other k later =
        let r = later k in record { m = r.m; own = r.own; one = r.one; puts = λ rs. ap (λ b. cond b (Some x.1) (put xs rs v)) other ∙ r.puts rs }

  put_outside : (ms : List (Vertex × Kept)) (rs : Records) (v : Vertex) → has_name v ms ≡ false → put ms rs v ≡ rs v
  put_outside [] rs v out = refl
  put_outside (x ∷ xs) rs v out = by_test (is_same_vertex x.0 v) refl out (put_outside xs rs v) where
    by_test : (b : Bool) → is_same_vertex x.0 v ≡ b → (b || has_name v xs) ≡ false → (has_name v xs ≡ false → put xs rs v ≡ rs v) → cond b (Some x.1) (put xs rs v) ≡ rs v
    by_test true one k later = absurd cc
    by_test false other k later = later k

top_heads : (live : List Edge) (us : List Vertex) (v : Vertex) (f : Forest) (d : Demanded) → Stands live us v f d → class live (top_of v us) ≡ Inner → ⊥
top_heads live [] v f d s = s.0
top_heads live (u ∷ us) v f d s = top_heads live us u s.0 s.1 s.2

-- ---- one edit

module _ (edits : List Edit) (edit : Edit) (old new : List Edge) (live_old : AreLive (graph edits) old) (live_new : AreLive (graph (edit ∷ edits)) new)
    (records : Records) (kept : AreKept (graph edits) old records) (heads : List Vertex) (cover : CoverConcerned (edit_edge edit) (graph edits) (graph (edit ∷ edits)) old new heads)
    (made : List (Vertex × Kept)) (are : AreAllInTrees new heads made) where
  well_old : AllByRecursion IsWellFormed old
  well_old = live_well_formed edits old live_old

  well_new : AllByRecursion IsWellFormed new
  well_new = live_well_formed (edit ∷ edits) new live_new

  h : Graph
  h = graph (edit ∷ edits)

  all : AllTrees new well_new (graph (edit ∷ edits)) live_new heads made
  all = all_trees new well_new (graph (edit ∷ edits)) live_new heads cover.are_heads cover.are_vertices made are

  clash : (b : Bool) → b ≡ true → b ≡ false → ⊥
  clash b is not_it = let e : true ≡ false = sym is ∙ not_it in cc

  top_vertex : (us : List Vertex) (v : Vertex) (f : Forest) (d : Demanded) → Stands new us v f d → IsVertexOf (graph (edit ∷ edits)) v → IsVertexOf (graph (edit ∷ edits)) (top_of v us)
  top_vertex [] v f d s is = is
  top_vertex (u ∷ us) v f d s is = top_vertex us u s.0 s.1 s.2 (above_vertex (graph (edit ∷ edits)) new live_new well_new u us v f d s)

  was_below : (us : List Vertex) (v : Vertex) (f : Forest) (d : Demanded) → Stands old us v f d → IsVertexOf (graph edits) (top_of v us) → IsVertexOf (graph edits) v
  was_below [] v f d s top = top
  was_below (u ∷ us) v f d s top =
      let under = stands_under old us u s.0 s.1 s.2 in
      let of : IsTreeOf old u s.3.edge = children_are_of old well_old u s.0 under.edges s.3.edge f s.3.is_tree in
      subst (IsVertexOf (graph edits)) s.3.target (target_vertex (graph edits) old live_old well_old s.3.edge of.held)

  -- a vertex in the tree of another head was one, and has its record still
  kept_elsewhere : (us : List Vertex) (v : Vertex) (f : Forest) (d : Demanded) → Stands new us v f d → IsVertexOf (graph (edit ∷ edits)) v → stands_in (top_of v us) heads ≡ false → records v ≡ Some (kept_of v f d)
  kept_elsewhere us v f d s is elsewhere =
      kept_there (graph edits) old live_old well_old records kept us v f d stood (was_below us v f d stood (head_was (stands_in (top_of v us) (vertices_of edits)) refl)) where
        outer : class new (top_of v us) ≡ Inner → ⊥
        outer = top_heads new us v f d s

        apart : IsConcerned (edit_edge edit) old new new (top_of v us) → ⊥
        apart c = clash (stands_in (top_of v us) heads) (cover.concerned (top_of v us) outer (concerned_back (edit_edge edit) old new new (top_of v us) c)) elsewhere

        stood : Stands old us v f d
        stood = stood_apart (edit_edge edit) old new (changed edits edit old new live_old live_new) well_new (top_of v us) apart us v f d well_old s refl

        head_was : (b : Bool) → stands_in (top_of v us) (vertices_of edits) ≡ b → IsVertexOf (graph edits) (top_of v us)
        head_was true stands = (vertices_are edits).no_other (top_of v us) stands
        head_was false stands =
            absurd (clash (stands_in (top_of v us) heads)
            (cover.come (top_of v us) (top_vertex us v f d s is) outer (λ vertex. clash (stands_in (top_of v us) (vertices_of edits)) ((vertices_are edits).each (top_of v us) vertex) stands)) elsewhere)

  elsewhere_from : (us : List Vertex) (v : Vertex) (f : Forest) (d : Demanded) → Stands new us v f d → has_name v made ≡ false → (b : Bool) → stands_in (top_of v us) heads ≡ b → stands_in (top_of v us) heads ≡ false
  elsewhere_from us v f d s out true stands = absurd (clash (has_name v made) (all.each us v f d s stands) out)
  elsewhere_from us v f d s out false stands = stands

  -- the records of all vertices of these trees, put in place of the kept ones, give the records of the new graph
  pub whole_keeps : AreKept (graph (edit ∷ edits)) new (put made records)
  whole_keeps = record { each = λ v is. each v is (has_name v made) refl; no_other = λ v outside. no_other v outside (has_name v made) refl } where
    each : (v : Vertex) → IsVertexOf (graph (edit ∷ edits)) v → (b : Bool) → has_name v made ≡ b → (k : Kept) × (put made records v ≡ Some k) × IsKeptOf new v k
    each v is true into =
        let found = find_own new well_new (graph (edit ∷ edits)) live_new made all.own v into in
        let o = found.own in
        let of : IsKeptOf new found.m.0 found.m.1 = record { above = o.above; forest = o.forest; demanded = o.demanded; stands = o.stands; is = o.is } in
        (found.m.1, found.puts records, subst (λ w. IsKeptOf new w found.m.1) found.one of)
    each v is false out =
        let p = has_place new well_new v in (
          kept_of v p.forest p.demanded,
          put_outside new well_new (graph (edit ∷ edits)) live_new made records v out
              ∙ kept_elsewhere p.above v p.forest p.demanded p.stands is (elsewhere_from p.above v p.forest p.demanded p.stands out (stands_in (top_of v p.above) heads) refl),
          record { above = p.above; forest = p.forest; demanded = p.demanded; stands = p.stands; is = refl },
        )

    no_other : (v : Vertex) → (IsVertexOf (graph (edit ∷ edits)) v → ⊥) → (b : Bool) → has_name v made ≡ b → put made records v ≡ None
    no_other v outside true into =
        let found = find_own new well_new (graph (edit ∷ edits)) live_new made all.own v into in
        absurd (outside (subst (IsVertexOf (graph (edit ∷ edits))) found.one found.own.vertex))
    no_other v outside false out =
        put_outside new well_new (graph (edit ∷ edits)) live_new made records v out ∙ kept.no_other v (λ is. outside (vertex_stays edits edit v is))
