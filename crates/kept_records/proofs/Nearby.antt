-- A walk down that begins near an edit: what it makes, with the kept records of all other vertices, are the records of the new graph,
-- where the type at its top stays.
use Rattle.std.proofs.Common.{◌≡◌, ◌⊎◌, inl, inr, Bool, true, false, cond, List, [], ◌∷◌, ◌++◌, refl, sym, ap, subst, ◌∙◌}
use Rattle.std.specs.Prelude.{◌||◌, ◌&&◌, Option, Some, None}
use Rattle.std.specs.List.{AllByRecursion}
use Rattle.std.proofs.lemmas.Bool.{or_cases, false_from_ne_true, or_left, or_right, and_parts}
use Rattle.grove_sorts.specs.declared.sort.Sort.TheVariants.{Top, Exp}
use Rattle.grove_sorts.specs.Ctor.{sort_of_ctor}
use Rattle.grove_edits.specs.declared.vertex.Vertex.{Vertex}
use Rattle.grove_edits.specs.declared.edge.Edge.{Edge}
use Rattle.grove_edits.specs.Edge.{IsWellFormed}
use Rattle.grove_edits.specs.Graph.{Graph}
use Rattle.grove_edits.specs.Vertex.{is_same_vertex, stands_in}
use Rattle.grove_edits.proofs.Vertices.{same_vertex_exact, same_vertex_itself}
use Rattle.graph_words.specs.declared.class.Class.TheVariants.{Inner}
use Rattle.graph_words.specs.Live.{holds_edge, parents_of}
use Rattle.graph_words.specs.Walk.{only_source, walk}
use Rattle.graph_words.specs.Class.{class, is_same_class}
use Rattle.graph_words.specs.Whole.{IsVertexOf, AreLive}
use Rattle.graph_words.proofs.Chains.{IsChain, has_chain, chain_apart, inner_from_test, chain_is_one}
use Rattle.grove_terms.specs.Forest.{Forest, edges_under, StandsUnder}
use Rattle.mark_step.specs.Expression.{Demanded}
use Rattle.mark_step.specs.Step.{settled}
use Rattle.marking.specs.Types.{tree_type}
use Rattle.marking.specs.Marking.{children_types}
use Rattle.kept_records.specs.Kept.{Kept, Records, AreKept, alone, kept_of, expression_of, demanded_at, Stands}
use Rattle.kept_records.specs.Local.{is_inner, scope_in, wanted_in, typ_in, kept_demand, demanded_below, demanded_by, demanded_of, IsRightAt, AreRight}
use Rattle.kept_records.specs.Change.{Changes, CyclesStay, is_on_walks, StandOnce, IsNear}
use Rattle.kept_records.specs.Renewal.{HasToBeJudged, IsLeft, names, put}
use Rattle.kept_records.specs.Short.{SourceAloneSees, MakesTarget, within, on_way, left, judged, IsShortWalk, TypeStays}
use Rattle.grove_sorts.proofs.Truths.{not_both, neither}
use Rattle.kept_records.proofs.Sorts.{IsJudged}
use Rattle.kept_records.proofs.Children.{sole_parent, IsTreeOf, under_are_of, children_are_of}
use Rattle.kept_records.proofs.Standing.{stands_under, below_inner, edge_of_child, source_of_child, child_stands, HasPlace, has_place}
use Rattle.kept_records.proofs.Scratch.{kept_of_any, settled_any, demand_kept, of_head, top_alone, judged_above, agrees_by_truth, demands_by_truth, target_vertex, above_vertex, marking_is_right, own_demand, right_is_marking}
use Rattle.kept_records.proofs.Agreement.{AgreesAt, settled_agrees}
use Rattle.kept_records.proofs.Edits.{under_stay, parents_stay, class_stays}
use Rattle.kept_records.proofs.OnWalks.{walk_closed, begins_walk, on_new_source, source_on_walks, target_on_walks}
use Rattle.kept_records.proofs.Near.{Stood, stood_as_kept, stood_below, kept_as_stood, differs}
use Rattle.kept_records.proofs.Apart.{class_or}
use Rattle.kept_records.proofs.Decided.{edge_or}
use Rattle.kept_records.proofs.Names.{has_name, name_left, name_right}
use Rattle.kept_records.proofs.Made as judged_again
use Rattle.kept_records.proofs.Once.{once_append}
use Rattle.kept_records.proofs.Frame.{SeesTheSame, settled_same, below_same}
use Rattle.kept_records.proofs.Line as line
use Rattle.kept_records.proofs.Along.{kept_along}
use Rattle.kept_records.proofs.OffLine.{came_off_line, target_off_line}
use Rattle.kept_records.proofs.Starting.{judged_or, StartsAt, starts_at, same_forest, start_named, start_made, start_once, start_pass}

split_names : (w : Vertex) (xs ys : List (Vertex × Kept)) → has_name w (xs ++ ys) ≡ true → (has_name w xs ≡ true) ⊎ (has_name w ys ≡ true)
split_names w [] ys is = inr is
split_names w (x ∷ xs) ys is = by_test (is_same_vertex x.0 w) is (split_names w xs ys) where
  by_test : (b : Bool) → (b || has_name w (xs ++ ys)) ≡ true → (has_name w (xs ++ ys) ≡ true → (has_name w xs ≡ true) ⊎ (has_name w ys ≡ true)) → ((b || has_name w xs) ≡ true) ⊎ (has_name w ys ≡ true)
  by_test true is later = inl refl
  by_test false is later = later is

-- what stands above a vertex of a walk, up to the head of its tree, stands on the walk
pub on_walk_up : (live : List Edge) (from x : Vertex) (ws : List Vertex) → IsChain live x ws → stands_in x (walk live from) ≡ true → (v : Vertex) → stands_in v (x ∷ ws) ≡ true → stands_in v (walk live from) ≡ true
on_walk_up live from x [] is there v stands = by_test (is_same_vertex x v) refl stands where
  by_test : (b : Bool) → is_same_vertex x v ≡ b → (b || false) ≡ true → stands_in v (walk live from) ≡ true
  by_test true same stands = ap (λ z. stands_in z (walk live from)) (sym (same_vertex_exact x v same)) ∙ there
  by_test false other stands = absurd cc
on_walk_up live from x (w ∷ ws) is there v stands =
    by_test (is_same_vertex x v) refl stands
    (on_walk_up live from w ws is.4 (walk_closed live from x w there (ap only_source is.2 ∙ ap Some is.3)) v) where
      by_test : (b : Bool) → is_same_vertex x v ≡ b → (b || stands_in v (w ∷ ws)) ≡ true → (stands_in v (w ∷ ws) ≡ true → stands_in v (walk live from) ≡ true) → stands_in v (walk live from) ≡ true
      by_test true same stands later = ap (λ z. stands_in z (walk live from)) (sym (same_vertex_exact x v same)) ∙ there
      by_test false other stands later = later stands

-- of two vertices in a list the later one stands at the other or behind it
later_of : (ps cs qs ds : List Vertex) (x y : Vertex) → ps ++ x ∷ cs ≡ qs ++ y ∷ ds → (stands_in y (x ∷ cs) ≡ true) ⊎ (stands_in x (y ∷ ds) ≡ true)
later_of [] cs qs ds x y same = inl (ap (stands_in y) same ∙ line.stands_behind qs y (y ∷ ds) (line.itself_first y ds))
later_of (a ∷ ps) cs [] ds x y same = inr (ap (stands_in x) (sym same) ∙ line.stands_behind (a ∷ ps) x (x ∷ cs) (line.itself_first x cs))
later_of (a ∷ ps) cs (b ∷ qs) ds x y same = later_of ps cs qs ds x y (tail_of a b (ps ++ x ∷ cs) (qs ++ y ∷ ds) same) where
  tail_of : (p q : Vertex) (xs ys : List Vertex) → p ∷ xs ≡ q ∷ ys → xs ≡ ys
  tail_of p q xs ys e = cc

module _ (e : Edge) (old new : List Edge) (change : Changes e old new) (stay : CyclesStay old new) (well_old : AllByRecursion IsWellFormed old) (well_new : AllByRecursion IsWellFormed new)
    (g h : Graph) (live_old : AreLive g old) (live_new : AreLive h new) (was : (v : Vertex) → IsVertexOf h v → is_on_walks e old new v ≡ false → IsVertexOf g v)
    (stays : (v : Vertex) → IsVertexOf g v → IsVertexOf h v) (on_vertex : (v : Vertex) → is_on_walks e old new v ≡ true → IsVertexOf h v)
    (decided : (v : Vertex) → IsVertexOf g v ⊎ (IsVertexOf g v → ⊥)) (at_ends : (v : Vertex) → IsVertexOf h v → (IsVertexOf g v → ⊥) → (v ≡ e.source) ⊎ (v ≡ e.target))
    (held_before : (x : Edge) → holds_edge x new ≡ true → (x ≡ e → ⊥) → holds_edge x old ≡ true)
    (records : Records) (kept : AreKept g old records)
    (way : List Vertex) (top : Vertex) (on : Vertex → Bool) (made : List (Vertex × Kept)) (w : IsShortWalk e g h old new records way top on made) where
  abbrev on_line : Vertex → Bool
  on_line = line.on_line e old new change stay

  line_on_walks : (v : Vertex) → on_line v ≡ true → is_on_walks e old new v ≡ true
  line_on_walks v is =
      on_new_source e old new v (on_walk_up new e.source e.source (line.rises e old new change stay) (has_chain new e.source).is (begins_walk new e.source) v is)

  source_inside : stands_in e.source (e.source ∷ way) ≡ true
  source_inside = line.itself_first e.source way

  abbrev up : line.IsWay new e.source (line.rises e old new change stay) way top
  up = line.the_way e old new change stay way top w.leads

  top_on_line : on_line top ≡ true
  top_on_line = line.way_on_line e old new change stay way top w.leads top up.last

  -- ---- where the walk begins

  at_top : HasPlace new well_new top
  at_top = has_place new well_new top

  own_starts : StartsAt on new records h live_new well_new top at_top.forest at_top.demanded w.own
  own_starts =
      starts_at on new records h live_new well_new at_top.above top at_top.forest at_top.demanded at_top.stands (kept_demand records top)
      (kept_along e old new change stay well_old well_new w.alone_sees g live_old records kept decided at_top.above top at_top.forest at_top.demanded at_top.stands top_on_line) w.own w.makes_own

  at_target : HasPlace new well_new e.target
  at_target = has_place new well_new e.target

  -- whether one walk begins at the target, and what else holds of it
  record TargetPart : Type 0 where
    begins : Bool
    outer : begins ≡ true → class new e.target ≡ Inner → ⊥
    off : begins ≡ true → on_line e.target ≡ false
    cause : begins ≡ true → HasToBeJudged on records e.target alone
    starts : begins ≡ true → StartsAt on new records h live_new well_new e.target at_target.forest alone w.target
    nothing : begins ≡ false → w.target ≡ []
    why : begins ≡ false → (class new e.target ≡ Inner) ⊎ ((stands_in e.target (e.source ∷ way) ≡ true) ⊎ IsLeft on records e.target alone)

  -- a vertex that heads a tree stands at one place
  heads_there : (v : Vertex) → (class new v ≡ Inner → ⊥) → (us : List Vertex) (f : Forest) (d : Demanded) → Stands new us v f d → (us ≡ []) × (d ≡ alone)
  heads_there v outer [] f d s = (refl, s.2)
  heads_there v outer (u ∷ us) f d s = absurd (outer (below_inner new u us v f d s))

  target_part : TargetPart
  target_part = by_case w.makes_target where
    none_begun : w.target ≡ [] → (class new e.target ≡ Inner) ⊎ ((stands_in e.target (e.source ∷ way) ≡ true) ⊎ IsLeft on records e.target alone) → TargetPart
    none_begun nothing why = record {
      begins = false;
      outer = λ is. absurd cc;
      off = λ is. absurd cc;
      cause = λ is. absurd cc;
      starts = λ is. absurd cc;
      nothing = λ _. nothing;
      why = λ _. why;
    }

    by_case : MakesTarget e new records way on w.target → TargetPart
    by_case (within inner nothing) = none_begun nothing (inl inner)
    by_case (on_way there nothing) = none_begun nothing (inr (inl there))
    by_case (left is nothing) = none_begun nothing (inr (inr is))
    by_case (judged outer not_on_way not_left makes) = record {
      begins = true;
      outer = λ _. outer;
      off = λ _.
          target_off_line e old new change stay well_old well_new g h live_old live_new was decided held_before records kept way on w.anew w.alone_sees outer not_on_way not_left;
      cause = λ _. cause (on e.target) refl (judged_or e.target.ctor);
      starts = λ _. starts_at on new records h live_new well_new [] e.target at_target.forest alone alone_there alone (λ _. refl) w.target makes;
      nothing = λ is. absurd cc;
      why = λ is. absurd cc;
    } where
      alone_there : Stands new [] e.target at_target.forest alone
      alone_there =
          let at = heads_there e.target outer at_target.above at_target.forest at_target.demanded at_target.stands in
          subst (λ x. Stands new [] e.target at_target.forest x) at.1 (subst (λ us. Stands new us e.target at_target.forest at_target.demanded) at.0 at_target.stands)

      cause : (b : Bool) → on e.target ≡ b → IsJudged e.target.ctor ⊎ (IsJudged e.target.ctor → ⊥) → HasToBeJudged on records e.target alone
      cause true is sorted = inl is
      cause false is (inr plain) = absurd (not_left (is, λ sort. absurd (plain (inl sort))))
      cause false is (inl (inl sort)) = inr (sort, λ same. not_left (is, λ _. same))
      cause false is (inl (inr top)) = absurd (not_left (is, λ sort. let x : Top ≡ Exp = sym top ∙ sort in cc))

  -- ---- what is made

  part : TargetPart
  part = target_part

  target_there : part.begins ≡ true → Stands new [] e.target at_target.forest alone
  target_there begun =
      let at = heads_there e.target (part.outer begun) at_target.above at_target.forest at_target.demanded at_target.stands in
      subst (λ x. Stands new [] e.target at_target.forest x) at.1 (subst (λ us. Stands new us e.target at_target.forest at_target.demanded) at.0 at_target.stands)

  abbrev AreMade : List (Vertex × Kept) → List (Vertex × Kept) → Type 0
  AreMade = judged_again.AreMade on new records h live_new well_new

  top_made : AreMade made w.own
  top_made =
      start_made on new records h live_new well_new at_top.above top at_top.forest at_top.demanded at_top.stands w.own own_starts (on_vertex top (line_on_walks top top_on_line))
      (inl (w.anew.way_on top up.last)) made (λ v named. ap (has_name v) w.all ∙ name_right v w.target w.own named)

  by_begun : (b : Bool) → part.begins ≡ b → AreMade made w.target
  by_begun true begun =
      start_made on new records h live_new well_new [] e.target at_target.forest alone (target_there begun) w.target (part.starts begun) (on_vertex e.target (target_on_walks e old new))
      (part.cause begun) made (λ v named. ap (has_name v) w.all ∙ name_left v w.target w.own named)
  by_begun false not_begun = subst (AreMade made) (sym (part.nothing not_begun)) tt

  all_made : AreMade made made
  all_made =
      subst (AreMade made) (sym w.all)
      (judged_again.made_append on new records h live_new well_new made w.target w.own (by_begun part.begins refl) top_made)

  -- ---- the vertices below those where walks begin

  abbrev is_start : Vertex → Bool
  is_start x = is_same_vertex top x || (part.begins && is_same_vertex e.target x)

  abbrev inside : List Vertex → Bool
  inside [] = false
  inside (x ∷ xs) = is_start x || inside xs

  top_starts : is_start top ≡ true
  top_starts = or_left (is_same_vertex top top) (part.begins && is_same_vertex e.target top) (same_vertex_itself top)

  target_starts : part.begins ≡ true → is_start e.target ≡ true
  target_starts begun =
      or_right (is_same_vertex top e.target) (part.begins && is_same_vertex e.target e.target)
      (ap (λ b. b && is_same_vertex e.target e.target) begun ∙ same_vertex_itself e.target)

  data StartsThere (x : Vertex) : Type 0 where
    is_top : top ≡ x → StartsThere x
    is_target : part.begins ≡ true → e.target ≡ x → StartsThere x

  start_cases : (x : Vertex) → is_start x ≡ true → StartsThere x
  start_cases x is = by_side (or_cases (is_same_vertex top x) (part.begins && is_same_vertex e.target x) is) where
    by_side : (is_same_vertex top x ≡ true) ⊎ ((part.begins && is_same_vertex e.target x) ≡ true) → StartsThere x
    by_side (inl same) = is_top (same_vertex_exact top x same)
    by_side (inr both) = let parts = and_parts part.begins (is_same_vertex e.target x) both in is_target parts.0 (same_vertex_exact e.target x parts.1)

  start_inside : (x : Vertex) → is_start x ≡ true → (xs : List Vertex) → stands_in x xs ≡ true → inside xs ≡ true
  start_inside x starts [] stands = absurd cc
  start_inside x starts (y ∷ ys) stands = by_test (is_same_vertex y x) refl stands (start_inside x starts ys) where
    by_test : (b : Bool) → is_same_vertex y x ≡ b → (b || stands_in x ys) ≡ true → (stands_in x ys ≡ true → inside ys ≡ true) → (is_start y || inside ys) ≡ true
    by_test true same stands later = or_left (is_start y) (inside ys) (ap is_start (same_vertex_exact y x same) ∙ starts)
    by_test false other stands later = or_right (is_start y) (inside ys) (later stands)

  record HasStart (xs : List Vertex) : Type 0 where
    start : Vertex
    starts : StartsThere start
    stands : stands_in start xs ≡ true

  inside_has : (xs : List Vertex) → inside xs ≡ true → HasStart xs
  inside_has [] is = absurd cc
  inside_has (x ∷ xs) is = by_side (or_cases (is_start x) (inside xs) is) (inside_has xs) where
    by_side : (is_start x ≡ true) ⊎ (inside xs ≡ true) → (inside xs ≡ true → HasStart xs) → HasStart (x ∷ xs)
    by_side (inl starts) later = record { start = x; starts = start_cases x starts; stands = line.itself_first x xs }
    by_side (inr deep) later = let r = later deep in record { start = r.start; starts = r.starts; stands = or_right (is_same_vertex x r.start) (stands_in r.start xs) r.stands }

  -- what stands strictly below and is not judged whatever is demanded of it is off the line
  strictly_off : (us : List Vertex) (v : Vertex) (f : Forest) (d : Demanded) → Stands new us v f d → inside us ≡ true → on v ≡ false → on_line v ≡ false
  strictly_off us v f d s deep off = false_from_ne_true (on_line v) refuted where
    chain : IsChain new v us
    chain = line.chain_of new well_new us v f d s

    by_start : (x : Vertex) → StartsThere x → stands_in x us ≡ true → on_line v ≡ true → ⊥
    by_start x (is_top one) stands is =
        not_both (on v)
        (w.anew.way_on v (line.below_on_way e old new change stay way top w.leads v us chain (ap (λ z. stands_in z us) one ∙ stands) is)) off
    by_start x (is_target begun one) stands is =
        let r = line.find_on new e.source (line.rises e old new change stay) (has_chain new e.source).is v is in
        let same = chain_is_one new v r.behind us r.chain chain in
        not_both (on_line e.target)
        (ap (stands_in e.target) (r.split ∙ ap (λ ws. r.before ++ v ∷ ws) same)
        ∙ line.stands_behind r.before e.target (v ∷ us) (or_right (is_same_vertex v e.target) (stands_in e.target us) (ap (λ z. stands_in z us) one ∙ stands)))
        (part.off begun)

    refuted : on_line v ≡ true → ⊥
    refuted is = let r = inside_has us deep in by_start r.start r.starts r.stands is

  named_start : (x : Vertex) → is_start x ≡ true → has_name x made ≡ true
  named_start x starts = by_start (start_cases x starts) where
    by_start : StartsThere x → has_name x made ≡ true
    by_start (is_top one) =
        ap (has_name x) w.all
        ∙ name_right x w.target w.own (ap (λ z. has_name z w.own) (sym one) ∙ start_named on new records h live_new well_new at_top.above top at_top.forest at_top.demanded at_top.stands w.own own_starts)
    by_start (is_target begun one) =
        ap (has_name x) w.all
        ∙ name_left x w.target w.own (ap (λ z. has_name z w.target) (sym one) ∙ start_named on new records h live_new well_new [] e.target at_target.forest alone (target_there begun) w.target (part.starts begun))

  not_start : (x : Vertex) → has_name x made ≡ false → is_start x ≡ false
  not_start x out = false_from_ne_true (is_start x) (λ starts. not_both (has_name x made) (named_start x starts) out)

  known_left : (v : Vertex) → IsVertexOf h v → on v ≡ false → IsVertexOf g v
  known_left v is off = by_known (decided v) where
    by_known : IsVertexOf g v ⊎ (IsVertexOf g v → ⊥) → IsVertexOf g v
    by_known (inl known) = known
    by_known (inr outside) = absurd (not_both (on v) (w.anew.came_on v is outside) off)

  -- what stands there and is not judged again stood there, with the same under it, where the same was demanded of it
  record Remains (v : Vertex) (f : Forest) (d : Demanded) : Type 0 where
    stood : Stood old v f d
    known : IsVertexOf g v

  remains : (us : List Vertex) (v : Vertex) (f : Forest) (d : Demanded) → Stands new us v f d → IsVertexOf h v → inside (v ∷ us) ≡ true → has_name v made ≡ false → Remains v f d
  remains [] v f d s is deep out = absurd (by_side (or_cases (is_start v) false deep)) where
    by_side : (is_start v ≡ true) ⊎ (false ≡ true) → ⊥
    by_side (inl starts) = not_both (has_name v made) (named_start v starts) out
    by_side (inr never) = cc
  remains (u ∷ us) v f d s is deep out =
      by_named (has_name u made) refl (remains us u s.0 s.1 s.2 (above_vertex h new live_new well_new u us v f d s) higher) where
        higher : inside (u ∷ us) ≡ true
        higher = sym (ap (λ b. b || inside (u ∷ us)) (not_start v out)) ∙ deep

        by_child : IsLeft on records v d ⊎ (has_name v made ≡ true) → Remains v f d
        by_child (inl is_left) =
            let known = known_left v is is_left.0 in
            record {
              stood = stood_as_kept e old new change stay well_old well_new g h live_old live_new was records kept v f d
                  (line.stood_under e old new change stay w.alone_sees v f (strictly_off (u ∷ us) v f d s higher is_left.0) (stands_under new (u ∷ us) v f d s)) known is_left.1;
              known = known;
            }
        by_child (inr named) = absurd (not_both (has_name v made) named out)

        by_above : Remains u s.0 s.1 → Remains v f d
        by_above r =
            let q = r.stood in
            let under : StandsUnder old u s.0 = stands_under old q.above u s.0 q.given q.stands in
            let of : IsTreeOf old u s.3.edge = children_are_of old well_old u s.0 under.edges s.3.edge f s.3.is_tree in
            record {
              stood = stood_below e old new change stay well_old well_new g h live_old live_new was records kept u us v f d s q;
              known = subst (IsVertexOf g) s.3.target (target_vertex g old live_old well_old s.3.edge of.held);
            }

        by_named : (b : Bool) → has_name u made ≡ b → (has_name u made ≡ false → Remains u s.0 s.1) → Remains v f d
        by_named true named later = by_child (judged_again.child_made on new records h live_new well_new made all_made u us v f d s named)
        by_named false out_u later = by_above (later out_u)

  -- so there each vertex has the record that marking says
  inside_truth : (us : List Vertex) (v : Vertex) (f : Forest) (d : Demanded) → Stands new us v f d → IsVertexOf h v → inside (v ∷ us) ≡ true → put made records v ≡ Some (kept_of v f d)
  inside_truth us v f d s is deep = by_named (has_name v made) refl where
    by_named : (b : Bool) → has_name v made ≡ b → put made records v ≡ Some (kept_of v f d)
    by_named true named = judged_again.named_is on new records h live_new well_new made all_made us v f d s named
    by_named false out =
        let r = remains us v f d s is deep out in
        judged_again.put_outside on new records h live_new well_new made records v out
        ∙ kept_as_stood e old new change stay well_old well_new g h live_old live_new was records kept v f d r.stood r.known

  -- ---- the records are right at each vertex

  abbrev after : Records
  after = put made records

  old_right : AreRight g old records
  old_right = marking_is_right g old live_old well_old records kept

  right_before : (v : Vertex) → IsVertexOf g v → IsRightAt old records v
  right_before v is = old_right.each v is

  chain_inside : (u : Vertex) (us : List Vertex) (v : Vertex) (f : Forest) (d : Demanded) → Stands new (u ∷ us) v f d → inside (u ∷ us) ≡ true → inside (v ∷ u ∷ us) ≡ true
  chain_inside u us v f d s deep = or_right (is_start v) (inside (u ∷ us)) deep

  inside_agrees : (us : List Vertex) (v : Vertex) (f : Forest) (d : Demanded) → Stands new us v f d → inside (v ∷ us) ≡ true → AgreesAt new after v f d
  inside_agrees us v f d s deep =
      agrees_by_truth new well_new after us v f d s
      (λ x b is.
      let there = child_stands new well_new v us f d s x b is in
      inside_truth (v ∷ us) x.target b (demanded_at (expression_of v f d) f x.position) there
      (target_vertex h new live_new well_new x (children_are_of new well_new v f (stands_under new us v f d s).edges x b is).held)
      (chain_inside v us x.target b (demanded_at (expression_of v f d) f x.position) there deep))

  inside_demand : (us : List Vertex) (v : Vertex) (f : Forest) (d : Demanded) → Stands new us v f d → IsVertexOf h v → inside (v ∷ us) ≡ true → IsJudged v.ctor → kept_demand after v ≡ d
  inside_demand us v f d s is deep sorted =
      demand_kept (sort_of_ctor v.ctor) d (settled (expression_of v f d) (children_types (expression_of v f d) f)) (tree_type v.ctor f) after v
      (inside_truth us v f d s is deep) sorted (top_alone new well_new us v f d s)

  -- ---- other vertices

  -- a vertex of which none is judged again has the record that it had
  named_inside : (v : Vertex) → has_name v made ≡ true → (us : List Vertex) (f : Forest) (d : Demanded) → Stands new us v f d → inside (v ∷ us) ≡ true
  named_inside v named us f d s = by_side (split_names v w.target w.own (ap (has_name v) (sym w.all) ∙ named)) where
    placed : (x : Vertex) (base : List Vertex) → is_start x ≡ true → (above_it before : List Vertex) → IsChain new v above_it → v ∷ above_it ≡ before ++ x ∷ base → inside (v ∷ us) ≡ true
    placed x base starts above_it before chain split =
        start_inside x starts (v ∷ us)
        (ap (stands_in x) (ap (λ ws. v ∷ ws) (chain_is_one new v us above_it (line.chain_of new well_new us v f d s) chain) ∙ split) ∙ line.stands_behind before x (x ∷ base) (line.itself_first x base))

    by_target : (b : Bool) → part.begins ≡ b → has_name v w.target ≡ true → inside (v ∷ us) ≡ true
    by_target true begun named_there =
        let p = start_pass on new records h live_new well_new [] e.target at_target.forest alone (target_there begun) w.target (part.starts begun) v named_there in
        placed e.target [] (target_starts begun) p.above_it p.before (line.chain_of new well_new p.above_it v p.forest p.demanded p.stands) p.chain
    by_target false not_begun named_there = absurd (not_both (has_name v w.target) named_there (ap (has_name v) (part.nothing not_begun)))

    by_side : (has_name v w.target ≡ true) ⊎ (has_name v w.own ≡ true) → inside (v ∷ us) ≡ true
    by_side (inl there) = by_target part.begins refl there
    by_side (inr there) =
        let p = start_pass on new records h live_new well_new at_top.above top at_top.forest at_top.demanded at_top.stands w.own own_starts v there in
        placed top at_top.above top_starts p.above_it p.before (line.chain_of new well_new p.above_it v p.forest p.demanded p.stands) p.chain

  outside_keeps : (us : List Vertex) (v : Vertex) (f : Forest) (d : Demanded) → Stands new us v f d → inside (v ∷ us) ≡ false → after v ≡ records v
  outside_keeps us v f d s out =
      judged_again.put_outside on new records h live_new well_new made records v
      (false_from_ne_true (has_name v made) (λ named. not_both (inside (v ∷ us)) (named_inside v named us f d s) out))

  -- the source is judged again
  source_deep : (us : List Vertex) (f : Forest) (d : Demanded) → Stands new us e.source f d → inside (e.source ∷ us) ≡ true
  source_deep us f d s =
      start_inside top top_starts (e.source ∷ us)
      (ap (λ ws. stands_in top (e.source ∷ ws)) (chain_is_one new e.source us (line.rises e old new change stay) (line.chain_of new well_new us e.source f d s) (has_chain new e.source).is) ∙ top_on_line)

  outside_no_source : (us : List Vertex) (v : Vertex) (f : Forest) (d : Demanded) → Stands new us v f d → inside (v ∷ us) ≡ false → v ≡ e.source → ⊥
  outside_no_source us v f d s out one =
      not_both (inside (v ∷ us)) (ap (λ x. inside (x ∷ us)) one ∙ source_deep us f d (subst (λ x. Stands new us x f d) one s)) out

  not_source : (us : List Vertex) (v : Vertex) (f : Forest) (d : Demanded) → Stands new us v f d → inside (v ∷ us) ≡ false → is_same_vertex e.source v ≡ false
  not_source us v f d s out = false_from_ne_true (is_same_vertex e.source v) (λ same. outside_no_source us v f d s out (sym (same_vertex_exact e.source v same)))

  -- and so is each vertex on the way, since it stands at the top or below it
  way_inside : (us : List Vertex) (v : Vertex) (f : Forest) (d : Demanded) → Stands new us v f d → stands_in v (e.source ∷ way) ≡ true → inside (v ∷ us) ≡ true
  way_inside us v f d s there =
      start_inside top top_starts (v ∷ us)
      (line.way_below e old new change stay way top w.leads v us (line.chain_of new well_new us v f d s) there)

  -- what stands above the top is not inside
  above_top_out : (u : Vertex) (us : List Vertex) (f : Forest) (d : Demanded) → Stands new (u ∷ us) top f d → inside (u ∷ us) ≡ false
  above_top_out u us f d s = false_from_ne_true (inside (u ∷ us)) (λ deep. by_start (inside_has (u ∷ us) deep).start (inside_has (u ∷ us) deep).starts (inside_has (u ∷ us) deep).stands) where
    chain : IsChain new top (u ∷ us)
    chain = line.chain_of new well_new (u ∷ us) top f d s

    by_start : (x : Vertex) → StartsThere x → stands_in x (u ∷ us) ≡ true → ⊥
    by_start x (is_top one) stands = not_both (stands_in top (u ∷ us)) (ap (λ z. stands_in z (u ∷ us)) one ∙ stands) (chain_apart new top (u ∷ us) chain)
    by_start x (is_target begun one) stands =
        not_both (on_line e.target)
        (line.above_top_on_line e old new change stay way top w.leads e.target
        (ap (stands_in e.target) (chain_is_one new top up.base (u ∷ us) up.chain chain) ∙ ap (λ z. stands_in z (u ∷ us)) one ∙ stands))
        (part.off begun)

  module _ (stays_above : TypeStays new records top w.makes_own.forest) where
    top_typ : class new top ≡ Inner → typ_in (after top) ≡ typ_in (records top)
    top_typ inner =
        ap typ_in (inside_truth at_top.above top at_top.forest at_top.demanded at_top.stands (on_vertex top (line_on_walks top top_on_line))
        (start_inside top top_starts (top ∷ at_top.above) (line.itself_first top at_top.above)))
        ∙ ap (λ d. typ_in (Some (kept_of top at_top.forest d))) refl
        ∙ ap typ_in (ap Some (kept_of_any top at_top.forest at_top.demanded (kept_demand records top) (λ sort.
        sym (kept_along e old new change stay well_old well_new w.alone_sees g live_old records kept decided at_top.above top at_top.forest at_top.demanded at_top.stands top_on_line (inl sort)))))
        ∙ ap (λ f. typ_in (Some (kept_of top f (kept_demand records top))))
        (sym (same_forest on new records h live_new well_new at_top.above top at_top.forest at_top.demanded at_top.stands w.makes_own.forest w.makes_own.stands))
        ∙ stays_above inner

    -- a vertex that is not inside sees what it saw
    outside_sees : (us : List Vertex) (v : Vertex) (f : Forest) (d : Demanded) → Stands new us v f d → inside (v ∷ us) ≡ false → AllByRecursion (SeesTheSame old new records after) (edges_under new v)
    outside_sees us v f d s out = all (edges_under new v) (under_are_of new well_new v) where
      under : StandsUnder new v f
      under = stands_under new us v f d s

      sees : (x : Edge) → IsTreeOf new v x → SeesTheSame old new records after x
      sees x of = record {
        inner = ap (λ c. is_same_class c Inner) (line.seen_by_others e old new change stay w.alone_sees x (inr of.held) (λ one. outside_no_source us v f d s out (sym of.source ∙ one)));
        typ = λ is. sym (same_typ (inner_from_test new x.target is));
      } where
        same_typ : class new x.target ≡ Inner → typ_in (after x.target) ≡ typ_in (records x.target)
        same_typ inner = by_place (has_place new well_new x.target).above (has_place new well_new x.target).stands where
          by_place : (ws : List Vertex) → Stands new ws x.target (has_place new well_new x.target).forest (has_place new well_new x.target).demanded → typ_in (after x.target) ≡ typ_in (records x.target)
          by_place [] s' = absurd (s'.0 inner)
          by_place (u ∷ ws) s' = by_start (is_start x.target) refl where
            parent : u ≡ v
            parent =
                sym (source_of_child new well_new u ws x.target (has_place new well_new x.target).forest (has_place new well_new x.target).demanded s')
                ∙ ap (λ (y : Edge). y.source)
                (one_edge_of s'.3.edge x (sym (edge_of_child new well_new u ws x.target (has_place new well_new x.target).forest (has_place new well_new x.target).demanded s') ∙ sole_parent new x of.held inner))
                ∙ of.source
              where
                one_edge_of : (a b : Edge) → a ∷ [] ≡ b ∷ [] → a ≡ b
                one_edge_of a b same = cc

            out_above : inside (u ∷ ws) ≡ false
            out_above =
                ap (λ z. inside (z ∷ ws)) parent
                ∙ ap (λ zs. inside (v ∷ zs)) (chain_is_one new v ws us (subst (λ z. IsChain new z ws) parent (line.chain_of new well_new ws u s'.0 s'.1 s'.2)) (line.chain_of new well_new us v f d s))
                ∙ out

            by_start : (b : Bool) → is_start x.target ≡ b → typ_in (after x.target) ≡ typ_in (records x.target)
            by_start true starts = by_case (start_cases x.target starts) where
              by_case : StartsThere x.target → typ_in (after x.target) ≡ typ_in (records x.target)
              by_case (is_top one) = ap (λ z. typ_in (after z)) (sym one) ∙ top_typ (ap (class new) one ∙ inner) ∙ ap (λ z. typ_in (records z)) one
              by_case (is_target begun one) = absurd (part.outer begun (ap (class new) one ∙ inner))
            by_start false not_one =
                ap typ_in (outside_keeps (u ∷ ws) x.target (has_place new well_new x.target).forest (has_place new well_new x.target).demanded s' (ap (λ b. b || inside (u ∷ ws)) not_one ∙ out_above))

      all : (es : List Edge) → AllByRecursion (IsTreeOf new v) es → AllByRecursion (SeesTheSame old new records after) es
      all [] of = tt
      all (x ∷ xs) of = (sees x of.0, all xs of.1)

    -- what is demanded of it, by a vertex above it that is not inside either, is what was
    below_demand : (u : Vertex) (us : List Vertex) (v : Vertex) (f : Forest) (d : Demanded) → Stands new (u ∷ us) v f d → inside (u ∷ us) ≡ false → parents_of v old ≡ parents_of v new → class old v ≡ class new v
        → demanded_of new after v ≡ demanded_of old records v
    below_demand u us v f d s out same_parents same_class =
        ap (λ b. cond b (demanded_by new after (parents_of v new)) alone) inner_new
        ∙ ap (demanded_by new after) sole
        ∙ ap (λ x. demanded_below new after x s.3.edge.position) source
        ∙ sym (below_same old new records after u under (outside_sees us u s.0 s.1 s.2 out) own s.3.edge.position)
        ∙ ap (λ x. demanded_below old records x s.3.edge.position) (sym source)
        ∙ sym (ap (demanded_by old records) (same_parents ∙ sole))
        ∙ sym (ap (λ b. cond b (demanded_by old records (parents_of v old)) alone) (ap (λ c. is_same_class c Inner) same_class ∙ inner_new))
      where
        inner_new : is_inner new v ≡ true
        inner_new = ap (λ c. is_same_class c Inner) (below_inner new u us v f d s)

        sole : parents_of v new ≡ s.3.edge ∷ []
        sole = edge_of_child new well_new u us v f d s

        source : s.3.edge.source ≡ u
        source = source_of_child new well_new u us v f d s

        under : edges_under old u ≡ edges_under new u
        under = under_stay e old new change u (not_source us u s.0 s.1 s.2 out)

        own : kept_demand records u ≡ kept_demand after u
        own = ap (λ (o : Option Kept). let x : Demanded = record { scope = scope_in o; wanted = wanted_in o } in x) (sym (outside_keeps us u s.0 s.1 s.2 out))

    heads_demand : (v : Vertex) → (class new v ≡ Inner → ⊥) → (class old v ≡ Inner → ⊥) → demanded_of new after v ≡ demanded_of old records v
    heads_demand v outer_new outer_old = of_head new after v outer_new ∙ sym (of_head old records v outer_old)

    kept_is_demanded : (v : Vertex) → IsVertexOf g v → sort_of_ctor v.ctor ≡ Exp → kept_demand records v ≡ demanded_of old records v
    kept_is_demanded v is sort =
        own_demand g old live_old well_old records old_right v (right_before v is) (inl sort) (λ top. let x : Exp ≡ Top = sym sort ∙ top in cc)

    -- of a vertex that is not below another that is judged again the same is demanded as before
    same_demand : (us : List Vertex) (v : Vertex) (f : Forest) (d : Demanded) → Stands new us v f d → IsVertexOf g v → inside us ≡ false → (is_start v ≡ true → top ≡ v) → sort_of_ctor v.ctor ≡ Exp
        → demanded_of new after v ≡ demanded_of old records v
    same_demand us v f d s is out only_top sort = by_target (is_same_vertex e.target v) refl where
      by_place : (ws : List Vertex) → Stands new ws v f d → inside ws ≡ false → parents_of v old ≡ parents_of v new → class old v ≡ class new v → demanded_of new after v ≡ demanded_of old records v
      by_place [] s' out' same_parents same_class = heads_demand v s'.0 (λ inner. s'.0 (sym same_class ∙ inner))
      by_place (u ∷ ws) s' out' same_parents same_class = below_demand u ws v f d s' out' same_parents same_class

      of_target : e.target ≡ v → SourceAloneSees e old new → demanded_of new after v ≡ demanded_of old records v
      of_target one (inl unchanged) = by_place us s out (ap (parents_of v) unchanged) (ap (λ live. class live v) unchanged)
      of_target one (inr (inl shared)) =
          heads_demand v (λ inner. shared.1 (ap (class new) one ∙ inner)) (λ inner. shared.1 (sym shared.0 ∙ ap (class old) one ∙ inner))
      of_target one (inr (inr from)) = by_class (class_or (class new e.target) Inner) (class_or (class old e.target) Inner) where
        -- below the source it would be inside
        refuted : class new e.target ≡ Inner → (ws : List Vertex) → Stands new ws v f d → inside ws ≡ false → ⊥
        refuted inner [] s' out' = s'.0 (ap (class new) (sym one) ∙ inner)
        refuted inner (u ∷ ws) s' out' =
            let under = stands_under new ws u s'.0 s'.1 s'.2 in
            let of : IsTreeOf new u s'.3.edge = children_are_of new well_new u s'.0 under.edges s'.3.edge f s'.3.is_tree in
            let source : u ≡ e.source = sym of.source ∙ from s'.3.edge (inr of.held) (s'.3.target ∙ sym one) in
            outside_no_source ws u s'.0 s'.1 s'.2 out' source

        not_at_top : on_line e.target ≡ false → top ≡ v → ⊥
        not_at_top off at = not_both (on_line e.target) (ap on_line (one ∙ sym at) ∙ top_on_line) off

        left_alone : class old e.target ≡ Inner → (class new e.target ≡ Inner → ⊥) → (b : Bool) → part.begins ≡ b → kept_demand records v ≡ alone
        left_alone inner outer true begun =
            absurd (not_at_top (part.off begun) (only_top (ap is_start (sym one) ∙ target_starts begun)))
        left_alone inner outer false not_begun = by_why (part.why not_begun) where
          by_why : (class new e.target ≡ Inner) ⊎ ((stands_in e.target (e.source ∷ way) ≡ true) ⊎ IsLeft on records e.target alone) → kept_demand records v ≡ alone
          by_why (inl inner_new) = absurd (outer inner_new)
          by_why (inr (inl there)) =
              absurd (not_both (on_line e.target) (line.way_on_line e old new change stay way top w.leads e.target there) (line.not_above_old e old new change stay from inner))
          by_why (inr (inr is_left)) = ap (kept_demand records) (sym one) ∙ is_left.1 (ap (λ (x : Vertex). sort_of_ctor x.ctor) one ∙ sort)

        by_class : (class new e.target ≡ Inner) ⊎ (class new e.target ≡ Inner → ⊥) → (class old e.target ≡ Inner) ⊎ (class old e.target ≡ Inner → ⊥) → demanded_of new after v ≡ demanded_of old records v
        by_class (inl inner) old_class = absurd (refuted inner us s out)
        by_class (inr outer) (inr outer_old) = heads_demand v (λ inner. outer (ap (class new) one ∙ inner)) (λ inner. outer_old (ap (class old) one ∙ inner))
        by_class (inr outer) (inl inner) =
            of_head new after v (λ inner_new. outer (ap (class new) one ∙ inner_new)) ∙ sym (left_alone inner outer part.begins refl) ∙ kept_is_demanded v is sort

      by_target : (b : Bool) → is_same_vertex e.target v ≡ b → demanded_of new after v ≡ demanded_of old records v
      by_target true same = of_target (same_vertex_exact e.target v same) w.alone_sees
      by_target false other = by_place us s out (parents_stay e old new change v other) (class_stays e old new change v other (stay v))

    -- ---- each vertex

    -- what came is judged again
    came_inside : (us : List Vertex) (v : Vertex) (f : Forest) (d : Demanded) → Stands new us v f d → IsVertexOf h v → (IsVertexOf g v → ⊥) → inside (v ∷ us) ≡ true
    came_inside us v f d s is outside = by_end (at_ends v is outside) where
      on_there : on v ≡ true
      on_there = w.anew.came_on v is outside

      by_target : e.target ≡ v → (b : Bool) → part.begins ≡ b → inside (v ∷ us) ≡ true
      by_target one true begun = or_left (is_start v) (inside us) (ap is_start (sym one) ∙ target_starts begun)
      by_target one false not_begun = by_why (part.why not_begun) where
        by_why : (class new e.target ≡ Inner) ⊎ ((stands_in e.target (e.source ∷ way) ≡ true) ⊎ IsLeft on records e.target alone) → inside (v ∷ us) ≡ true
        by_why (inl inner) = below us s where
          below : (ws : List Vertex) → Stands new ws v f d → inside (v ∷ ws) ≡ true
          below [] s' = absurd (s'.0 (ap (class new) (sym one) ∙ inner))
          below (u ∷ ws) s' =
              let under = stands_under new ws u s'.0 s'.1 s'.2 in
              let of : IsTreeOf new u s'.3.edge = children_are_of new well_new u s'.0 under.edges s'.3.edge f s'.3.is_tree in
              or_right (is_start v) (inside (u ∷ ws)) (by_edge of (unless_same s'.3.edge e))
            where
              unless_same : (x y : Edge) → (x ≡ y) ⊎ (x ≡ y → ⊥)
              unless_same = edge_or

              by_edge : IsTreeOf new u s'.3.edge → (s'.3.edge ≡ e) ⊎ (s'.3.edge ≡ e → ⊥) → inside (u ∷ ws) ≡ true
              by_edge of (inl same) =
                  let source : u ≡ e.source = sym of.source ∙ ap (λ (x : Edge). x.source) same in
                  ap (λ x. inside (x ∷ ws)) source ∙ source_deep ws s'.0 s'.1 (subst (λ x. Stands new ws x s'.0 s'.1) source s'.2)
              by_edge of (inr differs) =
                  absurd (outside (subst (IsVertexOf g) s'.3.target (target_vertex g old live_old well_old s'.3.edge (held_before s'.3.edge of.held differs))))
        by_why (inr (inl there)) = on_way_inside (ap (λ x. stands_in x (e.source ∷ way)) (sym one) ∙ there) where
          on_way_inside : stands_in v (e.source ∷ way) ≡ true → inside (v ∷ us) ≡ true
          on_way_inside there' = way_inside us v f d s there'
        by_why (inr (inr is_left)) = absurd (not_both (on v) on_there (ap on (sym one) ∙ is_left.0))

      by_end : (v ≡ e.source) ⊎ (v ≡ e.target) → inside (v ∷ us) ≡ true
      by_end (inl one) = ap (λ x. inside (x ∷ us)) one ∙ source_deep us f d (subst (λ x. Stands new us x f d) one s)
      by_end (inr one) = by_target (sym one) part.begins refl

    right_at : (us : List Vertex) (v : Vertex) (f : Forest) (d : Demanded) → Stands new us v f d → IsVertexOf h v → (b : Bool) → inside (v ∷ us) ≡ b → IsRightAt new after v
    right_at us v f d s is true deep =
        inside_truth us v f d s is deep
        ∙ ap Some (sym (settled_agrees new after v f d (stands_under new us v f d s) (inside_agrees us v f d s deep)) ∙ sym (settled_any new after v (demanded_of new after v) d demanded)) where
          by_above : (ws : List Vertex) → (s' : Stands new ws v f d) → sort_of_ctor v.ctor ≡ Exp → (b : Bool) → inside ws ≡ b → demanded_of new after v ≡ d
          by_above [] s' sort true never = absurd cc
          by_above (u ∷ ws) s' sort true higher =
              demands_by_truth new well_new after u ws v f d s' (inside_agrees ws u s'.0 s'.1 s'.2 higher)
              (inside_demand ws u s'.0 s'.1 s'.2 (above_vertex h new live_new well_new u ws v f d s') higher (judged_above new well_new u ws v f d s' sort))
          by_above ws s' sort false lower = at_start (start_cases v starts) where
            starts : is_start v ≡ true
            starts = by_side (or_cases (is_start v) (inside us) deep) where
              by_side : (is_start v ≡ true) ⊎ (inside us ≡ true) → is_start v ≡ true
              by_side (inl starts) = starts
              by_side (inr higher) =
                  absurd (not_both (inside us) higher (ap inside (chain_is_one new v us ws (line.chain_of new well_new us v f d s) (line.chain_of new well_new ws v f d s')) ∙ lower))

            at_start : StartsThere v → demanded_of new after v ≡ d
            at_start (is_target begun one) =
                let outer : class new v ≡ Inner → ⊥ = λ inner. part.outer begun (ap (class new) one ∙ inner) in
                of_head new after v outer ∙ sym (heads_there v outer ws f d s').1
            at_start (is_top one) = by_known (decided v) where
              told : kept_demand records v ≡ d
              told =
                  kept_along e old new change stay well_old well_new w.alone_sees g live_old records kept decided ws v f d s' (ap on_line (sym one) ∙ top_on_line) (inl sort)

              by_known : IsVertexOf g v ⊎ (IsVertexOf g v → ⊥) → demanded_of new after v ≡ d
              by_known (inl known) = same_demand ws v f d s' known lower (λ _. one) sort ∙ sym (kept_is_demanded v known sort) ∙ told
              by_known (inr outside) = alone_came ws s' where
                alone_came : (xs : List Vertex) → Stands new xs v f d → demanded_of new after v ≡ d
                alone_came [] s'' = of_head new after v s''.0 ∙ sym s''.2
                alone_came (u ∷ xs) s'' =
                    let under = stands_under new xs u s''.0 s''.1 s''.2 in
                    let of : IsTreeOf new u s''.3.edge = children_are_of new well_new u s''.0 under.edges s''.3.edge f s''.3.is_tree in
                    absurd (by_edge of (edge_or s''.3.edge e))
                  where
                    by_edge : IsTreeOf new u s''.3.edge → (s''.3.edge ≡ e) ⊎ (s''.3.edge ≡ e → ⊥) → ⊥
                    by_edge of (inr differs) = outside (subst (IsVertexOf g) s''.3.target (target_vertex g old live_old well_old s''.3.edge (held_before s''.3.edge of.held differs)))
                    by_edge of (inl same) =
                        came_off_line e old new change stay well_old well_new g h live_old live_new was decided held_before records kept way on w.anew v outside
                        (λ source. round (sym s''.3.target ∙ ap (λ (x : Edge). x.target) same) source)
                        (ap on_line (sym one) ∙ top_on_line)
                      where
                        -- no vertex stands below itself
                        round : v ≡ e.target → v ≡ e.source → ⊥
                        round target source =
                            let below : u ≡ v = sym (source_of_child new well_new u xs v f d s'') ∙ ap (λ (x : Edge). x.source) same ∙ sym source in
                            not_both (stands_in v (u ∷ xs)) (ap (λ x. stands_in v (x ∷ xs)) below ∙ line.itself_first v xs)
                            (chain_apart new v (u ∷ xs) (line.chain_of new well_new (u ∷ xs) v f d s''))

          demanded : sort_of_ctor v.ctor ≡ Exp → demanded_of new after v ≡ d
          demanded sort = by_above us s sort (inside us) refl
    right_at us v f d s is false out =
        outside_keeps us v f d s out ∙ right_before v known
        ∙ ap Some (settled_same old new records after v (under_stay e old new change v (not_source us v f d s out)) (outside_sees us v f d s out) (demanded_of old records v)
        ∙ settled_any new after v (demanded_of old records v) (demanded_of new after v)
        (λ sort. sym (same_demand us v f d s known (neither (is_start v) (inside us) out).1 (λ starts. absurd (not_both (is_start v) starts (neither (is_start v) (inside us) out).0)) sort))) where
          known : IsVertexOf g v
          known = by_known (decided v) where
            by_known : IsVertexOf g v ⊎ (IsVertexOf g v → ⊥) → IsVertexOf g v
            by_known (inl is_known) = is_known
            by_known (inr outside) = absurd (not_both (inside (v ∷ us)) (came_inside us v f d s is outside) out)

    -- put in place of the kept records, those that were made give the records of the new graph
    pub nearby_kept : AreKept h new (put made records)
    nearby_kept = right_is_marking h new live_new well_new after (record { each = each; no_other = no_other }) where
      each : (v : Vertex) → IsVertexOf h v → IsRightAt new after v
      each v is = let p = has_place new well_new v in right_at p.above v p.forest p.demanded p.stands is (inside (v ∷ p.above)) refl

      no_other : (v : Vertex) → (IsVertexOf h v → ⊥) → after v ≡ None
      no_other v outside = by_name (has_name v made) refl where
        by_name : (b : Bool) → has_name v made ≡ b → after v ≡ None
        by_name true named =
            let found = judged_again.find_made on new records h live_new well_new made made all_made v named in absurd (outside (subst (IsVertexOf h) found.one found.made.vertex))
        by_name false out = judged_again.put_outside on new records h live_new well_new made records v out ∙ kept.no_other v (λ known. outside (stays v known))

  -- ---- what is judged again is near, and stands once

  pub nearby_near : (v : Vertex) → has_name v made ≡ true → IsNear e old new v
  nearby_near v named = by_cause found.made.cause where
    found : judged_again.HasMade on new records h live_new well_new made made v
    found = judged_again.find_made on new records h live_new well_new made made all_made v named

    there : Stands new found.made.above v found.made.forest found.made.demanded
    there = subst (λ x. Stands new found.made.above x found.made.forest found.made.demanded) found.one found.made.stands

    vertex : IsVertexOf h v
    vertex = subst (IsVertexOf h) found.one found.made.vertex

    near_on : on v ≡ true → IsNear e old new v
    near_on is = by_why (w.anew.no_other v is) where
      by_why : (stands_in v (e.source ∷ way) ≡ true) ⊎ (IsVertexOf h v × (IsVertexOf g v → ⊥)) → IsNear e old new v
      by_why (inl on_the_way) = inl (line_on_walks v (line.way_on_line e old new change stay way top w.leads v on_the_way))
      by_why (inr came) = by_end (at_ends v came.0 came.1) where
        by_end : (v ≡ e.source) ⊎ (v ≡ e.target) → IsNear e old new v
        by_end (inl one) = inl (ap (is_on_walks e old new) one ∙ source_on_walks e old new)
        by_end (inr one) = inl (ap (is_on_walks e old new) one ∙ target_on_walks e old new)

    by_on : (b : Bool) → on v ≡ b → sort_of_ctor v.ctor ≡ Exp → (kept_demand records v ≡ found.made.demanded → ⊥) → IsNear e old new v
    by_on true is sort other = near_on is
    by_on false off sort other =
        inr (differs e old new change stay well_old well_new g h live_old live_new was records kept found.made.above v found.made.forest found.made.demanded there (known_left v vertex off) sort other)

    by_cause : HasToBeJudged on records found.m.0 found.made.demanded → IsNear e old new v
    by_cause (inl is) = near_on (ap on (sym found.one) ∙ is)
    by_cause (inr other) =
        by_on (on v) refl (ap (λ (x : Vertex). sort_of_ctor x.ctor) (sym found.one) ∙ other.0) (λ same. other.1 (ap (kept_demand records) found.one ∙ same))

  pub nearby_once : StandOnce (names made)
  nearby_once = subst (λ ms. StandOnce (names ms)) (sym w.all) (by_begun_once part.begins refl) where
    own_once : StandOnce (names w.own)
    own_once = start_once on new records h live_new well_new at_top.above top at_top.forest at_top.demanded at_top.stands w.own own_starts

    by_begun_once : (b : Bool) → part.begins ≡ b → StandOnce (names (w.target ++ w.own))
    by_begun_once false not_begun = subst (λ ms. StandOnce (names (ms ++ w.own))) (sym (part.nothing not_begun)) own_once
    by_begun_once true begun =
        once_append w.target w.own (start_once on new records h live_new well_new [] e.target at_target.forest alone (target_there begun) w.target (part.starts begun)) own_once apart where
          apart : (v : Vertex) → has_name v w.target ≡ true → has_name v w.own ≡ true → ⊥
          apart v in_target in_own =
              let a = start_pass on new records h live_new well_new [] e.target at_target.forest alone (target_there begun) w.target (part.starts begun) v in_target in
              let b = start_pass on new records h live_new well_new at_top.above top at_top.forest at_top.demanded at_top.stands w.own own_starts v in_own in
              let one = chain_is_one new v a.above_it b.above_it (line.chain_of new well_new a.above_it v a.forest a.demanded a.stands) (line.chain_of new well_new b.above_it v b.forest b.demanded b.stands) in
              refuted (later_of b.before at_top.above a.before [] top e.target (sym b.chain ∙ ap (λ ws. v ∷ ws) (sym one) ∙ a.chain)) where
                high : stands_in e.target (top ∷ at_top.above) ≡ true → ⊥
                high stands = not_both (on_line e.target) (by_side (or_cases (is_same_vertex top e.target) (stands_in e.target at_top.above) stands)) (part.off begun) where
                  by_side : (is_same_vertex top e.target ≡ true) ⊎ (stands_in e.target at_top.above ≡ true) → on_line e.target ≡ true
                  by_side (inl same) = ap on_line (sym (same_vertex_exact top e.target same)) ∙ top_on_line
                  by_side (inr higher) =
                      line.above_top_on_line e old new change stay way top w.leads e.target
                      (ap (stands_in e.target) (chain_is_one new top up.base at_top.above up.chain (line.chain_of new well_new at_top.above top at_top.forest at_top.demanded at_top.stands)) ∙ higher)

                refuted : (stands_in e.target (top ∷ at_top.above) ≡ true) ⊎ (stands_in top (e.target ∷ []) ≡ true) → ⊥
                refuted (inl stands) = high stands
                refuted (inr same) = high (by_one (or_cases (is_same_vertex e.target top) false same)) where
                  by_one : (is_same_vertex e.target top ≡ true) ⊎ (false ≡ true) → stands_in e.target (top ∷ at_top.above) ≡ true
                  by_one (inl one) = ap (λ x. stands_in e.target (x ∷ at_top.above)) (sym (same_vertex_exact e.target top one)) ∙ line.itself_first e.target at_top.above
                  by_one (inr never) = absurd cc
