-- The records that a short walk makes, put in place of the kept ones, are those of the new graph.
use Rattle.std.proofs.Common.{◌≡◌, ◌⊎◌, inl, inr, ℕ, ◌+◌, ◌*◌, ◌≤◌, Bool, true, false, List, [], ◌∷◌, ◌++◌, Option, Some, None, refl, sym, ap, subst, ◌∙◌, append_assoc, arith}
use Rattle.std.specs.Prelude.{◌||◌, unwrap_or}
use Rattle.std.specs.List.{AllByRecursion}
use Rattle.std.specs.Option.{option_map}
use Rattle.std.proofs.lemmas.List.{map-append}
use Rattle.grove_sorts.specs.declared.sort.Sort.{Sort}
use Rattle.grove_sorts.specs.declared.sort.Sort.TheVariants.{Top, Exp, Pat, Typ as TypeSort}
use Rattle.grove_sorts.specs.Ctor.{sort_of_ctor}
use Rattle.grove_edits.specs.declared.vertex.Vertex.{Vertex}
use Rattle.grove_edits.specs.declared.edge.Edge.{Edge}
use Rattle.grove_edits.specs.declared.edit.Edit.{Edit}
use Rattle.grove_edits.specs.Edge.{IsWellFormed}
use Rattle.grove_edits.specs.Edit.{edit_edge}
use Rattle.grove_edits.specs.Graph.{graph}
use Rattle.grove_edits.specs.Vertex.{is_same_vertex, stands_in}
use Rattle.grove_edits.proofs.Vertices.{same_vertex_itself, same_vertex_exact}
use Rattle.graph_words.specs.declared.class.Class.TheVariants.{Inner}
use Rattle.graph_words.specs.Class.{class}
use Rattle.graph_words.specs.Whole.{AreLive, IsVertexOf}
use Rattle.grove_terms.proofs.WellSorted.{live_well_formed}
use Rattle.type_core.specs.Typ.{Typ, Unknown}
use Rattle.type_core.specs.TypeTable.{type_at, KeepsTypes}
use Rattle.ctx_table.specs.Context.{Context}
use Rattle.ctx_table.specs.CtxTable.{KeepsContexts}
use Rattle.mark_step.specs.declared.node.Demand.{Demand}
use Rattle.mark_step.specs.Expression.{Demanded}
use Rattle.mark_step.specs.Node as node
use Rattle.judging.proofs.Running.{Agree}
use Rattle.kept_records.specs.Kept.{Kept, Records, AreKept, Stands, kept_of}
use Rattle.kept_records.specs.Local.{kept_demand, typ_in}
use Rattle.kept_records.specs.Change.{CyclesStay, AreNear, near_size}
use Rattle.kept_records.specs.Renewal.{put}
use Rattle.kept_records.specs.Short.{SourceAloneSees, LeadsUp, IsJudgedAnew, MakesTarget, within, on_way, left as short_left, judged, IsShortWalk}
use Rattle.kept_records.proofs.OnWalks.{target_on_walks}
use Rattle.kept_records.proofs.Edited.{near_vertex}
use Rattle.kept_records.proofs.Raised.{vertex_was}
use Rattle.kept_records.proofs.Standing.{has_place}
use Rattle.mark_store.specs.declared.record.Record.{Record}
use Rattle.mark_store.specs.Places.{Places, value_at, holds}
use Rattle.mark_incremental.specs.Reading.{kept_by, records_at, AreRecordsOf}
use Rattle.mark_incremental.specs.Looking.{on}
use Rattle.mark_incremental.specs.Walking.{start_at, IsStart, LeavesRightBelow, meant}
use Rattle.mark_incremental.specs.ShortWalks.{IsSeenByOne, IsDemandThere, EndsWithType, IsCameOrSource, IsAlone, MakesAlone, inner, begins, left, by_itself, LeavesRightAlone, MakesBoth, HasMadeBoth, AreBothPaidFor}
use Rattle.mark_incremental.specs.Standing.{KeptMarks, records_in, put_in}
use Rattle.mark_incremental.proofs.Growth.{records_at-kept}
use Rattle.mark_incremental.proofs.Steps.{kept_demand_of}
use Rattle.mark_incremental.proofs.NearRenewed.{put_read}
use Rattle.mark_incremental.proofs.NearCost.{lighter}
use Rattle.mark_incremental.proofs.Renewed.{vertex_below}
use Rattle.kept_records.proofs.Short.{short_kept, short_within, demand_at_top, left_below_top, left_below_target}
use Rattle.grove_sorts.proofs.Truths.{not_both}

-- ---- the way

-- the top is the vertex with which the way begins, or on the way
pub top_on_way : (live : List Edge) (v : Vertex) (way : List Vertex) (top : Vertex) → LeadsUp live v way top → stands_in top (v ∷ way) ≡ true
top_on_way live v [] top leads = ap (λ (w : Vertex). is_same_vertex w top || false) leads ∙ ap (λ b. b || false) (same_vertex_itself top)
top_on_way live v (w ∷ ws) top leads = by (is_same_vertex v top) (top_on_way live w ws top leads.2) where
  by : (b : Bool) → stands_in top (w ∷ ws) ≡ true → (b || stands_in top (w ∷ ws)) ≡ true
  by true h = refl
  by false h = h

-- a vertex on the way that heads a tree is the top
pub outer_on_way : (live : List Edge) (t v : Vertex) (way : List Vertex) (top : Vertex) → LeadsUp live v way top → (class live t ≡ Inner → ⊥) → stands_in t (v ∷ way) ≡ true → t ≡ top
outer_on_way live t v [] top leads outer stands = sym (same_vertex_exact v t (only (is_same_vertex v t) stands)) ∙ leads where
  only : (b : Bool) → (b || false) ≡ true → b ≡ true
  only true h = refl
  only false h = h
outer_on_way live t v (w ∷ ws) top leads outer stands = by (is_same_vertex v t) refl stands (outer_on_way live t w ws top leads.2 outer) where
  by : (b : Bool) → is_same_vertex v t ≡ b → (b || stands_in t (w ∷ ws)) ≡ true → (stands_in t (w ∷ ws) ≡ true → t ≡ top) → t ≡ top
  by true same h later = absurd (outer (ap (class live) (sym (same_vertex_exact v t same)) ∙ leads.0))
  by false same h later = later h

-- ---- which vertices are judged again

or_three : (a b c : Bool) → (a || (b || c)) ≡ true → (a ≡ true) ⊎ ((b ≡ true) ⊎ (c ≡ true))
or_three true b c h = inl refl
or_three false true c h = inr (inl refl)
or_three false false true h = inr (inr refl)
or_three false false false h = absurd cc

no_record : (k : Kept) (o : Option Kept) → o ≡ Some k → o ≡ None → ⊥
no_record k o some none = let clash : Some k ≡ None = sym some ∙ none in cc

none_meant : (types : List Typ) (ctxs : List Context) (o : Option Record) → option_map (kept_by types ctxs) o ≡ None → o ≡ None
none_meant types ctxs None is = refl
none_meant types ctxs (Some r) is = absurd cc

module _ (edits : List Edit) (edit : Edit) (old new : List Edge) (are_old : AreLive (graph edits) old) (are_new : AreLive (graph (edit ∷ edits)) new) (types : List Typ) (ctxs : List Context) (places : Places Record)
    (kept : AreKept (graph edits) old (records_at types ctxs places)) (way : List Vertex) (further : Vertex) (is_further : IsCameOrSource places (edit_edge edit) further) (set : Places Bool)
    (passes : (v : Vertex) → holds set v ≡ (stands_in v way || (is_same_vertex further v || is_same_vertex (edit_edge edit).source v))) where
  abbrev e : Edge
  e = edit_edge edit

  pub judged_anew : IsJudgedAnew (edit_edge edit) (graph edits) (graph (edit ∷ edits)) way (on false set)
  judged_anew = record {
    way_on = λ v stands. passes v ∙ on_it (stands_in v way) (is_same_vertex further v) (is_same_vertex e.source v) stands;
    came_on = λ v is was. came v is was (holds set v) refl;
    no_other = λ v is. only v (or_three (stands_in v way) (is_same_vertex further v) (is_same_vertex e.source v) (sym (passes v) ∙ is));
  } where
    on_it : (a b c : Bool) → (c || a) ≡ true → (a || (b || c)) ≡ true
    on_it true b c h = refl
    on_it false true c h = refl
    on_it false false true h = refl
    on_it false false false h = h

    at_source : (v : Vertex) → is_same_vertex e.source v ≡ true → stands_in v (e.source ∷ way) ≡ true
    at_source v same = ap (λ b. b || stands_in v way) same

    on_way_too : (b a : Bool) → a ≡ true → (b || a) ≡ true
    on_way_too true a h = refl
    on_way_too false a h = h

    by_further : (v : Vertex) → IsCameOrSource places e further → further ≡ v → (stands_in v (e.source ∷ way) ≡ true) ⊎ (IsVertexOf (graph (edit ∷ edits)) v × (IsVertexOf (graph edits) v → ⊥))
    by_further v (inl (none, is)) same = inr (
      subst (IsVertexOf (graph (edit ∷ edits))) (sym is ∙ same) (near_vertex edits edit old new are_old are_new e.target (inl (target_on_walks e old new))),
      λ was. no_record (kept.each v was).0 (records_at types ctxs places v) (kept.each v was).1
          (ap (λ w. option_map (kept_by types ctxs) (value_at places w)) (sym same ∙ is) ∙ ap (option_map (kept_by types ctxs)) none),
    )
    by_further v (inr (some, is)) same = inl (at_source v (ap (λ w. is_same_vertex w v) (sym is ∙ same) ∙ same_vertex_itself v))

    only : (v : Vertex) → (stands_in v way ≡ true) ⊎ ((is_same_vertex further v ≡ true) ⊎ (is_same_vertex e.source v ≡ true))
        → (stands_in v (e.source ∷ way) ≡ true) ⊎ (IsVertexOf (graph (edit ∷ edits)) v × (IsVertexOf (graph edits) v → ⊥))
    only v (inl stands) = inl (on_way_too (is_same_vertex e.source v) (stands_in v way) stands)
    only v (inr (inl same)) = by_further v is_further (same_vertex_exact further v same)
    only v (inr (inr same)) = inl (at_source v same)

    parts : (a b c : Bool) → (a || (b || c)) ≡ false → (b ≡ false) × (c ≡ false)
    parts true b c h = absurd cc
    parts false true c h = absurd cc
    parts false false true h = absurd cc
    parts false false false h = (refl, refl)

    not_target : (v : Vertex) → (IsVertexOf (graph edits) v → ⊥) → is_same_vertex further v ≡ false → IsCameOrSource places e further → e.target ≡ v → ⊥
    not_target v was off (inl (none, is)) same = not_both (is_same_vertex further v) (ap (λ w. is_same_vertex w v) (is ∙ same) ∙ same_vertex_itself v) off
    not_target v was off (inr (some, is)) same =
        some (none_meant types ctxs (value_at places e.target) (ap (records_at types ctxs places) same ∙ kept.no_other v was))

    ends : (t s : Bool) → t ≡ false → s ≡ false → (((s || false) || (t || false)) || ((s || false) || (t || false))) ≡ false
    ends true s is other = absurd cc
    ends false true is other = absurd cc
    ends false false is other = refl

    not_same : (v : Vertex) (b : Bool) → is_same_vertex e.target v ≡ b → (e.target ≡ v → ⊥) → is_same_vertex e.target v ≡ false
    not_same v true is other = absurd (other (same_vertex_exact e.target v is))
    not_same v false is other = is

    came : (v : Vertex) → IsVertexOf (graph (edit ∷ edits)) v → (IsVertexOf (graph edits) v → ⊥) → (b : Bool) → holds set v ≡ b → holds set v ≡ true
    came v is was true on_set = on_set
    came v is was false off =
        let off_parts = parts (stands_in v way) (is_same_vertex further v) (is_same_vertex e.source v) (sym (passes v) ∙ off) in
        absurd (was (vertex_was edits edit [] [] v is (ends (is_same_vertex e.target v) (is_same_vertex e.source v) (not_same v (is_same_vertex e.target v) refl (not_target v was off_parts.0 is_further)) off_parts.1)))

-- ---- lists that end with one element

tail_same : {X : Type 0} (x y : X) (xs ys : List X) → x ∷ xs ≡ y ∷ ys → xs ≡ ys
tail_same x y xs ys is = cc

head_same : {X : Type 0} (x y : X) (xs ys : List X) → x ∷ xs ≡ y ∷ ys → x ≡ y
head_same x y xs ys is = cc

no_end : {X : Type 0} (zs : List X) (y : X) → [] ≡ zs ++ y ∷ [] → ⊥
no_end [] y is = cc
no_end (z ∷ zs) y is = cc

last_same : {X : Type 0} (xs ys : List X) (x y : X) → xs ++ x ∷ [] ≡ ys ++ y ∷ [] → x ≡ y
last_same [] [] x y is = head_same x y [] [] is
last_same [] (z ∷ ys) x y is = absurd (no_end ys y (tail_same x z [] (ys ++ y ∷ []) is))
last_same (z ∷ xs) [] x y is = absurd (no_end xs x (sym (tail_same z y (xs ++ x ∷ []) [] is)))
last_same (z ∷ xs) (w ∷ ys) x y is = last_same xs ys x y (tail_same z w (xs ++ x ∷ []) (ys ++ y ∷ []) is)

-- ---- a short walk

agree_same : (s : Sort) (d e : Demanded) → d ≡ e → Agree s d e
agree_same Exp d e is = is
agree_same Top d e is = is
agree_same Pat d e is = tt
agree_same TypeSort d e is = tt

module _ (edits : List Edit) (edit : Edit) (old new : List Edge) (are_old : AreLive (graph edits) old) (are_new : AreLive (graph (edit ∷ edits)) new) (stay : CyclesStay old new) (sees : SourceAloneSees (edit_edge edit) old new)
    (way : List Vertex) (top : Vertex) (leads : LeadsUp new (edit_edge edit).source way top) (set : Places Bool)
    (further : Vertex)
    (passes : (v : Vertex) → holds set v ≡ (stands_in v way || (is_same_vertex further v || is_same_vertex (edit_edge edit).source v)))
    (types : List Typ) (ctxs : List Context) (places : Places Record) (kept : AreKept (graph edits) old (records_at types ctxs places)) (is_further : IsCameOrSource places (edit_edge edit) further) (demand : Demand) (there : IsDemandThere places top demand) where
  abbrev records : Records
  records = records_at types ctxs places

  well : AllByRecursion IsWellFormed new
  well = live_well_formed (edit ∷ edits) new are_new

  anew : IsJudgedAnew (edit_edge edit) (graph edits) (graph (edit ∷ edits)) way (on false set)
  anew = judged_anew edits edit old new are_old are_new types ctxs places kept way further is_further set passes

  -- where the walk begins
  pub start_there : IsStart new types ctxs demand (start_at top (kept_demand (records_at types ctxs places) top))
  start_there =
      let place = has_place new well top in
      let same : kept_demand records top ≡ place.demanded =
      demand_at_top edits edit old new are_old are_new stay records kept sees way top leads place.above place.forest place.demanded place.stands there.sort in
      record {
        above = place.above;
        forest = place.forest;
        stands = subst (λ d. Stands new place.above top place.forest d) (sym same) place.stands;
        agree =
            agree_same (sort_of_ctor top.ctor) (node.demanded_at types ctxs demand) (kept_demand records top)
            (ap (node.demanded_at types ctxs) there.is ∙ sym (kept_demand_of types ctxs records top there.kept (ap (option_map (kept_by types ctxs)) there.found)));
      }

  pub leaves_top : LeavesRightBelow new (on false set) records top
  leaves_top u us v f d stands member is_left =
      left_below_top edits edit old new are_old are_new stay records kept sees way top leads (on false set) anew member.before member.behind v f d
      (subst (λ vs. Stands new vs v f d) member.are stands) (vertex_below edits edit new are_new u us v f d stands) is_left

  off_way : IsAlone new (on false set) records (edit_edge edit).target top → stands_in (edit_edge edit).target ((edit_edge edit).source ∷ way) ≡ true → ⊥
  off_way is stands = is.other (outer_on_way new (edit_edge edit).target (edit_edge edit).source way top leads is.outer stands)

  pub leaves_target : LeavesRightAlone new (on false set) records (edit_edge edit).target top
  leaves_target is u us v f d stands member is_left =
      left_below_target edits edit old new are_old are_new stay records kept sees way top leads (on false set) anew is.outer (off_way is) is.not_left member.before member.behind v f d
      (subst (λ vs. Stands new vs v f d) member.are stands) (vertex_below edits edit new are_new u us v f d stands) is_left

  pub makes_target : (made : List (Vertex × Kept)) → MakesAlone new (on false set) records (edit_edge edit).target top made → MakesTarget (edit_edge edit) new records way (on false set) made
  makes_target made (inner is none) = within is none
  makes_target made (begins is_top none) =
      on_way (subst (λ (w : Vertex). stands_in w ((edit_edge edit).source ∷ way) ≡ true) (sym is_top) (top_on_way new (edit_edge edit).source way top leads)) none
  makes_target made (left is none) = short_left is none
  makes_target made (by_itself is makes) = judged is.outer (off_way is) is.not_left makes

  abbrev is_short : (made : List (Vertex × Kept)) → MakesBoth new (on false set) records (edit_edge edit).target (start_at top (kept_demand records top)) made
      → IsShortWalk (edit_edge edit) (graph edits) (graph (edit ∷ edits)) old new records way top (on false set) made
  is_short made both = record {
    alone_sees = sees;
    leads = leads;
    anew = anew;
    target = both.first;
    makes_target = makes_target both.first both.makes_first;
    own = both.own;
    makes_own = both.makes_own;
    all = both.all;
  }

  -- what it counts
  pub short_ticked : (near : List Vertex) → AreNear (edit_edge edit) old new near → (before after : ℕ)
      → AreBothPaidFor new types ctxs places (on false set) (edit_edge edit).target (start_at top (kept_demand (records_at types ctxs places) top)) before after → after ≤ before + 5 * near_size old new near + 3
  short_ticked near are_near before after counted =
      let paid = counted records (λ v. refl) leaves_target leaves_top in
      let all = short_within edits edit old new are_old are_new stay records kept way top (on false set) paid.all (is_short paid.all paid.makes) near are_near in
      let light = lighter edits edit old new are_old are_new paid.all in
      let most = paid.within in
      omega (arith, all, light, most)

  -- what it makes, over tables that have grown
  module _ (grown : List Typ) (grown_ctxs : List Context) (keeps : KeepsTypes types grown) (keepsc : KeepsContexts ctxs grown_ctxs) (of_tables : AreRecordsOf types ctxs places) (made : List (Vertex × Record))
      (has : HasMadeBoth new grown grown_ctxs places (on false set) (edit_edge edit).target (start_at top (kept_demand (records_at types ctxs places) top)) made) where
    same_at : (v : Vertex) → records_at grown grown_ctxs places v ≡ records v
    same_at v = records_at-kept types grown ctxs grown_ctxs keeps keepsc places of_tables v

    makes : MakesBoth new (on false set) records (edit_edge edit).target (start_at top (kept_demand records top)) (meant grown grown_ctxs made)
    makes = has records (λ v. sym (same_at v)) leaves_target leaves_top

    abbrev short : IsShortWalk (edit_edge edit) (graph edits) (graph (edit ∷ edits)) old new records way top (on false set) (meant grown grown_ctxs made)
    short = is_short (meant grown grown_ctxs made) makes

    type_kept : EndsWithType places top made → typ_in (Some (kept_of top makes.makes_own.forest (kept_demand records top))) ≡ typ_in (records top)
    type_kept ends =
        ap (λ (k : Kept). typ_in (Some k)) (sym last_is)
        ∙ ap (λ t. unwrap_or (option_map (type_at grown) t) Unknown) ends.same
        ∙ ap typ_in (sym (ap (option_map (kept_by grown grown_ctxs)) ends.found)) ∙ ap typ_in (same_at top)
      where
        meant_ends : meant grown grown_ctxs made ≡ meant grown grown_ctxs ends.front ++ (ends.last.0, kept_by grown grown_ctxs ends.last.1) ∷ []
        meant_ends = ap (meant grown grown_ctxs) ends.are ∙ map-append (λ (m : Vertex × Record). let k : Vertex × Kept = (m.0, kept_by grown grown_ctxs m.1) in k) ends.front (ends.last ∷ [])

        made_ends : meant grown grown_ctxs made ≡ (makes.first ++ makes.makes_own.inner) ++ (top, kept_of top makes.makes_own.forest (kept_demand records top)) ∷ []
        made_ends =
            makes.all ∙ ap (λ ms. makes.first ++ ms) makes.makes_own.made_are
            ∙ sym (append_assoc makes.first makes.makes_own.inner ((top, kept_of top makes.makes_own.forest (kept_demand records top)) ∷ []))

        last_is : kept_by grown grown_ctxs ends.last.1 ≡ kept_of top makes.makes_own.forest (kept_demand records top)
        last_is =
            ap (λ (m : Vertex × Kept). m.1)
            (last_same (meant grown grown_ctxs ends.front) (makes.first ++ makes.makes_own.inner) (ends.last.0, kept_by grown grown_ctxs ends.last.1) (top, kept_of top makes.makes_own.forest (kept_demand records top))
            (sym meant_ends ∙ made_ends))

    pub short_renewed : (class new top ≡ Inner → EndsWithType places top made) → (after : Places Record) → ((v : Vertex) → value_at after v ≡ put_in made (value_at places) v)
        → AreKept (graph (edit ∷ edits)) new (records_at grown grown_ctxs after)
    short_renewed ends after puts =
        subst (AreKept (graph (edit ∷ edits)) new) same_records
        (short_kept edits edit old new are_old are_new stay records kept way top (on false set) (meant grown grown_ctxs made) short (λ inner. type_kept (ends inner))) where
          same_records : put (meant grown grown_ctxs made) records ≡ records_at grown grown_ctxs after
          same_records = λ j v.
              sym
              (ap (option_map (kept_by grown grown_ctxs)) (puts v) ∙ put_read grown grown_ctxs made (value_at places) v
              ∙ ap (λ (found : Records). put (meant grown grown_ctxs made) found v) (λ i u. same_at u i)) j

-- ---- the same where marks stand for the graph before the edit

module _ (e : Edge) (new : List Edge) (marks : KeptMarks) (seen : IsSeenByOne e new marks) (way : List Vertex) (top : Vertex) (leads : LeadsUp new e.source way top) (set : Places Bool) (listed : List Vertex) (are_listed : listed ≡ way) (further : Vertex)
    (passes : (v : Vertex) → holds set v ≡ (stands_in v listed || (is_same_vertex further v || is_same_vertex e.source v))) (is_further : IsCameOrSource marks.records e further) (demand : Demand) (there : IsDemandThere marks.records top demand) where
  sees_there : SourceAloneSees (edit_edge seen.edit) seen.old new
  sees_there = subst (λ x. SourceAloneSees x seen.old new) (sym seen.of_edge) seen.sees

  leads_there : LeadsUp new (edit_edge seen.edit).source way top
  leads_there = subst (λ (x : Edge). LeadsUp new x.source way top) (sym seen.of_edge) leads

  passes_there : (v : Vertex) → holds set v ≡ (stands_in v way || (is_same_vertex further v || is_same_vertex (edit_edge seen.edit).source v))
  passes_there v =
      passes v ∙ ap (λ vs. stands_in v vs || (is_same_vertex further v || is_same_vertex e.source v)) are_listed
      ∙ ap (λ (x : Edge). stands_in v way || (is_same_vertex further v || is_same_vertex x.source v)) (sym seen.of_edge)

  further_there : IsCameOrSource marks.records (edit_edge seen.edit) further
  further_there = subst (λ x. IsCameOrSource marks.records x further) (sym seen.of_edge) is_further

  pub start_seen : IsStart new marks.types marks.contexts demand (start_at top (kept_demand (records_in marks) top))
  start_seen =
      start_there seen.edits seen.edit seen.old new seen.are_old seen.are_new seen.stay sees_there way top leads_there set further passes_there marks.types marks.contexts marks.records seen.kept further_there demand there

  pub ticked_seen : (near : List Vertex) → AreNear e seen.old new near → (before after : ℕ)
      → AreBothPaidFor new marks.types marks.contexts marks.records (on false set) e.target (start_at top (kept_demand (records_in marks) top)) before after → after ≤ before + 5 * near_size seen.old new near + 3
  ticked_seen near are_near before after counted =
      short_ticked seen.edits seen.edit seen.old new seen.are_old seen.are_new seen.stay sees_there way top leads_there set further passes_there marks.types marks.contexts marks.records seen.kept further_there demand there near
      (subst (λ x. AreNear x seen.old new near) (sym seen.of_edge) are_near) before after
      (subst (λ (x : Edge). AreBothPaidFor new marks.types marks.contexts marks.records (on false set) x.target (start_at top (kept_demand (records_in marks) top)) before after) (sym seen.of_edge) counted)

  pub renewed_seen : (grown : List Typ) (grown_ctxs : List Context) → KeepsTypes marks.types grown → KeepsContexts marks.contexts grown_ctxs → AreRecordsOf marks.types marks.contexts marks.records → (made : List (Vertex × Record))
      → HasMadeBoth new grown grown_ctxs marks.records (on false set) e.target (start_at top (kept_demand (records_in marks) top)) made → (class new top ≡ Inner → EndsWithType marks.records top made) → (after : Places Record)
      → ((v : Vertex) → value_at after v ≡ put_in made (value_at marks.records) v) → AreKept (graph (seen.edit ∷ seen.edits)) new (records_at grown grown_ctxs after)
  renewed_seen grown grown_ctxs keeps keepsc of_tables made has ends after puts =
      short_renewed seen.edits seen.edit seen.old new seen.are_old seen.are_new seen.stay sees_there way top leads_there set further passes_there marks.types marks.contexts marks.records seen.kept further_there demand there grown grown_ctxs keeps keepsc
      of_tables made
      (subst (λ (x : Edge). HasMadeBoth new grown grown_ctxs marks.records (on false set) x.target (start_at top (kept_demand (records_in marks) top)) made) (sym seen.of_edge) has) ends after puts
