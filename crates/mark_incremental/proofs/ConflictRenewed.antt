-- The records that a walk below a conflict makes, put in place of the kept ones, are those of the new graph.
use Rattle.std.proofs.Common.{◌≡◌, ◌⊎◌, inl, inr, ℕ, ◌+◌, ◌*◌, ◌<◌, ◌≤◌, Bool, true, false, cond, List, [], ◌∷◌, ◌++◌, length, filter, Some, refl, sym, ap, subst, ◌∙◌, append_assoc, arith}
use Rattle.std.specs.Prelude.{◌||◌, ◌&&◌}
use Rattle.std.specs.List.{AllByRecursion}
use Rattle.std.specs.Option.{option_map}
use Rattle.std.proofs.lemmas.List.Sums.{sum_by-cons}
use Rattle.std.proofs.lemmas.List.Elements.{filter-append}
use Rattle.grove_sorts.specs.declared.position.Position.{Position}
use Rattle.grove_sorts.specs.Ctor.{sort_of_ctor, sort_at}
use Rattle.grove_sorts.specs.Position.{is_same_position}
use Rattle.grove_sorts.proofs.Orders.{same_position_laws}
use Rattle.grove_edits.specs.declared.vertex.Vertex.{Vertex}
use Rattle.grove_edits.specs.declared.edge.Edge.{Edge}
use Rattle.grove_edits.specs.declared.edit.Edit.{Edit}
use Rattle.grove_edits.specs.Edge.{IsWellFormed}
use Rattle.grove_edits.specs.Edit.{edit_edge}
use Rattle.grove_edits.specs.Graph.{graph, is_same_edge}
use Rattle.grove_edits.specs.Vertex.{is_same_vertex, stands_in}
use Rattle.grove_edits.proofs.Orders.{same_edge_laws}
use Rattle.grove_edits.proofs.Vertices.{same_vertex_itself, same_vertex_exact}
use Rattle.graph_words.specs.declared.class.Class.TheVariants.{Inner}
use Rattle.graph_words.specs.Class.{class}
use Rattle.graph_words.specs.Live.{holds_edge, children_of}
use Rattle.graph_words.specs.Whole.{AreLive}
use Rattle.graph_words.proofs.Chains.{IsChain, chain_is_one}
use Rattle.grove_terms.specs.Forest.{edges_under, StandsUnder}
use Rattle.grove_terms.proofs.WellSorted.{live_well_formed}
use Rattle.type_core.specs.Typ.{Typ}
use Rattle.type_core.specs.TypeTable.{KeepsTypes}
use Rattle.ctx_table.specs.Context.{Context}
use Rattle.ctx_table.specs.CtxTable.{KeepsContexts}
use Rattle.mark_step.specs.declared.node.Demand.{Demand}
use Rattle.mark_step.specs.Expression.{Demanded}
use Rattle.kept_records.specs.Kept.{Kept, Records, AreKept, Stands}
use Rattle.kept_records.specs.Local.{kept_demand}
use Rattle.kept_records.specs.Change as change
use Rattle.kept_records.specs.Change.{HasOneMore, Changes, same, comes, goes, CyclesStay, AreNear, leaving, near_size}
use Rattle.kept_records.specs.Renewal.{IsLeft, put}
use Rattle.kept_records.specs.Renewal as renewal
use Rattle.kept_records.specs.Short.{SourceAloneSees}
use Rattle.kept_records.specs.Conflict.{PositionAloneSees, MakesInConflict, outer, left, judged, IsConflictWalk}
use Rattle.kept_records.proofs.OnWalks.{source_on_walks}
use Rattle.kept_records.proofs.Raised.{changed}
use Rattle.kept_records.proofs.Children.{IsTreeOf, children_are_of, has_tree, held_under, all_held}
use Rattle.kept_records.proofs.Standing.{stands_under, child_stands, has_place}
use Rattle.kept_records.proofs.Line.{chain_of}
use Rattle.kept_records.proofs.Cost.{edges_leave}
use Rattle.kept_records.proofs.Sizes.{sum_within}
use Rattle.kept_records.proofs.Conflict.{conflict_kept, conflict_within}
use Rattle.mark_store.specs.declared.record.Record.{Record}
use Rattle.mark_store.specs.Places.{Places, value_at, holds}
use Rattle.mark_incremental.specs.Reading.{kept_by, records_at, AreRecordsOf}
use Rattle.mark_incremental.specs.Looking.{on}
use Rattle.mark_incremental.specs.Walking.{Level, demands, IsStart, start_at, LeavesRightBelow, meant}
use Rattle.mark_incremental.specs.ShortWalks.{IsSeenByOne, IsDemandThere, IsCameOrSource}
use Rattle.mark_incremental.specs.AtConflict.{MaySeeAlone, StoodSeveral, level_at, MakesAtConflict, heads, stays, begins_there, StandsAtEdge, HasMadeAtConflict, IsConflictPaidFor}
use Rattle.mark_incremental.specs.Standing.{KeptMarks, records_in, put_in}
use Rattle.mark_incremental.proofs.Growth.{records_at-kept}
use Rattle.mark_incremental.proofs.NearRenewed.{put_read}
use Rattle.mark_incremental.proofs.NearCost.{lighter}
use Rattle.mark_incremental.proofs.ShortRenewed.{judged_anew, start_there, leaves_top, leaves_target, makes_target}

-- ---- how many children there were

-- of the edges that pass a test there are as many without one as with it, or one fewer
one_more : (q : Edge → Bool) (e : Edge) (xs ys : List Edge) → (length (filter q (xs ++ ys)) ≤ length (filter q (xs ++ e ∷ ys))) × (length (filter q (xs ++ e ∷ ys)) ≤ 1 + length (filter q (xs ++ ys)))
one_more q e [] ys = by_test (q e) where
  by_test : (b : Bool) → (length (filter q ys) ≤ length (cond b (e ∷ filter q ys) (filter q ys))) × (length (cond b (e ∷ filter q ys) (filter q ys)) ≤ 1 + length (filter q ys))
  by_test true = (omega arith, omega arith)
  by_test false = (omega arith, omega arith)
one_more q e (x ∷ xs) ys = by_test (q x) (one_more q e xs ys) where
  by_test : (b : Bool) → (length (filter q (xs ++ ys)) ≤ length (filter q (xs ++ e ∷ ys))) × (length (filter q (xs ++ e ∷ ys)) ≤ 1 + length (filter q (xs ++ ys)))
      → (length (cond b (x ∷ filter q (xs ++ ys)) (filter q (xs ++ ys))) ≤ length (cond b (x ∷ filter q (xs ++ e ∷ ys)) (filter q (xs ++ e ∷ ys))))
      × (length (cond b (x ∷ filter q (xs ++ e ∷ ys)) (filter q (xs ++ e ∷ ys))) ≤ 1 + length (cond b (x ∷ filter q (xs ++ ys)) (filter q (xs ++ ys))))
  by_test true rest = let less = rest.0 in let more = rest.1 in (omega (arith, less), omega (arith, more))
  by_test false rest = rest

less_more : (q : Edge → Bool) (e : Edge) (less more : List Edge) → HasOneMore e less more → (length (filter q less) ≤ length (filter q more)) × (length (filter q more) ≤ 1 + length (filter q less))
less_more q e less more has =
    let both = one_more q e has.before has.behind in
    let a : length (filter q less) ≡ length (filter q (has.before ++ has.behind)) = ap (λ es. length (filter q es)) has.without in
    let b : length (filter q more) ≡ length (filter q (has.before ++ e ∷ has.behind)) = ap (λ es. length (filter q es)) has.with_it in
    let low = both.0 in
    let high = both.1 in
    (omega (arith, a, b, low), omega (arith, a, b, high))

-- an edge that passes is among those that do
held_first : (e : Edge) (xs ys : List Edge) → holds_edge e (xs ++ e ∷ ys) ≡ true
held_first e [] ys = ap (λ b. b || holds_edge e ys) (same_edge_laws.refl e)
held_first e (x ∷ xs) ys = by_test (is_same_edge x e) (held_first e xs ys) where
  by_test : (b : Bool) → holds_edge e (xs ++ e ∷ ys) ≡ true → (b || holds_edge e (xs ++ e ∷ ys)) ≡ true
  by_test true h = refl
  by_test false h = h

module _ (e : Edge) (old new : List Edge) where
  from_edge : Edge → Bool
  from_edge x = is_same_vertex x.source e.source && is_same_position x.position e.position

  came_among : (xs ys : List Edge) → holds_edge e (children_of e.source e.position (xs ++ e ∷ ys)) ≡ true
  came_among xs ys =
      ap (holds_edge e) (filter-append (λ x. is_same_vertex x.source e.source && is_same_position x.position e.position) xs (e ∷ ys)
      ∙ ap (λ b. children_of e.source e.position xs ++ cond b (e ∷ children_of e.source e.position ys) (children_of e.source e.position ys)) passes)
      ∙ held_first e (children_of e.source e.position xs) (children_of e.source e.position ys)
    where
      passes : (is_same_vertex e.source e.source && is_same_position e.position e.position) ≡ true
      passes = ap (λ b. b && is_same_position e.position e.position) (same_vertex_itself e.source) ∙ same_position_laws.refl e.position

  -- several children stand there, and stood there before
  several_now : StoodSeveral e (children_of e.source e.position new) → 1 < length (children_of e.source e.position new)
  several_now (inl many) = omega (arith, many)
  several_now (inr few) = few.0

  several_before : Changes e old new → StoodSeveral e (children_of e.source e.position new) → 1 < length (children_of e.source e.position old)
  several_before (same is) several = subst (λ es. 1 < length (children_of e.source e.position es)) (sym is) (several_now several)
  several_before (comes has) (inl many) =
      let most = (less_more (λ x. is_same_vertex x.source e.source && is_same_position x.position e.position) e old new has).1 in omega (arith, many, most)
  several_before (comes has) (inr few) =
      let clash : true ≡ false = sym (ap (λ es. holds_edge e (children_of e.source e.position es)) has.with_it ∙ came_among has.before has.behind) ∙ few.1 in absurd cc
  several_before (goes has) several =
      let now = several_now several in
      let least = (less_more (λ x. is_same_vertex x.source e.source && is_same_position x.position e.position) e new old has).0 in
      omega (arith, now, least)

-- as many children as edges leave
children_leave : (v : Vertex) (p : Position) (es : List Edge) → length (children_of v p es) ≤ length (leaving v es)
children_leave v p [] = omega arith
children_leave v p (x ∷ es) = by_test (is_same_vertex x.source v) (is_same_position x.position p) (children_leave v p es) where
  by_test : (a b : Bool) → length (children_of v p es) ≤ length (leaving v es) → length (cond (a && b) (x ∷ children_of v p es) (children_of v p es)) ≤ length (cond a (x ∷ leaving v es) (leaving v es))
  by_test true true rest = omega (arith, rest)
  by_test true false rest = omega (arith, rest)
  by_test false b rest = rest

-- ---- chains

chain_behind : (live : List Edge) (v : Vertex) (before : List Vertex) (t : Vertex) (behind : List Vertex) → IsChain live v (before ++ t ∷ behind) → IsChain live t behind
chain_behind live v [] t behind is = is.4
chain_behind live v (w ∷ ws) t behind is = chain_behind live w ws t behind is.4

-- ---- what is above the source, and the edges from it

module _ (edits : List Edit) (edit : Edit) (old new : List Edge) (are_old : AreLive (graph edits) old) (are_new : AreLive (graph (edit ∷ edits)) new) (near : List Vertex) (are_near : AreNear (edit_edge edit) old new near) where
  source_weighs : length (leaving (edit_edge edit).source new) ≤ near_size old new near
  source_weighs =
      let within = sum_within (change.weight old new) ((edit_edge edit).source ∷ []) near (refl, tt) (λ v stands. at_source v (is_same_vertex (edit_edge edit).source v) refl stands) in
      let one = sum_by-cons (change.weight old new) (edit_edge edit).source [] in
      omega (arith, within, one)
    where
      at_source : (v : Vertex) (b : Bool) → is_same_vertex (edit_edge edit).source v ≡ b → (b || false) ≡ true → stands_in v near ≡ true
      at_source v true is stands =
          ap (λ w. stands_in w near) (sym (same_vertex_exact (edit_edge edit).source v is)) ∙ are_near.each (edit_edge edit).source (inl (source_on_walks (edit_edge edit) old new))
      at_source v false is stands = absurd cc

  pub under_weighs : length (edges_under new (edit_edge edit).source) ≤ near_size old new near
  under_weighs = let leave = edges_leave (edit ∷ edits) new are_new (edit_edge edit).source in let within = source_weighs in omega (arith, leave, within)

  pub children_weigh : length (children_of (edit_edge edit).source (edit_edge edit).position new) ≤ near_size old new near
  children_weigh = let leave = children_leave (edit_edge edit).source (edit_edge edit).position new in let within = source_weighs in omega (arith, leave, within)

-- ---- the walk

module _ (edits : List Edit) (edit : Edit) (old new : List Edge) (are_old : AreLive (graph edits) old) (are_new : AreLive (graph (edit ∷ edits)) new) (stay : CyclesStay old new)
    (sees : SourceAloneSees (edit_edge edit) old new) (may : MaySeeAlone (edit_edge edit) old new) (several : StoodSeveral (edit_edge edit) (children_of (edit_edge edit).source (edit_edge edit).position new))
    (set : Places Bool) (further : Vertex) (passes : (v : Vertex) → holds set v ≡ (stands_in v [] || (is_same_vertex further v || is_same_vertex (edit_edge edit).source v)))
    (types : List Typ) (ctxs : List Context) (places : Places Record) (kept : AreKept (graph edits) old (records_at types ctxs places)) (is_further : IsCameOrSource places (edit_edge edit) further)
    (demand : Demand) (there : IsDemandThere places (edit_edge edit).source demand) where
  abbrev e : Edge
  e = edit_edge edit

  abbrev records : Records
  records = records_at types ctxs places

  well : AllByRecursion IsWellFormed new
  well = live_well_formed (edit ∷ edits) new are_new

  pub start_source : IsStart new types ctxs demand (start_at (edit_edge edit).source (kept_demand (records_at types ctxs places) (edit_edge edit).source))
  start_source = start_there edits edit old new are_old are_new stay sees [] e.source refl set further passes types ctxs places kept is_further demand there

  position_sees : PositionAloneSees (edit_edge edit) old new
  position_sees = by_why may where
    by_why : MaySeeAlone (edit_edge edit) old new → PositionAloneSees (edit_edge edit) old new
    by_why (inl alike) = inl (alike.class_stays, alike.outer)
    by_why (inr led) = inr (λ d held to. by_held d held to) where
      by_held : (d : Edge) → (holds_edge d old ≡ true) ⊎ (holds_edge d new ≡ true) → d.target ≡ e.target → (d.source ≡ e.source) × (d.position ≡ e.position)
      by_held d (inl held) to = led.0 d held to
      by_held d (inr held) to = led.1 d held to

  abbrev told : Demanded
  told = kept_demand records e.source

  leaves_source : LeavesRightBelow new (on false set) records e.source
  leaves_source = leaves_top edits edit old new are_old are_new stay sees [] e.source refl set further passes types ctxs places kept is_further demand there

  -- whatever is said of where the source stands
  module _ (place : IsStart new types ctxs demand (start_at (edit_edge edit).source (kept_demand (records_at types ctxs places) (edit_edge edit).source))) where
    abbrev l : Level
    l = level_at (edit_edge edit).source place.above place.forest (kept_demand (records_at types ctxs places) (edit_edge edit).source)

    under : StandsUnder new e.source place.forest
    under = stands_under new place.above e.source place.forest told place.stands

    pub at_edge : class new (edit_edge edit).target ≡ Inner → StandsAtEdge (edit_edge edit) (level_at (edit_edge edit).source place.above place.forest (kept_demand (records_at types ctxs places) (edit_edge edit).source))
    at_edge inner = by_place (has_place new well e.target).above (has_place new well e.target).stands where
      by_sees : PositionAloneSees (edit_edge edit) old new → (x : Edge) → holds_edge x new ≡ true → x.target ≡ e.target → (x.source ≡ e.source) × (x.position ≡ e.position)
      by_sees (inl alike) x held one = absurd (alike.1 inner)
      by_sees (inr from) x held one = from x (inr held) one

      by_place : (us : List Vertex) → Stands new us e.target (has_place new well e.target).forest (has_place new well e.target).demanded → StandsAtEdge (edit_edge edit) l
      by_place [] at = absurd (at.0 inner)
      by_place (u ∷ us) at =
          let above = stands_under new us u at.0 at.1 at.2 in
          let x = at.3.edge in
          let of : IsTreeOf new u x = children_are_of new well u at.0 above.edges x (has_place new well e.target).forest at.3.is_tree in
          let from = by_sees position_sees x of.held at.3.target in
          let t = has_tree new place.forest under.children x
          (ap (holds_edge x) under.edges ∙ ap (λ v. holds_edge x (edges_under new v)) (sym from.0) ∙ held_under new x of.held (all_held IsWellFormed new well x of.held))
          (ap (class new) at.3.target ∙ inner) in
          record {
            edge = x;
            below = t.below;
            is_tree = t.is;
            target = at.3.target;
            position = from.1;
            sorted =
                ap (λ q. sort_at e.source.ctor q) (sym from.1) ∙ ap (λ (v : Vertex). sort_at v.ctor x.position) (sym from.0 ∙ of.source) ∙ of.sorted
                ∙ ap (λ (v : Vertex). Some (sort_of_ctor v.ctor)) at.3.target;
          }

    leaves_below : class new e.target ≡ Inner → LeavesRightBelow new (on false set) records e.target
    leaves_below inner u us v f d stands member is_left =
        leaves_source u us v f d stands
        (record { before = member.before ++ e.target ∷ []; behind = place.above; are = member.are ∙ ap (λ ws. member.before ++ e.target ∷ ws) behind ∙ sym (append_assoc member.before (e.target ∷ []) (e.source ∷ place.above)) })
        is_left
      where
        at : StandsAtEdge (edit_edge edit) l
        at = at_edge inner

        of_target : IsChain new e.target (e.source ∷ place.above)
        of_target =
            subst (λ w. IsChain new w (e.source ∷ place.above)) at.target
            (chain_of new well (e.source ∷ place.above) at.edge.target at.below (demands l at.edge.position)
            (child_stands new well e.source place.above place.forest told place.stands at.edge at.below at.is_tree))

        behind : member.behind ≡ e.source ∷ place.above
        behind =
            chain_is_one new e.target member.behind (e.source ∷ place.above)
            (chain_behind new v member.before e.target member.behind (subst (IsChain new v) member.are (chain_of new well (u ∷ us) v f d stands))) of_target

    not_left : renewal.HasToBeJudged (on false set) records e.target (demands l e.position) → IsLeft (on false set) records e.target (demands l e.position) → ⊥
    not_left (inl there_on) is_left = let clash : true ≡ false = sym there_on ∙ is_left.0 in cc
    not_left (inr other) is_left = other.1 (is_left.1 other.0)

    makes_there : (made : List (Vertex × Kept)) → MakesAtConflict (edit_edge edit) new (on false set) records (demands l e.position) made → MakesInConflict (edit_edge edit) new records (on false set) (demands l e.position) made
    makes_there made (heads is makes) =
        outer is (makes_target edits edit old new are_old are_new stay sees [] e.source refl set further passes types ctxs places kept is_further demand there made makes)
    makes_there made (stays inner is_left none) = left inner is_left none
    makes_there made (begins_there inner has makes) = judged inner (not_left has) makes

    abbrev is_walk : (made : List (Vertex × Kept)) → MakesAtConflict (edit_edge edit) new (on false set) records (demands l (edit_edge edit).position) made
        → IsConflictWalk (edit_edge edit) (graph edits) (graph (edit ∷ edits)) old new records (on false set) made
    is_walk made makes = record {
      position_sees = position_sees;
      anew = judged_anew edits edit old new are_old are_new types ctxs places kept [] further is_further set passes;
      several_before = several_before e old new (changed edits edit old new are_old are_new) several;
      several_after = several_now e old new several;
      forest = place.forest;
      stands = under;
      makes = makes_there made makes;
    }

    -- what it counts
    pub conflict_ticked : (near : List Vertex) → AreNear (edit_edge edit) old new near → (before after : ℕ)
        → IsConflictPaidFor (edit_edge edit) new types ctxs places (on false set) (demands (level_at (edit_edge edit).source place.above place.forest (kept_demand (records_at types ctxs places) (edit_edge edit).source)) (edit_edge edit).position) before after
        → after ≤ before + (5 * near_size old new near + 6)
    conflict_ticked near are_near before after counted =
        let paid = counted records (λ v. refl) (leaves_target edits edit old new are_old are_new stay sees [] e.source refl set further passes types ctxs places kept is_further demand there) leaves_source leaves_below in
        let all = conflict_within edits edit old new are_old are_new stay records kept (on false set) paid.all (is_walk paid.all paid.makes) near are_near in
        let light = lighter edits edit old new are_old are_new paid.all in
        let most = paid.within in
        omega (arith, all, light, most)

    -- what it makes, over tables that have grown
    module _ (grown : List Typ) (grown_ctxs : List Context) (keeps : KeepsTypes types grown) (keepsc : KeepsContexts ctxs grown_ctxs) (of_tables : AreRecordsOf types ctxs places) (made : List (Vertex × Record))
        (has : HasMadeAtConflict (edit_edge edit) new grown grown_ctxs places (on false set) (demands (level_at (edit_edge edit).source place.above place.forest (kept_demand (records_at types ctxs places) (edit_edge edit).source)) (edit_edge edit).position) made) where
      same_at : (v : Vertex) → records_at grown grown_ctxs places v ≡ records v
      same_at v = records_at-kept types grown ctxs grown_ctxs keeps keepsc places of_tables v

      makes : MakesAtConflict (edit_edge edit) new (on false set) records (demands l (edit_edge edit).position) (meant grown grown_ctxs made)
      makes = has records (λ v. sym (same_at v)) (leaves_target edits edit old new are_old are_new stay sees [] e.source refl set further passes types ctxs places kept is_further demand there) leaves_source leaves_below

      pub conflict_renewed : (after : Places Record) → ((v : Vertex) → value_at after v ≡ put_in made (value_at places) v) → AreKept (graph (edit ∷ edits)) new (records_at grown grown_ctxs after)
      conflict_renewed after puts =
          subst (AreKept (graph (edit ∷ edits)) new) same_records
          (conflict_kept edits edit old new are_old are_new stay records kept (on false set) (meant grown grown_ctxs made) (is_walk (meant grown grown_ctxs made) makes)) where
            same_records : put (meant grown grown_ctxs made) records ≡ records_at grown grown_ctxs after
            same_records = λ j v.
                sym
                (ap (option_map (kept_by grown grown_ctxs)) (puts v) ∙ put_read grown grown_ctxs made (value_at places) v
                ∙ ap (λ (found : Records). put (meant grown grown_ctxs made) found v) (λ i u. same_at u i)) j

-- ---- the same where marks stand for the graph before the edit

-- what a walk below a conflict may rely on, and what it makes of the marks
pub record Serves (edits : List Edit) (edit : Edit) (old new : List Edge) (marks : KeptMarks) (set : Places Bool) (demand : Demand) (x : Edge) : Type 0 where
  pub place : IsStart new marks.types marks.contexts demand (start_at x.source (kept_demand (records_in marks) x.source))
  pub at_edge : class new x.target ≡ Inner → StandsAtEdge x (level_at x.source place.above place.forest (kept_demand (records_in marks) x.source))
  pub ticked : (near : List Vertex) → AreNear x old new near → (before after : ℕ)
      → IsConflictPaidFor x new marks.types marks.contexts marks.records (on false set) (demands (level_at x.source place.above place.forest (kept_demand (records_in marks) x.source)) x.position) before after
      → after ≤ before + (5 * near_size old new near + 6)
  pub weighs : (near : List Vertex) → AreNear x old new near → length (edges_under new x.source) ≤ near_size old new near
  pub renewed : (grown : List Typ) (grown_ctxs : List Context) → KeepsTypes marks.types grown → KeepsContexts marks.contexts grown_ctxs → AreRecordsOf marks.types marks.contexts marks.records → (made : List (Vertex × Record))
      → HasMadeAtConflict x new grown grown_ctxs marks.records (on false set) (demands (level_at x.source place.above place.forest (kept_demand (records_in marks) x.source)) x.position) made
      → (after : Places Record) → ((v : Vertex) → value_at after v ≡ put_in made (value_at marks.records) v) → AreKept (graph (edit ∷ edits)) new (records_at grown grown_ctxs after)

module _ (e : Edge) (new : List Edge) (marks : KeptMarks) (seen : IsSeenByOne e new marks) (set : Places Bool) (further : Vertex) (demand : Demand) where
  abbrev Served : Edge → Type 0
  Served x =
      MaySeeAlone x seen.old new → StoodSeveral x (children_of x.source x.position new) → ((v : Vertex) → holds set v ≡ (stands_in v [] || (is_same_vertex further v || is_same_vertex x.source v)))
      → IsCameOrSource marks.records x further → IsDemandThere marks.records x.source demand → SourceAloneSees x seen.old new → Serves seen.edits seen.edit seen.old new marks set demand x

  pub serves : MaySeeAlone e seen.old new → StoodSeveral e (children_of e.source e.position new) → ((v : Vertex) → holds set v ≡ (stands_in v [] || (is_same_vertex further v || is_same_vertex e.source v)))
      → IsCameOrSource marks.records e further → IsDemandThere marks.records e.source demand → Serves seen.edits seen.edit seen.old new marks set demand e
  serves may several passes is_further there = subst Served seen.of_edge by_edit may several passes is_further there seen.sees where
    by_edit : Served (edit_edge seen.edit)
    by_edit may several passes is_further there sees =
        let place = start_source seen.edits seen.edit seen.old new seen.are_old seen.are_new seen.stay sees may several set further passes marks.types marks.contexts marks.records seen.kept is_further demand there in
        record {
          place = place;
          at_edge = at_edge seen.edits seen.edit seen.old new seen.are_old seen.are_new seen.stay sees may several set further passes marks.types marks.contexts marks.records seen.kept is_further demand there place;
          ticked = conflict_ticked seen.edits seen.edit seen.old new seen.are_old seen.are_new seen.stay sees may several set further passes marks.types marks.contexts marks.records seen.kept is_further demand there place;
          weighs = under_weighs seen.edits seen.edit seen.old new seen.are_old seen.are_new;
          renewed = conflict_renewed seen.edits seen.edit seen.old new seen.are_old seen.are_new seen.stay sees may several set further passes marks.types marks.contexts marks.records seen.kept is_further demand there place;
        }

-- no more children stand at the position than the edit is large
pub children_seen : (e : Edge) (new : List Edge) (marks : KeptMarks) (seen : IsSeenByOne e new marks) (near : List Vertex) → AreNear e seen.old new near → length (children_of e.source e.position new) ≤ near_size seen.old new near
children_seen e new marks seen near =
    subst (λ (x : Edge). AreNear x seen.old new near → length (children_of x.source x.position new) ≤ near_size seen.old new near) seen.of_edge
    (children_weigh seen.edits seen.edit seen.old new seen.are_old seen.are_new near)
