-- A target that is not above a source, and what the source alone sees.
use Rattle.std.proofs.Common.{◌≡◌, ◌⊎◌, inl, inr, ℕ, suc, ◌+◌, ◌*◌, ◌≤◌, Bool, true, false, List, [], ◌∷◌, ◌++◌, length, Option, Some, None, IfSome, refl, sym, ap, subst, ◌∙◌, length-append, arith}
use Rattle.std.specs.Prelude.{◌||◌, IsTrue, Result, Ok, Err, IfOk, OnOk}
use Rattle.std.specs.List.{AllByRecursion}
use Rattle.std.specs.Option.{option_map}
use Rattle.grove_sorts.specs.declared.position.Position.{Position}
use Rattle.grove_sorts.specs.declared.sort.Sort.{Sort}
use Rattle.grove_sorts.specs.Ctor.{positions}
use Rattle.grove_edits.specs.declared.vertex.Vertex.{Vertex}
use Rattle.grove_edits.specs.declared.edge.Edge.{Edge}
use Rattle.grove_edits.specs.declared.edit.Edit.{Edit}
use Rattle.grove_edits.specs.Edit.{edit_edge}
use Rattle.grove_edits.specs.Graph.{Graph, graph, graph_join, IsSame}
use Rattle.grove_edits.specs.Vertex.{is_same_vertex, stands_in}
use Rattle.grove_edits.proofs.Vertices.{same_vertex_itself, same_vertex_exact}
use Rattle.edge_lattice.specs.declared.state.State.TheVariants.{Absent, Live}
use Rattle.graph_words.specs.declared.class.Class.TheVariants.{Inner}
use Rattle.graph_words.specs.declared.few.Few.{Few}
use Rattle.graph_words.specs.declared.few.Few.TheVariants.{Zero, One, More}
use Rattle.graph_words.specs.Few.{first_two, few_len}
use Rattle.graph_words.specs.Live.{holds_edge, parents_of, children_of}
use Rattle.graph_words.specs.Walk.{only_source, above, walk}
use Rattle.graph_words.specs.Class.{class_by, class, is_cycle_root}
use Rattle.graph_words.specs.Whole.{AreLive, IsVertexOf}
use Rattle.grove_terms.specs.Forest.{edges_from, edges_under}
use Rattle.grove_terms.proofs.InLive.{IsFromPlace, children_lead}
use Rattle.type_core.specs.Typ.{Typ}
use Rattle.ctx_table.specs.Context.{Context}
use Rattle.kept_records.specs.Kept.{Kept, AreKept}
use Rattle.kept_records.specs.Change.{CyclesStay}
use Rattle.kept_records.specs.Short.{SourceAloneSees, LeadsUp}
use Rattle.mark_store.specs.declared.record.Record.{Record}
use Rattle.mark_store.specs.Places.{Places, holds}
use Rattle.mark_incremental.specs.Reading.{kept_by, IsRecordOf, records_at, AreRecordsOf}
use Rattle.kept_records.specs.Change.{AreNear, near_size}
use Rattle.kept_records.proofs.OnWalks.{on_new_source}
use Rattle.kept_records.proofs.Sizes.{walk_once, length_within}
use Rattle.kept_records.proofs.OneSize.{live_along, kept_along}
use Rattle.mark_incremental.specs.Looking.{AreRoots}
use Rattle.type_core.specs.TypeTable.{KeepsTypes}
use Rattle.ctx_table.specs.CtxTable.{KeepsContexts}
use Rattle.mark_incremental.specs.Standing.{KeptMarks, StandFor, kept_in, records_in}
use Rattle.mark_incremental.specs.Applying.{HaveGrown}
use Rattle.grove_edits.specs.Edge.{IsWellFormed}
use Rattle.grove_terms.proofs.WellSorted.{live_well_formed}
use Rattle.kept_records.specs.Size.{IsSize}
use Rattle.mark_incremental.proofs.SizeBound.{size_of, near_of}
use Rattle.grove_terms.proofs.OneGrove.{one_live}
use Rattle.mark_incremental.proofs.Raised.{raised_graph}
use Rattle.mark_incremental.proofs.Growth.{records_kept}
use Rattle.mark_incremental.proofs.Edited.{kept_over, kept_same}
use Rattle.mark_incremental.specs.ShortWalks.{IsSeenByOne, StoodBefore, IsAboveInner, IsApartUpTo, IsLedFrom, IsLeaf, IsApart, MayBeShort}
use Rattle.grove_edits.proofs.Orders.{one_edge}
use Rattle.grove_edits.specs.Graph.{is_same_edge}
use Rattle.grove_terms.proofs.WellSorted.{held_first}
use Rattle.kept_records.proofs.Children.{all_held, held_in_filter, parents_lead}
use Rattle.mark_incremental.proofs.Steps.{held_in}
use Rattle.kept_records.proofs.Short.{cycles_stay_apart, cycles_stay_shared, way_within_walk, off_walk_by_way, off_walk_by_leaf}

-- ---- the way so far

leads_on : (live : List Edge) (v : Vertex) (way : List Vertex) (at next : Vertex) → LeadsUp live v way at → class live at ≡ Inner → above live at ≡ Some next → LeadsUp live v (way ++ next ∷ []) next
leads_on live v [] at next leads inner up = (ap (class live) leads ∙ inner, ap (above live) leads ∙ up, refl)
leads_on live v (w ∷ ws) at next leads inner up = (leads.0, leads.1, leads_on live w ws at next leads.2 inner up)

off_on : (t next : Vertex) (vs : List Vertex) → is_same_vertex next t ≡ false → stands_in t vs ≡ false → stands_in t (vs ++ next ∷ []) ≡ false
off_on t next [] other off = ap (λ b. b || false) other
off_on t next (v ∷ vs) other off = by (is_same_vertex v t) off (off_on t next vs other) where
  by : (b : Bool) → (b || stands_in t vs) ≡ false → (stands_in t vs ≡ false → stands_in t (vs ++ next ∷ []) ≡ false) → (b || stands_in t (vs ++ next ∷ [])) ≡ false
  by true h later = absurd cc
  by false h later = later h

pub begun_apart : (live : List Edge) (target source : Vertex) → (target ≡ source → ⊥) → IsApartUpTo live target source source
begun_apart live target source other = record { way = []; leads = refl; off = by (is_same_vertex source target) refl } where
  by : (b : Bool) → is_same_vertex source target ≡ b → (b || false) ≡ false
  by true same = absurd (other (sym (same_vertex_exact source target same)))
  by false same = refl

pub more_apart : (live : List Edge) (target source at next : Vertex) → (upto : IsApartUpTo live target source at) → IsAboveInner live at (Some next) → is_same_vertex next target ≡ false
    → (later : IsApartUpTo live target source next) × (length later.way ≡ suc (length upto.way))
more_apart live target source at next upto up other = (
  record { way = upto.way ++ next ∷ []; leads = leads_on live source upto.way at next upto.leads up.0 up.1; off = off_on target next (source ∷ upto.way) other upto.off },
  (let len = length-append upto.way (next ∷ []) in omega (arith, len)),
)

-- nothing is above the head of a tree that is not the root of a cycle
pub none_above : (live : List Edge) (v : Vertex) → (class live v ≡ Inner → ⊥) → is_cycle_root live v ≡ false → above live v ≡ None
none_above live v outer no_root = by (parents_of v live) (is_cycle_root live v) no_root outer where
  by : (es : List Edge) (b : Bool) → b ≡ false → (class_by es b ≡ Inner → ⊥) → only_source es ≡ None
  by [] b is out = refl
  by (e ∷ []) true is out = absurd cc
  by (e ∷ []) false is out = absurd (out refl)
  by (e ∷ f ∷ es) b is out = refl

-- ---- a target without children

module _ (live : List Edge) (v : Vertex) (nowhere : (d : Edge) → holds_edge d live ≡ true → d.source ≡ v → ⊥) where
  none_there : (p : Position) (es : List Edge) → AllByRecursion (IsFromPlace live v p) es → es ≡ []
  none_there p [] all = refl
  none_there p (d ∷ es) all = absurd (nowhere d all.0.held all.0.source)

  none_from : (row : List (Position × Sort)) → edges_from live v row ≡ []
  none_from [] = refl
  none_from (p ∷ ps) = ap (λ es. es ++ edges_from live v ps) (none_there p.0 (children_of v p.0 live) (children_lead live v p.0)) ∙ none_from ps

module _ (edits : List Edit) (old : List Edge) (are_old : AreLive (graph edits) old) (types : List Typ) (ctxs : List Context) (places : Places Record) (kept : AreKept (graph edits) old (records_at types ctxs places)) where
  leaf_under : (v : Vertex) → IsLeaf places v → edges_under old v ≡ []
  leaf_under v (inl no_positions) = ap (edges_from old v) no_positions
  leaf_under v (inr no_record) = none_from old v nowhere (positions v.ctor) where
    clash : (k : Kept) (o : Option Kept) → o ≡ Some k → o ≡ None → ⊥
    clash k o some none = let never : Some k ≡ None = sym some ∙ none in cc

    nowhere : (d : Edge) → holds_edge d old ≡ true → d.source ≡ v → ⊥
    nowhere d held from =
        let is : IsVertexOf (graph edits) v = inr (d, (λ absent. let lives = are_old.no_other d held in let never : Absent ≡ Live = sym absent ∙ lives in cc), inl from) in
        clash (kept.each v is).0 (records_at types ctxs places v) (kept.each v is).1 (ap (option_map (kept_by types ctxs)) no_record)

  pub apart_off_walk : (target source : Vertex) → IsApart old places target source → stands_in target (walk old source) ≡ false
  apart_off_walk target source (inl (other, leaf)) = off_walk_by_leaf edits old are_old target source (leaf_under target leaf) other
  apart_off_walk target source (inr passes) = off_walk_by_way old target source passes.upto.way passes.top passes.upto.leads passes.none_above passes.upto.off

-- ---- the parents of the target

-- an edge to a vertex stands among its parents
among_parents : (d : Edge) (v : Vertex) (edges : List Edge) → holds_edge d edges ≡ true → d.target ≡ v → holds_edge d (parents_of v edges) ≡ true
among_parents d v edges held to = held_in (λ x. is_same_vertex x.target v) d edges (ap (λ w. is_same_vertex w v) to ∙ same_vertex_itself v) held

by_few : (es : List Edge) (few : Few) → few ≡ first_two es → (d : Edge) → holds_edge d es ≡ true → (few ≡ Zero → ⊥) × ((p : Edge) → few ≡ One p → d ≡ p)
by_few [] few is d held = absurd cc
by_few (p ∷ []) few is d held = ((λ zero. let no : Zero ≡ One p = sym zero ∙ is in cc), λ q one. sym (one_edge p d (only (is_same_edge p d) held)) ∙ same p q (sym is ∙ one)) where
  only : (b : Bool) → (b || false) ≡ true → b ≡ true
  only true h = refl
  only false h = h

  same : (a b : Edge) → One a ≡ One b → a ≡ b
  same a b h = cc
by_few (p ∷ q ∷ es) few is d held = ((λ zero. let no : Zero ≡ More p q = sym zero ∙ is in cc), λ r one. (let no : One r ≡ More p q = sym one ∙ is in absurd cc))

-- no edge leads to the target where it has no parents
pub no_parent : (e : Edge) (edges : List Edge) → Zero ≡ first_two (parents_of e.target edges) → (d : Edge) → holds_edge d edges ≡ true → d.target ≡ e.target → ⊥
no_parent e edges is d held to = (by_few (parents_of e.target edges) Zero is d (among_parents d e.target edges held to)).0 refl

-- and none but the one where it has one
pub one_parent : (e : Edge) (edges : List Edge) (p : Edge) → One p ≡ first_two (parents_of e.target edges) → (d : Edge) → holds_edge d edges ≡ true → d.target ≡ e.target → d ≡ p
one_parent e edges p is d held to = (by_few (parents_of e.target edges) (One p) is d (among_parents d e.target edges held to)).1 p refl

pub zero_led : (e : Edge) (edges : List Edge) → Zero ≡ first_two (parents_of e.target edges) → IsLedFrom e edges
zero_led e edges is d held to = absurd (no_parent e edges is d held to)

pub one_led : (e : Edge) (edges : List Edge) (p : Edge) → One p ≡ first_two (parents_of e.target edges) → p.source ≡ e.source → IsLedFrom e edges
one_led e edges p is from d held to = ap (λ (x : Edge). x.source) (one_parent e edges p is d held to) ∙ from

-- ---- what the source alone sees

-- what is above the target is the source, if anything is
above_led : (e : Edge) (edges : List Edge) → IsLedFrom e edges → (w : Vertex) → above edges e.target ≡ Some w → w ≡ e.source
above_led e edges led w up = by (parents_of e.target edges) refl up where
  some_same : (a b : Vertex) → Some a ≡ Some b → a ≡ b
  some_same a b h = cc

  by : (es : List Edge) → parents_of e.target edges ≡ es → only_source es ≡ Some w → w ≡ e.source
  by [] is h = absurd cc
  by (p ∷ []) is h =
      let among : holds_edge p (parents_of e.target edges) ≡ true = ap (holds_edge p) is ∙ held_first p [] in
      sym (some_same p.source w h)
      ∙ led p (held_in_filter (λ x. is_same_vertex x.target e.target) p edges among) (all_held (λ x. x.target ≡ e.target) (parents_of e.target edges) (parents_lead e.target edges) p among)
  by (p ∷ q ∷ es) is h = absurd cc

module _ (edits : List Edit) (edit : Edit) (old new : List Edge) (are_old : AreLive (graph edits) old) (are_new : AreLive (graph (edit ∷ edits)) new) (types : List Typ) (ctxs : List Context) (places : Places Record)
    (kept : AreKept (graph edits) old (records_at types ctxs places)) (apart : Bool) (is_apart : apart ≡ true → IsApart old places (edit_edge edit).target (edit_edge edit).source) where
  pub sees_alone : MayBeShort (edit_edge edit) apart old new → SourceAloneSees (edit_edge edit) old new
  sees_alone (inl alike) = inr (inl (alike.class_stays, alike.outer))
  sees_alone (inr (is, led, led_after)) = inr (inr (λ d held to. by d held to)) where
    by : (d : Edge) → (holds_edge d old ≡ true) ⊎ (holds_edge d new ≡ true) → d.target ≡ (edit_edge edit).target → d.source ≡ (edit_edge edit).source
    by d (inl held) to = led d held to
    by d (inr held) to = led_after d held to

  pub stays_alone : MayBeShort (edit_edge edit) apart old new → CyclesStay old new
  stays_alone (inl alike) = cycles_stay_shared edits edit old new are_old are_new alike.none_before alike.none_after
  stays_alone (inr (is, led, led_after)) =
      cycles_stay_apart edits edit old new are_old are_new (apart_off_walk edits old are_old types ctxs places kept (edit_edge edit).target (edit_edge edit).source (is_apart is))
      (above_led (edit_edge edit) old led) (above_led (edit_edge edit) new led_after)

-- ---- marks that stood for the graph before the edit

module _ (e : Edge) (g : Graph) (marks : KeptMarks) (before : Few) (apart : Bool) (was : StoodBefore e g marks before apart) (new : List Edge) (are : AreLive g new) (may : MayBeShort e apart was.old new) where
  pub now_live : AreLive (graph (was.edit ∷ was.edits)) new
  now_live = live_along g (graph (was.edit ∷ was.edits)) new was.made are

  pub may_there : MayBeShort (edit_edge was.edit) apart was.old new
  may_there = subst (λ x. MayBeShort x apart was.old new) (sym was.of_edge) may

  pub apart_there : apart ≡ true → IsApart was.old marks.records (edit_edge was.edit).target (edit_edge was.edit).source
  apart_there is = subst (λ (x : Edge). IsApart was.old marks.records x.target x.source) (sym was.of_edge) (was.is_apart is)

  abbrev pub seen_by_one : IsSeenByOne e new marks
  seen_by_one = record {
    edits = was.edits;
    edit = was.edit;
    of_edge = was.of_edge;
    old = was.old;
    are_old = was.are_old;
    are_new = now_live;
    stay = stays_alone was.edits was.edit was.old new was.are_old now_live marks.types marks.contexts marks.records was.kept apart apart_there may_there;
    kept = was.kept;
    numbers = was.numbers;
    sees =
        subst (λ x. SourceAloneSees x was.old new) was.of_edge
        (sees_alone was.edits was.edit was.old new was.are_old now_live marks.types marks.contexts marks.records was.kept apart apart_there may_there);
  }

  pub rooted_there : AreRoots new marks.roots
  rooted_there v = was.rooted v ∙ stays_alone was.edits was.edit was.old new was.are_old now_live marks.types marks.contexts marks.records was.kept apart apart_there may_there v

-- marks that have grown stand for it too
abbrev pub seen_grown : (e : Edge) (new : List Edge) (marks grown : KeptMarks) → HaveGrown marks grown → IsSeenByOne e new marks → IsSeenByOne e new grown
seen_grown e new marks grown have seen = record {
  edits = seen.edits;
  edit = seen.edit;
  of_edge = seen.of_edge;
  old = seen.old;
  are_old = seen.are_old;
  are_new = seen.are_new;
  stay = seen.stay;
  kept =
      kept_same (graph seen.edits) seen.old grown.types grown.contexts marks.records grown.records have.records
      (kept_over (graph seen.edits) seen.old marks.types grown.types marks.contexts grown.contexts marks.records have.types have.contexts seen.numbers seen.kept);
  sees = seen.sees;
  numbers = λ v. subst (λ o. IfSome o (IsRecordOf grown.types grown.contexts)) (sym (have.records v))
      (records_kept marks.types grown.types marks.contexts grown.contexts have.types have.contexts marks.records seen.numbers v);
}

-- a way up is no longer than the size of the edit
pub way_within : (e : Edge) (old new : List Edge) (near : List Vertex) → AreNear e old new near → (ws : List Vertex) (top : Vertex) → LeadsUp new e.source ws top → length ws ≤ near_size old new near
way_within e old new near are ws top leads =
    let part = way_within_walk new e.source ws top leads in
    let whole = length_within e old new near are (walk new e.source) (walk_once new e.source) (λ v on. on_new_source e old new v on) in
    omega (arith, part, whole)

-- ---- what may be there

pub some_holds : {X K : Type 0} (o : Option X) (x : X) → o ≡ Some x → IfSome o (λ y. K) → K
some_holds {K = K} o x is there = subst (λ p. IfSome p (λ y. K)) is there

pub grown_by : (marks grown : KeptMarks) → KeepsTypes marks.types grown.types → KeepsContexts marks.contexts grown.contexts → ((v : Vertex) → kept_in grown v ≡ kept_in marks v) → grown.roots ≡ marks.roots → HaveGrown marks grown
grown_by marks grown types contexts records roots = record { types = types; contexts = contexts; records = records; roots = λ v. ap (λ places. holds places v) roots }

pub stand_if : {X E K N S : Type 0} (r : Result (Option X) E) → (K → N → S) → IfOk r (λ o. IfSome o (λ x. K)) → OnOk r N → IfOk r (λ o. IfSome o (λ x. S))
stand_if (Ok None) gives kept numbers = tt
stand_if (Ok (Some x)) gives kept numbers = gives kept numbers
stand_if (Err e) gives kept numbers = tt

pub few_short : (few : Few) → few_len few ≤ 2
few_short Zero = omega arith
few_short (One e) = omega arith
few_short (More e f) = omega arith

module _ (e : Edge) (g : Graph) (marks : KeptMarks) (before : Few) (apart : Bool) (was : StoodBefore e g marks before apart) (new : List Edge) (are : AreLive g new) where
  pub well_there : AllByRecursion IsWellFormed new
  well_there = live_well_formed (was.edit ∷ was.edits) new (live_along g (graph (was.edit ∷ was.edits)) new was.made are)

  module _ (may : MayBeShort e apart was.old new) where
    pub stands_there : (after : KeptMarks) → after.roots ≡ marks.roots → AreKept (graph (was.edit ∷ was.edits)) new (records_in after) → AreRecordsOf after.types after.contexts after.records → StandFor g after
    stands_there after roots kept numbers = record {
      edits = was.edit ∷ was.edits;
      made = was.made;
      live = new;
      are_live = are;
      kept = kept_along (graph (was.edit ∷ was.edits)) g new (records_in after) (λ x. sym (was.made x)) kept;
      rooted = λ v. ap (λ places. holds places v) roots ∙ rooted_there e g marks before apart was new are may v;
      numbers = numbers;
    }

    pub size_near : (n : ℕ) → IsSize e (graph was.edits) (graph (was.edit ∷ was.edits)) n → (near : List Vertex) × AreNear e was.old new near × (n ≡ near_size was.old new near)
    size_near n size =
        let seen = seen_by_one e g marks before apart was new are may in
        let near = near_of was.edits was.edit was.old new was.are_old seen.are_new seen.stay n (size_of was.edits was.edit e was.of_edge n size) in
        (near.0, subst (λ x. AreNear x was.old new near.0) was.of_edge near.1, near.2)

-- marks that stand for a graph stood for it before an edit that is raised in it
abbrev pub stood_before : (edit : Edit) (e : Edge) → edit_edge edit ≡ e → (g h : Graph) (live : List Edge) (marks : KeptMarks) (before : Few) (apart : Bool) → StandFor g marks → AreLive g live → IsSame h (graph_join g (graph (edit ∷ [])))
    → before ≡ first_two (parents_of e.target live) → (IsTrue apart → IsApart live marks.records e.target e.source) → StoodBefore e h marks before apart
stood_before edit e of_edge g h live marks before apart stands are joined parents is_apart = record {
  edits = stands.edits;
  edit = edit;
  of_edge = of_edge;
  made = raised_graph stands.edits edit g h stands.made joined;
  old = live;
  are_old = live_along g (graph stands.edits) live stands.made are;
  kept = kept_along g (graph stands.edits) live (records_in marks) stands.made (subst (λ (es : List Edge). AreKept g es (records_in marks)) (one_live g stands.live live stands.are_live are) stands.kept);
  numbers = stands.numbers;
  rooted = subst (λ (es : List Edge). AreRoots es marks.roots) (one_live g stands.live live stands.are_live are) stands.rooted;
  parents = parents;
  is_apart = is_apart;
}

pub rooted_in : (g : Graph) (live : List Edge) (marks : KeptMarks) → StandFor g marks → AreLive g live → AreRoots live marks.roots
rooted_in g live marks stands are = subst (λ (es : List Edge). AreRoots es marks.roots) (one_live g stands.live live stands.are_live are) stands.rooted

-- a way up from the source before the edit is no longer than this
pub way_before : (live : List Edge) (source : Vertex) (n : ℕ) → length (walk live source) ≤ 2 * n + 1 → (ws : List Vertex) (top : Vertex) → LeadsUp live source ws top → length ws ≤ 2 * n
way_before live source n within ws top leads = let part = way_within_walk live source ws top leads in omega (arith, part, within)
