-- Kept marks after an edit: what walks down made is put in place of the old records, over tables that have grown.
use Rattle.std.proofs.Common.{◌≡◌, Bool, true, false, cond, not, List, [], ◌∷◌, IfSome, refl, sym, ap, subst, ◌∙◌}
use Rattle.std.specs.Prelude.{◌||◌, filter}
use Rattle.std.specs.List.{AllByRecursion}
use Rattle.std.specs.Option.{option_map}
use Rattle.grove_edits.specs.declared.vertex.Vertex.{Vertex}
use Rattle.grove_edits.specs.declared.edge.Edge.{Edge}
use Rattle.grove_edits.specs.declared.edit.Edit.{Edit}
use Rattle.grove_edits.specs.Edge.{IsWellFormed}
use Rattle.grove_edits.specs.Edit.{edit_edge}
use Rattle.grove_edits.specs.Vertex.{is_same_vertex, stands_in}
use Rattle.grove_edits.specs.Graph.{Graph, graph, graph_join, IsSame}
use Rattle.graph_words.specs.declared.class.Class.TheVariants.{Inner}
use Rattle.graph_words.specs.Class.{class, is_cycle_root}
use Rattle.graph_words.specs.Walk.{walk}
use Rattle.graph_words.specs.Whole.{AreLive}
use Rattle.grove_terms.proofs.OneGrove.{one_live}
use Rattle.grove_terms.proofs.WellSorted.{live_well_formed}
use Rattle.type_core.specs.Typ.{Typ}
use Rattle.judging.proofs.Kept.{types-itself, contexts-itself}
use Rattle.type_core.specs.TypeTable.{KeepsTypes}
use Rattle.ctx_table.specs.Context.{Context}
use Rattle.ctx_table.specs.CtxTable.{KeepsContexts}
use Rattle.kept_records.specs.Kept.{Kept, AreKept}
use Rattle.kept_records.specs.Local.{is_inner}
use Rattle.kept_records.specs.Change.{CyclesStay, is_on_walks}
use Rattle.kept_records.specs.Renewal.{MakesTrees, AreAllInTrees, put}
use Rattle.kept_records.proofs.OneSize.{live_along, kept_along}
use Rattle.mark_store.specs.declared.record.Record.{Record}
use Rattle.mark_store.specs.Places.{Places, value_at, holds}
use Rattle.mark_incremental.specs.declared.passing.Ends.{Ends}
use Rattle.mark_incremental.specs.Reading.{kept_by, IsRecordOf, records_at, AreRecordsOf}
use Rattle.mark_incremental.specs.Looking.{on, AreRoots}
use Rattle.mark_incremental.specs.Walking.{meant, HasMadeTrees, LeavesRight}
use Rattle.mark_incremental.specs.Passing.{AreWalks, HoldsThese}
use Rattle.mark_incremental.specs.Standing.{KeptMarks, StandFor, records_in, put_in}
use Rattle.mark_incremental.specs.Applying.{HaveGrown, WasBefore}
use Rattle.mark_incremental.specs.Rooting.{IsChangedTo, IsOnlyRoot}
use Rattle.mark_incremental.proofs.Growth.{records_kept, records_at-kept}
use Rattle.mark_incremental.proofs.Raised.{raised_graph}
use Rattle.mark_incremental.proofs.NearRenewed.{put_read, near_renewed}
use Rattle.mark_incremental.proofs.Renewed.{not_inner}
use Rattle.mark_incremental.proofs.WholeTrees.{their_trees_keep}
use Rattle.mark_incremental.proofs.Roots.{changed_roots, was_root, changed_alone, roots_kept}

-- the heads among some vertices are no trees of others
pub outer_among : (live : List Edge) (vs : List Vertex) → AllByRecursion (λ v. class live v ≡ Inner → ⊥) (filter (λ v. not (is_inner live v)) vs)
outer_among live [] = tt
outer_among live (x ∷ xs) = by (is_inner live x) refl (outer_among live xs) where
  by : (b : Bool) → is_inner live x ≡ b → AllByRecursion (λ v. class live v ≡ Inner → ⊥) (filter (λ v. not (is_inner live v)) xs)
      → AllByRecursion (λ v. class live v ≡ Inner → ⊥) (cond (not (is_inner live x)) (x ∷ filter (λ v. not (is_inner live v)) xs) (filter (λ v. not (is_inner live v)) xs))
  by true is rest = subst (λ b. AllByRecursion (λ v. class live v ≡ Inner → ⊥) (cond (not b) (x ∷ filter (λ v. not (is_inner live v)) xs) (filter (λ v. not (is_inner live v)) xs))) (sym is) rest
  by false is rest =
      subst (λ b. AllByRecursion (λ v. class live v ≡ Inner → ⊥) (cond (not b) (x ∷ filter (λ v. not (is_inner live v)) xs) (filter (λ v. not (is_inner live v)) xs))) (sym is) (not_inner live x is, rest)

-- records stand for the same over tables that have grown
pub kept_over : (g : Graph) (live : List Edge) (types grown : List Typ) (ctxs grown_ctxs : List Context) (places : Places Record) → KeepsTypes types grown → KeepsContexts ctxs grown_ctxs → AreRecordsOf types ctxs places
    → AreKept g live (records_at types ctxs places) → AreKept g live (records_at grown grown_ctxs places)
kept_over g live types grown ctxs grown_ctxs places keeps keepsc of kept = subst (AreKept g live) same_records kept where
  same_records : records_at types ctxs places ≡ records_at grown grown_ctxs places
  same_records = λ j v. sym (records_at-kept types grown ctxs grown_ctxs keeps keepsc places of v) j

-- maps that answer the same stand for the same
pub kept_same : (g : Graph) (live : List Edge) (types : List Typ) (ctxs : List Context) (places after : Places Record) → ((v : Vertex) → value_at after v ≡ value_at places v)
    → AreKept g live (records_at types ctxs places) → AreKept g live (records_at types ctxs after)
kept_same g live types ctxs places after same_values kept = subst (AreKept g live) same_records kept where
  same_records : records_at types ctxs places ≡ records_at types ctxs after
  same_records = λ j v. ap (option_map (kept_by types ctxs)) (sym (same_values v)) j

-- the vertices on the walk up from the source, the target and one more
pub these_with : (new : List Edge) (e : Edge) (target r : Vertex) → e.target ≡ target → (source : List Vertex) → source ≡ walk new e.source → (passed : Places Bool) (vertices : List Vertex) → ((v : Vertex) → holds passed v ≡ stands_in v vertices)
    → ((v : Vertex) → holds passed v ≡ (is_same_vertex r v || (is_same_vertex target v || stands_in v source))) → (v : Vertex)
    → stands_in v vertices ≡ (is_same_vertex r v || (is_same_vertex e.target v || stands_in v (walk new e.source)))
these_with new e target r to source walked passed vertices these passes v =
    sym (these v) ∙ passes v ∙ ap (λ t. is_same_vertex r v || (is_same_vertex t v || stands_in v source)) (sym to)
    ∙ ap (λ vs. is_same_vertex r v || (is_same_vertex e.target v || stands_in v vs)) walked

-- the vertices of the four walks are those on the walks
pub on_four : (old new : List Edge) (e : Edge) (before late : Ends) → AreWalks old e before → AreWalks new e late → (passed : Places Bool)
    → ((v : Vertex) → holds passed v
    ≡ ((stands_in v before.source.vertices.items || stands_in v before.target.vertices.items) || (stands_in v late.source.vertices.items || stands_in v late.target.vertices.items)))
    → (v : Vertex) → holds passed v ≡ is_on_walks e old new v
on_four old new e before late walked walks passed passes v =
    passes v
    ∙ ap (λ vs. (stands_in v vs || stands_in v before.target.vertices.items) || (stands_in v late.source.vertices.items || stands_in v late.target.vertices.items)) walked.source
    ∙ ap (λ vs. (stands_in v (walk old e.source) || stands_in v vs) || (stands_in v late.source.vertices.items || stands_in v late.target.vertices.items)) walked.target
    ∙ ap (λ vs. (stands_in v (walk old e.source) || stands_in v (walk old e.target)) || (stands_in v vs || stands_in v late.target.vertices.items)) walks.source
    ∙ ap (λ vs. (stands_in v (walk old e.source) || stands_in v (walk old e.target)) || (stands_in v (walk new e.source) || stands_in v vs)) walks.target

module _ (edits : List Edit) (edit : Edit) (old new : List Edge) (are_old : AreLive (graph edits) old) (are_new : AreLive (graph (edit ∷ edits)) new)
    (types : List Typ) (ctxs : List Context) (places after : Places Record) (made : List (Vertex × Record)) (kept : AreKept (graph edits) old (records_at types ctxs places))
    (puts : (v : Vertex) → value_at after v ≡ put_in made (value_at places) v) where
  -- after an edit that makes or ends the root of a cycle
  pub whole_renewed : (r : Vertex) → IsOnlyRoot old new r → ((heads : List Vertex) (all : List (Vertex × Kept)) → MakesTrees (λ v. true) new (records_at types ctxs places) heads all → AreAllInTrees new heads all) → (vertices : List Vertex)
      → ((v : Vertex) → stands_in v vertices ≡ (is_same_vertex r v || (is_same_vertex (edit_edge edit).target v || stands_in v (walk new (edit_edge edit).source)))) → (passed : Places Bool)
      → HasMadeTrees new types ctxs places (on true passed) (filter (λ v. not (is_inner new v)) vertices) made → AreKept (graph (edit ∷ edits)) new (records_at types ctxs after)
  whole_renewed r only all_made vertices are passed trees =
      subst (AreKept (graph (edit ∷ edits)) new) same_records
      (their_trees_keep edits edit old new are_old are_new r only vertices are (records_at types ctxs places) kept (meant types ctxs made)
      (all_made (filter (λ v. not (is_inner new v)) vertices) (meant types ctxs made) (trees (records_at types ctxs places) (λ v. refl) leaves))) where
        leaves : LeavesRight new (on true passed) (records_at types ctxs places)
        leaves u us v f d stands left = let clash : true ≡ false = left.0 in absurd cc

        same_records : put (meant types ctxs made) (records_at types ctxs places) ≡ records_at types ctxs after
        same_records = λ j v. sym (ap (option_map (kept_by types ctxs)) (puts v) ∙ put_read types ctxs made (value_at places) v) j

  -- after an edit by which no root of a cycle comes or goes
  pub near_renewed_by : (before late : Ends) → CyclesStay old new → AreWalks old (edit_edge edit) before → AreWalks new (edit_edge edit) late → (passed : Places Bool) (vertices : List Vertex) → HoldsThese passed vertices
      → ((v : Vertex) → holds passed v
      ≡ ((stands_in v before.source.vertices.items || stands_in v before.target.vertices.items) || (stands_in v late.source.vertices.items || stands_in v late.target.vertices.items)))
      → HasMadeTrees new types ctxs places (on false passed) (filter (λ v. not (is_inner new v)) vertices) made → AreKept (graph (edit ∷ edits)) new (records_at types ctxs after)
  near_renewed_by before late stay walked walks passed vertices these passes trees =
      near_renewed edits edit old new are_old are_new stay types ctxs places after passed vertices made kept these
      (on_four old new (edit_edge edit) before late walked walks passed passes) trees puts

-- ---- from before an edit to after it

module _ (e : Edge) (g : Graph) (marks : KeptMarks) (ends : Ends) (was : WasBefore e g marks ends) (new : List Edge) (are : AreLive g new) where
  pub new_live : AreLive (graph (was.edit ∷ was.edits)) new
  new_live = live_along g (graph (was.edit ∷ was.edits)) new was.made are

  pub new_well_formed : AllByRecursion IsWellFormed new
  new_well_formed = live_well_formed (was.edit ∷ was.edits) new new_live

  pub walked : AreWalks was.live (edit_edge was.edit) ends
  walked = subst (λ (x : Edge). AreWalks was.live x ends) (sym was.of_edge) was.walks

  module _ (late : Ends) (walks : AreWalks new e late) where
    pub walk_on : AreWalks new (edit_edge was.edit) late
    walk_on = subst (λ (x : Edge). AreWalks new x late) (sym was.of_edge) walks

    pub cycles_kept : ends.target.comes_back ≡ late.target.comes_back → CyclesStay was.live new
    cycles_kept = roots_kept was.edits was.edit was.live new was.are_live new_live ends late walked walk_on

    pub rooted_still : ends.target.comes_back ≡ late.target.comes_back → AreRoots new marks.roots
    rooted_still one v = was.rooted v ∙ cycles_kept one v

    changed_to : (r : Vertex) (b : Bool) → IsChangedTo e.target ends late r b → IsChangedTo (edit_edge was.edit).target ends late r b
    changed_to r b = subst (λ (x : Edge). IsChangedTo x.target ends late r b) (sym was.of_edge)

    pub rooted_after : (r : Vertex) (b : Bool) → IsChangedTo e.target ends late r b → (v : Vertex) → is_cycle_root new v ≡ cond (is_same_vertex r v) b (holds marks.roots v)
    rooted_after r b is v =
        changed_roots was.edits was.edit was.live new was.are_live new_live ends late walked walk_on r b (changed_to r b is) v ∙ ap (cond (is_same_vertex r v) b) (sym (was.rooted v))

    pub rooted_before : (r : Vertex) (b : Bool) → IsChangedTo e.target ends late r b → holds marks.roots r ≡ not b
    rooted_before r b is = was.rooted r ∙ was_root was.edits was.edit was.live new was.are_live new_live ends late walked walk_on r b (changed_to r b is)

    pub only_root : (r : Vertex) (b : Bool) → IsChangedTo e.target ends late r b → IsOnlyRoot was.live new r
    only_root r b is = changed_alone was.edits was.edit was.live new was.are_live new_live ends late walked walk_on r b (changed_to r b is)

  pub stands_after : (after : KeptMarks) → AreKept (graph (was.edit ∷ was.edits)) new (records_in after) → AreRoots new after.roots → AreRecordsOf after.types after.contexts after.records → StandFor g after
  stands_after after kept rooted numbers = record {
    edits = was.edit ∷ was.edits;
    made = was.made;
    live = new;
    are_live = are;
    kept = kept_along (graph (was.edit ∷ was.edits)) g new (records_in after) (λ x. sym (was.made x)) kept;
    rooted = rooted;
    numbers = numbers;
  }

-- marks that stand for a graph stand for the one before an edit that is raised in it
abbrev pub stands_before : (edit : Edit) (e : Edge) → edit_edge edit ≡ e → (g same_as h : Graph) (live : List Edge) (marks : KeptMarks) (ends : Ends) → StandFor g marks → IsSame same_as g → AreLive same_as live
    → IsSame h (graph_join same_as (graph (edit ∷ []))) → AreWalks live e ends → WasBefore e h marks ends
stands_before edit e of_edge g same_as h live marks ends stands same are joined walks = record {
  edits = stands.edits;
  edit = edit;
  of_edge = of_edge;
  made = raised_graph stands.edits edit same_as h (λ e. same e ∙ stands.made e) joined;
  live = live;
  are_live = live_along g (graph stands.edits) live stands.made (live_along same_as g live same are);
  kept = kept_along g (graph stands.edits) live (records_in marks) stands.made (subst (λ (es : List Edge). AreKept g es (records_in marks)) one stands.kept);
  rooted = subst (λ (es : List Edge). AreRoots es marks.roots) one stands.rooted;
  walks = walks;
} where
  one : stands.live ≡ live
  one = one_live g stands.live live stands.are_live (live_along same_as g live same are)

-- what marks stand for stays where their tables are the same as others
pub kept_moved : (g : Graph) (live : List Edge) (marks then : KeptMarks) → then.types ≡ marks.types → then.contexts ≡ marks.contexts → AreKept g live (records_at marks.types marks.contexts then.records)
    → AreKept g live (records_in then)
kept_moved g live marks then types contexts kept =
    subst (λ ts. AreKept g live (records_at ts then.contexts then.records)) (sym types) (subst (λ cs. AreKept g live (records_at marks.types cs then.records)) (sym contexts) kept)

-- marks stand for each graph that is the same, and so do others that have grown
pub grown_stands : (g h : Graph) (marks after : KeptMarks) → StandFor g marks → IsSame h g → HaveGrown marks after → StandFor h after
grown_stands g h marks after stands same grown = record {
  edits = stands.edits;
  made = λ e. same e ∙ stands.made e;
  live = stands.live;
  are_live = live_along g h stands.live (λ e. sym (same e)) stands.are_live;
  kept =
      kept_along g h stands.live (records_in after) (λ e. sym (same e))
      (kept_same g stands.live after.types after.contexts marks.records after.records grown.records
      (kept_over g stands.live marks.types after.types marks.contexts after.contexts marks.records grown.types grown.contexts stands.numbers stands.kept));
  rooted = λ v. grown.roots v ∙ stands.rooted v;
  numbers = λ v. subst (λ o. IfSome o (IsRecordOf after.types after.contexts)) (sym (grown.records v))
      (records_kept marks.types after.types marks.contexts after.contexts grown.types grown.contexts marks.records stands.numbers v);
}

pub nothing_grown : (marks : KeptMarks) → HaveGrown marks marks
nothing_grown marks = record { types = types-itself marks.types; contexts = contexts-itself marks.contexts; records = λ v. refl; roots = λ v. refl }
