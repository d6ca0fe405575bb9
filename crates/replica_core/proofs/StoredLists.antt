-- The canonical list of a store's graph.
use Rattle.std.proofs.Common.{◌≡◌, ◌≢◌, Bool, true, false, cond, List, [], ◌∷◌, map, refl, sym, ap, ◌∙◌}
use Rattle.std.specs.Prelude.{◌||◌, Option, None, Some}
use Rattle.edge_lattice.specs.declared.state.State.{State}
use Rattle.edge_lattice.specs.declared.state.State.TheVariants.{Absent, Live, Deleted}
use Rattle.edge_lattice.specs.State.{state_join}
use Rattle.edge_lattice.proofs.States.{state_join_comm, state_join_idem, Absent-state_join}
use Rattle.grove_edits.specs.declared.edge.Edge.{Edge}
use Rattle.grove_edits.specs.declared.edit.Edit.{Edit}
use Rattle.grove_edits.specs.declared.edit.EditKind.{EditKind}
use Rattle.grove_edits.specs.declared.edit.EditKind.TheVariants.{Insert, Delete}
use Rattle.grove_edits.specs.Edge.{IsWellFormed, EdgeInRange}
use Rattle.grove_edits.specs.Edit.{edit_kind}
use Rattle.grove_edits.specs.Graph.{Graph, graph, state_of, is_same_edge, IsSame, Ascends, IsCanonical}
use Rattle.grove_edits.proofs.Graphs.{asked}
use Rattle.grove_edits.proofs.Orders.{one_edge}
use Rattle.grove_edits.proofs.Unique.{canonical_once}
use Rattle.graph_words.specs.Live.{holds_edge}
use Rattle.graph_words.specs.States.{Entries, state_in}
use Rattle.user_actions.proofs.SomeLists.{entries_have}
use Rattle.user_actions.proofs.SomePlan.{edits_well_formed, edits_in_range}
use Rattle.replica_core.specs.Plain.{edit_of}
use Rattle.replica_core.specs.Stored.{asking, with_some, edits_among, edits_in}
use Rattle.replica_core.proofs.AsEdits.{IsEditOf, some_edit}
use Rattle.replica_core.proofs.WithEdits.{graph-with_edit, ascends-with_edit}

-- ---- what an edit asks, where there is one

abbrev asked_by : Option Edit → Edge → State
asked_by None e = Absent
asked_by (Some edit) e = asked edit e

graph-with_some : (o : Option Edit) (xs : List Edit) (e : Edge) → graph (with_some o xs) e ≡ state_join (asked_by o e) (graph xs e)
graph-with_some None xs e = sym (Absent-state_join (graph xs e))
graph-with_some (Some edit) xs e = graph-with_edit edit xs e

ascends-with_some : (o : Option Edit) (xs : List Edit) → Ascends xs → Ascends (with_some o xs)
ascends-with_some None xs up = up
ascends-with_some (Some edit) xs up = ascends-with_edit edit xs up

asked_where : (kind : EditKind) (x : Edge) (o : Option Edit) (e : Edge) → IsEditOf kind x o → asked_by o e ≡ cond (is_same_edge x e) (state_of kind) Absent
asked_where kind x o e found =
    ap (λ p. asked_by p e) found.is
    ∙ ap (λ f. cond (is_same_edge f e) (state_of (edit_kind found.edit)) Absent) found.edge
    ∙ ap (λ k. cond (is_same_edge x e) (state_of k) Absent) found.kind_is

absent_both : (b : Bool) → Absent ≡ cond b Absent Absent
absent_both true = refl
absent_both false = refl

asking_asks : (x : Edge) (s : State) (e : Edge) → (s ≢ Absent → IsWellFormed x) → (s ≢ Absent → EdgeInRange x) → asked_by (asking x s) e ≡ cond (is_same_edge x e) s Absent
asking_asks x Absent e good within = absent_both (is_same_edge x e)
asking_asks x Live e good within = asked_where Insert x (edit_of Insert x) e (some_edit Insert x (good (λ h. cc)) (within (λ h. cc)))
asking_asks x Deleted e good within = asked_where Delete x (edit_of Delete x) e (some_edit Delete x (good (λ h. cc)) (within (λ h. cc)))

-- ---- the edits among some edges

pub ascends-edits_among : (g : Graph) (es : List Edge) → Ascends (edits_among g es)
ascends-edits_among g [] = tt
ascends-edits_among g (e ∷ es) = ascends-with_some (asking e (g e)) (edits_among g es) (ascends-edits_among g es)

-- what two lists say of an edge of which one says what the other does not say otherwise
both_say : (a b : Bool) (s t : State) → (a ≡ true → t ≡ s) → state_join (cond a t Absent) (cond b s Absent) ≡ cond (a || b) s Absent
both_say true true s t same = ap (λ u. state_join u s) (same refl) ∙ state_join_idem s
both_say true false s t same = ap (λ u. state_join u Absent) (same refl) ∙ state_join_comm s Absent ∙ Absent-state_join s
both_say false b s t same = Absent-state_join (cond b s Absent)

graph-edits_among : (g : Graph) (list : List Edit) → IsSame g (graph list) → (es : List Edge) (e : Edge) → graph (edits_among g es) e ≡ cond (holds_edge e es) (g e) Absent
graph-edits_among g list same [] e = refl
graph-edits_among g list same (x ∷ es) e =
    graph-with_some (asking x (g x)) (edits_among g es) e
    ∙ ap (λ s. state_join s (graph (edits_among g es) e)) (asking_asks x (g x) e (λ some. edits_well_formed list x (named some)) (λ some. edits_in_range list x (named some)))
    ∙ ap (state_join (cond (is_same_edge x e) (g x) Absent)) (graph-edits_among g list same es e)
    ∙ both_say (is_same_edge x e) (holds_edge e es) (g e) (g x) (λ is. ap g (one_edge x e is))
  where
    named : g x ≢ Absent → graph list x ≢ Absent
    named some absent = some (same x ∙ absent)

all_held : (b : Bool) (s : State) → (s ≢ Absent → b ≡ true) → cond b s Absent ≡ s
all_held true s held = refl
all_held false Absent held = refl
all_held false Live held = let no = held (λ h. cc) in absurd cc
all_held false Deleted held = let no = held (λ h. cc) in absurd cc

-- ---- the list of a store

pub stored_canonical : (entries : Entries) (list : List Edit) → IsSame (state_in entries) (graph list) → IsCanonical (graph list) (edits_in entries)
stored_canonical entries list same = record {
  in_order = ascends-edits_among (state_in entries) (map (λ entry. entry.0) entries);
  same = λ e.
      graph-edits_among (state_in entries) list same (map (λ entry. entry.0) entries) e
      ∙ all_held (holds_edge e (map (λ entry. entry.0) entries)) (state_in entries e) (entries_have entries e)
      ∙ same e;
}

pub stored_is : (entries : Entries) (list : List Edit) → Ascends list → IsSame (state_in entries) (graph list) → edits_in entries ≡ list
stored_is entries list up same = canonical_once (graph list) (edits_in entries) list (stored_canonical entries list same) (record { in_order = up; same = λ e. refl })
