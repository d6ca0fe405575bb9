-- What is seen of the entries of a kept graph and opening edges.
use Rattle.std.proofs.Common.{◌≡◌, Bool, true, false, cond, List, [], length, map, is_none, refl, sym, ap, subst, ◌∙◌, arith}
use Rattle.std.specs.Prelude.{Result, Ok, Err, OnOk, OnErr}
use Rattle.edge_lattice.specs.declared.state.State.TheVariants.{Absent}
use Rattle.edge_lattice.specs.State.{state_join}
use Rattle.grove_edits.specs.declared.edge.Edge.{Edge}
use Rattle.grove_edits.specs.declared.edit.Edit.{Edit}
use Rattle.grove_edits.specs.Edge.{edge_fault}
use Rattle.grove_edits.specs.Edit.{edit_edge}
use Rattle.grove_edits.specs.Graph.{graph, graph_join, IsSame, Ascends, IsCanonical}
use Rattle.grove_edits.proofs.Graphs.{unnamed}
use Rattle.grove_edits.proofs.Unique.{canonical_once}
use Rattle.graph_words.specs.Live.{IsInEdgeOrder, holds_edge}
use Rattle.graph_words.specs.States.{Entries, state_in, well_formed}
use Rattle.live_graph.specs.NumberOf.{KeepsNumbersOf}
use Rattle.user_actions.specs.Flags.{opening_edges, present_flags}
use Rattle.user_actions.proofs.FlaggedEdges.{opening_stays, no_fewer, length-present_flags, opening_present}
use Rattle.user_actions.proofs.Openings.{canonical_present}
use Rattle.user_actions.proofs.OnePlan.{one_present}
use Rattle.replica_core.specs.Stored.{edits_in}
use Rattle.replica_core.specs.Content.{Content, IsContent, no_edits, with_taken, with_block}
use Rattle.replica_core.specs.Kept.{content_of, IsKept, flagged_content, AreFlagsKept}
use Rattle.replica_core.proofs.WithEdits.{graph-with_edits, canonical_itself}
use Rattle.replica_core.proofs.StoredLists.{ascends-edits_among, stored_is}
use Rattle.replica_core.proofs.Contents.{content_empty, content_taken, content_opened}

-- kept so, and seen as this content
pub record IsSeenAs (entries : Entries) (opening : List Edge) (content : Content) : Type 0 where
  pub view : content_of entries opening ≡ content
  pub invariant : IsKept entries opening

stored_ascends : (entries : Entries) → Ascends (edits_in entries)
stored_ascends entries = ascends-edits_among (state_in entries) (map (λ entry. entry.0) entries)

kept_content : (entries : Entries) (opening : List Edge) → IsKept entries opening → IsContent (content_of entries opening)
kept_content entries opening of = record { in_order = stored_ascends entries; opening_in_order = of.opening_in_order; opening_known = of.opening_known }

-- entries with the graph of a content are seen as it
pub seen_as : (entries : Entries) (opening : List Edge) (content : Content) → IsContent content → IsSame (state_in entries) (graph content.edits) → opening ≡ content.opening → IsSeenAs entries opening content
seen_as entries opening content of has same_opening =
    let same : edits_in entries ≡ content.edits = stored_is entries content.edits of.in_order has in
    let view : content_of entries opening ≡ content =
    ap (λ (edits : List Edit). let c : Content = record { edits = edits; opening = opening } in c) same
    ∙ ap (λ (edges : List Edge). let c : Content = record { edits = content.edits; opening = edges } in c) same_opening in
    record {
      view = view;
      invariant = record {
        same = λ e. has e ∙ ap (λ (edits : List Edit). graph edits e) (sym same);
        opening_in_order = subst IsInEdgeOrder (sym same_opening) of.opening_in_order;
        opening_known = λ e held absent.
            of.opening_known e (ap (holds_edge e) (sym same_opening) ∙ held) (ap (λ (edits : List Edit). graph edits e) (sym same) ∙ absent);
      };
    }

-- ---- what is seen of kept entries

module _ (entries : Entries) (opening : List Edge) (content : Content) (of : IsKept entries opening) (view : content_of entries opening ≡ content) where
  pub content_seen : IsContent content
  content_seen = subst IsContent view (kept_content entries opening of)

  pub graph_seen : IsSame (state_in entries) (graph content.edits)
  graph_seen = subst (λ (c : Content). IsSame (state_in entries) (graph c.edits)) view of.same

  pub opening_seen : opening ≡ content.opening
  opening_seen = ap (λ (c : Content). c.opening) view

  pub canonical_seen : IsCanonical (graph content.edits) content.edits
  canonical_seen = canonical_itself content.edits content_seen.in_order

  well_same : IsSame (graph content.edits) (well_formed (state_in entries))
  well_same e = by_test (is_none (edge_fault e)) refl where
    by_test : (b : Bool) → is_none (edge_fault e) ≡ b → graph content.edits e ≡ cond b (state_in entries e) Absent
    by_test true good = sym (graph_seen e)
    by_test false ill = unnamed content.edits e ill

  pub list_seen : (list : List Edit) → IsCanonical (well_formed (state_in entries)) list → list ≡ content.edits
  list_seen list is = canonical_once (well_formed (state_in entries)) list content.edits is (record { in_order = content_seen.in_order; same = well_same })

  -- with the same graph
  pub seen_unchanged : (after : Entries) → IsSame (state_in after) (state_in entries) → IsSeenAs after opening content
  seen_unchanged after same = seen_as after opening content content_seen (λ e. same e ∙ graph_seen e) opening_seen

  -- with edits joined to it
  pub seen_taken : (after : Entries) (edits : List Edit) → IsSame (state_in after) (graph_join (state_in entries) (graph edits)) → IsSeenAs after opening (with_taken edits content)
  seen_taken after edits joined =
      seen_as after opening (with_taken edits content) (content_taken content edits content_seen)
      (λ e. joined e ∙ ap (λ s. state_join s (graph edits e)) (graph_seen e) ∙ sym (graph-with_edits edits content.edits e)) opening_seen

  -- with edits joined to it, or with the same graph
  pub taken_or_not : {T E : Type 0} (r : Result T E) (after : Entries) (edits : List Edit) → OnOk r (IsSame (state_in after) (graph_join (state_in entries) (graph edits))) → OnErr r (IsSame (state_in after) (state_in entries))
      → IsKept after opening × OnOk r (content_of after opening ≡ with_taken edits content) × OnErr r (content_of after opening ≡ content)
  taken_or_not (Ok x) after edits taken unchanged = let seen = seen_taken after edits taken in (seen.invariant, seen.view, tt)
  taken_or_not (Err x) after edits taken unchanged = let seen = seen_unchanged after unchanged in (seen.invariant, tt, seen.view)

  -- in a block that opens now
  pub seen_opened : (edges : List Edge) → edges ≡ map edit_edge content.edits → IsSeenAs entries edges (with_block content)
  seen_opened edges are = seen_as entries edges (with_block content) (content_opened content content_seen) graph_seen are

-- ---- the empty replica

pub seen_empty : (entries : Entries) (opening : List Edge) → entries ≡ [] → opening ≡ [] → IsSeenAs entries opening no_edits
seen_empty entries opening empty none = seen_as entries opening no_edits content_empty (λ e. ap (λ (es : Entries). state_in es e) empty) none

-- ---- where the opening edges are told by flags

-- kept so, and seen as this content
pub record AreFlagsSeenAs (entries : Entries) (flags : List Bool) (content : Content) : Type 0 where
  pub view : flagged_content entries flags ≡ content
  pub invariant : AreFlagsKept entries flags

module _ (entries : Entries) (flags : List Bool) (content : Content) (of : AreFlagsKept entries flags) (view : flagged_content entries flags ≡ content) where
  -- edits that are joined leave what was open
  pub flags_taken_or_not : {T E : Type 0} (r : Result T E) (after : Entries) (edits : List Edit) → OnOk r (IsSame (state_in after) (graph_join (state_in entries) (graph edits))) → OnErr r (IsSame (state_in after) (state_in entries))
      → KeepsNumbersOf entries after → AreFlagsKept after flags × OnOk r (flagged_content after flags ≡ with_taken edits content) × OnErr r (flagged_content after flags ≡ content)
  flags_taken_or_not r after edits taken unchanged numbers =
      let before = opening_edges entries flags in
      let same : before ≡ opening_edges after flags = sym (opening_stays entries after flags numbers of.within) in
      let told = taken_or_not entries before content of.kept view r after edits taken unchanged in (
        record { kept = subst (IsKept after) same told.0; within = omega (arith, of.within, no_fewer entries after numbers) },
        subst (λ (es : List Edge). OnOk r (content_of after es ≡ with_taken edits content)) same told.1,
        subst (λ (es : List Edge). OnErr r (content_of after es ≡ content)) same told.2,
      )

  -- in a block that opens now
  pub flags_opened : (present : List Bool) → present ≡ present_flags entries → AreFlagsSeenAs entries present (with_block content)
  flags_opened present are =
      let edges : opening_edges entries present ≡ map edit_edge content.edits =
      ap (opening_edges entries) are
      ∙ one_present (state_in entries) (opening_edges entries (present_flags entries)) (map edit_edge content.edits) (opening_present entries)
      (canonical_present (state_in entries) content.edits
      (record { in_order = (content_seen entries (opening_edges entries flags) content of.kept view).in_order; same = λ e. sym (graph_seen entries (opening_edges entries flags) content of.kept view e) })) in
      let seen = seen_opened entries (opening_edges entries flags) content of.kept view (opening_edges entries present) edges in
      let count : length present ≡ length entries = ap length are ∙ length-present_flags entries in
      record { view = seen.view; invariant = record { kept = seen.invariant; within = omega (arith, count) } }

pub flags_empty : (entries : Entries) (flags : List Bool) → entries ≡ [] → flags ≡ present_flags entries → AreFlagsSeenAs entries flags no_edits
flags_empty entries flags empty are =
    let seen = seen_empty entries (opening_edges entries flags) empty (ap (λ (es : Entries). opening_edges es flags) empty) in
    let count : length flags ≡ length entries = ap length are ∙ length-present_flags entries in
    record { view = seen.view; invariant = record { kept = seen.invariant; within = omega (arith, count) } }
