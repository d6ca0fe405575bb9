-- What calls make of the contents of a replica.
use Rattle.std.proofs.Common.{◌≡◌, List, [], ◌∷◌, ◌++◌, refl, sym, ap, subst, ◌∙◌}
use Rattle.edge_lattice.proofs.States.{Absent-state_join}
use Rattle.grove_edits.specs.declared.edit.Edit.{Edit}
use Rattle.grove_edits.specs.declared.answer.Answer.{Answer}
use Rattle.grove_edits.specs.declared.command.Command.{Command}
use Rattle.grove_edits.specs.Graph.{graph, graph_join, IsSame, Ascends, IsCanonical, HasSameEdits}
use Rattle.grove_edits.proofs.Graphs.{graph-same_edits}
use Rattle.grove_edits.proofs.Unique.{canonical_once}
use Rattle.user_actions.proofs.Openings.{canonical_present}
use Rattle.user_actions.proofs.PlainGraphs.{both_absent}
use Rattle.shared_replica.specs.declared.journal.Entry.{Entry}
use Rattle.shared_replica.specs.Replays.{machine_after, AreSteps}
use Rattle.replica_core.specs.Canonical.{with_edits}
use Rattle.replica_core.specs.Content.{Content, IsContent, no_edits, with_taken, with_block}
use Rattle.replica_core.specs.Step.{after, effect, reply}
use Rattle.replica_core.specs.Calls.{Call, Opens, Takes, after_calls, edits_of_calls, edits_of_entries}
use Rattle.replica_core.proofs.WithEdits.{graph-with_edits, ascends-with_edits, canonical_itself, with_edits-append}

-- ---- what holds of each replica

pub content_empty : IsContent no_edits
content_empty = record { in_order = tt; opening_in_order = tt; opening_known = λ e held. absurd cc }

pub content_taken : (content : Content) (edits : List Edit) → IsContent content → IsContent (with_taken edits content)
content_taken content edits of = record {
  in_order = ascends-with_edits edits content.edits of.in_order;
  opening_in_order = of.opening_in_order;
  opening_known = λ e held absent.
      of.opening_known e held (both_absent (graph content.edits e) (graph edits e) (sym (graph-with_edits edits content.edits e) ∙ absent)).0;
}

pub content_opened : (content : Content) → IsContent content → IsContent (with_block content)
content_opened content of =
    let present = canonical_present (graph content.edits) content.edits (canonical_itself content.edits of.in_order) in
    record { in_order = of.in_order; opening_in_order = present.in_order; opening_known = present.no_other }

-- ---- edits in turn

pub taken_joined : (content : Content) (edits : List Edit) → IsSame (graph (with_taken edits content).edits) (graph_join (graph content.edits) (graph edits))
taken_joined content edits e = graph-with_edits edits content.edits e

pub taken_in_turn : (content : Content) (a b : List Edit) → with_taken (a ++ b) content ≡ with_taken b (with_taken a content)
taken_in_turn content a b = ap (λ (edits : List Edit). let c : Content = record content { edits = edits } in c) (with_edits-append a b content.edits)

-- ---- calls

edits_after : (calls : List Call) (content : Content) → (after_calls calls content).edits ≡ with_edits (edits_of_calls calls) content.edits
edits_after [] content = refl
edits_after (Opens ∷ calls) content = edits_after calls (with_block content)
edits_after (Takes edits ∷ calls) content = edits_after calls (with_taken edits content) ∙ sym (with_edits-append edits (edits_of_calls calls) content.edits)

pub calls_canonical : (calls : List Call) → IsCanonical (graph (edits_of_calls calls)) (after_calls calls no_edits).edits
calls_canonical calls = record {
  in_order = subst Ascends (sym (edits_after calls no_edits)) (ascends-with_edits (edits_of_calls calls) [] tt);
  same = λ e.
      ap (λ (edits : List Edit). graph edits e) (edits_after calls no_edits)
      ∙ graph-with_edits (edits_of_calls calls) [] e
      ∙ Absent-state_join (graph (edits_of_calls calls) e);
}

pub same_calls : (a b : List Call) → HasSameEdits (edits_of_calls a) (edits_of_calls b) → (after_calls a no_edits).edits ≡ (after_calls b no_edits).edits
same_calls a b same =
    let other = calls_canonical b in
    canonical_once (graph (edits_of_calls a)) (after_calls a no_edits).edits (after_calls b no_edits).edits (calls_canonical a)
    (record { in_order = other.in_order; same = λ e. other.same e ∙ sym (graph-same_edits (edits_of_calls a) (edits_of_calls b) same.0 same.1 e) })

-- ---- journals

pub journal_taken : (first : Content) (entries : List (Entry Content Command (List Edit) Answer)) → AreSteps after effect reply first entries → machine_after after first entries ≡ with_taken (edits_of_entries entries) first
journal_taken first [] steps = refl
journal_taken first (entry ∷ entries) steps =
    journal_taken (after first entry.actor entry.command) entries steps.2
    ∙ ap (λ (edits : List Edit). with_taken (edits_of_entries entries) (with_taken edits first)) (sym steps.0)
    ∙ sym (taken_in_turn first entry.effect (edits_of_entries entries))
