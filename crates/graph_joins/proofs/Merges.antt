-- Merging joins graphs.
use Rattle.std.proofs.Common.{◌≡◌, cond, List, ◌++◌, is_none, sym, ap, ◌∙◌}
use Rattle.std.specs.Prelude.{Result, Ok, Err, OnOk}
use Rattle.edge_lattice.specs.declared.state.State.TheVariants.{Absent}
use Rattle.edge_lattice.specs.State.{state_join}
use Rattle.edge_lattice.proofs.States.{state_join_comm}
use Rattle.text_parts.specs.declared.no_memory.NoMemory.{NoMemory}
use Rattle.grove_edits.specs.declared.edge.Edge.{Edge}
use Rattle.grove_edits.specs.declared.edit.Edit.{Edit}
use Rattle.grove_edits.specs.Edge.{edge_fault}
use Rattle.grove_edits.specs.Graph.{graph, graph_join, IsSame, IsCanonical}
use Rattle.grove_edits.proofs.Graphs.{graph-append}
use Rattle.grove_edits.proofs.Unique.{canonical_once}
use Rattle.graph_words.specs.States.{Entries, state_in, well_formed}
use Rattle.graph_joins.specs.Merged.{IsMerged}

merged_either_way : (a b ab ba : Entries) → IsMerged a b ab → IsMerged b a ba → IsSame (state_in ab) (state_in ba)
merged_either_way a b ab ba first second e = first e ∙ state_join_comm (state_in a e) (state_in b e) ∙ sym (second e)

pub merged_of_edits : (edits more : List Edit) (a b ab : Entries) → IsMerged a b ab → IsSame (state_in a) (graph edits) → IsSame (state_in b) (graph more) → IsSame (state_in ab) (graph (edits ++ more))
merged_of_edits edits more a b ab is of_edits of_more e =
    is e ∙ ap (λ s. state_join s (state_in b e)) (of_edits e) ∙ ap (state_join (graph edits e)) (of_more e) ∙ sym (graph-append edits more e)

-- merging the graph of some edits joins what they ask
pub edits_joined : (a b ab : Entries) (edits : List Edit) {T : Type 0} (r : Result T NoMemory) → IsSame (state_in b) (graph edits) → OnOk r (IsMerged a b ab) → OnOk r (IsSame (state_in ab) (graph_join (state_in a) (graph edits)))
edits_joined a b ab edits (Ok done) of_edits is = λ e. is e ∙ ap (state_join (state_in a e)) (of_edits e)
edits_joined a b ab edits (Err no_memory) of_edits is = is

pub merged_list : (a b ab ba : Entries) (list again : List Edit) → IsMerged a b ab → IsMerged b a ba → IsCanonical (well_formed (state_in ab)) list → IsCanonical (well_formed (state_in ba)) again → list ≡ again
merged_list a b ab ba list again first second is_list is_again =
    canonical_once (well_formed (state_in ab)) list again is_list
    (record { in_order = is_again.in_order; same = λ e. is_again.same e ∙ ap (λ s. cond (is_none (edge_fault e)) s Absent) (sym (merged_either_way a b ab ba first second e)) })
