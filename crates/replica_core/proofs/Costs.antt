-- What edits cost is what joining them to marked graphs may cost.
use Rattle.std.proofs.Common.{◌≡◌, ℕ, ◌+◌, ◌*◌, List, [], ◌∷◌, ◌++◌, refl, sym, ap, ◌∙◌, zero-add, add_assoc}
use Rattle.edge_lattice.specs.State.{state_join}
use Rattle.grove_edits.specs.declared.edit.Edit.{Edit}
use Rattle.grove_edits.specs.Edit.{edit_edge}
use Rattle.grove_edits.specs.Graph.{Graph, graph, graph_join, IsSame}
use Rattle.kept_records.specs.Size.{IsSize}
use Rattle.kept_records.proofs.OneSize.{some_size, one_size, size_along}
use Rattle.mark_incremental.specs.Cost.{IsCostOf}
use Rattle.mark_incremental.proofs.Raised.{raised_graph}
use Rattle.replica_core.specs.Canonical.{with_edit}
use Rattle.replica_core.specs.Content.{Content, with_taken, with_block}
use Rattle.replica_core.specs.Cost.{edit_size, edit_cost, edits_cost, calls_cost}
use Rattle.replica_core.specs.Calls.{Call, Opens, Takes, edits_of_calls}
use Rattle.replica_core.proofs.WithEdits.{graph-with_edits}

-- ---- on the graph of some edits

pub edit_size_is : (g : Graph) (edits : List Edit) (edit : Edit) → IsSame g (graph edits) → IsSize (edit_edge edit) g (graph_join g (graph (edit ∷ []))) (edit_size edits edit)
unfolding edit_size
edit_size_is g edits edit same =
    size_along (edit_edge edit) (graph edits) (graph (edit ∷ edits)) g (graph_join g (graph (edit ∷ []))) (some_size edits edit).0 (λ e. sym (same e))
    (λ e. sym (raised_graph edits edit g (graph_join g (graph (edit ∷ []))) same (λ x. refl) e)) (some_size edits edit).1

pub edits_cost_is : (g : Graph) (content : Content) (edits : List Edit) → IsSame g (graph content.edits) → IsCostOf g edits (edits_cost content edits)
edits_cost_is g content [] same = refl
edits_cost_is g content (edit ∷ edits) same = (
  edit_size content.edits edit,
  edits_cost (with_taken (edit ∷ []) content) edits,
  edit_size_is g content.edits edit same,
  edits_cost_is (graph_join g (graph (edit ∷ []))) (with_taken (edit ∷ []) content) edits
      (λ e. ap (λ s. state_join s (graph (edit ∷ []) e)) (same e) ∙ sym (graph-with_edits (edit ∷ []) content.edits e)),
  refl,
)

pub edit_cost-size : (content : Content) (edit : Edit) (size : ℕ) → IsSize (edit_edge edit) (graph content.edits) (graph_join (graph content.edits) (graph (edit ∷ []))) size → edit_cost content edit ≡ 64 * size + 64
edit_cost-size content edit size is =
    ap (λ n. 64 * n + 64)
    (one_size (edit_edge edit) (graph content.edits) (graph_join (graph content.edits) (graph (edit ∷ []))) (edit_size content.edits edit) size
    (edit_size_is (graph content.edits) content.edits edit (λ e. refl)) is)

-- ---- in turn

pub edits_cost-append : (content : Content) (a b : List Edit) → edits_cost content (a ++ b) ≡ edits_cost content a + edits_cost (with_taken a content) b
edits_cost-append content [] b = sym (zero-add (edits_cost content b))
edits_cost-append content (edit ∷ a) b =
    ap (λ n. edit_cost content edit + n) (edits_cost-append (with_taken (edit ∷ []) content) a b)
    ∙ sym (add_assoc (edit_cost content edit) (edits_cost (with_taken (edit ∷ []) content) a) (edits_cost (with_taken (edit ∷ a) content) b))

-- the opening edges cost nothing
edits_cost-same : (a b : Content) (edits : List Edit) → a.edits ≡ b.edits → edits_cost a edits ≡ edits_cost b edits
edits_cost-same a b [] same = refl
edits_cost-same a b (edit ∷ edits) same =
    ap (λ (xs : List Edit). (64 * edit_size xs edit + 64) + edits_cost (with_taken (edit ∷ []) a) edits) same
    ∙ ap (λ n. edit_cost b edit + n) (edits_cost-same (with_taken (edit ∷ []) a) (with_taken (edit ∷ []) b) edits (ap (with_edit edit) same))

pub calls_cost-edits : (content : Content) (calls : List Call) → calls_cost content calls ≡ edits_cost content (edits_of_calls calls)
calls_cost-edits content [] = refl
calls_cost-edits content (Opens ∷ calls) =
    zero-add (calls_cost (with_block content) calls)
    ∙ calls_cost-edits (with_block content) calls
    ∙ edits_cost-same (with_block content) content (edits_of_calls calls) refl
calls_cost-edits content (Takes edits ∷ calls) =
    ap (λ n. edits_cost content edits + n) (calls_cost-edits (with_taken edits content) calls) ∙ sym (edits_cost-append content edits (edits_of_calls calls))
