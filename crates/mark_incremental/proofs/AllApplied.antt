-- Edits that are applied one after the other: the graph so far, and what is spent of their cost.
use Rattle.std.proofs.Common.{◌≡◌, ◌+◌, ◌*◌, ◌<◌, ◌≤◌, ℕ, List, [], ◌∷◌, ◌++◌, length, take, drop, get_or, sym, ap, subst, ◌∙◌, arith}
use Rattle.std.proofs.lemmas.List.{take_more, take_all, drop_more}
use Rattle.edge_lattice.specs.State.{state_join}
use Rattle.edge_lattice.proofs.States.{state_join_assoc}
use Rattle.grove_edits.specs.declared.edit.Edit.{Edit}
use Rattle.grove_edits.specs.Edit.{edit_edge}
use Rattle.grove_edits.specs.Graph.{Graph, graph, graph_join, IsSame}
use Rattle.grove_edits.proofs.Graphs.{graph-append}
use Rattle.kept_records.specs.Size.{IsSize}
use Rattle.mark_incremental.specs.Cost.{IsCostOf}

-- of what the edits cost from the first graph so much is spent that the rest is enough for what is left from the graph so far
abbrev pub IsSpent : Graph → List Edit → ℕ → Graph → List Edit → ℕ → Type 0
IsSpent g edits start now left spent = (cost : ℕ) → IsCostOf g edits cost → (later : ℕ) × IsCostOf now left later × (spent + later ≤ start + cost)

pub nothing_spent : (g : Graph) (edits : List Edit) (start : ℕ) → IsSpent g edits start g edits start
nothing_spent g edits start cost is = (cost, is, omega arith)

module _ (edits : List Edit) (i : ℕ) (edit : Edit) (within : i < length edits) (at : edit ≡ get_or edits i edit) (g now : Graph) where
  taken : take (i + 1) edits ≡ take i edits ++ edit ∷ []
  taken = take_more edits i edit within ∙ ap (λ (x : Edit). take i edits ++ x ∷ []) (sym at)

  left : drop i edits ≡ edit ∷ drop (i + 1) edits
  left = drop_more edits i edit within ∙ ap (λ (x : Edit). x ∷ drop (i + 1) edits) (sym at)

  -- the graph after one more edit
  pub joined_more : (then : Graph) → IsSame now (graph_join g (graph (take i edits))) → IsSame then (graph_join now (graph (edit ∷ []))) → IsSame then (graph_join g (graph (take (i + 1) edits)))
  joined_more then so_far more e =
      more e ∙ ap (λ s. state_join s (graph (edit ∷ []) e)) (so_far e) ∙ state_join_assoc (g e) (graph (take i edits) e) (graph (edit ∷ []) e)
      ∙ ap (state_join (g e)) (sym (graph-append (take i edits) (edit ∷ []) e)) ∙ ap (λ (xs : List Edit). state_join (g e) (graph xs e)) (sym taken)

  module _ (start spent more : ℕ) (so_far : IsSpent g edits start now (drop i edits) spent)
      (ticks : (size : ℕ) → IsSize (edit_edge edit) now (graph_join now (graph (edit ∷ []))) size → more ≤ spent + 64 * size + 64) where
    -- one more edit is within what is left
    pub spent_more : (then : Graph) → IsSame then (graph_join now (graph (edit ∷ []))) → IsSpent g edits start then (drop (i + 1) edits) more
    spent_more then same cost is =
        let was = so_far cost is in
        let of : IsCostOf now (edit ∷ drop (i + 1) edits) was.0 = subst (λ (xs : List Edit). IsCostOf now xs was.0) left was.1 in
        let one = ticks of.0 of.2 in
        let sum = of.4 in
        let fits = was.2 in
        (of.1, subst (λ (h : Graph). IsCostOf h (drop (i + 1) edits) of.1) (λ j e. sym (same e) j) of.3, omega (arith, one, sum, fits))

    pub spent_within : (cost : ℕ) → IsCostOf g edits cost → more ≤ start + cost
    spent_within cost is =
        let was = so_far cost is in
        let of : IsCostOf now (edit ∷ drop (i + 1) edits) was.0 = subst (λ (xs : List Edit). IsCostOf now xs was.0) left was.1 in
        let one = ticks of.0 of.2 in
        let sum = of.4 in
        let fits = was.2 in
        omega (arith, one, sum, fits)

pub joined_all : (edits : List Edit) (i : ℕ) → length edits ≤ i → (g now : Graph) → IsSame now (graph_join g (graph (take i edits))) → IsSame now (graph_join g (graph edits))
joined_all edits i all g now so_far e = so_far e ∙ ap (λ (xs : List Edit). state_join (g e) (graph xs e)) (take_all i edits all)
