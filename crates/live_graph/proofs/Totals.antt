-- What entries count for together.
use Rattle.std.proofs.Common.{◌≡◌, ℕ, zero, suc, ◌+◌, ◌<◌, ◌≤◌, [], ◌∷◌, ◌++◌, length, get_or, refl, arith}
use Rattle.std.specs.Prelude.{set}
use Rattle.std.specs.List.{AllByRecursion}
use Rattle.edge_lattice.specs.declared.state.State.{State}
use Rattle.edge_lattice.specs.declared.state.State.TheVariants.{Absent}
use Rattle.grove_edits.specs.declared.edge.Edge.{Edge}
use Rattle.edge_numbers.specs.Numbered.{edges_of, states_of, no_edge}
use Rattle.graph_words.specs.States.{Entries}
use Rattle.live_graph.specs.Around.{total}

module _ (weight : Edge → State → ℕ) where
  pub total-push : (entries : Entries) (e : Edge) (s : State) → total weight (entries ++ (e, s) ∷ []) ≡ total weight entries + weight e s
  total-push [] e s = omega arith
  total-push (x ∷ xs) e s = omega (arith, total-push xs e s)

  -- each entry counts in the whole
  pub total-at : (entries : Entries) (n : ℕ) → n < length entries → weight (get_or (edges_of entries) n no_edge) (get_or (states_of entries) n Absent) ≤ total weight entries
  total-at [] n within = absurd (omega (arith, within))
  total-at (x ∷ xs) zero within = omega arith
  total-at (x ∷ xs) (suc n) within = omega (arith, total-at xs n (omega (arith, within)))

  total-same : (ys xs : Entries) → edges_of ys ≡ edges_of xs → states_of ys ≡ states_of xs → total weight ys ≡ total weight xs
  total-same [] [] edges states = refl
  total-same [] (x ∷ xs) edges states = absurd cc
  total-same (y ∷ ys) [] edges states = absurd cc
  total-same (y ∷ ys) (x ∷ xs) edges states =
      let edge : y.0 ≡ x.0 = cc in
      let state : y.1 ≡ x.1 = cc in
      let rest_edges : edges_of ys ≡ edges_of xs = cc in
      let rest_states : states_of ys ≡ states_of xs = cc in
      λ j. weight (edge j) (state j) + total-same ys xs rest_edges rest_states j

  -- where one state is set, the edge counts with the new one in place of the old
  pub total-set : (before after : Entries) (n : ℕ) (s : State) → n < length before → edges_of after ≡ edges_of before → states_of after ≡ set (states_of before) n s
      → total weight after + weight (get_or (edges_of before) n no_edge) (get_or (states_of before) n Absent) ≡ total weight before + weight (get_or (edges_of before) n no_edge) s
  total-set [] after n s within edges states = absurd (omega (arith, within))
  total-set (x ∷ xs) [] n s within edges states = absurd cc
  total-set (x ∷ xs) (y ∷ ys) zero s within edges states =
      let edge : y.0 ≡ x.0 = cc in
      let state : y.1 ≡ s = cc in
      let rest_edges : edges_of ys ≡ edges_of xs = cc in
      let rest_states : states_of ys ≡ states_of xs = cc in
      let here : weight y.0 y.1 ≡ weight x.0 s = λ j. weight (edge j) (state j) in
      let rest : total weight ys ≡ total weight xs = total-same ys xs rest_edges rest_states in
      omega (arith, here, rest)
  total-set (x ∷ xs) (y ∷ ys) (suc n) s within edges states =
      let edge : y.0 ≡ x.0 = cc in
      let state : y.1 ≡ x.1 = cc in
      let rest_edges : edges_of ys ≡ edges_of xs = cc in
      let rest_states : states_of ys ≡ set (states_of xs) n s = cc in
      let here : weight y.0 y.1 ≡ weight x.0 x.1 = λ j. weight (edge j) (state j) in
      omega (arith, here, total-set xs ys n s (omega (arith, within)) rest_edges rest_states)

-- other weights of the same edges count the same
pub total-congr : (w u : Edge → State → ℕ) (P : Edge → Type 0) → ((e : Edge) (s : State) → P e → w e s ≡ u e s) → (entries : Entries) → AllByRecursion P (edges_of entries) → total w entries ≡ total u entries
total-congr w u P same [] all = refl
total-congr w u P same (x ∷ xs) all = λ j. same x.0 x.1 all.0 j + total-congr w u P same xs all.1 j
