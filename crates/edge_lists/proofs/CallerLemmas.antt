-- What other crates cite: lists by edge are in edge order, and while numbers stay, lists of them are of the same edges.
use Rattle.std.proofs.Common.{◌≡◌, ℕ, List, [], ◌∷◌, map, refl, ap, ◌∙◌}
use Rattle.std.specs.Prelude.{◌||◌, ◌==◌}
use Rattle.std.proofs.lemmas.Bool.{eq-eqb}
use Rattle.grove_sorts.proofs.Truths.{or_right}
use Rattle.grove_edits.specs.declared.edge.Edge.{Edge}
use Rattle.grove_edits.specs.Edge.{edge_cmp}
use Rattle.graph_words.specs.Live.{IsInEdgeOrder}
use Rattle.graph_words.specs.Ordered.{put_before, with_edge}
use Rattle.edge_numbers.specs.Numbered.{Numbered, edge_at, KeepsNumbers}
use Rattle.edge_lists.specs.Lists.{holds_number, AreEdgeNumbers}
use Rattle.edge_lists.specs.Order.{IsInOrder, with_edge_by}

pub in_edge_order-by_edge : (xs : List Edge) → IsInOrder edge_cmp xs → IsInEdgeOrder xs
in_edge_order-by_edge [] ordered = tt
in_edge_order-by_edge (x ∷ xs) ordered = (ordered.0, in_edge_order-by_edge xs ordered.1)

pub by_edge-in_edge_order : (xs : List Edge) → IsInEdgeOrder xs → IsInOrder edge_cmp xs
by_edge-in_edge_order [] ordered = tt
by_edge-in_edge_order (x ∷ xs) ordered = (ordered.0, by_edge-in_edge_order xs ordered.1)

pub with_edge_by-edge_cmp : (e : Edge) (xs : List Edge) → with_edge_by edge_cmp e xs ≡ with_edge e xs
with_edge_by-edge_cmp e [] = refl
with_edge_by-edge_cmp e (x ∷ xs) = ap (put_before (edge_cmp e x) e x xs) (with_edge_by-edge_cmp e xs)

pub known-kept : (before after : Numbered) (numbers : List ℕ) → KeepsNumbers before after → AreEdgeNumbers before numbers → AreEdgeNumbers after numbers
known-kept before after numbers keeps known n held = (keeps n (known n held)).0

known-rest : (edges : Numbered) (n : ℕ) (numbers : List ℕ) → AreEdgeNumbers edges (n ∷ numbers) → AreEdgeNumbers edges numbers
known-rest edges n numbers known m held = known m (or_right (n == m) (holds_number m numbers) held)

pub edges-kept : (before after : Numbered) (numbers : List ℕ) → KeepsNumbers before after → AreEdgeNumbers before numbers → map (edge_at after) numbers ≡ map (edge_at before) numbers
edges-kept before after [] keeps known = refl
edges-kept before after (n ∷ numbers) keeps known =
    let first = keeps n (known n (ap (λ b. b || holds_number n numbers) (eq-eqb n n refl))) in
    ap (λ e. e ∷ map (edge_at after) numbers) first.1
    ∙ ap (λ es. edge_at before n ∷ es) (edges-kept before after numbers keeps (known-rest before n numbers known))
