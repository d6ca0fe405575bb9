use Rattle.std.proofs.Common.{◌≡◌, ℕ, zero, suc, ◌+◌, List, [], ◌∷◌, ◌++◌, take, sym, ap, ◌∙◌, arith}
use Rattle.std.specs.Prelude.{Some, slice_get}
use Rattle.grove_edits.specs.declared.edge.Edge.{Edge}
use Rattle.user_actions.proofs.live_view.all_edges.Goals as goal

one_taken : (xs : List Edge) (i : ℕ) (x : Edge) → slice_get xs i ≡ Some x → take i xs ++ x ∷ [] ≡ take (i + 1) xs
one_taken [] i x is = absurd cc
one_taken (y ∷ ys) zero x is =
    let same : x ≡ y = cc in
    let one : suc zero ≡ 0 + 1 = omega arith in
    ap (λ e. e ∷ []) same ∙ ap (λ n. take n (y ∷ ys)) one
one_taken (y ∷ ys) (suc i) x is =
    let next : suc (i + 1) ≡ suc i + 1 = omega arith in
    ap (λ zs. y ∷ zs) (one_taken ys i x is) ∙ ap (λ n. take n (y ∷ ys)) next

pub loop-index-preserved : goal.loop-index-preserved
loop-index-preserved c =
    c.in_ok-push.ensures.items ∙ ap (λ xs. xs ++ c.in-Some.edge ∷ []) c.loop-index.invariant
    ∙ one_taken c.args.edges.now c.loop-index.index c.in-Some.edge (sym c.in-Some.ensures.edge)
