-- One node more, from the last to the first or from the first to the last.
use Rattle.std.proofs.Common.{◌≡◌, ℕ, zero, suc, ◌+◌, ◌-◌, List, [], ◌∷◌, ◌++◌, length, take, drop, reverse, replicate, Option, None, Some, refl, sym, ap, subst, ◌∙◌, arith, append_assoc}
use Rattle.std.specs.Prelude.{slice_get}
use Rattle.std.proofs.lemmas.List.{reverse-append}
use Rattle.grove_sorts.specs.declared.ident.Ident.{Ident}
use Rattle.grove_terms.specs.declared.node.LentNode.{LentNode}
use Rattle.grove_terms.specs.declared.node.Node.{Node}
use Rattle.grove_terms.specs.Lent.{node_of, nodes_of}
use Rattle.type_infer.specs.declared.tree.Place.{Place}
use Rattle.type_infer.specs.declared.tree.Place.TheVariants.{Plain}
use Rattle.type_infer.specs.Equations.{TermEquation}
use Rattle.type_infer.specs.TreeEquations.{first_variable}
use Rattle.type_infer.specs.Walking.{places_under, heads, Walk, walk, entered, node_equations, behind, equations_from}

-- a list from a place on is the element there and the list from the next place on
pub drop_here : (nodes : List LentNode) (x : LentNode) (line : ℕ) → slice_get nodes line ≡ Some x → drop line (nodes_of nodes) ≡ node_of x ∷ drop (line + 1) (nodes_of nodes)
drop_here [] x zero h = absurd cc
drop_here [] x (suc line) h = absurd cc
drop_here (y ∷ ys) x zero h = let e : y ≡ x = cc in ap (λ (n : LentNode). node_of n ∷ nodes_of ys) e
drop_here (y ∷ ys) x (suc line) h =
    let l : suc line + 1 ≡ suc (line + 1) = omega arith in
    drop_here ys x line h ∙ ap (λ k. node_of x ∷ drop k (nodes_of (y ∷ ys))) (sym l)

pub heads_here : (nodes : List LentNode) (x : LentNode) (line : ℕ) → slice_get nodes line ≡ Some x
    → heads (drop line (nodes_of nodes)) line ≡ first_variable line ∷ drop (places_under (node_of x).what) (heads (drop (line + 1) (nodes_of nodes)) (line + 1))
heads_here nodes x line h = ap (λ ns. heads ns line) (drop_here nodes x line h)

pub equations_here : (find : ℕ → Option Ident) (nodes : List LentNode) (x : LentNode) (line : ℕ) (w : Walk) → slice_get nodes line ≡ Some x
    → equations_from find (drop line (nodes_of nodes)) line w
    ≡ node_equations (node_of x).what (heads (drop (line + 1) (nodes_of nodes)) (line + 1)) line (entered find w.places w.names).names
    ++ equations_from find (drop (line + 1) (nodes_of nodes)) (line + 1) (behind (node_of x).what (heads (drop (line + 1) (nodes_of nodes)) (line + 1)) line (entered find w.places w.names))
equations_here find nodes x line w h = ap (λ ns. equations_from find ns line w) (drop_here nodes x line h)

pub plain_more : (k : ℕ) (ps qs : List Place) → reverse ps ≡ replicate k Plain ++ qs → reverse (ps ++ Plain ∷ []) ≡ replicate (k + 1) Plain ++ qs
plain_more k ps qs h =
    let l : k + 1 ≡ suc k = omega arith in
    reverse-append ps (Plain ∷ []) ∙ ap (λ (xs : List Place). Plain ∷ xs) h ∙ ap (λ n. replicate n Plain ++ qs) (sym l)

-- a list is what is left of it, with the last element behind
with_last : {X : Type 0} → (xs : List X) (n : ℕ) (x : X) → n + 1 ≡ length xs → slice_get xs n ≡ Some x → xs ≡ take n xs ++ x ∷ []
with_last [] n x l h = absurd (omega arith)
with_last (y ∷ []) zero x l h = let e : y ≡ x = cc in ap (λ z. z ∷ []) e
with_last (y ∷ (z ∷ zs)) zero x l h = absurd (omega arith)
with_last (y ∷ ys) (suc n) x l h = ap (λ zs. y ∷ zs) (with_last ys n x (omega arith) h)

pub last_behind : {X : Type 0} → (xs : List X) (x : X) → slice_get xs (length xs - 1) ≡ Some x → xs ≡ take (length xs - 1) xs ++ x ∷ []
last_behind [] x h = absurd cc
last_behind (y ∷ ys) x h = with_last (y ∷ ys) (length (y ∷ ys) - 1) x (omega arith) h
