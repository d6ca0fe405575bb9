-- What holds of each of some plain edits.
use Rattle.std.proofs.Common.{◌≡◌, ℕ, ◌+◌, ◌<◌, ◌≤◌, Bool, true, false, List, [], ◌∷◌, ◌++◌, length, refl, inl, inr, arith}
use Rattle.std.specs.Prelude.{◌||◌}
use Rattle.grove_sorts.specs.declared.position.Position.{Position}
use Rattle.grove_edits.specs.declared.vertex.Vertex.{Vertex}
use Rattle.grove_edits.specs.declared.edge.Edge.{Edge}
use Rattle.grove_edits.specs.declared.edit.EditKind.{EditKind}
use Rattle.grove_edits.specs.declared.edit.EditKind.TheVariants.{Insert, Delete}
use Rattle.grove_edits.specs.Graph.{is_same_edge}
use Rattle.grove_edits.proofs.Orders.{one_edge}
use Rattle.graph_words.specs.Live.{holds_edge}
use Rattle.grove_terms.proofs.InLive.{same_edge_itself}
use Rattle.user_actions.specs.Names.{new_name}
use Rattle.user_actions.specs.PlainEdits.{PlainEdit, deletions, put_below, carry_over}
use Rattle.user_actions.proofs.PlainGraphs.{AllEdits, HasEdit}
use Rattle.grove_sorts.proofs.Truths.{or_left, or_right}

pub all_append : (P : EditKind → Edge → Type 0) (ps qs : List PlainEdit) → AllEdits P ps → AllEdits P qs → AllEdits P (ps ++ qs)
all_append P [] qs all more = more
all_append P (p ∷ ps) qs all more = (all.0, all_append P ps qs all.1 more)

pub has_first : (kind : EditKind) (e : Edge) (ps qs : List PlainEdit) → HasEdit kind e ps → HasEdit kind e (ps ++ qs)
has_first kind e [] qs has = absurd has
has_first kind e (p ∷ ps) qs (inl is) = inl is
has_first kind e (p ∷ ps) qs (inr has) = inr (has_first kind e ps qs has)

pub has_second : (kind : EditKind) (e : Edge) (ps qs : List PlainEdit) → HasEdit kind e qs → HasEdit kind e (ps ++ qs)
has_second kind e [] qs has = has
has_second kind e (p ∷ ps) qs has = inr (has_second kind e ps qs has)

pub held_first : (e : Edge) (es : List Edge) → holds_edge e (e ∷ es) ≡ true
held_first e es = or_left (is_same_edge e e) (holds_edge e es) (same_edge_itself e)

pub held_later : (x e : Edge) (es : List Edge) → holds_edge e es ≡ true → holds_edge e (x ∷ es) ≡ true
held_later x e es h = or_right (is_same_edge x e) (holds_edge e es) h

pub all_deletions : (P : EditKind → Edge → Type 0) (es : List Edge) → ((e : Edge) → holds_edge e es ≡ true → P Delete e) → AllEdits P (deletions es)
all_deletions P [] each = tt
all_deletions P (e ∷ es) each = (each e (held_first e es), all_deletions P es (λ f h. each f (held_later e f es h)))

pub has_deletion : (es : List Edge) (e : Edge) → holds_edge e es ≡ true → HasEdit Delete e (deletions es)
has_deletion [] e h = absurd cc
has_deletion (x ∷ xs) e h = by_test (is_same_edge x e) refl h (has_deletion xs e) where
  by_test : (b : Bool) → is_same_edge x e ≡ b → (b || holds_edge e xs) ≡ true → (holds_edge e xs ≡ true → HasEdit Delete e (deletions xs)) → HasEdit Delete e (deletions (x ∷ xs))
  by_test true same held later = inl (refl, one_edge x e same)
  by_test false other held later = inr (later held)

abbrev pub edge_with : ℕ → ℕ → ℕ → Vertex → Position → Vertex → Edge
edge_with author greatest number source position target = record { name = new_name author greatest number; source = source; position = position; target = target }

pub all_put_below : (P : EditKind → Edge → Type 0) (author greatest : ℕ) (v : Vertex) (p : Position) (number : ℕ) (es : List Edge)
    → ((k : ℕ) (e : Edge) → number ≤ k → k < number + length es → holds_edge e es ≡ true → P Insert (edge_with author greatest k v p e.target))
    → AllEdits P (put_below author greatest v p number es)
all_put_below P author greatest v p number [] each = tt
all_put_below P author greatest v p number (e ∷ es) each = (
  each number e (omega arith) (omega arith) (held_first e es),
  all_put_below P author greatest v p (number + 1) es (λ k f from to h. each k f (omega arith) (omega arith) (held_later e f es h)),
)

pub all_carry_over : (P : EditKind → Edge → Type 0) (author greatest : ℕ) (v : Vertex) (number : ℕ) (es : List Edge)
    → ((e : Edge) → holds_edge e es ≡ true → P Delete e)
    → ((k : ℕ) (e : Edge) → number ≤ k → k < number + length es → holds_edge e es ≡ true → P Insert (edge_with author greatest k v e.position e.target))
    → AllEdits P (carry_over author greatest v number es)
all_carry_over P author greatest v number [] gone each = tt
all_carry_over P author greatest v number (e ∷ es) gone each = (
  gone e (held_first e es),
  (
    each number e (omega arith) (omega arith) (held_first e es),
    all_carry_over P author greatest v (number + 1) es (λ f h. gone f (held_later e f es h)) (λ k f from to h. each k f (omega arith) (omega arith) (held_later e f es h)),
  ),
)
