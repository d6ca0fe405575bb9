-- Where a vertex alone gets another parent, and the new one is not below it, no vertex becomes the root of a cycle.
use Rattle.std.proofs.Common.{◌≡◌, ℕ, zero, suc, Bool, true, false, List, refl, sym, ap, ◌∙◌, inl, inr, ◌⊎◌}
use Rattle.std.specs.Prelude.{Option, None, Some, ◌-◌, ◌+◌}
use Rattle.grove_edits.specs.declared.vertex.Vertex.{Vertex}
use Rattle.grove_edits.specs.declared.edge.Edge.{Edge}
use Rattle.grove_edits.specs.Vertex.{is_same_vertex, stands_in}
use Rattle.graph_words.specs.Walk.{above, walk}
use Rattle.graph_words.specs.Class.{is_cycle_root}
use Rattle.grove_edits.proofs.Vertices.{same_vertex_exact}
use Rattle.graph_words.proofs.Up.{up, next_above, walk_len, walk_least}
use Rattle.graph_words.proofs.Roots.{root_back, root_least}
use Rattle.graph_words.proofs.Cycles.{Reaches, ComesBack, leads_from_reaches, returns, never_none, back_from_return, root_from_least, within_walk, leads_back, up_through}

-- after a change, each vertex but t has the vertex above that it had, and only p can be above t
pub record IsMoved (before after : List Edge) (t p : Vertex) : Type 0 where
  pub others : (u : Vertex) → is_same_vertex t u ≡ false → above after u ≡ above before u
  pub only : (y : Vertex) → above after t ≡ Some y → y ≡ p
  -- the vertex that moved is not above its new parent
  pub apart : stands_in t (walk before p) ≡ false

some_same : (x y : Vertex) → Some x ≡ Some y → x ≡ y
some_same x y e = cc

-- the way up from a vertex is as before, as long as it does not pass t
same_or_met : (before after : List Edge) (t p v : Vertex) → IsMoved before after t p → (k : ℕ)
    → (up before k (Some v) ≡ up after k (Some v)) ⊎ Reaches before v t
same_or_met before after t p v moved zero = inl refl
same_or_met before after t p v moved (suc k) = by_earlier (same_or_met before after t p v moved k) where
  by_test : (x : Vertex) (b : Bool) → is_same_vertex t x ≡ b → up before k (Some v) ≡ Some x → up after k (Some v) ≡ Some x
      → (up before (suc k) (Some v) ≡ up after (suc k) (Some v)) ⊎ Reaches before v t
  by_test x true same is there = inr (k, is ∙ ap Some (sym (same_vertex_exact t x same)))
  by_test x false other is there = inl (ap (next_above before) is ∙ sym (moved.others x other) ∙ ap (next_above after) (sym there))

  by_vertex : (o : Option Vertex) → up before k (Some v) ≡ o → up after k (Some v) ≡ o → (up before (suc k) (Some v) ≡ up after (suc k) (Some v)) ⊎ Reaches before v t
  by_vertex None is there = inl (ap (next_above before) is ∙ ap (next_above after) (sym there))
  by_vertex (Some x) is there = by_test x (is_same_vertex t x) refl is there

  by_earlier : (up before k (Some v) ≡ up after k (Some v)) ⊎ Reaches before v t → (up before (suc k) (Some v) ≡ up after (suc k) (Some v)) ⊎ Reaches before v t
  by_earlier (inl same) = by_vertex (up before k (Some v)) refl (sym same)
  by_earlier (inr met) = inr met

not_reached : (before after : List Edge) (t p : Vertex) → IsMoved before after t p → Reaches before p t → ⊥
not_reached before after t p moved met = let leads = leads_from_reaches before p t met in let apart = moved.apart in cc

-- t is not above its new parent afterwards
not_around : (before after : List Edge) (t p : Vertex) → IsMoved before after t p → (n : ℕ) → up after n (Some p) ≡ Some t → ⊥
not_around before after t p moved n at = by_earlier (same_or_met before after t p p moved n) where
  by_earlier : (up before n (Some p) ≡ up after n (Some p)) ⊎ Reaches before p t → ⊥
  by_earlier (inl same) = not_reached before after t p moved (n, same ∙ at)
  by_earlier (inr met) = not_reached before after t p moved met

-- t stands on no cycle
not_on_cycle : (before after : List Edge) (t p r : Vertex) → IsMoved before after t p → ComesBack after r → (k : ℕ) → up after k (Some r) ≡ Some t → ⊥
not_on_cycle before after t p r moved back k at = by_above (above after t) refl where
  further : up after (suc k) (Some r) ≡ above after t
  further = ap (next_above after) at

  by_above : (o : Option Vertex) → above after t ≡ o → ⊥
  by_above None is = never_none after r (walk_len after r - 1) (returns after r back) (suc k) (further ∙ is)
  by_above (Some y) is =
      let there : up after (suc k) (Some r) ≡ Some p = further ∙ is ∙ ap Some (moved.only y is) in
      let home = leads_back after r p back (suc k, there) in
      not_around before after t p moved (home.0 + k) (up_through after p r home.0 k (home.0 + k) home.2 refl ∙ at)

-- so the ways up from a vertex of a cycle are as before
same_ways : (before after : List Edge) (t p r : Vertex) → IsMoved before after t p → ComesBack after r → (k : ℕ) → up before k (Some r) ≡ up after k (Some r)
same_ways before after t p r moved back zero = refl
same_ways before after t p r moved back (suc k) = by_vertex (up after k (Some r)) refl (same_ways before after t p r moved back k) where
  by_test : (x : Vertex) (b : Bool) → is_same_vertex t x ≡ b → up after k (Some r) ≡ Some x → up before k (Some r) ≡ up after k (Some r) → up before (suc k) (Some r) ≡ up after (suc k) (Some r)
  by_test x true same is earlier = absurd (not_on_cycle before after t p r moved back k (is ∙ ap Some (sym (same_vertex_exact t x same))))
  by_test x false other is earlier = ap (next_above before) (earlier ∙ is) ∙ sym (moved.others x other) ∙ ap (next_above after) (sym is)

  by_vertex : (o : Option Vertex) → up after k (Some r) ≡ o → up before k (Some r) ≡ up after k (Some r) → up before (suc k) (Some r) ≡ up after (suc k) (Some r)
  by_vertex None is earlier = ap (next_above before) (earlier ∙ is) ∙ ap (next_above after) (sym is)
  by_vertex (Some x) is earlier = by_test x (is_same_vertex t x) refl is earlier

pub root_before : (before after : List Edge) (t p r : Vertex) → IsMoved before after t p → is_cycle_root after r ≡ true → is_cycle_root before r ≡ true
root_before before after t p r moved root =
    let back : ComesBack after r = root_back after r root in
    let again : up before (suc (walk_len after r - 1)) (Some r) ≡ Some r = same_ways before after t p r moved back (suc (walk_len after r - 1)) ∙ returns after r back in
    root_from_least before r (back_from_return before r (walk_len after r - 1) again)
    (λ x reach.
    let there : up after reach.0 (Some r) ≡ Some x = sym (same_ways before after t p r moved back reach.0) ∙ reach.1 in
    let found = within_walk after r reach.0 x there in
    walk_least after r (root_least after r root) found.0 x found.1 found.2)
