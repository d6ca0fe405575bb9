-- The least two of some vertices and one more.
use Rattle.std.proofs.Common.{◌≡◌, Bool, true, false, Ordering, Less, Equal, Greater, is_lt, true≢false, refl, sym, ap, subst, ◌∙◌, inl, inr, ◌⊎◌}
use Rattle.std.specs.Prelude.{◌||◌}
use Rattle.std.specs.Ordering.{ordering_reverse}
use Rattle.grove_edits.specs.declared.vertex.Vertex.{Vertex}
use Rattle.grove_edits.specs.Vertex.{vertex_cmp, is_same_vertex}
use Rattle.grove_edits.proofs.Orders.{vertex_cmp_total, vertex_cmp_exact}
use Rattle.grove_edits.proofs.Vertices.{same_vertex_exact, same_vertex_itself, vertex_cmp_itself}
use Rattle.graph_words.specs.declared.named.Named.{Named}
use Rattle.graph_words.specs.declared.named.Named.TheVariants.{Zero, One, More}
use Rattle.graph_words.specs.Named.{AreLeastTwo}

-- ---- the order

not_before_itself : (v w : Vertex) → w ≡ v → is_lt (vertex_cmp w v) ≡ false
not_before_itself v w is = ap (λ x. is_lt (vertex_cmp x v)) is ∙ ap is_lt (vertex_cmp_itself v)

-- what is not before a vertex is not before an earlier one
not_before : (a b w : Vertex) → vertex_cmp a b ≡ Less → is_lt (vertex_cmp w b) ≡ false → is_lt (vertex_cmp w a) ≡ false
not_before a b w lt not_lt = by_order (vertex_cmp w a) refl where
  by_order : (o : Ordering) → vertex_cmp w a ≡ o → is_lt o ≡ false
  by_order Less is = absurd (true≢false (sym (ap is_lt (vertex_cmp_total.trans w a b is lt)) ∙ not_lt))
  by_order Equal is = refl
  by_order Greater is = refl

after : (a b : Vertex) → vertex_cmp b a ≡ Greater → vertex_cmp a b ≡ Less
after a b gt = vertex_cmp_total.antisymm a b ∙ ap ordering_reverse gt

pub past_either : (o : Ordering) → (o ≡ Equal) ⊎ (o ≡ Greater) → is_lt o ≡ false
past_either o (inl is) = ap is_lt is
past_either o (inr is) = ap is_lt is

-- ---- one vertex more

or_left : (b : Bool) {a : Bool} → a ≡ true → (a || b) ≡ true
or_left b h = ap (λ x. x || b) h

or_right : (a : Bool) {b : Bool} → b ≡ true → (a || b) ≡ true
or_right true h = refl
or_right false h = h

module _ (has : Vertex → Bool) (x : Vertex) where
  abbrev Has : Vertex → Type 0
  Has v = has v ≡ true

  abbrev Grown : Vertex → Type 0
  Grown v = (has v || is_same_vertex x v) ≡ true

  itself : Grown x
  itself = or_right (has x) (same_vertex_itself x)

  kept : (v : Vertex) → Has v → Grown v
  kept v h = or_left (is_same_vertex x v) h

  either : (v : Vertex) → Grown v → Has v ⊎ (v ≡ x)
  either v h = by_test (has v) refl h where
    by_test : (b : Bool) → has v ≡ b → (b || is_same_vertex x v) ≡ true → Has v ⊎ (v ≡ x)
    by_test true is _ = inl is
    by_test false _ same = inr (sym (same_vertex_exact x v same))

  pub after_none : AreLeastTwo Has Zero → AreLeastTwo Grown (One x)
  after_none none = (itself, λ v g. cases v (either v g)) where
    cases : (v : Vertex) → Has v ⊎ (v ≡ x) → v ≡ x
    cases v (inl h) = absurd (none v h)
    cases v (inr is) = is

  -- ---- behind one

  pub before_one : (a : Vertex) → vertex_cmp x a ≡ Less → AreLeastTwo Has (One a) → AreLeastTwo Grown (More x a)
  before_one a lt one = (itself, kept a one.0, lt, λ v g. cases v (either v g)) where
    cases : (v : Vertex) → Has v ⊎ (v ≡ x) → (v ≡ x) ⊎ (is_lt (vertex_cmp v a) ≡ false)
    cases v (inl h) = inr (not_before_itself a v (one.1 v h))
    cases v (inr is) = inl is

  pub same_one : (a : Vertex) → vertex_cmp x a ≡ Equal → AreLeastTwo Has (One a) → AreLeastTwo Grown (One a)
  same_one a tie one = (kept a one.0, λ v g. cases v (either v g)) where
    cases : (v : Vertex) → Has v ⊎ (v ≡ x) → v ≡ a
    cases v (inl h) = one.1 v h
    cases v (inr is) = is ∙ vertex_cmp_exact x a tie

  pub after_one : (a : Vertex) → vertex_cmp x a ≡ Greater → AreLeastTwo Has (One a) → AreLeastTwo Grown (More a x)
  after_one a gt one = (kept a one.0, itself, after a x gt, λ v g. cases v (either v g)) where
    cases : (v : Vertex) → Has v ⊎ (v ≡ x) → (v ≡ a) ⊎ (is_lt (vertex_cmp v x) ≡ false)
    cases v (inl h) = inl (one.1 v h)
    cases v (inr is) = inr (not_before_itself x v is)

  -- ---- behind two

  module _ (a b : Vertex) (two : AreLeastTwo Has (More a b)) where
    pub before_two : vertex_cmp x a ≡ Less → AreLeastTwo Grown (More x a)
    before_two lt = (itself, kept a two.0, lt, λ v g. cases v (either v g)) where
      later : (v : Vertex) → (v ≡ a) ⊎ (is_lt (vertex_cmp v b) ≡ false) → is_lt (vertex_cmp v a) ≡ false
      later v (inl is) = not_before_itself a v is
      later v (inr past) = not_before a b v two.2 past

      cases : (v : Vertex) → Has v ⊎ (v ≡ x) → (v ≡ x) ⊎ (is_lt (vertex_cmp v a) ≡ false)
      cases v (inl h) = inr (later v (two.3 v h))
      cases v (inr is) = inl is

    pub same_two : vertex_cmp x a ≡ Equal → AreLeastTwo Grown (More a b)
    same_two tie = (kept a two.0, kept b two.1, two.2, λ v g. cases v (either v g)) where
      cases : (v : Vertex) → Has v ⊎ (v ≡ x) → (v ≡ a) ⊎ (is_lt (vertex_cmp v b) ≡ false)
      cases v (inl h) = two.3 v h
      cases v (inr is) = inl (is ∙ vertex_cmp_exact x a tie)

    pub between_two : vertex_cmp x a ≡ Greater → vertex_cmp x b ≡ Less → AreLeastTwo Grown (More a x)
    between_two gt lt = (kept a two.0, itself, after a x gt, λ v g. cases v (either v g)) where
      later : (v : Vertex) → (v ≡ a) ⊎ (is_lt (vertex_cmp v b) ≡ false) → (v ≡ a) ⊎ (is_lt (vertex_cmp v x) ≡ false)
      later v (inl is) = inl is
      later v (inr past) = inr (not_before x b v lt past)

      cases : (v : Vertex) → Has v ⊎ (v ≡ x) → (v ≡ a) ⊎ (is_lt (vertex_cmp v x) ≡ false)
      cases v (inl h) = later v (two.3 v h)
      cases v (inr is) = inr (not_before_itself x v is)

    pub after_two : is_lt (vertex_cmp x b) ≡ false → AreLeastTwo Grown (More a b)
    after_two past = (kept a two.0, kept b two.1, two.2, λ v g. cases v (either v g)) where
      cases : (v : Vertex) → Has v ⊎ (v ≡ x) → (v ≡ a) ⊎ (is_lt (vertex_cmp v b) ≡ false)
      cases v (inl h) = two.3 v h
      cases v (inr is) = inr (ap (λ y. is_lt (vertex_cmp y b)) is ∙ past)

-- ---- the same of what is so of the same vertices

pub least_two_iff : (P Q : Vertex → Type 0) → ((v : Vertex) → P v → Q v) → ((v : Vertex) → Q v → P v) → (found : Named) → AreLeastTwo P found → AreLeastTwo Q found
least_two_iff P Q to back Zero none = λ v q. none v (back v q)
least_two_iff P Q to back (One a) one = (to a one.0, λ v q. one.1 v (back v q))
least_two_iff P Q to back (More a b) two = (to a two.0, to b two.1, two.2, λ v q. two.3 v (back v q))

pub least_two_alike : (p q : Vertex → Bool) → ((v : Vertex) → p v ≡ q v) → (found : Named) → AreLeastTwo (λ v. p v ≡ true) found → AreLeastTwo (λ v. q v ≡ true) found
least_two_alike p q same found is = subst (λ (r : Vertex → Bool). AreLeastTwo (λ v. r v ≡ true) found) (λ j v. same v j) is

pub only_one : (p : Vertex → Bool) (a : Vertex) → ((v : Vertex) → p v ≡ is_same_vertex a v) → AreLeastTwo (λ v. p v ≡ true) (One a)
only_one p a same = (same a ∙ same_vertex_itself a, λ v h. sym (same_vertex_exact a v (sym (same v) ∙ h)))
