-- The vertices of a set, of which the first are listed.
use Rattle.std.proofs.Common.{◌≡◌, Bool, true, false, cond, List, [], ◌∷◌, ◌++◌, is_some, refl, sym, ap, ◌∙◌}
use Rattle.std.specs.Prelude.{◌||◌, Some, None, unwrap_or}
use Rattle.grove_edits.specs.declared.vertex.Vertex.{Vertex}
use Rattle.grove_edits.specs.Vertex.{is_same_vertex, stands_in}
use Rattle.grove_edits.proofs.Vertices.{same_vertex_laws}
use Rattle.mark_store.specs.Places.{Places, place_at, value_at, holds, listed_places}

module _ (v : Vertex) where
  pub holds_listed : (vs : List Vertex) (others : Places Bool) → holds (listed_places vs ++ others) v ≡ (stands_in v vs || holds others v)
  holds_listed [] others = refl
  holds_listed (w ∷ vs) others =
      by_test (is_same_vertex v w) (holds_listed vs others) ∙ ap (λ b. (b || stands_in v vs) || holds others v) (same_vertex_laws.symm v w)
    where
      by_test : (b : Bool) → holds (listed_places vs ++ others) v ≡ (stands_in v vs || holds others v)
          → is_some (unwrap_or (cond b (Some (Some true)) (place_at (listed_places vs ++ others) v)) None) ≡ ((b || stands_in v vs) || holds others v)
      by_test true rest = refl
      by_test false rest = rest

  stands_push : (vs : List Vertex) (w : Vertex) → stands_in v (vs ++ w ∷ []) ≡ (is_same_vertex w v || stands_in v vs)
  stands_push [] w = refl
  stands_push (x ∷ vs) w = ap (λ b. is_same_vertex x v || b) (stands_push vs w) ∙ swap (is_same_vertex x v) (is_same_vertex w v) (stands_in v vs)
    where
      swap : (a b c : Bool) → (a || (b || c)) ≡ (b || (a || c))
      swap true true c = refl
      swap true false c = refl
      swap false b c = refl

  or_or : (a b c : Bool) → ((a || b) || c) ≡ (a || (b || c))
  or_or true b c = refl
  or_or false b c = refl

  -- one more is listed
  pub holds_push : (vs : List Vertex) (others : Places Bool) (w : Vertex) → holds (listed_places (vs ++ w ∷ []) ++ others) v ≡ (is_same_vertex w v || holds (listed_places vs ++ others) v)
  holds_push vs others w =
      holds_listed (vs ++ w ∷ []) others ∙ ap (λ b. b || holds others v) (stands_push vs w) ∙ or_or (is_same_vertex w v) (stands_in v vs) (holds others v)
      ∙ ap (λ b. is_same_vertex w v || b) (sym (holds_listed vs others))

  pub holds_first : (vs : List Vertex) (others : Places Bool) (b : Bool) → b ≡ stands_in v vs → b ≡ true → b ≡ holds (listed_places vs ++ others) v
  holds_first vs others b is truly = truly ∙ sym (holds_listed vs others ∙ ap (λ s. s || holds others v) (sym is ∙ truly))

  pub holds_later : (vs : List Vertex) (others : Places Bool) (b : Bool) → b ≡ stands_in v vs → b ≡ false → holds others v ≡ holds (listed_places vs ++ others) v
  holds_later vs others b is falsely = sym (holds_listed vs others ∙ ap (λ s. s || holds others v) (sym is ∙ falsely))

  -- one more is put into a map
  pub holds_put : (others more : Places Bool) (w : Vertex) → value_at more v ≡ cond (is_same_vertex w v) (Some true) (value_at others v) → holds more v ≡ (is_same_vertex w v || holds others v)
  holds_put others more w put = ap is_some put ∙ by_test (is_same_vertex w v) where
    by_test : (b : Bool) → is_some (cond b (Some true) (value_at others v)) ≡ (b || holds others v)
    by_test true = refl
    by_test false = refl

  -- one more is among the others
  pub holds_more : (vs : List Vertex) (others more : Places Bool) (w : Vertex) → holds more v ≡ (is_same_vertex w v || holds others v)
      → holds (listed_places vs ++ more) v ≡ (is_same_vertex w v || holds (listed_places vs ++ others) v)
  holds_more vs others more w put =
      holds_listed vs more ∙ ap (λ b. stands_in v vs || b) put ∙ swap (stands_in v vs) (is_same_vertex w v) (holds others v) ∙ ap (λ b. is_same_vertex w v || b) (sym (holds_listed vs others))
    where
      swap : (a b c : Bool) → (a || (b || c)) ≡ (b || (a || c))
      swap true true c = refl
      swap true false c = refl
      swap false b c = refl
