-- What the code's map of vertices finds.
use Rattle.std.proofs.Common.{◌≡◌, ℕ, Bool, true, false, cond, IsSome, is_some, refl, sym, ap, subst, ◌∙◌}
use Rattle.std.specs.Prelude.{Option, Some, None, slice_get, unwrap_or, IfSome}
use Rattle.std.specs.Cmp.{IsEquivalence}
use Rattle.std.specs.Option.{option_map}
use Rattle.std.specs.Map.{lookup}
use Rattle.std.proofs.lemmas.Map.Entries.{lookup_from_place}
use Rattle.indexmap.specs.IndexMap.{IndexMap, IsUnique, Updates, WritesThrough, set_value_at, with_value_at}
use Rattle.indexmap.proofs.CallerLemmas.{updates-with_value_at}
use Rattle.grove_edits.specs.declared.vertex.Vertex.{Vertex}
use Rattle.grove_edits.specs.Vertex.{is_same_vertex}
use Rattle.grove_edits.specs.contracts.vertex.VertexPartialEq.TheImpl as vertex_eq
use Rattle.grove_edits.proofs.Vertices.{eq_is_same_vertex, same_vertex_exact, same_vertex_laws}
use Rattle.mark_store.specs.Places.{Places, place_at, value_at, HasRoom, KeepsRoom}

-- the code's map tells vertices apart as the definitions do
pub same_tests : vertex_eq.eq-value.it ≡ is_same_vertex
same_tests = λ j v k. eq_is_same_vertex v k j

set_laws : IsEquivalence vertex_eq.eq-value.it
set_laws = subst (λ (test : Vertex → Vertex → Bool). IsEquivalence test) (sym same_tests) same_vertex_laws

pub found_is : (found vertex : Vertex) → vertex_eq.eq-value.it found vertex ≡ true → found ≡ vertex
found_is found vertex same = same_vertex_exact found vertex (sym (eq_is_same_vertex found vertex) ∙ same)

module _ {V : Type 0} where
  pub lookup_is_place : (places : Places V) (v : Vertex) → lookup (vertex_eq.eq-value.it v) places ≡ place_at places v
  lookup_is_place places v = ap (λ (test : Vertex → Vertex → Bool). lookup (test v) places) same_tests

  -- a vertex that had no room has got it, and no value
  pub record GetsRoom (vertex : Vertex) (before after : Places V) : Type 0 where
    pub none : place_at before vertex ≡ None
    pub places : (v : Vertex) → place_at after v ≡ cond (is_same_vertex vertex v) (Some None) (place_at before v)

  module _ (vertex : Vertex) (before after : Places V) (gets : GetsRoom vertex before after) where
    at : (v : Vertex) (b : Bool) → is_same_vertex vertex v ≡ b → place_at after v ≡ cond b (Some None) (place_at before v)
    at v b is = gets.places v ∙ ap (λ t. cond t (Some None) (place_at before v)) is

    pub room_made : is_same_vertex vertex vertex ≡ true → HasRoom after vertex
    room_made same = ap is_some (at vertex true same)

    pub value_stays : (v : Vertex) → value_at after v ≡ value_at before v
    value_stays v = by_test (is_same_vertex vertex v) refl where
      by_test : (b : Bool) → is_same_vertex vertex v ≡ b → value_at after v ≡ value_at before v
      by_test true is =
          ap (λ o. unwrap_or o None) (at v true is) ∙ sym (ap (λ o. unwrap_or o None) (ap (place_at before) (sym (same_vertex_exact vertex v is)) ∙ gets.none))
      by_test false is = ap (λ o. unwrap_or o None) (at v false is)

    pub room_stays : KeepsRoom before after
    room_stays v has = by_test (is_same_vertex vertex v) refl where
      by_test : (b : Bool) → is_same_vertex vertex v ≡ b → HasRoom after v
      by_test true is = ap is_some (at v true is)
      by_test false is = ap is_some (at v false is) ∙ has

  -- what stands at the place of a vertex is this, if the vertex has one
  abbrev pub Writes : Vertex → Option V → Places V → Places V → Type 0
  Writes vertex value before after = (v : Vertex) → place_at after v ≡ cond (is_same_vertex vertex v) (option_map (λ _. value) (place_at before v)) (place_at before v)

  module _ (vertex : Vertex) (value : Option V) (before after : Places V) (writes : Writes vertex value before after) where
    written : (v : Vertex) (b : Bool) → is_same_vertex vertex v ≡ b → place_at after v ≡ cond b (option_map (λ _. value) (place_at before v)) (place_at before v)
    written v b is = writes v ∙ ap (λ t. cond t (option_map (λ _. value) (place_at before v)) (place_at before v)) is

    some_mapped : (o : Option (Option V)) → IsSome o → IsSome (option_map (λ _. value) o)
    some_mapped None has = absurd cc
    some_mapped (Some x) has = refl

    pub room_kept : KeepsRoom before after
    room_kept v has = by_test (is_same_vertex vertex v) refl where
      by_test : (b : Bool) → is_same_vertex vertex v ≡ b → HasRoom after v
      by_test true is = ap is_some (written v true is) ∙ some_mapped (place_at before v) has
      by_test false is = ap is_some (written v false is) ∙ has

    some_value : (o : Option (Option V)) → IsSome o → unwrap_or (option_map (λ _. value) o) None ≡ value
    some_value None has = absurd cc
    some_value (Some x) has = refl

    -- a vertex with room has the value, and each other the one that it had
    pub value_put : HasRoom before vertex → (v : Vertex) → value_at after v ≡ cond (is_same_vertex vertex v) value (value_at before v)
    value_put has v = by_test (is_same_vertex vertex v) refl where
      by_test : (b : Bool) → is_same_vertex vertex v ≡ b → value_at after v ≡ cond b value (value_at before v)
      by_test true is =
          ap (λ o. unwrap_or o None) (written v true is) ∙ some_value (place_at before v) (subst (HasRoom before) (same_vertex_exact vertex v is) has)
      by_test false is = ap (λ o. unwrap_or o None) (written v false is)

  -- where none is put, the vertex needs no room
  pub value_cleared : (vertex : Vertex) (before after : Places V) → Writes vertex None before after → (v : Vertex) → value_at after v ≡ cond (is_same_vertex vertex v) None (value_at before v)
  value_cleared vertex before after writes v = by_test (is_same_vertex vertex v) refl (place_at before v) refl where
    none : (o : Option (Option V)) → let nothing : Option V = None in unwrap_or (option_map (λ _. nothing) o) nothing ≡ nothing
    none None = refl
    none (Some x) = refl

    by_test : (b : Bool) → is_same_vertex vertex v ≡ b → (o : Option (Option V)) → place_at before v ≡ o → value_at after v ≡ cond b None (value_at before v)
    by_test true is o there = ap (λ x. unwrap_or x None) (written vertex None before after writes v true is) ∙ none (place_at before v)
    by_test false is o there = ap (λ x. unwrap_or x None) (written vertex None before after writes v false is)

  -- ---- what the code's map says

  module _ {S : Type 0} (vertex : Vertex) (before after : IndexMap Vertex (Option V) S) where
    changed : (value : Option V) → ((v : Vertex) → lookup (vertex_eq.eq-value.it v) after.entries ≡ cond (vertex_eq.eq-value.it vertex v) (Some value) (lookup (vertex_eq.eq-value.it v) before.entries))
        → (v : Vertex) → place_at after.entries v ≡ cond (is_same_vertex vertex v) (Some value) (place_at before.entries v)
    changed value =
        subst (λ (test : Vertex → Vertex → Bool). (v : Vertex) → lookup (test v) after.entries ≡ cond (test vertex v) (Some value) (lookup (test v) before.entries)) same_tests

    pub gets_room : None ≡ lookup (vertex_eq.eq-value.it vertex) before.entries → Updates vertex_eq.eq-value.it before after vertex (Some None) → GetsRoom vertex before.entries after.entries
    gets_room none updates = record {
      none = sym (lookup_is_place before.entries vertex) ∙ sym none;
      places = changed None updates.0;
    }

    module _ (value : V) (updates : Updates vertex_eq.eq-value.it before after vertex (Some (Some value))) where
      there_after : (v : Vertex) (b : Bool) → is_same_vertex vertex v ≡ b → place_at after.entries v ≡ cond b (Some (Some value)) (place_at before.entries v)
      there_after v b is = changed (Some value) updates.0 v ∙ ap (λ t. cond t (Some (Some value)) (place_at before.entries v)) is

      pub value_inserted : (v : Vertex) → value_at after.entries v ≡ cond (is_same_vertex vertex v) (Some value) (value_at before.entries v)
      value_inserted v = by_test (is_same_vertex vertex v) refl where
        by_test : (b : Bool) → is_same_vertex vertex v ≡ b → value_at after.entries v ≡ cond b (Some value) (value_at before.entries v)
        by_test true is = ap (λ o. unwrap_or o None) (there_after v true is)
        by_test false is = ap (λ o. unwrap_or o None) (there_after v false is)

      pub room_inserted : KeepsRoom before.entries after.entries
      room_inserted v has = by_test (is_same_vertex vertex v) refl where
        by_test : (b : Bool) → is_same_vertex vertex v ≡ b → HasRoom after.entries v
        by_test true is = ap is_some (there_after v true is)
        by_test false is = ap is_some (there_after v false is) ∙ has

    updated : (old value : Option V) → Some old ≡ lookup (vertex_eq.eq-value.it vertex) before.entries → Updates vertex_eq.eq-value.it before after vertex (Some value)
        → Writes vertex value before.entries after.entries
    updated old value found updates v = by_test (is_same_vertex vertex v) refl where
      all : (u : Vertex) → place_at after.entries u ≡ cond (is_same_vertex vertex u) (Some value) (place_at before.entries u)
      all = changed value updates.0

      there : (u : Vertex) → vertex ≡ u → place_at before.entries u ≡ Some old
      there u one = ap (place_at before.entries) (sym one) ∙ sym (lookup_is_place before.entries vertex) ∙ sym found

      by_test : (b : Bool) → is_same_vertex vertex v ≡ b → place_at after.entries v ≡ cond (is_same_vertex vertex v) (option_map (λ _. value) (place_at before.entries v)) (place_at before.entries v)
      by_test true is =
          all v ∙ ap (λ t. cond t (Some value) (place_at before.entries v)) is ∙ sym (ap (option_map (λ _. value)) (there v (same_vertex_exact vertex v is)))
          ∙ sym (ap (λ t. cond t (option_map (λ _. value) (place_at before.entries v)) (place_at before.entries v)) is)
      by_test false is =
          all v ∙ ap (λ t. cond t (Some value) (place_at before.entries v)) is ∙ sym (ap (λ t. cond t (option_map (λ _. value) (place_at before.entries v)) (place_at before.entries v)) is)

    pub writes_through : (old value : Option V) → Some old ≡ lookup (vertex_eq.eq-value.it vertex) before.entries
        → WritesThrough vertex_eq.eq-value.it (vertex_eq.eq-value.it vertex) before value after → Writes vertex value before.entries after.entries
    writes_through old value found writes = updated old value found (writes.3 (sym (ap is_some found)))

  pub writes_at : {S : Type 0} (vertex : Vertex) (map : IndexMap Vertex (Option V) S) (i : ℕ) (old value : Option V) → IsUnique vertex_eq.eq-value.it map
      → slice_get map.entries i ≡ Some (vertex, old) → Writes vertex value map.entries (set_value_at map.entries i value)
  writes_at vertex map i old value unique at =
      updated vertex map (with_value_at map i value) old value (sym (lookup_from_place set_laws map.entries i vertex old unique at)) (updates-with_value_at map i value set_laws unique vertex old at)

  -- what is found at the place of a vertex stands there
  pub found_there : (places : Places V) (found vertex : Vertex) (value : Option V) → lookup (vertex_eq.eq-value.it found) places ≡ Some value → vertex_eq.eq-value.it found vertex ≡ true
      → place_at places vertex ≡ Some value
  found_there places found vertex value there same = ap (place_at places) (sym (found_is found vertex same)) ∙ sym (lookup_is_place places found) ∙ there

  pub writes_nothing : (vertex : Vertex) (value : Option V) (places : Places V) → None ≡ lookup (vertex_eq.eq-value.it vertex) places → Writes vertex value places places
  writes_nothing vertex value places none v = by_test (is_same_vertex vertex v) refl where
    by_test : (b : Bool) → is_same_vertex vertex v ≡ b → place_at places v ≡ cond (is_same_vertex vertex v) (option_map (λ _. value) (place_at places v)) (place_at places v)
    by_test true is =
        let there : place_at places v ≡ None = ap (place_at places) (sym (same_vertex_exact vertex v is)) ∙ sym (lookup_is_place places vertex) ∙ sym none in
        there ∙ sym (ap (option_map (λ _. value)) there) ∙ sym (ap (λ t. cond t (option_map (λ _. value) (place_at places v)) (place_at places v)) is)
    by_test false is = sym (ap (λ t. cond t (option_map (λ _. value) (place_at places v)) (place_at places v)) is)

pub has_room : {V : Type 0} (places : Places V) (v : Vertex) (o : Option (Option V)) → IfSome o (λ value. place_at places v ≡ Some value) → is_some o ≡ true → HasRoom places v
has_room places v None there is = absurd cc
has_room places v (Some value) there is = ap is_some there

pub none_from : {X : Type 0} (o : Option X) → is_some o ≡ false → None ≡ o
none_from None is = refl
none_from (Some x) is = absurd cc
