-- The states of edges by their entries.
use Rattle.std.proofs.Common.{◌≡◌, ℕ, zero, suc, ◌<◌, Bool, true, false, cond, [], ◌∷◌, ◌++◌, length, get_or, slice_get, Some, None, IsSome, is_some, refl, sym, ap, ◌∙◌, arith}
use Rattle.std.specs.Prelude.{Option, unwrap_or}
use Rattle.std.specs.Option.{option_map}
use Rattle.std.specs.List.{IsDistinct, list_any}
use Rattle.std.proofs.lemmas.List.{get_or-map, length-map, length_push, map_push, get_or_append_left}
use Rattle.std.proofs.lemmas.List.Elements.{All-from_recursion, All-get_or}
use Rattle.std.proofs.lemmas.Option.{slice_get-map, slice_get_within, slice_get-get_or, get_or_from_slice_get}
use Rattle.std.proofs.lemmas.Map.Keys.{any_passes_from_place}
use Rattle.std.proofs.lemmas.Map.Entries.{place_from_lookup}
use Rattle.std.proofs.lemmas.Map.Made.{is_some-lookup, IsSome-lookup_same_keys}
use Rattle.indexmap.specs.IndexMap.{set_value_at}
use Rattle.edge_lattice.specs.declared.state.State.{State}
use Rattle.edge_lattice.specs.declared.state.State.TheVariants.{Absent}
use Rattle.grove_edits.specs.declared.edge.Edge.{Edge}
use Rattle.grove_edits.specs.Graph.{is_same_edge}
use Rattle.grove_edits.proofs.Orders.{one_edge, same_edge_laws}
use Rattle.edge_numbers.specs.Numbered.{Numbered, edges_of, state_at, with_entry, no_edge, IsNumberOfEdge}
use Rattle.graph_words.specs.States.{Entries, entry_at, state_in, with_state, HasRoom, KeepsRoom}

same_number : (m n : ℕ) → Some m ≡ Some n → m ≡ n
same_number m n same = cc

edge_place : (entries : Entries) (n : ℕ) (k : Edge) (state : State) → slice_get entries n ≡ Some (k, state) → slice_get (edges_of entries) n ≡ Some k
edge_place entries n k state at = slice_get-map (λ entry. entry.0) entries n ∙ ap (option_map (λ entry. entry.0)) at

module _ (ns : Numbered) (e : Edge) where
  place_number : (n : ℕ) (k : Edge) (state : State) → slice_get ns.entries n ≡ Some (k, state) → e ≡ k → IsNumberOfEdge ns e n
  place_number n k state at is =
      let within = slice_get_within ns.entries n (k, state) at in
      (within, get_or-map (λ entry. entry.0) ns.entries n (no_edge, Absent) no_edge within ∙ ap (λ entry. entry.0) (get_or_from_slice_get ns.entries n (k, state) (no_edge, Absent) at) ∙ sym is)

  state_read : (n : ℕ) (k : Edge) (state : State) → slice_get ns.entries n ≡ Some (k, state) → state ≡ state_at ns n
  state_read n k state at =
      let within = slice_get_within ns.entries n (k, state) at in
      sym (get_or-map (λ entry. entry.1) ns.entries n (no_edge, Absent) Absent within ∙ ap (λ entry. entry.1) (get_or_from_slice_get ns.entries n (k, state) (no_edge, Absent) at))

  number_place : (n : ℕ) → IsNumberOfEdge ns e n → slice_get ns.entries n ≡ Some (e, state_at ns n)
  number_place n number =
      let entry = get_or ns.entries n (no_edge, Absent) in
      let edge : entry.0 ≡ e = sym (get_or-map (λ entry. entry.0) ns.entries n (no_edge, Absent) no_edge number.0) ∙ number.1 in
      let state : entry.1 ≡ state_at ns n = sym (get_or-map (λ entry. entry.1) ns.entries n (no_edge, Absent) Absent number.0) in
      let both : entry ≡ (e, state_at ns n) = λ j. (edge j, state j) in
      slice_get-get_or ns.entries n (no_edge, Absent) number.0 ∙ ap Some both

  -- the state of an edge is that at its number
  pub state_numbered : (n : ℕ) → ((i : ℕ) → IsNumberOfEdge ns e i → Some n ≡ Some i) → IsNumberOfEdge ns e n → state_in ns.entries e ≡ state_at ns n
  state_numbered n only number = by_entry (entry_at ns.entries e) refl where
    by_entry : (o : Option State) → entry_at ns.entries e ≡ o → state_in ns.entries e ≡ state_at ns n
    by_entry None is =
        let edges = edges_of ns.entries in
        let found : list_any (is_same_edge e) edges ≡ true = any_passes_from_place (is_same_edge e) edges n e (edge_place ns.entries n e (state_at ns n) (number_place n number)) (same_edge_laws.refl e) in
        let some : is_some (entry_at ns.entries e) ≡ true = is_some-lookup (is_same_edge e) ns.entries ∙ found in
        absurd cc
    by_entry (Some state) is =
        let place = place_from_lookup (is_same_edge e) ns.entries state is in
        let one : n ≡ place.0 = same_number n place.0 (only place.0 (place_number place.0 place.1 state place.2 (one_edge e place.1 place.3))) in
        let there : slice_get ns.entries n ≡ Some (place.1, state) = ap (slice_get ns.entries) one ∙ place.2 in
        ap (λ o. unwrap_or o Absent) is ∙ state_read n place.1 state there

  -- and Absent where it has no number
  pub state_unnumbered : ((n : ℕ) → IsNumberOfEdge ns e n → ⊥) → state_in ns.entries e ≡ Absent
  state_unnumbered none = by_entry (entry_at ns.entries e) refl where
    by_entry : (o : Option State) → entry_at ns.entries e ≡ o → state_in ns.entries e ≡ Absent
    by_entry None is = ap (λ o. unwrap_or o Absent) is
    by_entry (Some state) is =
        let place = place_from_lookup (is_same_edge e) ns.entries state is in
        absurd (none place.0 (place_number place.0 place.1 state place.2 (one_edge e place.1 place.3)))

-- ---- another state of one edge

abbrev numbered_edge : Entries → ℕ → Edge
numbered_edge entries n = get_or (edges_of entries) n no_edge

pub state_set : (entries : Entries) (n : ℕ) (state : State) (e : Edge) → n < length entries → IsDistinct is_same_edge (edges_of entries)
    → state_in (set_value_at entries n state) e ≡ with_state (numbered_edge entries n) state (state_in entries) e
unfolding IsDistinct
state_set [] n state e within once = absurd (omega (arith, within))
state_set (x ∷ xs) zero state e within once =
    by_test (is_same_edge e x.0) ∙ ap (λ b. cond b state (state_in (x ∷ xs) e)) (same_edge_laws.symm e x.0) where
      by_test : (b : Bool) → unwrap_or (cond b (Some state) (entry_at xs e)) Absent ≡ cond b state (unwrap_or (cond b (Some x.1) (entry_at xs e)) Absent)
      by_test true = refl
      by_test false = refl
state_set (x ∷ xs) (suc n) state e within once = by_test (is_same_edge e x.0) refl (state_set xs n state e (omega (arith, within)) once.1) where
  other : Edge
  other = numbered_edge xs n

  differs : is_same_edge x.0 other ≡ false
  differs = All-get_or (λ y. is_same_edge x.0 y ≡ false) (edges_of xs) n no_edge (omega (arith, within, length-map xs (λ entry. entry.0))) (All-from_recursion (λ y. is_same_edge x.0 y ≡ false) (edges_of xs) once.0)

  by_test : (b : Bool) → is_same_edge e x.0 ≡ b → unwrap_or (entry_at (set_value_at xs n state) e) Absent ≡ cond (is_same_edge other e) state (unwrap_or (entry_at xs e) Absent)
      → unwrap_or (cond b (Some x.1) (entry_at (set_value_at xs n state) e)) Absent ≡ cond (is_same_edge other e) state (unwrap_or (cond b (Some x.1) (entry_at xs e)) Absent)
  by_test true same rest =
      let apart : is_same_edge other e ≡ false = ap (is_same_edge other) (one_edge e x.0 same) ∙ same_edge_laws.symm other x.0 ∙ differs in
      sym (ap (λ b. cond b state x.1) apart)
  by_test false differ rest = rest

-- entries of the same edges are the same room
pub room_of_edges : (before after : Entries) → edges_of after ≡ edges_of before → KeepsRoom before after
room_of_edges before after same e has = (IsSome-lookup_same_keys (is_same_edge e) before after (sym same)).0 has

-- ---- one more edge

module _ (edge : Edge) where
  state_push : (entries : Entries) (e : Edge) → state_in (entries ++ (edge, Absent) ∷ []) e ≡ state_in entries e
  state_push [] e = by_test (is_same_edge e edge) where
    by_test : (b : Bool) → unwrap_or (cond b (Some Absent) None) Absent ≡ Absent
    by_test true = refl
    by_test false = refl
  state_push (x ∷ xs) e = by_test (is_same_edge e x.0) (state_push xs e) where
    by_test : (b : Bool) → unwrap_or (entry_at (xs ++ (edge, Absent) ∷ []) e) Absent ≡ unwrap_or (entry_at xs e) Absent
        → unwrap_or (cond b (Some x.1) (entry_at (xs ++ (edge, Absent) ∷ []) e)) Absent ≡ unwrap_or (cond b (Some x.1) (entry_at xs e)) Absent
    by_test true rest = refl
    by_test false rest = rest

  room_push : (entries : Entries) → HasRoom (entries ++ (edge, Absent) ∷ []) edge
  room_push [] = ap (λ b. is_some (cond b (Some Absent) None)) (same_edge_laws.refl edge)
  room_push (x ∷ xs) = by_test (is_same_edge edge x.0) (room_push xs) where
    by_test : (b : Bool) → HasRoom (xs ++ (edge, Absent) ∷ []) edge → IsSome (cond b (Some x.1) (entry_at (xs ++ (edge, Absent) ∷ []) edge))
    by_test true rest = refl
    by_test false rest = rest

  room_before : (entries : Entries) → KeepsRoom entries (entries ++ (edge, Absent) ∷ [])
  room_before [] e has = absurd cc
  room_before (x ∷ xs) e has = by_test (is_same_edge e x.0) has (room_before xs e) where
    by_test : (b : Bool) → IsSome (cond b (Some x.1) (entry_at xs e)) → (HasRoom xs e → HasRoom (xs ++ (edge, Absent) ∷ []) e) → IsSome (cond b (Some x.1) (entry_at (xs ++ (edge, Absent) ∷ []) e))
    by_test true has rest = refl
    by_test false has rest = rest has

  -- an edge that is entered changes no state
  pub state_entered : (entries : Entries) (e : Edge) → state_in (with_entry edge entries) e ≡ state_in entries e
  state_entered entries e = by_test (list_any (is_same_edge edge) (edges_of entries)) where
    by_test : (b : Bool) → state_in (cond b entries (entries ++ (edge, Absent) ∷ [])) e ≡ state_in entries e
    by_test true = refl
    by_test false = state_push entries e

  pub room_entered : (entries : Entries) → HasRoom (with_entry edge entries) edge
  room_entered entries = by_test (list_any (is_same_edge edge) (edges_of entries)) refl where
    by_test : (b : Bool) → list_any (is_same_edge edge) (edges_of entries) ≡ b → HasRoom (cond b entries (entries ++ (edge, Absent) ∷ [])) edge
    by_test true there = is_some-lookup (is_same_edge edge) entries ∙ there
    by_test false new = room_push entries

  pub room_stays : (entries : Entries) → KeepsRoom entries (with_entry edge entries)
  room_stays entries = by_test (list_any (is_same_edge edge) (edges_of entries)) where
    by_test : (b : Bool) → KeepsRoom entries (cond b entries (entries ++ (edge, Absent) ∷ []))
    by_test true = λ e has. has
    by_test false = room_before entries

-- ---- the numbers of edges

-- the numbers of these entries are those of the same edges among the others
abbrev pub KeepsPlaces : Entries → Entries → Type 0
KeepsPlaces before after = (n : ℕ) → n < length before → (n < length after) × (numbered_edge after n ≡ numbered_edge before n)

pub numbers_of_edges : (before after : Entries) → edges_of after ≡ edges_of before → KeepsPlaces before after
numbers_of_edges before after same n within =
    let count : length after ≡ length before = sym (length-map after (λ entry. entry.0)) ∙ ap length same ∙ length-map before (λ entry. entry.0) in
    (omega (arith, count, within), ap (λ edges. get_or edges n no_edge) same)

numbers_push : (entry : Edge × State) (entries : Entries) → KeepsPlaces entries (entries ++ entry ∷ [])
numbers_push entry entries n within = (
  omega (arith, length_push entries entry, within),
  ap (λ edges. get_or edges n no_edge) (map_push (λ (e : Edge × State). e.0) entries entry)
      ∙ get_or_append_left (edges_of entries) (entry.0 ∷ []) no_edge n (omega (arith, length-map entries (λ entry. entry.0), within)),
)

pub numbers_entered : (edge : Edge) (entries : Entries) → KeepsPlaces entries (with_entry edge entries)
numbers_entered edge entries = by_test (list_any (is_same_edge edge) (edges_of entries)) where
  by_test : (b : Bool) → KeepsPlaces entries (cond b entries (entries ++ (edge, Absent) ∷ []))
  by_test true = λ n within. (within, refl)
  by_test false = numbers_push (edge, Absent) entries
