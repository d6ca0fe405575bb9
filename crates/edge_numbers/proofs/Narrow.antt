-- What narrow edges stand for.
use Rattle.std.proofs.Common.{◌≡◌, ℕ, zero, suc, ◌+◌, ◌<◌, ◌≤◌, Bool, true, false, cond, List, [], ◌∷◌, ◌++◌, length, get_or, slice_get, map, Some, None, refl, sym, ap, subst, ◌∙◌, arith}
use Rattle.std.specs.Prelude.{◌||◌, ◌^◌, set}
use Rattle.std.specs.Option.{option_map}
use Rattle.std.specs.List.{AllByRecursion, IsDistinct, list_any}
use Rattle.std.specs.Map.{keys_of, values_of, lookup}
use Rattle.std.proofs.lemmas.List.{length-map, length-append, map_push, get_or_default, get_or_append_left}
use Rattle.std.proofs.lemmas.List.Elements.{All-from_recursion, All-get_or}
use Rattle.std.proofs.lemmas.Option.{slice_get-map, slice_get_within, slice_get-get_or, get_or_from_slice_get}
use Rattle.std.proofs.lemmas.Map.Keys.{IsDistinct-push, any_passes_from_place}
use Rattle.indexmap.specs.IndexMap.{set_value_at}
use Rattle.edge_lattice.specs.declared.state.State.{State}
use Rattle.edge_lattice.specs.declared.state.State.TheVariants.{Absent}
use Rattle.grove_edits.specs.declared.vertex.Vertex.{Vertex}
use Rattle.grove_edits.specs.declared.edge.Edge.{Edge}
use Rattle.grove_edits.specs.Vertex.{is_same_vertex, root}
use Rattle.grove_edits.specs.Graph.{is_same_edge}
use Rattle.grove_edits.proofs.Orders.{one_edge, same_edge_laws}
use Rattle.edge_numbers.specs.declared.narrow_edge.NarrowEdge.{NarrowEdge}
use Rattle.edge_numbers.specs.Numbered.{edges_of, states_of, edge_at, IsNumberOfEdge, IsNumberOfVertex, HasEndsIn, BeginsWith, with_entry, no_edge}
use Rattle.edge_numbers.specs.Narrow.{NarrowEntries, edge_of, entry_of, entries_of, numbered, HasEnds, IsNumbered}
use Rattle.edge_numbers.proofs.NarrowEq.{eq, itself}
use Rattle.edge_numbers.proofs.Places.{stands_last}
use Rattle.edge_numbers.proofs.Vertices.{one_number, numbered_stands}

module _ (vs : List Vertex) where
  pub edges_are : (es : NarrowEntries) → edges_of (entries_of vs es) ≡ map (edge_of vs) (keys_of es)
  edges_are [] = refl
  edges_are (e ∷ es) = ap (λ rest. edge_of vs e.0 ∷ rest) (edges_are es)

  pub states_are : (es : NarrowEntries) → states_of (entries_of vs es) ≡ values_of es
  states_are [] = refl
  states_are (e ∷ es) = ap (λ rest. e.1 ∷ rest) (states_are es)

  pub length_entries : (es : NarrowEntries) → length (entries_of vs es) ≡ length es
  length_entries es = length-map es (entry_of vs)

  -- narrow edges that stand for one edge are one
  pub one_narrow : IsDistinct is_same_vertex vs → (a b : NarrowEdge) → HasEnds vs a → HasEnds vs b → edge_of vs a ≡ edge_of vs b → a ≡ b
  one_narrow once a b first second same =
      let source = one_number vs a.source b.source once first.0 second.0 (ap (λ (e : Edge). e.source) same) in
      let target = one_number vs a.target b.target once first.1 second.1 (ap (λ (e : Edge). e.target) same) in
      λ j. record { name = (same j).name; source = source j; target = target j; position = (same j).position }

  -- ---- by number

  module _ (es : NarrowEntries) (n : ℕ) (narrow : NarrowEdge) (at : slice_get (keys_of es) n ≡ Some narrow) where
    pub edge_there : slice_get (edges_of (entries_of vs es)) n ≡ Some (edge_of vs narrow)
    edge_there = ap (λ edges. slice_get edges n) (edges_are es) ∙ slice_get-map (edge_of vs) (keys_of es) n ∙ ap (option_map (edge_of vs)) at

    pub edge_read : edge_at (numbered vs es) n ≡ edge_of vs narrow
    edge_read = get_or_from_slice_get (edges_of (entries_of vs es)) n (edge_of vs narrow) no_edge edge_there

    pub number_within : n < length (entries_of vs es)
    number_within = omega (arith, slice_get_within (edges_of (entries_of vs es)) n (edge_of vs narrow) edge_there, length-map (entries_of vs es) (λ entry. entry.0))

    pub ends_read : AllByRecursion (HasEnds vs) (keys_of es) → HasEnds vs narrow
    ends_read all =
        subst (HasEnds vs) (get_or_from_slice_get (keys_of es) n narrow narrow at)
        (All-get_or (HasEnds vs) (keys_of es) n narrow (slice_get_within (keys_of es) n narrow at) (All-from_recursion (HasEnds vs) (keys_of es) all))

    pub source_read : AllByRecursion (HasEnds vs) (keys_of es) → IsNumberOfVertex (numbered vs es) (edge_at (numbered vs es) n).source narrow.source
    source_read all = ((ends_read all).0, sym (ap (λ (e : Edge). e.source) edge_read))

    pub target_read : AllByRecursion (HasEnds vs) (keys_of es) → IsNumberOfVertex (numbered vs es) (edge_at (numbered vs es) n).target narrow.target
    target_read all = ((ends_read all).1, sym (ap (λ (e : Edge). e.target) edge_read))

    -- the narrow edge stands for an edge, which has the number
    pub number_read : (e : Edge) → edge_of vs narrow ≡ e → IsNumberOfEdge (numbered vs es) e n
    number_read e is = (number_within, edge_read ∙ is)

    -- and is no new one
    pub there_among : list_any (is_same_edge (edge_of vs narrow)) (edges_of (entries_of vs es)) ≡ true
    there_among = any_passes_from_place (is_same_edge (edge_of vs narrow)) (edges_of (entries_of vs es)) n (edge_of vs narrow) edge_there (same_edge_laws.refl (edge_of vs narrow))

  -- the narrow edge between two vertices by their numbers
  pub narrow_between : (e : Edge) (source target : ℕ) → get_or vs source root ≡ e.source → get_or vs target root ≡ e.target
      → edge_of vs (record { name = e.name; source = source; target = target; position = e.position }) ≡ e
  narrow_between e source target from to = λ j. record { name = e.name; source = from j; position = e.position; target = to j }

  -- the narrow edge that stands for the edge with a number
  pub narrow_there : (es : NarrowEntries) (n : ℕ) (e : Edge) → AllByRecursion (HasEnds vs) (keys_of es) → IsNumberOfEdge (numbered vs es) e n
      → (narrow : NarrowEdge) × (slice_get (keys_of es) n ≡ Some narrow) × HasEnds vs narrow × (edge_of vs narrow ≡ e)
  narrow_there es n e all number =
      let within : n < length (keys_of es) = omega (arith, number.0, length_entries es, length-map es (λ entry. entry.0)) in
      let narrow = get_or (keys_of es) n nothing in
      let at : slice_get (keys_of es) n ≡ Some narrow = slice_get-get_or (keys_of es) n nothing within in
      (narrow, at, ends_read es n narrow at all, sym (edge_read es n narrow at) ∙ number.1)
    where
      nothing : NarrowEdge
      nothing = record { name = no_edge.name; source = 0; target = 0; position = no_edge.position }

  -- the ends of all edges are among the vertices
  ends_among : (narrow : NarrowEdge) → HasEnds vs narrow → HasEndsIn vs (edge_of vs narrow)
  ends_among narrow ends = (
    numbered_stands vs (get_or vs narrow.source root) narrow.source (slice_get-get_or vs narrow.source root ends.0),
    numbered_stands vs (get_or vs narrow.target root) narrow.target (slice_get-get_or vs narrow.target root ends.1),
  )

  pub all_ends_among : (es : NarrowEntries) → AllByRecursion (HasEnds vs) (keys_of es) → AllByRecursion (HasEndsIn vs) (edges_of (entries_of vs es))
  all_ends_among [] all = tt
  all_ends_among (e ∷ es) all = (ends_among e.0 all.0, all_ends_among es all.1)

  -- ---- another state

  pub keys_set : (es : NarrowEntries) (n : ℕ) (state : State) → keys_of (set_value_at es n state) ≡ keys_of es
  keys_set [] n state = refl
  keys_set (e ∷ es) zero state = refl
  keys_set (e ∷ es) (suc n) state = ap (λ ks. e.0 ∷ ks) (keys_set es n state)

  values_set : (es : NarrowEntries) (n : ℕ) (state : State) → values_of (set_value_at es n state) ≡ set (values_of es) n state
  values_set [] n state = refl
  values_set (e ∷ es) zero state = refl
  values_set (e ∷ es) (suc n) state = ap (λ ks. e.1 ∷ ks) (values_set es n state)

  pub entries_set : (es : NarrowEntries) (n : ℕ) (state : State) → entries_of vs (set_value_at es n state) ≡ set_value_at (entries_of vs es) n state
  entries_set [] n state = refl
  entries_set (e ∷ es) zero state = refl
  entries_set (e ∷ es) (suc n) state = ap (λ rest. entry_of vs e ∷ rest) (entries_set es n state)

  pub edges_set : (es : NarrowEntries) (n : ℕ) (state : State) → edges_of (entries_of vs (set_value_at es n state)) ≡ edges_of (entries_of vs es)
  edges_set es n state = edges_are (set_value_at es n state) ∙ ap (map (edge_of vs)) (keys_set es n state) ∙ sym (edges_are es)

  pub states_set : (es : NarrowEntries) (n : ℕ) (state : State) → states_of (entries_of vs (set_value_at es n state)) ≡ set (states_of (entries_of vs es)) n state
  states_set es n state = states_are (set_value_at es n state) ∙ values_set es n state ∙ ap (λ states. set states n state) (sym (states_are es))

  pub numbered_set : (es : NarrowEntries) (n : ℕ) (state : State) → IsNumbered vs es → IsNumbered vs (set_value_at es n state)
  numbered_set es n state is = record {
    fits = is.fits;
    vertices_once = is.vertices_once;
    ends = subst (AllByRecursion (HasEnds vs)) (sym (keys_set es n state)) is.ends;
    edges_once = subst (IsDistinct is_same_edge) (sym (edges_set es n state)) is.edges_once;
  }

  -- ---- one more edge

  module _ (once : IsDistinct is_same_vertex vs) (narrow : NarrowEdge) (ends : HasEnds vs narrow) where
    apart : (other : NarrowEdge) → HasEnds vs other → eq narrow other ≡ false → is_same_edge (edge_of vs narrow) (edge_of vs other) ≡ false
    apart other has differ = by_test (is_same_edge (edge_of vs narrow) (edge_of vs other)) refl where
      by_test : (b : Bool) → is_same_edge (edge_of vs narrow) (edge_of vs other) ≡ b → b ≡ false
      by_test true same =
          let one = one_narrow once narrow other ends has (one_edge (edge_of vs narrow) (edge_of vs other) same) in
          let found : eq narrow other ≡ true = ap (eq narrow) (sym one) ∙ itself narrow in
          absurd cc
      by_test false other_edge = refl

    -- an edge that is not found has no number
    pub none_among : (es : NarrowEntries) → AllByRecursion (HasEnds vs) (keys_of es) → lookup (eq narrow) es ≡ None → list_any (is_same_edge (edge_of vs narrow)) (edges_of (entries_of vs es)) ≡ false
    none_among [] all none = refl
    none_among (e ∷ es) all none = by_test (eq narrow e.0) refl none (none_among es all.1) where
      by_test : (b : Bool) → eq narrow e.0 ≡ b → cond b (Some e.1) (lookup (eq narrow) es) ≡ None
          → (lookup (eq narrow) es ≡ None → list_any (is_same_edge (edge_of vs narrow)) (edges_of (entries_of vs es)) ≡ false)
          → (is_same_edge (edge_of vs narrow) (edge_of vs e.0) || list_any (is_same_edge (edge_of vs narrow)) (edges_of (entries_of vs es))) ≡ false
      by_test true found nothing rest = absurd cc
      by_test false differ nothing rest = ap (λ b. b || list_any (is_same_edge (edge_of vs narrow)) (edges_of (entries_of vs es))) (apart e.0 all.0 differ) ∙ rest nothing

    ends_push : (es : NarrowEntries) (state : State) → AllByRecursion (HasEnds vs) (keys_of es) → AllByRecursion (HasEnds vs) (keys_of (es ++ (narrow, state) ∷ []))
    ends_push [] state all = (ends, tt)
    ends_push (e ∷ es) state all = (all.0, ends_push es state all.1)

    pub entries_push : (es : NarrowEntries) (state : State) → entries_of vs (es ++ (narrow, state) ∷ []) ≡ entries_of vs es ++ (edge_of vs narrow, state) ∷ []
    entries_push es state = map_push (entry_of vs) es (narrow, state)

    edges_push : (es : NarrowEntries) (state : State) → edges_of (entries_of vs (es ++ (narrow, state) ∷ [])) ≡ edges_of (entries_of vs es) ++ edge_of vs narrow ∷ []
    edges_push [] state = refl
    edges_push (e ∷ es) state = ap (λ rest. edge_of vs e.0 ∷ rest) (edges_push es state)

    pub numbered_push : (es : NarrowEntries) (state : State) → IsNumbered vs es → lookup (eq narrow) es ≡ None → IsNumbered vs (es ++ (narrow, state) ∷ [])
    numbered_push es state is none = record {
      fits = is.fits;
      vertices_once = is.vertices_once;
      ends = ends_push es state is.ends;
      edges_once = subst (IsDistinct is_same_edge) (sym (edges_push es state))
          (IsDistinct-push same_edge_laws (edges_of (entries_of vs es)) (edge_of vs narrow) is.edges_once (none_among es is.ends none));
    }

-- ---- more vertices

vertex_stays : (ws vs : List Vertex) → BeginsWith ws vs → (n : ℕ) → n < length vs → get_or ws n root ≡ get_or vs n root
vertex_stays ws vs begins n within = ap (λ xs. get_or xs n root) begins.1 ∙ get_or_append_left vs begins.0 root n within

module _ (ws vs : List Vertex) (begins : BeginsWith ws vs) where
  edge_stays : (narrow : NarrowEdge) → HasEnds vs narrow → edge_of ws narrow ≡ edge_of vs narrow
  edge_stays narrow ends = λ j. record {
    name = narrow.name;
    source = vertex_stays ws vs begins narrow.source ends.0 j;
    position = narrow.position;
    target = vertex_stays ws vs begins narrow.target ends.1 j;
  }

  ends_stay : (narrow : NarrowEdge) → HasEnds vs narrow → HasEnds ws narrow
  ends_stay narrow ends =
      let count : length ws ≡ length vs + length begins.0 = ap length begins.1 ∙ length-append vs begins.0 in
      (omega (arith, count, ends.0), omega (arith, count, ends.1))

  all_ends_stay : (narrows : List NarrowEdge) → AllByRecursion (HasEnds vs) narrows → AllByRecursion (HasEnds ws) narrows
  all_ends_stay [] all = tt
  all_ends_stay (narrow ∷ narrows) all = (ends_stay narrow all.0, all_ends_stay narrows all.1)

  -- what has numbers keeps them
  pub entries_stay : (es : NarrowEntries) → AllByRecursion (HasEnds vs) (keys_of es) → entries_of ws es ≡ entries_of vs es
  entries_stay [] all = refl
  entries_stay (e ∷ es) all = λ j. (edge_stays e.0 all.0 j, e.1) ∷ entries_stay es all.1 j

  pub numbered_stays : (es : NarrowEntries) → IsDistinct is_same_vertex ws → length ws ≤ 2 ^ 32 → IsNumbered vs es → IsNumbered ws es
  numbered_stays es once fits is = record {
    fits = fits;
    vertices_once = once;
    ends = all_ends_stay (keys_of es) is.ends;
    edges_once = subst (λ entries. IsDistinct is_same_edge (edges_of entries)) (sym (entries_stay es is.ends)) is.edges_once;
  }

pub numbered_none : IsNumbered [] []
unfolding IsDistinct
numbered_none = record { fits = omega arith; vertices_once = tt; ends = tt; edges_once = tt }

-- what is read at the numbers of the ends of an edge are its ends
pub edge_of_ends : (vs read : List Vertex) (narrow : NarrowEdge) (source target : Vertex) → read ≡ vs → HasEnds vs narrow → source ≡ get_or read narrow.source source → target ≡ get_or read narrow.target target
    → record { name = narrow.name; source = source; position = narrow.position; target = target } ≡ edge_of vs narrow
edge_of_ends vs read narrow source target same ends from to = λ j. record { name = narrow.name; source = from_root j; position = narrow.position; target = to_root j } where
  from_root : source ≡ get_or vs narrow.source root
  from_root = from ∙ ap (λ xs. get_or xs narrow.source source) same ∙ get_or_default vs narrow.source source root ends.0

  to_root : target ≡ get_or vs narrow.target root
  to_root = to ∙ ap (λ xs. get_or xs narrow.target target) same ∙ get_or_default vs narrow.target target root ends.1

-- ---- an edge that is entered

pub entry_there : (vs : List Vertex) (es : NarrowEntries) (n : ℕ) (narrow : NarrowEdge) → slice_get (keys_of es) n ≡ Some narrow → entries_of vs es ≡ with_entry (edge_of vs narrow) (entries_of vs es)
entry_there vs es n narrow at = sym (ap (λ b. cond b (entries_of vs es) (entries_of vs es ++ (edge_of vs narrow, Absent) ∷ [])) (there_among vs es n narrow at))

pub entry_pushed : (vs : List Vertex) → IsDistinct is_same_vertex vs → (narrow : NarrowEdge) → HasEnds vs narrow → (es : NarrowEntries) → AllByRecursion (HasEnds vs) (keys_of es) → lookup (eq narrow) es ≡ None
    → entries_of vs (es ++ (narrow, Absent) ∷ []) ≡ with_entry (edge_of vs narrow) (entries_of vs es)
entry_pushed vs once narrow ends es all none =
    entries_push vs once narrow ends es Absent
    ∙ sym (ap (λ b. cond b (entries_of vs es) (entries_of vs es ++ (edge_of vs narrow, Absent) ∷ [])) (none_among vs once narrow ends es all none))

-- the last number is that of the edge that was entered last
pub last_number : (es after : NarrowEntries) (narrow : NarrowEdge) (state : State) (n : ℕ) → after ≡ es ++ (narrow, state) ∷ [] → n ≡ length es → slice_get (keys_of after) n ≡ Some narrow
last_number es after narrow state n is count =
    ap (λ xs. slice_get (keys_of xs) n) is ∙ ap (λ ks. slice_get ks n) (map_push (λ (entry : NarrowEdge × State). entry.0) es (narrow, state))
    ∙ ap (slice_get (keys_of es ++ narrow ∷ [])) (count ∙ sym (length-map es (λ entry. entry.0))) ∙ stands_last (keys_of es) narrow
