-- The edits of the entries, listed by their numbers, make the graph that these give.
use Rattle.std.proofs.Common.{◌≡◌, ◌≢◌, ℕ, ◌+◌, ◌<◌, ◌≤◌, Bool, true, false, cond, List, [], ◌∷◌, ◌++◌, None, Some, is_none, length, get_or, take, unwrap_or, true≢false, refl, sym, ap, ◌∙◌, inl, inr, ◌⊎◌}
use Rattle.std.specs.Prelude.{◌&&◌, ◌||◌, ◌==◌, nat_lt}
use Rattle.std.specs.List.{IsDistinct}
use Rattle.std.specs.Map.{lookup}
use Rattle.std.specs.BTreeMap.{is_at}
use Rattle.std.proofs.lemmas.Bool.{eqb-true, ltb-true, lt-ltb}
use Rattle.std.proofs.lemmas.List.{take_more, take_all}
use Rattle.std.proofs.lemmas.List.Folds.{list_any-append}
use Rattle.edge_lattice.specs.declared.state.State.{State}
use Rattle.edge_lattice.specs.declared.state.State.TheVariants.{Absent, Live, Deleted}
use Rattle.edge_lattice.specs.State.{state_join}
use Rattle.edge_lattice.proofs.States.{state_join_assoc, state_join_comm, state_join_idem, Absent-state_join}
use Rattle.grove_sorts.proofs.Truths.{or_left, or_right}
use Rattle.grove_names.specs.declared.name.Name.{Name}
use Rattle.grove_names.specs.Name.{name_cmp}
use Rattle.grove_edits.specs.declared.edge.Edge.{Edge}
use Rattle.grove_edits.specs.declared.edit.Edit.{Edit}
use Rattle.grove_edits.specs.Edge.{edge_fault}
use Rattle.grove_edits.specs.Edit.{edit_kind}
use Rattle.grove_edits.specs.Graph.{Graph, graph, state_of, is_same_edge, IsSame, IsCanonical}
use Rattle.grove_edits.proofs.Graphs.{asked, graph-append}
use Rattle.grove_edits.proofs.Orders.{one_edge, same_edge_laws}
use Rattle.edge_numbers.specs.Numbered.{Numbered, edges_of, edge_at, state_at, IsNumberOfEdge}
use Rattle.graph_words.specs.States.{state_in, IsEditOf, well_formed}
use Rattle.edge_lists.specs.Lists.{holds_number}
use Rattle.numbers_by_name.specs.ByName.{Lists, all_numbers, numbers_of}
use Rattle.live_graph.specs.ByName.{HasEdgeNames}
use Rattle.live_graph.specs.Listed.{told_at}
use Rattle.live_graph.proofs.Names.{number_of_present, state_there}

join_nothing : (s : State) → state_join s Absent ≡ s
join_nothing s = state_join_comm s Absent ∙ Absent-state_join s

-- ---- the edit of an entry

-- what an edge with a state says of an edge
abbrev only : Edge → State → Edge → State
only x s e = cond (is_same_edge x e) s Absent

nothing_well_formed : (w : Bool) → Absent ≡ cond w Absent Absent
nothing_well_formed true = refl
nothing_well_formed false = refl

-- an entry that lists no edit says nothing of well-formed edges
skipped : (x : Edge) (s : State) (e : Edge) → IsEditOf x s None → Absent ≡ cond (is_none (edge_fault e)) (only x s e) Absent
skipped x s e none = by_tests (is_none (edge_fault e)) (is_same_edge x e) refl refl none where
  by_tests : (w b : Bool) → is_none (edge_fault e) ≡ w → is_same_edge x e ≡ b → (s ≡ Absent) ⊎ (is_none (edge_fault x) ≡ false) → Absent ≡ cond w (cond b s Absent) Absent
  by_tests false b ill same none = refl
  by_tests true false well other none = refl
  by_tests true true well same (inl absent) = sym absent
  by_tests true true well same (inr ill) = absurd (true≢false (sym well ∙ ap (λ (f : Edge). is_none (edge_fault f)) (sym (one_edge x e same)) ∙ ill))

-- an entry that lists an edit is of a well-formed edge
listed : (x : Edge) (s : State) (e : Edge) (edit : Edit) → IsEditOf x s (Some edit) → asked edit e ≡ cond (is_none (edge_fault e)) (only x s e) Absent
listed x s e edit one =
    ap (λ (f : Edge). cond (is_same_edge f e) (state_of (edit_kind edit)) Absent) one.0 ∙ ap (λ t. cond (is_same_edge x e) t Absent) one.1
    ∙ by_tests (is_none (edge_fault e)) (is_same_edge x e) refl refl
  where
    good : is_none (edge_fault x) ≡ true
    good = ap (λ (f : Edge). is_none (edge_fault f)) (sym one.0) ∙ edit.well_formed

    by_tests : (w b : Bool) → is_none (edge_fault e) ≡ w → is_same_edge x e ≡ b → cond b s Absent ≡ cond w (cond b s Absent) Absent
    by_tests true b well same = refl
    by_tests false false ill other = refl
    by_tests false true ill same = absurd (true≢false (sym good ∙ ap (λ (f : Edge). is_none (edge_fault f)) (one_edge x e same) ∙ ill))

-- ---- the edit of a number

module _ (edges : Numbered) (n : ℕ) where
  told_within : (edge : Edge) (state : State) → nat_lt n (length edges.entries) ≡ true → edge ≡ edge_at edges n → state ≡ state_at edges n → (e : Edge)
      → cond (is_none (edge_fault e)) (only edge state e) Absent ≡ well_formed (told_at edges n) e
  told_within edge state within is_edge is_state e =
      (λ j. cond (is_none (edge_fault e)) (only (is_edge j) (is_state j) e) Absent)
      ∙ ap (λ b. cond (is_none (edge_fault e)) (cond (b && is_same_edge (edge_at edges n) e) (state_at edges n) Absent) Absent) (sym within)

  pub edit_pushed : (edits more : List Edit) (edge : Edge) (state : State) (edit : Edit) → nat_lt n (length edges.entries) ≡ true → edge ≡ edge_at edges n → state ≡ state_at edges n → IsEditOf edge state (Some edit)
      → more ≡ edits ++ edit ∷ [] → (e : Edge) → graph more e ≡ state_join (graph edits e) (well_formed (told_at edges n) e)
  edit_pushed edits more edge state edit within is_edge is_state one is e =
      ap (λ l. graph l e) is ∙ graph-append edits (edit ∷ []) e
      ∙ ap (state_join (graph edits e)) (join_nothing (asked edit e) ∙ listed edge state e edit one ∙ told_within edge state within is_edge is_state e)

  pub edit_passed : (edits : List Edit) (edge : Edge) (state : State) → nat_lt n (length edges.entries) ≡ true → edge ≡ edge_at edges n → state ≡ state_at edges n → IsEditOf edge state None
      → (e : Edge) → graph edits e ≡ state_join (graph edits e) (well_formed (told_at edges n) e)
  edit_passed edits edge state within is_edge is_state none e =
      sym (join_nothing (graph edits e)) ∙ ap (state_join (graph edits e)) (skipped edge state e none ∙ told_within edge state within is_edge is_state e)

  -- a number that is that of no edge
  pub number_passed : (edits : List Edit) → nat_lt n (length edges.entries) ≡ false → (e : Edge) → graph edits e ≡ state_join (graph edits e) (well_formed (told_at edges n) e)
  number_passed edits beyond e =
      sym (join_nothing (graph edits e))
      ∙ ap (state_join (graph edits e))
      (nothing_well_formed (is_none (edge_fault e))
      ∙ ap (λ b. cond (is_none (edge_fault e)) (cond (b && is_same_edge (edge_at edges n) e) (state_at edges n) Absent) Absent) (sym beyond))

-- ---- the edits of many numbers

-- the join of what is said at each number
abbrev pub joined : (ℕ → State) → List ℕ → State
joined f [] = Absent
joined f (n ∷ ns) = state_join (f n) (joined f ns)

pub joined-push : (f : ℕ → State) (ns : List ℕ) (n : ℕ) → joined f (ns ++ n ∷ []) ≡ state_join (joined f ns) (f n)
joined-push f [] n = state_join_comm (f n) Absent
joined-push f (m ∷ ms) n = ap (state_join (f m)) (joined-push f ms n) ∙ sym (state_join_assoc (f m) (joined f ms) (f n))

-- each number says nothing or the same
module _ (f : ℕ → State) (s : State) (each : (n : ℕ) → (f n ≡ Absent) ⊎ (f n ≡ s)) where
  pub joined_or_none : (ns : List ℕ) → (joined f ns ≡ Absent) ⊎ (joined f ns ≡ s)
  joined_or_none [] = inl refl
  joined_or_none (n ∷ ns) = by_cases (each n) (joined_or_none ns) where
    by_cases : (f n ≡ Absent) ⊎ (f n ≡ s) → (joined f ns ≡ Absent) ⊎ (joined f ns ≡ s) → (state_join (f n) (joined f ns) ≡ Absent) ⊎ (state_join (f n) (joined f ns) ≡ s)
    by_cases (inl none) (inl rest) = inl (λ j. state_join (none j) (rest j))
    by_cases (inl none) (inr rest) = inr ((λ j. state_join (none j) (rest j)) ∙ Absent-state_join s)
    by_cases (inr some) (inl rest) = inr ((λ j. state_join (some j) (rest j)) ∙ join_nothing s)
    by_cases (inr some) (inr rest) = inr ((λ j. state_join (some j) (rest j)) ∙ state_join_idem s)

  pub joined_held : (ns : List ℕ) (n : ℕ) → holds_number n ns ≡ true → f n ≡ s → joined f ns ≡ s
  joined_held [] n held is = absurd cc
  joined_held (m ∷ ms) n held is = by_test (m == n) refl held (λ later. joined_held ms n later is) (each m) (joined_or_none ms) where
    by_test : (b : Bool) → (m == n) ≡ b → (b || holds_number n ms) ≡ true → (holds_number n ms ≡ true → joined f ms ≡ s) → (f m ≡ Absent) ⊎ (f m ≡ s) → (joined f ms ≡ Absent) ⊎ (joined f ms ≡ s)
        → state_join (f m) (joined f ms) ≡ s
    by_test true same _ _ _ (inl rest) = (λ j. state_join ((ap f (eqb-true m n same) ∙ is) j) (rest j)) ∙ join_nothing s
    by_test true same _ _ _ (inr rest) = (λ j. state_join ((ap f (eqb-true m n same) ∙ is) j) (rest j)) ∙ state_join_idem s
    by_test false _ held later (inl none) _ = (λ j. state_join (none j) (later held j)) ∙ Absent-state_join s
    by_test false _ held later (inr some) _ = (λ j. state_join (some j) (later held j)) ∙ state_join_idem s

-- the edits make what the numbers so far say
abbrev pub MakesSoFar : Numbered → List ℕ → List Edit → Type 0
MakesSoFar edges ns edits = (e : Edge) → graph edits e ≡ joined (λ n. well_formed (told_at edges n) e) ns

pub made_more : (edges : Numbered) (numbers : List ℕ) (i : ℕ) (edits more : List Edit) → i < length numbers → MakesSoFar edges (take i numbers) edits
    → ((e : Edge) → graph more e ≡ state_join (graph edits e) (well_formed (told_at edges (get_or numbers i 0)) e)) → MakesSoFar edges (take (i + 1) numbers) more
made_more edges numbers i edits more within so_far adds e =
    let f : ℕ → State = λ n. well_formed (told_at edges n) e in
    adds e ∙ ap (λ s. state_join s (f (get_or numbers i 0))) (so_far e) ∙ sym (joined-push f (take i numbers) (get_or numbers i 0))
    ∙ ap (joined f) (sym (take_more numbers i 0 within))

-- a number under a name is among all
pub held_by_name : (names : Lists) (name : Name) (n : ℕ) → holds_number n (numbers_of names name) ≡ true → holds_number n (all_numbers names) ≡ true
held_by_name [] name n held = absurd cc
held_by_name (x ∷ xs) name n held = list_any-append (λ m. m == n) (all_numbers xs) x.1 ∙ by_test (is_at (name_cmp name) x.0) held (held_by_name xs name n) where
  by_test : (b : Bool) → holds_number n (unwrap_or (cond b (Some x.1) (lookup (is_at (name_cmp name)) xs)) []) ≡ true
      → (holds_number n (numbers_of xs name) ≡ true → holds_number n (all_numbers xs) ≡ true) → (holds_number n (all_numbers xs) || holds_number n x.1) ≡ true
  by_test true here _ = or_right (holds_number n (all_numbers xs)) (holds_number n x.1) here
  by_test false later rest = or_left (holds_number n (all_numbers xs)) (holds_number n x.1) (rest later)

module _ (edges : Numbered) (once : IsDistinct is_same_edge (edges_of edges.entries)) (names : Lists) (has : HasEdgeNames edges names) where
  -- what a number says of an edge is nothing or its state
  told_or_none : (e : Edge) (n : ℕ) → (told_at edges n e ≡ Absent) ⊎ (told_at edges n e ≡ state_in edges.entries e)
  told_or_none e n = by_tests (nat_lt n (length edges.entries)) (is_same_edge (edge_at edges n) e) refl refl where
    by_tests : (b c : Bool) → nat_lt n (length edges.entries) ≡ b → is_same_edge (edge_at edges n) e ≡ c
        → (cond (b && c) (state_at edges n) Absent ≡ Absent) ⊎ (cond (b && c) (state_at edges n) Absent ≡ state_in edges.entries e)
    by_tests false c beyond same = inl refl
    by_tests true false within other = inl refl
    by_tests true true within same =
        inr (sym (state_there edges once n (ltb-true n (length edges.entries) within)) ∙ ap (state_in edges.entries) (one_edge (edge_at edges n) e same))

  told_there : (e : Edge) (n : ℕ) → IsNumberOfEdge edges e n → told_at edges n e ≡ state_in edges.entries e
  told_there e n is =
      ap (λ b. cond (b && is_same_edge (edge_at edges n) e) (state_at edges n) Absent) (lt-ltb n (length edges.entries) is.0)
      ∙ ap (λ (f : Edge). cond (is_same_edge f e) (state_at edges n) Absent) is.1 ∙ ap (λ b. cond b (state_at edges n) Absent) (same_edge_laws.refl e)
      ∙ sym (state_there edges once n is.0) ∙ ap (state_in edges.entries) is.1

  joined_told : (e : Edge) → joined (λ n. told_at edges n e) (all_numbers names) ≡ state_in edges.entries e
  joined_told e = by_state (state_in edges.entries e) refl where
    f : ℕ → State
    f n = told_at edges n e

    found : state_in edges.entries e ≢ Absent → joined f (all_numbers names) ≡ state_in edges.entries e
    found some =
        let number = number_of_present edges once e some in
        let n = number.0 in
        let under : holds_number n (numbers_of names (edge_at edges n).name) ≡ true = has n number.1.0 in
        joined_held f (state_in edges.entries e) (told_or_none e) (all_numbers names) n (held_by_name names (edge_at edges n).name n under) (told_there e n number.1)

    by_state : (s : State) → state_in edges.entries e ≡ s → joined f (all_numbers names) ≡ state_in edges.entries e
    by_state Absent is = by_cases (joined_or_none f (state_in edges.entries e) (told_or_none e) (all_numbers names)) where
      by_cases : (joined f (all_numbers names) ≡ Absent) ⊎ (joined f (all_numbers names) ≡ state_in edges.entries e) → joined f (all_numbers names) ≡ state_in edges.entries e
      by_cases (inl none) = none ∙ sym is
      by_cases (inr all) = all
    by_state Live is = found (λ none. live_is_absent (sym is ∙ none)) where
      live_is_absent : Live ≡ Absent → ⊥
      live_is_absent h = absurd cc
    by_state Deleted is = found (λ none. deleted_is_absent (sym is ∙ none)) where
      deleted_is_absent : Deleted ≡ Absent → ⊥
      deleted_is_absent h = absurd cc

  pub all_made : (numbers : List ℕ) (i : ℕ) (edits : List Edit) → numbers ≡ all_numbers names → length numbers ≤ i → MakesSoFar edges (take i numbers) edits
      → IsSame (graph edits) (well_formed (state_in edges.entries))
  all_made numbers i edits are whole so_far e =
      so_far e ∙ ap (joined (λ n. well_formed (told_at edges n) e)) (take_all i numbers whole ∙ are) ∙ by_form (is_none (edge_fault e))
    where
      none_joined : (ns : List ℕ) → joined (λ n. Absent) ns ≡ Absent
      none_joined [] = refl
      none_joined (n ∷ ns) = Absent-state_join (joined (λ n. Absent) ns) ∙ none_joined ns

      by_form : (w : Bool) → joined (λ n. cond w (told_at edges n e) Absent) (all_numbers names) ≡ cond w (state_in edges.entries e) Absent
      by_form true = joined_told e
      by_form false = none_joined (all_numbers names)

pub canonical_of : (g h : Graph) (list : List Edit) → IsSame g h → IsCanonical g list → IsCanonical h list
canonical_of g h list same is = record { in_order = is.in_order; same = λ e. is.same e ∙ same e }
