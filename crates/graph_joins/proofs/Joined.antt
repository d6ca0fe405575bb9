-- The edges of one graph joined to another, one after the other.
use Rattle.std.proofs.Common.{◌≡◌, ℕ, zero, suc, ◌+◌, ◌<◌, ◌≤◌, Bool, true, false, cond, List, [], ◌∷◌, ◌++◌, Option, Some, None, length, get_or, is_some, unwrap_or, refl, sym, ap, subst, ◌∙◌, inl, inr, ◌⊎◌, arith}
use Rattle.std.proofs.Math.Nat.{eq-or-lt_of_le}
use Rattle.edge_lattice.specs.declared.state.State.{State}
use Rattle.edge_lattice.specs.declared.state.State.TheVariants.{Absent}
use Rattle.edge_lattice.specs.State.{state_join}
use Rattle.edge_lattice.proofs.States.{state_join_assoc, state_join_comm, state_join_idem, Absent-state_join}
use Rattle.grove_edits.specs.declared.edge.Edge.{Edge}
use Rattle.grove_edits.specs.Graph.{Graph, is_same_edge, IsSame, graph_join}
use Rattle.grove_edits.proofs.Orders.{one_edge, same_edge_laws}
use Rattle.graph_words.specs.States.{Entries, entry_at, state_in, HasRoom, with_state}
use Rattle.live_graph.specs.NumberOf.{IsNumberOf, KeepsNumbersOf}
use Rattle.graph_joins.specs.Merged.{IsMerged, AreNumbersOf}

-- ---- edges and their numbers

-- an edge with room has a number
pub numbered : (es : Entries) (e : Edge) → HasRoom es e → (n : ℕ) × IsNumberOf es e n
numbered [] e room = absurd cc
numbered (x ∷ es) e room = by_test (is_same_edge e x.0) refl (numbered es e) where
  by_test : (b : Bool) → is_same_edge e x.0 ≡ b → (HasRoom es e → (n : ℕ) × IsNumberOf es e n) → (n : ℕ) × IsNumberOf (x ∷ es) e n
  by_test true same rest = (0, (omega arith, sym (one_edge e x.0 same)))
  by_test false other rest =
      let later : HasRoom es e = ap (λ b. is_some (cond b (Some x.1) (entry_at es e))) (sym other) ∙ room in
      let found = rest later in
      (suc found.0, (omega (arith, found.1.0), found.1.1))

-- an edge with a number has room
pub roomy : (es : Entries) (e : Edge) (n : ℕ) → IsNumberOf es e n → HasRoom es e
roomy [] e n is = absurd (omega (arith, is.0))
roomy (x ∷ es) e zero is = ap (λ b. is_some (cond b (Some x.1) (entry_at es e))) (subst (λ (f : Edge). is_same_edge e f ≡ true) (sym is.1) (same_edge_laws.refl e))
roomy (x ∷ es) e (suc n) is = by_test (is_same_edge e x.0) (roomy es e n (omega (arith, is.0), is.1)) where
  by_test : (b : Bool) → HasRoom es e → is_some (cond b (Some x.1) (entry_at es e)) ≡ true
  by_test true later = refl
  by_test false later = later

pub one_number : (es : Entries) (e f : Edge) (n : ℕ) → IsNumberOf es e n → IsNumberOf es f n → e ≡ f
one_number es e f n first second = sym first.1 ∙ second.1

pub edge_there : (es : Entries) (n : ℕ) → n < length es → (e : Edge) × IsNumberOf es e n
edge_there [] n within = absurd (omega (arith, within))
edge_there (x ∷ es) zero within = (x.0, (within, refl))
edge_there (x ∷ es) (suc n) within = let later = edge_there es n (omega (arith, within)) in (later.0, (within, later.1.1))

pub kept_twice : (before between after : Entries) → KeepsNumbersOf before between → KeepsNumbersOf between after → KeepsNumbersOf before after
kept_twice before between after first second e n is = second e n (first e n is)

-- ---- the numbers that are found

-- the numbers of the edges so far
pub record AreNumbersBelow (entries others : Entries) (numbers : List ℕ) (count : ℕ) : Type 0 where
  pub count_is : length numbers ≡ count
  pub each : (e : Edge) (n : ℕ) → n < count → IsNumberOf entries e n → IsNumberOf others e (get_or numbers n 0)

at_end : (numbers : List ℕ) (number : ℕ) → get_or (numbers ++ number ∷ []) (length numbers) 0 ≡ number
at_end [] number = refl
at_end (n ∷ ns) number = at_end ns number

before_end : (numbers : List ℕ) (number n : ℕ) → n < length numbers → get_or (numbers ++ number ∷ []) n 0 ≡ get_or numbers n 0
before_end [] number n lt = absurd (omega (arith, lt))
before_end (m ∷ ns) number zero lt = refl
before_end (m ∷ ns) number (suc n) lt = before_end ns number n (omega (arith, lt))

pub one_more_number : (entries others roomy : Entries) (numbers more : List ℕ) (count number : ℕ) (edge : Edge) → AreNumbersBelow entries others numbers count → IsNumberOf entries edge count
    → IsNumberOf roomy edge number → KeepsNumbersOf others roomy → more ≡ numbers ++ number ∷ [] → AreNumbersBelow entries roomy more (count + 1)
one_more_number entries others roomy numbers more count number edge so_far of_edge is keeps pushed = subst (λ (ns : List ℕ). AreNumbersBelow entries roomy ns (count + 1)) (sym pushed) (record {
  count_is = omega (arith, length_more numbers number, so_far.count_is);
  each = λ e n lt of_e. by_place e n (place n lt) of_e;
}) where
  length_more : (ns : List ℕ) (m : ℕ) → length (ns ++ m ∷ []) ≡ length ns + 1
  length_more [] m = refl
  length_more (k ∷ ns) m = omega (arith, length_more ns m)

  place : (n : ℕ) → n < count + 1 → (n ≡ count) ⊎ (n < count)
  place n lt = eq-or-lt_of_le (omega (arith, lt))

  by_place : (e : Edge) (n : ℕ) → (n ≡ count) ⊎ (n < count) → IsNumberOf entries e n → IsNumberOf roomy e (get_or (numbers ++ number ∷ []) n 0)
  by_place e n (inr lt) of_e = subst (IsNumberOf roomy e) (sym (before_end numbers number n (omega (arith, so_far.count_is)))) (keeps e (get_or numbers n 0) (so_far.each e n lt of_e))
  by_place e n (inl at) of_e =
      let same : edge ≡ e = one_number entries edge e n (subst (IsNumberOf entries edge) (sym at) of_edge) of_e in
      let last : number ≡ get_or (numbers ++ number ∷ []) n 0 = sym (ap (λ k. get_or (numbers ++ number ∷ []) k 0) (at ∙ sym so_far.count_is) ∙ at_end numbers number) in
      subst (IsNumberOf roomy e) last (subst (λ (f : Edge). IsNumberOf roomy f number) same is)

pub all_numbers : (entries others : Entries) (numbers : List ℕ) (count : ℕ) → length entries ≤ count → AreNumbersBelow entries others numbers count → AreNumbersOf entries others numbers
all_numbers entries others numbers count all so_far e n is = so_far.each e n (omega (arith, is.0)) is

-- ---- the states that are joined

join_nothing : (s : State) → state_join s Absent ≡ s
join_nothing s = state_join_comm s Absent ∙ Absent-state_join s

-- joining nothing to the state of an edge leaves the graph
pub nothing_joined : (g : Graph) (edge : Edge) → IsSame g (with_state edge (state_join (g edge) Absent) g)
nothing_joined g edge e = by_test (is_same_edge edge e) refl where
  by_test : (b : Bool) → is_same_edge edge e ≡ b → g e ≡ cond b (state_join (g edge) Absent) (g e)
  by_test true same = ap g (sym (one_edge edge e same)) ∙ sym (join_nothing (g edge))
  by_test false other = refl

-- a state that is joined a second time changes nothing
joined_once : (s t u : State) → (s ≡ t) ⊎ (s ≡ state_join t u) → state_join s u ≡ state_join t u
joined_once s t u (inl is) = ap (λ x. state_join x u) is
joined_once s t u (inr is) = ap (λ x. state_join x u) is ∙ state_join_assoc t u u ∙ ap (state_join t) (state_join_idem u)

-- each state is as before or joined, and those of the edges so far are joined
pub record AreJoinedBelow (before other now : Entries) (count : ℕ) : Type 0 where
  pub each : (e : Edge) → (state_in now e ≡ state_in before e) ⊎ (state_in now e ≡ state_join (state_in before e) (state_in other e))
  pub below : (e : Edge) (n : ℕ) → n < count → IsNumberOf other e n → state_in now e ≡ state_join (state_in before e) (state_in other e)

pub none_joined : (before other : Entries) → AreJoinedBelow before other before 0
none_joined before other = record { each = λ e. inl refl; below = λ e n lt is. absurd (omega (arith, lt)) }

pub one_more_joined : (before other now after : Entries) (count : ℕ) (edge : Edge) (asked : State) → AreJoinedBelow before other now count → IsNumberOf other edge count → asked ≡ state_in other edge
    → IsSame (state_in after) (with_state edge (state_join (state_in now edge) asked) (state_in now)) → AreJoinedBelow before other after (count + 1)
one_more_joined before other now after count edge asked so_far is asks set = record {
  each = λ e. each_by e (is_same_edge edge e) refl;
  below = λ e n lt of_e. below_by e n lt of_e (is_same_edge edge e) refl;
} where
  joined_here : (e : Edge) → is_same_edge edge e ≡ true → state_in after e ≡ state_join (state_in before e) (state_in other e)
  joined_here e same =
      set e
      ∙ ap (λ b. cond b (state_join (state_in now edge) asked) (state_in now e)) same
      ∙ ap (state_join (state_in now edge)) asks
      ∙ ap (λ (f : Edge). state_join (state_in now f) (state_in other f)) (one_edge edge e same)
      ∙ joined_once (state_in now e) (state_in before e) (state_in other e) (so_far.each e)

  kept : (e : Edge) → is_same_edge edge e ≡ false → state_in after e ≡ state_in now e
  kept e differs = set e ∙ ap (λ b. cond b (state_join (state_in now edge) asked) (state_in now e)) differs

  along : (s t u v : State) → s ≡ t → (t ≡ u) ⊎ (t ≡ v) → (s ≡ u) ⊎ (s ≡ v)
  along s t u v is (inl first) = inl (is ∙ first)
  along s t u v is (inr second) = inr (is ∙ second)

  each_by : (e : Edge) (b : Bool) → is_same_edge edge e ≡ b → (state_in after e ≡ state_in before e) ⊎ (state_in after e ≡ state_join (state_in before e) (state_in other e))
  each_by e true same = inr (joined_here e same)
  each_by e false differs = along (state_in after e) (state_in now e) (state_in before e) (state_join (state_in before e) (state_in other e)) (kept e differs) (so_far.each e)

  place : (n : ℕ) → n < count + 1 → (n ≡ count) ⊎ (n < count)
  place n lt = eq-or-lt_of_le (omega (arith, lt))

  earlier : (e : Edge) (n : ℕ) → IsNumberOf other e n → is_same_edge edge e ≡ false → (n ≡ count) ⊎ (n < count) → n < count
  earlier e n of_e differs (inr lt) = lt
  earlier e n of_e differs (inl at) =
      let one : edge ≡ e = one_number other edge e n (subst (IsNumberOf other edge) (sym at) is) of_e in
      let same : is_same_edge edge e ≡ true = subst (λ (f : Edge). is_same_edge edge f ≡ true) one (same_edge_laws.refl edge) in
      absurd cc

  below_by : (e : Edge) (n : ℕ) → n < count + 1 → IsNumberOf other e n → (b : Bool) → is_same_edge edge e ≡ b → state_in after e ≡ state_join (state_in before e) (state_in other e)
  below_by e n lt of_e true same = joined_here e same
  below_by e n lt of_e false differs = kept e differs ∙ so_far.below e n (earlier e n of_e differs (place n lt)) of_e

pub all_joined : (before other now : Entries) (count : ℕ) → length other ≤ count → AreJoinedBelow before other now count → IsMerged before other now
all_joined before other now count all so_far e = by_entry (entry_at other e) refl where
  unjoined : state_in other e ≡ Absent → (state_in now e ≡ state_in before e) ⊎ (state_in now e ≡ state_join (state_in before e) (state_in other e)) → state_in now e ≡ state_join (state_in before e) (state_in other e)
  unjoined absent (inl same) = same ∙ sym (join_nothing (state_in before e)) ∙ sym (ap (state_join (state_in before e)) absent)
  unjoined absent (inr joined) = joined

  by_entry : (o : Option State) → entry_at other e ≡ o → state_in now e ≡ state_join (state_in before e) (state_in other e)
  by_entry None none = unjoined (ap (λ o. unwrap_or o Absent) none) (so_far.each e)
  by_entry (Some s) some = let found = numbered other e (ap is_some some) in so_far.below e found.0 (omega (arith, found.1.0)) found.1

pub all_roomy : (entries others : Entries) (numbers : List ℕ) → AreNumbersOf entries others numbers → (e : Edge) → HasRoom entries e → HasRoom others e
all_roomy entries others numbers are e had = let found = numbered entries e had in roomy others e (get_or numbers found.0 0) (are e found.0 found.1)

pub numbers_kept : (entries others later : Entries) (numbers : List ℕ) → KeepsNumbersOf others later → AreNumbersOf entries others numbers → AreNumbersOf entries later numbers
numbers_kept entries others later numbers keeps are e n is = keeps e (get_or numbers n 0) (are e n is)
