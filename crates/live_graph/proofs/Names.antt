-- The edges with a name by the numbers that stand under it.
use Rattle.std.proofs.Common.{◌≡◌, ℕ, ◌+◌, Bool, true, false, cond, List, [], ◌∷◌, ◌++◌, Some, Result, Ok, Err, OnOk, OnErr, length, get_or, refl, sym, ap, subst, ◌∙◌, arith}
use Rattle.std.specs.Prelude.{◌≢◌, ◌&&◌, ◌||◌, ◌==◌, nat_lt, None, Option, is_some, unwrap_or}
use Rattle.std.specs.List.{IsDistinct, list_any}
use Rattle.std.proofs.lemmas.Bool.{eqb-true, eqb-false, ltb-true, lt-ltb}
use Rattle.std.proofs.lemmas.Cmp.{tied_itself}
use Rattle.std.specs.Ordering.{is_eq}
use Rattle.std.proofs.lemmas.List.{length_push, get_or_append_left, get_or_push, length-map, map-append}
use Rattle.std.proofs.lemmas.List.Folds.{list_any-append}
use Rattle.edge_lattice.specs.declared.state.State.{State}
use Rattle.edge_lattice.specs.declared.state.State.TheVariants.{Absent}
use Rattle.grove_names.specs.declared.name.Name.{Name}
use Rattle.grove_names.specs.Name.{name_cmp}
use Rattle.grove_names.proofs.Orders.{name_cmp_total, name_cmp_exact}
use Rattle.grove_sorts.proofs.Orders.{equal_from_test}
use Rattle.grove_edits.specs.declared.edge.Edge.{Edge}
use Rattle.grove_edits.specs.Graph.{is_same_edge}
use Rattle.grove_edits.proofs.Orders.{one_edge, same_edge_laws}
use Rattle.graph_words.specs.Live.{IsInEdgeOrder, holds_edge}
use Rattle.edge_numbers.specs.Numbered.{Numbered, edges_of, edge_at, state_at, with_entry, no_edge, IsEdgeNumber, IsNumberOfEdge}
use Rattle.graph_words.specs.States.{entry_at, state_in, is_present}
use Rattle.edge_numbers.proofs.States.{state_numbered}
use Rattle.edge_lists.specs.Lists.{holds_number}
use Rattle.numbers_by_name.specs.ByName.{Lists, numbers_of, is_same_name}
use Rattle.graph_words.specs.Named.{AreNamed}
use Rattle.live_graph.specs.ByName.{is_named, is_named_edge, KeepsNames, HasEdgeNames}
use Rattle.live_graph.proofs.Ends.{and_left, and_right}
use Rattle.graph_words.proofs.Truths.{test_from_present, present_from_test}
use Rattle.grove_sorts.proofs.Truths.{or_false}
use Rattle.live_graph.proofs.Numbers.{one_number, within_edges, number_of_room}

-- ---- what is found

pub pushed_named : (edges : Numbered) (name : Name) (n : ℕ) (found more : List Edge) (x : Edge) → is_named edges name n ≡ true → x ≡ edge_at edges n → more ≡ found ++ x ∷ []
    → (e : Edge) → holds_edge e more ≡ (holds_edge e found || is_named_edge edges name e n)
pushed_named edges name n found more x named at is e =
    ap (holds_edge e) is ∙ list_any-append (λ y. is_same_edge y e) found (x ∷ []) ∙ ap (λ b. holds_edge e found || b) (or_false (is_same_edge x e))
    ∙ ap (λ y. holds_edge e found || is_same_edge y e) at ∙ ap (λ b. holds_edge e found || (b && is_same_edge (edge_at edges n) e)) (sym named)

pub passed_named : (edges : Numbered) (name : Name) (n : ℕ) (found : List Edge) → is_named edges name n ≡ false → (e : Edge) → holds_edge e found ≡ (holds_edge e found || is_named_edge edges name e n)
passed_named edges name n found not_named e = sym (or_false (holds_edge e found)) ∙ ap (λ b. holds_edge e found || (b && is_same_edge (edge_at edges n) e)) (sym not_named)

-- ---- the edges with a name

pub any_held : (p : ℕ → Bool) (ns : List ℕ) (n : ℕ) → holds_number n ns ≡ true → p n ≡ true → list_any p ns ≡ true
any_held p [] n held is = absurd cc
any_held p (m ∷ ms) n held is = by_test (m == n) refl held (λ later. any_held p ms n later is) where
  or_right : (b : Bool) {c : Bool} → c ≡ true → (b || c) ≡ true
  or_right true h = refl
  or_right false h = h

  by_test : (b : Bool) → (m == n) ≡ b → (b || holds_number n ms) ≡ true → (holds_number n ms ≡ true → list_any p ms ≡ true) → (p m || list_any p ms) ≡ true
  by_test true same _ _ = ap (λ b. b || list_any p ms) (ap p (eqb-true m n same) ∙ is)
  by_test false _ later rest = or_right (p m) (rest later)

pub any_found : (p : ℕ → Bool) (ns : List ℕ) → list_any p ns ≡ true → (n : ℕ) × (p n ≡ true)
any_found p [] held = absurd cc
any_found p (m ∷ ms) held = by_test (p m) refl held (any_found p ms) where
  by_test : (b : Bool) → p m ≡ b → (b || list_any p ms) ≡ true → (list_any p ms ≡ true → (n : ℕ) × (p n ≡ true)) → (n : ℕ) × (p n ≡ true)
  by_test true here _ _ = (m, here)
  by_test false _ later rest = rest later

pub same_name : (a b : Name) → a ≡ b → is_same_name a b ≡ true
same_name a b is = ap (is_same_name a) (sym is) ∙ ap is_eq (tied_itself name_cmp_total a)

pub one_name : (a b : Name) → is_same_name a b ≡ true → a ≡ b
one_name a b same = name_cmp_exact a b (equal_from_test (name_cmp a b) same)

module _ (edges : Numbered) (once : IsDistinct is_same_edge (edges_of edges.entries)) where
  -- the state of the edge with a number
  pub state_there : (n : ℕ) → IsEdgeNumber edges n → state_in edges.entries (edge_at edges n) ≡ state_at edges n
  state_there n number =
      state_numbered edges (edge_at edges n) n (λ i is. ap Some (one_number (edges_of edges.entries) n i once (within_edges edges n number) (within_edges edges i is.0) (sym is.1))) (number, refl)

  -- an edge that is not Absent has a number
  pub number_of_present : (e : Edge) → state_in edges.entries e ≢ Absent → (n : ℕ) × IsNumberOfEdge edges e n
  number_of_present e some = let found = number_of_room edges.entries e (has_room (entry_at edges.entries e) some) in (found.0, (found.1, found.2)) where
    has_room : (o : Option State) → unwrap_or o Absent ≢ Absent → is_some o ≡ true
    has_room None some = absurd (some refl)
    has_room (Some s) some = refl

  -- a number tells an edge with the name
  pub told_edge : (name : Name) (n : ℕ) → is_named edges name n ≡ true → ((edge_at edges n).name ≡ name) × (state_in edges.entries (edge_at edges n) ≢ Absent)
  told_edge name n is =
      let within : IsEdgeNumber edges n = ltb-true n (length edges.entries) (and_left (nat_lt n (length edges.entries)) (is_same_name (edge_at edges n).name name && is_present (state_at edges n)) is) in
      let both = and_right (nat_lt n (length edges.entries)) (is_same_name (edge_at edges n).name name && is_present (state_at edges n)) is in
      let some = present_from_test (state_at edges n) (and_right (is_same_name (edge_at edges n).name name) (is_present (state_at edges n)) both) in
      (one_name (edge_at edges n).name name (and_left (is_same_name (edge_at edges n).name name) (is_present (state_at edges n)) both), subst (λ s. s ≢ Absent) (sym (state_there n within)) some)

  module _ (names : Lists) (has : HasEdgeNames edges names) (name : Name) where
    -- an edge with the name has a number under it
    pub edge_told : (e : Edge) → e.name ≡ name → state_in edges.entries e ≢ Absent → (n : ℕ) × (edge_at edges n ≡ e) × (holds_number n (numbers_of names name) ≡ true) × (is_named edges name n ≡ true)
    edge_told e named some =
        let number = number_of_present e some in
        let n = number.0 in
        let at : edge_at edges n ≡ e = number.1.1 in
        let name_is : (edge_at edges n).name ≡ name = ap (λ (f : Edge). f.name) at ∙ named in
        let present_there : is_present (state_at edges n) ≡ true = ap is_present (sym (state_there n number.1.0) ∙ ap (state_in edges.entries) at) ∙ test_from_present (state_in edges.entries e) some in (
          n,
          at,
          ap (λ m. holds_number n (numbers_of names m)) (sym name_is) ∙ has n number.1.0,
          λ j. lt-ltb n (length edges.entries) number.1.0 j && (same_name (edge_at edges n).name name name_is j && present_there j),
        )

    pub named_edges : (found list : List Edge) → ((e : Edge) → holds_edge e found ≡ list_any (is_named_edge edges name e) (numbers_of names name))
        → IsInEdgeOrder list → ((e : Edge) → holds_edge e list ≡ holds_edge e found) → AreNamed (state_in edges.entries) name list
    named_edges found list finds ordered same = record {
      in_order = ordered;
      each = λ e named some. same e ∙ finds e ∙ each e named some;
      no_other = λ e held. no_other e (any_found (is_named_edge edges name e) (numbers_of names name) (sym (same e ∙ finds e) ∙ held));
    }
      where
        each : (e : Edge) → e.name ≡ name → state_in edges.entries e ≢ Absent → list_any (is_named_edge edges name e) (numbers_of names name) ≡ true
        each e named some =
            let number = edge_told e named some in
            any_held (is_named_edge edges name e) (numbers_of names name) number.0 number.2
            (λ j. number.3 j && (ap (λ f. is_same_edge f e) number.1 ∙ same_edge_laws.refl e) j)

        no_other : (e : Edge) → (n : ℕ) × (is_named_edge edges name e n ≡ true) → (e.name ≡ name) × (state_in edges.entries e ≢ Absent)
        no_other e hit =
            let same : edge_at edges hit.0 ≡ e = one_edge (edge_at edges hit.0) e (and_right (is_named edges name hit.0) (is_same_edge (edge_at edges hit.0) e) hit.1) in
            subst (λ (f : Edge). (f.name ≡ name) × (state_in edges.entries f ≢ Absent)) same
            (told_edge name hit.0 (and_left (is_named edges name hit.0) (is_same_edge (edge_at edges hit.0) e) hit.1))

-- ---- names are kept

-- the same edges, and at least the same names
pub names_kept : (edges after : Numbered) (names more : Lists) → edges_of after.entries ≡ edges_of edges.entries → KeepsNames names more → HasEdgeNames edges names → HasEdgeNames after more
names_kept edges after names more same keeps has n number =
    let count : length (edges_of after.entries) ≡ length (edges_of edges.entries) = ap length same in
    let before : IsEdgeNumber edges n = omega (arith, number, count, length-map after.entries (λ entry. entry.0), length-map edges.entries (λ entry. entry.0)) in
    let at : edge_at after n ≡ edge_at edges n = ap (λ es. get_or es n no_edge) same in
    ap (λ (e : Edge). holds_number n (numbers_of more e.name)) at ∙ keeps (edge_at edges n).name n (has n before)

pub names_entered : (edges after : Numbered) (names more : Lists) (e : Edge) → after.entries ≡ with_entry e edges.entries → KeepsNames names more
    → holds_number (length edges.entries) (numbers_of more e.name) ≡ true → HasEdgeNames edges names → HasEdgeNames after more
names_entered edges after names more e entered keeps added has = by_test (list_any (is_same_edge e) (edges_of edges.entries)) entered where
  by_test : (b : Bool) → after.entries ≡ cond b edges.entries (edges.entries ++ (e, Absent) ∷ []) → HasEdgeNames after more
  by_test true same = names_kept edges after names more (ap edges_of same) keeps has
  by_test false pushed = place where
    all : edges_of after.entries ≡ edges_of edges.entries ++ e ∷ []
    all = ap edges_of pushed ∙ map-append (λ (entry : Edge × State). entry.0) edges.entries ((e, Absent) ∷ [])

    by_place : (n : ℕ) → IsEdgeNumber after n → (b : Bool) → (n == length edges.entries) ≡ b → holds_number n (numbers_of more (edge_at after n).name) ≡ true
    by_place n number true is =
        let last = eqb-true n (length edges.entries) is in
        let at : edge_at after n ≡ e = ap (λ es. get_or es n no_edge) all ∙ get_or_push (edges_of edges.entries) e no_edge n (length-map edges.entries (λ entry. entry.0) ∙ sym last) in
        (λ j. holds_number (last j) (numbers_of more (at j).name)) ∙ added
    by_place n number false is =
        let other = eqb-false n (length edges.entries) is in
        let count : length after.entries ≡ length edges.entries + 1 = ap length pushed ∙ length_push edges.entries (e, Absent) in
        let before : IsEdgeNumber edges n = omega (arith, number, count, other) in
        let at : edge_at after n ≡ edge_at edges n = ap (λ es. get_or es n no_edge) all ∙ get_or_append_left (edges_of edges.entries) (e ∷ []) no_edge n (within_edges edges n before) in
        ap (λ (x : Edge). holds_number n (numbers_of more x.name)) at ∙ keeps (edge_at edges n).name n (has n before)

    place : HasEdgeNames after more
    place n number = by_place n number (n == length edges.entries) refl

-- whether the edge was entered or not
pub names_after : {T E : Type 0} (r : Result T E) (edges after : Numbered) (names more : Lists) (e : Edge) → OnOk r (after.entries ≡ with_entry e edges.entries) → OnErr r (after.entries ≡ edges.entries)
    → KeepsNames names more → holds_number (length edges.entries) (numbers_of more e.name) ≡ true → HasEdgeNames edges names → HasEdgeNames after more
names_after (Ok x) edges after names more e entered same keeps added has = names_entered edges after names more e entered keeps added has
names_after (Err error) edges after names more e entered same keeps added has = names_kept edges after names more (ap edges_of same) keeps has
