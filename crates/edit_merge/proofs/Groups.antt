-- Sorted lines, taken by groups that share a name: the canonical lists of the groups, one after the other, are that of all.
use Rattle.std.proofs.Common.{◌≡◌, ℕ, zero, suc, ◌+◌, ◌≤◌, Bool, true, false, cond, List, [], ◌∷◌, ◌++◌, length, drop, take, get_or, append_assoc, append-nil, refl, sym, ap, subst, ◌∙◌, arith}
use Rattle.std.specs.List.{AllByRecursion}
use Rattle.std.specs.List.Sorted.{IsSorted}
use Rattle.std.specs.declared.cmp.Ordering.{Ordering}
use Rattle.std.specs.declared.cmp.Ordering.TheVariants.{Less, Equal, Greater}
use Rattle.std.specs.Ordering.{is_eq, is_gt, is_lt, ordering_reverse, ordering_then, nat_cmp}
use Rattle.std.proofs.lemmas.Grind.{flat_map-append}
use Rattle.std.proofs.lemmas.List.{take-append-drop}
use Rattle.std.proofs.lemmas.Cmp.{alike_right, tied_itself}
use Rattle.grove_names.specs.declared.name.Name.{Name}
use Rattle.grove_names.specs.Name.{name_cmp}
use Rattle.grove_names.proofs.Orders.{name_cmp_total, name_cmp_exact}
use Rattle.grove_sorts.proofs.Orders.{equal_from_test}
use Rattle.grove_sorts.specs.declared.version.Version.{Version}
use Rattle.grove_edits.specs.declared.edge.Edge.{Edge}
use Rattle.grove_edits.specs.declared.edit.Edit.{Edit}
use Rattle.grove_edits.specs.Edge.{edge_cmp}
use Rattle.grove_edits.specs.Edit.{edit_edge}
use Rattle.edit_text.specs.Text.{line_of, text_of}
use Rattle.edit_merge.specs.declared.named_line.NamedLine.{NamedLine}
use Rattle.edit_merge.specs.contracts.named_line.NamedLineOrd.TheImpl as line_impl
use Rattle.edit_merge.specs.Named.{Stands, StandAll, DoStand, StandsForAll, IsWritten, has_name, group_length}
use Rattle.edit_merge.proofs.Canonical.{All-append, All-weaker, ComesBefore, all_of_canonical, IsCanonical-append}
use Rattle.edit_merge.proofs.Standing.{StandAll-append, DoStand-drop}

-- ---- sorted lines

-- the names of neighbours are in order, the first after a name
abbrev pub IsChainAfter : Name → List NamedLine → Type 0
IsChainAfter name [] = Unit {0}
IsChainAfter name (line ∷ lines) = (is_gt (name_cmp name line.name) ≡ false) × IsChainAfter line.name lines

abbrev pub IsChain : List NamedLine → Type 0
IsChain [] = Unit {0}
IsChain (line ∷ lines) = IsChainAfter line.name lines

pub not_after : (o p : Ordering) → is_lt (ordering_then o p) ≡ false → is_gt (ordering_reverse o) ≡ false
not_after Less p h = absurd cc
not_after Equal p h = refl
not_after Greater p h = refl

pub sorted_tail : {X : Type 0} (cmp : X → X → Ordering) (x : X) (xs : List X) → IsSorted cmp (x ∷ xs) → IsSorted cmp xs
sorted_tail cmp x xs up k d low high =
    let next : suc k + 1 ≡ suc (k + 1) = omega arith in
    subst (λ (n : ℕ). is_lt (cmp (get_or (x ∷ xs) n d) (get_or xs k d)) ≡ false) next (up (suc k) d (omega arith) (omega arith))

chain_after : (x : NamedLine) (xs : List NamedLine) → IsSorted line_impl.ghosts.cmp (x ∷ xs) → IsChainAfter x.name xs
chain_after x [] up = tt
chain_after x (y ∷ ys) up =
    let first : is_lt (ordering_then (name_cmp y.name x.name) (ordering_then (nat_cmp y.start x.start) (nat_cmp y.end x.end))) ≡ false = up zero x (omega arith) (omega arith) in
    let in_order : is_gt (name_cmp x.name y.name) ≡ false = ap is_gt (name_cmp_total.antisymm x.name y.name) ∙ not_after (name_cmp y.name x.name) _ first in
    (in_order, chain_after y ys (sorted_tail line_impl.ghosts.cmp x (y ∷ ys) up))

pub chain_from_sorted : (xs : List NamedLine) → IsSorted line_impl.ghosts.cmp xs → IsChain xs
chain_from_sorted [] up = tt
chain_from_sorted (x ∷ xs) up = chain_after x xs up

IsChain-after : (name : Name) (lines : List NamedLine) → IsChainAfter name lines → IsChain lines
IsChain-after name [] chain = tt
IsChain-after name (line ∷ lines) chain = chain.1

IsChain-drop : (n : ℕ) (lines : List NamedLine) → IsChain lines → IsChain (drop n lines)
IsChain-drop zero lines chain = chain
IsChain-drop (suc n) [] chain = tt
IsChain-drop (suc n) (line ∷ lines) chain = IsChain-drop n lines (IsChain-after line.name lines chain)

-- ---- a group

-- the name comes before those of all lines
abbrev pub IsBefore : Name → List NamedLine → Type 0
IsBefore name lines = AllByRecursion (λ (line : NamedLine). name_cmp name line.name ≡ Less) lines

less_from_tests : (o : Ordering) → is_gt o ≡ false → is_eq o ≡ false → o ≡ Less
less_from_tests Less g e = refl
less_from_tests Equal g e = absurd cc
less_from_tests Greater g e = absurd cc

eq_reversed : (o : Ordering) → is_eq (ordering_reverse o) ≡ is_eq o
eq_reversed Less = refl
eq_reversed Equal = refl
eq_reversed Greater = refl

less_then_up_to : (x y z : Name) → name_cmp x y ≡ Less → is_gt (name_cmp y z) ≡ false → name_cmp x z ≡ Less
less_then_up_to x y z lt le = by_order (name_cmp y z) refl le where
  by_order : (o : Ordering) → name_cmp y z ≡ o → is_gt o ≡ false → name_cmp x z ≡ Less
  by_order Less e le = name_cmp_total.trans x y z lt e
  by_order Equal e le = sym (alike_right name_cmp_total y z x e) ∙ lt
  by_order Greater e le = absurd cc

before_chain : (name next : Name) (lines : List NamedLine) → name_cmp name next ≡ Less → IsChainAfter next lines → IsBefore name lines
before_chain name next [] lt chain = tt
before_chain name next (line ∷ lines) lt chain =
    let first = less_then_up_to name next line.name lt chain.0 in
    (first, before_chain name line.name lines first chain.1)

one_name : (name : Name) (line : NamedLine) → has_name name line ≡ true → line.name ≡ name
one_name name line same = name_cmp_exact line.name name (equal_from_test (name_cmp line.name name) same)

-- the lines behind a group have later names
behind_group_by : (name : Name) (line : NamedLine) (lines : List NamedLine) (b : Bool) → has_name name line ≡ b → IsChainAfter name (line ∷ lines)
    → (IsChainAfter name lines → IsBefore name (drop (group_length name lines) lines)) → IsBefore name (drop (cond b (suc (group_length name lines)) 0) (line ∷ lines))
behind_group_by name line lines true same chain rest = rest (subst (λ n. IsChainAfter n lines) (one_name name line same) chain.1)
behind_group_by name line lines false other chain rest =
    let test : is_eq (name_cmp name line.name) ≡ false = ap is_eq (name_cmp_total.antisymm name line.name) ∙ eq_reversed (name_cmp line.name name) ∙ other in
    let first = less_from_tests (name_cmp name line.name) chain.0 test in
    (first, before_chain name line.name lines first chain.1)

behind_group : (name : Name) (lines : List NamedLine) → IsChainAfter name lines → IsBefore name (drop (group_length name lines) lines)
behind_group name [] chain = tt
behind_group name (line ∷ lines) chain = behind_group_by name line lines (has_name name line) refl chain (behind_group name lines)

-- those in the group have its name
abbrev AllNamed : Name → List NamedLine → Type 0
AllNamed name lines = AllByRecursion (λ (line : NamedLine). line.name ≡ name) lines

group_named_by : (name : Name) (line : NamedLine) (lines : List NamedLine) (b : Bool) → has_name name line ≡ b → AllNamed name (take (group_length name lines) lines)
    → AllNamed name (take (cond b (suc (group_length name lines)) 0) (line ∷ lines))
group_named_by name line lines true same rest = (one_name name line same, rest)
group_named_by name line lines false other rest = tt

group_named : (name : Name) (lines : List NamedLine) → AllNamed name (take (group_length name lines) lines)
group_named name [] = tt
group_named name (line ∷ lines) = group_named_by name line lines (has_name name line) refl (group_named name lines)

All-drop : {X : Type 0} (P : X → Type 0) (n : ℕ) (xs : List X) → AllByRecursion P xs → AllByRecursion P (drop n xs)
All-drop P zero xs all = all
All-drop P (suc n) [] all = tt
All-drop P (suc n) (x ∷ xs) all = All-drop P n xs all.1

-- a group has no more lines than there are
group_within_by : (name : Name) (line : NamedLine) (lines : List NamedLine) (b : Bool) → group_length name lines ≤ length lines → cond b (suc (group_length name lines)) 0 ≤ length (line ∷ lines)
group_within_by name line lines true rest = omega arith
group_within_by name line lines false rest = omega arith

pub group_within : (name : Name) (lines : List NamedLine) → group_length name lines ≤ length lines
group_within name [] = omega arith
group_within name (line ∷ lines) = group_within_by name line lines (has_name name line) (group_within name lines)

-- ---- the edits of a group

-- all edits have edges of the name
abbrev EdgesNamed : Name → List Edit → Type 0
EdgesNamed name edits = AllByRecursion (λ (edit : Edit). (edit_edge edit).name ≡ name) edits

edges_in_order : (x y : Edge) → name_cmp x.name y.name ≡ Less → edge_cmp x y ≡ Less
edges_in_order x y lt = rw lt refl

comes_before : (name : Name) (xs ys : List Edit) → AllByRecursion (λ x. name_cmp (edit_edge x).name name ≡ Less) xs → EdgesNamed name ys → ComesBefore xs ys
comes_before name xs ys before named =
    All-weaker (λ x. name_cmp (edit_edge x).name name ≡ Less) (λ x. AllByRecursion (λ y. edge_cmp (edit_edge x) (edit_edge y) ≡ Less) ys) xs
    (λ x lt. All-weaker (λ y. (edit_edge y).name ≡ name) (λ y. edge_cmp (edit_edge x) (edit_edge y) ≡ Less) ys
    (λ y is. edges_in_order (edit_edge x) (edit_edge y) (ap (name_cmp (edit_edge x).name) is ∙ lt)) named) before

pub text_of-append : (xs ys : List Edit) → text_of (xs ++ ys) ≡ text_of xs ++ text_of ys
text_of-append xs ys = flat_map-append line_of xs ys

module _ (version : Version) (text : List ℕ) where
  stand_named : (name : Name) (lines : List NamedLine) (edits : List Edit) → StandAll version text lines edits → AllNamed name lines → EdgesNamed name edits
  stand_named name [] [] stand named = tt
  stand_named name [] (edit ∷ edits) stand named = absurd stand
  stand_named name (line ∷ lines) [] stand named = absurd stand
  stand_named name (line ∷ lines) (edit ∷ edits) stand named = (sym stand.0.named ∙ named.0, stand_named name lines edits stand.1 named.1)

  -- a group is written by the line that stands for all its edits
  pub written_by_one : (group : List NamedLine) (line : NamedLine) (old new : List ℕ) → StandsForAll version text group line
      → ((edit : Edit) → Stands version text line edit → new ≡ old ++ line_of edit) → IsWritten version text group old new
  written_by_one group line old new all appended = record {
    edits = all.edits;
    stand = all.stand;
    canonical = all.edit ∷ [];
    is_canonical = all.is_canonical;
    appended = appended all.edit all.stands ∙ ap (λ (t : List ℕ). old ++ t) (sym (append-nil (line_of all.edit)));
  }

  -- ---- the loop

  -- the groups before the rest are written, and their names come before those of the rest
  pub record IsWrittenTo (lines rest : List NamedLine) (out : List ℕ) : Type 0 where
    pub done : List NamedLine
    pub parts : lines ≡ done ++ rest
    pub written : IsWritten version text done [] out
    pub chain : IsChain rest
    pub stand : DoStand version text rest
    pub before : AllByRecursion (λ edit. IsBefore (edit_edge edit).name rest) written.canonical

  pub written_to_first : (lines : List NamedLine) (out : List ℕ) → out ≡ [] → IsSorted line_impl.ghosts.cmp lines → DoStand version text lines → IsWrittenTo lines lines out
  written_to_first lines out empty sorted stand = record {
    done = [];
    parts = refl;
    written = record { edits = []; stand = tt; canonical = []; is_canonical = record { in_order = tt; same = λ e. refl }; appended = empty };
    chain = chain_from_sorted lines sorted;
    stand = stand;
    before = tt;
  }

  written_both : (done group : List NamedLine) (out new : List ℕ) (first : IsWritten version text done [] out) (second : IsWritten version text group out new)
      → ComesBefore first.canonical second.canonical → IsWritten version text (done ++ group) [] new
  written_both done group out new first second before = record {
    edits = first.edits ++ second.edits;
    stand = StandAll-append version text done group first.edits second.edits first.stand second.stand;
    canonical = first.canonical ++ second.canonical;
    is_canonical = IsCanonical-append first.edits second.edits first.canonical second.canonical first.is_canonical second.is_canonical before;
    appended = second.appended ∙ ap (λ (t : List ℕ). t ++ text_of second.canonical) first.appended ∙ sym (text_of-append first.canonical second.canonical);
  }

  -- one more group was written
  pub written_more : (lines : List NamedLine) (first : NamedLine) (others : List NamedLine) (out new : List ℕ) → IsWrittenTo lines (first ∷ others) out
      → IsWritten version text (take (group_length first.name (first ∷ others)) (first ∷ others)) out new → IsWrittenTo lines (drop (group_length first.name (first ∷ others)) (first ∷ others)) new
  unfolding written_both
  written_more lines first others out new so_far more =
      let rest = first ∷ others in
      let n = group_length first.name rest in
      let named : EdgesNamed first.name more.canonical =
      all_of_canonical (λ e. e.name ≡ first.name) more.edits more.canonical more.is_canonical (stand_named first.name (take n rest) more.edits more.stand (group_named first.name rest)) in
      let begun : AllByRecursion (λ x. name_cmp (edit_edge x).name first.name ≡ Less) so_far.written.canonical =
      All-weaker (λ x. IsBefore (edit_edge x).name rest) (λ x. name_cmp (edit_edge x).name first.name ≡ Less) so_far.written.canonical (λ x before. before.0) so_far.before in
      let later : IsBefore first.name (drop n rest) = behind_group first.name rest (ap is_gt (tied_itself name_cmp_total first.name), so_far.chain) in
      record {
        done = so_far.done ++ take n rest;
        parts = so_far.parts ∙ ap (λ (ls : List NamedLine). so_far.done ++ ls) (sym (take-append-drop n rest)) ∙ sym (append_assoc so_far.done (take n rest) (drop n rest));
        written = written_both so_far.done (take n rest) out new so_far.written more (comes_before first.name so_far.written.canonical more.canonical begun named);
        chain = IsChain-drop n rest so_far.chain;
        stand = DoStand-drop version text n rest so_far.stand;
        before = All-append (λ edit. IsBefore (edit_edge edit).name (drop n rest)) so_far.written.canonical more.canonical
            (All-weaker (λ x. IsBefore (edit_edge x).name rest) (λ x. IsBefore (edit_edge x).name (drop n rest)) so_far.written.canonical
            (λ x before. All-drop (λ (line : NamedLine). name_cmp (edit_edge x).name line.name ≡ Less) n rest before) so_far.before)
            (All-weaker (λ y. (edit_edge y).name ≡ first.name) (λ y. IsBefore (edit_edge y).name (drop n rest)) more.canonical (λ y is. subst (λ m. IsBefore m (drop n rest)) (sym is) later) named);
      }

  pub written_next : (lines rest : List NamedLine) (default : NamedLine) (n : ℕ) (group later : List NamedLine) (out new : List ℕ) → 1 ≤ length rest
      → n ≡ group_length (get_or rest 0 default).name rest → group ≡ take n rest → later ≡ drop n rest → IsWrittenTo lines rest out → IsWritten version text group out new → IsWrittenTo lines later new
  written_next lines [] default n group later out new some count front back so_far more = absurd (omega arith)
  written_next lines (first ∷ others) default n group later out new some count front back so_far more =
      let rest = first ∷ others in
      let written = subst (λ ls. IsWritten version text ls out new) (front ∙ ap (λ k. take k rest) count) more in
      subst (λ ls. IsWrittenTo lines ls new) (sym (back ∙ ap (λ k. drop k rest) count)) (written_more lines first others out new so_far written)
