-- A vertex as its rule sees it is the expression that it stands for.
use Rattle.std.proofs.Common.{◌≡◌, ℕ, zero, suc, ◌+◌, ◌<◌, ◌≤◌, Bool, true, false, cond, List, [], ◌∷◌, length, map, take, Option, Some, None, IsSome, IfSome, refl, sym, ap, subst, ◌∙◌, arith, length-take}
use Rattle.std.specs.Prelude.{slice_get}
use Rattle.std.specs.Option.{option_map}
use Rattle.std.specs.List.{slice_index_or}
use Rattle.grove_sorts.specs.declared.position.Position.{Position}
use Rattle.grove_sorts.specs.declared.sort.Sort.{Sort}
use Rattle.grove_sorts.specs.declared.sort.Sort.TheVariants.{Exp}
use Rattle.grove_sorts.specs.Ctor.{positions}
use Rattle.grove_sorts.proofs.Rows.{row_short}
use Rattle.type_core.specs.declared.type_id.TypeId.{TypeId}
use Rattle.type_core.specs.Typ.{Typ}
use Rattle.type_core.specs.TypeTable.{IsTypeOf}
use Rattle.ctx_table.specs.Context.{Context}
use Rattle.mark_step.specs.declared.node.NodeView.{NodeView}
use Rattle.mark_step.specs.Rows.{is_exp}
use Rattle.mark_step.specs.Node.{expression_at, type_or_unknown, types_from, types_before, types_done, sort_at_index, IsScopeOf, IsModeOf, IsNodeOf, AreDone, AreDoneBefore}
use Rattle.judging.specs.declared.frame.Given.{Given}
use Rattle.judging.specs.declared.frame.OpenVertex.{OpenVertex}
use Rattle.judging.specs.Frames.{given_at, givens, given_before, opened_at, IsGivenOf, IsOpenOf, IsViewOf}
use Rattle.judging.specs.Machine.{types_given, before_of, expression_of}
use Rattle.judging.proofs.Kept.{some_before}
use Rattle.judging.proofs.Filling.{five}

-- the types that the first positions gave are those of the expressions among them
types_from-given : (types : List Typ) (done : List (Option TypeId)) (i : ℕ) (ps : List (Position × Sort)) (gs : List Given)
    → ((j : ℕ) → slice_index_or done (i + j) None ≡ option_map (λ g. g.typ) (slice_get gs j)) → types_from types done i (take (length gs) ps) ≡ types_given ps (map (given_at types) gs)
types_from-given types done i [] [] at = refl
types_from-given types done i (p ∷ ps) [] at = refl
types_from-given types done i [] (g ∷ gs) at = refl
types_from-given types done i (p ∷ ps) (g ∷ gs) at =
    by_sort (is_exp p.1) (types_from-given types done (i + 1) ps gs (λ j. ap (λ k. slice_index_or done k None) (shift j) ∙ at (suc j))) where
      shift : (j : ℕ) → i + 1 + j ≡ i + suc j
      shift j = omega arith

      first : slice_index_or done i None ≡ Some g.typ
      first = ap (λ k. slice_index_or done k None) (start i) ∙ at 0 where
        start : (k : ℕ) → k ≡ k + 0
        start k = omega arith

      by_sort : (b : Bool) → types_from types done (i + 1) (take (length gs) ps) ≡ types_given ps (map (given_at types) gs)
          → cond b (type_or_unknown types (slice_index_or done i None) ∷ types_from types done (i + 1) (take (length gs) ps)) (types_from types done (i + 1) (take (length gs) ps))
          ≡ cond b ((given_at types g).typ ∷ types_given ps (map (given_at types) gs)) (types_given ps (map (given_at types) gs))
      by_sort true same = ap (λ o. type_or_unknown types o ∷ types_from types done (i + 1) (take (length gs) ps)) first ∙ ap (λ ts. (given_at types g).typ ∷ ts) same
      by_sort false same = same

take-all : (ps : List (Position × Sort)) → take (length ps) ps ≡ ps
take-all [] = refl
take-all (p ∷ ps) = ap (λ qs. p ∷ qs) (take-all ps)

some_of : (x : Option Given) (o : Option TypeId) → IsSome x → o ≡ option_map (λ g. g.typ) x → IsSome o
some_of (Some g) o some is = subst (λ (y : Option TypeId). IsSome y) (sym is) refl
some_of None o some is = absurd cc

number_of : (types : List Typ) (x : Option Given) (o : Option TypeId) → IfSome x (IsGivenOf types) → o ≡ option_map (λ g. g.typ) x → IfSome o (IsTypeOf types)
number_of types (Some g) o h is = subst (λ (y : Option TypeId). IfSome y (IsTypeOf types)) (sym is) h
number_of types None o h is = subst (λ (y : Option TypeId). IfSome y (IsTypeOf types)) (sym is) tt

some_within : (gs : List Given) (n i : ℕ) → i < n → n ≤ length gs → IsSome (slice_get (take n gs) i)
some_within [] n i lt le = absurd (omega (arith, lt, le))
some_within (g ∷ gs) zero i lt le = absurd (omega (arith, lt))
some_within (g ∷ gs) (suc n) zero lt le = refl
some_within (g ∷ gs) (suc n) (suc i) lt le = some_within gs n i (omega (arith, lt)) (omega (arith, le))

known_sort : (c : List (Position × Sort)) (i : ℕ) → option_map (λ p. p.1) (slice_get c i) ≡ Some Exp → i < length c
known_sort [] i e = absurd cc
known_sort (p ∷ ps) zero e = omega arith
known_sort (p ∷ ps) (suc i) e = omega (arith, known_sort ps i e)

module _ (types : List Typ) (ctxs : List Context) (o : OpenVertex) (v : NodeView) (is : IsOpenOf types ctxs o) (view : IsViewOf types o v) where
  long : o.next ≤ length (givens o.given)
  long = omega (arith, is.filled.within, row_short o.ctor.now, five o.given)

  so_many : length (given_before o) ≡ o.next
  so_many = omega (arith, length-take o.next (givens o.given), long)

  pub expression_is : expression_at types ctxs v ≡ expression_of (opened_at types ctxs o)
  expression_is =
      let c = view.ctor in
      let x = view.ctx in
      let m = view.mode in
      let b = view.bound in
      cc

  pub before_is : types_before types v o.next ≡ before_of (opened_at types ctxs o)
  before_is =
      ap (λ c. types_from types v.done 0 (take o.next (positions c))) view.ctor ∙ ap (λ n. types_from types v.done 0 (take n (positions o.ctor.now))) (sym so_many)
      ∙ types_from-given types v.done 0 (positions o.ctor.now) (given_before o) (λ j. ap (λ k. slice_index_or v.done k None) (start j) ∙ view.done j)
    where
      start : (j : ℕ) → 0 + j ≡ j
      start j = omega arith

  pub done_is : o.next ≡ length (positions o.ctor.now) → types_done types v ≡ before_of (opened_at types ctxs o)
  done_is whole =
      ap (λ c. types_from types v.done 0 (positions c)) view.ctor ∙ ap (types_from types v.done 0) (sym (take-all (positions o.ctor.now)))
      ∙ ap (λ n. types_from types v.done 0 (take n (positions o.ctor.now))) (sym whole) ∙ ap (λ c. types_from types v.done 0 (take o.next (positions c))) (sym view.ctor) ∙ before_is

  pub node_is : IsNodeOf types ctxs v
  node_is = record {
    ctx = subst (IsScopeOf types ctxs) (sym view.ctx) is.demand.ctx;
    mode = subst (IsModeOf types) (sym view.mode) is.demand.mode;
    binder = view.number;
    done = λ i. number_of types (slice_get (given_before o) i) (slice_index_or v.done i None) (some_before (IsGivenOf types) (givens o.given) o.next is.filled.numbers i) (view.done i);
  }

  pub done_before : AreDoneBefore v o.next
  done_before i lt exp = some_of (slice_get (given_before o) i) (slice_index_or v.done i None) (some_within (givens o.given) o.next i lt long) (view.done i)

  pub all_done : o.next ≡ length (positions o.ctor.now) → AreDone v
  all_done whole i exp =
      let within : i < length (positions o.ctor.now) = known_sort (positions o.ctor.now) i (ap (λ c. sort_at_index c i) (sym view.ctor) ∙ exp) in
      done_before i (omega (arith, within, whole)) exp
