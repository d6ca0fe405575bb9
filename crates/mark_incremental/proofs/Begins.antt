-- What the steps of a vertex make: a position is begun, or the record of a vertex whose positions are judged.
use Rattle.std.proofs.Common.{◌≡◌, ℕ, zero, suc, ◌<◌, Bool, true, false, cond, List, [], ◌∷◌, drop, length, Option, Some, None, refl, sym, ap, subst, ◌∙◌, arith}
use Rattle.std.specs.Prelude.{◌↔◌, IsTrue, slice_get, unwrap_or}
use Rattle.std.specs.Option.{option_map}
use Rattle.grove_sorts.specs.declared.position.Position.{Position}
use Rattle.grove_sorts.specs.declared.sort.Sort.{Sort}
use Rattle.grove_sorts.specs.declared.sort.Sort.TheVariants.{Top}
use Rattle.grove_sorts.specs.Ctor.{positions, sort_of_ctor}
use Rattle.grove_edits.specs.declared.edge.Edge.{Edge}
use Rattle.graph_words.specs.Live.{children_of}
use Rattle.type_core.specs.Typ.{Typ}
use Rattle.type_core.specs.TypeTable.{KeepsTypes}
use Rattle.ctx_table.specs.declared.ctx_id.CtxId.{CtxId}
use Rattle.ctx_table.specs.Context.{Context}
use Rattle.mark_step.specs.declared.node.Demand.{Demand}
use Rattle.mark_step.specs.Scope.{Scope, scope_at}
use Rattle.mark_step.specs.Expression.{Demanded}
use Rattle.mark_step.specs.Rows.{is_exp}
use Rattle.mark_step.specs.Node.{demanded_at, sort_at_index}
use Rattle.marking.specs.Marking.{synthesised_in}
use Rattle.judging.specs.declared.frame.Closed.{Closed}
use Rattle.judging.specs.declared.frame.OpenVertex.{OpenVertex}
use Rattle.judging.specs.Machine as machine
use Rattle.judging.specs.Frames.{opened_at, added_at, given_at, IsOpenOf}
use Rattle.judging.proofs.Kept.{contexts-itself, scope_at-kept}
use Rattle.kept_records.specs.Kept.{Kept, demanded_among}
use Rattle.kept_records.specs.Numbers.{kept_at}
use Rattle.mark_incremental.specs.declared.frame.Frame.{Frame}
use Rattle.mark_incremental.specs.Walking.{IsBegunAt, IsBegun, kept_closed}

here : (row : List (Position × Sort)) (i : ℕ) (p : Position × Sort) (ps : List (Position × Sort)) → drop i row ≡ p ∷ ps → slice_get row i ≡ Some p
here [] zero p ps e = absurd cc
here [] (suc i) p ps e = absurd cc
here (q ∷ row) zero p ps e = cc
here (q ∷ row) (suc i) p ps e = here row i p ps e

past_end : (row : List (Position × Sort)) (i : ℕ) → drop i row ≡ [] → slice_get row i ≡ None
past_end [] zero e = refl
past_end [] (suc i) e = refl
past_end (q ∷ row) zero e = absurd cc
past_end (q ∷ row) (suc i) e = past_end row i e

some_part : {X : Type 0} (x y : X) → Some x ≡ Some y → x ≡ y
some_part x y e = cc

module _ (live : List Edge) (old new : List Typ) (oldc newc : List Context) (fr : Frame) where
  pub begins : (q : Position × Sort) → slice_get (positions fr.vertex.now.ctor) fr.state.next ≡ Some q → IsBegunAt live old new oldc newc fr q → IsBegun live old new oldc newc fr
  begins q found at = record {
    there = λ p ps row. subst (IsBegunAt live old new oldc newc fr) (some_part q p (sym found ∙ here (positions fr.vertex.now.ctor) fr.state.next p ps row)) at;
    none_there = λ empty. absurd (clash (slice_get (positions fr.vertex.now.ctor) fr.state.next) found (past_end (positions fr.vertex.now.ctor) fr.state.next empty));
  } where
    clash : (o : Option (Position × Sort)) → o ≡ Some q → o ≡ None → ⊥
    clash o a b = let never : None ≡ Some q = sym b ∙ a in cc

  pub begins_none : slice_get (positions fr.vertex.now.ctor) fr.state.next ≡ None → fr.left ≡ [] → IsBegun live old new oldc newc fr
  begins_none past left = record {
    there = λ p ps row. absurd (clash p (sym past ∙ here (positions fr.vertex.now.ctor) fr.state.next p ps row));
    none_there = λ empty. left;
  } where
    clash : (p : Position × Sort) → None ≡ Some p → ⊥
    clash p e = cc

-- what is demanded of each of so many children
among_is : (n : ℕ) (b : Bool) → IsTrue b ↔ (1 < n) → (d : Demanded) → cond b (synthesised_in d) d ≡ demanded_among n d
among_is zero true is d = let more : 1 < 0 = is.0 refl in absurd (omega (arith, more))
among_is zero false is d = refl
among_is (suc zero) true is d = let more : 1 < 1 = is.0 refl in absurd (omega (arith, more))
among_is (suc zero) false is d = refl
among_is (suc (suc n)) true is d = refl
among_is (suc (suc n)) false is d =
    let more : 1 < suc (suc n) = omega arith in
    let never : false ≡ true = is.1 more in
    absurd cc

pub demand_among : (old new : List Typ) (oldc newc : List Context) (d e : Demand) (n : ℕ) (b : Bool) (o : OpenVertex) (q : Position × Sort) → slice_get (positions o.ctor.now) o.next ≡ Some q → IsTrue b ↔ (1 < n)
    → demanded_at new newc e ≡ cond b (synthesised_in (demanded_at new newc d)) (demanded_at new newc d)
    → demanded_at new newc d ≡ machine.demanded_by (opened_at old oldc o) (unwrap_or (sort_at_index o.ctor.now o.next) Top)
    → demanded_at new newc e ≡ demanded_among n (machine.demanded_by (opened_at old oldc o) q.1)
demand_among old new oldc newc d e n b o q found more among rule =
    among ∙ among_is n b more (demanded_at new newc d)
    ∙ ap (demanded_among n) (rule ∙ ap (λ (s : Option (Position × Sort)). machine.demanded_by (opened_at old oldc o) (unwrap_or (option_map (λ p. p.1) s) Top)) found)

-- the position is begun by its place in the table, its edges, and what is demanded of each of its children
pub begins_there : (live : List Edge) (old new : List Typ) (oldc newc : List Context) (fr : Frame) (q : Position × Sort) (d : Demand) → slice_get (positions fr.vertex.now.ctor) fr.state.next ≡ Some q → fr.state.ctor.now ≡ fr.vertex.now.ctor
    → fr.left ≡ children_of fr.vertex.now q.0 live → IsTrue fr.several ↔ (1 < length fr.left)
    → demanded_at new newc fr.demand ≡ cond fr.several (synthesised_in (demanded_at new newc d)) (demanded_at new newc d)
    → demanded_at new newc d ≡ machine.demanded_by (opened_at old oldc fr.state) (unwrap_or (sort_at_index fr.state.ctor.now fr.state.next) Top)
    → given_at new fr.given ≡ machine.nothing → IsBegun live old new oldc newc fr
begins_there live old new oldc newc fr q d found ctor left several among rule given =
    begins live old new oldc newc fr q found (record {
      left = left;
      several = several_there;
      demand = demand_among old new oldc newc d fr.demand (length (children_of fr.vertex.now q.0 live)) fr.several fr.state q (ap (λ c. slice_get (positions c) fr.state.next) ctor ∙ found) several_there among rule;
      given = given;
    })
  where
    several_there : IsTrue fr.several ↔ (1 < length (children_of fr.vertex.now q.0 live))
    several_there = subst (λ (es : List Edge). IsTrue fr.several ↔ (1 < length es)) left several

pub place_within : (row : List (Position × Sort)) (i : ℕ) (p : Position × Sort) → slice_get row i ≡ Some p → i < length row
place_within [] zero p e = absurd cc
place_within [] (suc i) p e = absurd cc
place_within (q ∷ row) zero p e = omega arith
place_within (q ∷ row) (suc i) p e = let less = place_within row i p e in omega (arith, less)

-- the record of a vertex whose positions are judged
pub settled_is : (old new : List Typ) (ctxs : List Context) → KeepsTypes old new → (o : OpenVertex) → IsOpenOf old ctxs o → (c : Closed) (id : CtxId)
    → scope_at new ctxs id ≡ cond (is_exp (sort_of_ctor o.ctor.now)) (scope_at new ctxs o.demand.ctx) [] → added_at new c ≡ machine.added_of (opened_at old ctxs o)
    → kept_at new ctxs id c.mode c.typ c.mark ≡ kept_closed (opened_at old ctxs o)
settled_is old new ctxs keeps o of c id scope added =
    ap (λ (s : Scope). let k : Kept = record { scope = s; wanted = (added_at new c).wanted; typ = (added_at new c).typ; mark = (added_at new c).mark } in k)
    (scope ∙ ap (λ (s : Scope). cond (is_exp (sort_of_ctor o.ctor.now)) s []) (scope_at-kept old new ctxs ctxs keeps (contexts-itself ctxs) o.demand.ctx of.demand.ctx))
    ∙ ap (λ (a : machine.Added). let k : Kept = record { scope = cond (is_exp (sort_of_ctor o.ctor.now)) (scope_at old ctxs o.demand.ctx) []; wanted = a.wanted; typ = a.typ; mark = a.mark } in k) added
