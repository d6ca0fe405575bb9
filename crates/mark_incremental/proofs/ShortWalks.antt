-- What two walks down make, one for the target of an edge and one from near its source.
use Rattle.std.proofs.Common.{◌≡◌, ℕ, ◌+◌, ◌-◌, ◌≤◌, Bool, true, false, List, [], ◌∷◌, ◌++◌, length, refl, sym, ap, subst, ◌∙◌, arith}
use Rattle.grove_sorts.specs.Ctor.{sort_of_ctor}
use Rattle.grove_edits.specs.declared.vertex.Vertex.{Vertex}
use Rattle.grove_edits.specs.declared.edge.Edge.{Edge}
use Rattle.std.specs.Prelude.{Some, Option, IfSome, slice_get}
use Rattle.grove_edits.specs.Vertex.{is_same_vertex}
use Rattle.grove_edits.proofs.Vertices.{same_vertex_itself}
use Rattle.type_core.specs.Typ.{Typ}
use Rattle.type_core.specs.TypeTable.{KeepsTypes}
use Rattle.ctx_table.specs.Context.{Context}
use Rattle.ctx_table.specs.CtxTable.{KeepsContexts}
use Rattle.mark_step.specs.declared.node.Demand.{Demand}
use Rattle.mark_step.specs.Node.{IsDemandOf}
use Rattle.judging.proofs.Kept.{demanded_at-kept}
use Rattle.judging.proofs.Running.{Agree}
use Rattle.kept_records.specs.Kept.{Kept, Records, alone}
use Rattle.kept_records.specs.Short.{MakesFrom}
use Rattle.mark_incremental.specs.Walking.{Start, start_at, IsStart, HasMade}
use Rattle.mark_incremental.specs.Ticks.{IsWalkPaid}
use Rattle.mark_incremental.specs.ShortWalks.{IsAlone, MakesAlone, by_itself, IsAlonePaid, AreBothPaid}
use Rattle.mark_incremental.proofs.Paid.{joined}

-- what a number says is demanded is the same over tables that have grown
pub start_kept : (live : List Edge) (old new : List Typ) (oldc newc : List Context) → KeepsTypes old new → KeepsContexts oldc newc → (d : Demand) → IsDemandOf old oldc d → (from : Start) → IsStart live old oldc d from → IsStart live new newc d from
start_kept live old new oldc newc keeps keepsc d of from place = record {
  above = place.above;
  forest = place.forest;
  stands = place.stands;
  agree = subst (λ x. Agree (sort_of_ctor from.vertex.ctor) x from.demanded) (sym (demanded_at-kept old new oldc newc keeps keepsc d of)) place.agree;
}

module _ (live : List Edge) (judged : Vertex → Bool) (records : Records) (target : Vertex) where
  -- nothing is made for the target
  pub nothing_paid : (start : Vertex) → MakesAlone live judged records target start [] → (before after : ℕ) → after ≤ before + 3 → IsAlonePaid live judged records target start before after
  nothing_paid start makes before after more = record { all = []; makes = makes; within = omega (arith, more) }

  pub alone_paid : (start : Vertex) → IsAlone live judged records target start → (before between after : ℕ) → between ≤ before + 3 → IsWalkPaid live judged records (start_at target alone) between after
      → IsAlonePaid live judged records target start before after
  alone_paid start is before between after more paid =
      let within = paid.within in record { all = paid.all; makes = by_itself is paid.makes; within = omega (arith, within, more) }

  pub alone_made : (start : Vertex) → IsAlone live judged records target start → (nothing made : List (Vertex × Kept)) → nothing ≡ [] → HasMade live judged records (start_at target alone) nothing made
      → MakesAlone live judged records target start made
  alone_made start is nothing made none has = by_itself is (subst (MakesFrom judged live records target alone) (sym (has.are ∙ ap (λ ms. ms ++ has.own) none)) has.makes)

  pub both_paid : (from : Start) (before between after : ℕ) → IsAlonePaid live judged records target from.vertex before between → IsWalkPaid live judged records from between after → AreBothPaid live judged records target from before after
  both_paid from before between after first own =
      let weighs = joined live first.all own.all in
      let one = first.within in
      let two = own.within in
      record {
        all = first.all ++ own.all;
        makes = record { first = first.all; makes_first = first.makes; own = own.all; makes_own = own.makes; all = refl };
        within = omega (arith, weighs, one, two);
      }

-- ---- the last of some

last_at : {X : Type 0} (x : X) (xs : List X) → (last : X) × (slice_get (x ∷ xs) (length xs) ≡ Some last) × (front : List X) × (x ∷ xs ≡ front ++ last ∷ [])
last_at x [] = (x, refl, [], refl)
last_at x (y ∷ ys) = let later = last_at y ys in (later.0, later.1, x ∷ later.2, ap (λ zs. x ∷ zs) later.3)

pub last_cut : {X : Type 0} (xs : List X) (o : Option X) → o ≡ slice_get xs (length xs - 1) → IfSome o (λ last. (front : List X) × (xs ≡ front ++ last ∷ []))
last_cut {X = X} [] o is = subst (λ p. IfSome p (λ last. (front : List X) × ([] ≡ front ++ last ∷ []))) (sym is) tt
last_cut {X = X} (x ∷ xs) o is =
    let cut = last_at x xs in
    let at : length (x ∷ xs) - 1 ≡ length xs = omega arith in
    subst (λ p. IfSome p (λ last. (front : List X) × (x ∷ xs ≡ front ++ last ∷ []))) (sym (is ∙ ap (slice_get (x ∷ xs)) at ∙ cut.1)) (cut.2, cut.3)

-- vertices of which a test tells that they are not the same
pub other_vertex : (v w : Vertex) → is_same_vertex v w ≡ false → v ≡ w → ⊥
other_vertex v w other is = let clash : true ≡ false = sym (ap (is_same_vertex v) (sym is) ∙ same_vertex_itself v) ∙ other in cc
