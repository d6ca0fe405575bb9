-- A position with a conflict both before an edit and after it.
use Rattle.std.proofs.Common.{◌≡◌, ◌⊎◌, inl, inr, ℕ, ◌+◌, ◌≤◌, Bool, true, false, List, [], ◌∷◌, ◌++◌, Option, Some, None, is_some, refl, sym, ap, subst, ◌∙◌, arith}
use Rattle.std.specs.Prelude.{IfSome}
use Rattle.std.specs.Option.{option_map}
use Rattle.std.specs.List.{AllByRecursion}
use Rattle.grove_sorts.specs.Ctor.{sort_of_ctor}
use Rattle.grove_edits.specs.declared.vertex.Vertex.{Vertex}
use Rattle.grove_edits.specs.declared.edge.Edge.{Edge}
use Rattle.grove_edits.specs.Edge.{IsWellFormed}
use Rattle.graph_words.specs.declared.class.Class.TheVariants.{Inner}
use Rattle.graph_words.specs.Class.{class}
use Rattle.type_core.specs.Typ.{Typ}
use Rattle.type_core.specs.TypeTable.{KeepsTypes}
use Rattle.ctx_table.specs.Context.{Context}
use Rattle.ctx_table.specs.CtxTable.{KeepsContexts}
use Rattle.mark_step.specs.declared.node.Demand.{Demand}
use Rattle.mark_step.specs.Expression.{Demanded}
use Rattle.mark_step.specs.Node as node
use Rattle.judging.specs.declared.frame.Given.{Given}
use Rattle.judging.proofs.Running.{Agree}
use Rattle.kept_records.specs.Kept.{Kept, Records, Stands, alone}
use Rattle.kept_records.specs.Renewal.{IsLeft}
use Rattle.kept_records.specs.Renewal as renewal
use Rattle.kept_records.specs.Short.{MakesFrom}
use Rattle.kept_records.proofs.Apart.{class_or}
use Rattle.kept_records.proofs.Standing.{child_stands}
use Rattle.mark_store.specs.declared.record.Record.{Record}
use Rattle.mark_store.specs.Places.{Places}
use Rattle.mark_incremental.specs.Reading.{kept_by, AreRecordsOf}
use Rattle.mark_incremental.specs.Looking.{IsFound, HasToBeJudged}
use Rattle.mark_incremental.specs.Walking.{Level, demands, ReadsAs, start_at, IsMember, LeavesRightBelow, HasMade}
use Rattle.mark_incremental.specs.Ticks.{IsWalkPaid}
use Rattle.mark_incremental.specs.ShortWalks.{MakesAlone, inner as inner_there, begins, left as left_alone, by_itself, IsAlonePaid}
use Rattle.mark_incremental.specs.AtConflict.{MakesAtConflict, heads, stays, begins_there, IsStartBelow, IsConflictPaid, IsDemandBelow, StandsAtEdge}
use Rattle.mark_incremental.proofs.Steps.{kept_demand_of, agree_expression, again}

-- ---- what is made for the target

not_member : (v : Vertex) → IsMember v [] → ⊥
not_member v is = none_first is.before is.are where
  none_first : (xs : List Vertex) → [] ≡ xs ++ v ∷ is.behind → ⊥
  none_first [] same = cc
  none_first (x ∷ xs) same = cc

-- what is found for a vertex of which something is demanded tells whether it is left as it is
some_found : (live : List Edge) (types : List Typ) (ctxs : List Context) (places : Places Record) (judged : Vertex → Bool) (demand : Demand) (e : Edge) (o : Option Given) → IsFound live types ctxs places judged demand e.target o → is_some o ≡ true
    → class live e.target ≡ Inner → (records : Records) → ReadsAs types ctxs places records → (d : Demanded) → Agree (sort_of_ctor e.target.ctor) (node.demanded_at types ctxs demand) d → IsLeft judged records e.target d
some_found live types ctxs places judged demand e None found some inner records reads d agree = absurd cc
some_found live types ctxs places judged demand e (Some g) (inl found) some inner records reads d agree = absurd (found.0 inner)
some_found live types ctxs places judged demand e (Some g) (inr (is, left)) some inner records reads d agree = (
  left.off,
  λ exp. kept_demand_of types ctxs records e.target left.kept (reads e.target ∙ ap (option_map (kept_by types ctxs)) left.found) ∙ left.still exp
      ∙ agree_expression (sort_of_ctor e.target.ctor) (node.demanded_at types ctxs demand) d agree exp,
)

pub none_found : (live : List Edge) (types : List Typ) (ctxs : List Context) (places : Places Record) (judged : Vertex → Bool) (demand : Demand) (e : Edge) (o : Option Given) → IsFound live types ctxs places judged demand e.target o → is_some o ≡ false
    → (class live e.target ≡ Inner) × HasToBeJudged types ctxs places judged demand e.target
none_found live types ctxs places judged demand e None found none = found
none_found live types ctxs places judged demand e (Some g) found none = absurd cc

module _ (e : Edge) (live : List Edge) (types : List Typ) (ctxs : List Context) (places : Places Record) (judged : Vertex → Bool) (demand : Demand) (d : Demanded)
    (place : class live e.target ≡ Inner → IsStartBelow live types ctxs demand e.source e.target d) (records : Records) (reads : ReadsAs types ctxs places records) where
  -- where it does not have to be judged again
  pub made_alone : (o : Option Given) → IsFound live types ctxs places judged demand e.target o → is_some o ≡ true → (made : List (Vertex × Kept)) → MakesAlone live judged records e.target e.source made → MakesAtConflict e live judged records d made
  made_alone o found some made makes = by_class (class_or (class live e.target) Inner) where
    nothing : class live e.target ≡ Inner → MakesAlone live judged records e.target e.source made → made ≡ []
    nothing inner (inner_there is none) = none
    nothing inner (begins is none) = none
    nothing inner (left_alone is none) = none
    nothing inner (by_itself is makes) = absurd (is.outer inner)

    by_class : (class live e.target ≡ Inner) ⊎ (class live e.target ≡ Inner → ⊥) → MakesAtConflict e live judged records d made
    by_class (inl inner) = stays inner (some_found live types ctxs places judged demand e o found some inner records reads d (place inner).place.agree) (nothing inner makes)
    by_class (inr outer) = heads outer makes

  -- where it has to
  module _ (well : AllByRecursion IsWellFormed live) (grown : List Typ) (grown_ctxs : List Context) (keeps : KeepsTypes types grown) (keepsc : KeepsContexts ctxs grown_ctxs) (of_tables : AreRecordsOf types ctxs places)
      (leaves : LeavesRightBelow live judged records e.source) (found : (class live e.target ≡ Inner) × HasToBeJudged types ctxs places judged demand e.target) where
    judged_again : renewal.HasToBeJudged judged records e.target d
    judged_again = by_above start.place.above start.member start.place.stands where
      start : IsStartBelow live types ctxs demand e.source e.target d
      start = place found.0

      by_above : (above : List Vertex) → IsMember e.source above → Stands live above e.target start.place.forest d → renewal.HasToBeJudged judged records e.target d
      by_above [] member stands = absurd (not_member e.source member)
      by_above (u ∷ us) member stands =
          again live well types grown ctxs grown_ctxs keeps keepsc places of_tables judged (start_at e.source alone) [] e.target records reads leaves u us start.place.forest d demand member stands start.place.agree found.1

    pub made_below : (made : List (Vertex × Kept)) → MakesFrom judged live records e.target d made → MakesAtConflict e live judged records d made
    made_below made makes = begins_there found.0 judged_again makes

-- what a walk down makes behind nothing
pub made_own : (live : List Edge) (judged : Vertex → Bool) (records : Records) (v : Vertex) (d : Demanded) (nothing made : List (Vertex × Kept)) → nothing ≡ [] → HasMade live judged records (start_at v d) nothing made → MakesFrom judged live records v d made
made_own live judged records v d nothing made none has = subst (MakesFrom judged live records v d) (sym (has.are ∙ ap (λ ms. ms ++ has.own) none)) has.makes

pub paid_alone : (e : Edge) (live : List Edge) (judged : Vertex → Bool) (records : Records) (d : Demanded) (before between after : ℕ) → between ≤ before + 3
    → (p : IsAlonePaid live judged records e.target e.source between after) → MakesAtConflict e live judged records d p.all → IsConflictPaid e live judged records d before after
paid_alone e live judged records d before between after more p makes = let within = p.within in record { all = p.all; makes = makes; within = omega (arith, more, within) }

pub paid_below : (e : Edge) (live : List Edge) (judged : Vertex → Bool) (records : Records) (d : Demanded) (before between after : ℕ) → between ≤ before + 3
    → (p : IsWalkPaid live judged records (start_at e.target d) between after) → MakesAtConflict e live judged records d p.all → IsConflictPaid e live judged records d before after
paid_below e live judged records d before between after more p makes = let within = p.within in record { all = p.all; makes = makes; within = omega (arith, more, within) }

-- where the target stands at the position of the edge, a walk may begin at it
pub start_below : (live : List Edge) → AllByRecursion IsWellFormed live → (types : List Typ) (ctxs : List Context) (places : Places Record) (judged : Vertex → Bool) (e : Edge) (l : Level) → Stands live l.above l.vertex l.forest l.demanded
    → (demand : Demand) → IsDemandBelow live types ctxs places judged l e.position demand → (records : Records) → ReadsAs types ctxs places records → LeavesRightBelow live judged records l.vertex → StandsAtEdge e l
    → IsStartBelow live types ctxs demand l.vertex e.target (demands l e.position)
start_below live well types ctxs places judged e l stands demand below records reads leaves at = record {
  place = record {
    above = l.vertex ∷ l.above;
    forest = at.below;
    stands =
        subst (λ v. Stands live (l.vertex ∷ l.above) v at.below (demands l e.position)) at.target
        (subst (λ q. Stands live (l.vertex ∷ l.above) at.edge.target at.below (demands l q)) at.position (child_stands live well l.vertex l.above l.forest l.demanded stands at.edge at.below at.is_tree));
    agree = below records reads leaves (sort_of_ctor e.target.ctor) at.sorted;
  };
  member = record { before = []; behind = l.above; are = refl };
}

-- what holds of an answer where there is one
pub some_of : {X : Type 0} (P : X → Type 0) (o : Option X) (x : X) → o ≡ Some x → IfSome o P → P x
some_of P o x is there = subst (λ p. IfSome p P) is there
