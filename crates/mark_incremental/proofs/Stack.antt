-- The vertices around the innermost open one, innermost last, of which the last is taken off; and results that are one step further.
use Rattle.std.proofs.Common.{◌≡◌, ◌<◌, List, [], ◌∷◌, ◌++◌, length, refl, sym, subst}
use Rattle.std.specs.Prelude.{reverse, Result, Ok, Err, IfOk}
use Rattle.grove_edits.specs.declared.vertex.Vertex.{Vertex}
use Rattle.type_core.specs.Typ.{Typ}
use Rattle.ctx_table.specs.Context.{Context}
use Rattle.judging.specs.declared.frame.Given.{Given}
use Rattle.mark_store.specs.declared.record.Record.{Record}
use Rattle.mark_incremental.specs.declared.frame.Frame.{Frame}
use Rattle.mark_incremental.specs.Reading.{IsRecordOf}
use Rattle.mark_incremental.specs.Walking.{AreFramesOf, AreMadeOf, IsAccepted, IsHanded}
use Rattle.mark_incremental.proofs.Steps.{on_top}

-- ---- results

pub if_ok_so : {T E : Type 0} (r : Result T E) (P Q : T → Type 0) → ((t : T) → P t → Q t) → IfOk r P → IfOk r Q
if_ok_so (Ok t) P Q so is = so t is
if_ok_so (Err e) P Q so is = tt

-- ---- nothing is open

pub empty : (frames : List Frame) → length frames ≡ 0 → frames ≡ []
empty [] is = refl
empty (fr ∷ frames) is = absurd cc

pub handed_none : (types : List Typ) (g : Given) (old : List Frame) → length old ≡ 0 → IsHanded types g (reverse old) []
handed_none types g old none = subst (λ (frs : List Frame). IsHanded types g (reverse frs) []) (sym (empty old none)) refl

-- ---- the one around the innermost is taken off

pub handed_one : (types : List Typ) (g : Given) (old off : List Frame) (fr taken : Frame) → old ≡ off ++ fr ∷ [] → (0 < length fr.left → IsAccepted types fr g taken)
    → IsHanded types g (reverse old) (taken ∷ reverse off)
handed_one types g old off fr taken was accepts =
    subst (λ (frs : List Frame). IsHanded types g frs (taken ∷ reverse off)) (sym (on_top off old fr was)) (taken, refl, accepts)

module _ (types : List Typ) (ctxs : List Context) where
  pub off_of : (old off : List Frame) (fr : Frame) → old ≡ off ++ fr ∷ [] → AreFramesOf types ctxs (reverse old) → AreFramesOf types ctxs (fr ∷ reverse off)
  off_of old off fr was are = subst (AreFramesOf types ctxs) (on_top off old fr was) are

-- ---- one more record

pub more_made : (types : List Typ) (ctxs : List Context) (made new : List (Vertex × Record)) (v : Vertex) (r : Record) → new ≡ made ++ (v, r) ∷ [] → AreMadeOf types ctxs made → IsRecordOf types ctxs r → AreMadeOf types ctxs new
more_made types ctxs made new v r is are of = subst (AreMadeOf types ctxs) (sym is) (joined made are) where
  joined : (ms : List (Vertex × Record)) → AreMadeOf types ctxs ms → AreMadeOf types ctxs (ms ++ (v, r) ∷ [])
  joined [] all = (of, tt)
  joined (m ∷ ms) all = (all.0, joined ms all.1)
