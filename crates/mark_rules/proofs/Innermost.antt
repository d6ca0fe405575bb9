-- The innermost frame, which is the last, is changed where it stands, or taken off.
use Rattle.std.proofs.Common.{◌≡◌, ◌≤◌, ◌<◌, ◌-◌, ℕ, zero, suc, List, [], ◌∷◌, ◌++◌, length, take, set, get_or, refl, sym, ap, subst, ◌∙◌, arith}
use Rattle.grove_sorts.specs.Ctor.{positions}
use Rattle.grove_terms.specs.declared.node.LentNode.{LentNode}
use Rattle.type_core.specs.Typ.{Typ}
use Rattle.type_core.specs.TypeTable.{KeepsTypes}
use Rattle.ctx_table.specs.Context.{Context}
use Rattle.mark_step.specs.declared.node.Demand.{Demand}
use Rattle.marking.specs.Marking.{MarkedNode as MeantNode}
use Rattle.marking.specs.declared.added.Added.{Added}
use Rattle.marking.specs.Added.{marked_nodes}
use Rattle.marking.specs.Reading.{meant_nodes}
use Rattle.marking.specs.Numbers.{AreAddedOf}
use Rattle.judging.specs.declared.frame.Given.{Given}
use Rattle.judging.specs.declared.frame.OpenVertex.{OpenVertex}
use Rattle.judging.specs.declared.frame.Frame.{Frame}
use Rattle.judging.specs.declared.frame.Frame.TheVariants.{Open, Several}
use Rattle.judging.specs.declared.frame.Closed.{Closed}
use Rattle.judging.specs.Machine as machine
use Rattle.judging.specs.Frames.{given_at, opened_at, frame_at, frames_at, frames_in, added_at, filled_with, IsGivenOf, IsOpenOf, IsFrameOf, AreFramesOf}
use Rattle.judging.proofs.Kept.{frames_kept, contexts-itself}
use Rattle.judging.proofs.Frames.{stays_open, placed, given_is, given_fills, given_several, several_is, given_last, popped, rest_are, off_is, frame_off}
use Rattle.mark_rules.specs.declared.taking.Walk.{Walk}
use Rattle.mark_rules.specs.Walking.{added_by, IsWalkOf}
use Rattle.mark_rules.proofs.Walks.{is_closed}

-- ---- the last of a list

last_off : {X : Type 0} (xs : List X) (i : ℕ) (x : X) → suc i ≡ length xs → x ≡ get_or xs i x → xs ≡ take i xs ++ x ∷ []
last_off [] i x end is = absurd (omega arith)
last_off (y ∷ []) zero x end is = ap (λ z. z ∷ []) (sym is)
last_off (y ∷ z ∷ xs) zero x end is = absurd (omega arith)
last_off (y ∷ xs) (suc i) x end is = ap (λ zs. y ∷ zs) (last_off xs i x (omega arith) is)

last_put : {X : Type 0} (xs : List X) (i : ℕ) (x : X) → suc i ≡ length xs → set xs i x ≡ take i xs ++ x ∷ []
last_put [] i x end = absurd (omega arith)
last_put (y ∷ []) zero x end = refl
last_put (y ∷ z ∷ xs) zero x end = absurd (omega arith)
last_put (y ∷ xs) (suc i) x end = ap (λ zs. y ∷ zs) (last_put xs i x (omega arith))

-- ---- this frame, with this index, is the innermost one, and the numbers of all frames are of the tables

pub record IsInnermost (types : List Typ) (ctxs : List Context) (fs : List (ℕ × Frame)) (last : ℕ) (f : ℕ × Frame) : Type 0 where
  pub end : suc last ≡ length fs
  pub here : f ≡ get_or fs last f
  pub numbers : AreFramesOf types ctxs (frames_in fs)

pub last_of : {types : List Typ} {ctxs : List Context} (w : Walk) (last : ℕ) (f : ℕ × Frame) → IsWalkOf types ctxs w → suc last ≡ w.frames.len → f ≡ get_or w.frames.items last f → IsInnermost types ctxs w.frames.items last f
last_of w last f is end here = record { end = end ∙ w.frames.ok.0; here = here; numbers = is.frames }

module _ {types : List Typ} {ctxs : List Context} {fs : List (ℕ × Frame)} {last : ℕ} {f : ℕ × Frame} (innermost : IsInnermost types ctxs fs last f) where
  off : fs ≡ take last fs ++ f ∷ []
  off = last_off fs last f innermost.end innermost.here

  put : (g : ℕ × Frame) → set fs last g ≡ take last fs ++ g ∷ []
  put g = last_put fs last g innermost.end

  off_in : frames_in fs ≡ frames_in (take last fs) ++ f.1 ∷ []
  off_in = frame_off fs (take last fs) f.0 f.1 off

  innermost_is : IsFrameOf types ctxs f.1
  innermost_is = off_is types ctxs (frames_in fs) (frames_in (take last fs)) f.1 off_in innermost.numbers

  others_are : AreFramesOf types ctxs (frames_in (take last fs))
  others_are = rest_are types ctxs (frames_in fs) (frames_in (take last fs)) f.1 off_in innermost.numbers

  given_first : (g : machine.Given) (out : List MeantNode) → machine.deliver g (frame_at types ctxs f.0 f.1 ∷ frames_at types ctxs (take last fs)) out ≡ machine.deliver g (frames_at types ctxs fs) out
  given_first g out = popped types ctxs fs (take last fs) f.0 f.1 g out off

  -- the frames that are left once it is taken off, over later tables
  pub rest_kept : (new : List Typ) (rest : List (ℕ × Frame)) → KeepsTypes types new → rest ≡ take last fs → AreFramesOf new ctxs (frames_in rest)
  rest_kept new rest keeps cut =
      subst (λ (xs : List (ℕ × Frame)). AreFramesOf new ctxs (frames_in xs)) (sym cut) (frames_kept types new ctxs ctxs keeps (contexts-itself ctxs) (frames_in (take last fs)) others_are)

  -- where it is an open vertex

  pub open_is : (o : OpenVertex) → f.1 ≡ Open o → IsFrameOf types ctxs (Open o)
  open_is o is = subst (IsFrameOf types ctxs) is innermost_is

  pub filled_is : (o r : OpenVertex) (g : Given) → f.1 ≡ Open o → r ≡ filled_with g o → IsGivenOf types g → IsOpenOf types ctxs r
  filled_is o r g is made given = given_is types ctxs f.1 o r g is made innermost_is given

  pub filled_stands : (o r : OpenVertex) (g : Given) (out : List MeantNode) → f.1 ≡ Open o → r ≡ filled_with g o → r.next < length (positions r.ctor.now)
      → machine.at (frames_at types ctxs (set fs last (f.0, Open r))) out ≡ machine.deliver (given_at types g) (frames_at types ctxs fs) out
  filled_stands o r g out is made more =
      stays_open types ctxs f.0 r (take last fs) (set fs last (f.0, Open r)) out more (put (f.0, Open r))
      ∙ given_fills types ctxs f.0 f.1 o r g (frames_at types ctxs (take last fs)) out is made innermost_is ∙ given_first (given_at types g) out

  pub filled_are : (o r : OpenVertex) (g : Given) → f.1 ≡ Open o → r ≡ filled_with g o → IsGivenOf types g → r.next < length (positions r.ctor.now) → AreFramesOf types ctxs (frames_in (set fs last (f.0, Open r)))
  filled_are o r g is made given more = placed types ctxs (take last fs) (set fs last (f.0, Open r)) f.0 (Open r) others_are (filled_is o r g is made given, more) (put (f.0, Open r))

  pub vertex_off : (new : List Typ) (o r : OpenVertex) (g : Given) (c : Closed) (rest : List (ℕ × Frame)) (ns : List LentNode) (added after : List Added) → f.1 ≡ Open o → r ≡ filled_with g o → KeepsTypes types new
      → AreAddedOf types added → length (positions r.ctor.now) ≤ r.next → added_at new c ≡ machine.added_of (opened_at types ctxs r) → given_at new c.given ≡ machine.given_of (opened_at types ctxs r)
      → after ≡ set added f.0 (added_by c) → rest ≡ take last fs
      → machine.deliver (given_at new c.given) (frames_at new ctxs rest) (meant_nodes new (marked_nodes ns after)) ≡ machine.deliver (given_at types g) (frames_at types ctxs fs) (meant_nodes types (marked_nodes ns added))
  vertex_off new o r g c rest ns added after is made keeps numbers whole adds gives settled cut =
      ap (λ (xs : List (ℕ × Frame)). machine.deliver (given_at new c.given) (frames_at new ctxs xs) (meant_nodes new (marked_nodes ns after))) cut
      ∙ is_closed types new ctxs f.0 r c (take last fs) ns added after keeps others_are numbers whole adds gives settled
      ∙ given_fills types ctxs f.0 f.1 o r g (frames_at types ctxs (take last fs)) (meant_nodes types (marked_nodes ns added)) is made innermost_is ∙ given_first (given_at types g) (meant_nodes types (marked_nodes ns added))

  -- where it is a conflict

  pub fewer_stand : (d : Demand) (n : ℕ) (g : machine.Given) (out : List MeantNode) → f.1 ≡ Several d n → 1 < n → machine.at (frames_at types ctxs (set fs last (f.0, Several d (n - 1)))) out ≡ machine.deliver g (frames_at types ctxs fs) out
  fewer_stand d n g out is more = given_several types ctxs f.0 f.1 d n g (take last fs) (set fs last (f.0, Several d (n - 1))) out is more (put (f.0, Several d (n - 1))) ∙ given_first g out

  pub fewer_are : (d : Demand) (n : ℕ) → f.1 ≡ Several d n → AreFramesOf types ctxs (frames_in (set fs last (f.0, Several d (n - 1))))
  fewer_are d n is = placed types ctxs (take last fs) (set fs last (f.0, Several d (n - 1))) f.0 (Several d (n - 1)) others_are (several_is types ctxs f.1 d n (n - 1) is innermost_is) (put (f.0, Several d (n - 1)))

  pub conflict_off : (d : Demand) (n : ℕ) (g h : machine.Given) (rest : List (ℕ × Frame)) (out : List MeantNode) → f.1 ≡ Several d n → n ≤ 1 → h ≡ machine.nothing → rest ≡ take last fs
      → machine.deliver h (frames_at types ctxs rest) out ≡ machine.deliver g (frames_at types ctxs fs) out
  conflict_off d n g h rest out is few gives cut =
      ap (λ (xs : List (ℕ × Frame)). machine.deliver h (frames_at types ctxs xs) out) cut
      ∙ given_last types ctxs f.0 f.1 d n g h (frames_at types ctxs (take last fs)) out is few gives ∙ given_first g out
