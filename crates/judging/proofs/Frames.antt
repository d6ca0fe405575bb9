-- What is open, step by step: what stands once a vertex is opened, filled or closed, and once a conflict is one child further.
use Rattle.std.proofs.Common.{◌≡◌, ℕ, zero, suc, ◌+◌, ◌<◌, ◌≤◌, ◌⊎◌, inl, inr, List, [], ◌∷◌, ◌++◌, length, drop, Option, Some, None, refl, sym, ap, subst, ◌∙◌, arith, length-append}
use Rattle.std.specs.Prelude.{unwrap_or, slice_get, ◌-◌, IfSome}
use Rattle.std.specs.Option.{option_map}
use Rattle.grove_sorts.specs.declared.position.Position.{Position}
use Rattle.grove_sorts.specs.declared.sort.Sort.{Sort}
use Rattle.grove_sorts.specs.declared.sort.Sort.TheVariants.{Top}
use Rattle.grove_sorts.specs.Ctor.{positions}
use Rattle.type_core.specs.Typ.{Typ}
use Rattle.type_core.specs.TypeTable.{KeepsTypes}
use Rattle.ctx_table.specs.Context.{Context}
use Rattle.mark_step.specs.declared.node.Demand.{Demand}
use Rattle.mark_step.specs.Node.{demanded_at, sort_at_index}
use Rattle.mark_step.specs.Expression.{Demanded}
use Rattle.grove_edits.specs.declared.vertex.Vertex.{Vertex}
use Rattle.grove_terms.specs.declared.node.Node.{Node}
use Rattle.grove_terms.specs.declared.node.What.{What}
use Rattle.grove_terms.specs.declared.node.What.TheVariants as whats
use Rattle.marking.specs.Marking.{MarkedNode, marked_plain, synthesised_in}
use Rattle.judging.specs.declared.frame.Given.{Given}
use Rattle.judging.specs.declared.frame.OpenVertex.{OpenVertex}
use Rattle.judging.specs.declared.frame.Frame.{Frame}
use Rattle.judging.specs.declared.frame.Frame.TheVariants.{Open, Several}
use Rattle.judging.specs.declared.frame.Closed.{Closed}
use Rattle.judging.specs.Machine as machine
use Rattle.judging.specs.Frames.{given_at, opened_at, left_of, frame_of, frame_at, frames_at, frames_in, demanded_of, added_at, filled_with, IsGivenOf, IsOpenOf, IsFrameOf, AreFramesOf}
use Rattle.judging.proofs.Kept.{contexts-itself, frames_at-push, frames_in-push, are_frames-push, are_frames-pop, is_frame-pop, frames_at-kept}
use Rattle.judging.proofs.Filling.{opened_filled, is_filled}
use Rattle.judging.proofs.Running.{deliver-of, one_more}

-- ---- a vertex is opened or closed

left-cases : (ps : List (Position × Sort)) (i : ℕ) → i < length ps → (p : Position × Sort) × (qs : List (Position × Sort)) × (drop i ps ≡ p ∷ qs)
left-cases [] i lt = absurd (omega arith)
left-cases (p ∷ ps) zero lt = (p, ps, refl)
left-cases (p ∷ ps) (suc i) lt = left-cases ps i (omega arith)

pub left_none : (ps : List (Position × Sort)) (i : ℕ) → length ps ≤ i → drop i ps ≡ []
left_none [] zero le = refl
left_none [] (suc i) le = refl
left_none (p ∷ ps) zero le = absurd (omega arith)
left_none (p ∷ ps) (suc i) le = left_none ps i (omega arith)

-- where positions are left, the vertex is the innermost frame
pub stays_open : (types : List Typ) (ctxs : List Context) (place : ℕ) (o : OpenVertex) (fs new : List (ℕ × Frame)) (out : List MarkedNode) → o.next < length (positions o.ctor.now) → new ≡ fs ++ (place, Open o) ∷ []
    → machine.at (frames_at types ctxs new) out ≡ machine.opened place (opened_at types ctxs o) (left_of o) (frames_at types ctxs fs) out
stays_open types ctxs place o fs new out some pushed = by (left-cases (positions o.ctor.now) o.next some) where
  by : ((p : Position × Sort) × (qs : List (Position × Sort)) × (left_of o ≡ p ∷ qs))
      → machine.at (frames_at types ctxs new) out ≡ machine.opened place (opened_at types ctxs o) (left_of o) (frames_at types ctxs fs) out
  by (p, qs, left) =
      ap (λ (xs : List (ℕ × Frame)). machine.at (frames_at types ctxs xs) out) pushed
      ∙ ap (λ xs. machine.at xs out) (frames_at-push types ctxs fs (place, Open o))
      ∙ ap (λ ps. machine.at (frame_of place (opened_at types ctxs o) ps ∷ frames_at types ctxs fs) out) left
      ∙ ap (λ ps. machine.opened place (opened_at types ctxs o) ps (frames_at types ctxs fs) out) (sym left)

-- where a vertex has no positions, what marking adds is put to its node
pub closes_at_once : (old new : List Typ) (ctxs : List Context) (place : ℕ) (v : machine.Opened) (c : Closed) (fs : List (ℕ × Frame)) (out after : List MarkedNode) → KeepsTypes old new → AreFramesOf old ctxs (frames_in fs)
    → added_at new c ≡ machine.added_of v → given_at new c.given ≡ machine.given_of v → after ≡ machine.add_at (added_at new c) out place
    → machine.deliver (given_at new c.given) (frames_at new ctxs fs) after ≡ machine.opened place v [] (frames_at old ctxs fs) out
closes_at_once old new ctxs place v c fs out after keeps frames adds gives is =
    ap (λ x. machine.deliver x (frames_at new ctxs fs) after) gives
    ∙ ap (λ xs. machine.deliver (machine.given_of v) xs after) (frames_at-kept old new ctxs ctxs keeps (contexts-itself ctxs) fs frames)
    ∙ ap (λ xs. machine.deliver (machine.given_of v) (frames_at old ctxs fs) xs) (is ∙ ap (λ (a : machine.Added). machine.add_at a out place) adds)

-- so it is where none is left
pub closes : (old new : List Typ) (ctxs : List Context) (place : ℕ) (o : OpenVertex) (c : Closed) (fs : List (ℕ × Frame)) (out after : List MarkedNode) → KeepsTypes old new → AreFramesOf old ctxs (frames_in fs)
    → length (positions o.ctor.now) ≤ o.next → added_at new c ≡ machine.added_of (opened_at old ctxs o) → given_at new c.given ≡ machine.given_of (opened_at old ctxs o)
    → after ≡ machine.add_at (added_at new c) out place
    → machine.deliver (given_at new c.given) (frames_at new ctxs fs) after ≡ machine.opened place (opened_at old ctxs o) (left_of o) (frames_at old ctxs fs) out
closes old new ctxs place o c fs out after keeps frames whole adds gives is =
    closes_at_once old new ctxs place (opened_at old ctxs o) c fs out after keeps frames adds gives is
    ∙ ap (λ ps. machine.opened place (opened_at old ctxs o) ps (frames_at old ctxs fs) out) (sym (left_none (positions o.ctor.now) o.next whole))

pub framed : (types : List Typ) (ctxs : List Context) (fs new : List Frame) (f : Frame) → AreFramesOf types ctxs fs → IsFrameOf types ctxs f → new ≡ fs ++ f ∷ [] → AreFramesOf types ctxs new
framed types ctxs fs new f all is pushed = subst (AreFramesOf types ctxs) (sym pushed) (are_frames-push types ctxs fs f all is)

pub placed : (types : List Typ) (ctxs : List Context) (fs new : List (ℕ × Frame)) (place : ℕ) (f : Frame) → AreFramesOf types ctxs (frames_in fs) → IsFrameOf types ctxs f → new ≡ fs ++ (place, f) ∷ []
    → AreFramesOf types ctxs (frames_in new)
placed types ctxs fs new place f all is pushed = framed types ctxs (frames_in fs) (frames_in new) f all is (ap frames_in pushed ∙ frames_in-push fs (place, f))

-- ---- something is given to a vertex

pub fills : (types : List Typ) (ctxs : List Context) (place : ℕ) (o : OpenVertex) (g : Given) (fs : List machine.Frame) (out : List MarkedNode) → IsOpenOf types ctxs o → o.next < length (positions o.ctor.now)
    → machine.opened place (opened_at types ctxs (filled_with g o)) (left_of (filled_with g o)) fs out ≡ machine.deliver (given_at types g) (frame_at types ctxs place (Open o) ∷ fs) out
fills types ctxs place o g fs out is some = by (left-cases (positions o.ctor.now) o.next some) where
  next_one : o.next + 1 ≡ suc o.next
  next_one = omega arith

  by : ((p : Position × Sort) × (qs : List (Position × Sort)) × (left_of o ≡ p ∷ qs))
      → machine.opened place (opened_at types ctxs (filled_with g o)) (left_of (filled_with g o)) fs out ≡ machine.deliver (given_at types g) (frame_at types ctxs place (Open o) ∷ fs) out
  by (p, qs, left) =
      ap (λ (v : machine.Opened). machine.opened place v (left_of (filled_with g o)) fs out) (opened_filled types ctxs g o is some)
      ∙ ap (λ ps. machine.opened place (machine.filled (given_at types g) (opened_at types ctxs o)) ps fs out)
      (ap (λ n. drop n (positions o.ctor.now)) next_one ∙ (one_more (positions o.ctor.now) o.next p qs left).1)
      ∙ sym (deliver-of (given_at types g) place (opened_at types ctxs o) p qs fs out)
      ∙ ap (λ ps. machine.deliver (given_at types g) (frame_of place (opened_at types ctxs o) ps ∷ fs) out) (sym left)

pub given_is : (types : List Typ) (ctxs : List Context) (f : Frame) (o r : OpenVertex) (g : Given) → f ≡ Open o → r ≡ filled_with g o → IsFrameOf types ctxs f → IsGivenOf types g → IsOpenOf types ctxs r
given_is types ctxs f o r g is made all given =
    let frame : IsFrameOf types ctxs (Open o) = subst (IsFrameOf types ctxs) is all in
    subst (IsOpenOf types ctxs) (sym made) (is_filled types ctxs g o frame.0 frame.1 given)

pub given_fills : (types : List Typ) (ctxs : List Context) (place : ℕ) (f : Frame) (o r : OpenVertex) (g : Given) (fs : List machine.Frame) (out : List MarkedNode) → f ≡ Open o → r ≡ filled_with g o
    → IsFrameOf types ctxs f → machine.opened place (opened_at types ctxs r) (left_of r) fs out ≡ machine.deliver (given_at types g) (frame_at types ctxs place f ∷ fs) out
given_fills types ctxs place f o r g fs out is made all =
    let frame : IsFrameOf types ctxs (Open o) = subst (IsFrameOf types ctxs) is all in
    ap (λ (v : OpenVertex). machine.opened place (opened_at types ctxs v) (left_of v) fs out) made
    ∙ fills types ctxs place o g fs out frame.0 frame.1
    ∙ ap (λ (x : Frame). machine.deliver (given_at types g) (frame_at types ctxs place x ∷ fs) out) (sym is)

-- ---- the innermost frame

here : (row : List (Position × Sort)) (i : ℕ) (p : Position × Sort) (ps : List (Position × Sort)) → drop i row ≡ p ∷ ps → slice_get row i ≡ Some p
here [] zero p ps e = absurd cc
here [] (suc i) p ps e = absurd cc
here (q ∷ row) zero p ps e = cc
here (q ∷ row) (suc i) p ps e = here row i p ps e

-- what is demanded at the position that comes next
pub next_of_open : (types : List Typ) (ctxs : List Context) (o : OpenVertex) → o.next < length (positions o.ctor.now)
    → machine.demanded_by (opened_at types ctxs o) (unwrap_or (sort_at_index o.ctor.now o.next) Top) ≡ machine.demanded_in (frame_at types ctxs 0 (Open o))
next_of_open types ctxs o some = by (left-cases (positions o.ctor.now) o.next some) where
  by : ((p : Position × Sort) × (qs : List (Position × Sort)) × (left_of o ≡ p ∷ qs))
      → machine.demanded_by (opened_at types ctxs o) (unwrap_or (sort_at_index o.ctor.now o.next) Top) ≡ machine.demanded_in (frame_at types ctxs 0 (Open o))
  by (p, qs, left) =
      ap (λ (s : Option Sort). machine.demanded_by (opened_at types ctxs o) (unwrap_or s Top)) (ap (option_map (λ q. q.1)) (here (positions o.ctor.now) o.next p qs left))
      ∙ ap (λ ps. machine.demanded_in (frame_of 0 (opened_at types ctxs o) ps)) (sym left)

-- where the nodes stand does not matter for what is demanded
demanded-place : (types : List Typ) (ctxs : List Context) (place : ℕ) (f : Frame) → machine.demanded_in (frame_at types ctxs 0 f) ≡ machine.demanded_in (frame_at types ctxs place f)
demanded-place types ctxs place (Several d n) = refl
demanded-place types ctxs place (Open o) = by (left_of o) where
  by : (ps : List (Position × Sort)) → machine.demanded_in (frame_of 0 (opened_at types ctxs o) ps) ≡ machine.demanded_in (frame_of place (opened_at types ctxs o) ps)
  by [] = refl
  by (p ∷ ps) = refl

last-cases : {X : Type 0} (xs : List X) → (xs ≡ []) ⊎ ((rest : List X) × (x : X) × (xs ≡ rest ++ x ∷ []))
last-cases [] = inl refl
last-cases {X} (x ∷ xs) = inr (by (last-cases xs)) where
  by : (xs ≡ []) ⊎ ((rest : List X) × (y : X) × (xs ≡ rest ++ y ∷ [])) → (rest : List X) × (y : X) × (x ∷ xs ≡ rest ++ y ∷ [])
  by (inl none) = ([], x, ap (λ ys. x ∷ ys) none)
  by (inr (rest, y, is)) = (x ∷ rest, y, ap (λ ys. x ∷ ys) is)

last-found : {X : Type 0} (xs : List X) (x : X) → slice_get (xs ++ x ∷ []) (length (xs ++ x ∷ []) - 1) ≡ Some x
last-found xs x =
    let before : length (xs ++ x ∷ []) - 1 ≡ length xs = omega (arith, length-append xs (x ∷ [])) in
    ap (slice_get (xs ++ x ∷ [])) before ∙ at xs
  where
    at : {X : Type 0} {x : X} (xs : List X) → slice_get (xs ++ x ∷ []) (length xs) ≡ Some x
    at [] = refl
    at (y ∷ ys) = at ys

pub last_is : (types : List Typ) (ctxs : List Context) (fs : List Frame) → AreFramesOf types ctxs fs → IfSome (slice_get fs (length fs - 1)) (IsFrameOf types ctxs)
last_is types ctxs fs all = by (last-cases fs) where
  by : (fs ≡ []) ⊎ ((rest : List Frame) × (f : Frame) × (fs ≡ rest ++ f ∷ [])) → IfSome (slice_get fs (length fs - 1)) (IsFrameOf types ctxs)
  by (inl none) = subst (λ (xs : List Frame). IfSome (slice_get xs (length xs - 1)) (IsFrameOf types ctxs)) (sym none) tt
  by (inr (rest, f, is)) =
      subst (λ (xs : List Frame). IfSome (slice_get xs (length xs - 1)) (IsFrameOf types ctxs)) (sym is)
      (subst (λ (x : Option Frame). IfSome x (IsFrameOf types ctxs)) (sym (last-found rest f)) (is_frame-pop types ctxs rest f (subst (AreFramesOf types ctxs) is all)))

pub last_in : (fs : List (ℕ × Frame)) → slice_get (frames_in fs) (length (frames_in fs) - 1) ≡ option_map (λ f. f.1) (slice_get fs (length fs - 1))
last_in fs = by (last-cases fs) where
  by : (fs ≡ []) ⊎ ((rest : List (ℕ × Frame)) × (f : ℕ × Frame) × (fs ≡ rest ++ f ∷ [])) → slice_get (frames_in fs) (length (frames_in fs) - 1) ≡ option_map (λ f. f.1) (slice_get fs (length fs - 1))
  by (inl none) = ap (λ (xs : List (ℕ × Frame)). slice_get (frames_in xs) (length (frames_in xs) - 1)) none ∙ ap (λ (xs : List (ℕ × Frame)). option_map (λ f. f.1) (slice_get xs (length xs - 1))) (sym none)
  by (inr (rest, f, is)) =
      ap (λ (xs : List (ℕ × Frame)). slice_get (frames_in xs) (length (frames_in xs) - 1)) is
      ∙ ap (λ (xs : List Frame). slice_get xs (length xs - 1)) (frames_in-push rest f) ∙ last-found (frames_in rest) f.1
      ∙ ap (option_map (λ f. f.1)) (sym (last-found rest f)) ∙ ap (λ (xs : List (ℕ × Frame)). option_map (λ f. f.1) (slice_get xs (length xs - 1))) (sym is)

-- what the innermost frame demands is what is demanded next
pub last_demands : (types : List Typ) (ctxs : List Context) (fs : List (ℕ × Frame)) → demanded_of types ctxs (option_map (λ f. f.1) (slice_get fs (length fs - 1))) ≡ machine.demanded_next (frames_at types ctxs fs)
last_demands types ctxs fs = by (last-cases fs) where
  by : (fs ≡ []) ⊎ ((rest : List (ℕ × Frame)) × (f : ℕ × Frame) × (fs ≡ rest ++ f ∷ []))
      → demanded_of types ctxs (option_map (λ f. f.1) (slice_get fs (length fs - 1))) ≡ machine.demanded_next (frames_at types ctxs fs)
  by (inl none) =
      ap (λ (xs : List (ℕ × Frame)). demanded_of types ctxs (option_map (λ f. f.1) (slice_get xs (length xs - 1)))) none ∙ ap (λ (xs : List (ℕ × Frame)). machine.demanded_next (frames_at types ctxs xs)) (sym none)
  by (inr (rest, f, is)) =
      ap (λ (xs : List (ℕ × Frame)). demanded_of types ctxs (option_map (λ f. f.1) (slice_get xs (length xs - 1)))) is
      ∙ ap (λ (x : Option (ℕ × Frame)). demanded_of types ctxs (option_map (λ f. f.1) x)) (last-found rest f)
      ∙ demanded-place types ctxs f.0 f.1
      ∙ ap machine.demanded_next (sym (frames_at-push types ctxs rest f)) ∙ ap (λ (xs : List (ℕ × Frame)). machine.demanded_next (frames_at types ctxs xs)) (sym is)

-- ---- a conflict

pub given_several : (types : List Typ) (ctxs : List Context) (place : ℕ) (f : Frame) (d : Demand) (n : ℕ) (g : machine.Given) (fs new : List (ℕ × Frame)) (out : List MarkedNode) → f ≡ Several d n → 1 < n
    → new ≡ fs ++ (place, Several d (n - 1)) ∷ [] → machine.at (frames_at types ctxs new) out ≡ machine.deliver g (frame_at types ctxs place f ∷ frames_at types ctxs fs) out
given_several types ctxs place f d n g fs new out is more pushed =
    ap (λ (xs : List (ℕ × Frame)). machine.at (frames_at types ctxs xs) out) pushed
    ∙ ap (λ xs. machine.at xs out) (frames_at-push types ctxs fs (place, Several d (n - 1)))
    ∙ one_less (demanded_at types ctxs d) n g (frames_at types ctxs fs) out more
    ∙ ap (λ (x : Frame). machine.deliver g (frame_at types ctxs place x ∷ frames_at types ctxs fs) out) (sym is)
  where
    one_less : (d : Demanded) (n : ℕ) (g : machine.Given) (fs : List machine.Frame) (out : List MarkedNode) → 1 < n → machine.at (machine.Several d (n - 1) ∷ fs) out ≡ machine.deliver g (machine.Several d n ∷ fs) out
    one_less d zero g fs out more = absurd (omega arith)
    one_less d (suc zero) g fs out more = absurd (omega arith)
    one_less d (suc (suc n)) g fs out more =
        let less : suc (suc n) - 1 ≡ suc n = omega arith in
        ap (λ k. machine.at (machine.Several d k ∷ fs) out) less

pub several_is : (types : List Typ) (ctxs : List Context) (f : Frame) (d : Demand) (n m : ℕ) → f ≡ Several d n → IsFrameOf types ctxs f → IsFrameOf types ctxs (Several d m)
several_is types ctxs f d n m is frame = subst (IsFrameOf types ctxs) is frame

none_left : (d : Demanded) (n : ℕ) (g : machine.Given) (fs : List machine.Frame) (out : List MarkedNode) → n ≤ 1 → machine.deliver machine.nothing fs out ≡ machine.deliver g (machine.Several d n ∷ fs) out
none_left d zero g fs out few = refl
none_left d (suc zero) g fs out few = refl
none_left d (suc (suc n)) g fs out few = absurd (omega arith)

pub given_last : (types : List Typ) (ctxs : List Context) (place : ℕ) (f : Frame) (d : Demand) (n : ℕ) (g h : machine.Given) (fs : List machine.Frame) (out : List MarkedNode) → f ≡ Several d n → n ≤ 1 → h ≡ machine.nothing
    → machine.deliver h fs out ≡ machine.deliver g (frame_at types ctxs place f ∷ fs) out
given_last types ctxs place f d n g h fs out is few gives =
    ap (λ x. machine.deliver x fs out) gives ∙ none_left (demanded_at types ctxs d) n g fs out few ∙ ap (λ (x : Frame). machine.deliver g (frame_at types ctxs place x ∷ fs) out) (sym is)

-- ---- a frame is taken off

pub popped : (types : List Typ) (ctxs : List Context) (fs rest : List (ℕ × Frame)) (place : ℕ) (f : Frame) (g : machine.Given) (out : List MarkedNode) → fs ≡ rest ++ (place, f) ∷ []
    → machine.deliver g (frame_at types ctxs place f ∷ frames_at types ctxs rest) out ≡ machine.deliver g (frames_at types ctxs fs) out
popped types ctxs fs rest place f g out is = ap (λ xs. machine.deliver g xs out) (sym (frames_at-push types ctxs rest (place, f)) ∙ ap (frames_at types ctxs) (sym is))

pub rest_are : (types : List Typ) (ctxs : List Context) (fs rest : List Frame) (f : Frame) → fs ≡ rest ++ f ∷ [] → AreFramesOf types ctxs fs → AreFramesOf types ctxs rest
rest_are types ctxs fs rest f is all = are_frames-pop types ctxs rest f (subst (AreFramesOf types ctxs) is all)

pub off_is : (types : List Typ) (ctxs : List Context) (fs rest : List Frame) (f : Frame) → fs ≡ rest ++ f ∷ [] → AreFramesOf types ctxs fs → IsFrameOf types ctxs f
off_is types ctxs fs rest f is all = is_frame-pop types ctxs rest f (subst (AreFramesOf types ctxs) is all)

-- the frame that is taken off, where each has a place
pub frame_off : (fs rest : List (ℕ × Frame)) (place : ℕ) (f : Frame) → fs ≡ rest ++ (place, f) ∷ [] → frames_in fs ≡ frames_in rest ++ f ∷ []
frame_off fs rest place f is = ap frames_in is ∙ frames_in-push rest (place, f)

-- the frame that is taken off has a place among all that have one
pub placed_off : (fs : List (ℕ × Frame)) (rest : List Frame) (f : Frame) → frames_in fs ≡ rest ++ f ∷ []
    → (place : ℕ) × (others : List (ℕ × Frame)) × (fs ≡ others ++ (place, f) ∷ []) × (frames_in others ≡ rest)
placed_off [] [] f is = absurd cc
placed_off [] (r ∷ rest) f is = absurd cc
placed_off (x ∷ []) [] f is = (x.0, [], ap (λ (g : Frame). (x.0, g) ∷ []) (same x.1 f [] [] is), refl) where
  same : (a b : Frame) (xs ys : List Frame) → a ∷ xs ≡ b ∷ ys → a ≡ b
  same a b xs ys e = cc
placed_off (x ∷ y ∷ fs) [] f is = absurd cc
placed_off (x ∷ fs) (r ∷ rest) f is = by (placed_off fs rest f (later x.1 r (frames_in fs) (rest ++ f ∷ []) is)) where
  same : (a b : Frame) (xs ys : List Frame) → a ∷ xs ≡ b ∷ ys → a ≡ b
  same a b xs ys e = cc

  later : (a b : Frame) (xs ys : List Frame) → a ∷ xs ≡ b ∷ ys → xs ≡ ys
  later a b xs ys e = cc

  by : ((place : ℕ) × (others : List (ℕ × Frame)) × (fs ≡ others ++ (place, f) ∷ []) × (frames_in others ≡ rest))
      → (place : ℕ) × (others : List (ℕ × Frame)) × (x ∷ fs ≡ others ++ (place, f) ∷ []) × (frames_in others ≡ r ∷ rest)
  by (place, others, joined, bare) =
      (place, x ∷ others, ap (λ xs. x ∷ xs) joined, ap (λ (g : Frame). g ∷ frames_in others) (same x.1 r (frames_in fs) (rest ++ f ∷ []) is) ∙ ap (λ gs. r ∷ gs) bare)

-- what is left to be handed on
abbrev pub pending : {F : Type 0} → Option Given → List F → ℕ
pending None fs = 0
pending (Some g) fs = suc (length fs)

-- ---- a node is begun

pub begins_vertex : (types : List Typ) (ctxs : List Context) (o : OpenVertex) (v : Vertex) (n : Node) (w : What) (d : Demanded) (fs : List machine.Frame) (out : List MarkedNode)
    → opened_at types ctxs o ≡ machine.fresh v.ctor d → left_of o ≡ positions v.ctor → w ≡ whats.Vertex v
    → machine.opened (length out) (opened_at types ctxs o) (left_of o) fs (out ++ machine.unsettled n ∷ []) ≡ machine.taken w n d fs out
begins_vertex types ctxs o v n w d fs out is left what =
    ap (λ ps. machine.opened (length out) (opened_at types ctxs o) ps fs (out ++ machine.unsettled n ∷ [])) left
    ∙ ap (λ (x : machine.Opened). machine.opened (length out) x (positions v.ctor) fs (out ++ machine.unsettled n ∷ [])) is
    ∙ ap (λ (x : What). machine.taken x n d fs out) (sym what)

pub begins_conflict : (types : List Typ) (ctxs : List Context) (place : ℕ) (e : Demand) (count : ℕ) (s : Sort) (n : Node) (w : What) (d : Demanded) (fs after : List (ℕ × Frame)) (out : List MarkedNode)
    → w ≡ whats.Conflict s count → demanded_at types ctxs e ≡ synthesised_in d → after ≡ fs ++ (place, Several e count) ∷ []
    → machine.at (frames_at types ctxs after) (out ++ marked_plain s d.wanted n ∷ []) ≡ machine.taken w n d (frames_at types ctxs fs) out
begins_conflict types ctxs place e count s n w d fs after out what each pushed =
    ap (λ (xs : List (ℕ × Frame)). machine.at (frames_at types ctxs xs) (out ++ marked_plain s d.wanted n ∷ [])) pushed
    ∙ ap (λ xs. machine.at xs (out ++ marked_plain s d.wanted n ∷ [])) (frames_at-push types ctxs fs (place, Several e count))
    ∙ ap (λ (x : Demanded). machine.at (machine.Several x count ∷ frames_at types ctxs fs) (out ++ marked_plain s d.wanted n ∷ [])) each
    ∙ ap (λ (x : What). machine.taken x n d (frames_at types ctxs fs) out) (sym what)
