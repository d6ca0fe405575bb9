-- What is open stands for the same over tables that keep the meaning of their numbers.
use Rattle.std.proofs.Common.{◌≡◌, ℕ, zero, suc, List, [], ◌∷◌, ◌++◌, map, take, Option, Some, None, IfSome, refl, sym, ap, subst, ◌∙◌, arith}
use Rattle.std.specs.Prelude.{slice_get}
use Rattle.std.specs.Option.{option_map}
use Rattle.std.proofs.lemmas.List.{map-append}
use Rattle.std.proofs.lemmas.List.Elements.{All-nil, All-cons, All-head, All-tail}
use Rattle.type_core.specs.declared.type_id.TypeId.{TypeId}
use Rattle.type_core.specs.Typ.{Typ}
use Rattle.type_core.specs.TypeTable.{IsTypeOf, type_at, KeepsTypes}
use Rattle.ctx_table.specs.declared.ctx_id.CtxId.{CtxId}
use Rattle.ctx_table.specs.Context.{Context}
use Rattle.ctx_table.specs.CtxTable.{IsContextOf, context_at, KeepsContexts}
use Rattle.mark_step.specs.declared.node.Mode.{Mode}
use Rattle.mark_step.specs.declared.node.Mode.TheVariants.{Syn, Ana}
use Rattle.mark_step.specs.declared.node.Demand.{Demand}
use Rattle.mark_step.specs.Scope.{Scope, scope_of, scope_at, IsTyped}
use Rattle.mark_step.specs.Expression.{Wanted, Analyse, Demanded}
use Rattle.mark_step.specs.Node.{wanted_at, demanded_at, IsModeOf, IsScopeOf, IsDemandOf}
use Rattle.judging.specs.declared.frame.Given.{Given}
use Rattle.judging.specs.declared.frame.OpenVertex.{OpenVertex}
use Rattle.judging.specs.declared.frame.Frame.{Frame}
use Rattle.judging.specs.declared.frame.Frame.TheVariants.{Open, Several}
use Rattle.judging.specs.Frames.{given_at, givens, given_before, opened_at, left_of, frame_of, frame_at, frames_at, frames_in, IsGivenOf, IsFilledOf, IsOpenOf, IsFrameOf, AreFramesOf}
use Rattle.judging.specs.Machine as machine

-- what holds of each element holds of each before a place
pub some_before : (P : Given → Type 0) (gs : List Given) (n : ℕ) → ((i : ℕ) → IfSome (slice_get gs i) P) → (i : ℕ) → IfSome (slice_get (take n gs) i) P
some_before P [] zero all i = all i
some_before P [] (suc n) all i = all i
some_before P (g ∷ gs) zero all i = tt
some_before P (g ∷ gs) (suc n) all zero = all 0
some_before P (g ∷ gs) (suc n) all (suc i) = some_before P gs n (λ j. all (suc j)) i

-- ---- tables

pub types-itself : (ts : List Typ) → KeepsTypes ts ts
types-itself ts = record { longer = omega arith; types = λ id h. refl }

pub contexts-itself : (cs : List Context) → KeepsContexts cs cs
contexts-itself cs = record { longer = omega arith; contexts = λ id h. refl }

pub types-then : (a b c : List Typ) → KeepsTypes a b → KeepsTypes b c → KeepsTypes a c
types-then a b c one two =
    let l = one.longer in
    let m = two.longer in
    record { longer = omega arith; types = λ id h. two.types id (number id h) ∙ one.types id h } where
      number : (id : TypeId) → IsTypeOf a id → IsTypeOf b id
      number id h = omega (arith, one.longer)

pub contexts-then : (a b c : List Context) → KeepsContexts a b → KeepsContexts b c → KeepsContexts a c
contexts-then a b c one two =
    let l = one.longer in
    let m = two.longer in
    record { longer = omega arith; contexts = λ id h. two.contexts id (number id h) ∙ one.contexts id h } where
      number : (id : CtxId) → IsContextOf a id → IsContextOf b id
      number id h = omega (arith, one.longer)

module _ (old new : List Typ) (keeps : KeepsTypes old new) where
  pub number_kept : (t : TypeId) → IsTypeOf old t → IsTypeOf new t
  number_kept t h = omega (arith, keeps.longer)

  pub mode_kept : (m : Mode) → IsModeOf old m → IsModeOf new m
  mode_kept Syn h = tt
  mode_kept (Ana t) h = number_kept t h

  pub wanted_kept : (m : Mode) → IsModeOf old m → wanted_at new m ≡ wanted_at old m
  wanted_kept Syn h = refl
  wanted_kept (Ana t) h = ap Analyse (keeps.types t h)

  typed_kept : (ctx : Context) → IsTyped old ctx → IsTyped new ctx
  typed_kept [] all = All-nil (λ b. IsTypeOf new b.1)
  typed_kept (b ∷ bs) all =
      All-cons (λ b. IsTypeOf new b.1) b bs (number_kept b.1 (All-head (λ b. IsTypeOf old b.1) b bs all)) (typed_kept bs (All-tail (λ b. IsTypeOf old b.1) b bs all))

  scope_of-kept : (ctx : Context) → IsTyped old ctx → scope_of new ctx ≡ scope_of old ctx
  scope_of-kept [] all = refl
  scope_of-kept (b ∷ bs) all =
      ap (λ t. (b.0, t) ∷ scope_of new bs) (keeps.types b.1 (All-head (λ b. IsTypeOf old b.1) b bs all))
      ∙ ap (λ bindings. (b.0, type_at old b.1) ∷ bindings) (scope_of-kept bs (All-tail (λ b. IsTypeOf old b.1) b bs all))

  pub some_number_kept : (o : Option TypeId) → IfSome o (IsTypeOf old) → IfSome o (IsTypeOf new)
  some_number_kept None h = tt
  some_number_kept (Some t) h = number_kept t h

  pub given_kept : (g : Given) → IsGivenOf old g → given_at new g ≡ given_at old g
  given_kept g h = ap (λ t. record { typ = t; name = option_map (λ n. n.now) g.name }) (keeps.types g.typ h)

  some_given_kept : (o : Option Given) → IfSome o (IsGivenOf old) → IfSome o (IsGivenOf new)
  some_given_kept None h = tt
  some_given_kept (Some g) h = number_kept g.typ h

  nothing_kept : (o : Option Given) → IfSome o (IsGivenOf old) → IfSome o (λ g. given_at old g ≡ machine.nothing) → IfSome o (λ g. given_at new g ≡ machine.nothing)
  nothing_kept None number none = tt
  nothing_kept (Some g) number none = given_kept g number ∙ none

  pub filled_kept : (o : OpenVertex) → IsFilledOf old o → IsFilledOf new o
  filled_kept o h = record {
    numbers = λ i. some_given_kept (slice_get (givens o.given) i) (h.numbers i);
    rest = λ i le. nothing_kept (slice_get (givens o.given) i) (h.numbers i) (h.rest i le);
    within = h.within;
  }

  givens_kept : (gs : List Given) → ((i : ℕ) → IfSome (slice_get gs i) (IsGivenOf old)) → map (given_at new) gs ≡ map (given_at old) gs
  givens_kept [] all = refl
  givens_kept (g ∷ gs) all = ap (λ x. x ∷ map (given_at new) gs) (given_kept g (all 0)) ∙ ap (λ xs. given_at old g ∷ xs) (givens_kept gs (λ i. all (suc i)))

module _ (old new : List Typ) (oldc newc : List Context) (keeps : KeepsTypes old new) (keepsc : KeepsContexts oldc newc) where
  pub scope_kept : (id : CtxId) → IsScopeOf old oldc id → IsScopeOf new newc id
  scope_kept id h = record {
    context = omega (arith, keepsc.longer, h.context);
    typed = subst (IsTyped new) (sym (keepsc.contexts id h.context)) (typed_kept old new keeps (context_at oldc id) h.typed);
  }

  pub scope_at-kept : (id : CtxId) → IsScopeOf old oldc id → scope_at new newc id ≡ scope_at old oldc id
  scope_at-kept id h = ap (scope_of new) (keepsc.contexts id h.context) ∙ scope_of-kept old new keeps (context_at oldc id) h.typed

  pub demand_kept : (d : Demand) → IsDemandOf old oldc d → IsDemandOf new newc d
  demand_kept d h = record { ctx = scope_kept d.ctx h.ctx; mode = mode_kept old new keeps d.mode h.mode }

  pub demanded_at-kept : (d : Demand) → IsDemandOf old oldc d → demanded_at new newc d ≡ demanded_at old oldc d
  demanded_at-kept d h =
      ap (λ (s : Scope). record { scope = s; wanted = wanted_at new d.mode }) (scope_at-kept d.ctx h.ctx)
      ∙ ap (λ (w : Wanted). record { scope = scope_at old oldc d.ctx; wanted = w }) (wanted_kept old new keeps d.mode h.mode)

  pub open_kept : (o : OpenVertex) → IsOpenOf old oldc o → IsOpenOf new newc o
  open_kept o h = record { demand = demand_kept o.demand h.demand; filled = filled_kept old new keeps o h.filled }

  pub opened_at-kept : (o : OpenVertex) → IsOpenOf old oldc o → opened_at new newc o ≡ opened_at old oldc o
  opened_at-kept o h =
      ap (λ (d : Demanded). record { ctor = o.ctor.now; demanded = d; given = map (given_at new) (given_before o) }) (demanded_at-kept o.demand h.demand)
      ∙ ap (λ (gs : List machine.Given). record { ctor = o.ctor.now; demanded = demanded_at old oldc o.demand; given = gs })
      (givens_kept old new keeps (given_before o) (some_before (IsGivenOf old) (givens o.given) o.next h.filled.numbers))

  pub frame_kept : (f : Frame) → IsFrameOf old oldc f → IsFrameOf new newc f
  frame_kept (Open o) h = (open_kept o h.0, h.1)
  frame_kept (Several d n) h = demand_kept d h

  pub frame_at-kept : (place : ℕ) (f : Frame) → IsFrameOf old oldc f → frame_at new newc place f ≡ frame_at old oldc place f
  frame_at-kept place (Open o) h = ap (λ (v : machine.Opened). frame_of place v (left_of o)) (opened_at-kept o h.0)
  frame_at-kept place (Several d n) h = ap (λ (x : Demanded). machine.Several x n) (demanded_at-kept d h)

  pub frames_kept : (fs : List Frame) → AreFramesOf old oldc fs → AreFramesOf new newc fs
  frames_kept [] all = tt
  frames_kept (f ∷ fs) all = (frame_kept f all.0, frames_kept fs all.1)

  pub frames_at-kept : (fs : List (ℕ × Frame)) → AreFramesOf old oldc (frames_in fs) → frames_at new newc fs ≡ frames_at old oldc fs
  frames_at-kept [] all = refl
  frames_at-kept (f ∷ fs) all = ap (λ xs. xs ++ frame_at new newc f.0 f.1 ∷ []) (frames_at-kept fs all.1) ∙ ap (λ x. frames_at old oldc fs ++ x ∷ []) (frame_at-kept f.0 f.1 all.0)

-- ---- pushing and taking off

module _ (types : List Typ) (ctxs : List Context) where
  pub frames_at-push : (fs : List (ℕ × Frame)) (f : ℕ × Frame) → frames_at types ctxs (fs ++ f ∷ []) ≡ frame_at types ctxs f.0 f.1 ∷ frames_at types ctxs fs
  frames_at-push [] f = refl
  frames_at-push (g ∷ fs) f = ap (λ xs. xs ++ frame_at types ctxs g.0 g.1 ∷ []) (frames_at-push fs f)

  pub are_frames-push : (fs : List Frame) (f : Frame) → AreFramesOf types ctxs fs → IsFrameOf types ctxs f → AreFramesOf types ctxs (fs ++ f ∷ [])
  are_frames-push [] f all is = (is, tt)
  are_frames-push (g ∷ fs) f all is = (all.0, are_frames-push fs f all.1 is)

  pub are_frames-pop : (fs : List Frame) (f : Frame) → AreFramesOf types ctxs (fs ++ f ∷ []) → AreFramesOf types ctxs fs
  are_frames-pop [] f all = tt
  are_frames-pop (g ∷ fs) f all = (all.0, are_frames-pop fs f all.1)

  pub is_frame-pop : (fs : List Frame) (f : Frame) → AreFramesOf types ctxs (fs ++ f ∷ []) → IsFrameOf types ctxs f
  is_frame-pop [] f all = all.0
  is_frame-pop (g ∷ fs) f all = is_frame-pop fs f all.1

pub frames_in-push : (fs : List (ℕ × Frame)) (f : ℕ × Frame) → frames_in (fs ++ f ∷ []) ≡ frames_in fs ++ f.1 ∷ []
frames_in-push fs f = map-append (λ (x : ℕ × Frame). x.1) fs (f ∷ [])
