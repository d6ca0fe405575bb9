-- What the walk stands for, step by step.
use Rattle.std.proofs.Common.{◌≡◌, ◌↔◌, ℕ, zero, suc, ◌<◌, ◌≤◌, ◌⊎◌, inl, inr, Bool, true, false, List, [], ◌∷◌, ◌++◌, length, drop, Option, Some, None, refl, sym, ap, subst, ◌∙◌, arith, length-append}
use Rattle.std.specs.Prelude.{◌||◌, ◌-◌, slice_get, Result, Ok, Err, IfOk, OnOk}
use Rattle.grove_sorts.specs.declared.position.Position.{Position}
use Rattle.grove_sorts.specs.declared.sort.Sort.{Sort}
use Rattle.grove_sorts.specs.declared.ctor.Ctor.{Ctor}
use Rattle.grove_sorts.specs.Ctor.{positions, sort_of_ctor}
use Rattle.type_core.specs.Typ.{Typ}
use Rattle.type_core.specs.TypeTable.{KeepsTypes}
use Rattle.ctx_table.specs.Context.{Context}
use Rattle.ctx_table.specs.CtxTable.{KeepsContexts}
use Rattle.grove_edits.specs.declared.vertex.Vertex.{Vertex}
use Rattle.edit_table.specs.declared.lent_vertex.LentVertex.{LentVertex}
use Rattle.edit_table.specs.Lent.{lent_vertex}
use Rattle.grove_terms.specs.declared.node.Node.{Node}
use Rattle.grove_terms.specs.declared.node.What.{What}
use Rattle.grove_terms.specs.declared.node.What.TheVariants as whats
use Rattle.grove_terms.specs.declared.node.LentWhat.{LentWhat}
use Rattle.grove_terms.specs.declared.node.LentWhat.TheVariants as lent
use Rattle.grove_terms.specs.Lent.{what_of}
use Rattle.mark_step.specs.declared.node.Demand.{Demand}
use Rattle.mark_step.specs.Expression.{Demanded, has_mark}
use Rattle.mark_step.specs.Node.{demanded_at}
use Rattle.marking.specs.Marking.{MarkedNode, HasNoMark, marked_plain, synthesised_in}
use Rattle.judging.specs.declared.frame.Given.{Given}
use Rattle.judging.specs.declared.frame.OpenVertex.{OpenVertex}
use Rattle.judging.specs.declared.frame.Frame.{Frame}
use Rattle.judging.specs.declared.frame.Frame.TheVariants.{Open, Several}
use Rattle.judging.specs.declared.frame.Closed.{Closed}
use Rattle.judging.specs.Machine as machine
use Rattle.judging.specs.Frames.{given_at, opened_at, left_of, frame_at, frames_at, frames_in, demanded_of, added_at, filled_with, IsFrameOf, AreFramesOf}
use Rattle.judging.proofs.Kept.{contexts-itself, frames_at-push, frames_in-push, frames_at-kept}
use Rattle.judging.proofs.Frames.{stays_open, left_none, closes_at_once, given_fills, given_several, given_last, placed_off, last_in, last_demands, begins_conflict}
use Rattle.plain_typing.specs.declared.walking.Walk.{Walk}
use Rattle.plain_typing.specs.Walking.{IsUnmarkedAt, AreUnsettled, IsNoted, given_on, StandsFor}
use Rattle.plain_typing.proofs.Unmarked.{unmarked_plain}
use Rattle.plain_typing.proofs.Places.{unmarked-last, unmarked-within, no_mark-added, no_mark-push, length-added, unsettled-more, unsettled-push, unsettled-added, unsettled-open, unsettled-first}

-- a frame is put on, where all have places
put_on : (fs : List (ℕ × Frame)) (old new : List Frame) (place : ℕ) (f : Frame) → frames_in fs ≡ old → new ≡ old ++ f ∷ [] → frames_in (fs ++ (place, f) ∷ []) ≡ new
put_on fs old new place f open_here pushed = frames_in-push fs (place, f) ∙ ap (λ xs. xs ++ f ∷ []) open_here ∙ sym pushed

stands_for : (types : List Typ) (ctxs : List Context) (g : Option Given) (walk : Walk) (s t : machine.State) → s ≡ t → StandsFor types ctxs g walk s → StandsFor types ctxs g walk t
stands_for types ctxs g walk s t same stands = subst (StandsFor types ctxs g walk) same stands

-- ---- a vertex is opened or closed

pub stands_open : (types : List Typ) (ctxs : List Context) (o : OpenVertex) (walk after : Walk) (place : ℕ) (fs : List (ℕ × Frame)) (nodes : List MarkedNode) → o.next < length (positions o.ctor.now)
    → after.frames.items ≡ walk.frames.items ++ Open o ∷ [] → after.has_mark ≡ walk.has_mark
    → frames_in fs ≡ walk.frames.items → IsUnmarkedAt nodes place → AreUnsettled place (frames_at types ctxs fs) nodes → IsNoted walk nodes
    → StandsFor types ctxs None after (machine.opened place (opened_at types ctxs o) (left_of o) (frames_at types ctxs fs) nodes)
stands_open types ctxs o walk after place fs nodes some pushed same open_here is are noted = record {
  frames = fs ++ (place, Open o) ∷ [];
  nodes = nodes;
  open_here = put_on fs walk.frames.items after.frames.items place (Open o) open_here pushed;
  comes_to = stays_open types ctxs place o fs (fs ++ (place, Open o) ∷ []) nodes some refl;
  unsettled = subst (λ xs. AreUnsettled (length nodes) xs nodes) (sym (frames_at-push types ctxs fs (place, Open o)))
      (unsettled-open place (opened_at types ctxs o) (left_of o) (length nodes) (frames_at types ctxs fs) nodes (unmarked-within nodes place is) is are);
  noted = (λ h. noted.0 (sym same ∙ h), λ h. same ∙ noted.1 h);
}

noted-or : (b mark : Bool) (Clean : Type 0) → ((b ≡ false) ↔ Clean) → ((b || mark) ≡ false) ↔ (Clean × (mark ≡ false))
noted-or true mark Clean noted = (λ h. absurd cc, λ h. noted.1 h.0)
noted-or false mark Clean noted = (λ h. (noted.0 refl, h), λ h. h.1)

-- a vertex without positions is closed at once
pub stands_at_once : (old new : List Typ) (ctxs : List Context) (v : machine.Opened) (c : Closed) (walk after : Walk) (place : ℕ) (fs : List (ℕ × Frame)) (nodes : List MarkedNode) → KeepsTypes old new
    → AreFramesOf old ctxs walk.frames.items → added_at new c ≡ machine.added_of v → given_at new c.given ≡ machine.given_of v
    → after.frames.items ≡ walk.frames.items → after.has_mark ≡ (walk.has_mark || has_mark c.mark)
    → frames_in fs ≡ walk.frames.items → IsUnmarkedAt nodes place → AreUnsettled place (frames_at old ctxs fs) nodes → IsNoted walk nodes
    → StandsFor new ctxs (Some c.given) after (machine.opened place v [] (frames_at old ctxs fs) nodes)
stands_at_once old new ctxs v c walk after place fs nodes keeps frames adds gives stay marks open_here is are noted =
    let added : machine.Added = added_at new c in
    let later : List MarkedNode = machine.add_at added nodes place in
    let both = noted-or walk.has_mark (has_mark c.mark) (HasNoMark nodes) noted in
    let put = no_mark-added nodes place added is in
    let low : place ≤ length later = omega (arith, unmarked-within nodes place is, length-added nodes place added) in
    let numbers : AreFramesOf old ctxs (frames_in fs) = subst (AreFramesOf old ctxs) (sym open_here) frames in
    record {
      frames = fs;
      nodes = later;
      open_here = open_here ∙ sym stay;
      comes_to = closes_at_once old new ctxs place v c fs nodes later keeps numbers adds gives refl;
      unsettled = subst (λ xs. AreUnsettled (length later) xs later) (sym (frames_at-kept old new ctxs ctxs keeps (contexts-itself ctxs) fs numbers))
          (unsettled-more place (length later) (frames_at old ctxs fs) later low (unsettled-added place (frames_at old ctxs fs) nodes place added (omega arith) are));
      noted = (λ h. put.0 (both.0 (sym marks ∙ h)), λ h. marks ∙ both.1 (put.1 h));
    }

pub stands_closed : (old new : List Typ) (ctxs : List Context) (o : OpenVertex) (c : Closed) (walk after : Walk) (place : ℕ) (fs : List (ℕ × Frame)) (nodes : List MarkedNode) → KeepsTypes old new
    → AreFramesOf old ctxs walk.frames.items → length (positions o.ctor.now) ≤ o.next → added_at new c ≡ machine.added_of (opened_at old ctxs o)
    → given_at new c.given ≡ machine.given_of (opened_at old ctxs o) → after.frames.items ≡ walk.frames.items → after.has_mark ≡ (walk.has_mark || has_mark c.mark)
    → frames_in fs ≡ walk.frames.items → IsUnmarkedAt nodes place → AreUnsettled place (frames_at old ctxs fs) nodes → IsNoted walk nodes
    → StandsFor new ctxs (Some c.given) after (machine.opened place (opened_at old ctxs o) (left_of o) (frames_at old ctxs fs) nodes)
stands_closed old new ctxs o c walk after place fs nodes keeps frames whole adds gives stay marks open_here is are noted =
    stands_for new ctxs (Some c.given) after _ (machine.opened place (opened_at old ctxs o) (left_of o) (frames_at old ctxs fs) nodes)
    (ap (λ ps. machine.opened place (opened_at old ctxs o) ps (frames_at old ctxs fs) nodes) (sym (left_none (positions o.ctor.now) o.next whole)))
    (stands_at_once old new ctxs (opened_at old ctxs o) c walk after place fs nodes keeps frames adds gives stay marks open_here is are noted)

-- ---- something is given to the innermost frame

left_some : (ps : List (Position × Sort)) (i : ℕ) → i < length ps → drop i ps ≡ [] → ⊥
left_some [] i lt none = absurd (omega (arith, lt))
left_some (p ∷ ps) zero lt none = cc
left_some (p ∷ ps) (suc i) lt none = left_some ps i (omega (arith, lt)) none

-- the innermost vertex is open at its place
first_open : (types : List Typ) (ctxs : List Context) (place : ℕ) (f : Frame) (o : OpenVertex) (below : ℕ) (fs : List machine.Frame) (nodes : List MarkedNode)
    → f ≡ Open o → IsFrameOf types ctxs f → AreUnsettled below (frame_at types ctxs place f ∷ fs) nodes → IsUnmarkedAt nodes place × AreUnsettled place fs nodes
first_open types ctxs place f o below fs nodes is frame are =
    let some : IsFrameOf types ctxs (Open o) = subst (IsFrameOf types ctxs) is frame in
    unsettled-first place (opened_at types ctxs o) (left_of o) below fs nodes (left_some (positions o.ctor.now) o.next some.1)
    (subst (λ (x : Frame). AreUnsettled below (frame_at types ctxs place x ∷ fs) nodes) is are)

-- what a vertex comes to of which these positions are left
abbrev pub OpensTo : List Typ → List Typ → List Context → Walk → machine.Opened → List (Position × Sort) → Option Given → Walk → Type 0
OpensTo old new ctxs walk v left given after = (place : ℕ) (fs : List (ℕ × Frame)) (nodes : List MarkedNode)
    → frames_in fs ≡ walk.frames.items → IsUnmarkedAt nodes place → AreUnsettled place (frames_at old ctxs fs) nodes → IsNoted walk nodes
    → StandsFor new ctxs given after (machine.opened place v left (frames_at old ctxs fs) nodes)

-- what a vertex comes to that is gone on with
abbrev pub GoesOn : List Typ → List Typ → List Context → Walk → OpenVertex → Option Given → Walk → Type 0
GoesOn old new ctxs walk o given after = OpensTo old new ctxs walk (opened_at old ctxs o) (left_of o) given after

-- what a frame makes of what it is given
abbrev pub Passes : List Typ → List Typ → List Context → Walk → Frame → Given → Option Given → Walk → Type 0
Passes old new ctxs walk f g given after = (place : ℕ) (fs : List (ℕ × Frame)) (nodes : List MarkedNode)
    → frames_in fs ≡ walk.frames.items → AreUnsettled (length nodes) (frame_at old ctxs place f ∷ frames_at old ctxs fs) nodes → IsNoted walk nodes
    → StandsFor new ctxs given after (machine.deliver (given_at old g) (frame_at old ctxs place f ∷ frames_at old ctxs fs) nodes)

-- a vertex is filled, and gone on with
pub stands_filled : (old new : List Typ) (ctxs : List Context) (f : Frame) (o r : OpenVertex) (g : Given) (walk after : Walk) {E : Type 0} (given : Result (Option Given) E)
    → f ≡ Open o → r ≡ filled_with g o → IsFrameOf old ctxs f → IfOk given (λ x. GoesOn old new ctxs walk r x after) → IfOk given (λ x. Passes old new ctxs walk f g x after)
stands_filled old new ctxs f o r g walk after (Err e) is made frame goes = tt
stands_filled old new ctxs f o r g walk after (Ok x) is made frame goes = λ place fs nodes open_here are noted.
    let first = first_open old ctxs place f o (length nodes) (frames_at old ctxs fs) nodes is frame are in
    stands_for new ctxs x after (machine.opened place (opened_at old ctxs r) (left_of r) (frames_at old ctxs fs) nodes) (machine.deliver (given_at old g) (frame_at old ctxs place f ∷ frames_at old ctxs fs) nodes)
    (given_fills old ctxs place f o r g (frames_at old ctxs fs) nodes is made frame) (goes place fs nodes open_here first.0 first.1 noted)

-- ---- a conflict

under_conflict : (types : List Typ) (ctxs : List Context) (place : ℕ) (f : Frame) (d : Demand) (n below : ℕ) (fs : List machine.Frame) (nodes : List MarkedNode) → f ≡ Several d n
    → AreUnsettled below (frame_at types ctxs place f ∷ fs) nodes → AreUnsettled below fs nodes
under_conflict types ctxs place f d n below fs nodes is are = subst (λ (x : Frame). AreUnsettled below (frame_at types ctxs place x ∷ fs) nodes) is are

-- a conflict has more children
pub stands_several : (types : List Typ) (ctxs : List Context) (f : Frame) (d : Demand) (n : ℕ) (g : Given) (walk after : Walk)
    → f ≡ Several d n → 1 < n → after.frames.items ≡ walk.frames.items ++ Several d (n - 1) ∷ [] → after.has_mark ≡ walk.has_mark → Passes types types ctxs walk f g None after
stands_several types ctxs f d n g walk after is more pushed same = λ place fs nodes open_here are noted. record {
  frames = fs ++ (place, Several d (n - 1)) ∷ [];
  nodes = nodes;
  open_here = put_on fs walk.frames.items after.frames.items place (Several d (n - 1)) open_here pushed;
  comes_to = given_several types ctxs place f d n (given_at types g) fs (fs ++ (place, Several d (n - 1)) ∷ []) nodes is more refl;
  unsettled = subst (λ xs. AreUnsettled (length nodes) xs nodes) (sym (frames_at-push types ctxs fs (place, Several d (n - 1))))
      (under_conflict types ctxs place f d n (length nodes) (frames_at types ctxs fs) nodes is are);
  noted = (λ h. noted.0 (sym same ∙ h), λ h. same ∙ noted.1 h);
}

-- and where it has no more, it gives nothing
pub stands_last : (types : List Typ) (ctxs : List Context) (f : Frame) (d : Demand) (n : ℕ) (g h : Given) (walk : Walk)
    → f ≡ Several d n → n ≤ 1 → given_at types h ≡ machine.nothing → Passes types types ctxs walk f g (Some h) walk
stands_last types ctxs f d n g h walk is few gives = λ place fs nodes open_here are noted. record {
  frames = fs;
  nodes = nodes;
  open_here = open_here;
  comes_to = given_last types ctxs place f d n (given_at types g) (given_at types h) (frames_at types ctxs fs) nodes is few gives;
  unsettled = under_conflict types ctxs place f d n (length nodes) (frames_at types ctxs fs) nodes is are;
  noted = noted;
}

-- ---- what is given is handed on

-- what a frame makes of what it is given, for the walk that had the frame
pub stands_passed : (old new : List Typ) (ctxs : List Context) (p next : Option Given) (g : Given) (f : Frame) (walk rest after : Walk)
    → p ≡ Some g → walk.frames.items ≡ rest.frames.items ++ f ∷ [] → rest.has_mark ≡ walk.has_mark → Passes old new ctxs rest f g next after
    → (s : machine.State) → StandsFor old ctxs p walk s → StandsFor new ctxs next after s
stands_passed old new ctxs p next g f walk rest after is popped same passes s stands =
    by (placed_off stands.frames rest.frames.items f (stands.open_here ∙ popped)) where
      nodes : List MarkedNode
      nodes = stands.nodes

      by : ((place : ℕ) × (others : List (ℕ × Frame)) × (stands.frames ≡ others ++ (place, f) ∷ []) × (frames_in others ≡ rest.frames.items)) → StandsFor new ctxs next after s
      by (place, others, joined, open_here) =
          let fs : frames_at old ctxs stands.frames ≡ frame_at old ctxs place f ∷ frames_at old ctxs others = ap (frames_at old ctxs) joined ∙ frames_at-push old ctxs others (place, f) in
          let to : machine.deliver (given_at old g) (frame_at old ctxs place f ∷ frames_at old ctxs others) nodes ≡ s =
          ap (λ xs. machine.deliver (given_at old g) xs nodes) (sym fs) ∙ ap (λ (o : Option Given). given_on old o (frames_at old ctxs stands.frames) nodes) (sym is) ∙ stands.comes_to in
          stands_for new ctxs next after (machine.deliver (given_at old g) (frame_at old ctxs place f ∷ frames_at old ctxs others) nodes) s to
          (passes place others nodes open_here (subst (λ xs. AreUnsettled (length nodes) xs nodes) fs stands.unsettled) (λ h. stands.noted.0 (sym same ∙ h), λ h. same ∙ stands.noted.1 h))

-- ---- a node is begun

-- a vertex of which nothing is judged yet is gone on with
pub stands_fresh : (old new : List Typ) (ctxs : List Context) (o : OpenVertex) (ctor : Ctor) (d : Demanded) (walk after : Walk) {E : Type 0} (given : Result (Option Given) E)
    → opened_at old ctxs o ≡ machine.fresh ctor d → left_of o ≡ positions ctor → IfOk given (λ x. GoesOn old new ctxs walk o x after)
    → IfOk given (λ x. OpensTo old new ctxs walk (machine.fresh ctor d) (positions ctor) x after)
stands_fresh old new ctxs o ctor d walk after (Err e) is left goes = tt
stands_fresh old new ctxs o ctor d walk after (Ok x) is left goes = λ place fs nodes open_here unmarked are noted.
    stands_for new ctxs x after _ (machine.opened place (machine.fresh ctor d) (positions ctor) (frames_at old ctxs fs) nodes)
    (ap (λ (v : machine.Opened). machine.opened place v (left_of o) (frames_at old ctxs fs) nodes) is
    ∙ ap (λ ps. machine.opened place (machine.fresh ctor d) ps (frames_at old ctxs fs) nodes) left)
    (goes place fs nodes open_here unmarked are noted)

stands_begun : (types new : List Typ) (ctxs : List Context) (v : Vertex) (n : Node) (w : What) (d : Demanded) (given : Option Given) (walk after : Walk)
    → w ≡ whats.Vertex v → OpensTo types new ctxs walk (machine.fresh v.ctor d) (positions v.ctor) given after
    → (s : machine.State) → StandsFor types ctxs None walk s → StandsFor new ctxs given after (machine.taken w n d s.frames s.out)
stands_begun types new ctxs v n w d given walk after what goes s stands =
    let nodes : List MarkedNode = stands.nodes in
    let fs : List machine.Frame = frames_at types ctxs stands.frames in
    let push = no_mark-push nodes (machine.unsettled n) refl in
    let to = ap (λ (x : What). machine.taken x n d fs nodes) (sym what) ∙ ap (λ (x : machine.State). machine.taken w n d x.frames x.out) stands.comes_to in
    stands_for new ctxs given after _ (machine.taken w n d s.frames s.out) to
    (goes (length nodes) stands.frames (nodes ++ machine.unsettled n ∷ []) stands.open_here (unmarked-last nodes (machine.unsettled n) refl)
    (unsettled-push (length nodes) fs nodes (machine.unsettled n ∷ []) stands.unsettled)
    (λ h. push.0 (stands.noted.0 h), λ h. stands.noted.1 (push.1 h)))

-- a vertex is begun
pub stands_begun_with : (old new : List Typ) (ctxs : List Context) (v : Vertex) (n : Node) (w : What) (d : Demanded) (walk after : Walk) {E : Type 0} (given : Result (Option Given) E)
    → w ≡ whats.Vertex v → IfOk given (λ x. OpensTo old new ctxs walk (machine.fresh v.ctor d) (positions v.ctor) x after)
    → IfOk given (λ x. (s : machine.State) → StandsFor old ctxs None walk s → StandsFor new ctxs x after (machine.taken w n d s.frames s.out))
stands_begun_with old new ctxs v n w d walk after (Err e) what goes = tt
stands_begun_with old new ctxs v n w d walk after (Ok x) what goes = stands_begun old new ctxs v n w d x walk after what goes

grown : (fs : List machine.Frame) (nodes : List MarkedNode) (m : MarkedNode) → AreUnsettled (length nodes) fs nodes → AreUnsettled (length (nodes ++ m ∷ [])) fs (nodes ++ m ∷ [])
grown fs nodes m are = unsettled-push (length (nodes ++ m ∷ [])) fs nodes (m ∷ []) (unsettled-more (length nodes) (length (nodes ++ m ∷ [])) fs nodes (omega (arith, length-append nodes (m ∷ []))) are)

-- a conflict begins
pub stands_conflict : (types : List Typ) (ctxs : List Context) (e : Demand) (count : ℕ) (sort : Sort) (n : Node) (w : What) (d : Demanded) (walk after : Walk)
    → w ≡ whats.Conflict sort count → demanded_at types ctxs e ≡ synthesised_in d → after.frames.items ≡ walk.frames.items ++ Several e count ∷ [] → after.has_mark ≡ walk.has_mark
    → (s : machine.State) → StandsFor types ctxs None walk s → StandsFor types ctxs None after (machine.taken w n d s.frames s.out)
stands_conflict types ctxs e count sort n w d walk after what each pushed same s stands =
    let nodes : List MarkedNode = stands.nodes in
    let m : MarkedNode = marked_plain sort d.wanted n in
    let place : ℕ = length nodes in
    let fs : List (ℕ × Frame) = stands.frames ++ (place, Several e count) ∷ [] in
    let push = no_mark-push nodes m (unmarked_plain sort d.wanted n) in
    record {
      frames = fs;
      nodes = nodes ++ m ∷ [];
      open_here = put_on stands.frames walk.frames.items after.frames.items place (Several e count) stands.open_here pushed;
      comes_to = begins_conflict types ctxs place e count sort n w d stands.frames fs nodes what each refl
          ∙ ap (λ (x : machine.State). machine.taken w n d x.frames x.out) stands.comes_to;
      unsettled = subst (λ xs. AreUnsettled (length (nodes ++ m ∷ [])) xs (nodes ++ m ∷ [])) (sym (frames_at-push types ctxs stands.frames (place, Several e count)))
          (grown (frames_at types ctxs stands.frames) nodes m stands.unsettled);
      noted = (λ h. push.0 (stands.noted.0 (sym same ∙ h)), λ h. same ∙ stands.noted.1 (push.1 h));
    }

-- a node without children gives nothing
stands_plain : (types : List Typ) (ctxs : List Context) (g : Given) (walk : Walk) (sort : Sort) (n : Node) (d : Demanded) → given_at types g ≡ machine.nothing
    → (s : machine.State) → StandsFor types ctxs None walk s → StandsFor types ctxs (Some g) walk (machine.deliver machine.nothing s.frames (s.out ++ marked_plain sort d.wanted n ∷ []))
stands_plain types ctxs g walk sort n d gives s stands =
    let nodes : List MarkedNode = stands.nodes in
    let m : MarkedNode = marked_plain sort d.wanted n in
    let push = no_mark-push nodes m (unmarked_plain sort d.wanted n) in
    record {
      frames = stands.frames;
      nodes = nodes ++ m ∷ [];
      open_here = stands.open_here;
      comes_to = ap (λ x. machine.deliver x (frames_at types ctxs stands.frames) (nodes ++ m ∷ [])) gives
          ∙ ap (λ (x : machine.State). machine.deliver machine.nothing x.frames (x.out ++ m ∷ [])) stands.comes_to;
      unsettled = grown (frames_at types ctxs stands.frames) nodes m stands.unsettled;
      noted = (λ h. push.0 (stands.noted.0 h), λ h. stands.noted.1 (push.1 h));
    }

-- what a lent hole or reference stands for is one
pub leaf_of : (w : LentWhat) (n : What) → what_of w ≡ n → ((sort : Sort) × (w ≡ lent.Hole sort)) ⊎ (((v : LentVertex) × (w ≡ lent.MultiRef v)) ⊎ ((v : LentVertex) × (w ≡ lent.CycleRef v)))
    → ((sort : Sort) × (n ≡ whats.Hole sort)) ⊎ (((v : Vertex) × (n ≡ whats.MultiRef v)) ⊎ ((v : Vertex) × (n ≡ whats.CycleRef v)))
leaf_of w n lends (inl (sort, is)) = inl (sort, sym lends ∙ ap what_of is)
leaf_of w n lends (inr (inl (v, is))) = inr (inl (lent_vertex v, sym lends ∙ ap what_of is))
leaf_of w n lends (inr (inr (v, is))) = inr (inr (lent_vertex v, sym lends ∙ ap what_of is))

-- a hole or a reference is a node without children
pub stands_leaf : (types : List Typ) (ctxs : List Context) (g : Given) (walk : Walk) (n : Node) (w : What) (d : Demanded) → given_at types g ≡ machine.nothing
    → ((sort : Sort) × (w ≡ whats.Hole sort)) ⊎ (((v : Vertex) × (w ≡ whats.MultiRef v)) ⊎ ((v : Vertex) × (w ≡ whats.CycleRef v)))
    → (s : machine.State) → StandsFor types ctxs None walk s → StandsFor types ctxs (Some g) walk (machine.taken w n d s.frames s.out)
stands_leaf types ctxs g walk n w d gives (inl (sort, is)) s stands =
    stands_for types ctxs (Some g) walk _ _ (ap (λ (x : What). machine.taken x n d s.frames s.out) (sym is)) (stands_plain types ctxs g walk sort n d gives s stands)
stands_leaf types ctxs g walk n w d gives (inr (inl (v, is))) s stands =
    stands_for types ctxs (Some g) walk _ _ (ap (λ (x : What). machine.taken x n d s.frames s.out) (sym is)) (stands_plain types ctxs g walk (sort_of_ctor v.ctor) n d gives s stands)
stands_leaf types ctxs g walk n w d gives (inr (inr (v, is))) s stands =
    stands_for types ctxs (Some g) walk _ _ (ap (λ (x : What). machine.taken x n d s.frames s.out) (sym is)) (stands_plain types ctxs g walk (sort_of_ctor v.ctor) n d gives s stands)

-- ---- the tables grow

stands_kept : (old new : List Typ) (oldc newc : List Context) (walk : Walk) (s : machine.State) → KeepsTypes old new → KeepsContexts oldc newc → AreFramesOf old oldc walk.frames.items
    → StandsFor old oldc None walk s → StandsFor new newc None walk s
stands_kept old new oldc newc walk s keeps stays frames stands =
    let fs = frames_at-kept old new oldc newc keeps stays stands.frames (subst (AreFramesOf old oldc) (sym stands.open_here) frames) in
    record {
      frames = stands.frames;
      nodes = stands.nodes;
      open_here = stands.open_here;
      comes_to = ap (λ xs. machine.at xs stands.nodes) fs ∙ stands.comes_to;
      unsettled = subst (λ xs. AreUnsettled (length stands.nodes) xs stands.nodes) (sym fs) stands.unsettled;
      noted = stands.noted;
    }

-- what the innermost frame of the walk demands is what is demanded next
demands_next : (types : List Typ) (ctxs : List Context) (walk : Walk) (s : machine.State) → StandsFor types ctxs None walk s
    → demanded_of types ctxs (slice_get walk.frames.items (length walk.frames.items - 1)) ≡ machine.demanded_next s.frames
demands_next types ctxs walk s stands =
    ap (λ (fs : List Frame). demanded_of types ctxs (slice_get fs (length fs - 1))) (sym stands.open_here) ∙ ap (demanded_of types ctxs) (last_in stands.frames)
    ∙ last_demands types ctxs stands.frames ∙ ap (λ (x : machine.State). machine.demanded_next x.frames) stands.comes_to

-- a node is begun, and what it gives is handed on
pub stands_taken : (old grown begun new : List Typ) (oldc newc : List Context) (n : Node) (d : Demanded) (given : Option Given) (walk next after : Walk) {T E : Type 0} (r : Result T E)
    → KeepsTypes old grown → KeepsContexts oldc newc → AreFramesOf old oldc walk.frames.items → d ≡ demanded_of old oldc (slice_get walk.frames.items (length walk.frames.items - 1))
    → ((s : machine.State) → StandsFor grown newc None walk s → StandsFor begun newc given next (machine.taken n.what n d s.frames s.out))
    → OnOk r ((s : machine.State) → StandsFor begun newc given next s → StandsFor new newc None after s)
    → OnOk r ((s : machine.State) → StandsFor old oldc None walk s → StandsFor new newc None after (machine.step s n))
stands_taken old grown begun new oldc newc n d given walk next after (Err e) keeps stays frames demands begins goes = tt
stands_taken old grown begun new oldc newc n d given walk next after (Ok t) keeps stays frames demands begins goes = λ s stands.
    let demanded : d ≡ machine.demanded_next s.frames = demands ∙ demands_next old oldc walk s stands in
    stands_for new newc None after _ _ (ap (λ x. machine.taken n.what n x s.frames s.out) demanded)
    (goes (machine.taken n.what n d s.frames s.out) (begins s (stands_kept old grown oldc newc walk s keeps stays frames stands)))
