-- The walk, step by step.
use Rattle.std.proofs.Common.{◌≡◌, ◌≤◌, ◌<◌, ℕ, List, [], ◌∷◌, ◌++◌, length, set, Option, Some, sym, ap, subst, ◌∙◌, arith, length-drop}
use Rattle.std.specs.Prelude.{slice_get, Result, Ok, Err, IfOk, OnOk}
use Rattle.grove_sorts.specs.declared.sort.Sort.{Sort}
use Rattle.grove_sorts.specs.declared.ctor.Ctor.{Ctor}
use Rattle.grove_sorts.specs.Ctor.{positions}
use Rattle.grove_edits.specs.declared.vertex.Vertex.{Vertex}
use Rattle.grove_terms.specs.declared.node.Node.{Node}
use Rattle.grove_terms.specs.Lent.{node_of}
use Rattle.grove_terms.specs.declared.node.What.{What}
use Rattle.grove_terms.specs.declared.node.What.TheVariants as whats
use Rattle.type_core.specs.Typ.{Typ}
use Rattle.type_core.specs.TypeTable.{KeepsTypes}
use Rattle.ctx_table.specs.Context.{Context}
use Rattle.ctx_table.specs.CtxTable.{KeepsContexts}
use Rattle.mark_step.specs.declared.node.Demand.{Demand}
use Rattle.mark_step.specs.Node.{demanded_at}
use Rattle.mark_step.specs.Expression.{Demanded}
use Rattle.marking.specs.Marking.{marked_plain, synthesised_in, MarkedNode as MeantNode}
use Rattle.judging.specs.declared.frame.Given.{Given}
use Rattle.judging.specs.declared.frame.OpenVertex.{OpenVertex}
use Rattle.judging.specs.declared.frame.Frame.{Frame}
use Rattle.judging.specs.declared.frame.Frame.TheVariants.{Open, Several}
use Rattle.judging.specs.declared.frame.Closed.{Closed}
use Rattle.judging.specs.Machine as machine
use Rattle.judging.specs.Frames.{given_at, opened_at, left_of, frames_at, frames_in, added_at, AreFramesOf, IsClosedOf}
use Rattle.judging.proofs.Frames as frames
use Rattle.grove_terms.specs.declared.node.LentNode.{LentNode}
use Rattle.marking.specs.declared.added.Added.{Added}
use Rattle.marking.specs.Added.{with_added, marked_nodes}
use Rattle.mark_rules.specs.declared.taking.Walk.{Walk}
use Rattle.marking.specs.Numbers.{IsAddedOf, AreAddedOf}
use Rattle.marking.specs.Reading.{meant, meant_nodes}
use Rattle.marking.proofs.Beside.{are_marked}
use Rattle.mark_rules.specs.Walking.{state_at, given_on, added_by, IsWalkOf}
use Rattle.mark_rules.proofs.Kept.{state_at-kept, meant_nodes_kept, added_kept, meant_nodes-settled, are_added-settled, meant_nodes-push, are_added-push, length-meant}

-- ---- results, for each list of nodes

pub if_ok_next : {T E A X : Type 0} {P : A → Type 0} (r : Result T E) (of : A → T → X) (x y : A → X) → IfOk r (λ t. (a : A) → of a t ≡ x a) → ((a : A) → P a → x a ≡ y a) → IfOk r (λ t. (a : A) → P a → of a t ≡ y a)
if_ok_next (Ok t) of x y is same = λ a p. is a ∙ same a p
if_ok_next (Err e) of x y is same = tt

pub on_ok_next : {T E A X : Type 0} {P : A → Type 0} (r : Result T E) (x y z : A → X) → OnOk r ((a : A) → x a ≡ y a) → ((a : A) → P a → y a ≡ z a) → OnOk r ((a : A) → P a → x a ≡ z a)
on_ok_next (Ok t) x y z is same = λ a p. is a ∙ same a p
on_ok_next (Err e) x y z is same = tt

-- ---- a vertex none of whose positions is marked

fresh_is : (types : List Typ) (ctxs : List Context) (place : ℕ) (o : OpenVertex) (ctor : Ctor) (d : Demanded) (fs : List machine.Frame) (out : List MeantNode) → opened_at types ctxs o ≡ machine.fresh ctor d → left_of o ≡ positions ctor
    → machine.opened place (opened_at types ctxs o) (left_of o) fs out ≡ machine.opened place (machine.fresh ctor d) (positions ctor) fs out
fresh_is types ctxs place o ctor d fs out is left = ap (λ (v : machine.Opened). machine.opened place v (left_of o) fs out) is ∙ ap (λ ps. machine.opened place (machine.fresh ctor d) ps fs out) left

-- whether positions are left
pub fresh_more : (o : OpenVertex) (ctor : Ctor) → left_of o ≡ positions ctor → 0 < length (positions ctor) → o.next < length (positions o.ctor.now)
fresh_more o ctor left some = omega (arith, ap length left, length-drop o.next (positions o.ctor.now))

pub fresh_whole : (o : OpenVertex) (ctor : Ctor) → left_of o ≡ positions ctor → length (positions ctor) ≤ 0 → length (positions o.ctor.now) ≤ o.next
fresh_whole o ctor left none = omega (arith, ap length left, length-drop o.next (positions o.ctor.now))

pub fresh_opens : (types : List Typ) (ctxs : List Context) (place : ℕ) (o : OpenVertex) (ctor : Ctor) (d : Demanded) (fs new : List (ℕ × Frame)) (out : List MeantNode)
    → 0 < length (positions ctor) → opened_at types ctxs o ≡ machine.fresh ctor d → left_of o ≡ positions ctor → new ≡ fs ++ (place, Open o) ∷ []
    → machine.at (frames_at types ctxs new) out ≡ machine.opened place (machine.fresh ctor d) (positions ctor) (frames_at types ctxs fs) out
fresh_opens types ctxs place o ctor d fs new out some is left pushed =
    frames.stays_open types ctxs place o fs new out (fresh_more o ctor left some) pushed ∙ fresh_is types ctxs place o ctor d (frames_at types ctxs fs) out is left

-- ---- a vertex is closed

settled_is : (old new : List Typ) (place : ℕ) (c : Closed) (ns : List LentNode) (added after : List Added) → KeepsTypes old new → AreAddedOf old added → after ≡ set added place (added_by c)
    → meant_nodes new (marked_nodes ns after) ≡ machine.add_at (added_at new c) (meant_nodes old (marked_nodes ns added)) place
settled_is old new place c ns added after keeps numbers is =
    ap (λ xs. meant_nodes new (marked_nodes ns xs)) is ∙ meant_nodes-settled new ns added place c
    ∙ ap (λ ms. machine.add_at (added_at new c) ms place) (meant_nodes_kept old new keeps (marked_nodes ns added) (are_marked old ns added numbers))

-- it has no positions
pub closes_at_once : (old new : List Typ) (ctxs : List Context) (place : ℕ) (v : machine.Opened) (c : Closed) (fs : List (ℕ × Frame)) (ns : List LentNode) (added after : List Added) → KeepsTypes old new
    → AreFramesOf old ctxs (frames_in fs) → AreAddedOf old added → added_at new c ≡ machine.added_of v → given_at new c.given ≡ machine.given_of v → after ≡ set added place (added_by c)
    → machine.deliver (given_at new c.given) (frames_at new ctxs fs) (meant_nodes new (marked_nodes ns after)) ≡ machine.opened place v [] (frames_at old ctxs fs) (meant_nodes old (marked_nodes ns added))
closes_at_once old new ctxs place v c fs ns added after keeps all numbers adds gives is =
    frames.closes_at_once old new ctxs place v c fs (meant_nodes old (marked_nodes ns added)) (meant_nodes new (marked_nodes ns after)) keeps all adds gives
    (settled_is old new place c ns added after keeps numbers is)

-- none of its positions is left
pub is_closed : (old new : List Typ) (ctxs : List Context) (place : ℕ) (o : OpenVertex) (c : Closed) (fs : List (ℕ × Frame)) (ns : List LentNode) (added after : List Added) → KeepsTypes old new → AreFramesOf old ctxs (frames_in fs)
    → AreAddedOf old added → length (positions o.ctor.now) ≤ o.next → added_at new c ≡ machine.added_of (opened_at old ctxs o) → given_at new c.given ≡ machine.given_of (opened_at old ctxs o) → after ≡ set added place (added_by c)
    → machine.deliver (given_at new c.given) (frames_at new ctxs fs) (meant_nodes new (marked_nodes ns after))
    ≡ machine.opened place (opened_at old ctxs o) (left_of o) (frames_at old ctxs fs) (meant_nodes old (marked_nodes ns added))
is_closed old new ctxs place o c fs ns added after keeps all numbers whole adds gives is =
    frames.closes old new ctxs place o c fs (meant_nodes old (marked_nodes ns added)) (meant_nodes new (marked_nodes ns after)) keeps all whole adds gives
    (settled_is old new place c ns added after keeps numbers is)

pub fresh_closes : (old new : List Typ) (ctxs : List Context) (place : ℕ) (o : OpenVertex) (ctor : Ctor) (d : Demanded) (c : Closed) (fs : List (ℕ × Frame)) (ns : List LentNode) (added after : List Added) → KeepsTypes old new
    → AreFramesOf old ctxs (frames_in fs) → AreAddedOf old added → length (positions ctor) ≤ 0 → opened_at old ctxs o ≡ machine.fresh ctor d → left_of o ≡ positions ctor
    → added_at new c ≡ machine.added_of (opened_at old ctxs o) → given_at new c.given ≡ machine.given_of (opened_at old ctxs o) → after ≡ set added place (added_by c)
    → machine.deliver (given_at new c.given) (frames_at new ctxs fs) (meant_nodes new (marked_nodes ns after))
    ≡ machine.opened place (machine.fresh ctor d) (positions ctor) (frames_at old ctxs fs) (meant_nodes old (marked_nodes ns added))
fresh_closes old new ctxs place o ctor d c fs ns added after keeps all numbers none is left adds gives put =
    is_closed old new ctxs place o c fs ns added after keeps all numbers (fresh_whole o ctor left none) adds gives put
    ∙ fresh_is old ctxs place o ctor d (frames_at old ctxs fs) (meant_nodes old (marked_nodes ns added)) is left

pub still_added : (old new : List Typ) (place : ℕ) (c : Closed) (added after : List Added) → KeepsTypes old new → AreAddedOf old added → IsClosedOf new c → after ≡ set added place (added_by c) → AreAddedOf new after
still_added old new place c added after keeps numbers is put =
    subst (AreAddedOf new) (sym put) (are_added-settled new added place c (added_kept old new keeps added numbers) is)

-- ---- a node is begun

pub one_more_added : (types : List Typ) (added new : List Added) (a : Added) → AreAddedOf types added → IsAddedOf types a → new ≡ added ++ a ∷ [] → AreAddedOf types new
one_more_added types added new a all is pushed = subst (AreAddedOf types) (sym pushed) (are_added-push types added a all is)

pub one_more_meant : (types : List Typ) (ns : List LentNode) (added new : List Added) (n : LentNode) (a : Added) → slice_get ns (length added) ≡ Some n → new ≡ added ++ a ∷ []
    → meant_nodes types (marked_nodes ns new) ≡ meant_nodes types (marked_nodes ns added) ++ meant types (with_added n a) ∷ []
one_more_meant types ns added new n a next pushed = ap (λ xs. meant_nodes types (marked_nodes ns xs)) pushed ∙ meant_nodes-push types ns added n a next

pub begins_vertex : (types : List Typ) (place : ℕ) (v : Vertex) (n : LentNode) (w : What) (d : Demanded) (fs : List machine.Frame) (ns : List LentNode) (added new : List Added) (a : Added)
    → slice_get ns (length added) ≡ Some n → place ≡ length added → w ≡ whats.Vertex v → meant types (with_added n a) ≡ machine.unsettled (node_of n) → new ≡ added ++ a ∷ []
    → machine.opened place (machine.fresh v.ctor d) (positions v.ctor) fs (meant_nodes types (marked_nodes ns new)) ≡ machine.taken w (node_of n) d fs (meant_nodes types (marked_nodes ns added))
begins_vertex types place v n w d fs ns added new a next at what node pushed =
    ap (λ ms. machine.opened place (machine.fresh v.ctor d) (positions v.ctor) fs ms)
    (one_more_meant types ns added new n a next pushed ∙ ap (λ x. meant_nodes types (marked_nodes ns added) ++ x ∷ []) node)
    ∙ ap (λ k. machine.opened k (machine.fresh v.ctor d) (positions v.ctor) fs (meant_nodes types (marked_nodes ns added) ++ machine.unsettled (node_of n) ∷ [])) (at ∙ sym (length-meant types ns added n next))
    ∙ ap (λ (x : What). machine.taken x (node_of n) d fs (meant_nodes types (marked_nodes ns added))) (sym what)

pub begins_conflict : (types : List Typ) (ctxs : List Context) (place : ℕ) (e : Demand) (count : ℕ) (s : Sort) (n : Node) (w : What) (d : Demanded) (fs after : List (ℕ × Frame)) (out new : List MeantNode)
    → w ≡ whats.Conflict s count → demanded_at types ctxs e ≡ synthesised_in d → after ≡ fs ++ (place, Several e count) ∷ [] → new ≡ out ++ marked_plain s d.wanted n ∷ []
    → machine.at (frames_at types ctxs after) new ≡ machine.taken w n d (frames_at types ctxs fs) out
begins_conflict types ctxs place e count s n w d fs after out new what each pushed listed =
    ap (λ ms. machine.at (frames_at types ctxs after) ms) listed ∙ frames.begins_conflict types ctxs place e count s n w d fs after out what each pushed

-- ---- a node is taken

pub took : (old new : List Typ) (oldc newc : List Context) (ns : List LentNode) (w : Walk) (n : Node) (d : Demanded) → KeepsTypes old new → KeepsContexts oldc newc → IsWalkOf old oldc w
    → d ≡ machine.demanded_next (frames_at old oldc w.frames.items)
    → machine.taken n.what n d (frames_at new newc w.frames.items) (meant_nodes new (marked_nodes ns w.added.items)) ≡ machine.step (state_at old oldc ns w) n
took old new oldc newc ns w n d keeps keepsc is demands =
    ap (λ (x : Demanded). machine.taken n.what n x (frames_at new newc w.frames.items) (meant_nodes new (marked_nodes ns w.added.items))) demands
    ∙ ap (λ (s : machine.State). machine.taken n.what n (machine.demanded_next (frames_at old oldc w.frames.items)) s.frames s.out) (state_at-kept old new oldc newc keeps keepsc ns w is)

pub given_along : (types : List Typ) (ctxs : List Context) (o : Option Given) (g : Given) (ns : List LentNode) (w : Walk) → o ≡ Some g
    → machine.deliver (given_at types g) (frames_at types ctxs w.frames.items) (meant_nodes types (marked_nodes ns w.added.items)) ≡ given_on types ctxs ns o w
given_along types ctxs o g ns w is = ap (λ (x : Option Given). given_on types ctxs ns x w) (sym is)
