-- The graph is joined with the edit, or is as before, and the marks stand for it.
use Rattle.std.proofs.Common.{[], ◌∷◌, None, refl, subst, ◌∙◌, arith}
use Rattle.grove_edits.specs.declared.edge.Edge.{Edge}
use Rattle.grove_edits.specs.Edit.{edit_edge}
use Rattle.grove_edits.specs.Graph.{graph, graph_join, IsSame}
use Rattle.graph_words.specs.declared.change.Change.TheVariants.{Same}
use Rattle.graph_words.specs.States.{state_in}
use Rattle.std.specs.Prelude.{IfSome}
use Rattle.live_graph.specs.NumberOf.{IsNumberOf}
use Rattle.mark_incremental.specs.declared.applying.Applied.{Applied}
use Rattle.mark_incremental.specs.Standing.{StandFor}
use Rattle.mark_incremental.specs.Applying.{WasApplied, IsApplied, IsBack, HaveGrown}
use Rattle.mark_incremental.proofs.Receipts.{room_then}
use Rattle.mark_incremental.proofs.Stack.{if_ok_so}
use Rattle.grove_sorts.proofs.Truths.{none_from_cases}
use Rattle.mark_incremental.proofs.Edited.{grown_stands, nothing_grown}
use Rattle.mark_incremental.proofs.Idle.{joined_same, nothing_applied}
use Rattle.mark_incremental.proofs.AppliedOver.{if_ok_on, on_err_so, either_way, grown_then, joined_over, applied_over, size_over}
use Rattle.mark_incremental.proofs.marks.Marks.apply.Goals as goal

pub returns-then-is_raised-clause-joined : goal.returns-then-is_raised-clause-joined
returns-then-is_raised-clause-joined g c = joined_same c.args.edit.now (state_in c.args.graph.now) (c.is_raised.ensures.0 c.if-is_raised.true)

pub returns-then-is_raised-clause-applied : goal.returns-then-is_raised-clause-applied
returns-then-is_raised-clause-applied g c =
    nothing_applied c.args.edit.now (record { change = Same; old = record { records = c.new.result; root = None } }) c.args.graph.now c.args.self.now (c.is_raised.ensures.0 c.if-is_raised.true) refl c.new.ensures.items refl
    c.requires.stand

pub returns-in_err-number-clause-stand : goal.returns-in_err-number-clause-stand
returns-in_err-number-clause-stand g c =
    grown_stands (state_in c.args.graph.now) (state_in c.make_room.new.self) c.args.self.now c.args.self.now c.requires.stand c.make_room.ensures.unchanged (nothing_grown c.args.self.now)

-- ---- a short walk is tried

pub apply_short-requires-clause-number : goal.apply_short-requires-clause-number
apply_short-requires-clause-number g c =
    subst (λ (e : Edge). IsNumberOf c.make_room.new.self e c.in_ok-number.number) c.edge-edge.ensures c.in_ok-number.ensures.number

pub apply_short-requires-clause-stand : goal.apply_short-requires-clause-stand
apply_short-requires-clause-stand g c =
    grown_stands (state_in c.args.graph.now) (state_in c.make_room.new.self) c.args.self.now c.args.self.now c.requires.stand c.make_room.ensures.unchanged (nothing_grown c.args.self.now)

pub returns-in_err-applied-clause-stand : goal.returns-in_err-applied-clause-stand
returns-in_err-applied-clause-stand g c =
    grown_stands (state_in c.args.graph.now) (state_in c.apply_short.new.graph) c.args.self.now c.apply_short.new.self c.requires.stand (λ e. c.in_err-applied.ensures.unchanged.same e ∙ c.make_room.ensures.unchanged e) c.in_err-applied.ensures.unchanged.grown

pub returns-in_err-applied-clause-ticks : goal.returns-in_err-applied-clause-ticks
returns-in_err-applied-clause-ticks g c = λ n size.
    let short = c.apply_short.ensures.ticks n (size_over c.args.edit.now (state_in c.args.graph.now) (state_in c.make_room.new.self) n c.make_room.ensures.unchanged size) in
    omega (arith, short)

pub returns-in-Some-clause-joined : goal.returns-in-Some-clause-joined
returns-in-Some-clause-joined g c =
    let is =
    subst (λ o. IfSome o (λ (a : Applied). IsApplied c.args.edit.now a c.make_room.new.self c.args.self.now c.apply_short.new.graph c.apply_short.new.self)) c.in-Some.is c.in_ok-applied.ensures.applied in
    joined_over c.args.edit.now (state_in c.args.graph.now) (state_in c.make_room.new.self) (state_in c.apply_short.new.graph) c.make_room.ensures.unchanged is.was.raised.joined

pub returns-in-Some-clause-applied : goal.returns-in-Some-clause-applied
returns-in-Some-clause-applied g c =
    let is =
    subst (λ o. IfSome o (λ (a : Applied). IsApplied c.args.edit.now a c.make_room.new.self c.args.self.now c.apply_short.new.graph c.apply_short.new.self)) c.in-Some.is c.in_ok-applied.ensures.applied in
    applied_over c.args.edit.now c.in-Some.applied c.args.graph.now c.make_room.new.self c.apply_short.new.graph c.args.self.now c.args.self.now c.apply_short.new.self c.make_room.ensures.unchanged (nothing_grown c.args.self.now)
    c.requires.stand is.was

pub returns-in-Some-clause-ticks : goal.returns-in-Some-clause-ticks
returns-in-Some-clause-ticks g c = λ n size.
    let short = c.apply_short.ensures.ticks n (size_over c.args.edit.now (state_in c.args.graph.now) (state_in c.make_room.new.self) n c.make_room.ensures.unchanged size) in
    omega (arith, short)

pub returns-in-Some-clause-room_stays : goal.returns-in-Some-clause-room_stays
returns-in-Some-clause-room_stays g c = λ e had. c.apply_short.ensures.room_stays e (c.make_room.ensures.room_stays e had)

-- ---- it is not enough

pub apply_whole-requires-clause-number : goal.apply_whole-requires-clause-number
apply_whole-requires-clause-number g c =
    c.apply_short.ensures.numbers_stay (edit_edge c.args.edit.now) c.in_ok-number.number
    (subst (λ (e : Edge). IsNumberOf c.make_room.new.self e c.in_ok-number.number) c.edge-edge.ensures c.in_ok-number.ensures.number)

pub returns-clause-unchanged : goal.returns-clause-unchanged
returns-clause-unchanged g c =
    let back = c.in_ok-applied.ensures.back (none_from_cases c.in_ok-applied.field-0 c.in_default.not-Some) in
    on_err_so c.apply_whole.result
    (IsBack c.apply_short.new.graph c.apply_short.new.self c.apply_whole.new.graph c.apply_whole.new.self)
    (IsSame (state_in c.apply_whole.new.graph) (state_in c.args.graph.now)) (λ again e. again.same e ∙ back.same e ∙ c.make_room.ensures.unchanged e) c.apply_whole.ensures.unchanged

pub returns-clause-kept : goal.returns-clause-kept
returns-clause-kept g c =
    let back = c.in_ok-applied.ensures.back (none_from_cases c.in_ok-applied.field-0 c.in_default.not-Some) in
    on_err_so c.apply_whole.result
    (IsBack c.apply_short.new.graph c.apply_short.new.self c.apply_whole.new.graph c.apply_whole.new.self)
    (HaveGrown c.args.self.now c.apply_whole.new.self) (λ again. grown_then c.args.self.now c.apply_short.new.self c.apply_whole.new.self back.grown again.grown) c.apply_whole.ensures.unchanged

pub returns-clause-marks_room_stays : goal.returns-clause-marks_room_stays
returns-clause-marks_room_stays g c = room_then c.args.self.now c.apply_short.new.self c.apply_whole.new.self c.apply_short.ensures.marks_room_stays c.apply_whole.ensures.marks_room_stays

pub apply_whole-requires-clause-stand : goal.apply_whole-requires-clause-stand
apply_whole-requires-clause-stand g c =
    let back = c.in_ok-applied.ensures.back (none_from_cases c.in_ok-applied.field-0 c.in_default.not-Some) in
    grown_stands (state_in c.args.graph.now) (state_in c.apply_short.new.graph) c.args.self.now c.apply_short.new.self c.requires.stand (λ e. back.same e ∙ c.make_room.ensures.unchanged e) back.grown

pub returns-clause-joined : goal.returns-clause-joined
returns-clause-joined g c =
    let back = c.in_ok-applied.ensures.back (none_from_cases c.in_ok-applied.field-0 c.in_default.not-Some) in
    if_ok_on c.apply_whole.result (λ (a : Applied). IsApplied c.args.edit.now a c.apply_short.new.graph c.apply_short.new.self c.apply_whole.new.graph c.apply_whole.new.self)
    (IsSame (state_in c.apply_whole.new.graph) (graph_join (state_in c.args.graph.now) (graph (c.args.edit.now ∷ []))))
    (λ a is. joined_over c.args.edit.now (state_in c.args.graph.now) (state_in c.apply_short.new.graph) (state_in c.apply_whole.new.graph) (λ e. back.same e ∙ c.make_room.ensures.unchanged e) is.was.raised.joined) c.apply_whole.ensures.applied

pub returns-clause-stand : goal.returns-clause-stand
returns-clause-stand g c =
    let back = c.in_ok-applied.ensures.back (none_from_cases c.in_ok-applied.field-0 c.in_default.not-Some) in
    either_way c.apply_whole.result (λ (a : Applied). IsApplied c.args.edit.now a c.apply_short.new.graph c.apply_short.new.self c.apply_whole.new.graph c.apply_whole.new.self)
    (IsBack c.apply_short.new.graph c.apply_short.new.self c.apply_whole.new.graph c.apply_whole.new.self)
    (StandFor (state_in c.apply_whole.new.graph) c.apply_whole.new.self) (λ a is. is.stand)
    (λ again. grown_stands (state_in c.args.graph.now) (state_in c.apply_whole.new.graph) c.args.self.now c.apply_whole.new.self c.requires.stand (λ e. again.same e ∙ back.same e ∙ c.make_room.ensures.unchanged e)
    (grown_then c.args.self.now c.apply_short.new.self c.apply_whole.new.self back.grown again.grown)) c.apply_whole.ensures.applied c.apply_whole.ensures.unchanged

pub returns-clause-applied : goal.returns-clause-applied
returns-clause-applied g c =
    let back = c.in_ok-applied.ensures.back (none_from_cases c.in_ok-applied.field-0 c.in_default.not-Some) in
    if_ok_so c.apply_whole.result (λ (a : Applied). IsApplied c.args.edit.now a c.apply_short.new.graph c.apply_short.new.self c.apply_whole.new.graph c.apply_whole.new.self)
    (λ (a : Applied). WasApplied c.args.edit.now a c.args.graph.now c.args.self.now c.apply_whole.new.graph c.apply_whole.new.self)
    (λ a is. applied_over c.args.edit.now a c.args.graph.now c.apply_short.new.graph c.apply_whole.new.graph c.args.self.now c.apply_short.new.self c.apply_whole.new.self (λ e. back.same e ∙ c.make_room.ensures.unchanged e) back.grown
    c.requires.stand is.was) c.apply_whole.ensures.applied

pub returns-clause-ticks : goal.returns-clause-ticks
returns-clause-ticks g c = λ n size.
    let back = c.in_ok-applied.ensures.back (none_from_cases c.in_ok-applied.field-0 c.in_default.not-Some) in
    let short = c.apply_short.ensures.ticks n (size_over c.args.edit.now (state_in c.args.graph.now) (state_in c.make_room.new.self) n c.make_room.ensures.unchanged size) in
    let whole = c.apply_whole.ensures.ticks n (size_over c.args.edit.now (state_in c.args.graph.now) (state_in c.apply_short.new.graph) n (λ e. back.same e ∙ c.make_room.ensures.unchanged e) size) in
    omega (arith, short, whole)

-- ---- numbers stay

pub returns-in_err-applied-clause-numbers_stay : goal.returns-in_err-applied-clause-numbers_stay
returns-in_err-applied-clause-numbers_stay g c = λ e n is. c.apply_short.ensures.numbers_stay e n (c.make_room.ensures.numbers_stay e n is)

pub returns-in-Some-clause-numbers_stay : goal.returns-in-Some-clause-numbers_stay
returns-in-Some-clause-numbers_stay g c = λ e n is. c.apply_short.ensures.numbers_stay e n (c.make_room.ensures.numbers_stay e n is)

pub returns-clause-numbers_stay : goal.returns-clause-numbers_stay
returns-clause-numbers_stay g c = λ e n is. c.apply_whole.ensures.numbers_stay e n (c.apply_short.ensures.numbers_stay e n (c.make_room.ensures.numbers_stay e n is))
