-- The records are those of the new graph.
use Rattle.std.proofs.Common.{false, ◌∷◌, not, ap, subst, ◌∙◌}
use Rattle.std.specs.Prelude.{filter}
use Rattle.std.proofs.lemmas.Result.{on_ok_weaker}
use Rattle.grove_edits.specs.Graph.{graph}
use Rattle.grove_edits.specs.Edit.{edit_edge}
use Rattle.live_graph.specs.Live.{live}
use Rattle.kept_records.specs.Local.{is_inner}
use Rattle.mark_incremental.proofs.NearCost.{near_ticked}
use Rattle.mark_store.specs.declared.record.Record.{Record}
use Rattle.mark_store.specs.Places.{Places, value_at}
use Rattle.mark_incremental.specs.Reading.{AreRecordsOf}
use Rattle.mark_incremental.specs.Looking.{on}
use Rattle.mark_incremental.specs.Walking.{HasMadeTrees}
use Rattle.mark_incremental.specs.Standing.{KeptMarks, put_in}
use Rattle.mark_incremental.proofs.Edited.{kept_over, kept_moved, near_renewed_by, on_four}
use Rattle.mark_incremental.proofs.marks.Marks.renew_near.Goals as goal

pub returns-clause-renewed : goal.returns-clause-renewed
returns-clause-renewed g c = λ edits edit old are_old are_new stay kept walked walks.
    let new = live c.args.graph.now in
    let marks = c.args.self.now in
    let middle = c.make.new.self in
    let numbers = subst (λ (m : KeptMarks). AreRecordsOf m.types m.contexts m.records) c.self.view_is c.self.invariant in
    let trees =
    subst (λ vs. HasMadeTrees new middle.types middle.contexts marks.records (on false c.in_ok-passed.passed.set) (filter (λ v. not (is_inner new v)) vs) c.in_ok-made.made.items) c.deref.ensures.value
    c.in_ok-made.ensures.trees in
    on_ok_weaker c.replace.result
    (λ replaced. kept_moved (graph (edit ∷ edits)) new middle c.replace.new.self c.replace.ensures.types c.replace.ensures.contexts
    (near_renewed_by edits edit old new are_old are_new middle.types middle.contexts marks.records c.replace.new.self.records c.in_ok-made.made.items
    (kept_over (graph edits) old marks.types middle.types marks.contexts middle.contexts marks.records c.make.ensures.types c.make.ensures.contexts numbers kept)
    (λ v. replaced v ∙ ap (λ (places : Places Record). put_in c.in_ok-made.made.items (value_at places) v) c.make.ensures.records) c.args.before.now c.args.after.now stay walked walks
    c.in_ok-passed.passed.set c.in_ok-passed.passed.vertices.items c.in_ok-passed.ensures.these c.in_ok-passed.ensures.passed trees))
    c.replace.ensures.replaced

pub returns-in_err-made-clause-ticks : goal.returns-in_err-made-clause-ticks
returns-in_err-made-clause-ticks g c = λ edits edit old are_old are_new stay kept walked walks near are_near.
    let new = live c.args.graph.now in
    let marks = c.args.self.now in
    near_ticked edits edit old new are_old are_new marks.types marks.contexts marks.records c.in_ok-passed.passed.set c.in_ok-passed.passed.vertices.items c.in_ok-passed.ensures.these
    (on_four old new (edit_edge edit) c.args.before.now c.args.after.now walked walks c.in_ok-passed.passed.set c.in_ok-passed.ensures.passed) near are_near stay kept c.deref.result.now c.deref.ensures.value c.args.steps.now c.make.new.steps
    c.make.ensures.ticks

pub returns-clause-ticks : goal.returns-clause-ticks
returns-clause-ticks g c = λ edits edit old are_old are_new stay kept walked walks near are_near.
    let new = live c.args.graph.now in
    let marks = c.args.self.now in
    near_ticked edits edit old new are_old are_new marks.types marks.contexts marks.records c.in_ok-passed.passed.set c.in_ok-passed.passed.vertices.items c.in_ok-passed.ensures.these
    (on_four old new (edit_edge edit) c.args.before.now c.args.after.now walked walks c.in_ok-passed.passed.set c.in_ok-passed.ensures.passed) near are_near stay kept c.deref.result.now c.deref.ensures.value c.args.steps.now c.make.new.steps
    c.make.ensures.ticks
