-- The records are those of the new graph.
use Rattle.std.proofs.Common.{true, ◌∷◌, not, ap, subst, ◌∙◌}
use Rattle.std.specs.Prelude.{filter}
use Rattle.std.proofs.lemmas.Result.{on_ok_weaker}
use Rattle.grove_edits.specs.Graph.{graph}
use Rattle.grove_edits.specs.Edit.{edit_edge}
use Rattle.live_graph.specs.Live.{live}
use Rattle.kept_records.specs.Local.{is_inner}
use Rattle.mark_store.specs.declared.record.Record.{Record}
use Rattle.mark_store.specs.Places.{Places, value_at}
use Rattle.mark_incremental.specs.Reading.{records_at, AreRecordsOf}
use Rattle.mark_incremental.specs.Looking.{on}
use Rattle.mark_incremental.specs.Walking.{HasMadeTrees}
use Rattle.mark_incremental.specs.Standing.{KeptMarks, put_in}
use Rattle.mark_incremental.proofs.Edited.{kept_over, kept_moved, whole_renewed, these_with}
use Rattle.mark_incremental.proofs.WholeCost.{whole_within}
use Rattle.mark_incremental.proofs.marks.Marks.renew_whole.Goals as goal

pub returns-clause-renewed : goal.returns-clause-renewed
returns-clause-renewed g c = λ edits edit old are_old are_new to walked only kept.
    let new = live c.args.graph.now in
    let marks = c.args.self.now in
    let middle = c.make.new.self in
    let numbers = subst (λ (m : KeptMarks). AreRecordsOf m.types m.contexts m.records) c.self.view_is c.self.invariant in
    let vertices = c.in_ok-passed.passed.vertices.items in
    let trees =
    subst (λ vs. HasMadeTrees new middle.types middle.contexts marks.records (on true c.in_ok-passed.passed.set) (filter (λ v. not (is_inner new v)) vs) c.in_ok-made.made.items) c.deref.ensures.value
    c.in_ok-made.ensures.trees in
    on_ok_weaker c.replace.result
    (λ replaced. kept_moved (graph (edit ∷ edits)) new middle c.replace.new.self c.replace.ensures.types c.replace.ensures.contexts
    (whole_renewed edits edit old new are_old are_new middle.types middle.contexts marks.records c.replace.new.self.records c.in_ok-made.made.items
    (kept_over (graph edits) old marks.types middle.types marks.contexts middle.contexts marks.records c.make.ensures.types c.make.ensures.contexts numbers kept)
    (λ v. replaced v ∙ ap (λ (places : Places Record). put_in c.in_ok-made.made.items (value_at places) v) c.make.ensures.records) c.args.root.now only
    (λ heads all. c.whole_trees_renew_the_records.ensures.made new (records_at middle.types middle.contexts marks.records) heads all) vertices
    (these_with new (edit_edge edit) c.args.target.now c.args.root.now to c.args.source.now.vertices.items walked c.in_ok-passed.passed.set vertices c.in_ok-passed.ensures.these.same c.in_ok-passed.ensures.passed)
    c.in_ok-passed.passed.set trees))
    c.replace.ensures.replaced

pub returns-in_err-made-clause-ticks : goal.returns-in_err-made-clause-ticks
returns-in_err-made-clause-ticks g c = λ edits edit old are_old are_new to walked only n size.
    let new = live c.args.graph.now in
    let marks = c.args.self.now in
    let vertices = c.in_ok-passed.passed.vertices.items in
    whole_within edits edit old new are_old are_new c.args.root.now only n size vertices
    (these_with new (edit_edge edit) c.args.target.now c.args.root.now to c.args.source.now.vertices.items walked c.in_ok-passed.passed.set vertices c.in_ok-passed.ensures.these.same c.in_ok-passed.ensures.passed)
    c.in_ok-passed.ensures.these.once c.whole_trees_renew_the_records.ensures.made marks.types marks.contexts marks.records c.in_ok-passed.passed.set c.deref.result.now c.deref.ensures.value c.args.steps.now c.make.new.steps
    c.make.ensures.ticks

pub returns-clause-ticks : goal.returns-clause-ticks
returns-clause-ticks g c = λ edits edit old are_old are_new to walked only n size.
    let new = live c.args.graph.now in
    let marks = c.args.self.now in
    let vertices = c.in_ok-passed.passed.vertices.items in
    whole_within edits edit old new are_old are_new c.args.root.now only n size vertices
    (these_with new (edit_edge edit) c.args.target.now c.args.root.now to c.args.source.now.vertices.items walked c.in_ok-passed.passed.set vertices c.in_ok-passed.ensures.these.same c.in_ok-passed.ensures.passed)
    c.in_ok-passed.ensures.these.once c.whole_trees_renew_the_records.ensures.made marks.types marks.contexts marks.records c.in_ok-passed.passed.set c.deref.result.now c.deref.ensures.value c.args.steps.now c.make.new.steps
    c.make.ensures.ticks
