-- The records are those of the new graph.
use Rattle.std.proofs.Common.{List, ◌∷◌, ap, subst, ◌∙◌, arith}
use Rattle.grove_edits.specs.declared.vertex.Vertex.{Vertex}
use Rattle.grove_edits.specs.Graph.{graph}
use Rattle.live_graph.specs.Live.{live}
use Rattle.kept_records.specs.Local.{kept_demand}
use Rattle.mark_store.specs.declared.record.Record.{Record}
use Rattle.mark_store.specs.Places.{Places, value_at}
use Rattle.mark_incremental.specs.Reading.{AreRecordsOf}
use Rattle.mark_incremental.specs.ShortWalks.{IsDemandThere, IsCameOrSource, EndsWithType}
use Rattle.mark_incremental.specs.Standing.{KeptMarks, records_in, put_in}
use Rattle.mark_incremental.proofs.Edited.{kept_moved}
use Rattle.mark_incremental.proofs.ShortRenewed.{start_seen, ticked_seen, renewed_seen}
use Rattle.mark_incremental.proofs.marks.Marks.renew_below.Goals as goal

pub returns-in_err-made-clause-ticks : goal.returns-in_err-made-clause-ticks
returns-in_err-made-clause-ticks g c = λ seen leads near are_near.
    let new = live c.args.graph.now in
    let marks = c.args.self.now in
    let top = c.args.way.now.top in
    let there = subst (λ (m : KeptMarks). IsDemandThere m.records top c.in-Some.demand) c.self.view_is c.in-Some.ensures in
    let further = subst (λ (m : KeptMarks). IsCameOrSource m.records c.args.edge.now c.came_or_source-further.result) c.self.view_is c.came_or_source-further.ensures in
    let place = start_seen c.args.edge.now new marks seen c.args.way.now.vertices.items top leads c.in_ok-judged.judged c.deref.result.now c.deref.ensures.value c.came_or_source-further.result c.in_ok-judged.ensures further c.in-Some.demand there in
    let counted =
    ticked_seen c.args.edge.now new marks seen c.args.way.now.vertices.items top leads c.in_ok-judged.judged c.deref.result.now c.deref.ensures.value c.came_or_source-further.result c.in_ok-judged.ensures further c.in-Some.demand there near are_near c.args.steps.now
    c.make_both.new.steps (c.make_both.ensures.paid (kept_demand (records_in marks) top) place) in
    omega (arith, counted)

pub returns-then-not-may_end-clause-ticks : goal.returns-then-not-may_end-clause-ticks
returns-then-not-may_end-clause-ticks g c = λ seen leads near are_near.
    let new = live c.args.graph.now in
    let marks = c.args.self.now in
    let top = c.args.way.now.top in
    let there = subst (λ (m : KeptMarks). IsDemandThere m.records top c.in-Some.demand) c.self.view_is c.in-Some.ensures in
    let further = subst (λ (m : KeptMarks). IsCameOrSource m.records c.args.edge.now c.came_or_source-further.result) c.self.view_is c.came_or_source-further.ensures in
    let place = start_seen c.args.edge.now new marks seen c.args.way.now.vertices.items top leads c.in_ok-judged.judged c.deref.result.now c.deref.ensures.value c.came_or_source-further.result c.in_ok-judged.ensures further c.in-Some.demand there in
    let counted =
    ticked_seen c.args.edge.now new marks seen c.args.way.now.vertices.items top leads c.in_ok-judged.judged c.deref.result.now c.deref.ensures.value c.came_or_source-further.result c.in_ok-judged.ensures further c.in-Some.demand there near are_near c.args.steps.now
    c.make_both.new.steps (c.make_both.ensures.paid (kept_demand (records_in marks) top) place) in
    let more = c.may_end.ensures.ticks in
    omega (arith, counted, more)

pub returns-in_err-replace-clause-ticks : goal.returns-in_err-replace-clause-ticks
returns-in_err-replace-clause-ticks g c = λ seen leads near are_near.
    let new = live c.args.graph.now in
    let marks = c.args.self.now in
    let top = c.args.way.now.top in
    let there = subst (λ (m : KeptMarks). IsDemandThere m.records top c.in-Some.demand) c.self.view_is c.in-Some.ensures in
    let further = subst (λ (m : KeptMarks). IsCameOrSource m.records c.args.edge.now c.came_or_source-further.result) c.self.view_is c.came_or_source-further.ensures in
    let place = start_seen c.args.edge.now new marks seen c.args.way.now.vertices.items top leads c.in_ok-judged.judged c.deref.result.now c.deref.ensures.value c.came_or_source-further.result c.in_ok-judged.ensures further c.in-Some.demand there in
    let counted =
    ticked_seen c.args.edge.now new marks seen c.args.way.now.vertices.items top leads c.in_ok-judged.judged c.deref.result.now c.deref.ensures.value c.came_or_source-further.result c.in_ok-judged.ensures further c.in-Some.demand there near are_near c.args.steps.now
    c.make_both.new.steps (c.make_both.ensures.paid (kept_demand (records_in marks) top) place) in
    let more = c.may_end.ensures.ticks in
    omega (arith, counted, more)

pub returns-clause-ticks : goal.returns-clause-ticks
returns-clause-ticks g c = λ seen leads near are_near.
    let new = live c.args.graph.now in
    let marks = c.args.self.now in
    let top = c.args.way.now.top in
    let there = subst (λ (m : KeptMarks). IsDemandThere m.records top c.in-Some.demand) c.self.view_is c.in-Some.ensures in
    let further = subst (λ (m : KeptMarks). IsCameOrSource m.records c.args.edge.now c.came_or_source-further.result) c.self.view_is c.came_or_source-further.ensures in
    let place = start_seen c.args.edge.now new marks seen c.args.way.now.vertices.items top leads c.in_ok-judged.judged c.deref.result.now c.deref.ensures.value c.came_or_source-further.result c.in_ok-judged.ensures further c.in-Some.demand there in
    let counted =
    ticked_seen c.args.edge.now new marks seen c.args.way.now.vertices.items top leads c.in_ok-judged.judged c.deref.result.now c.deref.ensures.value c.came_or_source-further.result c.in_ok-judged.ensures further c.in-Some.demand there near are_near c.args.steps.now
    c.make_both.new.steps (c.make_both.ensures.paid (kept_demand (records_in marks) top) place) in
    let more = c.may_end.ensures.ticks in
    omega (arith, counted, more)

pub returns-clause-renewed : goal.returns-clause-renewed
returns-clause-renewed g c = λ seen leads.
    let new = live c.args.graph.now in
    let marks = c.args.self.now in
    let middle = c.make_both.new.self in
    let top = c.args.way.now.top in
    let made = c.in_ok-made.made.items in
    let there = subst (λ (m : KeptMarks). IsDemandThere m.records top c.in-Some.demand) c.self.view_is c.in-Some.ensures in
    let further = subst (λ (m : KeptMarks). IsCameOrSource m.records c.args.edge.now c.came_or_source-further.result) c.self.view_is c.came_or_source-further.ensures in
    let place = start_seen c.args.edge.now new marks seen c.args.way.now.vertices.items top leads c.in_ok-judged.judged c.deref.result.now c.deref.ensures.value c.came_or_source-further.result c.in_ok-judged.ensures further c.in-Some.demand there in
    let numbers = subst (λ (m : KeptMarks). AreRecordsOf m.types m.contexts m.records) c.self.view_is c.self.invariant in
    kept_moved (graph (seen.edit ∷ seen.edits)) new middle c.replace.new.self c.replace.ensures.types c.replace.ensures.contexts
    (renewed_seen c.args.edge.now new marks seen c.args.way.now.vertices.items top leads c.in_ok-judged.judged c.deref.result.now c.deref.ensures.value c.came_or_source-further.result c.in_ok-judged.ensures further c.in-Some.demand there middle.types middle.contexts
    c.make_both.ensures.types c.make_both.ensures.contexts numbers made (c.in_ok-made.ensures.both (kept_demand (records_in marks) top) place)
    (λ inner. subst (λ (places : Places Record). EndsWithType places top made) c.make_both.ensures.records
    (subst (λ (ms : List (Vertex × Record)). EndsWithType middle.records top ms) c.deref-2.ensures.value
    (subst (λ (m : KeptMarks). EndsWithType m.records top c.deref-2.result.now) c.self-2.view_is (c.may_end.ensures.ends c.if-not-may_end.false inner))))
    c.replace.new.self.records
    (λ v. c.in_ok-replace.ensures.replaced v ∙ ap (λ (places : Places Record). put_in made (value_at places) v) c.make_both.ensures.records))
