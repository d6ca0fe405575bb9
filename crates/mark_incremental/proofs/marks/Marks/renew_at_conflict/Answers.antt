-- The records are those of the new graph.
use Rattle.std.proofs.Common.{◌∷◌, ◌*◌, ◌+◌, false, sym, ap, subst, ◌∙◌, arith}
use Rattle.std.specs.Prelude.{Option, IfSome, List}
use Rattle.std.specs.List.{AllByRecursion}
use Rattle.grove_edits.specs.declared.vertex.Vertex.{Vertex}
use Rattle.grove_edits.specs.Graph.{graph}
use Rattle.type_core.specs.Typ.{Typ}
use Rattle.ctx_table.specs.Context.{Context}
use Rattle.live_graph.specs.Live.{live}
use Rattle.kept_records.specs.Change.{near_size}
use Rattle.kept_records.specs.Local.{kept_demand}
use Rattle.mark_store.specs.Places.{Places, value_at}
use Rattle.mark_store.specs.declared.record.Record.{Record}
use Rattle.mark_incremental.specs.Reading.{AreRecordsOf, IsRecordOf}
use Rattle.mark_incremental.specs.Looking.{on}
use Rattle.mark_incremental.specs.Walking.{demands}
use Rattle.mark_incremental.specs.ShortWalks.{IsCameOrSource}
use Rattle.mark_incremental.specs.AtConflict.{level_at, HasMadeAtConflict}
use Rattle.mark_incremental.specs.Standing.{KeptMarks, records_in, put_in}
use Rattle.mark_incremental.proofs.Edited.{kept_moved}
use Rattle.mark_incremental.proofs.AtConflict.{some_of}
use Rattle.mark_incremental.proofs.ConflictRenewed.{serves}
use Rattle.mark_incremental.proofs.marks.Marks.renew_at_conflict.Goals as goal

pub returns-in_err-made-clause-ticks : goal.returns-in_err-made-clause-ticks
returns-in_err-made-clause-ticks g c = λ seen may near are_near.
    let new = live c.args.graph.now in
    let marks = c.args.self.now in
    let further = subst (λ (m : KeptMarks). IsCameOrSource m.records c.args.edge.now c.came_or_source-further.result) c.self.view_is c.came_or_source-further.ensures in
    let s = serves c.args.edge.now new marks seen c.in_ok-judged.judged c.came_or_source-further.result c.args.demand may c.requires.several c.in_ok-judged.ensures further c.requires.demand in
    let counted = c.make_below_conflict.ensures.paid (kept_demand (records_in marks) c.args.edge.now.source) s.place s.at_edge (5 * near_size seen.old new near + 6) (s.ticked near are_near) in
    let weighs = s.weighs near are_near in
    omega (arith, counted, weighs)

pub returns-in_default-clause-ticks : goal.returns-in_default-clause-ticks
returns-in_default-clause-ticks g c = λ seen may near are_near.
    let new = live c.args.graph.now in
    let marks = c.args.self.now in
    let further = subst (λ (m : KeptMarks). IsCameOrSource m.records c.args.edge.now c.came_or_source-further.result) c.self.view_is c.came_or_source-further.ensures in
    let s = serves c.args.edge.now new marks seen c.in_ok-judged.judged c.came_or_source-further.result c.args.demand may c.requires.several c.in_ok-judged.ensures further c.requires.demand in
    let counted = c.make_below_conflict.ensures.paid (kept_demand (records_in marks) c.args.edge.now.source) s.place s.at_edge (5 * near_size seen.old new near + 6) (s.ticked near are_near) in
    let weighs = s.weighs near are_near in
    omega (arith, counted, weighs)

pub returns-in_err-records-clause-ticks : goal.returns-in_err-records-clause-ticks
returns-in_err-records-clause-ticks g c = λ seen may near are_near.
    let new = live c.args.graph.now in
    let marks = c.args.self.now in
    let further = subst (λ (m : KeptMarks). IsCameOrSource m.records c.args.edge.now c.came_or_source-further.result) c.self.view_is c.came_or_source-further.ensures in
    let s = serves c.args.edge.now new marks seen c.in_ok-judged.judged c.came_or_source-further.result c.args.demand may c.requires.several c.in_ok-judged.ensures further c.requires.demand in
    let counted = c.make_below_conflict.ensures.paid (kept_demand (records_in marks) c.args.edge.now.source) s.place s.at_edge (5 * near_size seen.old new near + 6) (s.ticked near are_near) in
    let weighs = s.weighs near are_near in
    omega (arith, counted, weighs)

pub returns-clause-ticks : goal.returns-clause-ticks
returns-clause-ticks g c = λ seen may near are_near.
    let new = live c.args.graph.now in
    let marks = c.args.self.now in
    let further = subst (λ (m : KeptMarks). IsCameOrSource m.records c.args.edge.now c.came_or_source-further.result) c.self.view_is c.came_or_source-further.ensures in
    let s = serves c.args.edge.now new marks seen c.in_ok-judged.judged c.came_or_source-further.result c.args.demand may c.requires.several c.in_ok-judged.ensures further c.requires.demand in
    let counted = c.make_below_conflict.ensures.paid (kept_demand (records_in marks) c.args.edge.now.source) s.place s.at_edge (5 * near_size seen.old new near + 6) (s.ticked near are_near) in
    let weighs = s.weighs near are_near in
    omega (arith, counted, weighs)

pub returns-clause-renewed : goal.returns-clause-renewed
returns-clause-renewed g c = λ seen may.
    let new = live c.args.graph.now in
    let marks = c.args.self.now in
    let middle = c.make_below_conflict.new.self in
    let edge = c.args.edge.now in
    let further = subst (λ (m : KeptMarks). IsCameOrSource m.records c.args.edge.now c.came_or_source-further.result) c.self.view_is c.came_or_source-further.ensures in
    let s = serves edge new marks seen c.in_ok-judged.judged c.came_or_source-further.result c.args.demand may c.requires.several c.in_ok-judged.ensures further c.requires.demand in
    let numbers = subst (λ (m : KeptMarks). AreRecordsOf m.types m.contexts m.records) c.self.view_is c.self.invariant in
    let d = kept_demand (records_in marks) edge.source in
    let has = some_of (λ made. HasMadeAtConflict edge new middle.types middle.contexts marks.records (on false c.in_ok-judged.judged) (demands (level_at edge.source s.place.above s.place.forest d) edge.position) made.items)
    c.in_ok-made.field-0 c.in-Some.made c.in-Some.is (c.in_ok-made.ensures.target d s.place s.at_edge) in
    kept_moved (graph (seen.edit ∷ seen.edits)) new middle c.replace.new.self c.replace.ensures.types c.replace.ensures.contexts
    (s.renewed middle.types middle.contexts c.make_below_conflict.ensures.types c.make_below_conflict.ensures.contexts numbers c.in-Some.made.items has c.replace.new.self.records
    (λ v. c.in_ok-records.ensures.replaced v ∙ ap (λ (places : Places Record). put_in c.in-Some.made.items (value_at places) v) c.make_below_conflict.ensures.records))

pub returns-clause-can_put_back : goal.returns-clause-can_put_back
returns-clause-can_put_back g c =
    let old = c.in_ok-records.ensures.old in
    record {
      records = old.room;
      numbers =
          subst (λ (types : List Typ). AllByRecursion (λ (m : Vertex × Option Record). IfSome m.1 (IsRecordOf types c.replace.new.self.contexts)) c.in_ok-records.records.items) (sym c.replace.ensures.types)
          (subst (λ (ctxs : List Context). AllByRecursion (λ (m : Vertex × Option Record). IfSome m.1 (IsRecordOf c.make_below_conflict.new.self.types ctxs)) c.in_ok-records.records.items) (sym c.replace.ensures.contexts) old.numbers);
      root = tt;
    }
