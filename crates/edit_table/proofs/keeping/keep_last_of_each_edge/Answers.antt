use Rattle.std.proofs.Common.{◌+◌, ◌<◌, ◌≤◌, length, sym, subst, arith}
use Rattle.edit_table.proofs.KeptRecords.{kept_canonical, kept_fewer, kept_first, kept_pushed, kept_records, kept_skipped, AreKept}
use Rattle.edit_table.proofs.keeping.keep_last_of_each_edge.Goals as goal
use Rattle.edit_table.proofs.keeping.keep_last_of_each_edge.Goals.{then-not-begins_with_edge, else-not-begins_with_edge}

pub loop-i-init : goal.loop-i-init
loop-i-init c = kept_first c.args.records.now.items

pub index_mut-requires : goal.index_mut-requires
index_mut-requires c =
    let below = c.loop-i.invariant.below in
    omega (arith, c.loop-i.invariant.long, c.loop-i-test.true, c.len-i-end.ensures)

pub overflow_add-len : goal.overflow_add-len
overflow_add-len c =
    let below = c.loop-i.invariant.below in
    omega (arith, c.loop-i-test.true)

pub loop-i-preserved : goal.loop-i-preserved
loop-i-preserved c =
    let xs = c.args.records.now.items in
    let ys = c.loop-i.records.items in
    let lt : c.loop-i.i < length ys = omega (arith, c.loop-i.invariant.long, c.loop-i-test.true, c.len-i-end.ensures) in
    elim c.if-not-begins_with_edge.branch [
      | then-not-begins_with_edge w ↦
          let more = kept_pushed xs ys c.deref.result.now c.loop-i.len c.loop-i.i c.index.result.now lt c.index.ensures c.deref.ensures.value c.loop-i.invariant w.index-then-not-begins_with_edge.result.now w.index-then-not-begins_with_edge.ensures w.if-not-begins_with_edge.ensures in
          subst (λ len. AreKept xs c.if-not-begins_with_edge.records.items len (c.loop-i.i + 1)) (sym w.len-is)
          (subst (λ v. AreKept xs v.items (c.loop-i.len + 1) (c.loop-i.i + 1)) (sym w.records-is) more)
      | else-not-begins_with_edge w ↦
          let more = kept_skipped xs ys c.deref.result.now c.loop-i.len c.loop-i.i c.index.result.now lt c.index.ensures c.deref.ensures.value c.loop-i.invariant w.if-not-begins_with_edge.ensures in
          subst (λ len. AreKept xs c.if-not-begins_with_edge.records.items len (c.loop-i.i + 1)) (sym w.len-is)
          (subst (λ v. AreKept xs v.items c.loop-i.len (c.loop-i.i + 1)) (sym w.records-is) more)
    ]

pub returns-clause-canonical : goal.returns-clause-canonical
returns-clause-canonical c =
    let over : length c.args.records.now.items ≤ c.loop-i.i = omega (arith, c.loop-i-test.false, c.len-i-end.ensures) in
    kept_canonical c.args.records.now.items c.loop-i.records.items c.truncate.new.self.items c.loop-i.len c.loop-i.i over c.truncate.ensures.items c.loop-i.invariant

pub returns-clause-records : goal.returns-clause-records
returns-clause-records c =
    let over : length c.args.records.now.items ≤ c.loop-i.i = omega (arith, c.loop-i-test.false, c.len-i-end.ensures) in
    kept_records c.args.records.now.items c.loop-i.records.items c.truncate.new.self.items c.loop-i.len c.loop-i.i over c.truncate.ensures.items c.loop-i.invariant

pub returns-clause-fewer : goal.returns-clause-fewer
returns-clause-fewer c =
    let over : length c.args.records.now.items ≤ c.loop-i.i = omega (arith, c.loop-i-test.false, c.len-i-end.ensures) in
    kept_fewer c.args.records.now.items c.loop-i.records.items c.truncate.new.self.items c.loop-i.len c.loop-i.i over c.truncate.ensures.items c.loop-i.invariant
