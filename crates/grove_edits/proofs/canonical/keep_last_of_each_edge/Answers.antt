use Rattle.std.proofs.Common.{◌+◌, ◌<◌, ◌≤◌, length, sym, subst, arith}
use Rattle.grove_edits.specs.Graph.{graph, IsCanonical}
use Rattle.grove_edits.proofs.CanonicalLists.{AreCompacted, compacted_first, compacted_skipped, compacted_pushed, compacted_all}
use Rattle.grove_edits.proofs.canonical.keep_last_of_each_edge.Goals as goal
use Rattle.grove_edits.proofs.canonical.keep_last_of_each_edge.Goals.{then-not-begins_with_edge, else-not-begins_with_edge}

pub loop-i-init : goal.loop-i-init
loop-i-init c = compacted_first c.args.edits.now.items

pub index_mut-requires : goal.index_mut-requires
index_mut-requires c =
    let below = c.loop-i.invariant.below in
    omega (arith, c.loop-i.invariant.long, c.loop-i-test.true, c.len-i-end.ensures)

pub overflow_add-len : goal.overflow_add-len
overflow_add-len c =
    let below = c.loop-i.invariant.below in
    omega (arith, c.loop-i-test.true)

pub loop-i-preserved : goal.loop-i-preserved
loop-i-preserved c =
    let xs = c.args.edits.now.items in
    let ys = c.loop-i.edits.items in
    let lt : c.loop-i.i < length ys = omega (arith, c.loop-i.invariant.long, c.loop-i-test.true, c.len-i-end.ensures) in
    elim c.if-not-begins_with_edge.branch [
      | then-not-begins_with_edge w ↦
          let more = compacted_pushed xs ys c.loop-i.len c.loop-i.i c.index.result.now w.index-then-not-begins_with_edge.result.now lt c.index.ensures w.index-then-not-begins_with_edge.ensures c.deref.result.now c.deref.ensures.value w.if-not-begins_with_edge.ensures c.loop-i.invariant in
          subst (λ len. AreCompacted xs c.if-not-begins_with_edge.edits.items len (c.loop-i.i + 1)) (sym w.len-is)
          (subst (λ v. AreCompacted xs v.items (c.loop-i.len + 1) (c.loop-i.i + 1)) (sym w.edits-is) more)
      | else-not-begins_with_edge w ↦
          let more = compacted_skipped xs ys c.loop-i.len c.loop-i.i c.index.result.now lt c.index.ensures c.deref.result.now c.deref.ensures.value w.if-not-begins_with_edge.ensures c.loop-i.invariant in
          subst (λ len. AreCompacted xs c.if-not-begins_with_edge.edits.items len (c.loop-i.i + 1)) (sym w.len-is)
          (subst (λ v. AreCompacted xs v.items c.loop-i.len (c.loop-i.i + 1)) (sym w.edits-is) more)
    ]

pub returns : goal.returns
returns c =
    let over : length c.args.edits.now.items ≤ c.loop-i.i = omega (arith, c.loop-i-test.false, c.len-i-end.ensures) in
    subst (IsCanonical (graph c.args.edits.now.items)) (sym c.truncate.ensures.items)
    (compacted_all c.args.edits.now.items c.loop-i.edits.items c.loop-i.len c.loop-i.i over c.requires c.loop-i.invariant)
