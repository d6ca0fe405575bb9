use Rattle.std.proofs.Common.{ℕ, ◌+◌, List, drop, ◌∙◌, arith}
use Rattle.grove_edits.specs.declared.vertex.Vertex.{Vertex}
use Rattle.grove_decompose.proofs.Vectors.{items_of}
use Rattle.graph_words.specs.declared.class.Class.TheVariants.{NoParent, Multi}
use Rattle.graph_table.specs.Table.{IsNumber}
use Rattle.grove_decompose.proofs.ByNumber.{vertices_left, other_passed, one_put_down, zero_tells, one_tells, more_tells}
use Rattle.grove_decompose.proofs.trees.unsorted_heads.Goals as goal
use Rattle.grove_decompose.proofs.trees.unsorted_heads.Goals.{in-Zero+in_ok-push-in-Zero, in-One, in-More+in_ok-push-in-More}

pub loop-number-preserved : goal.loop-number-preserved
loop-number-preserved c =
    let table = c.args.table.now in
    let n : ℕ = c.loop-number.number in
    let number : IsNumber table n = omega (arith, c.loop-number-test.true, c.requires) in
    let before : List Vertex = drop n table.vertices in
    let rest : List Vertex = drop (n + 1) table.vertices in
    let left = vertices_left table n number in
    elim c.match-parents.branch [
      | in-Zero+in_ok-push-in-Zero w ↦
          let tests = zero_tells table n c.parents.result c.parents.ensures.edges w.in-Zero.is in
          record {
            none = one_put_down NoParent table n table.vertices before rest c.loop-number.none.items _ left number tests.none (items_of w.none-is ∙ w.in_ok-push-in-Zero.ensures.items) c.loop-number.invariant.none;
            multi = other_passed Multi table n table.vertices before rest c.loop-number.multi.items _ left tests.multi (items_of w.multi-is) c.loop-number.invariant.multi;
          }
      | in-One w ↦
          let tests = one_tells table n c.parents.result w.in-One.field-0 c.parents.ensures.edges w.in-One.is in
          record {
            none = other_passed NoParent table n table.vertices before rest c.loop-number.none.items _ left tests.none (items_of w.none-is) c.loop-number.invariant.none;
            multi = other_passed Multi table n table.vertices before rest c.loop-number.multi.items _ left tests.multi (items_of w.multi-is) c.loop-number.invariant.multi;
          }
      | in-More+in_ok-push-in-More w ↦
          let tests = more_tells table n c.parents.result w.in-More.field-0 w.in-More.field-1 c.parents.ensures.edges w.in-More.is in
          record {
            none = other_passed NoParent table n table.vertices before rest c.loop-number.none.items _ left tests.none (items_of w.none-is) c.loop-number.invariant.none;
            multi = one_put_down Multi table n table.vertices before rest c.loop-number.multi.items _ left number tests.multi (items_of w.multi-is ∙ w.in_ok-push-in-More.ensures.items) c.loop-number.invariant.multi;
          }
    ]
