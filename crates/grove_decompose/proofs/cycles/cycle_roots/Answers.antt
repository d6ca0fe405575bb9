use Rattle.std.proofs.lemmas.Grind.{common_steps}
use Rattle.std.proofs.Common.{◌≡◌, ℕ, ◌+◌, ◌<◌, List, ◌∷◌, drop, length, get_or, ap, ◌∙◌, arith}
use Rattle.graph_words.specs.declared.class.Class.TheVariants.{Cycle}
use Rattle.graph_table.specs.Table.{vertex_at, IsNumber}
use Rattle.grove_decompose.specs.Trees.{vertices_of}
use Rattle.grove_decompose.proofs.Vectors.{items_of}
use Rattle.grove_decompose.proofs.ByNumber.{other_passed, one_put_down}
use Rattle.grove_decompose.proofs.FoundRoots.{number_at, root_by_mark, mark_read}
use Rattle.grove_decompose.proofs.cycles.cycle_roots.Goals as goal
use Rattle.grove_decompose.proofs.cycles.cycle_roots.Goals.{then-index+in_ok-push, else-index}

pub loop-start-preserved : goal.loop-start-preserved
loop-start-preserved c =
    let table = c.args.table.now in
    let all : List ℕ = c.args.starts.now in
    let i : ℕ = c.loop-start.start-index in
    let n : ℕ = get_or all i 0 in
    let rest : List ℕ = drop (i + 1) all in
    let lt : i < length all = c.loop-start-test.true in
    let first : drop i all ≡ n ∷ rest = grind (arith, common_steps) in
    let left : vertices_of table (drop i all) ≡ vertex_at table n ∷ vertices_of table rest = ap (vertices_of table) first in
    let number : IsNumber table n = number_at (IsNumber table) all i c.requires lt in
    let within : n < length c.in_ok-roots.roots.items = omega (arith, c.in_ok-roots.ensures.all) in
    let mark = root_by_mark table c.in_ok-roots.ensures.once all c.in_ok-roots.roots.items c.in_ok-roots.ensures.roots i lt number
    ∙ mark_read c.in_ok-roots.roots.items n c.index.result.now within c.index.ensures in
    elim c.if-index.branch [
      | then-index+in_ok-push w ↦
          one_put_down Cycle table n (vertices_of table all) _ (vertices_of table rest) c.loop-start.found.items c.if-index.found.items left number (mark ∙ w.if-index.true)
          (items_of w.found-is ∙ w.in_ok-push.ensures.items) c.loop-start.invariant
      | else-index w ↦
          other_passed Cycle table n (vertices_of table all) _ (vertices_of table rest) c.loop-start.found.items c.if-index.found.items left (mark ∙ w.if-index.false) (items_of w.found-is) c.loop-start.invariant
    ]
