use Rattle.std.proofs.Common.{◌≡◌, ℕ, ◌+◌, ◌<◌, ◌++◌, List, length, drop, Some, sym, ap, ◌∙◌, append_assoc}
use Rattle.std.proofs.lemmas.Option.{slice_get-get_or}
use Rattle.grove_terms.specs.declared.node.LentNode.{LentNode}
use Rattle.grove_terms.specs.Lent.{node_of, nodes_of}
use Rattle.infer_answers.specs.Texts.{hole_line, hole_lines}
use Rattle.infer_answers.proofs.Told.{holes_here}
use Rattle.infer_answers.proofs.answer.append_holes.Goals as goal

pub loop-line-preserved : goal.loop-line-preserved
loop-line-preserved c =
    let nodes = c.args.nodes.now in
    let terms = c.args.solution.now in
    let line = c.loop-line.line in
    let within : line < length nodes = c.loop-line-test.true in
    let x = c.index-nodes-line.result in
    let here = holes_here terms nodes x line (slice_get-get_or nodes line x within ∙ ap (λ (n : LentNode). Some n) (sym c.index-nodes-line.is)) in
    let rest : List ℕ = hole_lines terms (drop (line + 1) (nodes_of nodes)) (line + 1) in
    ap (λ (ns : List ℕ). ns ++ rest) c.in_ok-append_hole.ensures
    ∙ append_assoc c.loop-line.out.items (hole_line terms (node_of x).what line) rest
    ∙ ap (λ (ns : List ℕ). c.loop-line.out.items ++ ns) (sym here)
    ∙ c.loop-line.invariant
