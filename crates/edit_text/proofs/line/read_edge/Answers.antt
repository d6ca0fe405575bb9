use Rattle.edit_text.proofs.Lines.{InRange-edge, InRange-vertex}
use Rattle.edit_text.proofs.line.read_edge.Goals as goal

pub returns-in_err-target-clause-none : goal.returns-in_err-target-clause-none
returns-in_err-target-clause-none c = rw c.from_residual-in_err-target.ensures (λ edge r v e.
    let source = InRange-vertex edge.source r.2 in
    let target = InRange-vertex edge.target r.3 in
    let one = c.in_ok-name.ensures.only edge.name _ (InRange-edge edge r) e in
    let two = c.in_ok-source.ensures.only edge.source _ source.0 source.1 v.0 one.1 in
    let three = c.in_ok-position.ensures.only edge.position _ v.1 two.2 in
    c.in_err-target.ensures.none edge.target target.0 target.1 v.2 three.1)
