use Rattle.edge_numbers.proofs.FoundEnds.{source_at, target_at, only_narrow, narrow_found}
use Rattle.edge_numbers.proofs.ends.find_ends.Goals as goal

pub returns-in_err-source-clause-only : goal.returns-in_err-source-clause-only
returns-in_err-source-clause-only c narrow ends is =
    let found = c.in_err-source.ensures.only narrow.source (source_at c.args.vertices.now.keys c.args.edge.now narrow ends is) in
    absurd cc

pub returns-in_err-target-clause-only : goal.returns-in_err-target-clause-only
returns-in_err-target-clause-only c narrow ends is =
    let found = c.in_err-target.ensures.only narrow.target (target_at c.args.vertices.now.keys c.args.edge.now narrow ends is) in
    absurd cc

pub returns-clause-edge : goal.returns-clause-edge
returns-clause-edge c =
    narrow_found c.args.vertices.now.keys c.args.edge.now c.in_ok-source.source c.in_ok-target.target c.in_ok-source.ensures.number c.in_ok-target.ensures.number

pub returns-clause-only : goal.returns-clause-only
returns-clause-only c narrow ends is =
    only_narrow c.args.vertices.now.keys c.args.edge.now narrow ends is c.in_ok-source.source c.in_ok-target.target
    (c.in_ok-source.ensures.only narrow.source (source_at c.args.vertices.now.keys c.args.edge.now narrow ends is))
    (c.in_ok-target.ensures.only narrow.target (target_at c.args.vertices.now.keys c.args.edge.now narrow ends is))
