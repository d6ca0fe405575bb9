use Rattle.std.proofs.Common.{◌≤◌, length, sym, ◌∙◌, arith}
use Rattle.graph_words.specs.Live.{targets_of}
use Rattle.edge_numbers.specs.Numbered.{vertex_at}
use Rattle.live_graph.specs.Live.{live}
use Rattle.live_graph.proofs.WalkLengths.{met, goes_further, never_met, met_at_last, same_by_number}
use Rattle.live_graph.proofs.walk_up.leads_from.Goals as goal

pub returns-then-is_number : goal.returns-then-is_number
returns-then-is_number c =
    let edges = c.args.edges.now in
    let l = c.loop-step in
    let same = same_by_number edges c.args.vertex.now l.at c.vertex_number-wanted.result c.is_number.result l.invariant.number c.vertex_number-wanted.ensures.number c.vertex_number-wanted.ensures.only c.is_number.ensures.found c.is_number.ensures.no_other in
    sym (met (live edges.entries) (vertex_at edges c.args.from) c.args.vertex.now (vertex_at edges l.at) l._step l.invariant.unmet (same ∙ c.if-is_number.true))

pub returns-in_default : goal.returns-in_default
returns-in_default c =
    let edges = c.args.edges.now in
    let l = c.loop-step in
    let same = same_by_number edges c.args.vertex.now l.at c.vertex_number-wanted.result c.is_number.result l.invariant.number c.vertex_number-wanted.ensures.number c.vertex_number-wanted.ensures.only c.is_number.ensures.found c.is_number.ensures.no_other in
    sym (never_met (live edges.entries) (vertex_at edges c.args.from) c.args.vertex.now (vertex_at edges l.at) l._step l.invariant.unmet (same ∙ c.if-is_number.false) (sym c.in_default.ensures.above))

pub loop-step-preserved : goal.loop-step-preserved
loop-step-preserved c =
    let edges = c.args.edges.now in
    let l = c.loop-step in
    let same = same_by_number edges c.args.vertex.now l.at c.vertex_number-wanted.result c.is_number.result l.invariant.number c.vertex_number-wanted.ensures.number c.vertex_number-wanted.ensures.only c.is_number.ensures.found c.is_number.ensures.no_other in
    record {
      number = c.in-Some.ensures.number;
      unmet = goes_further (live edges.entries) (vertex_at edges c.args.from) c.args.vertex.now (vertex_at edges l.at) (vertex_at edges c.in-Some.above) l._step l.invariant.unmet (same ∙ c.if-is_number.false) (sym c.in-Some.ensures.above);
    }

pub returns : goal.returns
returns c =
    let edges = c.args.edges.now in
    let l = c.loop-step in
    let same = same_by_number edges c.args.vertex.now l.at c.vertex_number-wanted.result c.is_number-2.result l.invariant.number c.vertex_number-wanted.ensures.number c.vertex_number-wanted.ensures.only c.is_number-2.ensures.found c.is_number-2.ensures.no_other in
    let enough : length (targets_of (live edges.entries)) ≤ l._step = omega (arith, c.requires.counted, c.loop-step-test.false) in
    sym same ∙ met_at_last (live edges.entries) (vertex_at edges c.args.from) c.args.vertex.now (vertex_at edges l.at) l._step l.invariant.unmet enough
