use Rattle.std.proofs.Common.{◌≡◌, arith}
use Rattle.std.proofs.lemmas.Grind.{common_steps}
use Rattle.edge_numbers.specs.Numbered.{state_at}
use Rattle.graph_words.specs.States.{is_live}
use Rattle.live_graph.proofs.Listed.{listed-kept}
use Rattle.live_graph.proofs.live_lists.relist.Goals as goal

pub returns-then-is_live_state : goal.returns-then-is_live_state
returns-then-is_live_state c after set =
    let same : is_live c.args.state ≡ is_live (state_at c.args.edges.now c.args.number) = grind (arith, common_steps) in
    listed-kept c.args.edges.now c.args.number c.args.state after c.args.children.now c.args.parents.now c.edge_count-edges.ensures.once c.requires.number set same c.requires.listed

pub returns-else-this : goal.returns-else-this
returns-else-this c after set =
    let same : is_live c.args.state ≡ is_live (state_at c.args.edges.now c.args.number) = grind (arith, common_steps) in
    listed-kept c.args.edges.now c.args.number c.args.state after c.args.children.now c.args.parents.now c.edge_count-edges.ensures.once c.requires.number set same c.requires.listed

pub returns-in-true-false : goal.returns-in-true-false
returns-in-true-false c after set = c.take_out.ensures c.args.state after set (grind (arith, common_steps))

pub returns-in-false-true : goal.returns-in-false-true
returns-in-false-true c after set = c.put.ensures c.args.state after set (grind (arith, common_steps))
