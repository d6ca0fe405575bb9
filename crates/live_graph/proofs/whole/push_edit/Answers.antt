use Rattle.std.proofs.Common.{◌<◌, ◌≤◌, length, arith}
use Rattle.std.proofs.lemmas.Bool.{lt-ltb, le-ltb}
use Rattle.live_graph.proofs.Listing.{edit_pushed, edit_passed, number_passed}
use Rattle.live_graph.proofs.whole.push_edit.Goals as goal

pub returns-then-number-edge_count : goal.returns-then-number-edge_count
returns-then-number-edge_count c =
    let count = length c.args.edges.now.entries in
    let beyond : count ≤ c.args.number = omega (arith, c.edge_count.ensures.count, c.if-number-edge_count.true) in
    number_passed c.args.edges.now c.args.number c.args.edits.now (le-ltb c.args.number count beyond)

pub returns-in_ok-push : goal.returns-in_ok-push
returns-in_ok-push c =
    let count = length c.args.edges.now.entries in
    let within : c.args.number < count = omega (arith, c.edge_count.ensures.count, c.if-number-edge_count.false) in
    edit_pushed c.args.edges.now c.args.number c.args.edits.now c.push.new.self c.edge.result c.state_at.result c.in-Some.edit (lt-ltb c.args.number count within) c.edge.ensures c.state_at.ensures c.in-Some.ensures
    c.in_ok-push.ensures.appended

pub returns-in_default : goal.returns-in_default
returns-in_default c =
    let count = length c.args.edges.now.entries in
    let within : c.args.number < count = omega (arith, c.edge_count.ensures.count, c.if-number-edge_count.false) in
    edit_passed c.args.edges.now c.args.number c.args.edits.now c.edge.result c.state_at.result (lt-ltb c.args.number count within) c.edge.ensures c.state_at.ensures c.in_default.ensures
