use Rattle.std.proofs.Common.{◌≡◌, ap, sym, subst, ◌∙◌}
use Rattle.std.proofs.lemmas.Result.{on_ok_weaker}
use Rattle.edge_numbers.specs.declared.narrow_edge.NarrowEdge.{NarrowEdge}
use Rattle.edge_numbers.specs.Numbered.{Numbered, IsNumberOfVertex, with_entry}
use Rattle.edge_numbers.specs.Narrow.{edge_of, entries_of, numbered, HasEnds}
use Rattle.edge_numbers.proofs.Entered.{on_err_weaker, number_entered, graph_stays, room_kept, room_made, numbers_kept}
use Rattle.edge_numbers.proofs.Narrow.{narrow_between}
use Rattle.edge_numbers.proofs.edge_numbers.EdgeNumbers.enter.Goals as goal
use Rattle.edge_numbers.proofs.edge_numbers.EdgeNumbers.enter.Goals.{After-enter_edge}

abbrev narrow : After-enter_edge → NarrowEdge
narrow c = record { name = c.args.edge.now.name; source = c.args.source; target = c.args.target; position = c.args.edge.now.position }

source_at : (c : After-enter_edge) → IsNumberOfVertex (numbered c.self.inside.vertices.keys c.self.inside.edges.entries) c.args.edge.now.source c.args.source
source_at c = subst (λ (ns : Numbered). IsNumberOfVertex ns c.args.edge.now.source c.args.source) (sym c.self.view_is) c.requires.source

target_at : (c : After-enter_edge) → IsNumberOfVertex (numbered c.self.inside.vertices.keys c.self.inside.edges.entries) c.args.edge.now.target c.args.target
target_at c = subst (λ (ns : Numbered). IsNumberOfVertex ns c.args.edge.now.target c.args.target) (sym c.self.view_is) c.requires.target

stands_for : (c : After-enter_edge) → edge_of c.self.inside.vertices.keys (narrow c) ≡ c.args.edge.now
stands_for c = narrow_between c.self.inside.vertices.keys c.args.edge.now c.args.source c.args.target (source_at c).1 (target_at c).1

ends : (c : After-enter_edge) → HasEnds c.self.inside.vertices.keys (narrow c)
ends c = ((source_at c).0, (target_at c).0)

before : (c : After-enter_edge) → entries_of c.self.inside.vertices.keys c.self.inside.edges.entries ≡ c.args.self.now.entries
before c = ap (λ (ns : Numbered). ns.entries) c.self.view_is

pub invariant_of-self : goal.invariant_of-self
invariant_of-self c = c.enter_edge.ensures.numbered c.self.inside.vertices.keys c.self.invariant (ends c)

pub returns-clause-number : goal.returns-clause-number
returns-clause-number c =
    number_entered c.enter_edge.result c.self.inside.vertices.keys c.enter_edge.new.edges.entries (narrow c) c.args.edge.now (stands_for c) c.enter_edge.ensures.number

pub returns-clause-entries : goal.returns-clause-entries
returns-clause-entries c =
    on_ok_weaker c.enter_edge.result (λ is. is ∙ (λ j. with_entry (stands_for c j) (before c j))) (c.enter_edge.ensures.entered c.self.inside.vertices.keys c.self.invariant (ends c))

pub returns-clause-unchanged : goal.returns-clause-unchanged
returns-clause-unchanged c = on_err_weaker c.enter_edge.result (λ is. ap (entries_of c.self.inside.vertices.keys) is ∙ before c) c.enter_edge.ensures.unchanged

pub returns-clause-graph : goal.returns-clause-graph
returns-clause-graph c =
    graph_stays c.enter_edge.result c.args.self.now.entries (entries_of c.self.inside.vertices.keys c.enter_edge.new.edges.entries) c.args.edge.now (returns-clause-entries c)
    (returns-clause-unchanged c)

pub returns-clause-room : goal.returns-clause-room
returns-clause-room c =
    room_made c.enter_edge.result c.args.self.now.entries (entries_of c.self.inside.vertices.keys c.enter_edge.new.edges.entries) c.args.edge.now (returns-clause-entries c)

pub returns-clause-room_stays : goal.returns-clause-room_stays
returns-clause-room_stays c =
    room_kept c.enter_edge.result c.args.self.now.entries (entries_of c.self.inside.vertices.keys c.enter_edge.new.edges.entries) c.args.edge.now (returns-clause-entries c)
    (returns-clause-unchanged c)

pub returns-clause-numbers_stay : goal.returns-clause-numbers_stay
returns-clause-numbers_stay c =
    numbers_kept c.enter_edge.result c.args.self.now.entries (entries_of c.self.inside.vertices.keys c.enter_edge.new.edges.entries) c.args.edge.now (returns-clause-entries c)
    (returns-clause-unchanged c)
