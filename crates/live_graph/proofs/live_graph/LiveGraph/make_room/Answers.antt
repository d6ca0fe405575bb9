use Rattle.std.proofs.Common.{length, refl, sym, ap, subst, ◌∙◌}
use Rattle.graph_words.specs.Live.{targets_of}
use Rattle.graph_words.specs.States.{Entries, state_in, HasRoom}
use Rattle.live_graph.specs.Live.{live}
use Rattle.live_graph.specs.NumberOf.{IsNumberOf, KeepsNumbersOf}
use Rattle.live_graph.proofs.Names.{names_after, names_kept}
use Rattle.live_graph.proofs.Numbers.{room-at}
use Rattle.live_graph.proofs.Entered.{graph_stays, live_stays, room_kept, room_made}
use Rattle.live_graph.proofs.live_graph.LiveGraph.make_room.Goals as goal

pub returns-in-Some-clause-room : goal.returns-in-Some-clause-room
returns-in-Some-clause-room c =
    let number = c.in-Some.ensures.number in
    subst (λ (es : Entries). HasRoom es c.args.edge.now) c.self.view_is (subst (HasRoom c.self.inside.edges.entries) number.1 (room-at c.self.inside.edges.entries c.in-Some.number number.0))

pub returns-clause-room : goal.returns-clause-room
returns-clause-room c = room_made c.enter.result c.self.inside.edges.entries c.enter.new.edges.entries c.args.edge.now c.enter.ensures.entries

pub returns-in-Some-clause-number : goal.returns-in-Some-clause-number
returns-in-Some-clause-number c = subst (λ (es : Entries). IsNumberOf es c.args.edge.now c.in-Some.number) c.self.view_is c.in-Some.ensures.number

pub returns-clause-numbers_stay : goal.returns-clause-numbers_stay
returns-clause-numbers_stay c = subst (λ (es : Entries). KeepsNumbersOf es c.enter.new.edges.entries) c.self.view_is c.enter.ensures.numbers_stay

pub returns-clause-room_stays : goal.returns-clause-room_stays
returns-clause-room_stays c e has =
    room_kept c.enter.result c.self.inside.edges.entries c.enter.new.edges.entries c.args.edge.now c.enter.ensures.entries c.enter.ensures.unchanged e
    (subst (λ (es : Entries). HasRoom es e) (sym c.self.view_is) has)

pub returns-clause-unchanged : goal.returns-clause-unchanged
returns-clause-unchanged c e =
    graph_stays c.enter.result c.self.inside.edges.entries c.enter.new.edges.entries c.args.edge.now c.enter.ensures.entries c.enter.ensures.unchanged e
    ∙ ap (λ (es : Entries). state_in es e) c.self.view_is

pub returns-clause-live_stays : goal.returns-clause-live_stays
returns-clause-live_stays c =
    live_stays c.enter.result c.self.inside.edges.entries c.enter.new.edges.entries c.args.edge.now c.enter.ensures.entries c.enter.ensures.unchanged ∙ ap live c.self.view_is

pub invariant_of-self-2 : goal.invariant_of-self-2
invariant_of-self-2 c = record {
  listed = c.enter.ensures.listed;
  counted =
      c.self.invariant.counted
      ∙ ap (λ es. length (targets_of es)) (sym (live_stays c.enter.result c.self.inside.edges.entries c.enter.new.edges.entries c.args.edge.now c.enter.ensures.entries c.enter.ensures.unchanged));
  named =
      names_after c.enter.result c.self.inside.edges c.enter.new.edges c.self.inside.edge_names c.name_next_edge.new.names c.args.edge.now c.enter.ensures.entries c.enter.ensures.unchanged
      c.name_next_edge.ensures.kept c.in_ok-name_next_edge.ensures.added c.self.invariant.named;
  used = c.enter.ensures.uses;
  vertices_named = c.enter.ensures.names;
}

pub invariant_of-self : goal.invariant_of-self
invariant_of-self c = record {
  listed = c.self.invariant.listed;
  counted = c.self.invariant.counted;
  named = names_kept c.self.inside.edges c.self.inside.edges c.self.inside.edge_names c.name_next_edge.new.names refl c.name_next_edge.ensures.kept c.self.invariant.named;
  used = c.self.invariant.used;
  vertices_named = c.self.invariant.vertices_named;
}
