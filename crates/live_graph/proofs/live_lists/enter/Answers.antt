use Rattle.std.proofs.Common.{◌<◌, ◌^◌, length, refl, sym, ap, subst, ◌∙◌}
use Rattle.edge_numbers.specs.Numbered.{with_entry}
use Rattle.graph_words.specs.States.{Entries}
use Rattle.grove_sorts.proofs.Truths.{after_error}
use Rattle.live_graph.proofs.Listed.{same_begins, listed-vertices, listed-entered}
use Rattle.live_graph.proofs.Counts.{uses_vertices, names_vertices, uses_entered}
use Rattle.live_graph.proofs.NumbersStay.{numbers_kept, none_moved, moved_twice}
use Rattle.live_graph.proofs.live_lists.enter.Goals as goal

pub returns-in_err-source-clause-uses : goal.returns-in_err-source-clause-uses
returns-in_err-source-clause-uses c =
    uses_vertices c.args.edges.now c.make_places.new.edges c.make_places.ensures.entries c.make_places.ensures.vertices c.args.uses.now.items c.requires.uses

pub returns-in_err-source-clause-names : goal.returns-in_err-source-clause-names
returns-in_err-source-clause-names c =
    names_vertices c.args.edges.now c.make_places.new.edges c.make_places.ensures.entries c.make_places.ensures.vertices (length c.args.uses.now.items) c.args.vertex_names.now
    c.requires.uses.within c.requires.names

pub name_vertices-requires-clause-uses : goal.name_vertices-requires-clause-uses
name_vertices-requires-clause-uses c =
    uses_vertices c.args.edges.now c.make_places.new.edges c.make_places.ensures.entries c.make_places.ensures.vertices c.args.uses.now.items c.requires.uses

pub name_vertices-requires-clause-names : goal.name_vertices-requires-clause-names
name_vertices-requires-clause-names c =
    names_vertices c.args.edges.now c.make_places.new.edges c.make_places.ensures.entries c.make_places.ensures.vertices (length c.args.uses.now.items) c.args.vertex_names.now
    c.requires.uses.within c.requires.names

pub returns-in_err-number-clause-listed : goal.returns-in_err-number-clause-listed
returns-in_err-number-clause-listed c =
    listed-vertices c.make_places.new.edges c.enter.new.self c.make_places.new.children c.make_places.new.parents c.in_err-number.ensures.unchanged (same_begins c.enter.new.self.vertices c.make_places.new.edges.vertices c.enter.ensures.vertices)
    c.edge_count-edges.ensures.ends c.make_places.ensures.listed

pub returns-in_err-number-clause-uses : goal.returns-in_err-number-clause-uses
returns-in_err-number-clause-uses c =
    uses_vertices c.make_places.new.edges c.enter.new.self c.in_err-number.ensures.unchanged (same_begins c.enter.new.self.vertices c.make_places.new.edges.vertices c.enter.ensures.vertices) c.name_vertices.new.uses.items c.name_vertices.ensures.uses

pub returns-in_err-number-clause-names : goal.returns-in_err-number-clause-names
returns-in_err-number-clause-names c =
    names_vertices c.make_places.new.edges c.enter.new.self c.in_err-number.ensures.unchanged (same_begins c.enter.new.self.vertices c.make_places.new.edges.vertices c.enter.ensures.vertices) (length c.name_vertices.new.uses.items) c.name_vertices.new.names
    c.name_vertices.ensures.uses.within c.name_vertices.ensures.names

pub returns-in_err-number-clause-unchanged : goal.returns-in_err-number-clause-unchanged
returns-in_err-number-clause-unchanged c = after_error c.from_residual-in_err-number.result (c.in_err-number.ensures.unchanged ∙ c.make_places.ensures.entries)

pub returns-clause-listed : goal.returns-clause-listed
returns-clause-listed c =
    listed-entered c.make_places.new.edges c.enter.new.self c.make_places.new.children c.make_places.new.parents c.args.edge.now c.make_places.ensures.listed
    (subst (λ (es : Entries). length es < 2 ^ 32) (sym c.make_places.ensures.entries) c.in_ok-want_number.ensures)
    c.in_ok-source.ensures.ends c.in_ok-source.ensures.source c.in_ok-source.ensures.target c.edge_count-edges.ensures.ends (same_begins c.enter.new.self.vertices c.make_places.new.edges.vertices c.enter.ensures.vertices)
    c.in_ok-number.ensures.entries c.enter.ensures.numbers_stay c.enter.ensures.graph

pub returns-clause-uses : goal.returns-clause-uses
returns-clause-uses c =
    uses_entered c.make_places.new.edges c.enter.new.self c.name_vertices.new.uses.items c.args.edge.now c.name_vertices.ensures.uses c.in_ok-name_vertices.ensures.all
    c.in_ok-source.ensures.ends (same_begins c.enter.new.self.vertices c.make_places.new.edges.vertices c.enter.ensures.vertices) c.in_ok-number.ensures.entries

pub returns-clause-names : goal.returns-clause-names
returns-clause-names c =
    names_vertices c.make_places.new.edges (record { vertices = c.enter.new.self.vertices; entries = c.make_places.new.edges.entries }) refl (same_begins c.enter.new.self.vertices c.make_places.new.edges.vertices c.enter.ensures.vertices)
    (length c.name_vertices.new.uses.items) c.name_vertices.new.names c.name_vertices.ensures.uses.within c.name_vertices.ensures.names

pub returns-clause-entries : goal.returns-clause-entries
returns-clause-entries c = c.in_ok-number.ensures.entries ∙ ap (with_entry c.args.edge.now) c.make_places.ensures.entries

pub returns-in_err-source-clause-numbers_stay : goal.returns-in_err-source-clause-numbers_stay
returns-in_err-source-clause-numbers_stay c = none_moved c.args.edges.now.entries c.make_places.new.edges.entries c.make_places.ensures.entries

pub returns-in_err-name_vertices-clause-numbers_stay : goal.returns-in_err-name_vertices-clause-numbers_stay
returns-in_err-name_vertices-clause-numbers_stay c = none_moved c.args.edges.now.entries c.make_places.new.edges.entries c.make_places.ensures.entries

pub returns-in_err-number-clause-numbers_stay : goal.returns-in_err-number-clause-numbers_stay
returns-in_err-number-clause-numbers_stay c =
    moved_twice c.args.edges.now.entries c.make_places.new.edges.entries c.enter.new.self.entries (none_moved c.args.edges.now.entries c.make_places.new.edges.entries c.make_places.ensures.entries)
    (numbers_kept c.make_places.new.edges c.enter.new.self c.enter.ensures.numbers_stay)

pub returns-clause-numbers_stay : goal.returns-clause-numbers_stay
returns-clause-numbers_stay c =
    moved_twice c.args.edges.now.entries c.make_places.new.edges.entries c.enter.new.self.entries (none_moved c.args.edges.now.entries c.make_places.new.edges.entries c.make_places.ensures.entries)
    (numbers_kept c.make_places.new.edges c.enter.new.self c.enter.ensures.numbers_stay)
