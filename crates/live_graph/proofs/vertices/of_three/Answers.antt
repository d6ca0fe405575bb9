use Rattle.std.proofs.Common.{sym, ap, is_lt, ◌∙◌}
use Rattle.live_graph.proofs.LeastTwo.{before_two, same_two, between_two, after_two, past_either}
use Rattle.live_graph.proofs.vertices.of_three.Goals as goal

pub returns-in-Less : goal.returns-in-Less
returns-in-Less c has two = before_two has c.args.c c.args.a c.args.b two (sym c.compare_vertices.ensures ∙ c.in-Less.is)

pub returns-in-Equal : goal.returns-in-Equal
returns-in-Equal c has two = same_two has c.args.c c.args.a c.args.b two (sym c.compare_vertices.ensures ∙ c.in-Equal.is)

pub returns-in-Less-compare_vertices : goal.returns-in-Less-compare_vertices
returns-in-Less-compare_vertices c has two =
    between_two has c.args.c c.args.a c.args.b two (sym c.compare_vertices.ensures ∙ c.in-Greater.is) (sym c.compare_vertices-in-Greater.ensures ∙ c.in-Less-compare_vertices.is)

pub returns-in-Equal-compare_vertices : goal.returns-in-Equal-compare_vertices
returns-in-Equal-compare_vertices c has two =
    after_two has c.args.c c.args.a c.args.b two (ap is_lt (sym c.compare_vertices-in-Greater.ensures) ∙ past_either c.compare_vertices-in-Greater.result c.in-Equal-compare_vertices.is)
