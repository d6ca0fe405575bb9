use Rattle.std.proofs.Common.{sym, ◌∙◌}
use Rattle.live_graph.proofs.LeastTwo.{before_one, same_one, after_one}
use Rattle.live_graph.proofs.vertices.both.Goals as goal

pub returns-in-Less : goal.returns-in-Less
returns-in-Less c has one = before_one has c.args.b c.args.a (sym c.compare_vertices.ensures ∙ c.in-Less.is) one

pub returns-in-Equal : goal.returns-in-Equal
returns-in-Equal c has one = same_one has c.args.b c.args.a (sym c.compare_vertices.ensures ∙ c.in-Equal.is) one

pub returns-in-Greater : goal.returns-in-Greater
returns-in-Greater c has one = after_one has c.args.b c.args.a (sym c.compare_vertices.ensures ∙ c.in-Greater.is) one
