use Rattle.std.proofs.Common.{Some, sym, ap, ◌∙◌}
use Rattle.edge_numbers.proofs.Vertices.{exact}
use Rattle.edge_numbers.proofs.ends.is_at.Goals as goal

pub returns-in-Some-clause-there : goal.returns-in-Some-clause-there
returns-in-Some-clause-there c is = sym c.in-Some.ensures.key ∙ ap Some (exact c.in-Some.found.now c.args.vertex.now (sym c.eq.ensures ∙ is))
