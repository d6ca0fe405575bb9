use Rattle.std.proofs.Common.{sym, ◌∙◌}
use Rattle.edge_numbers.proofs.Vertices.{number_only, numbers_found, once_from_set}
use Rattle.edge_numbers.proofs.ends.number_of.Goals as goal

pub returns-then-is_at-clause-only : goal.returns-then-is_at-clause-only
returns-then-is_at-clause-only c n at =
    let vs = c.args.vertices.now.keys in
    let once = once_from_set vs c.len-vertices.ensures.unique in
    sym (number_only vs c.args.vertex.now c.guess-guess.result once (c.is_at.ensures.there c.if-is_at.true)) ∙ number_only vs c.args.vertex.now n once at

pub returns-clause-number : goal.returns-clause-number
returns-clause-number c = numbers_found c.args.vertices.now.keys c.args.vertex.now c.get_index_of.result c.get_index_of.ensures.index

pub returns-clause-only : goal.returns-clause-only
returns-clause-only c n at = c.get_index_of.ensures.index ∙ number_only c.args.vertices.now.keys c.args.vertex.now n (once_from_set c.args.vertices.now.keys c.len-vertices.ensures.unique) at
