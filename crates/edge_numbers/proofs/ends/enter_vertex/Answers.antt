use Rattle.std.proofs.Common.{sym, ◌∙◌}
use Rattle.edge_numbers.proofs.Vertices.{number_found, number_stored, once_from_set, inserted_is, stood_before}
use Rattle.edge_numbers.proofs.ends.enter_vertex.Goals as goal

-- ---- where it has the number that is guessed

pub returns-then-is_at-clause-vertices : goal.returns-then-is_at-clause-vertices
returns-then-is_at-clause-vertices c = stood_before c.args.vertices.now.keys c.args.vertex.now c.guess-guess.result (c.is_at.ensures.there c.if-is_at.true)

pub returns-then-is_at-clause-once : goal.returns-then-is_at-clause-once
returns-then-is_at-clause-once c = once_from_set _ c.len-count.ensures.unique

-- ---- where all numbers are given

pub returns-in_default-clause-once : goal.returns-in_default-clause-once
returns-in_default-clause-once c = once_from_set _ c.len-count.ensures.unique

pub returns-then-count-clause-number : goal.returns-then-count-clause-number
returns-then-count-clause-number c = number_found c.args.vertices.now.keys c.args.vertex.now c.in-Some.number (sym c.in-Some.ensures.index)

pub returns-then-count-clause-vertices : goal.returns-then-count-clause-vertices
returns-then-count-clause-vertices c =
    stood_before c.args.vertices.now.keys c.args.vertex.now c.in-Some.number (number_found c.args.vertices.now.keys c.args.vertex.now c.in-Some.number (sym c.in-Some.ensures.index))

pub returns-then-count-clause-once : goal.returns-then-count-clause-once
returns-then-count-clause-once c = once_from_set _ c.len-count.ensures.unique

-- ---- where one is left

pub returns-in_err-number-clause-once : goal.returns-in_err-number-clause-once
returns-in_err-number-clause-once c = once_from_set _ c.in_err-number.ensures.unique

pub returns-clause-number : goal.returns-clause-number
returns-clause-number c =
    let found = c.in_ok-number.ensures.stored in
    number_stored c.insert_full.new.self.keys c.in_ok-number.number c.args.vertex.now found.0 found.1 found.2

pub returns-clause-vertices : goal.returns-clause-vertices
returns-clause-vertices c = c.in_ok-number.ensures.keys ∙ inserted_is c.args.vertices.now.keys c.args.vertex.now

pub returns-clause-once : goal.returns-clause-once
returns-clause-once c = once_from_set _ c.in_ok-number.ensures.unique
