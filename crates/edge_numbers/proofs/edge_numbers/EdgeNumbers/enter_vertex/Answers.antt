use Rattle.std.proofs.Common.{ap, ◌∙◌}
use Rattle.std.proofs.lemmas.Option.{slice_get_within, get_or_from_slice_get}
use Rattle.grove_edits.specs.Vertex.{root}
use Rattle.edge_numbers.specs.Numbered.{Numbered}
use Rattle.edge_numbers.proofs.Narrow.{entries_stay, numbered_stays}
use Rattle.edge_numbers.proofs.edge_numbers.EdgeNumbers.enter_vertex.Goals as goal

pub invariant_of-self : goal.invariant_of-self
invariant_of-self c =
    let end = c.in_err-number.ensures in
    numbered_stays c.enter_vertex.new.vertices.keys c.self.inside.vertices.keys end.stays c.self.inside.edges.entries end.once end.fits c.self.invariant

pub invariant_of-self-2 : goal.invariant_of-self-2
invariant_of-self-2 c =
    let end = c.in_ok-number.ensures in
    numbered_stays c.enter_vertex.new.vertices.keys c.self.inside.vertices.keys end.stays c.self.inside.edges.entries end.once end.fits c.self.invariant

pub returns-in_err-number-clause-entries : goal.returns-in_err-number-clause-entries
returns-in_err-number-clause-entries c =
    entries_stay c.enter_vertex.new.vertices.keys c.self.inside.vertices.keys c.in_err-number.ensures.stays c.self.inside.edges.entries c.self.invariant.ends
    ∙ ap (λ (ns : Numbered). ns.entries) c.self.view_is

pub returns-clause-entries : goal.returns-clause-entries
returns-clause-entries c =
    entries_stay c.enter_vertex.new.vertices.keys c.self.inside.vertices.keys c.in_ok-number.ensures.stays c.self.inside.edges.entries c.self.invariant.ends
    ∙ ap (λ (ns : Numbered). ns.entries) c.self.view_is

pub returns-clause-number : goal.returns-clause-number
returns-clause-number c =
    let at = c.in_ok-number.ensures.number in
    (slice_get_within c.enter_vertex.new.vertices.keys c.in_ok-number.number c.args.vertex.now at, get_or_from_slice_get c.enter_vertex.new.vertices.keys c.in_ok-number.number c.args.vertex.now root at)
