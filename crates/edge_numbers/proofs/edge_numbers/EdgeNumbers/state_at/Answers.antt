use Rattle.std.proofs.Common.{sym, ap, ◌∙◌}
use Rattle.edge_lattice.specs.declared.state.State.TheVariants.{Absent}
use Rattle.std.specs.Map.{values_of}
use Rattle.std.proofs.lemmas.Option.{get_or_from_slice_get}
use Rattle.std.specs.Prelude.{slice_index_or}
use Rattle.edge_numbers.specs.Numbered.{Numbered, state_at}
use Rattle.edge_numbers.proofs.Narrow.{states_are}
use Rattle.edge_numbers.proofs.edge_numbers.EdgeNumbers.state_at.Goals as goal

pub returns : goal.returns
returns c =
    let es = c.self.inside.edges.entries in
    sym (get_or_from_slice_get (values_of es) c.args.number c.index.result.now Absent c.index.ensures)
    ∙ sym (ap (λ states. slice_index_or states c.args.number Absent) (states_are c.self.inside.vertices.keys es))
    ∙ ap (λ (ns : Numbered). state_at ns c.args.number) c.self.view_is
