use Rattle.std.proofs.Common.{sym, ap, ◌∙◌}
use Rattle.std.proofs.lemmas.Bool.Decides.{Decides-eqb}
use Rattle.std.proofs.lemmas.Slice.Eq.{slice_eq-Decides}
use Rattle.grove_edits.specs.declared.edge.Edge.{Edge}
use Rattle.edit_text.specs.Line.{spaced, edge_parts}
use Rattle.edit_merge.proofs.OneEdge.{one_edge_from_text}
use Rattle.edit_merge.proofs.writing.are_of_one_edge.Goals as goal

pub returns : goal.returns
returns c = λ version a b of_a of_b.
    let decides = slice_eq-Decides Decides-eqb c.edge_at.result.now c.edge_at-2.result.now c.eq.result c.eq.ensures in
    let spelled_a = c.edge_at.ensures version a of_a in
    let spelled_b = c.edge_at-2.ensures version b of_b in
    (λ same. one_edge_from_text a b (sym spelled_a ∙ decides.0 same ∙ spelled_b), λ one. decides.1 (spelled_a ∙ ap (λ (e : Edge). spaced (edge_parts e)) one ∙ sym spelled_b))
