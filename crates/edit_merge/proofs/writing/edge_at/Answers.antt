use Rattle.std.proofs.Common.{◌≤◌, ◌-◌, ℕ, List, length, take, drop, ap, ◌∙◌, arith, rules}
use Rattle.std.proofs.lemmas.Slice.{between_to_end}
use Rattle.grove_edits.specs.Edit.{edit_edge, edit_kind}
use Rattle.edit_text.specs.Line.{form}
use Rattle.edit_merge.proofs.writing.edge_at.Goals as goal

pub slice_bounds-result-count : goal.slice_bounds-result-count
slice_bounds-result-count c = omega (arith, ap length (c.line_at.ensures c.requires.0 c.requires.1.0 c.requires.1.1))

pub slice_bounds-result-start : goal.slice_bounds-result-start
slice_bounds-result-start c =
    let some : 1 ≤ length c.line_at.result.now = omega (arith, ap length (c.line_at.ensures c.requires.0 c.requires.1.0 c.requires.1.1)) in
    search rules

pub returns : goal.returns
returns c = λ version edit stands.
    let bytes = form (edit_kind edit) (edit_edge edit) in
    ap (λ (b : List ℕ). take (length b - 1) (drop 1 b)) (c.line_at.ensures version edit stands) ∙ between_to_end bytes 1 (length bytes) (omega arith)
