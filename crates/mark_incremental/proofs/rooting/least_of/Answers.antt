-- One more vertex.
use Rattle.std.proofs.Common.{◌≡◌, ◌+◌, [], ◌∷◌, ◌++◌, take, sym, ap, subst, ◌∙◌}
use Rattle.std.proofs.lemmas.List.{take_more}
use Rattle.grove_edits.specs.declared.vertex.Vertex.{Vertex}
use Rattle.mark_incremental.specs.Rooting.{IsLeastOf}
use Rattle.mark_incremental.proofs.Least.{least_more}
use Rattle.mark_incremental.proofs.rooting.least_of.Goals as goal

pub loop-vertex-preserved : goal.loop-vertex-preserved
loop-vertex-preserved c =
    let i = c.loop-vertex.vertex-index in
    let item = c.vertex-item.result in
    let more : take (i + 1) c.args.others.now ≡ take i c.args.others.now ++ item ∷ [] =
    take_more c.args.others.now i item c.loop-vertex-test.true ∙ ap (λ (x : Vertex). take i c.args.others.now ++ x ∷ []) (sym c.vertex-item.is) in
    subst (λ xs. IsLeastOf c.args.first.now xs c.lesser-least.result) (sym more)
    (subst (λ (x : Vertex). IsLeastOf c.args.first.now (take i c.args.others.now ++ item ∷ []) x) (sym c.lesser-least.ensures)
    (least_more c.args.first.now c.loop-vertex.least item (take i c.args.others.now) c.loop-vertex.invariant))
