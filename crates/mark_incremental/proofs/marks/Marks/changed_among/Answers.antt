-- One more vertex is told.
use Rattle.std.proofs.Common.{◌≡◌, ◌+◌, ◌<◌, ◌≤◌, true, false, List, Vec, Global, get_or, length, sym, ap, subst, ◌∙◌}
use Rattle.std.specs.Prelude.{◌↔◌}
use Rattle.std.proofs.lemmas.List.{take_all}
use Rattle.grove_edits.specs.declared.vertex.Vertex.{Vertex}
use Rattle.grove_edits.specs.Vertex.{stands_in}
use Rattle.mark_store.specs.Places.{holds}
use Rattle.mark_incremental.specs.Standing.{KeptMarks, records_in}
use Rattle.mark_incremental.specs.Changed.{IsJudgedAlike}
use Rattle.mark_incremental.proofs.Judgements.{IsFoundSoFar, found_more, found_passed}
use Rattle.mark_incremental.proofs.marks.Marks.changed_among.Goals as goal
use Rattle.mark_incremental.proofs.marks.Marks.changed_among.Goals.{then-not-is_unchanged+in_ok-push, else-not-is_unchanged}

pub loop-vertex-preserved : goal.loop-vertex-preserved
loop-vertex-preserved c was were =
    let i = c.loop-vertex.vertex-index in
    let item = c.vertex-item.result in
    let lent = c.deref-vertex-items.ensures.value in
    let within = subst (λ (vs : List Vertex). i < length vs) lent c.loop-vertex-test.true in
    let at = c.vertex-item.is ∙ ap (λ (vs : List Vertex). get_or vs i item) lent in
    let IsAlike = IsJudgedAlike (records_in was) (records_in c.args.self.now) (holds was.roots) (holds c.args.self.now.roots) in
    let vertices = c.args.before.now.vertices.items in
    let so_far = c.loop-vertex.invariant was were in
    elim c.if-not-is_unchanged.branch [
      | then-not-is_unchanged+in_ok-push w ↦
          found_more IsAlike vertices i item within at c.loop-vertex.changed.items so_far
          (λ alike. let is = (c.is_unchanged.ensures was were).1 alike in let is_not : c.is_unchanged.result ≡ false = w.if-not-is_unchanged.true in absurd cc)
          c.if-not-is_unchanged.changed.items (ap (λ (vs : Vec Vertex Global). vs.items) w.changed-is ∙ w.in_ok-push.ensures.items)
      | else-not-is_unchanged w ↦
          subst (λ (vs : Vec Vertex Global). IsFoundSoFar IsAlike vertices (i + 1) vs.items) (sym w.changed-is)
          (found_passed IsAlike vertices i item within at c.loop-vertex.changed.items so_far ((c.is_unchanged.ensures was were).0 w.if-not-is_unchanged.false))
    ]

pub returns : goal.returns
returns c was were =
    let i = c.loop-vertex.vertex-index in
    let IsAlike = IsJudgedAlike (records_in was) (records_in c.args.self.now) (holds was.roots) (holds c.args.self.now.roots) in
    let vertices = c.args.before.now.vertices.items in
    let all = subst (λ (vs : List Vertex). length vs ≤ i) c.deref-vertex-items.ensures.value c.loop-vertex-test.false in
    subst (λ (vs : List Vertex). (v : Vertex) → (stands_in v c.loop-vertex.changed.items ≡ true) ↔ ((stands_in v vs ≡ true) × (IsAlike v → ⊥)))
    (take_all i vertices all) (c.loop-vertex.invariant was were)
