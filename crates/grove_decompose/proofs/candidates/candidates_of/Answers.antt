use Rattle.std.proofs.Common.{ℕ, ◌+◌, List, drop, ◌∙◌, subst, sym, arith}
use Rattle.grove_edits.specs.declared.vertex.Vertex.{Vertex}
use Rattle.graph_table.specs.Table.{IsNumber}
use Rattle.grove_decompose.proofs.Vectors.{items_of}
use Rattle.grove_decompose.proofs.ByNumber.{AreCandidatesSoFar, vertices_left, no_candidate, one_candidate}
use Rattle.grove_decompose.proofs.candidates.candidates_of.Goals as goal
use Rattle.grove_decompose.proofs.candidates.candidates_of.Goals.{then-may_be_root+in_ok-push, else-may_be_root}

pub loop-number-preserved : goal.loop-number-preserved
loop-number-preserved c =
    let table = c.args.table.now in
    let n : ℕ = c.loop-number.number in
    let number : IsNumber table n = omega (arith, c.loop-number-test.true, c.requires.count) in
    let before : List Vertex = drop n table.vertices in
    let rest : List Vertex = drop (n + 1) table.vertices in
    let left = vertices_left table n number in
    elim c.if-may_be_root.branch [
      | then-may_be_root+in_ok-push w ↦
          one_candidate table n before rest c.loop-number.candidates.items c.if-may_be_root.candidates.items left number (items_of w.candidates-is ∙ w.in_ok-push.ensures.items) c.loop-number.invariant
      | else-may_be_root w ↦
          subst (AreCandidatesSoFar table rest) (sym (items_of w.candidates-is))
          (no_candidate table n before rest c.loop-number.candidates.items left (c.may_be_root.ensures w.if-may_be_root.false) c.loop-number.invariant)
    ]
