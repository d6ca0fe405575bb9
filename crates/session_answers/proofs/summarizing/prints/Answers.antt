use Rattle.std.proofs.Common.{List, ℕ, sym, subst}
use Rattle.std.proofs.lemmas.Bool.Decides.{Decides-eqb}
use Rattle.std.proofs.lemmas.Slice.Eq.{slice_eq-Decides}
use Rattle.grove_edits.specs.Graph.{graph}
use Rattle.grove_answers.specs.Texts.{IsPrintText}
use Rattle.session_answers.proofs.Summed.{tells_print}
use Rattle.session_answers.proofs.summarizing.prints.Goals as goal

pub returns : goal.returns
returns c =
    let decided = slice_eq-Decides Decides-eqb c.as_slice.result.now c.args.text.now c.eq.result c.eq.ensures in
    tells_print c.args.replica.now c.as_slice.result.now c.args.text.now c.eq.result
    (subst (λ (t : List ℕ). IsPrintText (graph c.args.replica.now.edits) t) (sym c.as_slice.ensures.value) c.in_ok-own.ensures) decided.0 decided.1
