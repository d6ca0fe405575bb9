use Rattle.std.proofs.Common.{◌≡◌, ℕ, ◌+◌, List, ◌++◌, refl, sym, ap, ◌∙◌, add-zero, append-nil, arith}
use Rattle.std.proofs.lemmas.Grind.{common_steps}
use Rattle.marking.specs.Marking.{MarkedNode}
use Rattle.marking.specs.Reading.{meant_nodes}
use Rattle.grove_printer.specs.Print.{tree_marked_lines}
use Rattle.grove_answers.proofs.TypedTrees.{marks, marks_counted, one_typed, none_typed}
use Rattle.grove_answers.proofs.check.CheckedReport.take.Goals as goal

pub returns-in_ok-self : goal.returns-in_ok-self
returns-in_ok-self c = λ tree is.
    let ms : List MarkedNode = meant_nodes c.args.types.now c.args.marked.now in
    let counted : marks ms ≡ c.marks_in.result = marks_counted c.args.types.now c.args.marked.now c.added.result.now c.marks_in.result c.added.ensures c.marks_in.ensures in
    let one_more : c.in_ok-self.field-0 ≡ c.args.self.now.typed + 1 = grind (arith, common_steps) in (
      c.in_ok-print_marked_lines_of.ensures.appended ∙ ap (λ (xs : List ℕ). c.args.self.now.text.items ++ xs) (sym (append-nil (tree_marked_lines ms))),
      refl,
      (1, one_typed tree ms is (counted ∙ c.if-marks_in-eq0.true), one_more),
    )

pub returns-else-marks_in-eq0 : goal.returns-else-marks_in-eq0
returns-else-marks_in-eq0 c = λ tree is.
    let ms : List MarkedNode = meant_nodes c.args.types.now c.args.marked.now in
    let counted : marks ms ≡ c.marks_in.result = marks_counted c.args.types.now c.args.marked.now c.added.result.now c.marks_in.result c.added.ensures c.marks_in.ensures in (
      c.in_ok-print_marked_lines_of.ensures.appended ∙ ap (λ (xs : List ℕ). c.args.self.now.text.items ++ xs) (sym (append-nil (tree_marked_lines ms))),
      refl,
      (0, none_typed tree ms is (λ none. c.if-marks_in-eq0.false (sym counted ∙ none)), sym (add-zero c.args.self.now.typed)),
    )
