-- What is written of the trees of a graph that were checked.
use Rattle.std.proofs.Common.{◌≡◌, ℕ, ◌+◌, List, [], ◌++◌, length, ◌∙◌}
use Rattle.grove_edits.specs.Graph.{Graph}
use Rattle.grove_terms.specs.declared.node.Node.{Node}
use Rattle.marking.specs.Marking.{MarkedNode}
use Rattle.grove_printer.specs.declared.section.Section.{Section}
use Rattle.grove_printer.specs.Print.{marked_lines, trees_marked_lines}
use Rattle.grove_answers.specs.declared.check.Checked.{Checked}
use Rattle.grove_answers.specs.Laws.{HasCounted}
use Rattle.grove_answers.specs.Reports.{IsReported}
use Rattle.grove_answers.specs.Texts.{IsCheckText, all_trees, roots_line}
use Rattle.grove_answers.proofs.Written.{three, three_counts, three_typed, section_lines, roots_behind}

abbrev begins : Checked → Section → ℕ → Checked → Type 0
begins before section trees after = (after.text.items ≡ before.text.items) × (after.roots ≡ before.roots + trees) × (after.typed ≡ before.typed)

abbrev takes : Checked → List (List Node) → List (List MarkedNode) → Checked → Type 0
takes before trees marked after = (after.text.items ≡ before.text.items ++ trees_marked_lines marked) × (after.roots ≡ before.roots) × HasCounted trees before.typed after.typed

pub checked_text : (g : Graph) (old new : Checked) (text : List ℕ) → old.text.items ≡ [] → old.roots ≡ 0 → old.typed ≡ 0 → IsReported begins takes g old new
    → text ≡ new.text.items ++ roots_line new.roots new.typed → IsCheckText g text
checked_text g old new text empty no_roots no_typed reported written =
    let grove = reported.grove in
    let x = reported.after_none in
    let y = reported.after_multi in
    let none = reported.none in
    let multi = reported.multi in
    let cycle = reported.cycle in
    record {
      grove = grove;
      marked = reported.marked;
      typed = new.typed;
      is_grove = reported.is_grove;
      is_marked = reported.is_marked;
      are_typed = three_typed grove.none grove.multi grove.cycle old.typed none.begun.typed x.typed multi.begun.typed y.typed cycle.begun.typed new.typed
          no_typed none.begin.2 none.taken.2 multi.begin.2 multi.taken.2 cycle.begin.2 cycle.taken.2;
      written = roots_behind (marked_lines reported.marked) new.text.items text new.roots new.typed (length (all_trees grove))
          (three old.text.items _ _ _ x.text.items y.text.items new.text.items empty
          (section_lines reported.marked.none old.text.items none.begun.text.items x.text.items none.begin.0 none.taken.0)
          (section_lines reported.marked.multi x.text.items multi.begun.text.items y.text.items multi.begin.0 multi.taken.0)
          (section_lines reported.marked.cycle y.text.items cycle.begun.text.items new.text.items cycle.begin.0 cycle.taken.0))
          (three_counts grove.none grove.multi grove.cycle old.roots x.roots y.roots new.roots no_roots (none.taken.1 ∙ none.begin.1) (multi.taken.1 ∙ multi.begin.1) (cycle.taken.1 ∙ cycle.begin.1))
          written;
    }
