-- What is written of the trees of a graph that were shown.
use Rattle.std.proofs.Common.{◌≡◌, ℕ, List, [], ◌++◌}
use Rattle.grove_edits.specs.Graph.{Graph}
use Rattle.grove_terms.specs.declared.node.Node.{Node}
use Rattle.marking.specs.Marking.{MarkedNode}
use Rattle.grove_printer.specs.declared.section.Section.{Section}
use Rattle.grove_printer.specs.declared.section.Section.TheVariants.{NoParent, Multi, Cycle}
use Rattle.grove_printer.specs.Print.{heading, trees_text}
use Rattle.grove_answers.specs.declared.show.Shown.{Shown}
use Rattle.grove_answers.specs.Reports.{IsReported}
use Rattle.grove_answers.specs.Texts.{IsPrintText}
use Rattle.grove_answers.proofs.Written.{three, section_printed}

abbrev begins : Shown → Section → ℕ → Shown → Type 0
begins before section trees after = after.text.items ≡ before.text.items ++ heading section trees

abbrev takes : Shown → List (List Node) → List (List MarkedNode) → Shown → Type 0
takes before trees marked after = after.text.items ≡ before.text.items ++ trees_text marked

pub shown_text : (g : Graph) (before after : Shown) → before.text.items ≡ [] → IsReported begins takes g before after → IsPrintText g after.text.items
shown_text g before after empty reported =
    let old = before.text.items in
    let x = reported.after_none.text.items in
    let y = reported.after_multi.text.items in
    let new = after.text.items in
    record {
      grove = reported.grove;
      marked = reported.marked;
      is_grove = reported.is_grove;
      is_marked = reported.is_marked;
      written = three old _ _ _ x y new empty
          (section_printed NoParent reported.grove.none reported.marked.none old reported.none.begun.text.items x reported.is_marked.none reported.none.begin reported.none.taken)
          (section_printed Multi reported.grove.multi reported.marked.multi x reported.multi.begun.text.items y reported.is_marked.multi reported.multi.begin reported.multi.taken)
          (section_printed Cycle reported.grove.cycle reported.marked.cycle y reported.cycle.begun.text.items new reported.is_marked.cycle reported.cycle.begin reported.cycle.taken);
    }
