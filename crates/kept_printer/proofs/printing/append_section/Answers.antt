use Rattle.std.proofs.Common.{ℕ, subst}
use Rattle.std.proofs.lemmas.Result.{on_ok_weaker}
use Rattle.graph_table.specs.Table.{live}
use Rattle.grove_decompose.specs.Trees.{vertices_of}
use Rattle.grove_printer.specs.Print.{heading}
use Rattle.grove_printer.proofs.Extending.{extends_on_error}
use Rattle.grove_answers.proofs.Heads.{vertices_count}
use Rattle.grove_answers.proofs.Reported.{section_reported}
use Rattle.kept_printer.specs.Printed.{begins, takes}
use Rattle.kept_printer.proofs.printing.append_section.Goals as goal

pub returns-clause-printed : goal.returns-clause-printed
returns-clause-printed c =
    on_ok_weaker c.append_trees.result
    (λ reported. section_reported begins takes (live c.args.table.now) c.args.section (vertices_of c.args.table.now c.args.heads.now) c.args.out.now.items c.append_heading.new.out.items c.append_trees.new.out.items
    (subst (λ (n : ℕ). begins c.args.out.now.items c.args.section n c.append_heading.new.out.items) (vertices_count c.args.table.now c.args.heads.now) c.in_ok-append_heading.ensures.appended) reported)
    c.append_trees.ensures.printed

pub returns-clause-in_part : goal.returns-clause-in_part
returns-clause-in_part c = extends_on_error c.append_trees.result _ _ _ (heading c.args.section _, c.in_ok-append_heading.ensures.appended) c.append_trees.ensures.in_part
