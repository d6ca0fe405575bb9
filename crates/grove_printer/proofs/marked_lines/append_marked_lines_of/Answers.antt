use Rattle.std.proofs.Common.{rules, ◌≡◌, ◌++◌, [], sym, ap, subst, ◌∙◌, append-nil, refl}
use Rattle.std.specs.Iterator.Adapters.{zip_first, zip_second}
use Rattle.std.specs.Slice.Iter.{iter_rest}
use Rattle.std.proofs.lemmas.Slice.Zip.{either_empty_from_Zip}
use Rattle.marking.specs.Added.{marked_nodes}
use Rattle.marking.specs.Reading.{meant_nodes}
use Rattle.marking.specs.Numbers.{AreMarkedNodesOf}
use Rattle.grove_printer.specs.Print.{tree_marked_lines}
use Rattle.grove_printer.proofs.Extending.{extends_further}
use Rattle.grove_sorts.proofs.Truths.{after_error}
use Rattle.grove_printer.proofs.Lines.{all_left, none_left}
use Rattle.grove_printer.proofs.marked_lines.append_marked_lines_of.Goals as goal

pub loop-node-init : goal.loop-node-init
loop-node-init c =
    let nodes = iter_rest (zip_first c.into_iter-node-iterator.result) in
    let added = iter_rest (zip_second c.into_iter-node-iterator.result) in
    let first : nodes ≡ c.nodes.result.now = search rules in
    let second : added ≡ c.added.result.now = search rules in
    let left : marked_nodes nodes added ≡ c.args.tree.now = all_left nodes added c.args.tree.now (first ∙ c.nodes.ensures) (second ∙ c.added.ensures) in
    record {
      written = ap (λ ms. c.args.out.now.items ++ tree_marked_lines (meant_nodes c.args.types.now ms)) left;
      front = ([], sym (append-nil c.args.out.now.items));
      numbers = subst (AreMarkedNodesOf c.args.types.now) (sym left) c.requires;
      same_types = refl;
    }

pub returns-in_err-append_line-clause-in_part : goal.returns-in_err-append_line-clause-in_part
returns-in_err-append_line-clause-in_part c = after_error c.from_residual.result (extends_further _ _ _ c.loop-node.invariant.front c.in_err-append_line.ensures.in_part)

pub returns-clause-appended : goal.returns-clause-appended
returns-clause-appended c =
    let nodes = iter_rest (zip_first c.loop-node.node-iterator) in
    let added = iter_rest (zip_second c.loop-node.node-iterator) in
    let none : marked_nodes nodes added ≡ [] = none_left nodes added (either_empty_from_Zip c.loop-node.node-iterator c.next.new.self c.next.result c.in-None.is c.next.ensures.steps) in
    sym (append-nil c.loop-node.out.items) ∙ ap (λ ms. c.loop-node.out.items ++ tree_marked_lines (meant_nodes c.args.types.now ms)) (sym none) ∙ c.loop-node.invariant.written
