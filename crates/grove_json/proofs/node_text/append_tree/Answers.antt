use Rattle.std.proofs.Common.{rules, ◌≡◌, ◌++◌, [], ◌∷◌, map, sym, ap, subst, ◌∙◌, refl}
use Rattle.std.specs.Prelude.{false}
use Rattle.std.specs.Iterator.Adapters.{zip_first, zip_second}
use Rattle.std.specs.Slice.Iter.{iter_rest}
use Rattle.std.proofs.lemmas.Slice.Zip.{either_empty_from_Zip}
use Rattle.serde_json.specs.View.{items_of}
use Rattle.serde_json.specs.Written.{compact_text, items_text}
use Rattle.marking.specs.Added.{marked_nodes, with_added}
use Rattle.marking.specs.Reading.{meant, meant_nodes}
use Rattle.marking.specs.Numbers.{AreMarkedNodesOf}
use Rattle.grove_printer.proofs.Lines.{all_left, none_left}
use Rattle.grove_json.specs.GroveValue.{node_value}
use Rattle.grove_json.proofs.Texts.{node_behind, tree_written}
use Rattle.grove_json.proofs.node_text.append_tree.Goals as goal

pub loop-node-init : goal.loop-node-init
loop-node-init c =
    let types = c.args.types.now in
    let nodes = iter_rest (zip_first c.into_iter-node-iterator.result) in
    let added = iter_rest (zip_second c.into_iter-node-iterator.result) in
    let first : nodes ≡ c.nodes.result.now = search rules in
    let second : added ≡ c.added.result.now = search rules in
    let left : marked_nodes nodes added ≡ c.args.tree.now = all_left nodes added c.args.tree.now (first ∙ c.nodes.ensures) (second ∙ c.added.ensures) in
    record {
      written = ap (λ ms. c.push.new.self.items ++ items_text false (items_of (map node_value (meant_nodes types ms)))) left;
      numbers = subst (AreMarkedNodesOf types) (sym left) c.requires;
      same_types = refl;
    }

pub loop-node-preserved : goal.loop-node-preserved
loop-node-preserved c =
    let types = c.args.types.now in
    let m = with_added c.in-Some.node.now c.in-Some.added.now in
    let left = marked_nodes (iter_rest (zip_first c.next.new.self)) (iter_rest (zip_second c.next.new.self)) in
    let step : marked_nodes (iter_rest (zip_first c.loop-node.node-iterator)) (iter_rest (zip_second c.loop-node.node-iterator)) ≡ m ∷ left = search rules in
    record {
      written =
          node_behind c.loop-node.out.items c.append_comma.new.out.items c.append_node.new.out.items c.loop-node.later (meant types m) (meant_nodes types left) _
          c.in_ok-append_comma.ensures
          (c.in_ok-append_node.ensures.appended ∙ ap (λ ts. c.append_comma.new.out.items ++ compact_text (node_value (meant ts m))) c.loop-node.invariant.same_types)
          (ap (λ ms. c.loop-node.out.items ++ items_text c.loop-node.later (items_of (map node_value (meant_nodes types ms)))) (sym step) ∙ c.loop-node.invariant.written);
      numbers = (subst (AreMarkedNodesOf types) step c.loop-node.invariant.numbers).1;
      same_types = c.in_ok-append_node.ensures.same_types ∙ c.loop-node.invariant.same_types;
    }

pub returns : goal.returns
returns c =
    let types = c.args.types.now in
    let nodes = iter_rest (zip_first c.loop-node.node-iterator) in
    let added = iter_rest (zip_second c.loop-node.node-iterator) in
    let none : marked_nodes nodes added ≡ [] = none_left nodes added (either_empty_from_Zip c.loop-node.node-iterator c.next.new.self c.next.result c.in-None.is c.next.ensures.steps) in
    record {
      appended =
          tree_written c.args.out.now.items c.push.new.self.items c.loop-node.out.items c.push-2.new.self.items c.loop-node.later (meant_nodes types c.args.tree.now) c.in_ok-push.ensures.items
          (ap (λ ms. c.loop-node.out.items ++ items_text c.loop-node.later (items_of (map node_value (meant_nodes types ms)))) (sym none) ∙ c.loop-node.invariant.written) c.in_ok-push-2.ensures.items;
    }
