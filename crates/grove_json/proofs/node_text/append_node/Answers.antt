use Rattle.std.proofs.Common.{◌++◌, ap, ◌∙◌}
use Rattle.std.proofs.lemmas.Result.{on_ok_weaker}
use Rattle.marking.specs.Added.{with_added}
use Rattle.marking.specs.Reading.{meant}
use Rattle.grove_json.specs.NodeText.{first_members, last_members}
use Rattle.grove_json.proofs.Texts.{node_is, two_parts}
use Rattle.grove_json.proofs.node_text.append_node.Goals as goal

pub returns-clause-appended : goal.returns-clause-appended
returns-clause-appended c =
    let m = with_added c.args.node.now c.args.added.now in
    on_ok_weaker c.append_last.result
    (λ last. two_parts c.args.out.now.items c.append_first.new.out.items c.append_last.new.out.items (first_members (meant c.args.types.now m)) (last_members (meant c.args.types.now m)) _
    c.in_ok-append_first.ensures.appended (last ∙ ap (λ ts. c.append_first.new.out.items ++ last_members (meant ts m)) c.in_ok-append_first.ensures.same_types) (node_is (meant c.args.types.now m)))
    c.append_last.ensures.appended
