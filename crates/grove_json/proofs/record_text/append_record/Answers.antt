use Rattle.std.proofs.Common.{List, ℕ, ◌++◌, ap, ◌∙◌}
use Rattle.std.proofs.lemmas.Result.{on_ok_weaker}
use Rattle.std.specs.Option.{option_map}
use Rattle.grove_sorts.specs.declared.sort.Sort.{Sort}
use Rattle.grove_sorts.specs.Ctor.{sort_of_ctor}
use Rattle.type_core.specs.TypeTable.{type_at}
use Rattle.mark_step.specs.Node.{wanted_at}
use Rattle.grove_json.specs.NodeText.{judgement_members, vertex_members}
use Rattle.grove_json.proofs.Texts.{record_is, two_parts}
use Rattle.grove_json.proofs.record_text.append_record.Goals as goal

pub returns-clause-appended : goal.returns-clause-appended
returns-clause-appended c =
    let v = c.args.vertex.now in
    let added = c.args.added.now in
    let wanted = option_map (wanted_at c.args.types.now) added.mode in
    let typ = option_map (type_at c.args.types.now) added.typ in
    on_ok_weaker c.append_own.result
    (λ last. two_parts c.args.out.now.items c.append_judgement.new.out.items c.append_own.new.out.items (judgement_members (sort_of_ctor v.ctor) wanted typ added.mark) (vertex_members v) _
    (c.in_ok-append_judgement.ensures.appended ∙ ap (λ (sort : Sort). c.args.out.now.items ++ judgement_members sort wanted typ added.mark) c.sort_of.ensures) last (record_is v wanted typ added.mark))
    c.append_own.ensures
