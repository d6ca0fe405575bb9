use Rattle.std.proofs.Common.{ℕ, List, ◌++◌, length, ap, ◌∙◌}
use Rattle.std.proofs.lemmas.Result.{on_ok_weaker}
use Rattle.edit_table.specs.Lent.{lent_vertex}
use Rattle.grove_terms.specs.Lent.{nodes_of}
use Rattle.infer_answers.specs.Texts.{answer_text}
use Rattle.infer_answers.proofs.Told.{wide, inferred}
use Rattle.infer_answers.proofs.tree_text.append_inferred.Goals as goal

pub append_answer-requires : goal.append_answer-requires
append_answer-requires c = wide c.in_ok-list.list (length c.args.nodes.now) c.in_ok-answer.answer c.in_ok-list.ensures.variables c.in_ok-answer.ensures.answer

pub returns : goal.returns
returns c =
    let head = lent_vertex c.args.head in
    let nodes = c.args.nodes.now in
    let answer = c.in_ok-answer.answer in
    on_ok_weaker c.append_answer.result
    (λ written f of. inferred head f nodes c.in_ok-list.list answer c.args.out.now.items c.append_answer.new.out.items of
    c.in_ok-list.ensures.variables (c.in_ok-list.ensures.equations head f of) c.in_ok-answer.ensures.answer
    (written ∙ ap (λ (ns : List ℕ). ns ++ answer_text answer (nodes_of nodes)) c.in_ok-append_head.ensures)) c.append_answer.ensures
