use Rattle.std.proofs.Common.{◌≡◌, ◌∷◌, ◌+◌, drop, length, ap, ◌∙◌, subst, sym, rules}
use Rattle.std.proofs.lemmas.List.{drop_more}
use Rattle.std.specs.List.{AllByRecursion}
use Rattle.grove_edits.specs.Graph.{Ascends}
use Rattle.session_answers.specs.Opened.{all_listed}
use Rattle.session_answers.proofs.Listed.{one_more_listed, all_more}
use Rattle.session_answers.proofs.opened.list_each.Goals as goal

pub loop-replica-preserved : goal.loop-replica-preserved
loop-replica-preserved c =
    let authors = c.args.authors.now in
    let lines = c.args.lines.now in
    let replicas = c.args.replicas.now in
    let next = c.replica-item.result in
    let rest = drop (c.loop-replica.replica-index + 1) replicas in
    let here : drop c.loop-replica.replica-index replicas ≡ next ∷ rest = drop_more replicas c.loop-replica.replica-index next c.loop-replica-test.true ∙ ap (λ content. content ∷ rest) (sym c.replica-item.is) in
    let counted : c.len.result ≡ length c.loop-replica.lists.items = search rules in
    let before = c.loop-replica.invariant in (
      one_more_listed authors lines c.loop-replica.lists.items c.push.new.self.items (all_listed authors lines 0 replicas) (drop c.loop-replica.replica-index replicas) rest next c.len.result c.is_asked_of-asked.result c.in_ok-list_if.field-0
          here counted c.is_asked_of-asked.ensures c.in_ok-list_if.ensures.list before.0 c.in_ok-push.ensures.items,
      subst (AllByRecursion Ascends) (sym c.in_ok-push.ensures.items) (all_more Ascends c.loop-replica.lists.items c.in_ok-list_if.field-0 before.1 c.in_ok-list_if.ensures.ascends),
    )
