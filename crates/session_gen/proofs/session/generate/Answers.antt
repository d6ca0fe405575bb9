use Rattle.std.proofs.Common.{List, [], ◌∷◌, ◌++◌, ap, ◌∙◌}
use Rattle.session_script.specs.declared.item.Item.{Item}
use Rattle.session_script.specs.declared.item.Item.TheVariants as item
use Rattle.session_gen.proofs.GeneratedSession.{spells_generated}
use Rattle.session_gen.proofs.session.generate.Goals as goal

pub returns : goal.returns
returns c =
    spells_generated c.in_ok-replicas.replicas c.in_ok-authors.authors c.push-3.new.self c.args.loads c.in_ok-items.items c.in_ok-first.first c.in_ok-second.second c.in_ok-third.third
    c.in_ok-replicas.ensures c.in_ok-authors.ensures c.in_ok-items.ensures c.in_ok-first.ensures c.in_ok-second.ensures c.in_ok-third.ensures
    (c.in_ok-push-3.ensures.appended
    ∙ ap (λ (is : List Item). is ++ item.Block c.in_ok-third.third ∷ []) (c.in_ok-push-2.ensures.appended
    ∙ ap (λ (is : List Item). is ++ item.Block c.in_ok-second.second ∷ []) c.in_ok-push.ensures.appended))
