use Rattle.std.proofs.Common.{rules, subst, sym, ap, ◌∙◌, ◌<◌}
use Rattle.turn_lock.specs.Rule.{opening_of}
use Rattle.turn_lock.proofs.Rules.{looks}
use Rattle.turn_lock.proofs.steps.wait_for.Goals as goal

pub load-serving-requires : goal.load-serving-requires
load-serving-requires g c =
    let e = c.loop.invariant.2 in
    let h = c.requires.drawn in (
      search rules,
      search rules,
      looks g.S.Kept.list g.S.Kept.grown (opening_of g.S.Kept.now c.args.words.now.key) _ c.loop.place.id c.args.number c.loop.place.me
          (subst (λ m. 0 < m.0.parts) (sym e) h.0) (ap (λ m. m.0.ticket) e ∙ h.1) (ap (λ m. m.0.turn) e ∙ h.2),
    )
