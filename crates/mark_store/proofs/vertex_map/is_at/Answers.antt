use Rattle.std.proofs.Common.{Some, sym, ap, ◌∙◌}
use Rattle.mark_store.proofs.Lookups.{found_is}
use Rattle.mark_store.proofs.vertex_map.is_at.Goals as goal

pub returns-in-Some : goal.returns-in-Some
returns-in-Some g c is =
    let value = c.in-Some.field-0-1.now in
    (value, sym c.in-Some.ensures.entry ∙ ap (λ v. Some (v, value)) (found_is c.in-Some.found.now c.args.vertex.now (sym c.eq.ensures ∙ is)))
