-- What is demanded by other numbers is another demand.
use Rattle.std.proofs.Common.{◌≡◌, false, sym, ap, ◌∙◌}
use Rattle.std.specs.Prelude.{IsTrue}
use Rattle.std.specs.Option.{option_map}
use Rattle.grove_sorts.specs.declared.sort.Sort.TheVariants.{Exp}
use Rattle.grove_sorts.specs.Ctor.{sort_of_ctor}
use Rattle.mark_incremental.specs.Reading.{kept_by}
use Rattle.mark_incremental.proofs.Found.{record_is, other_demand, exp_found}
use Rattle.mark_incremental.proofs.Steps.{kept_demand_of}
use Rattle.mark_incremental.proofs.looking.Walk.is_left.Goals as goal

pub returns-then-eq-clause-judged : goal.returns-then-eq-clause-judged
returns-then-eq-clause-judged c = λ fails records reads left.
    let exp : sort_of_ctor c.args.vertex.now.ctor ≡ Exp = sym c.sort_of.ensures ∙ exp_found c.sort_of.result c.if-eq.ensures in
    let read = reads c.args.vertex.now ∙ ap (option_map (kept_by c.args.types.now c.args.ctxs.now)) (sym c.in-Some.ensures) in
    other_demand c.args.types.now c.args.ctxs.now c.numbers_are_distinct.ensures c.numbers_are_distinct-2.ensures c.in-Some.kept c.demand_alone.result
    (record_is c.args.types.now c.args.ctxs.now c.args.self.now.records.now c.args.vertex.now c.in-Some.kept c.requires (sym c.in-Some.ensures)) (c.demand_alone.ensures.number c.args.types.now)
    (λ same. let is : IsTrue c.is_demanded.result = c.is_demanded.ensures.1 same in let is_not : c.is_demanded.result ≡ false = fails in absurd cc)
    (sym (kept_demand_of c.args.types.now c.args.ctxs.now records c.args.vertex.now c.in-Some.kept read) ∙ left.1 exp ∙ sym (c.demand_alone.ensures.demand c.args.types.now))
