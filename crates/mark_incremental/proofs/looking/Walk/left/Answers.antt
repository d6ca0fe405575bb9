-- An expression is judged again where its record does not say what is demanded of it.
use Rattle.std.proofs.Common.{◌≡◌, false, sym, ◌∙◌}
use Rattle.std.specs.Prelude.{IsTrue}
use Rattle.mark_incremental.specs.Looking.{demanded}
use Rattle.mark_incremental.proofs.Found.{exp_found, record_is, other_demand}
use Rattle.mark_incremental.proofs.looking.Walk.left.Goals as goal

pub returns-then-not-is_demanded-clause-found : goal.returns-then-not-is_demanded-clause-found
returns-then-not-is_demanded-clause-found c = (
  c.requires.inner,
  demanded c.in_ok-record.record (sym c.in_ok-record.ensures) (sym c.sort_of.ensures ∙ exp_found c.sort_of.result c.if-eq.ensures)
      (other_demand c.args.types.now c.args._ctxs.now c.numbers_are_distinct.ensures c.numbers_are_distinct-2.ensures c.in_ok-record.record c.args.demand.now
      (record_is c.args.types.now c.args._ctxs.now c.args.self.now.records.now c.args.vertex.now c.in_ok-record.record c.requires.records (sym c.in_ok-record.ensures)) c.requires.demand
      (λ same. let is : IsTrue c.is_demanded.result = c.is_demanded.ensures.1 same in let is_not : c.is_demanded.result ≡ false = c.if-not-is_demanded.true in absurd cc)),
)
