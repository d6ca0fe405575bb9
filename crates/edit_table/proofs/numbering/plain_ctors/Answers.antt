use Rattle.std.proofs.Common.{◌∙◌}
use Rattle.edit_table.proofs.Ctors.{all_plains, plain_read, plains_after, no_plains, stand_once}
use Rattle.edit_table.proofs.numbering.plain_ctors.Goals as goal

pub loop-number-init : goal.loop-number-init
loop-number-init c = no_plains c.with_hasher-ctors.result.keys c.with_hasher-ctors.ensures.empty

pub loop-number-preserved : goal.loop-number-preserved
loop-number-preserved c = (
  plains_after c.loop-number.ctors.keys c.insert.new.self.keys c.loop-number.number c.ctor.result c.all_plain-plains.result.now c.all_plain-plains.ensures c.loop-number-test.true
      (c.ctor.ensures ∙ plain_read c.all_plain-plains.result.now c.loop-number.number _ c.all_plain-plains.ensures c.loop-number-test.true) c.loop-number.invariant.0 c.in_ok-insert.ensures.keys,
  stand_once c.insert.new.self.keys c.in_ok-insert.ensures.unique,
)

pub returns : goal.returns
returns c =
    all_plains c.loop-number.ctors.keys c.loop-number.number c.all_plain-plains.result.now c.all_plain-plains.ensures c.loop-number-test.false c.loop-number.auto.number-end
    c.loop-number.invariant.0 c.loop-number.invariant.1
