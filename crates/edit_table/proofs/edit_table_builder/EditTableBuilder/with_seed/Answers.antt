use Rattle.std.proofs.Common.{ap, length, arith}
use Rattle.edit_table.proofs.Records.{first_records}
use Rattle.edit_table.proofs.edit_table_builder.EditTableBuilder.with_seed.Goals as goal

pub invariant_of-result : goal.invariant_of-result
invariant_of-result c = record {
  records_are =
      first_records c.in_ok-ctors.ctors.keys c.with_hasher-keys.result.keys c.insert.new.self.keys c.new.result.items c.in_ok-ctors.ensures c.with_hasher-keys.ensures.empty c.in_ok-insert.ensures.keys c.new.ensures.items;
  few = omega (arith, ap length c.new.ensures.items, ap length c.in_ok-waiting.ensures.items);
}
