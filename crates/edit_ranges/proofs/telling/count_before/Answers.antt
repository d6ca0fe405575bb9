use Rattle.std.proofs.Common.{rules}
use Rattle.std.proofs.lemmas.List.Sorted.{IsPartitionPoint-from_clause}
use Rattle.edit_ranges.specs.Ranges.{ends_before}
use Rattle.edit_ranges.proofs.Searching.{parted}
use Rattle.edit_ranges.proofs.telling.count_before.Goals as goal

pub returns-clause-parted : goal.returns-clause-parted
returns-clause-parted c =
    IsPartitionPoint-from_clause (λ r. ends_before r c.args.told c.args.name) c.args.ranges.now c.partition_point.result c.partition_point.ensures.partitioned (parted c.args.told c.args.name c.args.ranges.now c.requires)
    (λ a r q k. search rules)
