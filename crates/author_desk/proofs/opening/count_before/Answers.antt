use Rattle.std.proofs.Common.{rules}
use Rattle.std.proofs.lemmas.List.Sorted.{IsPartitionPoint-from_clause}
use Rattle.author_desk.specs.Lines.{is_before}
use Rattle.author_desk.proofs.Named.{parted_before}
use Rattle.author_desk.proofs.opening.count_before.Goals as goal

pub returns-clause-parted : goal.returns-clause-parted
returns-clause-parted c =
    IsPartitionPoint-from_clause (is_before c.args.name) c.args.opening.now c.partition_point.result c.partition_point.ensures.partitioned (parted_before c.args.name c.args.opening.now c.requires)
    (λ a r q k. search rules)
