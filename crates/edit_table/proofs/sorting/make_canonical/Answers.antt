use Rattle.std.proofs.Common.{◌≡◌, rules, ap}
use Rattle.std.specs.Ordering.{is_lt}
use Rattle.std.specs.List.Sorted.{IsSorted}
use Rattle.std.proofs.lemmas.Fn.{always_returns_same}
use Rattle.edit_table.specs.Keys.{vertices_of}
use Rattle.edit_table.specs.Records.{record_cmp}
use Rattle.edit_table.proofs.Orders.{records_rank}
use Rattle.edit_table.proofs.Canonical.{canonical_records, is_canonical}
use Rattle.edit_table.proofs.sorting.make_canonical.Goals as goal

ascends : (c : goal.After-keep_last_of_each_edge) → IsSorted (record_cmp (vertices_of c.args.ctors.now c.args.keys.now)) c.sort_unstable_by.new.self.items
ascends c =
    let vs = vertices_of c.args.ctors.now c.args.keys.now in
    c.sort_unstable_by.ensures.sorted (λ x y. is_lt (record_cmp vs x y)) (records_rank vs) (always_returns_same _ _ _
    (λ a r f called.
    let same : r ≡ record_cmp vs a.0.now a.1.0.now = search rules in
    (ap is_lt same, search rules)))

pub returns-clause-records : goal.returns-clause-records
returns-clause-records c =
    canonical_records c.args.ctors.now c.args.keys.now c.args.records.now.items c.sort_unstable_by.new.self.items c.keep_last_of_each_edge.new.records.items
    c.requires.records c.sort_unstable_by.ensures.permutation (ascends c) c.keep_last_of_each_edge.ensures.canonical c.keep_last_of_each_edge.ensures.records c.keep_last_of_each_edge.ensures.fewer

pub returns-clause-canonical : goal.returns-clause-canonical
returns-clause-canonical c =
    is_canonical c.args.ctors.now c.args.keys.now c.args.records.now.items c.sort_unstable_by.new.self.items c.keep_last_of_each_edge.new.records.items
    c.requires.records c.sort_unstable_by.ensures.permutation (ascends c) c.keep_last_of_each_edge.ensures.canonical c.keep_last_of_each_edge.ensures.records c.keep_last_of_each_edge.ensures.fewer
