-- The root has its record.
use Rattle.std.proofs.Common.{cond, None, Some, ap, ◌∙◌, arith}
use Rattle.std.specs.Prelude.{unwrap_or}
use Rattle.grove_edits.specs.Vertex.{root, is_same_vertex}
use Rattle.mark_incremental.proofs.Empty.{plain_record, root_numbers, empty_stands}
use Rattle.mark_incremental.proofs.marks.Marks.with_seed.Goals as goal

pub set-requires : goal.set-requires
set-requires c = c.in_ok-reserve_for.ensures.room 0 root (omega arith)

pub invariant_of-result : goal.invariant_of-result
invariant_of-result c =
    root_numbers c.in_ok-types.types c.in_ok-contexts.contexts c.set.new.self c.empty.result c.empty.ensures.context c.empty.ensures.number
    (λ v. c.set.ensures.put v
    ∙ ap (cond (is_same_vertex root v) (Some (plain_record c.empty.result))) (c.in_ok-reserve_for.ensures.unchanged v ∙ ap (λ o. unwrap_or o None) (c.with_seed-records.ensures.empty v)))

pub returns : goal.returns
returns c =
    empty_stands c.in_ok-types.types c.in_ok-contexts.contexts c.set.new.self c.empty.result c.empty.ensures.context c.empty.ensures.number
    (λ v. c.set.ensures.put v
    ∙ ap (cond (is_same_vertex root v) (Some (plain_record c.empty.result))) (c.in_ok-reserve_for.ensures.unchanged v ∙ ap (λ o. unwrap_or o None) (c.with_seed-records.ensures.empty v)))
    c.with_seed-3.result (λ v. ap (λ o. unwrap_or o None) (c.with_seed-3.ensures.empty v))
