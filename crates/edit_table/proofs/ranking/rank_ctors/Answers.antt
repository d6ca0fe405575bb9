use Rattle.std.proofs.Common.{◌≡◌, ℕ, ◌<◌, length, get_or, List, Vec, Global, ap, sym, ◌∙◌, subst, rules}
use Rattle.std.specs.Ordering.{is_lt}
use Rattle.std.specs.List.Sorted.{IsSorted}
use Rattle.std.proofs.lemmas.Fn.{always_returns_same}
use Rattle.std.proofs.lemmas.Result.{IfOk-weaker}
use Rattle.grove_sorts.proofs.Orders.{cmp_is_ctor_cmp}
use Rattle.edit_table.specs.declared.ranking.NumberedCtor.{NumberedCtor}
use Rattle.edit_table.specs.Ranks.{AreIndices, AreRanks}
use Rattle.edit_table.proofs.Ranks.{are_ranks, as_long_sorted, numbered_cmp, numbered_rank, numbers_within}
use Rattle.edit_table.proofs.ranking.rank_ctors.Goals as goal

ascends : (c : goal.After-drop-numbered) → IsSorted numbered_cmp c.sort_unstable_by.new.self.items
ascends c =
    c.sort_unstable_by.ensures.sorted (λ x y. is_lt (numbered_cmp x y)) numbered_rank (always_returns_same _ _ _
    (λ a r f called.
    let same : r ≡ numbered_cmp a.0.now a.1.0.now = search rules ∙ cmp_is_ctor_cmp a.0.now.ctor a.1.0.now.ctor in
    (ap is_lt same, search rules)))

pub ranks_of-requires-clause-within : goal.ranks_of-requires-clause-within
ranks_of-requires-clause-within c =
    subst (λ (xs : List NumberedCtor). (k : ℕ) (d : NumberedCtor) → k < length xs → (get_or xs k d).number < length xs) (sym c.deref.ensures.value)
    (numbers_within c.args.ctors.now c.in_ok-numbered.numbered.items c.sort_unstable_by.new.self.items c.in_ok-numbered.ensures.numbered c.sort_unstable_by.ensures.permutation)

pub returns-clause-each : goal.returns-clause-each
returns-clause-each c =
    IfOk-weaker c.ranks_of.result _ (λ (ranks : Vec ℕ Global). length ranks.items ≡ length c.args.ctors.now)
    (λ ranks are. are.long ∙ ap length c.deref.ensures.value ∙ as_long_sorted c.args.ctors.now c.in_ok-numbered.numbered.items c.sort_unstable_by.new.self.items c.in_ok-numbered.ensures.numbered c.sort_unstable_by.ensures.permutation)
    c.ranks_of.ensures

pub returns-clause-ordered : goal.returns-clause-ordered
returns-clause-ordered c =
    IfOk-weaker c.ranks_of.result _ (λ (ranks : Vec ℕ Global). AreRanks c.args.ctors.now ranks.items)
    (λ ranks are. are_ranks c.args.ctors.now c.in_ok-numbered.numbered.items c.sort_unstable_by.new.self.items c.in_ok-numbered.ensures.numbered c.sort_unstable_by.ensures.permutation c.requires
    (ascends c) ranks.items (subst (λ xs. AreIndices xs ranks.items) c.deref.ensures.value are))
    c.ranks_of.ensures
