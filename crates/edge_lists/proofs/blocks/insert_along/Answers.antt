use Rattle.std.proofs.Common.{◌≡◌, ◌<◌, [], length, get_or, sym, ap, subst, ◌∙◌, arith}
use Rattle.std.proofs.lemmas.Bool.{eqb-true}
use Rattle.std.proofs.lemmas.List.{length-set, get_or_default}
use Rattle.edge_lists.specs.Blocks.{block_len}
use Rattle.edge_lists.proofs.PackedSteps.{packed-step, size-step, within-step, wanted-step, place-within, numbers-inserted, packed-put, not_full}
use Rattle.edge_lists.proofs.blocks.insert_along.Goals as goal

pub loop-blocks-preserved : goal.loop-blocks-preserved
loop-blocks-preserved c =
    let l = c.loop-blocks in
    let lt : l.at < length l.blocks = omega (arith, l.invariant.within, l.invariant.size, l.invariant.count, c.requires.place) in
    let is = get_or_default l.blocks l.at c.index-blocks-at-in-loop-blocks.result [] lt in
    let new = c.displace-given.new.self in
    let long = eqb-true _ _ (sym c.is_full.ensures.full ∙ c.loop-blocks-test.true) in
    let long-2 : length (get_or l.blocks l.at c.index-blocks-at-in-loop-blocks.result) ≡ block_len = ap length (is ∙ sym (get_or_default l.blocks l.at c.index-blocks-at.result [] lt)) ∙ long in
    record {
      packed = packed-step block_len l.blocks l.invariant.packed l.at l.place _ is lt l.invariant.inside l.invariant.within l.given c.displace-given.result new long-2 c.displace-given.ensures.numbers c.displace-given.ensures.full;
      count = length-set l.blocks l.at new ∙ l.invariant.count;
      size = size-step block_len l.blocks l.invariant.packed l.at l.place _ is lt l.invariant.inside l.invariant.within l.given c.displace-given.result new long-2 c.displace-given.ensures.numbers c.displace-given.ensures.full ∙ l.invariant.size;
      inside = omega arith;
      within = within-step block_len l.blocks l.invariant.packed l.at l.place _ is lt l.invariant.inside l.invariant.within l.given c.displace-given.result new long-2 c.displace-given.ensures.numbers c.displace-given.ensures.full;
      wanted = wanted-step block_len l.blocks l.invariant.packed l.at l.place _ is lt l.invariant.inside l.invariant.within l.given c.displace-given.result new long-2 c.displace-given.ensures.numbers c.displace-given.ensures.full ∙ l.invariant.wanted;
    }

pub insert-requires-clause-index : goal.insert-requires-clause-index
insert-requires-clause-index c =
    let l = c.loop-blocks in
    let lt : l.at < length l.blocks = omega (arith, l.invariant.within, l.invariant.size, l.invariant.count, c.requires.place) in
    let is = get_or_default l.blocks l.at c.index-blocks-at-2.result [] lt in
    place-within block_len l.blocks l.invariant.packed l.at l.place _ is lt l.invariant.inside l.invariant.within

pub returns-clause-numbers : goal.returns-clause-numbers
returns-clause-numbers c =
    let l = c.loop-blocks in
    let lt : l.at < length l.blocks = omega (arith, l.invariant.within, l.invariant.size, l.invariant.count, c.requires.place) in
    let is = get_or_default l.blocks l.at c.index-blocks-at-2.result [] lt in
    numbers-inserted block_len l.blocks l.invariant.packed l.at l.place _ is lt l.invariant.inside l.invariant.within l.given c.insert.new.self c.insert.ensures
    ∙ l.invariant.wanted

pub returns-clause-packed : goal.returns-clause-packed
returns-clause-packed c =
    let l = c.loop-blocks in
    let lt : l.at < length l.blocks = omega (arith, l.invariant.within, l.invariant.size, l.invariant.count, c.requires.place) in
    let is = get_or_default l.blocks l.at c.index-blocks-at-2.result [] lt in
    packed-put block_len l.blocks l.invariant.packed l.at l.place _ is lt l.invariant.inside l.invariant.within l.given c.insert.new.self c.insert.ensures
    (subst (λ zs. length zs < block_len) (get_or_default l.blocks l.at c.index-blocks-at.result [] lt ∙ sym is)
    (not_full _ block_len (sym c.is_full.ensures.full ∙ c.loop-blocks-test.false) c.is_full.ensures.most))
