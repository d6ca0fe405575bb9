use Rattle.std.proofs.Common.{◌≡◌, ℕ, ◌+◌, ◌*◌, ◌<◌, ◌≤◌, rules, suc, List, [], length, set, get_or, refl, sym, ap, subst, ◌∙◌, arith}
use Rattle.std.specs.List.{concat}
use Rattle.std.proofs.lemmas.List.{length-set, get_or_default}
use Rattle.edge_lists.specs.Blocks.{block_len}
use Rattle.edge_lists.proofs.Packed.{length-packed, packed-gap}
use Rattle.edge_lists.proofs.PackedSteps.{place-below, numbers-removed, gap-left, old-short, numbers-moved, gap-stays, nothing_long}
use Rattle.edge_lists.proofs.blocks.remove_along.Goals as goal

-- the block of an index is one of the blocks
there : (bs : List (List ℕ)) (first index : ℕ) → first * block_len + index < length (concat bs) → length (concat bs) ≤ block_len * length bs → first < length bs
there bs first index reaches most = omega (arith, reaches, most)

pub bounds-blocks-at : goal.bounds-blocks-at
bounds-blocks-at c = there c.args.blocks.now c.args.first c.args.index c.requires.within (length-packed block_len c.args.blocks.now c.requires.packed)

pub offset_bounds-blocks-at : goal.offset_bounds-blocks-at
offset_bounds-blocks-at c =
    let lt : c.args.first < length c.args.blocks.now = there c.args.blocks.now c.args.first c.args.index c.requires.within (length-packed block_len c.args.blocks.now c.requires.packed) in
    search rules

pub remove-requires : goal.remove-requires
remove-requires c =
    let bs = c.args.blocks.now in
    let lt = there bs c.args.first c.args.index c.requires.within (length-packed block_len bs c.requires.packed) in
    let is = get_or_default bs c.args.first c.index-blocks-at.result [] lt in
    place-below block_len bs c.requires.packed c.args.first c.args.index _ is lt c.requires.index c.requires.within

pub loop-at-init : goal.loop-at-init
loop-at-init c =
    let bs = c.args.blocks.now in
    let lt = there bs c.args.first c.args.index c.requires.within (length-packed block_len bs c.requires.packed) in
    let is = get_or_default bs c.args.first c.index-blocks-at.result [] lt in
    record {
      gap = gap-left block_len bs c.requires.packed c.args.first c.args.index _ is lt c.requires.index c.requires.within c.remove.new.self c.remove.ensures.numbers c.remove.ensures.count;
      there = subst (λ n. c.args.first < n) (sym (length-set bs c.args.first c.remove.new.self)) lt;
      count = refl;
      numbers = refl;
    }

pub push-requires : goal.push-requires
push-requires c =
    let l = c.loop-at in
    let lt = c.loop-at-test.true in
    let ys = c.take_first-moved.new.self in
    let is = sym (get_or_default l.blocks (l.at + 1) c.index-blocks-at-in-loop-at-2.result [] lt) ∙ c.take_first-moved.ensures in
    let in_set : l.at < length (set l.blocks (l.at + 1) ys) = subst (λ n. l.at < n) (sym (length-set l.blocks (l.at + 1) ys)) l.invariant.there in
    old-short block_len l.blocks l.at l.invariant.gap c.take_first-moved.result ys (l.at + 1) (omega arith) lt is _
    (get_or_default (set l.blocks (l.at + 1) ys) l.at c.index-blocks-at-in-loop-at-3.result [] in_set)

pub loop-at-preserved : goal.loop-at-preserved
loop-at-preserved c =
    let l = c.loop-at in
    let lt = c.loop-at-test.true in
    let ys = c.take_first-moved.new.self in
    let new = c.push.new.self in
    let is = sym (get_or_default l.blocks (l.at + 1) c.index-blocks-at-in-loop-at-2.result [] lt) ∙ c.take_first-moved.ensures in
    let in_set : l.at < length (set l.blocks (l.at + 1) ys) = subst (λ n. l.at < n) (sym (length-set l.blocks (l.at + 1) ys)) l.invariant.there in
    let was = get_or_default (set l.blocks (l.at + 1) ys) l.at c.index-blocks-at-in-loop-at-3.result [] in_set in
    let long : length (set (set l.blocks (l.at + 1) ys) l.at new) ≡ length l.blocks = length-set (set l.blocks (l.at + 1) ys) l.at new ∙ length-set l.blocks (l.at + 1) ys in
    record {
      gap = gap-stays block_len l.blocks l.at l.invariant.gap c.take_first-moved.result ys (l.at + 1) (omega arith) lt is _ was new c.push.ensures;
      there = subst (λ n. l.at + 1 < n) (sym long) lt;
      count = long ∙ l.invariant.count;
      numbers = numbers-moved block_len l.blocks l.at l.invariant.gap c.take_first-moved.result ys (l.at + 1) (omega arith) lt is _ was new c.push.ensures ∙ l.invariant.numbers;
    }

pub returns-else-not-is_empty-clause-numbers : goal.returns-else-not-is_empty-clause-numbers
returns-else-not-is_empty-clause-numbers c =
    let bs = c.args.blocks.now in
    let lt = there bs c.args.first c.args.index c.requires.within (length-packed block_len bs c.requires.packed) in
    let is = get_or_default bs c.args.first c.index-blocks-at.result [] lt in
    c.loop-at.invariant.numbers ∙ numbers-removed block_len bs c.requires.packed c.args.first c.args.index _ is lt c.requires.index c.requires.within c.remove.new.self c.remove.ensures.numbers c.remove.ensures.count

pub returns-after-loop-at-clause-numbers : goal.returns-after-loop-at-clause-numbers
returns-after-loop-at-clause-numbers c =
    let bs = c.args.blocks.now in
    let lt = there bs c.args.first c.args.index c.requires.within (length-packed block_len bs c.requires.packed) in
    let is = get_or_default bs c.args.first c.index-blocks-at.result [] lt in
    c.loop-at.invariant.numbers ∙ numbers-removed block_len bs c.requires.packed c.args.first c.args.index _ is lt c.requires.index c.requires.within c.remove.new.self c.remove.ensures.numbers c.remove.ensures.count

pub returns-after-loop-at-clause-packed : goal.returns-after-loop-at-clause-packed
returns-after-loop-at-clause-packed c =
    let l = c.loop-at in
    packed-gap block_len l.blocks l.at (omega arith) l.invariant.gap (λ lt. absurd (omega (arith, lt, c.loop-at-test.false)))

pub returns-else-not-is_empty-clause-packed : goal.returns-else-not-is_empty-clause-packed
returns-else-not-is_empty-clause-packed c =
    let l = c.loop-at in
    let lt = c.loop-at-test.true in
    let follows : suc l.at ≡ l.at + 1 = omega arith in
    packed-gap block_len l.blocks l.at (omega arith) l.invariant.gap
    (λ _. ap (λ k. get_or l.blocks k []) follows ∙ sym (get_or_default l.blocks (l.at + 1) c.index-blocks-at-in-loop-at.result [] lt) ∙ nothing_long _ (sym c.is_empty.ensures ∙ c.if-not-is_empty.false))
