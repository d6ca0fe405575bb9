use Rattle.judging.proofs.Kept.{types-then}
use Rattle.whole_groves.proofs.MarkedTrees.{marked_trees_kept, lists_kept}
use Rattle.whole_groves.proofs.marking_groves.mark_grove.Goals as goal

pub returns-clause-marked : goal.returns-clause-marked
returns-clause-marked c =
    let late = c.in_ok-cycle.ensures.types in
    let later = types-then c.mark_trees.new.types c.mark_trees-2.new.types c.mark_trees-3.new.types c.in_ok-multi.ensures.types c.in_ok-cycle.ensures.types in
    record {
      none = marked_trees_kept c.mark_trees.new.types c.mark_trees-3.new.types later c.args.grove.now.none c.in_ok-none.none c.in_ok-none.ensures.numbers c.in_ok-none.ensures.marked;
      multi = marked_trees_kept c.mark_trees-2.new.types c.mark_trees-3.new.types late c.args.grove.now.multi c.in_ok-multi.multi c.in_ok-multi.ensures.numbers c.in_ok-multi.ensures.marked;
      cycle = c.in_ok-cycle.ensures.marked;
    }

pub returns-clause-numbers : goal.returns-clause-numbers
returns-clause-numbers c =
    let late = c.in_ok-cycle.ensures.types in
    let later = types-then c.mark_trees.new.types c.mark_trees-2.new.types c.mark_trees-3.new.types c.in_ok-multi.ensures.types c.in_ok-cycle.ensures.types in
    record {
      none = lists_kept c.mark_trees.new.types c.mark_trees-3.new.types later c.in_ok-none.none c.in_ok-none.ensures.numbers;
      multi = lists_kept c.mark_trees-2.new.types c.mark_trees-3.new.types late c.in_ok-multi.multi c.in_ok-multi.ensures.numbers;
      cycle = c.in_ok-cycle.ensures.numbers;
    }
