use Rattle.std.proofs.Common.{ℕ, ◌+◌, Bool, false, List, Option, replicate, ap, subst, sym, ◌∙◌}
use Rattle.std.specs.Prelude.{option_map}
use Rattle.graph_words.specs.Met.{HasEnded}
use Rattle.graph_table.specs.Table.{live, vertex_at, IsNumber}
use Rattle.grove_decompose.specs.Met.{met_of}
use Rattle.grove_decompose.proofs.Vectors.{items_of}
use Rattle.grove_decompose.proofs.FoundRoots.{AreRootsSoFar, before_walks, number_at, walked_to_none, walked_to_cycle, all_walked}
use Rattle.grove_decompose.proofs.cycles.roots_above.Goals as goal
use Rattle.grove_decompose.proofs.cycles.roots_above.Goals.{in-Some, in_default}

pub loop-walk-init : goal.loop-walk-init
loop-walk-init c =
    before_walks c.args.table.now c.args.starts.now c.in_ok-roots.roots.items c.in_ok-met.met (c.in_ok-met.ensures ∙ ap (λ (n : ℕ). replicate n 0) c.number_count-count.ensures.count)
    (c.in_ok-roots.ensures.items_if_clones_equal (λ y e. cc) ∙ ap (λ (n : ℕ). replicate n false) c.number_count-count.ensures.count)

pub walk_up-requires-clause-start : goal.walk_up-requires-clause-start
walk_up-requires-clause-start c = number_at (IsNumber c.args.table.now) c.args.starts.now c.loop-walk.walk c.requires c.loop-walk-test.true

pub loop-walk-preserved : goal.loop-walk-preserved
loop-walk-preserved c =
    let table = c.args.table.now in
    let starts = c.args.starts.now in
    let i = c.loop-walk.walk in
    let walked = c.walk_up.ensures in
    let ended = λ (o : Option ℕ). HasEnded (live table) i (met_of table.vertices c.loop-walk.met) (met_of table.vertices c.walk_up.new.met) (option_map (vertex_at table) o) in
    elim c.match-walk_up.branch [
      | in-Some w ↦
          walked_to_cycle table starts c.loop-walk.roots.items c.loop-walk.met c.walk_up.new.met i c.loop-walk.invariant c.loop-walk-test.true walked.all walked.kept walked.start
          c.match-walk_up.roots.items w.in-Some.entry w.root_of_cycle-root.result (subst ended w.in-Some.is walked.ended)
          w.root_of_cycle-root.ensures.number w.root_of_cycle-root.ensures.root w.root_of_cycle-root.ensures.above (items_of w.roots-is)
      | in_default w ↦
          let none = walked_to_none table starts c.loop-walk.roots.items c.loop-walk.met c.walk_up.new.met i c.loop-walk.invariant c.loop-walk-test.true walked.all walked.kept walked.start
          (subst ended w.in_default.is walked.ended) in
          subst (λ (roots : List Bool). AreRootsSoFar table starts roots c.walk_up.new.met (i + 1)) (sym (items_of w.roots-is)) none
    ]

pub returns-clause-roots : goal.returns-clause-roots
returns-clause-roots c =
    all_walked c.args.table.now c.args.starts.now c.loop-walk.roots.items c.loop-walk.met c.loop-walk.walk c.loop-walk.invariant c.loop-walk-test.false
