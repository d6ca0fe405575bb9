-- The records of one more tree stand behind those so far.
use Rattle.std.proofs.Common.{◌≡◌, suc, drop, ◌+◌, ◌<◌, ◌≤◌, List, [], ◌∷◌, ◌++◌, length, take, sym, ap, subst, ◌∙◌, arith}
use Rattle.std.proofs.lemmas.List.{take_more}
use Rattle.grove_edits.specs.declared.vertex.Vertex.{Vertex}
use Rattle.graph_words.specs.declared.class.Class.TheVariants.{Inner}
use Rattle.graph_words.specs.Class.{class}
use Rattle.live_graph.specs.Live.{live}
use Rattle.judging.proofs.Kept.{types-then, contexts-then}
use Rattle.mark_incremental.specs.Looking.{on}
use Rattle.mark_incremental.specs.Walking.{HasMadeTrees, ReadsAs, meant}
use Rattle.mark_incremental.specs.Ticks.{AreTreesPaid}
use Rattle.mark_incremental.proofs.Growth.{records_kept, records_at-kept}
use Rattle.mark_incremental.proofs.Trees.{all_taken, split_at, all_dropped, leaves_below, trees_more}
use Rattle.mark_incremental.proofs.Paid.{meant_weighs, trees_cut}
use Rattle.mark_incremental.proofs.looking.Walk.renew_trees.Goals as goal

pub loop-head-preserved : goal.loop-head-preserved
loop-head-preserved g c =
    let types = c.in_ok-renew_tree.ensures.types in
    let contexts = c.in_ok-renew_tree.ensures.contexts in
    let within : c.loop-head.head-index < length c.args.heads.now = omega arith in
    let more : take (c.loop-head.head-index + 1) c.args.heads.now ≡ take c.loop-head.head-index c.args.heads.now ++ c.head-item.result ∷ [] =
    take_more c.args.heads.now c.loop-head.head-index c.head-item.result within ∙ ap (λ (v : Vertex). take c.loop-head.head-index c.args.heads.now ++ v ∷ []) (sym c.head-item.is) in
    record {
      trees =
          subst (λ (vs : List Vertex). HasMadeTrees (live c.args.self.now.graph.now) c.renew_tree.new.types c.renew_tree.new.ctxs c.args.self.now.records.now (on c.args.self.now.whole c.args.self.now.passed.now) vs c.renew_tree.new.made.items) (sym more)
          (trees_more (live c.args.self.now.graph.now) c.loop-head.types c.renew_tree.new.types c.loop-head.ctxs c.renew_tree.new.ctxs types contexts c.args.self.now.records.now c.loop-head.invariant.records (on c.args.self.now.whole c.args.self.now.passed.now) (take c.loop-head.head-index c.args.heads.now)
          c.head-item.result c.loop-head.made.items c.renew_tree.new.made.items c.loop-head.invariant.made c.loop-head.invariant.trees c.in_ok-renew_tree.ensures.tree);
      ticks = omega (arith, c.in_ok-renew_tree.ensures.ticks, c.loop-head.invariant.ticks);
      made = c.in_ok-renew_tree.ensures.made;
      records = records_kept c.loop-head.types c.renew_tree.new.types c.loop-head.ctxs c.renew_tree.new.ctxs types contexts c.args.self.now.records.now c.loop-head.invariant.records;
      types = types-then c.args.types.now c.loop-head.types c.renew_tree.new.types c.loop-head.invariant.types types;
      contexts = contexts-then c.args.ctxs.now c.loop-head.ctxs c.renew_tree.new.ctxs c.loop-head.invariant.contexts contexts;
    }

pub returns-clause-trees : goal.returns-clause-trees
returns-clause-trees g c =
    let past : length c.args.heads.now ≤ c.loop-head.head-index = omega arith in
    subst (λ (vs : List Vertex). HasMadeTrees (live c.args.self.now.graph.now) c.loop-head.types c.loop-head.ctxs c.args.self.now.records.now (on c.args.self.now.whole c.args.self.now.passed.now) vs c.loop-head.made.items) (all_taken c.args.heads.now c.loop-head.head-index past) c.loop-head.invariant.trees

-- ---- what was counted, also where memory runs out

pub returns-in_err-renew_tree-clause-paid : goal.returns-in_err-renew_tree-clause-paid
returns-in_err-renew_tree-clause-paid g c = λ records reads leaves.
    let at_loop : ReadsAs c.loop-head.types c.loop-head.ctxs c.args.self.now.records.now records =
    λ v. reads v ∙ sym (records_at-kept c.args.types.now c.loop-head.types c.args.ctxs.now c.loop-head.ctxs c.loop-head.invariant.types c.loop-head.invariant.contexts c.args.self.now.records.now c.requires.records v) in
    let weighs = meant_weighs (live c.args.self.now.graph.now) c.loop-head.types c.loop-head.ctxs c.loop-head.made.items in
    let within : c.loop-head.head-index < length c.args.heads.now = omega arith in
    let rest : List Vertex = drop (suc c.loop-head.head-index) c.args.heads.now in
    subst (λ (vs : List Vertex). AreTreesPaid (live c.args.self.now.graph.now) (on c.args.self.now.whole c.args.self.now.passed.now) records vs c.args.steps.now c.renew_tree.new.steps) (sym (split_at c.args.heads.now c.loop-head.head-index c.head-item.result within c.head-item.is))
    (trees_cut (live c.args.self.now.graph.now) (on c.args.self.now.whole c.args.self.now.passed.now) records (take c.loop-head.head-index c.args.heads.now) rest c.head-item.result (meant c.loop-head.types c.loop-head.ctxs c.loop-head.made.items) c.args.steps.now c.loop-head.steps c.renew_tree.new.steps
    (all_dropped (λ v. class (live c.args.self.now.graph.now) v ≡ Inner → ⊥) c.args.heads.now (suc c.loop-head.head-index) c.requires.heads) (c.loop-head.invariant.trees records at_loop leaves) (omega (arith, weighs, c.loop-head.invariant.ticks))
    (c.renew_tree.ensures.paid records at_loop (leaves_below (live c.args.self.now.graph.now) (on c.args.self.now.whole c.args.self.now.passed.now) records c.head-item.result leaves)))

pub returns-clause-paid : goal.returns-clause-paid
returns-clause-paid g c = λ records reads leaves.
    let at_loop : ReadsAs c.loop-head.types c.loop-head.ctxs c.args.self.now.records.now records =
    λ v. reads v ∙ sym (records_at-kept c.args.types.now c.loop-head.types c.args.ctxs.now c.loop-head.ctxs c.loop-head.invariant.types c.loop-head.invariant.contexts c.args.self.now.records.now c.requires.records v) in
    let weighs = meant_weighs (live c.args.self.now.graph.now) c.loop-head.types c.loop-head.ctxs c.loop-head.made.items in
    let past : length c.args.heads.now ≤ c.loop-head.head-index = omega arith in
    subst (λ (vs : List Vertex). AreTreesPaid (live c.args.self.now.graph.now) (on c.args.self.now.whole c.args.self.now.passed.now) records vs c.args.steps.now c.loop-head.steps) (all_taken c.args.heads.now c.loop-head.head-index past)
    (record {
      all = meant c.loop-head.types c.loop-head.ctxs c.loop-head.made.items;
      makes = c.loop-head.invariant.trees records at_loop leaves;
      within = omega (arith, weighs, c.loop-head.invariant.ticks);
    })
