-- The marks stand for the new graph.
use Rattle.std.proofs.Common.{Bool, ap, ◌∙◌, arith}
use Rattle.grove_edits.specs.declared.edge.Edge.{Edge}
use Rattle.graph_words.specs.States.{state_in}
use Rattle.live_graph.specs.Live.{live}
use Rattle.mark_store.specs.Places.{Places, holds}
use Rattle.mark_incremental.proofs.Edited.{new_live, new_well_formed, walked, walk_on, cycles_kept, rooted_still, rooted_after, rooted_before, only_root, stands_after}
use Rattle.mark_incremental.proofs.SizeBound.{size_of, near_of, walks_after}
use Rattle.mark_incremental.proofs.Outcomes.{on_ok_three}
use Rattle.mark_incremental.proofs.marks.Marks.renew.Goals as goal

pub renew_with_root-requires-clause-rooted : goal.renew_with_root-requires-clause-rooted
renew_with_root-requires-clause-rooted g c =
    rooted_after c.args.edge.now (state_in c.args.graph.now) c.args.self.now c.args.before.now c.requires.before (live c.args.graph.now) c.requires.live c.in_ok-after.after c.in_ok-after.ensures.walks
    c.in-Some.changed.0 c.in-Some.changed.1 c.in-Some.ensures

pub renew_with_root-requires-clause-was : goal.renew_with_root-requires-clause-was
renew_with_root-requires-clause-was g c =
    rooted_before c.args.edge.now (state_in c.args.graph.now) c.args.self.now c.args.before.now c.requires.before (live c.args.graph.now) c.requires.live c.in_ok-after.after c.in_ok-after.ensures.walks
    c.in-Some.changed.0 c.in-Some.changed.1 c.in-Some.ensures

pub renew_with_root-requires-clause-well_formed : goal.renew_with_root-requires-clause-well_formed
renew_with_root-requires-clause-well_formed g c =
    new_well_formed c.args.edge.now (state_in c.args.graph.now) c.args.self.now c.args.before.now c.requires.before (live c.args.graph.now) c.requires.live

pub returns-in-Some-clause-stand : goal.returns-in-Some-clause-stand
returns-in-Some-clause-stand g c =
    let was = c.requires.before in
    let new = live c.args.graph.now in
    let are = c.requires.live in
    let now_live = new_live c.args.edge.now (state_in c.args.graph.now) c.args.self.now c.args.before.now was new are in
    on_ok_three c.renew_with_root.result
    (λ kept rooted numbers. stands_after c.args.edge.now (state_in c.args.graph.now) c.args.self.now c.args.before.now was new are c.renew_with_root.new.self kept rooted numbers)
    (c.renew_with_root.ensures.renewed was.edits was.edit was.live was.are_live now_live (ap (λ (x : Edge). x.target) was.of_edge)
    (walk_on c.args.edge.now (state_in c.args.graph.now) c.args.self.now c.args.before.now was new are c.in_ok-after.after c.in_ok-after.ensures.walks).source
    (only_root c.args.edge.now (state_in c.args.graph.now) c.args.self.now c.args.before.now was new are c.in_ok-after.after c.in_ok-after.ensures.walks c.in-Some.changed.0 c.in-Some.changed.1 c.in-Some.ensures) was.kept) c.renew_with_root.ensures.rooted c.renew_with_root.ensures.numbers

pub renew_near-requires-clause-rooted : goal.renew_near-requires-clause-rooted
renew_near-requires-clause-rooted g c =
    rooted_still c.args.edge.now (state_in c.args.graph.now) c.args.self.now c.args.before.now c.requires.before (live c.args.graph.now) c.requires.live c.in_ok-after.after c.in_ok-after.ensures.walks
    c.in_default.ensures

pub renew_near-requires-clause-well_formed : goal.renew_near-requires-clause-well_formed
renew_near-requires-clause-well_formed g c =
    new_well_formed c.args.edge.now (state_in c.args.graph.now) c.args.self.now c.args.before.now c.requires.before (live c.args.graph.now) c.requires.live

pub returns-clause-stand : goal.returns-clause-stand
returns-clause-stand g c =
    let e = c.args.edge.now in
    let h = state_in c.args.graph.now in
    let marks = c.args.self.now in
    let ends = c.args.before.now in
    let was = c.requires.before in
    let new = live c.args.graph.now in
    let are = c.requires.live in
    let late = c.in_ok-after.after in
    let walks = c.in_ok-after.ensures.walks in
    stands_after e h marks ends was new are c.renew_near.new.self
    (c.in_ok-records.ensures.renewed was.edits was.edit was.live was.are_live (new_live e h marks ends was new are) (cycles_kept e h marks ends was new are late walks c.in_default.ensures) was.kept
    (walked e h marks ends was new are) (walk_on e h marks ends was new are late walks))
    (λ v. ap (λ (places : Places Bool). holds places v) c.renew_near.ensures.roots ∙ rooted_still e h marks ends was new are late walks c.in_default.ensures v) c.in_ok-records.ensures.numbers

pub returns-in_err-after-clause-ticks : goal.returns-in_err-after-clause-ticks
returns-in_err-after-clause-ticks g c = λ was n size.
    let new = live c.args.graph.now in
    let now_live = new_live c.args.edge.now (state_in c.args.graph.now) c.args.self.now c.args.before.now was new c.requires.live in
    let walks = walks_after was.edits was.edit was.live new was.are_live now_live c.args.edge.now was.of_edge n size in
    let ticks = c.walk_from_ends.ensures.ticks in
    omega (arith, walks, ticks)

pub returns-in-Some-clause-ticks : goal.returns-in-Some-clause-ticks
returns-in-Some-clause-ticks g c = λ was n size.
    let new = live c.args.graph.now in
    let are = c.requires.live in
    let now_live = new_live c.args.edge.now (state_in c.args.graph.now) c.args.self.now c.args.before.now was new are in
    let walks = walks_after was.edits was.edit was.live new was.are_live now_live c.args.edge.now was.of_edge n size in
    let ticks = c.walk_from_ends.ensures.ticks in
    let whole =
    c.renew_with_root.ensures.ticks was.edits was.edit was.live was.are_live now_live (ap (λ (x : Edge). x.target) was.of_edge)
    (walk_on c.args.edge.now (state_in c.args.graph.now) c.args.self.now c.args.before.now was new are c.in_ok-after.after c.in_ok-after.ensures.walks).source
    (only_root c.args.edge.now (state_in c.args.graph.now) c.args.self.now c.args.before.now was new are c.in_ok-after.after c.in_ok-after.ensures.walks c.in-Some.changed.0 c.in-Some.changed.1 c.in-Some.ensures) n
    (size_of was.edits was.edit c.args.edge.now was.of_edge n size) in
    omega (arith, walks, ticks, whole)

pub returns-in_err-records-clause-ticks : goal.returns-in_err-records-clause-ticks
returns-in_err-records-clause-ticks g c = λ was n size.
    let new = live c.args.graph.now in
    let are = c.requires.live in
    let now_live = new_live c.args.edge.now (state_in c.args.graph.now) c.args.self.now c.args.before.now was new are in
    let stay = cycles_kept c.args.edge.now (state_in c.args.graph.now) c.args.self.now c.args.before.now was new are c.in_ok-after.after c.in_ok-after.ensures.walks c.in_default.ensures in
    let walks = walks_after was.edits was.edit was.live new was.are_live now_live c.args.edge.now was.of_edge n size in
    let ticks = c.walk_from_ends.ensures.ticks in
    let near = near_of was.edits was.edit was.live new was.are_live now_live stay n (size_of was.edits was.edit c.args.edge.now was.of_edge n size) in
    let made =
    c.renew_near.ensures.ticks was.edits was.edit was.live was.are_live now_live stay was.kept (walked c.args.edge.now (state_in c.args.graph.now) c.args.self.now c.args.before.now was new are)
    (walk_on c.args.edge.now (state_in c.args.graph.now) c.args.self.now c.args.before.now was new are c.in_ok-after.after c.in_ok-after.ensures.walks) near.0 near.1 in
    let is = near.2 in
    omega (arith, walks, ticks, made, is)

pub returns-clause-ticks : goal.returns-clause-ticks
returns-clause-ticks g c = λ was n size.
    let new = live c.args.graph.now in
    let are = c.requires.live in
    let now_live = new_live c.args.edge.now (state_in c.args.graph.now) c.args.self.now c.args.before.now was new are in
    let stay = cycles_kept c.args.edge.now (state_in c.args.graph.now) c.args.self.now c.args.before.now was new are c.in_ok-after.after c.in_ok-after.ensures.walks c.in_default.ensures in
    let walks = walks_after was.edits was.edit was.live new was.are_live now_live c.args.edge.now was.of_edge n size in
    let ticks = c.walk_from_ends.ensures.ticks in
    let near = near_of was.edits was.edit was.live new was.are_live now_live stay n (size_of was.edits was.edit c.args.edge.now was.of_edge n size) in
    let made =
    c.renew_near.ensures.ticks was.edits was.edit was.live was.are_live now_live stay was.kept (walked c.args.edge.now (state_in c.args.graph.now) c.args.self.now c.args.before.now was new are)
    (walk_on c.args.edge.now (state_in c.args.graph.now) c.args.self.now c.args.before.now was new are c.in_ok-after.after c.in_ok-after.ensures.walks) near.0 near.1 in
    let is = near.2 in
    omega (arith, walks, ticks, made, is)
