use Rattle.std.proofs.Common.{◌≡◌, [], ◌+◌, ◌≤◌, Option, Some, ap, refl, subst, sym, ◌∙◌, length, arith, rules}
use Rattle.std.proofs.lemmas.List.{get_or_read}
use Rattle.grove_edits.specs.declared.vertex.Vertex.{Vertex}
use Rattle.grove_edits.specs.Vertex.{stands_in}
use Rattle.graph_words.specs.Met.{HasEnded, unmet, round_len}
use Rattle.graph_words.proofs.Found.{AreFound, found_none, found_one, all_found, ticks_more, ticks_within, ticks_cut_off}
use Rattle.graph_words.proofs.Unmet.{unmet-none}
use Rattle.unicycle_roots.proofs.roots.roots_above.Goals as goal
use Rattle.unicycle_roots.proofs.roots.roots_above.Goals.{in-Some+in_ok-add, in_default}

pub loop-number-preserved : goal.loop-number-preserved
loop-number-preserved g c =
    let live = g.P.ParentOf.live c.args.parents.now in
    let vertices = c.args.vertices.now in
    let i = c.loop-number.number in
    let before = c.loop-number.met.entries in
    let after = c.walk_up.new.met.entries in
    let start = c.index-vertices-number.result in
    let found = c.loop-number.invariant.found in
    let at = λ (d : Vertex). sym (get_or_read vertices i start c.loop-number-test.true c.index-vertices-number.is d) in
    let walked = c.in_ok-entry.ensures in
    let left = length live in
    elim c.match-branch-2.branch [
      | in-Some+in_ok-add w ↦
          let ended = subst (λ (o : Option Vertex). HasEnded live i before after o) w.in-Some.is walked.ended in
          let round = subst (λ (o : Option Vertex). round_len live o + unmet live after ≤ unmet live before) w.in-Some.is walked.round in
          record {
            found = found_one live vertices c.loop-number.roots.keys c.match-branch-2.roots.keys before after i (i + 1) start w.in-Some.entry w.root_of_cycle.result found at walked.kept walked.start ended
                w.root_of_cycle.ensures.root w.root_of_cycle.ensures.above
                (λ v. ap (λ roots. stands_in v roots.keys) w.roots-is ∙ w.in_ok-add.ensures v) refl;
            ticks = ticks_more i (i + 1) left (unmet live before) (unmet live after) (round_len live (Some w.in-Some.entry)) c.loop-number.steps c.args.steps.now c.walk_up.new.steps c.match-branch-2.steps
                c.loop-number.invariant.ticks round walked.ticks (omega (arith, w.root_of_cycle.ensures.ticks, w.steps-is)) refl;
          }
      | in_default w ↦
          let ended = subst (λ (o : Option Vertex). HasEnded live i before after o) w.in_default.is walked.ended in
          let none = found_none live vertices c.loop-number.roots.keys before after i (i + 1) start found at walked.kept walked.start ended refl in
          record {
            found = subst (λ roots. AreFound live vertices roots after (i + 1)) (sym (ap (λ roots. roots.keys) w.roots-is)) none;
            ticks = ticks_more i (i + 1) left (unmet live before) (unmet live after) (round_len live c.in_ok-entry.field-0) c.loop-number.steps c.args.steps.now c.walk_up.new.steps c.match-branch-2.steps
                c.loop-number.invariant.ticks walked.round walked.ticks (omega (arith, w.steps-is)) refl;
          }
    ]

pub loop-number-init : goal.loop-number-init
loop-number-init g c =
    let live = g.P.ParentOf.live c.args.parents.now in
    let none : c.new-met.result.entries ≡ [] = search rules in
    let all : unmet live c.new-met.result.entries ≡ length live = ap (unmet live) none ∙ unmet-none live in
    record { found = search rules; ticks = omega arith }

pub returns-in_err-entry-clause-ticks : goal.returns-in_err-entry-clause-ticks
returns-in_err-entry-clause-ticks g c =
    let live = g.P.ParentOf.live c.args.parents.now in
    ticks_cut_off c.loop-number.number (length c.args.vertices.now) (length live) (unmet live c.loop-number.met.entries) c.loop-number.steps c.args.steps.now c.walk_up.new.steps
    c.loop-number.invariant.ticks c.in_err-entry.ensures.ticks_on_err c.loop-number-test.true

pub returns-in_err-add-clause-ticks : goal.returns-in_err-add-clause-ticks
returns-in_err-add-clause-ticks g c =
    let live = g.P.ParentOf.live c.args.parents.now in
    let walked = c.in_ok-entry.ensures in
    let before = c.loop-number.met.entries in
    let after = c.walk_up.new.met.entries in
    let round = subst (λ (o : Option Vertex). round_len live o + unmet live after ≤ unmet live before) c.in-Some.is walked.round in
    ticks_within c.loop-number.number (length c.args.vertices.now) (length live) (unmet live before) (unmet live after) (round_len live (Some c.in-Some.entry)) c.loop-number.steps c.args.steps.now c.walk_up.new.steps c.root_of_cycle.new.steps
    c.loop-number.invariant.ticks round walked.ticks c.root_of_cycle.ensures.ticks c.loop-number-test.true

pub returns-clause-roots : goal.returns-clause-roots
returns-clause-roots g c =
    all_found (g.P.ParentOf.live c.args.parents.now) c.args.vertices.now c.loop-number.roots.keys c.loop-number.met.entries c.loop-number.number c.loop-number.invariant.found c.loop-number-test.false

pub returns-clause-ticks : goal.returns-clause-ticks
returns-clause-ticks g c = let ticks = c.loop-number.invariant.ticks in omega arith
