use Rattle.std.proofs.Common.{◌≡◌, ◌+◌, ◌<◌, length, take, refl, subst, arith}
use Rattle.std.proofs.lemmas.Bool.{false≢true}
use Rattle.std.proofs.lemmas.List.{take_all}
use Rattle.edit_merge.specs.Named.{StandsForAll}
use Rattle.edit_merge.proofs.OneEdge.{length-others, get_or-others, other_stands, chosen_first, chosen_next, chosen_stays}
use Rattle.edit_merge.proofs.Standing.{DoStand-at}
use Rattle.edit_merge.proofs.writing.line_to_copy.Goals as goal
use Rattle.edit_merge.proofs.writing.line_to_copy.Goals.{then-deletes, else-deletes}

pub loop-line-init : goal.loop-line-init
loop-line-init c = λ version stand. chosen_first version c.args.text.now c.args.group.now _ c.in-len1-up.len_at_least stand

pub are_of_one_edge-requires-clause-line : goal.are_of_one_edge-requires-clause-line
are_of_one_edge-requires-clause-line c = (c.requires.0, DoStand-at c.requires.0 c.args.text.now 0 c.args.group.now _ c.in-len1-up.len_at_least c.requires.1)

pub are_of_one_edge-requires-clause-other : goal.are_of_one_edge-requires-clause-other
are_of_one_edge-requires-clause-other c = (c.requires.0, other_stands c.requires.0 c.args.text.now c.args.group.now c.loop-line.line-index _ c.loop-line-test.true c.requires.1)

pub deletes-requires : goal.deletes-requires
deletes-requires c = (c.requires.0, other_stands c.requires.0 c.args.text.now c.args.group.now c.loop-line.line-index _ c.loop-line-test.true c.requires.1)

pub loop-line-preserved : goal.loop-line-preserved
loop-line-preserved c = λ version stand.
    let text = c.args.text.now in
    let group = c.args.group.now in
    let i = c.loop-line.line-index in
    let within : i + 1 < length group = omega (arith, c.loop-line-test.true, length-others group) in
    let begins = DoStand-at version text 0 group _ c.in-len1-up.len_at_least stand in
    let so_far = c.loop-line.invariant version stand in
    let alike = c.if-not-are_of_one_edge.ensures in
    elim c.if-deletes.branch [
      | then-deletes w ↦ chosen_next version text _ group (i + 1) _ c.loop-line.chosen _ c.if-deletes.chosen within (get_or-others group i _) w.chosen-is begins stand so_far
          (λ a b of_a of_b. (alike version a b of_a of_b).0 refl) (λ edit stands. (w.if-deletes.ensures version edit stands).0 refl)
      | else-deletes w ↦ chosen_stays version text _ group (i + 1) _ c.loop-line.chosen _ c.if-deletes.chosen within (get_or-others group i _) w.chosen-is begins stand so_far
          (λ a b of_a of_b. (alike version a b of_a of_b).0 refl) (λ edit stands. (λ kind. false≢true ((w.if-deletes.ensures version edit stands).1 kind)))
    ]

pub returns : goal.returns
returns c = λ version stand.
    let group = c.args.group.now in
    let all : take (c.loop-line.line-index + 1) group ≡ group = take_all (c.loop-line.line-index + 1) group (omega (arith, c.loop-line-test.false, length-others group)) in
    subst (λ ls. StandsForAll version c.args.text.now ls c.loop-line.chosen) all (c.loop-line.invariant version stand).all
