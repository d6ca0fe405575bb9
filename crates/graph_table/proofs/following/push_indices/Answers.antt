use Rattle.std.proofs.Common.{◌∙◌, ◌-◌, sym, true, false, refl, get_or}
use Rattle.std.proofs.lemmas.List.{append-nil}
use Rattle.grove_sorts.specs.declared.position.Position.TheVariants.{Main}
use Rattle.graph_table.specs.declared.link.Link.{Link}
use Rattle.graph_table.proofs.Positions.{eq_is_same_position}
use Rattle.graph_table.proofs.Chains.{followed_none, followed_more, followed_all, chain_falls, chained_within}
use Rattle.graph_table.proofs.following.push_indices.Goals as goal

none : Link
none = record { name = record { author = 0; counter = 0 }; position = Main; target = 0; before = 0 }

pub loop-next-init : goal.loop-next-init
loop-next-init c = followed_none c.args.links.now c.args.position c.args.out.now.items c.args.last c.requires

pub bounds-links-index : goal.bounds-links-index
bounds-links-index c = chained_within c.args.links.now c.loop-next.next (c.loop-next.next - 1) c.loop-next-test.true refl c.loop-next.invariant.chained

pub loop-next-preserved : goal.loop-next-preserved
unfolding none
loop-next-preserved c =
    followed_more c.args.links.now c.args.position c.args.out.now.items c.loop-next.out.items c.loop-next.out.items c.args.last c.loop-next.next (c.loop-next.next - 1)
    (get_or c.args.links.now (c.loop-next.next - 1) none) none false c.loop-next-test.true refl refl (c.if-eq.ensures ∙ eq_is_same_position _ c.args.position)
    (sym (append-nil c.loop-next.out.items)) c.loop-next.invariant

pub loop-next-smaller : goal.loop-next-smaller
unfolding none
loop-next-smaller c =
    chain_falls c.args.links.now c.loop-next.next (c.loop-next.next - 1) (get_or c.args.links.now (c.loop-next.next - 1) none) none c.loop-next-test.true refl refl c.loop-next.invariant.chained

pub loop-next-preserved-in_ok-push : goal.loop-next-preserved-in_ok-push
unfolding none
loop-next-preserved-in_ok-push c =
    followed_more c.args.links.now c.args.position c.args.out.now.items c.loop-next.out.items c.push.new.self.items c.args.last c.loop-next.next (c.loop-next.next - 1)
    (get_or c.args.links.now (c.loop-next.next - 1) none) none true c.loop-next-test.true refl refl (c.if-eq.ensures ∙ eq_is_same_position _ c.args.position)
    c.in_ok-push.ensures.items c.loop-next.invariant

pub loop-next-smaller-in_ok-push : goal.loop-next-smaller-in_ok-push
unfolding none
loop-next-smaller-in_ok-push c =
    chain_falls c.args.links.now c.loop-next.next (c.loop-next.next - 1) (get_or c.args.links.now (c.loop-next.next - 1) none) none c.loop-next-test.true refl refl c.loop-next.invariant.chained

pub returns : goal.returns
returns c = followed_all c.args.links.now c.args.position c.args.out.now.items c.loop-next.out.items c.args.last c.loop-next.next c.loop-next-test.false c.loop-next.invariant
