use Rattle.session_run.proofs.Listed.{none_sent, next_can_send, next_sent, all_sent}
use Rattle.session_run.proofs.listing.append_sends.Goals as goal

pub loop-send-init : goal.loop-send-init
loop-send-init c = none_sent c.args.sources.now c.args.replica c.args.first_send c.args.sends.now c.args.workers.now.items c.requires.sends

pub append_send-requires : goal.append_send-requires
append_send-requires c =
    next_can_send c.args.sources.now c.args.replica c.args.first_send c.args.sends.now c.args.workers.now.items c.loop-send.send-index c.loop-send.number _ c.loop-send.workers.items
    c.loop-send-test.true c.loop-send.invariant

pub loop-send-preserved : goal.loop-send-preserved
loop-send-preserved c =
    next_sent c.args.sources.now c.args.replica c.args.first_send c.args.sends.now c.args.workers.now.items c.loop-send.send-index c.loop-send.number _ c.loop-send.workers.items
    c.loop-send-test.true c.loop-send.invariant c.append_send.new.workers.items c.in_ok-append_send.ensures

pub returns : goal.returns
returns c =
    all_sent c.args.sources.now c.args.replica c.args.first_send c.args.sends.now c.args.workers.now.items c.loop-send.send-index c.loop-send.number c.loop-send.workers.items
    c.loop-send-test.false c.loop-send.invariant
