use Rattle.std.proofs.Common.{[], ap, sym, subst, ◌∙◌}
use Rattle.live_relay.specs.Seats.{AreAllOf}
use Rattle.thread_tests.proofs.RelaySenders.{popped, relay_at, all_still}
use Rattle.thread_tests.proofs.live_relay_tests.left_in_a_full_queue.Goals as goal

pub gives_back-are-requires : goal.gives_back-are-requires
gives_back-are-requires g c =
    let relay = c.in_ok-relay.relay in
    let rest = c.pop.new.self.items in
    (relay_at relay rest c.in-Some.sender [] (popped relay c.in_ok-relay.senders.items rest c.in-Some.sender c.in-Some.ensures.items c.in_ok-relay.ensures.senders), ap (λ r. r.relay) c.in_ok-relay.ensures.receiver)

pub close-left-requires-clause-senders : goal.close-left-requires-clause-senders
close-left-requires-clause-senders g c =
    let relay = c.in_ok-relay.relay in
    let rest = c.pop.new.self.items in
    let sender = c.in-Some.sender in
    let all = popped relay c.in_ok-relay.senders.items rest sender c.in-Some.ensures.items c.in_ok-relay.ensures.senders in
    let last = c.gives_back-are.new.sender in
    let of = c.gives_back-are.ensures.0 ∙ relay_at relay rest sender [] all in
    subst (AreAllOf relay) (sym c.push_reserved.ensures.items) (all_still relay rest sender last [] of c.gives_back-are.ensures.1 all)
