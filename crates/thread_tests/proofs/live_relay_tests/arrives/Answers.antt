use Rattle.std.proofs.Common.{[], ◌∷◌, ◌++◌, ap, sym, subst, ◌∙◌, append_assoc, rules}
use Rattle.live_relay.specs.Seats.{AreAllOf}
use Rattle.thread_tests.proofs.RelaySenders.{popped, relay_at, all_still}
use Rattle.thread_tests.proofs.live_relay_tests.arrives.Goals as goal

pub join-one-requires-after_bounds : goal.join-one-requires-after_bounds
join-one-requires-after_bounds g c κs within =
    let relay = c.in_ok-relay.relay in
    let rest = c.pop-2.new.self.items in
    let one = c.in-Some-Some.one in
    let two = c.in-Some-Some.two in
    let both = c.in-Some-Some.ensures.items ∙ ap (λ ss. ss ++ two ∷ []) c.in-Some-Some.ensures'.items in
    let all = popped relay c.in_ok-relay.senders.items (rest ++ one ∷ []) two both c.in_ok-relay.ensures.senders in
    let apart = subst (AreAllOf relay) (append_assoc rest (one ∷ []) (two ∷ [])) all in
    (relay_at relay rest one (two ∷ []) apart, ((relay_at relay (rest ++ one ∷ []) two [] all, ap (λ r. r.relay) c.in_ok-relay.ensures.receiver), search rules))

pub close-left-requires-clause-senders : goal.close-left-requires-clause-senders
close-left-requires-clause-senders g c =
    let relay = c.in_ok-relay.relay in
    let rest = c.pop-2.new.self.items in
    let one = c.in-Some-Some.one in
    let two = c.in-Some-Some.two in
    let both = c.in-Some-Some.ensures.items ∙ ap (λ ss. ss ++ two ∷ []) c.in-Some-Some.ensures'.items in
    let all = popped relay c.in_ok-relay.senders.items (rest ++ one ∷ []) two both c.in_ok-relay.ensures.senders in
    let first = c.join-one.ensures.first in
    let second = c.join-one.ensures.second in
    let later = c.join-one.result.0 in
    let last = c.join-one.result.1.0 in
    let with_last = all_still relay (rest ++ one ∷ []) two last [] second.0 second.1 all in
    let with_both = all_still relay rest one later (last ∷ []) first.0 first.1 (subst (AreAllOf relay) (append_assoc rest (one ∷ []) (last ∷ [])) with_last) in
    let are = c.push_reserved-2.ensures.items ∙ ap (λ ss. ss ++ last ∷ []) c.push_reserved.ensures.items in
    subst (AreAllOf relay) (sym are) (subst (AreAllOf relay) (sym (append_assoc rest (later ∷ []) (last ∷ []))) with_both)
