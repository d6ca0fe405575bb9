use Rattle.std.proofs.Common.{take, drop, take-append-drop, rules}
use Rattle.live_relay.proofs.sending.send_some.Goals as goal

pub returns-then-not-send : goal.returns-then-not-send
returns-then-not-send g c =
    let items = c.args.items.now in
    let count = c.loop-item.item-index in
    (take count items, (drop count items, take-append-drop count items), search rules)
