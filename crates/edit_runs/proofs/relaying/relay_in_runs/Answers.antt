use Rattle.std.proofs.Common.{◌≡◌, List, length, ap, subst, arith}
use Rattle.live_relay.specs.Flow.{AreEntriesOf}
use Rattle.edit_runs.specs.declared.stretch.Stretch.{Stretch}
use Rattle.edit_runs.specs.Stretch.{piece_of}
use Rattle.edit_runs.proofs.Runs.{cut_length, entries_in_runs}
use Rattle.edit_runs.proofs.relaying.relay_in_runs.Goals as goal

pub run_relay-requires-clause-lists : goal.run_relay-requires-clause-lists
run_relay-requires-clause-lists g c κs within =
    let same = cut_length c.args.lists.now c.in_ok-cuts.cuts.items c.in_ok-cuts.ensures in
    let lent : length c.deref.result.now ≡ length c.in_ok-cuts.cuts.items = ap (λ (cs : List (List Stretch)). length cs) c.deref.ensures.value in
    let some = c.requires.lists.0 in
    let few = c.requires.lists.1 in
    (omega arith, omega arith)

pub returns-clause-entries : goal.returns-clause-entries
returns-clause-entries g c =
    entries_in_runs c.args.lists.now c.in_ok-cuts.cuts.items c.in_ok-run_relay.field-0.1 c.in_ok-cuts.ensures
    (subst (λ (cs : List (List Stretch)). AreEntriesOf piece_of cs c.in_ok-run_relay.field-0.1) c.deref.ensures.value c.in_ok-run_relay.ensures.entries)
