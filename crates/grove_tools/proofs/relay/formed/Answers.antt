use Rattle.std.proofs.Common.{refl}
use Rattle.grove_tools.proofs.relay.formed.Goals as goal

pub returns : goal.returns
returns c = record {
  journal = c.args.journal;
  is_handed = refl;
  entries = c.requires.entries;
  gathered = c.args.gathered.now;
  replays = c.requires.replays;
  canonical = c.in_ok-text.ensures.0;
  is_canonical = c.in_ok-text.ensures.1;
  written = c.in_ok-text.ensures.2;
  no_disk = refl;
}
