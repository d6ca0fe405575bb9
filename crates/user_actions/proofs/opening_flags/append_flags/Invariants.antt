use Rattle.std.proofs.Common.{◌≡◌, ◌≤◌, length, vec_len, vec_capacity}
use Rattle.std.specs.Prelude.{IsTrue}
use Rattle.user_actions.specs.Flags.{first_flags, AreTrue}
use Rattle.user_actions.proofs.opening_flags.append_flags.Given as goal

abbrev pub invariant-loop-number : goal.invariant-loop-number
invariant-loop-number l = record {
  told : l.flags.items ≡ first_flags l.graph l.number;
  count : vec_len l.flags ≡ l.number;
  room : length l.graph ≤ vec_capacity l.flags;
  known : IsTrue l.all_true → AreTrue l.flags.items;
}
