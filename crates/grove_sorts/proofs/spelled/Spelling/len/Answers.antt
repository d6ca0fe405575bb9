use Rattle.std.proofs.Common.{List, ℕ, length, sym, ap}
use Rattle.grove_sorts.proofs.Identifiers.{spelled_bytes}
use Rattle.grove_sorts.proofs.spelled.Spelling.len.Goals as goal

pub returns : goal.returns
returns c = ap (λ (bytes : List ℕ). length bytes) (sym (spelled_bytes c.args.self.now.bytes.now c.args.self.now.spelled))
