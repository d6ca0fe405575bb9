use Rattle.std.proofs.Common.{sym, ◌∙◌}
use Rattle.grove_sorts.proofs.Identifiers.{ident_exact, spelled_bytes}
use Rattle.grove_sorts.proofs.spelled.Spelling.ident.Goals as goal

pub returns : goal.returns
returns c = ident_exact _ _ (c.new.ensures ∙ sym (spelled_bytes c.args.self.now.bytes.now c.args.self.now.spelled))
