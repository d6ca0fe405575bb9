use Rattle.std.proofs.Common.{◌∙◌}
use Rattle.grove_sorts.proofs.Identifiers.{ident_exact, spelled_bytes}
use Rattle.grove_sorts.proofs.spelled.Spelling.of.Goals as goal

pub returns : goal.returns
returns c = ident_exact _ c.args.ident.now (spelled_bytes c.as_slice.result.now _ ∙ c.as_slice.ensures.bytes)
