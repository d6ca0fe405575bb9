use Rattle.std.proofs.Common.{sym}
use borrow.Author.Tests.{eqb-true}
use Rattle.type_core.proofs.HeadLemmas.{meet_of-same}
use Rattle.type_core.proofs.table.TypeTable.heads.Goals as goal

pub returns-then-eq : goal.returns-then-eq
returns-then-eq c =
    (c.requires.left, meet_of-same c.args.self.now c.args.pairing (eqb-true _ _ (sym c.if-eq.ensures)))
