use Rattle.grove_undo.proofs.Redone.{redone}
use Rattle.grove_undo.proofs.laws.undoing_an_undoing_redoes.Goals as goal

pub returns : goal.returns
returns c = redone
