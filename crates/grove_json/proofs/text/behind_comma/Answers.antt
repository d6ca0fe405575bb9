use Rattle.grove_json.proofs.Texts.{behind_first, behind_none}
use Rattle.grove_json.proofs.text.behind_comma.Goals as goal

pub returns-in-Some : goal.returns-in-Some
returns-in-Some c = λ trees are. behind_first c.args.texts.now _ _ trees c.in-Some.ensures.cases.0 are

pub returns-in-None : goal.returns-in-None
returns-in-None c = λ trees are. behind_none c.args.texts.now trees c.in-None.ensures.cases are
