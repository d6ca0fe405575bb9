use Rattle.session_gen.proofs.MoreLoads.{load_is}
use Rattle.session_gen.proofs.loads.load_item.Goals as goal

pub returns-clause-lines : goal.returns-clause-lines
returns-clause-lines c = load_is c.args.number c.args.state c.group_edit.result c.requires.state c.group_edit.ensures.line
