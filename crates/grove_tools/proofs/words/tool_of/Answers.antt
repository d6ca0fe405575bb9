use Rattle.grove_tools.proofs.Unasked.{none_asked}
use Rattle.grove_tools.proofs.words.tool_of.Goals as goal

pub returns-in-None-clause-none : goal.returns-in-None-clause-none
returns-in-None-clause-none c = none_asked c.numbered_tool_of.result c.args.words.now c.in-None.ensures.none c.numbered_tool_of.ensures.none
