-- Words that are of no form of one word, and of none of a word and a number, are of none.
use Rattle.std.specs.declared.alloc.Global.{Global}
use Rattle.std.proofs.Common.{List, Option, Some, None}
use Rattle.std.specs.Prelude.{String, IfNone}
use Rattle.grove_calls.specs.Rules.{AreOfNone}
use Rattle.grove_tools.specs.declared.tool.Tool.{Tool}
use Rattle.grove_tools.specs.declared.tool.Tool.TheVariants.{Relay, Infer, Keep, Undo, Json}
use Rattle.grove_tools.specs.Words.{AreOf, AreOfNoNumber, AreOfNoWord}
use Rattle.grove_tools.specs.Due.{tool_rules}

of_none : (words : List (String Global)) → AreOfNoWord words → AreOfNoNumber words → (tool : Tool) → AreOf tool words → ⊥
of_none words word number (Relay senders) are = number.relay senders are
of_none words word number Infer are = word.infer are
of_none words word number Keep are = word.keep are
of_none words word number (Undo author) are = number.undo author are
of_none words word number Json are = word.json are

pub none_asked : (r : Option Tool) (words : List (String Global)) → AreOfNoWord words → IfNone r (AreOfNoNumber words) → IfNone r (AreOfNone tool_rules words)
none_asked (Some tool) words word number = tt
none_asked None words word number = of_none words word number
