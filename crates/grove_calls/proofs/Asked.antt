-- Who has words of a form's command is asked.
use Rattle.std.specs.declared.alloc.Global.{Global}
use Rattle.std.proofs.Common.{List, Option, None, Some}
use Rattle.std.specs.Prelude.{String}
use Rattle.grove_calls.specs.Rules.{Rules, AreFor, IsFormAsked}

module _ {F C H : Type 0} where
  pub asked : (rules : Rules C H) (command : F → C) (form : Option F) (words : List (String Global)) → AreFor rules command form words → IsFormAsked rules command form
  asked rules command None words are = tt
  asked rules command (Some form) words are = (words, are)
