use Rattle.std.proofs.Common.{subst}
use Rattle.std.proofs.Math.Path.{fun_ext}
use Rattle.std.specs.Prelude.{IfOk}
use Rattle.grove_edits.specs.Graph.{Graph}
use Rattle.grove_json.specs.JsonText.{IsJsonText}
use Rattle.grove_editor.proofs.texts.report_of.Goals as goal

pub returns : goal.returns
returns c = subst (λ (g : Graph). IfOk c.json_text.result (λ text. IsJsonText g text.items)) (fun_ext c.in_ok-table.ensures.same) c.json_text.ensures
