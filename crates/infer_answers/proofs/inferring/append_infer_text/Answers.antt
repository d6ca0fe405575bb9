use Rattle.std.proofs.Common.{◌≡◌, ◌++◌, ℕ, List, OnOk, subst, sym}
use Rattle.grove_edits.specs.declared.edit.Edit.{Edit}
use Rattle.grove_edits.specs.Graph.{graph}
use Rattle.graph_words.specs.Whole.{AreLive}
use Rattle.graph_table.specs.Table.{live}
use Rattle.infer_answers.specs.Texts.{IsInferText}
use Rattle.infer_answers.proofs.inferring.append_infer_text.Goals as goal

pub append_grove-requires-clause-live : goal.append_grove-requires-clause-live
append_grove-requires-clause-live c =
    subst (λ (edits : List Edit). AreLive (graph edits) (live c.in_ok-table.table)) (sym c.in_ok-table.ensures.edits) c.in_ok-table.ensures.live

pub returns : goal.returns
returns c =
    subst (λ (edits : List Edit). OnOk c.append_grove.result ((text : List ℕ) × IsInferText (graph edits) text × (c.append_grove.new.out.items ≡ c.args.out.now.items ++ text)))
    c.in_ok-table.ensures.edits c.append_grove.ensures
