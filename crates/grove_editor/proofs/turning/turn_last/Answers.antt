use Rattle.std.proofs.Common.{List, [], ◌∷◌, ◌++◌, ap, ◌∙◌}
use Rattle.grove_edits.specs.Graph.{graph}
use Rattle.grove_editor.specs.declared.deed.Deed.{Deed}
use Rattle.grove_editor.specs.Deeds.{deed_by}
use Rattle.grove_editor.proofs.Undone.{last_found, undone_along, refused_turned}
use Rattle.grove_editor.proofs.turning.turn_last.Goals as goal

pub returns-in-Err-clause-turned : goal.returns-in-Err-clause-turned
returns-in-Err-clause-turned c =
    let found = c.index.result.now in
    let last = last_found c.args.author c.args.deeds.now.items c.deref.result.now c.in-Some.index found c.deref.ensures.value c.in-Some.ensures.last c.index.ensures in
    refused_turned c.refused.result c.args.replica.now c.args.author c.args.deeds.now.items c.args.others.now.items c.in-Some.index last.0 found c.in-Err.fault last.1 c.in-Err.ensures.refused
    c.refused.ensures.refused c.refused.ensures.known

pub returns-in_ok-changed-in-Ok-clause-turned : goal.returns-in_ok-changed-in-Ok-clause-turned
returns-in_ok-changed-in-Ok-clause-turned c =
    let found = c.index.result.now in
    let last = last_found c.args.author c.args.deeds.now.items c.deref.result.now c.in-Some.index found c.deref.ensures.value c.in-Some.ensures.last c.index.ensures in
    let taken = c.in_ok-changed-in-Ok.ensures in (
      c.in-Some.index,
      last.0,
      c.in-Ok.change,
      undone_along (graph c.args.replica.now.edits) c.args.author found last.0.deed c.in-Ok.edits c.in-Ok.change last.1 c.in-Ok.ensures.undone,
      taken.changed,
      taken.taken,
      c.remove-deed.ensures.items,
      c.push_reserved.ensures.items ∙ ap (λ (deeds : List Deed). deeds ++ deed_by c.args.author c.in-Ok.change ∷ []) c.reserve.ensures.items,
    )
