use Rattle.grove_calls.proofs.Asked.{asked}
use Rattle.grove_tools.specs.Due.{tool_rules}
use Rattle.grove_tools.specs.Known.{where_known}
use Rattle.grove_tools.proofs.Sound.{tool_sound}
use Rattle.grove_tools.proofs.Known.{sound_where_known, for_where_known, served_where_known}
use Rattle.grove_tools.proofs.top.run_tool.Goals as goal

pub serve-status-requires-clause-sound : goal.serve-status-requires-clause-sound
serve-status-requires-clause-sound g c = sound_where_known tool_rules _ tool_sound

pub serve-status-requires-clause-asked : goal.serve-status-requires-clause-asked
serve-status-requires-clause-asked g c =
    asked (where_known tool_rules _) (λ form. form.tool) c.form_of-form.result c.args.words.now
    (for_where_known tool_rules _ (λ form. form.tool) c.form_of-form.result c.args.words.now c.form_of-form.ensures (record { shared = c.type_bounds.sync-R.shared }))

pub returns : goal.returns
returns g c =
    served_where_known tool_rules _ c.args.words.now _ _ _ _ _ c.serve-status.result.1 c.serve-status.result.0
    (c.serve-status.ensures c.args.words.now
    (for_where_known tool_rules _ (λ form. form.tool) c.form_of-form.result c.args.words.now c.form_of-form.ensures (record { shared = c.type_bounds.sync-R.shared })))
    (record { shared = c.type_bounds.sync-R.shared })
