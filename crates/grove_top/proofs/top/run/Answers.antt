use Rattle.grove_top.specs.Due.{top_rules}
use Rattle.grove_top.proofs.OneDue.{top_sound}
use Rattle.grove_top.proofs.Known.{sound_where_known, for_where_known, served_where_known}
use Rattle.grove_top.proofs.NeverUnfit.{never_unfit, served_as}
use Rattle.grove_top.proofs.top.run.Goals as goal

pub serve-ending-requires-clause-sound : goal.serve-ending-requires-clause-sound
serve-ending-requires-clause-sound g c = sound_where_known top_rules _ top_sound

pub status_of-requires : goal.status_of-requires
status_of-requires g c =
    never_unfit c.args.words.now _ _ c.serve-ending.result.1 c.serve-ending.result.0
    (served_where_known top_rules _ c.args.words.now _ _ _ _ _ c.serve-ending.result.1 c.serve-ending.result.0
    (c.serve-ending.ensures c.args.words.now
    (for_where_known top_rules _ (λ form. form.command) c.threaded_form-form.result c.args.words.now c.threaded_form-form.ensures (
      λ f alloc command text short asked. (short, (asked, (record { shared = c.type_bounds.sync-R.shared }, record { shared = c.type_bounds.sync-G.shared }))),
      λ f alloc command text result made. made.2,
    ))) (
      λ f alloc command text short asked. (short, (asked, (record { shared = c.type_bounds.sync-R.shared }, record { shared = c.type_bounds.sync-G.shared }))),
      λ f alloc command text result made. made.2,
    )).meets

pub returns : goal.returns
returns g c =
    served_as c.args.words.now _ _ _ _ _ c.serve-ending.result.1 c.serve-ending.result.0 c.status_of.result c.status_of.ensures
    (served_where_known top_rules _ c.args.words.now _ _ _ _ _ c.serve-ending.result.1 c.serve-ending.result.0
    (c.serve-ending.ensures c.args.words.now
    (for_where_known top_rules _ (λ form. form.command) c.threaded_form-form.result c.args.words.now c.threaded_form-form.ensures (
      λ f alloc command text short asked. (short, (asked, (record { shared = c.type_bounds.sync-R.shared }, record { shared = c.type_bounds.sync-G.shared }))),
      λ f alloc command text result made. made.2,
    ))) (
      λ f alloc command text short asked. (short, (asked, (record { shared = c.type_bounds.sync-R.shared }, record { shared = c.type_bounds.sync-G.shared }))),
      λ f alloc command text result made. made.2,
    ))
