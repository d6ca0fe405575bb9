use Rattle.grove_edits.specs.SpelledEdit.{spelled_edit}
use Rattle.edit_table.specs.Keys.{vertices_of}
use Rattle.edit_table.specs.Records.{edits_of, table_of}
use Rattle.std.proofs.Common.{◌++◌, map, refl, ap, ◌∙◌}
use Rattle.edit_table.proofs.Growing.{canonical_grown}
use Rattle.edit_table.proofs.Renumbered.{table_canonical}
use Rattle.edit_table.proofs.edit_table_builder.EditTableBuilder.into_table.Goals as goal

pub returns : goal.returns
returns c =
    let ctors = c.push_records.new.ctors.keys in
    let keys = c.push_records.new.keys.keys in
    let records = c.push_records.new.records.items in
    canonical_grown (edits_of (vertices_of ctors c.in_ok-keys.keys.items) c.renumber.new.records.items) c.self.inside.ctors.keys ctors c.self.inside.keys.keys keys c.self.inside.records.items records
    c.self.inside.waiting.items c.args.self c.self.view_is
    (c.in_ok-push_records.ensures.edits ∙ ap (λ ws. edits_of (vertices_of c.self.inside.ctors.keys c.self.inside.keys.keys) c.self.inside.records.items ++ map spelled_edit ws) c.as_slice.ensures.value)
    (table_canonical ctors c.as_slice-3.result.now keys c.as_slice-4.result.now c.as_slice-5.result.now c.in_ok-keys.keys.items records c.make_canonical.new.records.items c.renumber.new.records.items
    (table_of ctors keys records) refl c.as_slice-3.ensures.keys c.as_slice-4.ensures.keys c.as_slice-5.ensures.keys c.make_canonical.ensures.records c.make_canonical.ensures.canonical c.in_ok-keys.ensures.edits)
