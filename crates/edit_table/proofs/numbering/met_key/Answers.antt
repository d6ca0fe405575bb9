use Rattle.std.proofs.Common.{◌≡◌, Some, slice_get, rules, ap, ◌∙◌}
use Rattle.grove_sorts.specs.declared.ctor.Ctor.TheVariants.{Root}
use Rattle.edit_table.specs.Keys.{is_short}
use Rattle.edit_table.proofs.Lists.{begins_alike, begins_inserted, read_at, within_from}
use Rattle.edit_table.proofs.Ctors.{ctor_found, ctors_after, ctors_unchanged}
use Rattle.edit_table.proofs.KeyEq.{ctor_eq}
use Rattle.edit_table.proofs.numbering.met_key.Goals as goal

pub returns-in_err-index-clause-ctors : goal.returns-in_err-index-clause-ctors
returns-in_err-index-clause-ctors c = ctors_unchanged c.args.ctors.now.keys c.insert_full.new.self.keys c.in_err-index.ensures.err c.requires.ctors

pub returns-in_err-index-clause-stay : goal.returns-in_err-index-clause-stay
returns-in_err-index-clause-stay c = begins_alike c.insert_full.new.self.keys c.args.ctors.now.keys c.in_err-index.ensures.err

pub returns-in_default-clause-ctors : goal.returns-in_default-clause-ctors
returns-in_default-clause-ctors c =
    ctors_after c.args.ctors.now.keys c.insert_full.new.self.keys c.ctor.result c.in_ok-index.ensures.keys c.in_ok-index.ensures.unique (ap is_short c.ctor.ensures ∙ c.requires.long) c.requires.ctors

pub returns-in_default-clause-stay : goal.returns-in_default-clause-stay
returns-in_default-clause-stay c = begins_inserted ctor_eq c.insert_full.new.self.keys c.args.ctors.now.keys c.ctor.result c.in_ok-index.ensures.keys

pub returns-clause-key : goal.returns-clause-key
returns-clause-key c =
    let ctors = c.insert_full.new.self.keys in
    let found = c.in_ok-index.ensures.stored in
    let one : c.in-Ok.number ≡ c.in_ok-index.index = search rules in
    let stands : slice_get ctors c.in-Ok.number ≡ Some c.ctor.result = ctor_found ctors c.in-Ok.number c.in_ok-index.index c.ctor.result found.0 one found.1 found.2 in
    (within_from ctors c.in-Ok.number c.ctor.result stands, read_at ctors c.in-Ok.number Root c.ctor.result stands ∙ c.ctor.ensures)

pub returns-clause-ctors : goal.returns-clause-ctors
returns-clause-ctors c =
    ctors_after c.args.ctors.now.keys c.insert_full.new.self.keys c.ctor.result c.in_ok-index.ensures.keys c.in_ok-index.ensures.unique (ap is_short c.ctor.ensures ∙ c.requires.long) c.requires.ctors

pub returns-clause-stay : goal.returns-clause-stay
returns-clause-stay c = begins_inserted ctor_eq c.insert_full.new.self.keys c.args.ctors.now.keys c.ctor.result c.in_ok-index.ensures.keys
