use Rattle.std.proofs.Common.{sym, ap, subst, ◌∙◌}
use Rattle.std.specs.Map.{keys_of}
use Rattle.indexmap.proofs.CallerLemmas.{insert_entry-new}
use Rattle.edge_lattice.specs.declared.state.State.TheVariants.{Absent}
use Rattle.edge_numbers.specs.Narrow.{entries_of, IsNumbered}
use Rattle.edge_numbers.proofs.NarrowEq.{eq, itself, exact}
use Rattle.edge_numbers.proofs.Places.{place_found, none_from}
use Rattle.edge_numbers.proofs.Narrow.{entry_there, entry_pushed, numbered_push, last_number}
use Rattle.edge_numbers.proofs.edge_numbers.enter_edge.Goals as goal

pub returns-in-Some-clause-number : goal.returns-in-Some-clause-number
returns-in-Some-clause-number c = place_found eq itself exact (keys_of c.args.edges.now.entries) c.args.narrow c.in-Some.number (sym c.in-Some.ensures.index)

pub returns-in-Some-clause-entered : goal.returns-in-Some-clause-entered
returns-in-Some-clause-entered c vertices is ends =
    entry_there vertices c.args.edges.now.entries c.in-Some.number c.args.narrow
    (place_found eq itself exact (keys_of c.args.edges.now.entries) c.args.narrow c.in-Some.number (sym c.in-Some.ensures.index))

pub returns-clause-number : goal.returns-clause-number
returns-clause-number c =
    last_number c.args.edges.now.entries c.insert.new.self.entries c.args.narrow Absent c.len-number.result
    (c.in_ok-insert.ensures.entries ∙ insert_entry-new eq c.args.edges.now c.args.narrow Absent (none_from _ (sym c.in_default.ensures.found)))
    c.len-number.ensures.len

pub returns-clause-entered : goal.returns-clause-entered
returns-clause-entered c vertices is ends =
    let none = none_from _ (sym c.in_default.ensures.found) in
    ap (entries_of vertices) (c.in_ok-insert.ensures.entries ∙ insert_entry-new eq c.args.edges.now c.args.narrow Absent none)
    ∙ entry_pushed vertices is.vertices_once c.args.narrow ends c.args.edges.now.entries is.ends none

pub returns-clause-numbered : goal.returns-clause-numbered
returns-clause-numbered c vertices is ends =
    let none = none_from _ (sym c.in_default.ensures.found) in
    subst (IsNumbered vertices) (sym (c.in_ok-insert.ensures.entries ∙ insert_entry-new eq c.args.edges.now c.args.narrow Absent none))
    (numbered_push vertices is.vertices_once c.args.narrow ends c.args.edges.now.entries Absent is none)
