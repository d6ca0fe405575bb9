use Rattle.std.proofs.Common.{ap, arith, ◌∙◌}
use Rattle.std.specs.Map.{keys_of}
use Rattle.ctx_table.specs.declared.link.Link.{Link}
use Rattle.ctx_table.specs.Links.{contexts_of}
use Rattle.ctx_table.proofs.LinkLemmas.{placed_number, placed_context}
use Rattle.ctx_table.proofs.TableLemmas.{length-table, found_number, found_context, missing-same, extended, HasAddedLink-entry, link_at_end, within_end}
use Rattle.ctx_table.proofs.table.CtxTable.extend.Goals as goal

pub returns-in-Some-clause-number : goal.returns-in-Some-clause-number
returns-in-Some-clause-number c = found_number _ _ c.self.view_is _ c.in-Some.ensures.within

pub returns-in-Some-clause-context : goal.returns-in-Some-clause-context
returns-in-Some-clause-context c =
    found_context _ _ (record { name = c.args.name; typ = c.args.typ; outer = c.args.ctx }) c.self.view_is c.self.invariant.table c.requires _ c.in-Some.ensures.within c.in-Some.ensures.link

pub steps_inside-requires-clause-within : goal.steps_inside-requires-clause-within
steps_inside-requires-clause-within c = omega (arith, c.requires, length-table c.self.inside.links.entries _ c.self.view_is)

pub add-requires : goal.add-requires
add-requires c =
    missing-same c.steps_inside.new.links.entries c.self.inside.links.entries (record { name = c.args.name; typ = c.args.typ; outer = c.args.ctx }) c.in_ok-steps.ensures.same c.in_default.ensures.missing

pub invariant_of-self-2 : goal.invariant_of-self-2
invariant_of-self-2 c =
    let l : Link = record { name = c.args.name; typ = c.args.typ; outer = c.args.ctx } in
    let inside = c.in_ok-steps.ensures in
    let put = c.in_ok-place.ensures in
    extended c.steps_inside.new.links.entries c.add.new.links.entries _ _ _ l c.in_ok-steps.steps inside.mapped (ap contexts_of inside.same ∙ c.self.view_is) c.requires put.added put.once

pub returns-clause-number : goal.returns-clause-number
returns-clause-number c =
    let l : Link = record { name = c.args.name; typ = c.args.typ; outer = c.args.ctx } in
    let inside = c.in_ok-steps.ensures in
    let put = c.in_ok-place.ensures in
    placed_number (keys_of c.steps_inside.new.links.entries) (keys_of c.add.new.links.entries) _ l (ap contexts_of inside.same ∙ c.self.view_is) inside.mapped.table c.requires
    (HasAddedLink-entry _ _ l _ put.added) put.once _ (within_end _ _ l _ put.added _ put.place)

pub returns-clause-context : goal.returns-clause-context
returns-clause-context c =
    let l : Link = record { name = c.args.name; typ = c.args.typ; outer = c.args.ctx } in
    let inside = c.in_ok-steps.ensures in
    let put = c.in_ok-place.ensures in
    placed_context (keys_of c.steps_inside.new.links.entries) (keys_of c.add.new.links.entries) _ l (ap contexts_of inside.same ∙ c.self.view_is) inside.mapped.table c.requires
    (HasAddedLink-entry _ _ l _ put.added) put.once _ (within_end _ _ l _ put.added _ put.place) (link_at_end _ _ l _ put.added _ put.place)
