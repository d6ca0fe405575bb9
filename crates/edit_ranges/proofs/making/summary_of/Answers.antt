use Rattle.std.proofs.Common.{List, ◌++◌, sym, ap, subst, ◌∙◌}
use Rattle.std.specs.Prelude.{not, filter}
use Rattle.std.specs.List.{All, flat_map, list_any}
use Rattle.edit_ranges.specs.declared.fact.Fact.{Fact}
use Rattle.edit_ranges.specs.declared.name_range.NameRange.{NameRange}
use Rattle.edit_ranges.specs.Ranges.{tell}
use Rattle.edit_ranges.specs.Facts.{FactInRange, between_facts, facts_of_edit, is_fact, is_told_by}
use Rattle.edit_ranges.proofs.WhatEditsTell.{is_summary, kept_in_range, shared_in_range}
use Rattle.edit_ranges.proofs.making.summary_of.Goals as goal

pub ranges_of-requires : goal.ranges_of-requires
ranges_of-requires c = record { in_range = subst (λ (fs : List Fact). All FactInRange fs) (sym c.in_ok-shared_facts.ensures) (shared_in_range c.args.edits.now) }

pub ranges_of-requires-2 : goal.ranges_of-requires-2
ranges_of-requires-2 c =
    let shared = c.deref.result.now in
    let keeps = λ (fact : Fact). not (is_told_by shared fact) in
    let kept = c.leave_out.ensures ∙ ap (filter keeps) c.in_ok-facts.ensures in
    let between = c.deref-3.ensures.value ∙ c.in_ok-between.ensures ∙ ap (λ (rs : List NameRange). between_facts rs c.args.edits.now) (c.deref-2.ensures.value ∙ sym c.deref.ensures.value) in
    let all = c.in_ok-extend_from_slice.ensures.items ∙ ap (λ fs. fs ++ c.deref-3.result.now) kept ∙ ap (λ fs. filter keeps (flat_map facts_of_edit c.args.edits.now) ++ fs) between in
    record { in_range = subst (λ (fs : List Fact). All FactInRange fs) (sym all) (kept_in_range keeps shared c.args.edits.now) }

pub returns : goal.returns
returns c =
    let shared = c.deref.result.now in
    let keeps = λ (fact : Fact). not (is_told_by shared fact) in
    let kept = c.leave_out.ensures ∙ ap (filter keeps) c.in_ok-facts.ensures in
    let between = c.deref-3.ensures.value ∙ c.in_ok-between.ensures ∙ ap (λ (rs : List NameRange). between_facts rs c.args.edits.now) (c.deref-2.ensures.value ∙ sym c.deref.ensures.value) in
    let all = c.in_ok-extend_from_slice.ensures.items ∙ ap (λ fs. fs ++ c.deref-3.result.now) kept ∙ ap (λ fs. filter keeps (flat_map facts_of_edit c.args.edits.now) ++ fs) between in
    is_summary c.args.edits.now shared c.in_ok-ranges.ranges.items c.requires c.in_ok-ranges.ensures.in_order
    (λ t n. ap (λ (rs : List NameRange). tell rs t n) c.deref.ensures.value ∙ c.in_ok-shared.ensures.told t n ∙ ap (list_any (is_fact t n)) c.in_ok-shared_facts.ensures)
    (λ t n. c.in_ok-ranges.ensures.told t n ∙ ap (list_any (is_fact t n)) all)
