use Rattle.std.proofs.Common.{ap, ◌++◌, Some, None}
use Rattle.grove_names.specs.declared.name.Name.{Name}
use Rattle.grove_names.specs.Name.{name_text}
use Rattle.edit_ranges.specs.Text.{last_text}
use Rattle.edit_ranges.proofs.OneList.{range_from_fields}
use Rattle.edit_ranges.proofs.RangeTexts.{first_name, numbers_fit, first_in_range, no_digit_behind, last_answered, some_same, none_some}
use Rattle.edit_ranges.proofs.reading.read_range.Goals as goal

pub returns-in_err-name-clause-only : goal.returns-in_err-name-clause-only
returns-in_err-name-clause-only c = λ range is spells.
    let told = c.in_ok-told.ensures.only range.told (name_text (first_name range) ++ last_text range.first range.last) spells in
    absurd (c.in_err-name.ensures.only (first_name range) (last_text range.first range.last) (first_in_range range is) (no_digit_behind range.first range.last) told.1)

pub returns-in_err-last-clause-only : goal.returns-in_err-last-clause-only
returns-in_err-last-clause-only c = λ range is spells.
    let told = c.in_ok-told.ensures.only range.told (name_text (first_name range) ++ last_text range.first range.last) spells in
    let name = c.in_ok-name.ensures.only (first_name range) (last_text range.first range.last) (first_in_range range is) (no_digit_behind range.first range.last) told.1 in
    let fit = numbers_fit range is in
    absurd (none_some range.last (last_answered None c.in_ok-name.name.counter range.first range.last c.in_ok-name.rest.now (ap (λ (n : Name). n.counter) name.0)
    c.in_err-last.ensures.only fit.long fit.last name.1))

pub returns-clause-only : goal.returns-clause-only
returns-clause-only c = λ range is spells.
    let told = c.in_ok-told.ensures.only range.told (name_text (first_name range) ++ last_text range.first range.last) spells in
    let name = c.in_ok-name.ensures.only (first_name range) (last_text range.first range.last) (first_in_range range is) (no_digit_behind range.first range.last) told.1 in
    let fit = numbers_fit range is in
    let last = last_answered (Some c.in_ok-last.last) c.in_ok-name.name.counter range.first range.last c.in_ok-name.rest.now (ap (λ (n : Name). n.counter) name.0)
    c.in_ok-last.ensures.only fit.long fit.last name.1 in
    ap Some (range_from_fields _ range told.0 (ap (λ (n : Name). n.author) name.0) (ap (λ (n : Name). n.counter) name.0) (some_same c.in_ok-last.last range.last last))
