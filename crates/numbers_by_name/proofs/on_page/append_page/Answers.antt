use Rattle.std.proofs.Common.{◌≡◌, suc, ◌+◌, ◌*◌, ◌++◌, None, get_or, sym, ap, ◌∙◌, arith}
use Rattle.std.proofs.lemmas.List.{append_assoc}
use Rattle.numbers_by_name.specs.ByName.{all_numbers, name_by}
use Rattle.numbers_by_name.specs.Pages.{page_numbers, entry_at, entry_numbers, items_of, at_name, names_on}
use Rattle.numbers_by_name.proofs.Listed.{at_same_place}
use Rattle.numbers_by_name.proofs.on_page.append_page.Goals as goal

pub loop-place-preserved : goal.loop-place-preserved
loop-place-preserved c =
    let numbers = page_numbers c.args.page.now c.args.lists.now.entries in
    let page = c.args.page.now.name in
    let place = c.loop-place.place in
    let before = c.args.numbers.now.items in
    let name = name_by page.author (64 * page.counter + place) in
    let list = items_of (at_name name c.args.lists.now.entries) in
    let entry =
    c.by_place-places.ensures place c.loop-place-test.true ∙ ap (entry_at place) c.deref.ensures.value
    ∙ ap (λ p. entry_at p c.args.page.now.entries.items) (sym (at_same_place page.counter place c.loop-place-test.true)) in
    let next : suc place ≡ place + 1 = omega arith in
    c.in_ok-append_entry.ensures ∙ ap (λ ns. ns ++ entry_numbers (get_or c.by_place-places.result place None) list) c.loop-place.invariant
    ∙ ap (λ o. (before ++ all_numbers (names_on numbers page place)) ++ entry_numbers o list) entry
    ∙ append_assoc before (all_numbers (names_on numbers page place)) (numbers name)
    ∙ ap (λ k. before ++ all_numbers (names_on numbers page k)) next

pub returns : goal.returns
returns c =
    let end : c.loop-place.place ≡ 64 = omega (arith, c.loop-place-test.false, c.loop-place.auto.place-end) in
    c.loop-place.invariant ∙ ap (λ k. c.args.numbers.now.items ++ all_numbers (names_on (page_numbers c.args.page.now c.args.lists.now.entries) c.args.page.now.name k)) end
