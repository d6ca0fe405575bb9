use Rattle.std.proofs.Common.{◌≡◌, ℕ, List, [], ◌∷◌, Option, Some, cond, sym, ap, ◌∙◌}
use Rattle.std.specs.List.{position}
use Rattle.numbers_by_name.specs.declared.page.Entry.{Entry}
use Rattle.numbers_by_name.specs.Pages.{place_of, at_name, items_of, entry_at, entry_numbers}
use Rattle.numbers_by_name.proofs.Found.{is_there, index_none, index_some}
use Rattle.numbers_by_name.proofs.on_page.numbers_on.Goals as goal

abbrev found : List Entry → ℕ → Option ℕ
found es place = position (is_there place) es

pub returns-in_default : goal.returns-in_default
returns-in_default c =
    let absent = index_none (place_of c.args.name) c.args.page.now.entries.items (c.in_default.ensures ∙ ap (found c.deref.result.now) c.place_of.ensures ∙ ap (λ es. found es (place_of c.args.name)) c.deref.ensures.value) in
    sym (ap (λ o. entry_numbers o (items_of (at_name c.args.name c.args.lists.now.entries))) absent)

-- the entry of the name
abbrev IsEntry : List Entry → ℕ → Entry → Type 0
IsEntry es place entry = entry_at place es ≡ Some entry

pub returns-then-not-entry : goal.returns-then-not-entry
returns-then-not-entry c =
    let there = index_some (place_of c.args.name) c.in-Some.index c.args.page.now.entries.items c.index-entry.result.now
    (c.in-Some.ensures ∙ ap (found c.deref.result.now) c.place_of.ensures ∙ ap (λ es. found es (place_of c.args.name)) c.deref.ensures.value) c.index-entry.ensures in
    let list = items_of (at_name c.args.name c.args.lists.now.entries) in
    c.from_ref.ensures.value ∙ ap (λ b. cond b list (c.index-entry.result.now.number ∷ [])) (sym c.if-not-entry.true) ∙ sym (ap (λ o. entry_numbers o list) there)

pub returns-in-Some-get : goal.returns-in-Some-get
returns-in-Some-get c =
    let there = index_some (place_of c.args.name) c.in-Some.index c.args.page.now.entries.items c.index-entry.result.now
    (c.in-Some.ensures ∙ ap (found c.deref.result.now) c.place_of.ensures ∙ ap (λ es. found es (place_of c.args.name)) c.deref.ensures.value) c.index-entry.ensures in
    let list = items_of (at_name c.args.name c.args.lists.now.entries) in
    c.as_slice.ensures ∙ ap items_of c.in-Some-get.ensures.value ∙ ap (λ b. cond b list (c.index-entry.result.now.number ∷ [])) (sym c.if-not-entry.false) ∙ sym (ap (λ o. entry_numbers o list) there)

pub returns-in-None : goal.returns-in-None
returns-in-None c =
    let there = index_some (place_of c.args.name) c.in-Some.index c.args.page.now.entries.items c.index-entry.result.now
    (c.in-Some.ensures ∙ ap (found c.deref.result.now) c.place_of.ensures ∙ ap (λ es. found es (place_of c.args.name)) c.deref.ensures.value) c.index-entry.ensures in
    let list = items_of (at_name c.args.name c.args.lists.now.entries) in
    ap items_of c.in-None.ensures.value ∙ ap (λ b. cond b list (c.index-entry.result.now.number ∷ [])) (sym c.if-not-entry.false) ∙ sym (ap (λ o. entry_numbers o list) there)
