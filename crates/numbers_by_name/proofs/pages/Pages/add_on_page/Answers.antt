use Rattle.std.proofs.Common.{[], ◌∷◌, ◌++◌, length, set, true, refl, sym, ap, ◌∙◌}
use Rattle.std.specs.List.{position}
use Rattle.std.specs.Vec.{with_item}
use Rattle.std.proofs.lemmas.Option.{slice_get_read}
use Rattle.std.proofs.lemmas.Result.{on_ok_weaker}
use Rattle.numbers_by_name.specs.declared.page.Entry.{Entry}
use Rattle.numbers_by_name.specs.Pages.{place_of, entry_at, entry_numbers, items_of, at_name}
use Rattle.numbers_by_name.proofs.Found.{is_there, index_none, index_some, index_set, got_set, got_other, index_within, entry_place, entry_set_other, if_err}
use Rattle.numbers_by_name.proofs.Added.{some_is, same_name, are_pages_still, same_numbers, with_more, more_pushed, rest_pushed, others_put, more_listed, more_put}
use Rattle.numbers_by_name.proofs.pages.Pages.add_on_page.Goals as goal

-- ---- the name has no number yet

pub returns-in_err-push-clause-whole : goal.returns-in_err-push-clause-whole
returns-in_err-push-clause-whole c =
    are_pages_still c.args.self.now.list.items (set c.args.self.now.list.items c.args.at (record { name = c.index_mut-page.result.now.name; entries = c.push.new.self })) c.args.self.now.places.entries c.args.self.now.lists.entries c.args.self.now.lists.entries c.requires.whole c.args.name c.args.number c.args.at c.index_mut-page.result.now (record { name = c.index_mut-page.result.now.name; entries = c.push.new.self }) c.requires.place
    (slice_get_read c.args.self.now.list.items (length c.args.self.now.list.items) c.args.at c.index_mut-page.result.now refl c.requires.bound c.index_mut-page.ensures.value) (got_set c.args.self.now.list.items c.args.at (record { name = c.index_mut-page.result.now.name; entries = c.push.new.self }) c.requires.bound)
    (λ i ne. got_other c.args.self.now.list.items c.args.at i (record { name = c.index_mut-page.result.now.name; entries = c.push.new.self }) ne) refl

pub returns-in_err-push-clause-unchanged : goal.returns-in_err-push-clause-unchanged
returns-in_err-push-clause-unchanged c =
    if_err c.from_residual.result (record {
      places = refl;
      numbers = same_numbers c.args.self.now.list.items (set c.args.self.now.list.items c.args.at (record { name = c.index_mut-page.result.now.name; entries = c.push.new.self })) c.args.self.now.places.entries c.args.self.now.lists.entries c.args.self.now.lists.entries c.requires.whole c.args.name c.args.number c.args.at c.index_mut-page.result.now (record { name = c.index_mut-page.result.now.name; entries = c.push.new.self }) c.requires.place
          (slice_get_read c.args.self.now.list.items (length c.args.self.now.list.items) c.args.at c.index_mut-page.result.now refl c.requires.bound c.index_mut-page.ensures.value) (got_set c.args.self.now.list.items c.args.at (record { name = c.index_mut-page.result.now.name; entries = c.push.new.self }) c.requires.bound)
          (λ i ne. got_other c.args.self.now.list.items c.args.at i (record { name = c.index_mut-page.result.now.name; entries = c.push.new.self }) ne) c.in_err-push.ensures.items;
    })

pub returns-in_default-clause-whole : goal.returns-in_default-clause-whole
returns-in_default-clause-whole c =
    are_pages_still c.args.self.now.list.items (set c.args.self.now.list.items c.args.at (record { name = c.index_mut-page.result.now.name; entries = c.push.new.self })) c.args.self.now.places.entries c.args.self.now.lists.entries c.args.self.now.lists.entries c.requires.whole c.args.name c.args.number c.args.at c.index_mut-page.result.now (record { name = c.index_mut-page.result.now.name; entries = c.push.new.self }) c.requires.place
    (slice_get_read c.args.self.now.list.items (length c.args.self.now.list.items) c.args.at c.index_mut-page.result.now refl c.requires.bound c.index_mut-page.ensures.value) (got_set c.args.self.now.list.items c.args.at (record { name = c.index_mut-page.result.now.name; entries = c.push.new.self }) c.requires.bound)
    (λ i ne. got_other c.args.self.now.list.items c.args.at i (record { name = c.index_mut-page.result.now.name; entries = c.push.new.self }) ne) refl

pub returns-in_default-clause-added : goal.returns-in_default-clause-added
returns-in_default-clause-added c =
    let absent = index_none (place_of c.args.name) c.index_mut-page.result.now.entries.items (c.in_default.ensures ∙ ap (λ p. position (is_there p) c.deref.result.now) c.place_of-place.ensures ∙ ap (λ es. position (is_there (place_of c.args.name)) es) c.deref.ensures.value) in
    with_more c.args.self.now.list.items (set c.args.self.now.list.items c.args.at (record { name = c.index_mut-page.result.now.name; entries = c.push.new.self })) c.args.self.now.places.entries c.args.self.now.lists.entries c.args.self.now.lists.entries c.requires.whole c.args.name c.args.number c.args.at c.index_mut-page.result.now (record { name = c.index_mut-page.result.now.name; entries = c.push.new.self }) c.requires.place
    (slice_get_read c.args.self.now.list.items (length c.args.self.now.list.items) c.args.at c.index_mut-page.result.now refl c.requires.bound c.index_mut-page.ensures.value) (got_set c.args.self.now.list.items c.args.at (record { name = c.index_mut-page.result.now.name; entries = c.push.new.self }) c.requires.bound)
    (λ i ne. got_other c.args.self.now.list.items c.args.at i (record { name = c.index_mut-page.result.now.name; entries = c.push.new.self }) ne)
    (more_pushed c.index_mut-page.result.now (record { name = c.index_mut-page.result.now.name; entries = c.push.new.self }) c.args.self.now.lists.entries c.args.name c.args.number c.place_of-place.result c.in_ok-push.ensures.items c.place_of-place.ensures absent)
    (rest_pushed c.index_mut-page.result.now (record { name = c.index_mut-page.result.now.name; entries = c.push.new.self }) c.args.self.now.lists.entries c.args.name c.args.number c.place_of-place.result c.in_ok-push.ensures.items c.place_of-place.ensures)
    (λ n other. refl)

-- ---- it has several

pub returns-then-index-clause-added : goal.returns-then-index-clause-added
returns-then-index-clause-added c =
    let there = index_some (place_of c.args.name) c.in-Some.index c.index_mut-page.result.now.entries.items c.index.result.now (c.in-Some.ensures ∙ ap (λ p. position (is_there p) c.deref.result.now) c.place_of-place.ensures ∙ ap (λ es. position (is_there (place_of c.args.name)) es) c.deref.ensures.value) c.index.ensures in
    on_ok_weaker c.add_to_list.result
    (λ put.
    with_more c.args.self.now.list.items (set c.args.self.now.list.items c.args.at (c.index_mut-page.result.now)) c.args.self.now.places.entries c.args.self.now.lists.entries c.add_to_list.new.lists.entries c.requires.whole c.args.name c.args.number c.args.at c.index_mut-page.result.now (c.index_mut-page.result.now) c.requires.place
    (slice_get_read c.args.self.now.list.items (length c.args.self.now.list.items) c.args.at c.index_mut-page.result.now refl c.requires.bound c.index_mut-page.ensures.value) (got_set c.args.self.now.list.items c.args.at (c.index_mut-page.result.now) c.requires.bound)
    (λ i ne. got_other c.args.self.now.list.items c.args.at i (c.index_mut-page.result.now) ne)
    (more_listed c.index_mut-page.result.now c.args.self.now.lists.entries c.add_to_list.new.lists.entries c.args.name c.args.number c.index.result.now there c.if-index.true put)
    (λ n other same. ap (λ o. entry_numbers (entry_at (place_of n) c.index_mut-page.result.now.entries.items) (items_of o)) (others_put c.args.name (items_of (at_name c.args.name c.args.self.now.lists.entries) ++ c.args.number ∷ []) c.args.self.now.lists.entries c.add_to_list.new.lists.entries put n other))
    (others_put c.args.name (items_of (at_name c.args.name c.args.self.now.lists.entries) ++ c.args.number ∷ []) c.args.self.now.lists.entries c.add_to_list.new.lists.entries put))
    c.add_to_list.ensures.put

-- ---- it has one

pub returns-clause-whole : goal.returns-clause-whole
returns-clause-whole c =
    are_pages_still c.args.self.now.list.items (set c.args.self.now.list.items c.args.at (record { name = c.index_mut-page.result.now.name; entries = with_item c.index_mut-page.result.now.entries c.in-Some.index (record { place = c.index_mut.result.now.place; several = true; number = c.index_mut.result.now.number }) })) c.args.self.now.places.entries c.args.self.now.lists.entries c.args.self.now.lists.entries c.requires.whole c.args.name c.args.number c.args.at c.index_mut-page.result.now (record { name = c.index_mut-page.result.now.name; entries = with_item c.index_mut-page.result.now.entries c.in-Some.index (record { place = c.index_mut.result.now.place; several = true; number = c.index_mut.result.now.number }) }) c.requires.place
    (slice_get_read c.args.self.now.list.items (length c.args.self.now.list.items) c.args.at c.index_mut-page.result.now refl c.requires.bound c.index_mut-page.ensures.value) (got_set c.args.self.now.list.items c.args.at (record { name = c.index_mut-page.result.now.name; entries = with_item c.index_mut-page.result.now.entries c.in-Some.index (record { place = c.index_mut.result.now.place; several = true; number = c.index_mut.result.now.number }) }) c.requires.bound)
    (λ i ne. got_other c.args.self.now.list.items c.args.at i (record { name = c.index_mut-page.result.now.name; entries = with_item c.index_mut-page.result.now.entries c.in-Some.index (record { place = c.index_mut.result.now.place; several = true; number = c.index_mut.result.now.number }) }) ne) refl

pub returns-clause-added : goal.returns-clause-added
returns-clause-added c =
    let es = c.index_mut-page.result.now.entries.items in
    let place = place_of c.args.name in
    let index = c.in-Some.index in
    let lists = c.args.self.now.lists.entries in
    let kept = c.put_two.new.lists.entries in
    let found = c.in-Some.ensures ∙ ap (λ p. position (is_there p) c.deref.result.now) c.place_of-place.ensures ∙ ap (λ es. position (is_there place) es) c.deref.ensures.value in
    let was = index_some place index es c.index.result.now found c.index.ensures in
    let there = index_some place index es c.index-2.result.now found c.index-2.ensures in
    let written = index_some place index es c.index_mut.result.now found c.index_mut.ensures.value in
    let entry : Entry = (record { place = c.index_mut.result.now.place; several = true; number = c.index_mut.result.now.number }) in
    let single = ap (λ (e : Entry). e.several) (some_is c.index-2.result.now c.index.result.now (sym there ∙ was)) ∙ c.if-index.false in
    let at_place = entry_place place es c.index_mut.result.now written in
    let numbers = c.index-2.result.now.number ∷ c.args.number ∷ [] in
    with_more c.args.self.now.list.items (set c.args.self.now.list.items c.args.at (record { name = c.index_mut-page.result.now.name; entries = with_item c.index_mut-page.result.now.entries c.in-Some.index (record { place = c.index_mut.result.now.place; several = true; number = c.index_mut.result.now.number }) })) c.args.self.now.places.entries c.args.self.now.lists.entries c.put_two.new.lists.entries c.requires.whole c.args.name c.args.number c.args.at c.index_mut-page.result.now (record { name = c.index_mut-page.result.now.name; entries = with_item c.index_mut-page.result.now.entries c.in-Some.index (record { place = c.index_mut.result.now.place; several = true; number = c.index_mut.result.now.number }) }) c.requires.place
    (slice_get_read c.args.self.now.list.items (length c.args.self.now.list.items) c.args.at c.index_mut-page.result.now refl c.requires.bound c.index_mut-page.ensures.value) (got_set c.args.self.now.list.items c.args.at (record { name = c.index_mut-page.result.now.name; entries = with_item c.index_mut-page.result.now.entries c.in-Some.index (record { place = c.index_mut.result.now.place; several = true; number = c.index_mut.result.now.number }) }) c.requires.bound)
    (λ i ne. got_other c.args.self.now.list.items c.args.at i (record { name = c.index_mut-page.result.now.name; entries = with_item c.index_mut-page.result.now.entries c.in-Some.index (record { place = c.index_mut.result.now.place; several = true; number = c.index_mut.result.now.number }) }) ne)
    (more_put c.index_mut-page.result.now (record { name = c.index_mut-page.result.now.name; entries = with_item c.index_mut-page.result.now.entries c.in-Some.index (record { place = c.index_mut.result.now.place; several = true; number = c.index_mut.result.now.number }) }) lists kept c.args.name c.args.number c.index-2.result.now entry there single (index_set place index es entry found at_place) refl c.in_ok-put_two.ensures.put)
    (λ n other same.
    ap (λ o. entry_numbers o (items_of (at_name n kept)))
    (entry_set_other (place_of n) index es entry c.index_mut.result.now (slice_get_read es (length es) index c.index_mut.result.now refl (index_within place index es found) c.index_mut.ensures.value) refl
    (λ eq. other (same_name c.args.name n (sym same) (sym at_place ∙ eq))))
    ∙ ap (λ o. entry_numbers (entry_at (place_of n) es) (items_of o)) (others_put c.args.name numbers lists kept c.in_ok-put_two.ensures.put n other))
    (others_put c.args.name numbers lists kept c.in_ok-put_two.ensures.put)
