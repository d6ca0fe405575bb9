use Rattle.std.proofs.Common.{◌≡◌, ℕ, List, [], ◌∷◌, ◌++◌, length, Some, cond, sym, ap, subst, ◌∙◌, ◌<◌, ◌^◌}
use Rattle.grove_names.specs.declared.name.Name.{Name}
use Rattle.numbers_by_name.specs.declared.page.Page.{Page}
use Rattle.numbers_by_name.specs.ByName.{is_same_name}
use Rattle.numbers_by_name.specs.Pages.{page_of, at_name, numbers_by, ArePages}
use Rattle.numbers_by_name.proofs.Added.{are_pages_pushed, with_page}
use Rattle.numbers_by_name.proofs.pages.Pages.add_page.Goals as goal

module _ (c : goal.After-note_last) where
  abbrev list : List Page
  list = c.args.self.now.list.items

  pushed : c.push_reserved.new.self.items ≡ list ++ c.in_ok-page.page ∷ []
  pushed = c.push_reserved.ensures.items ∙ ap (λ ps. ps ++ c.in_ok-page.page ∷ []) c.in_ok-make_room.ensures.same

  put : (n : Name) → at_name n c.insert.new.self.entries ≡ cond (is_same_name (page_of c.args.name) n) (Some (length list)) (at_name n c.args.self.now.places.entries)
  put n =
      c.in_ok-insert.ensures.updates.0 n
      ∙ ap (λ (page : Name). cond (is_same_name page n) (Some c.in_ok-at.at) (at_name n c.args.self.now.places.entries)) c.page_of.ensures.page
      ∙ ap (λ (at : ℕ). cond (is_same_name (page_of c.args.name) n) (Some at) (at_name n c.args.self.now.places.entries)) (c.in_ok-at.ensures ∙ ap length c.deref.ensures.value)

pub returns-clause-whole : goal.returns-clause-whole
returns-clause-whole c =
    subst (λ (pages : List Page). ArePages pages c.insert.new.self.entries) (sym (pushed c))
    (are_pages_pushed (list c) c.args.self.now.places.entries c.insert.new.self.entries c.args.self.now.lists.entries c.requires.whole c.args.name c.args.number c.in_ok-page.page c.in_ok-page.ensures c.requires.absent (put c)
    (subst (λ (page : Name). page.counter < 2 ^ 58) c.page_of.ensures.page c.page_of.ensures.fits))

pub returns-clause-added : goal.returns-clause-added
returns-clause-added c n =
    ap (λ (pages : List Page). numbers_by pages c.insert.new.self.entries c.args.self.now.lists.entries n) (pushed c)
    ∙ with_page (list c) c.args.self.now.places.entries c.insert.new.self.entries c.args.self.now.lists.entries c.requires.whole c.args.name c.args.number c.in_ok-page.page c.in_ok-page.ensures c.requires.absent (put c) n
