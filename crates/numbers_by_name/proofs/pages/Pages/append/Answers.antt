use Rattle.std.proofs.Common.{[], ◌++◌, length, arith, refl, sym, ap, ◌∙◌}
use Rattle.std.proofs.lemmas.List.{append-nil}
use Rattle.std.proofs.lemmas.Option.{slice_get_read}
use Rattle.std.proofs.lemmas.Result.{on_ok_weaker}
use Rattle.grove_names.specs.declared.name.Name.{Name}
use Rattle.numbers_by_name.specs.ByName.{all_numbers}
use Rattle.numbers_by_name.specs.Pages.{page_there, shown, at_name, page_numbers, numbers_in, names_on}
use Rattle.numbers_by_name.proofs.Added.{name_there}
use Rattle.numbers_by_name.proofs.Listed.{all_agree, all_of_none}
use Rattle.numbers_by_name.proofs.pages.Pages.append.Goals as goal

pub returns-in-Some : goal.returns-in-Some
returns-in-Some c =
    let list = c.args.self.now.list.items in
    let lists = c.args.self.now.lists.entries in
    let there = slice_get_read list (length list) c.in-Some.at c.index.result.now refl c.in-Some.ensures.bound c.index.ensures in
    let named = name_there list c.args.self.now.places.entries c.requires c.args.page c.in-Some.at c.index.result.now (sym c.in-Some.ensures.place) there in
    on_ok_weaker c.append_page.result
    (λ all.
    all ∙ ap (λ (page : Name). c.args.numbers.now.items ++ all_numbers (names_on (page_numbers c.index.result.now lists) page 64)) named
    ∙ ap (λ ns. c.args.numbers.now.items ++ ns)
    (all_agree (page_numbers c.index.result.now lists) (numbers_in c.args.self.now) c.args.page 64 (omega arith)
    (λ n on.
    sym (ap (λ (page : Name). shown (page_there list (at_name page c.args.self.now.places.entries)) lists n) on ∙ ap (λ o. shown (page_there list o) lists n) (sym c.in-Some.ensures.place)
    ∙ ap (λ o. shown o lists n) there))))
    c.append_page.ensures

pub returns-in-None : goal.returns-in-None
returns-in-None c =
    let list = c.args.self.now.list.items in
    let lists = c.args.self.now.lists.entries in
    sym (append-nil c.args.numbers.now.items)
    ∙ ap (λ ns. c.args.numbers.now.items ++ ns)
    (sym (all_agree (numbers_in c.args.self.now) (λ n. []) c.args.page 64 (omega arith)
    (λ n on.
    ap (λ (page : Name). shown (page_there list (at_name page c.args.self.now.places.entries)) lists n) on ∙ ap (λ o. shown (page_there list o) lists n) (sym c.in-None.ensures.place))
    ∙ all_of_none c.args.page 64))
