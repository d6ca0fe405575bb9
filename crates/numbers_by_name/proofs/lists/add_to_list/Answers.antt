use Rattle.std.proofs.Common.{◌≡◌, ℕ, ◌++◌, ◌∷◌, [], Some, sym, ap, subst, ◌∙◌, cond}
use Rattle.std.specs.BTreeMap.{BTreeMap, is_at}
use Rattle.std.proofs.lemmas.Map.Steps.{set_value_same}
use Rattle.smallvec.specs.SmallVec.{SmallVec}
use Rattle.grove_names.specs.declared.name.Name.{Name}
use Rattle.grove_names.specs.Name.{name_cmp}
use Rattle.numbers_by_name.specs.ByName.{is_same_name}
use Rattle.numbers_by_name.specs.Pages.{at_name, items_of}
use Rattle.numbers_by_name.proofs.Found.{if_err}
use Rattle.numbers_by_name.proofs.lists.add_to_list.Goals as goal

pub returns-in_err-push-in-Some-clause-unchanged : goal.returns-in_err-push-in-Some-clause-unchanged
returns-in_err-push-in-Some-clause-unchanged c =
    if_err c.from_residual.result
    ((c.get_mut.follows.holds c.push.new.self).0
    ∙ set_value_same (is_at (name_cmp c.args.name)) c.args.lists.now.entries c.push.new.self (sym c.in-Some.ensures.value ∙ ap Some (sym c.in_err-push-in-Some.ensures.err)))

pub returns-in_ok-insert-in-None-clause-put : goal.returns-in_ok-insert-in-None-clause-put
returns-in_ok-insert-in-None-clause-put c = record {
  list = c.push_reserved.new.self;
  items =
      c.push_reserved.ensures.items ∙ ap (λ xs. xs ++ c.args.number ∷ []) c.new-list.ensures.items
      ∙ ap (λ o. items_of o ++ c.args.number ∷ []) c.in-None.ensures.value;
  put =
      subst (λ (map : BTreeMap Name (SmallVec ℕ)). (q : Name) → at_name q c.insert.new.self.entries ≡ cond (is_same_name c.args.name q) (Some c.push_reserved.new.self) (at_name q map.entries))
      c.get_mut.follows.holds-at-none c.in_ok-insert-in-None.ensures.updates.0;
}
