use Rattle.std.proofs.Common.{◌≡◌, ◌+◌, List, [], ◌∷◌, ◌++◌, take, sym, ap, ◌∙◌, subst, rules}
use Rattle.std.proofs.lemmas.List.{take_more}
use Rattle.grove_edits.specs.declared.edit.Edit.{Edit}
use Rattle.edit_runs.specs.declared.stretch.Stretch.{Stretch}
use Rattle.edit_runs.specs.Runs.{AreCut}
use Rattle.edit_runs.proofs.Runs.{cut_more}
use Rattle.edit_runs.proofs.relaying.cut_all.Goals as goal

pub loop-list-preserved : goal.loop-list-preserved
loop-list-preserved c =
    let before = c.loop-list.invariant in
    let lists = c.args.lists.now in
    let i = c.loop-list.list-index in
    let list = c.list-item.result in
    let is : take (i + 1) lists ≡ take i lists ++ list ∷ [] = take_more lists i list c.loop-list-test.true ∙ ap (λ (l : List Edit). take i lists ++ l ∷ []) (sym c.list-item.is) in
    record {
      cut = subst (λ (ls : List (List Edit)). AreCut ls c.push_reserved.new.self.items) (sym is)
          (subst (λ (cs : List (List Stretch)). AreCut (take i lists ++ list ∷ []) cs) (sym c.push_reserved.ensures.items) (cut_more (take i lists) c.loop-list.cuts.items list c.in_ok-cut.field-0 before.cut c.in_ok-cut.ensures));
      many = search rules;
      room = search rules;
    }
