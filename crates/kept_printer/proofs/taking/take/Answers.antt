use Rattle.std.proofs.Common.{◌≡◌, ◌++◌, List, [], map, ap, subst, sym, ◌∙◌}
use Rattle.std.specs.Prelude.{IfSome, option_to_list, None}
use Rattle.std.proofs.lemmas.List.Elements.{All-pop}
use Rattle.type_core.specs.Typ.{Typ}
use Rattle.mark_step.specs.Node.{wanted_at, IsModeOf}
use Rattle.grove_terms.specs.Lent.{node_of}
use Rattle.marking.specs.Added.{with_added}
use Rattle.marking.specs.Reading.{meant}
use Rattle.mark_incremental.specs.Standing.{records_in}
use Rattle.kept_printer.specs.Above.{wanted_below, up_to, node_told_as}
use Rattle.kept_printer.specs.Parents.{parent_at, parents_at, IsParentOf, AreParentsOf}
use Rattle.kept_printer.proofs.Stack.{one_more, wanted_of_last, none_left, all_more, above_then}
use Rattle.kept_printer.proofs.taking.take.Goals as goal

pub mode_below-mode-requires : goal.mode_below-mode-requires
mode_below-mode-requires c =
    subst (λ (types : List Typ). IfSome c.pop-parent.result (IsParentOf types)) (sym c.types.ensures)
    (All-pop (IsParentOf c.args.marks.now.types) c.close_to.new.parents.items c.pop-parent.new.self.items c.pop-parent.result c.pop-parent.ensures.items (c.close_to.ensures.numbers c.args.marks.now.types c.requires.parents)).1

pub added_to-added-requires-clause-mode : goal.added_to-added-requires-clause-mode
added_to-added-requires-clause-mode c = subst (λ (types : List Typ). IsModeOf types c.mode_below-mode.result) c.types.ensures c.mode_below-mode.ensures.number

pub returns-clause-told : goal.returns-clause-told
returns-clause-told c =
    let types = c.args.marks.now.types in
    let old = c.args.parents.now.items in
    let ps = c.pop-parent.new.self.items in
    let p = c.pop-parent.result in
    let n = node_of c.args.node.now in
    let empty : p ≡ None → ps ≡ [] = none_left p ps c.close_to.new.parents.items _ _ _ c.pop-parent.ensures.cases c.pop-parent.ensures.rest in
    let left : up_to n.depth (parents_at types old) ≡ map (parent_at types) (option_to_list p) ++ parents_at types ps =
    sym (ap (λ d. up_to d (parents_at types old)) c.depth.ensures) ∙ sym (c.close_to.ensures.left types) ∙ ap (parents_at types) c.pop-parent.ensures.items ∙ one_more types ps p in
    let wanted : wanted_at types c.mode_below-mode.result ≡ wanted_below (map (parent_at types) (option_to_list p)) =
    subst (λ (ts : List Typ). wanted_at ts c.mode_below-mode.result ≡ wanted_below (map (parent_at ts) (option_to_list p))) c.types.ensures c.mode_below-mode.ensures.wanted in
    c.added_to-added.ensures.told
    ∙ ap (λ w. node_told_as (records_in c.args.marks.now) w n n.what) (wanted ∙ sym (wanted_of_last types ps p empty) ∙ ap wanted_below (sym left))

pub returns-clause-above : goal.returns-clause-above
returns-clause-above c =
    let types = c.args.marks.now.types in
    let old = c.args.parents.now.items in
    let ps = c.pop-parent.new.self.items in
    let p = c.pop-parent.result in
    let n = node_of c.args.node.now in
    let empty : p ≡ None → ps ≡ [] = none_left p ps c.close_to.new.parents.items _ _ _ c.pop-parent.ensures.cases c.pop-parent.ensures.rest in
    let left : up_to n.depth (parents_at types old) ≡ map (parent_at types) (option_to_list p) ++ parents_at types ps =
    sym (ap (λ d. up_to d (parents_at types old)) c.depth.ensures) ∙ sym (c.close_to.ensures.left types) ∙ ap (parents_at types) c.pop-parent.ensures.items ∙ one_more types ps p in
    above_then types (meant types (with_added c.args.node.now c.added_to-added.result)) (up_to n.depth (parents_at types old)) ps p c.counted.result c.opened.result empty left
    (c.counted.ensures.counted types c.args.node.now) (c.opened.ensures.opened types) c.push_if.new.parents.items c.push_if-2.new.parents.items c.in_ok-push_if.ensures c.in_ok-push_if-2.ensures

pub returns-clause-parents : goal.returns-clause-parents
returns-clause-parents c =
    let types = c.args.marks.now.types in
    let popped = All-pop (IsParentOf types) c.close_to.new.parents.items c.pop-parent.new.self.items c.pop-parent.result c.pop-parent.ensures.items (c.close_to.ensures.numbers types c.requires.parents) in
    let once : AreParentsOf types c.push_if.new.parents.items =
    subst (AreParentsOf types) (sym c.in_ok-push_if.ensures)
    (all_more types c.pop-parent.new.self.items c.counted.result popped.0 (c.counted.ensures.numbers types popped.1 c.added_to-added.ensures.numbers)) in
    subst (AreParentsOf types) (sym c.in_ok-push_if-2.ensures) (all_more types c.push_if.new.parents.items c.opened.result once (c.opened.ensures.numbers types c.added_to-added.ensures.numbers))
