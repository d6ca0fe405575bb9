use Rattle.std.proofs.Common.{◌≡◌, inl, inr, ◌++◌, ◌∷◌, [], true, false, sym, ap, subst, ◌∙◌}
use Rattle.type_core.specs.declared.consistency.Task.TheVariants.{Ask}
use Rattle.type_core.specs.Pairings.{is_consistent_pairing, AreTasks}
use Rattle.type_core.proofs.SettleLemmas.{IsSettling, keep_fits, asked_within, IsSettling-kept, IsSettling-known, IsSettling-parts, outcome-false, tasks_size-pop}
use Rattle.type_core.proofs.table.TypeTable.settle.Goals as goal
use Rattle.type_core.proofs.table.TypeTable.settle.Goals.{then-is_landmark+in_ok-push-in-Parts, else-is_landmark}

pub keep-requires-clause-within : goal.keep-requires-clause-within
keep-requires-clause-within c = (keep_fits _ _ _ _ _ c.in-Some.ensures.items c.loop-task.invariant.settling _ c.in-Keep.is).0

pub keep-requires-clause-relation : goal.keep-requires-clause-relation
keep-requires-clause-relation c = (keep_fits _ _ _ _ _ c.in-Some.ensures.items c.loop-task.invariant.settling _ c.in-Keep.is).1

pub loop-task-preserved-in-Continue-branch-3 : goal.loop-task-preserved-in-Continue-branch-3
loop-task-preserved-in-Continue-branch-3 c =
    let unchanged = c.in_ok-keep-in-Keep.ensures.unchanged in
    record {
      same = unchanged ∙ c.loop-task.invariant.same;
      settling = subst (λ table. IsSettling table c.args.pairing c.pop.new.self.items true) (sym unchanged)
          (IsSettling-kept _ _ _ _ _ c.in-Some.ensures.items c.loop-task.invariant.settling _ c.in-Keep.is);
    }

pub verdict-requires : goal.verdict-requires
verdict-requires c = asked_within _ _ _ _ _ c.in-Some.ensures.items c.loop-task.invariant.settling _ c.in-Ask.is

pub loop-task-smaller-in-Known-true : goal.loop-task-smaller-in-Known-true
loop-task-smaller-in-Known-true c = tasks_size-pop _ _ _ _ c.in-Some.ensures.items

pub loop-task-preserved-in-Known-true : goal.loop-task-preserved-in-Known-true
loop-task-preserved-in-Known-true c = record {
  same = c.loop-task.invariant.same;
  settling = IsSettling-known _ _ _ _ _ c.in-Some.ensures.items c.loop-task.invariant.settling _ c.in-Ask.is true (sym c.in-Known-true.field-0-test ∙ c.in-Known-true.ensures);
}

pub keep_apart-requires : goal.keep_apart-requires
keep_apart-requires c =
    subst (λ tasks. AreTasks c.loop-task.self tasks false) (sym c.as_slice.ensures.value)
    (IsSettling-known _ _ _ _ _ c.in-Some.ensures.items c.loop-task.invariant.settling _ c.in-Ask.is false (sym c.in-Known-false.field-0-test ∙ c.in-Known-false.ensures)).each

pub returns-in-Known-false-clause-consistent : goal.returns-in-Known-false-clause-consistent
returns-in-Known-false-clause-consistent c =
    let settling = IsSettling-known _ _ _ _ _ c.in-Some.ensures.items c.loop-task.invariant.settling _ c.in-Ask.is false (sym c.in-Known-false.field-0-test ∙ c.in-Known-false.ensures) in
    sym (subst (λ table. is_consistent_pairing table c.args.pairing ≡ false) c.loop-task.invariant.same (settling.root_found ∙ outcome-false c.loop-task.self c.pop.new.self.items))

pub loop-task-preserved : goal.loop-task-preserved
loop-task-preserved c = record {
  same = c.loop-task.invariant.same;
  settling = subst (λ tasks. IsSettling c.loop-task.self c.args.pairing tasks true)
      (sym (c.in_ok-push-in-Parts-3.ensures.items ∙ ap (λ ts. ts ++ Ask c.in-Parts.first ∷ []) c.in_ok-push-in-Parts-2.ensures.items))
      (IsSettling-parts _ _ _ _ _ c.in-Some.ensures.items c.loop-task.invariant.settling _ c.in-Ask.is _ _ c.in-Parts.ensures _ (
      elim c.if-is_landmark.branch [ then-is_landmark+in_ok-push-in-Parts w ↦ inr (ap (λ v. v.items) w.tasks-is ∙ w.in_ok-push-in-Parts.ensures.items) | else-is_landmark w ↦ inl (ap (λ v. v.items) w.tasks-is) ]));
}
