use Rattle.std.proofs.Common.{refl, subst, ℕ, List, length, ◌≤◌, ◌≡◌}
use Rattle.grove_calls.specs.declared.ending.Ending.TheVariants.{Done, Malformed, Unfit}
use Rattle.grove_calls.specs.Due.{malformed_text, unfit_text}
use Rattle.grove_calls.proofs.serving.answer.Goals as goal

pub returns-in-Ok-clause-no_fault : goal.returns-in-Ok-clause-no_fault
returns-in-Ok-clause-no_fault g c = λ room sure enough.
    let formed = c.in-Ok.field-0 in
    let same : formed.text.items ≡ c.deref.result.now = cc c.deref.ensures.value in
    c.write.ensures.no_fault room sure (subst (λ (text : List ℕ). length text ≤ room) same (enough formed.text.items formed.handed Done (c.requires.short, c.in-Ok.ensures.answered)))

pub returns-in-Err-Malformed-clause-no_fault : goal.returns-in-Err-Malformed-clause-no_fault
returns-in-Err-Malformed-clause-no_fault g c = λ room sure enough.
    c.tell_fault.ensures.no_fault room sure
    (enough (malformed_text c.in-Err-Malformed.line c.in-Err-Malformed.fault) c.nothing.result (Malformed c.in-Err-Malformed.line c.in-Err-Malformed.fault)
    (c.nothing.ensures, c.requires.short, rw c.in-Err-Malformed.field-0-is at c.in-Err-Malformed.ensures.refused, refl))

pub returns-in-Err-Unfit-clause-no_fault : goal.returns-in-Err-Unfit-clause-no_fault
returns-in-Err-Unfit-clause-no_fault g c = λ room sure enough.
    c.write-in-Err-Unfit.ensures.no_fault room sure
    (enough unfit_text c.nothing-in-Err-Unfit.result Unfit (c.nothing-in-Err-Unfit.ensures, c.requires.short, rw c.in-Err-Unfit.field-0-is at c.in-Err-Unfit.ensures.refused, refl))
