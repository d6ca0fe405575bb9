use Rattle.std.proofs.Common.{◌≡◌, ℕ, ◌-◌, List, ◌∷◌, [], ◌++◌, length, take, sym, ap, ◌∙◌, arith}
use Rattle.std.specs.Prelude.{slice_get}
use Rattle.type_infer.specs.declared.scope.Bound.{Bound}
use Rattle.type_infer.specs.Walking.{without_first}
use Rattle.type_infer.proofs.StepLemmas.{last_behind}
use Rattle.type_infer.proofs.ScopeLemmas.{left_scope, left_names}
use Rattle.type_infer.proofs.scope.Scope.leave.Goals as goal
use Rattle.type_infer.proofs.scope.Scope.leave.Goals.{After-pop}

popped : (c : After-pop) → c.self.inside.bound.items ≡ c.pop.new.self.items ++ c.in-Some.last ∷ []
popped c =
    let bound = c.self.inside.bound.items in
    let here = ap (λ (bs : List Bound). slice_get bs (length bs - 1)) (sym c.deref.ensures.value) ∙ sym c.last.ensures.value ∙ sym c.copied.ensures ∙ c.in-Some.is in
    let w = c.self.inside.bound.ok in
    let fewer : c.pop.new.self.items ≡ take (length bound - 1) bound = c.pop.ensures.rest ∙ ap (λ (n : ℕ). take (n - 1) bound) (omega arith) in
    last_behind bound c.in-Some.last here ∙ ap (λ (bs : List Bound). bs ++ c.in-Some.last ∷ []) (sym fewer)

pub invariant_of-self-in-Some : goal.invariant_of-self-in-Some
invariant_of-self-in-Some c =
    left_scope c.self.inside.bound.items c.self.inside.variables.entries c.insert.new.self.entries c.self.invariant c.pop.new.self.items c.in-Some.last (popped c) c.in_ok-insert.ensures.updates.0

pub returns-in_ok-insert : goal.returns-in_ok-insert
returns-in_ok-insert c = left_names c.self.inside.bound.items c.self.inside.variables.entries c.insert.new.self.entries c.self.invariant c.pop.new.self.items c.in-Some.last (popped c) ∙ ap without_first c.self.view_is
