use Rattle.std.proofs.Common.{List, ◌∷◌, [], ◌++◌, sym, ap, ◌∙◌}
use Rattle.std.specs.Option.{option_flatten}
use Rattle.type_infer.specs.declared.scope.Bound.{Bound}
use Rattle.type_infer.specs.TreeEquations.{Names}
use Rattle.type_infer.specs.Scopes.{names_of}
use Rattle.type_infer.proofs.ScopeLemmas.{bound_scope, names_of-push}
use Rattle.type_infer.proofs.scope.Scope.bind.Goals as goal

pub invariant_of-self-2 : goal.invariant_of-self-2
invariant_of-self-2 c =
    let b : Bound = record { name = c.args.name; variable = c.args.variable; hidden = c.flatten-hidden.result } in
    bound_scope c.self.inside.bound.items c.self.inside.variables.entries c.insert.new.self.entries c.self.invariant b c.push_reserved.new.self.items
    (c.push_reserved.ensures.items ∙ ap (λ (bs : List Bound). bs ++ b ∷ []) c.reserve.ensures.items)
    (c.flatten-hidden.ensures ∙ ap option_flatten c.in_ok-insert.ensures.old) c.in_ok-insert.ensures.updates.0

pub returns : goal.returns
returns c =
    let b : Bound = record { name = c.args.name; variable = c.args.variable; hidden = c.flatten-hidden.result } in
    ap names_of (c.push_reserved.ensures.items ∙ ap (λ (bs : List Bound). bs ++ b ∷ []) c.reserve.ensures.items)
    ∙ names_of-push c.self.inside.bound.items b ∙ ap (λ (ns : Names). (c.args.name, c.args.variable) ∷ ns) c.self.view_is
