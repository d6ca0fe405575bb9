use Rattle.std.proofs.Common.{map, ap, sym, ◌∙◌, arith}
use Rattle.judging.specs.Machine.{bound_by}
use Rattle.judging.specs.Machine as machine
use Rattle.judging.specs.Frames.{given_at, given_before}
use Rattle.judging.proofs.Filling.{gave_is}
use Rattle.judging.proofs.view.binder.Goals as goal

pub returns-in-Lam-clause-typ : goal.returns-in-Lam-clause-typ
returns-in-Lam-clause-typ c =
    let vertex = c.args.vertex.now in
    let types = c.args.types.now in
    let gave = gave_is types vertex 1 vertex.given.first c.requires (omega arith) in
    sym (ap (λ ctor. (bound_by ctor (map (given_at types) (given_before vertex))).typ) c.in-Lam.is ∙ ap (λ (g : machine.Given). g.typ) gave)

pub returns-in-Lam-clause-number : goal.returns-in-Lam-clause-number
returns-in-Lam-clause-number c = c.requires.numbers 1

pub returns-in-Case-clause-name : goal.returns-in-Case-clause-name
returns-in-Case-clause-name c =
    let vertex = c.args.vertex.now in
    let types = c.args.types.now in
    let gave = gave_is types vertex 1 vertex.given.first c.requires (omega arith) in
    c.named-in-Case.ensures.name
    ∙ sym (ap (λ ctor. (bound_by ctor (map (given_at types) (given_before vertex))).name) c.in-Case.is ∙ ap (λ (g : machine.Given). g.name) gave)
