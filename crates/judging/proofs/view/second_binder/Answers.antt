use Rattle.std.proofs.Common.{map, ap, sym, ◌∙◌, arith}
use Rattle.judging.specs.Machine.{bound_by}
use Rattle.judging.specs.Machine as machine
use Rattle.judging.specs.Frames.{given_at, given_before}
use Rattle.judging.proofs.Filling.{gave_is}
use Rattle.judging.proofs.view.second_binder.Goals as goal

pub returns-in-Case : goal.returns-in-Case
returns-in-Case c =
    let vertex = c.args.vertex.now in
    let types = c.args.types.now in
    let gave = gave_is types vertex 3 vertex.given.first c.requires (omega arith) in
    c.named.ensures.name
    ∙ sym (ap (λ ctor. (bound_by ctor (map (given_at types) (given_before vertex))).second) c.in-Case.is ∙ ap (λ (g : machine.Given). g.name) gave)
