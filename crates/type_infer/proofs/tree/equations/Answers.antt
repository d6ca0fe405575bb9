use Rattle.std.proofs.Common.{◌≡◌, List, ◌∙◌}
use Rattle.std.proofs.lemmas.Result.{IfOk-weaker}
use Rattle.grove_edits.specs.declared.vertex.Vertex.{Vertex}
use Rattle.grove_terms.specs.declared.node.Node.{Node}
use Rattle.grove_terms.specs.Forest.{Forest}
use Rattle.grove_terms.specs.Nodes.{tree_nodes}
use Rattle.grove_terms.specs.Lent.{nodes_of}
use Rattle.type_infer.specs.TreeEquations.{tree_equations}
use Rattle.type_infer.specs.Walking.{list_equations}
use Rattle.type_infer.proofs.Walked.{nodes_listed}
use Rattle.type_infer.proofs.tree.equations.Goals as goal

pub returns-clause-equations : goal.returns-clause-equations
returns-clause-equations c =
    let nodes : List Node = nodes_of c.args.nodes.now in
    IfOk-weaker c.list_equations.result (λ list. list.equations ≡ list_equations nodes) (λ list. (v : Vertex) (f : Forest) → nodes ≡ tree_nodes v f → list.equations ≡ tree_equations v f)
    (λ list is v f of. is ∙ nodes_listed nodes v f of) c.list_equations.ensures.equations
