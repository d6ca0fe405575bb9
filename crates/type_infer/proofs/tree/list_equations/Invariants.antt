use Rattle.std.proofs.Common.{◌≡◌, ◌*◌, ◌++◌, length, drop}
use Rattle.grove_terms.specs.Lent.{nodes_of}
use Rattle.type_infer.specs.Walking.{name_at, equations_from, list_equations}
use Rattle.type_infer.specs.Positions.{walk_at, AreWithin}
use Rattle.type_infer.proofs.tree.list_equations.Given as goal

abbrev pub invariant-loop-line : goal.invariant-loop-line
invariant-loop-line l = record {
  within : AreWithin (3 * length l.nodes) l.walk;
  listed : l.walk.list.equations ++ equations_from (name_at (nodes_of l.nodes)) (drop l.line (nodes_of l.nodes)) l.line (walk_at l.walk) ≡ list_equations (nodes_of l.nodes);
}
