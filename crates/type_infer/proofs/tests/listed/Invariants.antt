use Rattle.std.proofs.Common.{◌≡◌, drop}
use Rattle.std.specs.List.{AllByRecursion}
use Rattle.type_infer.specs.Forms.{IsEquationOf}
use Rattle.type_infer.proofs.tests.listed.Given as goal

-- the equations that are left are of the same variables
abbrev pub invariant-loop-equation : goal.invariant-loop-equation
invariant-loop-equation l = AllByRecursion (IsEquationOf l.variables) (drop l.equation-index l.equations) × (l.list.variables ≡ l.variables)
