use Rattle.std.proofs.Common.{List, [], ◌∷◌, ◌∙◌, Bool, true, Some, None, refl, ap}
use Rattle.std.specs.Prelude.{if◌then◌else◌}
use Rattle.type_core.specs.declared.former.Former.TheVariants.{Arrow, Sum}
use Rattle.type_core.specs.Typ.{Typ, Unknown, Num, Boolean, Pair, meet}
use Rattle.mark_step.specs.declared.node.Mark.TheVariants as mark
use Rattle.mark_step.specs.Expression.{Synthesise, Marked, unmarked}
use Rattle.mark_step.specs.Step.{or_mark, case_result}
use Rattle.ctx_table.proofs.ContextLemmas.{is_same_name-same}
use Rattle.ctx_table.specs.Context.{is_same_name}
use Rattle.marking.specs.Examples.{Shown}
use Rattle.marking.proofs.laws.trees_are_marked_as_by_hand.Goals as goal

pub returns-clause-free_variable : goal.returns-clause-free_variable
returns-clause-free_variable c = λ x. refl

pub returns-clause-conflict : goal.returns-clause-conflict
returns-clause-conflict c = refl

pub returns-clause-branches : goal.returns-clause-branches
returns-clause-branches c = refl

pub returns-clause-identity : goal.returns-clause-identity
returns-clause-identity c = λ x. ap nodes (is_same_name-same x) where
  -- the nodes by whether the parameter has the name of the variable
  body : Bool → Marked
  body same = or_mark (if same then Some Num else None) mark.Free

  nodes : Bool → List Shown
  nodes same =
      (Some Synthesise, Some (Pair Arrow Num (body same).typ), mark.None)
      ∷ (None, None, mark.None)
      ∷ (None, Some Num, mark.None)
      ∷ (Some Synthesise, Some (body same).typ, (body same).mark) ∷ []

pub returns-clause-two_parameters : goal.returns-clause-two_parameters
returns-clause-two_parameters c = λ x. refl

pub returns-clause-defined : goal.returns-clause-defined
returns-clause-defined c = λ x. ap nodes (is_same_name-same x) where
  body : Bool → Marked
  body same = or_mark (if same then Some Num else None) mark.Free

  nodes : Bool → List Shown
  nodes same =
      (Some Synthesise, Some (body same).typ, mark.None)
      ∷ (None, None, mark.None)
      ∷ (Some Synthesise, Some Num, mark.None)
      ∷ (Some Synthesise, Some (body same).typ, (body same).mark) ∷ []

-- the nodes of a case by what its bodies are
abbrev case_nodes : Marked → Marked → List Shown
case_nodes left right =
    let whole = case_result (Some (Unknown, Num)) (meet left.typ right.typ) in
    (Some Synthesise, Some whole.typ, whole.mark)
    ∷ (Some Synthesise, Some (Pair Sum Unknown Num), mark.None)
    ∷ (Some Synthesise, Some Num, mark.None)
    ∷ (None, None, mark.None)
    ∷ (Some Synthesise, Some left.typ, left.mark)
    ∷ (None, None, mark.None)
    ∷ (Some Synthesise, Some right.typ, right.mark) ∷ []

-- a body that is a variable, by whether its parameter has that name
abbrev variable : Typ → Bool → Marked
variable t same = or_mark (if same then Some t else None) mark.Free

pub returns-clause-bodies : goal.returns-clause-bodies
returns-clause-bodies c = λ x y. ap (λ same. case_nodes (unmarked Boolean) (variable Num same)) (is_same_name-same y)

pub returns-clause-parts : goal.returns-clause-parts
returns-clause-parts c = λ x y.
    ap (λ same. case_nodes (variable Unknown (is_same_name x x)) (variable Num same)) (is_same_name-same y)
    ∙ ap (λ same. case_nodes (variable Unknown same) (variable Num true)) (is_same_name-same x)

pub returns-clause-injected : goal.returns-clause-injected
returns-clause-injected c = refl
