-- A node more is taken.
use Rattle.std.proofs.Common.{◌≡◌, ℕ, ◌+◌, List, [], ◌∷◌, ◌++◌, drop, Option, Some, sym, ap, subst, ◌∙◌, append_assoc}
use Rattle.std.specs.Prelude.{slice_get}
use Rattle.grove_sorts.specs.declared.ident.Ident.{Ident}
use Rattle.grove_sorts.specs.declared.ctor.Ctor.{Ctor}
use Rattle.grove_sorts.specs.declared.position.Position.{Position}
use Rattle.grove_sorts.specs.Ctor.{positions}
use Rattle.edit_table.specs.declared.lent_vertex.LentVertex.{LentVertex}
use Rattle.edit_table.specs.Lent.{lent_ctor, lent_vertex}
use Rattle.grove_terms.specs.declared.node.LentNode.{LentNode}
use Rattle.grove_terms.specs.declared.node.Node.{Node}
use Rattle.grove_terms.specs.declared.node.What.{What}
use Rattle.grove_terms.specs.declared.node.What.TheVariants.{Vertex}
use Rattle.grove_terms.specs.Lent.{node_of, nodes_of}
use Rattle.type_infer.specs.declared.tree.Place.{Place}
use Rattle.type_infer.specs.Terms.{Variable}
use Rattle.type_infer.specs.Equations.{TermEquation}
use Rattle.type_infer.specs.Rows.{StandAt}
use Rattle.type_infer.specs.TreeEquations.{first_variable, second_variable, third_variable, Names, binder_of, form_equations}
use Rattle.type_infer.specs.Walking.{heads, five, at_position, Walk, walk, entered, form_places, node_places, node_equations, behind, equations_from}
use Rattle.type_infer.proofs.Agreeing.{row_stands}
use Rattle.type_infer.proofs.StepLemmas.{equations_here}

-- a vertex whose constructor is this one, and the variables at its positions
module _ (what : What) (v : LentVertex) (c : Ctor) (row : List ℕ) (x : ℕ) (is : Vertex (lent_vertex v) ≡ what) (of : lent_ctor v.ctor ≡ c)
    (firsts : List ℕ) (line : ℕ) (same : row ≡ five firsts) (first : x ≡ first_variable line) where
  stands : StandAt (at_position (positions c) (five firsts)) (positions c) row
  stands = subst (StandAt (at_position (positions c) (five firsts)) (positions c)) (sym same) (row_stands c _ _ _ _ _)

  pub taken_listed : (es new : List TermEquation) (names : Names)
      → ((lines : Position → ℕ) → StandAt lines (positions c) row → new ≡ es ++ form_equations c (λ p. Variable (lines p)) (Variable x) (Variable (x + 1)) (Variable (x + 2)) (binder_of names c))
      → new ≡ es ++ node_equations what firsts line names
  taken_listed es new names listed =
      let here : new ≡ es ++ form_equations c (λ p. Variable (at_position (positions c) (five firsts) p)) (Variable (first_variable line)) (Variable (second_variable line)) (Variable (third_variable line)) (binder_of names c) =
      listed (at_position (positions c) (five firsts)) stands
      ∙ ap (λ (y : ℕ). es ++ form_equations c (λ p. Variable (at_position (positions c) (five firsts) p)) (Variable y) (Variable (y + 1)) (Variable (y + 2)) (binder_of names c)) first in
      here
      ∙ ap (λ (k : Ctor). es ++ form_equations k (λ p. Variable (at_position (positions k) (five firsts) p)) (Variable (first_variable line)) (Variable (second_variable line)) (Variable (third_variable line)) (binder_of names k)) (sym of)
      ∙ ap (λ (w : What). es ++ node_equations w firsts line names) is

  pub taken_places : (old new : Walk)
      → ((lines : Position → ℕ) → StandAt lines (positions c) row → new ≡ walk (form_places c lines x ++ old.places) old.names)
      → new ≡ behind what firsts line old
  taken_places old new pushed =
      pushed (at_position (positions c) (five firsts)) stands
      ∙ ap (λ (y : ℕ). walk (form_places c (at_position (positions c) (five firsts)) y ++ old.places) old.names) first
      ∙ ap (λ (k : Ctor). walk (form_places k (at_position (positions k) (five firsts)) (first_variable line) ++ old.places) old.names) (sym of)
      ∙ ap (λ (w : What). behind w firsts line old) is

-- the equations so far with those that are to come stay the same
pub one_node : (find : ℕ → Option Ident) (nodes : List LentNode) (x : LentNode) (line : ℕ) (w mid after : Walk) (es new all : List TermEquation) → slice_get nodes line ≡ Some x
    → es ++ equations_from find (drop line (nodes_of nodes)) line w ≡ all → mid ≡ entered find w.places w.names
    → new ≡ es ++ node_equations (node_of x).what (heads (drop (line + 1) (nodes_of nodes)) (line + 1)) line mid.names
    → after ≡ behind (node_of x).what (heads (drop (line + 1) (nodes_of nodes)) (line + 1)) line mid
    → new ++ equations_from find (drop (line + 1) (nodes_of nodes)) (line + 1) after ≡ all
one_node find nodes x line w mid after es new all here so_far entering listed behind_is =
    let rest : List Node = drop (line + 1) (nodes_of nodes) in
    let vs : List ℕ = heads rest (line + 1) in
    ap (λ (ns : List TermEquation). ns ++ equations_from find rest (line + 1) after) listed
    ∙ ap (λ (a : Walk). (es ++ node_equations (node_of x).what vs line mid.names) ++ equations_from find rest (line + 1) a) behind_is
    ∙ append_assoc es (node_equations (node_of x).what vs line mid.names) (equations_from find rest (line + 1) (behind (node_of x).what vs line mid))
    ∙ ap (λ (m : Walk). es ++ (node_equations (node_of x).what vs line m.names ++ equations_from find rest (line + 1) (behind (node_of x).what vs line m))) entering
    ∙ ap (λ (ns : List TermEquation). es ++ ns) (sym (equations_here find nodes x line w here))
    ∙ so_far
