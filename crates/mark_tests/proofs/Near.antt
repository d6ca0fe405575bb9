-- What stands near the edit of the worked example: each vertex has one place in the one graph and in the other, with what is demanded of it.
use Rattle.std.proofs.Common.{◌≡◌, inl, inr, true, false, List, [], ◌∷◌, refl, sym, ap, ◌∙◌}
use Rattle.std.specs.Prelude.{Some}
use Rattle.std.specs.List.{AllByRecursion}
use Rattle.grove_sorts.specs.declared.position.Position.TheVariants.{Main, Fun, Arg, Body}
use Rattle.grove_edits.specs.declared.edge.Edge.{Edge}
use Rattle.grove_edits.specs.Edge.{IsWellFormed}
use Rattle.grove_edits.specs.Edit.{edit_edge}
use Rattle.grove_edits.specs.Vertex.{root}
use Rattle.graph_words.specs.declared.class.Class.TheVariants.{Inner}
use Rattle.graph_words.specs.Class.{class}
use Rattle.grove_terms.specs.Forest.{Forest, none, tree, StandsUnder}
use Rattle.type_core.specs.Typ.{Typ, Unknown, Num, Boolean}
use Rattle.mark_step.specs.declared.node.Mark.TheVariants as mark
use Rattle.mark_step.specs.Expression.{Synthesise, Analyse, Demanded}
use Rattle.kept_records.specs.Kept.{Kept, alone, expression_of, demanded_at, kept_of, IsTreeIn, Stands, IsKeptOf}
use Rattle.kept_records.specs.Change.{Differs, IsNear}
use Rattle.kept_records.proofs.Standing.{child_stands, one_kept}
use Rattle.mark_tests.specs.Near.{application, function, argument, body, to_application, to_function, to_argument, to_body, to_annotation, before, after}

-- what stands under the application and in the program, by what stands under the function
abbrev applied : Forest → Forest
applied inside = tree (edit_edge to_function) inside (tree (edit_edge to_argument) none none)

abbrev program : Forest → Forest
program inside = tree (edit_edge to_application) (applied inside) none

abbrev of_application : Forest → Demanded
of_application inside = demanded_at (expression_of root (program inside) alone) (program inside) Main

abbrev of_function : Forest → Demanded
of_function inside = demanded_at (expression_of application (applied inside) (of_application inside)) (applied inside) Fun

abbrev of_argument : Forest → Demanded
of_argument inside = demanded_at (expression_of application (applied inside) (of_application inside)) (applied inside) Arg

abbrev of_body : Forest → Demanded
of_body inside = demanded_at (expression_of function inside (of_function inside)) inside Body

module _ (live : List Edge) (well : AllByRecursion IsWellFormed live) (inside : Forest) (heads : class live root ≡ Inner → ⊥) (under : StandsUnder live root (program inside)) where
  application_stands : Stands live (root ∷ []) application (applied inside) (of_application inside)
  application_stands = child_stands live well root [] (program inside) alone (heads, under, refl) (edit_edge to_application) (applied inside) (inl (refl, refl))

  function_stands : Stands live (application ∷ root ∷ []) function inside (of_function inside)
  function_stands =
      child_stands live well application (root ∷ []) (applied inside) (of_application inside) application_stands (edit_edge to_function) inside (inl (refl, refl))

  argument_kept : IsKeptOf live argument (kept_of argument none (of_argument inside))
  argument_kept = record {
    above = application ∷ root ∷ [];
    forest = none;
    demanded = of_argument inside;
    stands =
        child_stands live well application (root ∷ []) (applied inside) (of_application inside) application_stands (edit_edge to_argument) none (inr (inl (refl, refl)));
    is = refl;
  }

  body_kept : IsTreeIn inside (edit_edge to_body) none → IsKeptOf live body (kept_of body none (of_body inside))
  body_kept is = record {
    above = function ∷ application ∷ root ∷ [];
    forest = none;
    demanded = of_body inside;
    stands = child_stands live well function (application ∷ root ∷ []) inside (of_function inside) function_stands (edit_edge to_body) none is;
    is = refl;
  }

-- ---- before the edit

abbrev inside_before : Forest
inside_before = tree (edit_edge to_body) none none

well_before : AllByRecursion IsWellFormed before
well_before = (refl, (refl, (refl, (refl, tt))))

heads_before : class before root ≡ Inner → ⊥
heads_before is = cc

program_before : StandsUnder before root (program inside_before)
program_before = record { edges = refl; children = (refl, refl, (refl, refl, (refl, refl, tt, tt), (refl, refl, tt, tt)), tt) }

-- ---- after it

abbrev inside_after : Forest
inside_after = tree (edit_edge to_annotation) none inside_before

well_after : AllByRecursion IsWellFormed after
well_after = (refl, well_before)

heads_after : class after root ≡ Inner → ⊥
heads_after is = cc

program_after : StandsUnder after root (program inside_after)
program_after = record { edges = refl; children = (refl, refl, (refl, refl, (refl, refl, tt, (refl, refl, tt, tt)), (refl, refl, tt, tt)), tt) }

-- ---- what is near

argument_before : IsKeptOf before argument (kept_of argument none (of_argument inside_before))
argument_before = argument_kept before well_before inside_before heads_before program_before

argument_after : IsKeptOf after argument (kept_of argument none (of_argument inside_after))
argument_after = argument_kept after well_after inside_after heads_after program_after

abbrev analysed : Typ → Kept
analysed against = record { scope = []; wanted = Some (Analyse against); typ = Some Num; mark = mark.None }

pub argument_differs : Differs before after argument
argument_differs = record {
  kept_before = analysed Unknown;
  children_before = [];
  kept_after = analysed Num;
  children_after = [];
  is_before = record { marked = argument_before; children_are = refl };
  is_after = record { marked = argument_after; children_are = refl };
  other = λ same. let clash : Some (Analyse Unknown) ≡ Some (Analyse Num) = ap (λ (kept : Kept). kept.wanted) same.0 in cc;
}

-- ---- what is not

abbrev synthesised : Kept
synthesised = record { scope = []; wanted = Some Synthesise; typ = Some Boolean; mark = mark.None }

body_before : IsKeptOf before body synthesised
body_before = body_kept before well_before inside_before heads_before program_before (inl (refl, refl))

body_after : IsKeptOf after body synthesised
body_after = body_kept after well_after inside_after heads_after program_after (inr (inl (refl, refl)))

pub body_is_far : IsNear (edit_edge to_annotation) before after body → ⊥
body_is_far (inl on) = let clash : false ≡ true = on in cc
body_is_far (inr d) =
    d.other (
      one_kept before well_before body d.kept_before synthesised d.is_before.marked body_before
          ∙ one_kept after well_after body synthesised d.kept_after body_after d.is_after.marked,
      d.is_before.children_are ∙ sym d.is_after.children_are,
    )
