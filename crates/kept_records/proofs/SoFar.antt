-- The walk under a vertex, child by child.
use Rattle.std.proofs.Common.{inl, inr, Bool, List, [], ◌∷◌, ◌++◌, refl, sym, subst, append_assoc, append-nil}
use Rattle.grove_sorts.specs.declared.position.Position.{Position}
use Rattle.grove_edits.specs.declared.vertex.Vertex.{Vertex}
use Rattle.grove_edits.specs.declared.edge.Edge.{Edge}
use Rattle.grove_terms.specs.Forest.{Forest, none, multi_ref, cycle_ref, tree}
use Rattle.mark_step.specs.Expression.{Demanded}
use Rattle.kept_records.specs.Kept.{Kept, Records, kept_of, expression_of, demanded_at}
use Rattle.kept_records.specs.Renewal.{HasToBeJudged, IsLeft, MakesUnder, AreMadeSoFar}

module _ (on : Vertex → Bool) (records : Records) (given : Position → Demanded) (f : Forest) where
  pub none_yet : AreMadeSoFar on records given f f []
  none_yet = record { goes_on = λ later makes. makes }

  pub past_multi : (d : Edge) (rest : Forest) (so_far : List (Vertex × Kept)) → AreMadeSoFar on records given f (multi_ref d rest) so_far → AreMadeSoFar on records given f rest so_far
  past_multi d rest so_far are = record { goes_on = λ later makes. are.goes_on later makes }

  pub past_cycle : (d : Edge) (rest : Forest) (so_far : List (Vertex × Kept)) → AreMadeSoFar on records given f (cycle_ref d rest) so_far → AreMadeSoFar on records given f rest so_far
  past_cycle d rest so_far are = record { goes_on = λ later makes. are.goes_on later makes }

  pub past_left : (d : Edge) (below rest : Forest) (so_far : List (Vertex × Kept)) → AreMadeSoFar on records given f (tree d below rest) so_far → IsLeft on records d.target (given d.position)
      → AreMadeSoFar on records given f rest so_far
  past_left d below rest so_far are left = record { goes_on = λ later makes. are.goes_on later (inl (left, makes)) }

  pub past_judged : (d : Edge) (below rest : Forest) (so_far inner : List (Vertex × Kept)) → AreMadeSoFar on records given f (tree d below rest) so_far → HasToBeJudged on records d.target (given d.position)
      → MakesUnder on records (demanded_at (expression_of d.target below (given d.position)) below) below inner
      → AreMadeSoFar on records given f rest ((so_far ++ inner) ++ (d.target, kept_of d.target below (given d.position)) ∷ [])
  past_judged d below rest so_far inner are judged makes_inner = record { goes_on = goes_on } where
    m : Vertex × Kept
    m = (d.target, kept_of d.target below (given d.position))

    goes_on : (later : List (Vertex × Kept)) → MakesUnder on records given rest later → MakesUnder on records given f (((so_far ++ inner) ++ (d.target, kept_of d.target below (given d.position)) ∷ []) ++ later)
    goes_on later makes =
        subst (MakesUnder on records given f) (sym (append_assoc (so_far ++ inner) (m ∷ []) later))
        (subst (MakesUnder on records given f) (sym (append_assoc so_far inner (m ∷ later)))
        (are.goes_on (inner ++ m ∷ later) (inr (judged, inner, later, refl, makes_inner, makes))))

  pub all_made : (so_far : List (Vertex × Kept)) → AreMadeSoFar on records given f none so_far → MakesUnder on records given f so_far
  all_made so_far are = subst (MakesUnder on records given f) (append-nil so_far) (are.goes_on [] refl)
