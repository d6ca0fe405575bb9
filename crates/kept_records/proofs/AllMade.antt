-- Where each vertex is judged again, the walk makes the records of whole trees.
use Rattle.std.proofs.Common.{◌≡◌, inl, inr, true, false, List, [], ◌∷◌, ◌++◌, ap, ◌∙◌}
use Rattle.grove_sorts.specs.declared.position.Position.{Position}
use Rattle.grove_edits.specs.declared.vertex.Vertex.{Vertex}
use Rattle.grove_edits.specs.declared.edge.Edge.{Edge}
use Rattle.grove_terms.specs.Forest.{Forest, none, multi_ref, cycle_ref, tree}
use Rattle.mark_step.specs.Expression.{Demanded}
use Rattle.kept_records.specs.Kept.{Kept, Records, alone, kept_of, expression_of, demanded_at}
use Rattle.kept_records.specs.Renewal.{MakesUnder, MakesTrees, all_under, all_in_tree, AreAllInTrees}

module _ (records : Records) where
  all_under_made : (given : Position → Demanded) (f : Forest) (made : List (Vertex × Kept)) → MakesUnder (λ v. true) records given f made → made ≡ all_under given f
  all_under_made given none made makes = makes
  all_under_made given (multi_ref d rest) made makes = all_under_made given rest made makes
  all_under_made given (cycle_ref d rest) made makes = all_under_made given rest made makes
  all_under_made given (tree d below rest) made (inl makes) = let clash : true ≡ false = makes.0.0 in absurd cc
  all_under_made given (tree d below rest) made (inr makes) =
      let m : Vertex × Kept = (d.target, kept_of d.target below (given d.position)) in
      let inside = demanded_at (expression_of d.target below (given d.position)) below in
      makes.3
      ∙ ap (λ inner. inner ++ m ∷ makes.2) (all_under_made inside below makes.1 makes.4)
      ∙ ap (λ later. all_under inside below ++ m ∷ later) (all_under_made given rest makes.2 makes.5)

  pub all_in_trees_made : (new : List Edge) (heads : List Vertex) (made : List (Vertex × Kept)) → MakesTrees (λ v. true) new records heads made → AreAllInTrees new heads made
  all_in_trees_made new [] made makes = makes
  all_in_trees_made new (head ∷ heads) made makes =
      let t = makes.3 in
      let own : makes.0 ≡ all_in_tree head t.forest =
      t.made_are ∙ ap (λ inner. inner ++ (head, kept_of head t.forest alone) ∷ []) (all_under_made (demanded_at (expression_of head t.forest alone) t.forest) t.forest t.inner t.under) in
      (t.forest, makes.1, t.stands, makes.2 ∙ ap (λ one. one ++ makes.1) own, all_in_trees_made new heads makes.1 makes.4)
