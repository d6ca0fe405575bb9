use Rattle.std.proofs.Common.{◌≡◌, List, [], ◌∷◌, ap, sym}
use Rattle.std.specs.Prelude.{Some, None, slice_get}
use Rattle.grove_edits.specs.declared.edge.Edge.{Edge}
use Rattle.graph_words.specs.Live.{children_of}
use Rattle.user_actions.proofs.place.sole_edge.Goals as goal

one_alone : (xs : List Edge) (x : Edge) → slice_get xs 0 ≡ Some x → slice_get xs 1 ≡ None → xs ≡ x ∷ []
one_alone [] x first second = absurd cc
one_alone (y ∷ []) x first second = let same : y ≡ x = cc in ap (λ e. e ∷ []) same
one_alone (y ∷ z ∷ ys) x first second = absurd cc

pub returns-in-None-clause-sole : goal.returns-in-None-clause-sole
returns-in-None-clause-sole g c =
    one_alone (children_of c.args.vertex.now c.args.place.position (g.V.PlanView.children c.args.view.now)) c.in-Some.first (sym c.in-Some.ensures) (sym c.in-None.ensures)
