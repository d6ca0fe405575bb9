use Rattle.std.specs.Prelude.{refl}
use Rattle.user_actions.proofs.Meant.{made_stands, target_stands, vertex_stands, moved_edge_stands}
use Rattle.user_actions.proofs.laws.a_place_has_the_vertex_that_was_meant.Goals as goal

pub returns-clause-made : goal.returns-clause-made
returns-clause-made c = made_stands

pub returns-clause-relocated : goal.returns-clause-relocated
returns-clause-relocated c g opening author edge place edits answer v before after old planned =
    target_stands g opening author edge place edits answer v before after old planned refl refl (λ lists. refl)

pub returns-clause-restored : goal.returns-clause-restored
returns-clause-restored c g opening author name place edits answer v moved live planned =
    vertex_stands g opening author name place edits answer v moved live planned refl refl refl (λ lists. refl)

pub returns-clause-edge : goal.returns-clause-edge
returns-clause-edge c = moved_edge_stands
