use Rattle.std.proofs.Common.{subst, sym}
use Rattle.grove_edits.specs.declared.edge.Edge.{Edge}
use Rattle.grove_edits.specs.Edit.{edit_edge}
use Rattle.grove_edits.specs.Graph.{state_of}
use Rattle.graph_words.specs.States.{state_in, HasRoom}
use Rattle.graph_words.specs.Change.{IsChange}
use Rattle.live_graph.specs.NumberOf.{IsNumberOf}
use Rattle.live_graph.proofs.NumbersStay.{no_room}
use Rattle.live_graph.proofs.live_graph.LiveGraph.raise.Goals as goal
use Rattle.live_graph.proofs.live_graph.LiveGraph.raise.Goals.{In-None}

pub returns-in-Some-clause-change : goal.returns-in-Some-clause-change
returns-in-Some-clause-change c =
    subst (λ k. IsChange (state_in c.args.self.now (edit_edge c.args.edit.now)) (state_of k) c.raise_at.result) c.kind.ensures
    (c.raise_at.ensures.change (edit_edge c.args.edit.now) (subst (λ (e : Edge). IsNumberOf c.args.self.now e c.in-Some.number) c.edge.ensures c.in-Some.ensures.number))

no_number : In-None → ⊥
no_number c = no_room c.args.self.now c.edge.result c.in-None.ensures.only (subst (HasRoom c.args.self.now) (sym c.edge.ensures) c.requires)

pub returns-in-None-clause-joined : goal.returns-in-None-clause-joined
returns-in-None-clause-joined c = absurd (no_number c)

pub returns-in-None-clause-change : goal.returns-in-None-clause-change
returns-in-None-clause-change c = absurd (no_number c)
