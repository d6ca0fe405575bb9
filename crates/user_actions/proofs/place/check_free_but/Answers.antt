use Rattle.std.proofs.Common.{ap, sym, ◌∙◌}
use Rattle.std.specs.Prelude.{not, option_map}
use Rattle.graph_words.specs.Live.{children_of}
use Rattle.grove_edits.specs.declared.act_fault.ActFault.TheVariants.{Occupied}
use Rattle.grove_edits.specs.declared.edge.Edge.{Edge}
use Rattle.user_actions.specs.Names.{is_same_name}
use Rattle.user_actions.proofs.FirstPassing.{passes_first, none_further}
use Rattle.user_actions.proofs.place.check_free_but.Goals as goal

pub returns-then-not-is_same_name : goal.returns-then-not-is_same_name
returns-then-not-is_same_name g c =
    ap (option_map Occupied)
    (passes_first (λ (e : Edge). not (is_same_name e.name c.args.name)) (children_of c.args.vertex.now c.args.place.position (g.V.PlanView.children c.args.view.now)) c.loop-index.index c.in-Some.edge
    (sym c.in-Some.ensures) c.loop-index.invariant (ap not (sym c.is_same_name.ensures ∙ c.if-not-is_same_name.true)))

pub loop-index-preserved : goal.loop-index-preserved
loop-index-preserved g c =
    none_further (λ (e : Edge). not (is_same_name e.name c.args.name)) (children_of c.args.vertex.now c.args.place.position (g.V.PlanView.children c.args.view.now)) c.loop-index.index c.in-Some.edge
    (sym c.in-Some.ensures) c.loop-index.invariant (ap not (sym c.is_same_name.ensures ∙ c.if-not-is_same_name.false))
