-- The graph is that before the rise.
use Rattle.std.proofs.Common.{sym, ap, subst, ◌∙◌}
use Rattle.grove_edits.specs.declared.edge.Edge.{Edge}
use Rattle.grove_edits.specs.Edit.{edit_edge, edit_kind}
use Rattle.grove_edits.specs.Graph.{state_of}
use Rattle.graph_words.specs.Change.{IsChange}
use Rattle.graph_words.specs.States.{state_in, HasRoom, with_state}
use Rattle.mark_incremental.proofs.Raised.{same_graph_from, put_back_same}
use Rattle.mark_incremental.proofs.raising.put_back.Goals as goal

pub put_back-requires : goal.put_back-requires
put_back-requires c = subst (HasRoom c.args.graph.now) (sym c.edge.ensures) c.requires.room

pub returns-in-Raised-clause-put_back : goal.returns-in-Raised-clause-put_back
returns-in-Raised-clause-put_back c = λ before was e.
    let change = subst (IsChange (state_in before (edit_edge c.args.edit.now)) (state_of (edit_kind c.args.edit.now))) c.in-Raised.is was.change_is in
    c.put_back.ensures.state e ∙ ap (λ (x : Edge). with_state x c.in-Raised.old (state_in c.args.graph.now) e) c.edge.ensures
    ∙ put_back_same c.args.edit.now (state_in before) (state_in c.args.graph.now) was.joined c.in-Raised.old change e

pub returns-in-Same-clause-put_back : goal.returns-in-Same-clause-put_back
returns-in-Same-clause-put_back c = λ before was e.
    same_graph_from c.args.edit.now (state_in before) (state_in c.args.graph.now) was.joined
    (subst (IsChange (state_in before (edit_edge c.args.edit.now)) (state_of (edit_kind c.args.edit.now))) c.in-Same.is was.change_is) e
