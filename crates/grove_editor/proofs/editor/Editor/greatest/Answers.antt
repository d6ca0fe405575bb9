use Rattle.std.proofs.Common.{◌≡◌, ap, subst, ◌∙◌}
use Rattle.std.proofs.Math.Path.{fun_ext}
use Rattle.grove_edits.specs.Graph.{Graph, graph}
use Rattle.graph_words.specs.States.{state_in}
use Rattle.graph_words.specs.Names.{IsGreatest, IsNameOf}
use Rattle.grove_editor.specs.State.{State}
use Rattle.grove_editor.proofs.editor.Editor.greatest.Goals as goal

pub returns : goal.returns
returns c =
    let same : state_in c.graph.result.now ≡ graph c.args.self.now.edits = fun_ext c.graph.ensures.states ∙ ap (λ (s : State). graph s.edits) c.self.view_is in
    subst (λ (g : Graph). IsGreatest (IsNameOf g) c.args.author c.greatest.result) same c.greatest.ensures
