use Rattle.std.proofs.Common.{◌≡◌, ◌≤◌, Bool, List, length, sym, subst, ◌∙◌}
use Rattle.graph_words.specs.States.{state_in}
use Rattle.user_actions.specs.Flags.{opening_edges}
use Rattle.user_actions.specs.Good.{AreOpening}
use Rattle.user_actions.specs.Lists.{ArePresent}
use Rattle.user_actions.proofs.FlaggedEdges.{kept_told, opening_present}
use Rattle.user_actions.proofs.opening_flags.OpeningFlags.renew.Goals as goal

pub append_flags-self-inside-requires-clause-told : goal.append_flags-self-inside-requires-clause-told
append_flags-self-inside-requires-clause-told c =
    let graph = c.args.graph.now in
    let same : c.reserve.new.self.items ≡ c.args.self.now = c.in_ok-reserve.ensures.items ∙ c.self.view_is in
    kept_told graph c.reserve.new.self.items c.keep_true.new.flags.items _ c.keep_true.new.flags.ok.0 c.keep_true.ensures.known c.keep_true.ensures.kept
    (subst (λ (bs : List Bool). length bs ≤ length graph) (sym same) c.requires.within)
    (subst (λ (bs : List Bool). AreOpening (state_in graph) (opening_edges graph bs)) (sym same) c.requires.opened)

pub returns-clause-opening : goal.returns-clause-opening
returns-clause-opening c =
    let graph = c.args.graph.now in
    subst (λ (bs : List Bool). ArePresent (state_in graph) (opening_edges graph bs)) (sym c.append_flags-self-inside.ensures.flags) (opening_present graph)
