use Rattle.std.proofs.Common.{◌≡◌, ℕ, false, ap, sym, ◌∙◌, arith}
use Rattle.std.specs.Prelude.{Option, Some}
use Rattle.std.proofs.lemmas.Bool.{le-ltb}
use Rattle.std.proofs.lemmas.List.{get_or_read_under}
use Rattle.graph_words.specs.Live.{holds_edge}
use Rattle.user_actions.specs.Flags.{opening_edges}
use Rattle.user_actions.proofs.FlaggedEdges.{flag_told, behind_told, none_told}
use Rattle.user_actions.proofs.opening_flags.OpeningFlags.was_open.Goals as goal

one : (m n : ℕ) (o : Option ℕ) → o ≡ Some m → o ≡ Some n → m ≡ n
one m n o first second = let both : Some m ≡ Some n = sym first ∙ second in cc

pub returns-in_default : goal.returns-in_default
returns-in_default c = none_told c.args.graph.now c.args.self.now c.args.edge.now (λ m is. c.in_default.not-Some m (c.number.ensures.only m is))

pub returns-then-number-len : goal.returns-then-number-len
returns-then-number-len c =
    get_or_read_under c.self.inside.flags.items c.in-Some.number c.len.result c.index.result.now false c.index.ensures c.if-number-len.true (c.len.ensures ∙ c.self.inside.flags.ok.0)
    ∙ flag_told c.args.graph.now c.self.inside.flags.items c.args.edge.now c.in-Some.number c.in-Some.ensures.number (λ m is. one m c.in-Some.number c.number.result (c.number.ensures.only m is) c.in-Some.is)
    ∙ ap (λ bs. holds_edge c.args.edge.now (opening_edges c.args.graph.now bs)) c.self.view_is

pub returns-else-number-len : goal.returns-else-number-len
returns-else-number-len c =
    le-ltb c.in-Some.number c.len.result c.if-number-len.false
    ∙ behind_told c.args.graph.now c.self.inside.flags.items c.args.edge.now c.in-Some.number c.in-Some.ensures.number (λ m is. one m c.in-Some.number c.number.result (c.number.ensures.only m is) c.in-Some.is)
    (omega (arith, c.if-number-len.false, c.len.ensures, c.self.inside.flags.ok.0))
    ∙ ap (λ bs. holds_edge c.args.edge.now (opening_edges c.args.graph.now bs)) c.self.view_is
