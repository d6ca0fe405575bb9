use Rattle.std.proofs.Common.{◌≡◌, ℕ, ◌<◌, List, [], ◌∷◌, length, true, sym, ap, ◌∙◌, arith}
use Rattle.grove_edits.specs.declared.edge.Edge.{Edge}
use Rattle.edge_lists.specs.Lists.{holds_number}
use Rattle.numbers_by_name.specs.ByName.{numbers_of}
use Rattle.live_graph.proofs.by_name.find.Goals as goal

none_held : (n : ℕ) (numbers : List ℕ) → length numbers < 1 → holds_number n numbers ≡ true → ⊥
none_held n [] few held = absurd cc
none_held n (m ∷ numbers) few held = absurd (omega (arith, few))

pub returns-in-empty-clause-only : goal.returns-in-empty-clause-only
returns-in-empty-clause-only c n is =
    let named = ap (λ (e : Edge). holds_number n (numbers_of c.args.names.now e.name)) (sym is.1) ∙ c.requires n is.0 in
    absurd (none_held n c.with_name.result.now c.in-empty.len_below (ap (holds_number n) c.with_name.ensures ∙ named))
