use Rattle.std.proofs.Common.{ℕ, ◌+◌, ◌-◌, ◌<◌, rules, List, length, drop, sym, subst, arith}
use Rattle.std.proofs.lemmas.List.{length-take}
use Rattle.edge_lists.proofs.lent_numbers.LentNumbers.number.Goals as goal

pub overflow_add-self-inside : goal.overflow_add-self-inside
overflow_add-self-inside c =
    let inside = c.self.inside in
    let short = length-take (inside.to - inside.from) (drop inside.from inside.list.now.numbers) in
    let lt = subst (λ (ns : List ℕ). c.args.index < length ns) (sym c.self.view_is) c.requires in
    let sum : inside.from + c.args.index < inside.to = omega (arith, short, lt) in
    search rules
