use Rattle.std.proofs.Common.{◌≡◌, ◌<◌, ◌^◌, get_or, length, refl, set, rules, sym, ap, ◌∙◌}
use Rattle.edit_table.specs.Renumbered.{no_number}
use Rattle.edit_table.proofs.Lists.{stands_within}
use Rattle.edit_table.proofs.Renumbered.{found_met, next_met, next_number, next_renumbered, old_at}
use Rattle.edit_table.proofs.renumbering.number_of.Goals as goal

pub returns-then-number-clause-met : goal.returns-then-number-clause-met
returns-then-number-clause-met c = found_met c.args.keys.now c.args.numbers.now.items c.args.met.now.items c.args.old c.requires.numbers c.requires.once c.requires.within c.index-number.result.now c.index-number.ensures c.if-number.true

pub returns-clause-numbers : goal.returns-clause-numbers
returns-clause-numbers c =
    let last : c.in-Ok.next ≡ length c.args.met.now.items = search rules in
    let fits : c.in-Ok.next < 2 ^ 32 = search rules in
    next_renumbered c.args.keys.now c.args.numbers.now.items c.args.met.now.items c.args.old c.requires.numbers c.requires.once c.requires.within _ (stands_within c.args.keys.now c.args.old _ c.requires.within) (old_at c.args.keys.now c.args.numbers.now.items c.args.met.now.items c.args.old c.requires.numbers c.requires.once c.requires.within no_number (sym c.if-number.false ∙ c.index-number.ensures ∙ ap (get_or c.args.numbers.now.items c.args.old) c.if-number.false)) c.in-Ok.next last fits c.if-next.false (set c.args.numbers.now.items c.args.old c.in-Ok.next) c.push.new.self.items refl c.in_ok-push.ensures.items

pub returns-clause-number : goal.returns-clause-number
returns-clause-number c =
    let last : c.in-Ok.next ≡ length c.args.met.now.items = search rules in
    let fits : c.in-Ok.next < 2 ^ 32 = search rules in
    next_number c.args.keys.now c.args.numbers.now.items c.args.met.now.items c.args.old c.requires.numbers c.requires.once c.requires.within _ (stands_within c.args.keys.now c.args.old _ c.requires.within) (old_at c.args.keys.now c.args.numbers.now.items c.args.met.now.items c.args.old c.requires.numbers c.requires.once c.requires.within no_number (sym c.if-number.false ∙ c.index-number.ensures ∙ ap (get_or c.args.numbers.now.items c.args.old) c.if-number.false)) c.in-Ok.next last fits c.if-next.false (set c.args.numbers.now.items c.args.old c.in-Ok.next) c.push.new.self.items refl c.in_ok-push.ensures.items

pub returns-clause-met : goal.returns-clause-met
returns-clause-met c =
    let last : c.in-Ok.next ≡ length c.args.met.now.items = search rules in
    let fits : c.in-Ok.next < 2 ^ 32 = search rules in
    next_met c.args.keys.now c.args.numbers.now.items c.args.met.now.items c.args.old c.requires.numbers c.requires.once c.requires.within _ (stands_within c.args.keys.now c.args.old _ c.requires.within) (old_at c.args.keys.now c.args.numbers.now.items c.args.met.now.items c.args.old c.requires.numbers c.requires.once c.requires.within no_number (sym c.if-number.false ∙ c.index-number.ensures ∙ ap (get_or c.args.numbers.now.items c.args.old) c.if-number.false)) c.in-Ok.next last fits c.if-next.false (set c.args.numbers.now.items c.args.old c.in-Ok.next) c.push.new.self.items refl c.in_ok-push.ensures.items
