use Rattle.std.proofs.Common.{ap, ◌∙◌, ◌++◌, ◌∷◌, []}
use Rattle.marking.specs.Added.{marked_nodes}
use Rattle.marking.specs.Reading.{meant_nodes}
use Rattle.mark_rules.proofs.Walks.{one_more_added, one_more_meant}
use Rattle.mark_rules.proofs.taking.list_plain.Goals as goal

pub returns-clause-listed : goal.returns-clause-listed
returns-clause-listed c = λ nodes node next.
    one_more_meant c.args.types.now nodes c.args.added.now.items c.list.new.added.items node c.plain.result next c.in_ok-list.ensures
    ∙ ap (λ m. meant_nodes c.args.types.now (marked_nodes nodes c.args.added.now.items) ++ m ∷ []) (c.plain.ensures.node node)

pub returns-clause-numbers : goal.returns-clause-numbers
returns-clause-numbers c = one_more_added c.args.types.now c.args.added.now.items c.list.new.added.items c.plain.result c.requires.added c.plain.ensures.numbers c.in_ok-list.ensures
