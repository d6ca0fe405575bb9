use Rattle.std.proofs.Common.{[], ◌∷◌, ◌++◌, sym, ap, subst, ◌∙◌}
use Rattle.std.specs.List.{concat}
use Rattle.edge_lists.specs.Lists.{Listed}
use Rattle.edge_lists.specs.Blocks.{block_len, IsPacked}
use Rattle.edge_lists.proofs.Packed.{concat-more, packed-more}
use Rattle.edge_lists.proofs.blocks.Blocks.add_block.Goals as goal

pub invariant_of-self-2 : goal.invariant_of-self-2
invariant_of-self-2 c =
    let bs = c.self.inside.blocks.items in
    subst (IsPacked block_len) (sym (c.in_ok-push.ensures.items ∙ ap (λ b. bs ++ b ∷ []) c.in_ok-block.ensures)) (packed-more block_len bs c.self.invariant)

pub returns-clause-numbers : goal.returns-clause-numbers
returns-clause-numbers c =
    let bs = c.self.inside.blocks.items in
    ap concat (c.in_ok-push.ensures.items ∙ ap (λ b. bs ++ b ∷ []) c.in_ok-block.ensures) ∙ concat-more bs ∙ ap (λ (l : Listed). l.numbers) c.self.view_is
