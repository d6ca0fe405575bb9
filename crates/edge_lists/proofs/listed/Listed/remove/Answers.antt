use Rattle.std.proofs.Common.{◌≡◌, ℕ, ◌<◌, ◌≤◌, ◌⊎◌, inl, inr, List, [], ◌++◌, length, sym, ap, subst, ◌∙◌, arith}
use Rattle.std.specs.Prelude.{remove}
use Rattle.std.proofs.lemmas.Bool.{cases_lt}
use Rattle.std.proofs.lemmas.List.{length-append}
use Rattle.std.proofs.lemmas.List.Edits.{remove-append_right}
use Rattle.edge_lists.specs.Lists.{Listed}
use Rattle.edge_lists.specs.Blocks.{block_len}
use Rattle.edge_lists.proofs.listed.Listed.remove.Goals as goal

-- where there are more numbers than a block has, the first ones fill one
filled : (most : ℕ) (first later : List ℕ) → length first ≤ most → (length first < most → later ≡ []) → (i : ℕ) → most ≤ i → i < length (first ++ later) → length first ≡ most
filled most first later within full i ge lt = by_length (cases_lt (length first) most) where
  by_length : (length first < most) ⊎ (most ≤ length first) → length first ≡ most
  by_length (inl short) =
      let none = ap length (full short) in
      let whole = length-append first later in
      absurd (omega (arith, short, none, whole, ge, lt))
  by_length (inr long) = omega (arith, within, long)

pub returns-then-index-ge-BLOCK-clause-numbers : goal.returns-then-index-ge-BLOCK-clause-numbers
returns-then-index-ge-BLOCK-clause-numbers c =
    let first = c.self.inside.first.items in
    let later = c.self.inside.later.numbers in
    let lt : c.args.index < length (first ++ later) = subst (λ (l : Listed). c.args.index < length l.numbers) (sym c.self.view_is) c.requires in
    let long = filled block_len first later c.self.invariant.most c.self.invariant.full c.args.index c.if-index-ge-BLOCK.true lt in
    ap (λ zs. first ++ zs) c.remove.ensures.numbers
    ∙ sym (remove-append_right first later block_len c.args.index long c.if-index-ge-BLOCK.true)
    ∙ ap (λ (l : Listed). remove l.numbers c.args.index) c.self.view_is
