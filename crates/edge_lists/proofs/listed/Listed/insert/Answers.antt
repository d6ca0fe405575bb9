use Rattle.std.proofs.Common.{◌≡◌, ◌≤◌, [], ◌∷◌, ◌++◌, length, sym, ap, ◌∙◌, arith}
use Rattle.std.specs.Prelude.{insert}
use Rattle.std.proofs.lemmas.List.{append_assoc}
use Rattle.std.proofs.lemmas.List.Edits.{insert-append_left, insert-append_right}
use Rattle.edge_lists.specs.Lists.{Listed}
use Rattle.edge_lists.specs.Blocks.{block_len}
use Rattle.edge_lists.proofs.listed.Listed.insert.Goals as goal

pub returns-then-index-lt-BLOCK-clause-numbers : goal.returns-then-index-lt-BLOCK-clause-numbers
returns-then-index-lt-BLOCK-clause-numbers c =
    let first = c.self.inside.first.items in
    let later = c.self.inside.later.numbers in
    let new = c.displace-last.new.numbers.items in
    let inside : c.args.index ≤ length first = omega (arith, c.if-index-lt-BLOCK.true, c.if-len-lt-BLOCK.false, c.len.ensures.value) in
    ap (λ zs. new ++ zs) c.insert.ensures.numbers
    ∙ sym (append_assoc new (c.displace-last.result ∷ []) later)
    ∙ ap (λ zs. zs ++ later) c.displace-last.ensures.numbers
    ∙ sym (insert-append_left first later c.args.index c.args.number inside)
    ∙ ap (λ (l : Listed). insert l.numbers c.args.index c.args.number) c.self.view_is

pub returns-else-index-lt-BLOCK-clause-numbers : goal.returns-else-index-lt-BLOCK-clause-numbers
returns-else-index-lt-BLOCK-clause-numbers c =
    let first = c.self.inside.first.items in
    let later = c.self.inside.later.numbers in
    let long : length first ≡ block_len = omega (arith, c.self.invariant.most, c.if-len-lt-BLOCK.false, c.len.ensures.value) in
    ap (λ zs. first ++ zs) c.insert-else-index-lt-BLOCK.ensures.numbers
    ∙ sym (insert-append_right first later block_len c.args.index c.args.number long (omega (arith, c.if-index-lt-BLOCK.false)))
    ∙ ap (λ (l : Listed). insert l.numbers c.args.index c.args.number) c.self.view_is
