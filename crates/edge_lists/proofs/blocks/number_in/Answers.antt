use Rattle.std.proofs.Common.{◌≡◌, ℕ, ◌+◌, ◌*◌, ◌/◌, ◌%◌, ◌<◌, [], length, get_or, sym, ap, subst, ◌∙◌, arith}
use Rattle.std.specs.List.{concat}
use Rattle.std.proofs.lemmas.List.{get_or_default}
use Rattle.edge_lists.specs.Blocks.{block_len}
use Rattle.edge_lists.proofs.Packed.{length-packed, strictly_within, get_or-concat}
use Rattle.edge_lists.proofs.blocks.number_in.Goals as goal

-- an index is that of a place in its block
place_of_index : (n : ℕ) → n / 4096 * block_len + n % 4096 ≡ n
place_of_index n = omega arith

inside_block : (n : ℕ) → n % 4096 < block_len
inside_block n = omega arith

pub bounds-blocks-index : goal.bounds-blocks-index
bounds-blocks-index c =
    let most = length-packed block_len c.args.blocks.now c.requires.packed in
    omega (arith, most, c.requires.within)

pub number-requires : goal.number-requires
number-requires c =
    let bs = c.args.blocks.now in
    let n = c.args.index in
    let most = length-packed block_len bs c.requires.packed in
    let lt : n / 4096 < length bs = omega (arith, most, c.requires.within) in
    let is = c.index-blocks-index.is ∙ get_or_default bs (n / 4096) c.index-blocks-index.result [] lt in
    subst (λ zs. n % 4096 < length zs) (sym is)
    (strictly_within block_len bs c.requires.packed (n / 4096) (n % 4096) lt (inside_block n) (subst (λ k. k < length (concat bs)) (sym (place_of_index n)) c.requires.within))

pub returns : goal.returns
returns c =
    let bs = c.args.blocks.now in
    let n = c.args.index in
    let most = length-packed block_len bs c.requires.packed in
    let lt : n / 4096 < length bs = omega (arith, most, c.requires.within) in
    let is = c.index-blocks-index.is ∙ get_or_default bs (n / 4096) c.index-blocks-index.result [] lt in
    c.number.ensures
    ∙ ap (λ zs. get_or zs (n % 4096) 0) is
    ∙ sym (get_or-concat block_len bs c.requires.packed (n / 4096) (n % 4096) 0 lt (inside_block n) (subst (λ k. k < length (concat bs)) (sym (place_of_index n)) c.requires.within))
    ∙ ap (λ k. get_or (concat bs) k 0) (place_of_index n)
