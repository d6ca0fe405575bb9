use Rattle.std.proofs.Common.{List, ℕ, ◌++◌, ap, ◌∙◌, append_assoc}
use Rattle.std.specs.Prelude.{decimal}
use Rattle.json.specs.Print.{escape_byte}
use Rattle.grove_json.proofs.members.append_depth.Goals as goal

pub returns : goal.returns
unfolding escape_byte
returns c =
    c.in_ok-write_number.ensures.appended
    ∙ ap (λ (xs : List ℕ). xs ++ decimal c.args.depth) c.in_ok-write_short.ensures.appended
    ∙ append_assoc c.args.out.now.items _ (decimal c.args.depth)
