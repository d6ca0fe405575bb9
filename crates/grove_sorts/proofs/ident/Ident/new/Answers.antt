use Rattle.std.proofs.Common.{refl}
use Rattle.grove_sorts.specs.Padded.{padded_kept}
use Rattle.grove_sorts.proofs.ident.Ident.new.Goals as goal

pub invariant_of-result : goal.invariant_of-result
invariant_of-result c =
    let kept = padded_kept c.copy_from_slice.new.self c.args.spelling.now _ c.copy_from_slice.ensures.after refl c.requires in
    record { whole = kept.0; short = kept.1; spelled = kept.2; padded = kept.3 }
