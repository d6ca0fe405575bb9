use Rattle.std.proofs.Common.{refl, sym, subst, arith, ◌≡◌, None, ◌<◌, ◌^◌}
use Rattle.text_parts.specs.Separated.{Lacks}
use Rattle.text_parts.proofs.Parts.{Lacks-append}
use Rattle.edit_stream.proofs.Pieces.{keeps}
use Rattle.edit_stream.proofs.edit_stream.EditStream.feed.Goals as goal

pub invariant_of-self-in-None : goal.invariant_of-self-in-None
invariant_of-self-in-None c =
    subst (Lacks 10) (sym c.in_ok-extend_from_slice-in-None.ensures.items) (Lacks-append 10 c.self.inside.kept.items c.args.piece.now c.self.invariant c.in-None.ensures.none)

pub returns-in_ok-extend_from_slice-in-None-clause-fed :
    goal.returns-in_ok-extend_from_slice-in-None-clause-fed
returns-in_ok-extend_from_slice-in-None-clause-fed c =
    let good : c.self.inside.fault ≡ None = c.in_default.is in
    let fits : c.self.inside.lines < 2 ^ 64 = omega (arith, c.self.ranges) in
    rw (← c.self.view_is) (keeps _ _ c.args.piece.now c.args.out.now good fits c.in_ok-extend_from_slice-in-None.ensures.items refl good refl c.self.invariant c.in-None.ensures.none)
