use Rattle.std.proofs.Common.{sym, subst, ◌∙◌, lit<, refl}
use Rattle.text_parts.specs.Separated.{Lacks}
use Rattle.text_parts.proofs.Parts.{first_part, Lacks-separated}
use Rattle.grove_sorts.specs.Identifier.{IsIdentifier}
use Rattle.grove_sorts.specs.Ident.{ident_bytes}
use Rattle.grove_sorts.proofs.Texts.{Lacks-ident_bytes}
use Rattle.grove_sorts.proofs.Identifiers.{ident_exact}
use Rattle.session_script.proofs.parts.take_ident.Goals as goal

pub returns-in_err-part-clause-only : goal.returns-in_err-part-clause-only
returns-in_err-part-clause-only c = λ ident rest v e. absurd (Lacks-separated 32 (ident_bytes ident) rest (subst (Lacks 32) e c.in_err-part.ensures.none))

pub returns-in-Err-clause-only : goal.returns-in-Err-clause-only
returns-in-Err-clause-only c = λ ident rest v e.
    let parts = first_part 32 c.in_ok-part.part.now (ident_bytes ident) c.in_ok-part.rest.now rest c.in_ok-part.ensures.first (Lacks-ident_bytes 32 ident (lit< tt)) (sym c.in_ok-part.ensures.parts ∙ e) in
    absurd (c.in-Err.ensures.fault.0 refl (subst (IsIdentifier c.args.version) (sym parts.0) v))

pub returns-in-Ok-clause-only : goal.returns-in-Ok-clause-only
returns-in-Ok-clause-only c = λ ident rest v e.
    let parts = first_part 32 c.in_ok-part.part.now (ident_bytes ident) c.in_ok-part.rest.now rest c.in_ok-part.ensures.first (Lacks-ident_bytes 32 ident (lit< tt)) (sym c.in_ok-part.ensures.parts ∙ e) in
    (ident_exact c.in-Ok.ident ident (c.in-Ok.ensures.found ∙ parts.0), parts.1)
