use Rattle.std.proofs.Common.{sym, subst, ◌∙◌, lit<}
use Rattle.text_parts.specs.Separated.{Lacks}
use Rattle.text_parts.proofs.Parts.{first_part, Lacks-separated}
use Rattle.grove_sorts.specs.Ctor.{ctor_text}
use Rattle.grove_sorts.specs.Spelled.{spelled_ctor}
use Rattle.grove_sorts.proofs.Texts.{Lacks-ctor_text, ctor_text_injective}
use Rattle.edit_text.proofs.line.take_ctor.Goals as goal

pub returns-in_err-part-clause-only : goal.returns-in_err-part-clause-only
returns-in_err-part-clause-only c = λ ctor rest r v e. absurd (Lacks-separated 32 (ctor_text ctor) rest (subst (Lacks 32) e c.in_err-part.ensures.none))

pub returns-in_err-ctor-clause-only : goal.returns-in_err-ctor-clause-only
returns-in_err-ctor-clause-only c = λ ctor rest r v e.
    let parts = first_part 32 c.in_ok-part.part.now (ctor_text ctor) c.in_ok-part.rest.now rest c.in_ok-part.ensures.first (Lacks-ctor_text 32 ctor (lit< tt) r) (sym c.in_ok-part.ensures.parts ∙ e) in
    absurd (c.in_err-ctor.ensures.none ctor r v parts.0)

pub returns-clause-only : goal.returns-clause-only
returns-clause-only c = λ ctor rest r v e.
    let parts = first_part 32 c.in_ok-part.part.now (ctor_text ctor) c.in_ok-part.rest.now rest c.in_ok-part.ensures.first (Lacks-ctor_text 32 ctor (lit< tt) r) (sym c.in_ok-part.ensures.parts ∙ e) in
    (ctor_text_injective (spelled_ctor c.in_ok-ctor.ctor) ctor c.in_ok-ctor.ensures.in_range r (sym c.in_ok-ctor.ensures.found ∙ parts.0), parts.1)
