use Rattle.std.proofs.Common.{sym, subst, ◌∙◌, lit<}
use Rattle.text_parts.specs.Separated.{Lacks}
use Rattle.text_parts.proofs.Parts.{first_part, Lacks-separated}
use Rattle.grove_sorts.specs.Position.{position_text}
use Rattle.grove_sorts.proofs.Texts.{Lacks-position_text, position_text_injective}
use Rattle.session_script.proofs.parts.take_position.Goals as goal

pub returns-in_err-part-clause-only : goal.returns-in_err-part-clause-only
returns-in_err-part-clause-only c = λ position rest v e. absurd (Lacks-separated 32 (position_text position) rest (subst (Lacks 32) e c.in_err-part.ensures.none))

pub returns-in_err-position-clause-only : goal.returns-in_err-position-clause-only
returns-in_err-position-clause-only c = λ position rest v e.
    let parts = first_part 32 c.in_ok-part.part.now (position_text position) c.in_ok-part.rest.now rest c.in_ok-part.ensures.first (Lacks-position_text 32 position (lit< tt)) (sym c.in_ok-part.ensures.parts ∙ e) in
    absurd (c.in_err-position.ensures.none position v parts.0)

pub returns-clause-only : goal.returns-clause-only
returns-clause-only c = λ position rest v e.
    let parts = first_part 32 c.in_ok-part.part.now (position_text position) c.in_ok-part.rest.now rest c.in_ok-part.ensures.first (Lacks-position_text 32 position (lit< tt)) (sym c.in_ok-part.ensures.parts ∙ e) in
    (position_text_injective c.in_ok-position.position position (sym c.in_ok-position.ensures.found ∙ parts.0), parts.1)
