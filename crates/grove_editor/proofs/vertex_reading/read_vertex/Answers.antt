use Rattle.std.proofs.Common.{sym, subst, ◌∙◌, refl}
use Rattle.std.specs.Prelude.{Option, None, Some, IfNone}
use Rattle.text_parts.specs.Separated.{Lacks}
use Rattle.text_parts.proofs.Parts.{first_part, Lacks-separated}
use Rattle.grove_names.specs.Name.{name_text}
use Rattle.grove_sorts.specs.Ctor.{ctor_text}
use Rattle.edit_text.proofs.Pieces.{no_space_in_name}
use Rattle.grove_edits.specs.declared.vertex.Vertex.{Vertex}
use Rattle.grove_editor.proofs.vertex_reading.read_vertex.Goals as goal

holds_at_none : (r : Option Vertex) (P : Type 0) → P → IfNone r P
holds_at_none None P p = p
holds_at_none (Some v) P p = tt

pub returns-in_err-part-clause-none : goal.returns-in_err-part-clause-none
returns-in_err-part-clause-none c = holds_at_none c.from_residual.result _ (λ v r s e. absurd (Lacks-separated 32 (name_text v.name) (ctor_text v.ctor) (subst (Lacks 32) e c.in_err-part.ensures.none)))

pub returns-in-Err-clause-none : goal.returns-in-Err-clause-none
returns-in-Err-clause-none c = λ v r s e.
    let parts = first_part 32 c.in_ok-part.part.now (name_text v.name) c.in_ok-part.rest.now (ctor_text v.ctor) c.in_ok-part.ensures.first (no_space_in_name v.name r) (sym c.in_ok-part.ensures.parts ∙ e) in
    absurd (c.in-Err.ensures.not_a_name.0 refl v.name r parts.0)

pub returns-in_err-ctor-in-Ok-clause-none : goal.returns-in_err-ctor-in-Ok-clause-none
returns-in_err-ctor-in-Ok-clause-none c =
    holds_at_none c.from_residual-in_err-ctor-in-Ok.result _
    (λ v r s e.
    let parts = first_part 32 c.in_ok-part.part.now (name_text v.name) c.in_ok-part.rest.now (ctor_text v.ctor) c.in_ok-part.ensures.first (no_space_in_name v.name r) (sym c.in_ok-part.ensures.parts ∙ e) in
    c.in_err-ctor-in-Ok.ensures.none v.ctor s refl parts.1)
