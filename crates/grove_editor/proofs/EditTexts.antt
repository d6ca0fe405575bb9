-- The text that is written of edits spells them.
use Rattle.std.proofs.Common.{◌≡◌, ℕ, List, [], ◌∷◌, ◌++◌, refl}
use Rattle.grove_sorts.specs.declared.version.Version.{Version}
use Rattle.grove_sorts.specs.declared.version.Version.TheVariants.{One, Two}
use Rattle.grove_edits.specs.declared.edit.Edit.{Edit}
use Rattle.grove_edits.specs.Edit.{edit_edge}
use Rattle.edit_text.specs.Text.{text_of, AreOf}
use Rattle.edit_text.specs.Whole.{header, HasVersion, IsTextOf}
use Rattle.edit_text.proofs.Lines.{all_in_two}
use Rattle.grove_editor.specs.EditsText.{edits_text}

all_of_two : (edits : List Edit) → AreOf Two edits
all_of_two [] = tt
all_of_two (edit ∷ edits) = (all_in_two (edit_edge edit), all_of_two edits)

nothing_else : (rest : List ℕ) → [] ≡ header Two ++ rest → ⊥
nothing_else rest e = cc

two_is_not_one : Two ≡ One → ⊥
two_is_not_one e = cc

no_text : HasVersion [] One []
no_text = record { parts = refl; else_one = λ _ rest e. nothing_else rest e }

two_text : (body : List ℕ) → HasVersion (header Two ++ body) Two body
two_text body = record { parts = refl; else_one = λ is rest e. two_is_not_one is }

pub text_is_read : (edits : List Edit) → (version : Version) × IsTextOf (edits_text edits) version edits
text_is_read [] = (One, record { body = []; has_version = no_text; spelled = (refl, tt) })
text_is_read (edit ∷ edits) = (Two, record { body = text_of (edit ∷ edits); has_version = two_text (text_of (edit ∷ edits)); spelled = (refl, all_of_two (edit ∷ edits)) })
