use Rattle.std.proofs.Common.{◌≡◌, ◌↔◌, ℕ, Bool, List, IsTrue, nat_eq, get_or, length, ap, sym, refl, subst, arith}
use Rattle.std.proofs.lemmas.Bool.{false≢true}
use Rattle.grove_edits.specs.declared.edit.EditKind.{EditKind}
use Rattle.grove_edits.specs.declared.edit.EditKind.TheVariants.{Insert, Delete}
use Rattle.grove_edits.specs.Edit.{edit_kind}
use Rattle.edit_text.specs.Line.{sign}
use Rattle.edit_merge.proofs.writing.deletes.Goals as goal

pub bounds-line_at-0 : goal.bounds-line_at-0
bounds-line_at-0 c = omega (arith, ap length (c.line_at.ensures c.requires.0 c.requires.1.0 c.requires.1.1))

sign_tells : (kind : EditKind) → IsTrue (nat_eq (sign kind) 45) ↔ (kind ≡ Delete)
sign_tells Insert = (λ yes. absurd (false≢true yes), λ e. absurd cc)
sign_tells Delete = (λ yes. refl, λ e. refl)

pub returns : goal.returns
returns c = λ version edit stands.
    subst (λ (b : Bool). IsTrue b ↔ (edit_kind edit ≡ Delete)) (sym (ap (λ (bytes : List ℕ). nat_eq (get_or bytes 0 0) 45) (c.line_at.ensures version edit stands))) (sign_tells (edit_kind edit))
