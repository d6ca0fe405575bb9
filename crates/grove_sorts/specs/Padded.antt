-- Inner model, which no public contract cites: what the fields of an identifier keep.
use Rattle.std.specs.Prelude.{◌≡◌, ℕ, ◌-◌, ◌≤◌, ◌++◌, List, [], ◌∷◌, length, take, drop, replicate}
use Rattle.std.proofs.Common.{ap, sym, subst, ◌∙◌, arith}
use Rattle.std.proofs.lemmas.List.{length-append, length-drop, drop-replicate}
use Rattle.std.proofs.Math.Seq.{take-append_seam, drop-append_seam}
use Rattle.std.proofs.lemmas.Bool.Decides.{nat_tests}
use Rattle.grove_sorts.specs.declared.version.Version.{Version}
use Rattle.grove_sorts.specs.declared.version.Version.TheVariants.{Two}
use Rattle.grove_sorts.specs.Identifier.{longest, IsIdentifier}

-- what the fields of an identifier keep
abbrev pub Kept : List ℕ → ℕ → Type 0
Kept bytes len = (length bytes ≡ 64) × (len ≤ 64) × IsIdentifier Two (take len bytes) × (drop len bytes ≡ replicate (64 - len) 0)

-- an identifier has at most as many bytes as its version allows
pub identifier_short : (version : Version) (xs : List ℕ) → IsIdentifier version xs → length xs ≤ longest version
identifier_short version [] h = omega arith
identifier_short version (x ∷ xs) h = grind (arith, nat_tests)

-- a spelling and zeros after it
pub padded_kept : (ys xs zeros : List ℕ) → ys ≡ xs → zeros ≡ replicate 64 0 → IsIdentifier Two xs → Kept (ys ++ drop (length xs) zeros) (length xs)
padded_kept ys xs zeros e z h =
    let short : length xs ≤ 64 = identifier_short Two xs h in
    subst (λ ys. Kept (ys ++ drop (length xs) zeros) (length xs)) (sym e) (
      simp (length-append, length-drop) (omega (arith, ap length z)),
      short,
      rw take-append_seam h,
      rw drop-append_seam (ap (drop (length xs)) z ∙ drop-replicate (length xs) 64 0),
    )
