-- How often the position of a well-formed edge stands in the row of its source: once.
use Rattle.std.proofs.Common.{◌≡◌, ℕ, suc, ◌+◌, ◌<◌, Bool, true, false, cond, eqb, List, [], ◌∷◌, Some, is_some, refl, sym, ap, ◌∙◌, arith}
use Rattle.std.proofs.lemmas.Bool.{eqb-true, eq-eqb, true≢false}
use Rattle.grove_sorts.specs.declared.position.Position.{Position}
use Rattle.grove_sorts.specs.declared.sort.Sort.{Sort}
use Rattle.grove_sorts.specs.Ctor.{positions, sort_in, Rises}
use Rattle.grove_sorts.specs.Position.{position_number, is_same_position}
use Rattle.grove_sorts.proofs.Orders.{position_same, same_position_laws, other_position}
use Rattle.grove_sorts.proofs.Rows.{positions_rise}
use Rattle.grove_edits.specs.declared.edge.Edge.{Edge}
use Rattle.grove_edits.specs.Edge.{IsWellFormed}
use Rattle.grove_edits.proofs.WellFormed.{place_fits}

-- how often a position stands among some
abbrev pub occurs : Position → List (Position × Sort) → ℕ
occurs p [] = 0
occurs p (q ∷ qs) = cond (is_same_position p q.0) 1 0 + occurs p qs

-- a position before all of some does not stand among them
pub occurs_not : (p : Position) (low : ℕ) (qs : List (Position × Sort)) → Rises low qs → position_number p < low → occurs p qs ≡ 0
occurs_not p low [] rises below = refl
occurs_not p low (q ∷ qs) rises below =
    let first = rises.0 in
    let other : is_same_position p q.0 ≡ false = other_position p q.0 (λ e. omega arith) in
    let rest : occurs p qs ≡ 0 = occurs_not p (suc (position_number q.0)) qs rises.1 (omega arith) in
    ap (λ b. cond b 1 0 + occurs p qs) other ∙ ap (λ n. 0 + n) rest

occurs_in : (p : Position) (low : ℕ) (qs : List (Position × Sort)) → Rises low qs → is_some (sort_in qs p) ≡ true → occurs p qs ≡ 1
occurs_in p low [] rises found = absurd (true≢false (sym found))
occurs_in p low (q ∷ qs) rises found = by_test (eqb (position_number q.0) (position_number p)) refl found (occurs_in p (suc (position_number q.0)) qs rises.1) where
  by_test : (b : Bool) → eqb (position_number q.0) (position_number p) ≡ b → is_some (cond b (Some q.1) (sort_in qs p)) ≡ true → (is_some (sort_in qs p) ≡ true → occurs p qs ≡ 1)
      → cond (is_same_position p q.0) 1 0 + occurs p qs ≡ 1
  by_test true here _ later =
      let e = eqb-true (position_number q.0) (position_number p) here in
      let one : p ≡ q.0 = sym (position_same q.0 p here) in
      let same : is_same_position p q.0 ≡ true = ap (is_same_position p) (sym one) ∙ same_position_laws.refl p in
      let rest : occurs p qs ≡ 0 = occurs_not p (suc (position_number q.0)) qs rises.1 (omega arith) in
      ap (λ c. cond c 1 0 + occurs p qs) same ∙ ap (λ n. 1 + n) rest
  by_test false other found later =
      let differs : is_same_position p q.0 ≡ false = other_position p q.0 (λ e. absurd (true≢false (sym (true-eq e) ∙ other))) in
      ap (λ c. cond c 1 0 + occurs p qs) differs ∙ ap (λ n. 0 + n) (later found)
    where
      true-eq : position_number p ≡ position_number q.0 → eqb (position_number q.0) (position_number p) ≡ true
      true-eq e = eq-eqb (position_number q.0) (position_number p) (sym e)

-- the position of a well-formed edge stands once among those of its source
pub occurs_once : (e : Edge) → IsWellFormed e → occurs e.position (positions e.source.ctor) ≡ 1
occurs_once e well = occurs_in e.position 0 (positions e.source.ctor) (positions_rise e.source.ctor) (ap is_some (place_fits e well))
