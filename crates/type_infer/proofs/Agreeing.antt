-- What a form says where the variables at its positions are known.
use Rattle.std.proofs.Common.{◌≡◌, ℕ, ◌+◌, List, [], ◌∷◌, ◌++◌, length, map, drop, Option, refl, sym, ap, ◌∙◌}
use Rattle.std.specs.Prelude.{if◌then◌else◌}
use Rattle.std.proofs.Math.Path.{fun_ext}
use Rattle.grove_sorts.specs.declared.ctor.Ctor.{Ctor}
use Rattle.grove_sorts.specs.declared.ctor.Ctor.TheVariants as ctor
use Rattle.grove_sorts.specs.declared.position.Position.{Position}
use Rattle.grove_sorts.specs.declared.sort.Sort.{Sort}
use Rattle.grove_sorts.specs.Ctor.{positions}
use Rattle.grove_sorts.specs.Position.{is_same_position}
use Rattle.grove_terms.specs.Forest.{Forest}
use Rattle.type_infer.specs.Terms.{Term, Variable}
use Rattle.type_infer.specs.Rows.{StandAt}
use Rattle.type_infer.specs.TreeEquations.{first_variable, line_at, form_equations}
use Rattle.type_infer.specs.Walking.{five, at_position, form_places}
use Rattle.type_infer.proofs.Lines.{firsts}

-- two have the same at some positions
abbrev pub AgreeAt : (Position → ℕ) → (Position → ℕ) → List (Position × Sort) → Type 0
AgreeAt l k [] = Unit {0}
AgreeAt l k (p ∷ ps) = (l p.0 ≡ k p.0) × AgreeAt l k ps

pub agreeing : (l k : Position → ℕ) (ps : List (Position × Sort)) (vs : List ℕ) → StandAt l ps vs → StandAt k ps vs → AgreeAt l k ps
agreeing l k [] vs h g = tt
agreeing l k (p ∷ ps) [] h g = absurd h
agreeing l k (p ∷ ps) (v ∷ vs) h g = (h.0 ∙ sym g.0, agreeing l k ps vs h.1 g.1)

-- ---- a form asks for nothing but its positions

-- what is asked for at some positions, and 0 at each other
abbrev asked_at : (Position → ℕ) → List (Position × Sort) → Position → ℕ
asked_at l [] p = 0
asked_at l (q ∷ qs) p = if is_same_position q.0 p then l q.0 else asked_at l qs p

asked_alike : (l k : Position → ℕ) (ps : List (Position × Sort)) → AgreeAt l k ps → (p : Position) → asked_at l ps p ≡ asked_at k ps p
asked_alike l k [] h p = refl
asked_alike l k (q ∷ qs) h p =
    ap (λ (n : ℕ). if is_same_position q.0 p then n else asked_at l qs p) h.0
    ∙ ap (λ (n : ℕ). if is_same_position q.0 p then k q.0 else n) (asked_alike l k qs h.1 p)

equations_asked : (c : Ctor) (l : Position → ℕ) (x y z : Term) (b : Option ℕ)
    → form_equations c (λ p. Variable (l p)) x y z b ≡ form_equations c (λ p. Variable (asked_at l (positions c) p)) x y z b
equations_asked ctor.Root l x y z b = refl
equations_asked _ l x y z b = refl

pub equations_agree : (c : Ctor) (l k : Position → ℕ) (x y z : Term) (b : Option ℕ) → AgreeAt l k (positions c)
    → form_equations c (λ p. Variable (l p)) x y z b ≡ form_equations c (λ p. Variable (k p)) x y z b
equations_agree c l k x y z b h =
    equations_asked c l x y z b
    ∙ ap (λ (asked : Position → ℕ). form_equations c (λ p. Variable (asked p)) x y z b) (fun_ext (asked_alike l k (positions c) h))
    ∙ sym (equations_asked c k x y z b)

places_asked : (c : Ctor) (l : Position → ℕ) (x : ℕ) → form_places c l x ≡ form_places c (asked_at l (positions c)) x
places_asked ctor.Root l x = refl
places_asked _ l x = refl

pub places_agree : (c : Ctor) (l k : Position → ℕ) (x : ℕ) → AgreeAt l k (positions c) → form_places c l x ≡ form_places c k x
places_agree c l k x h =
    places_asked c l x ∙ ap (λ (asked : Position → ℕ). form_places c asked x) (fun_ext (asked_alike l k (positions c) h)) ∙ sym (places_asked c k x)

-- ---- what stands at the positions of a form

-- what a function has at some positions stands there, whatever follows
stands_there : (at : Position → ℕ) (ps : List (Position × Sort)) (more : List ℕ) → StandAt at ps (map (λ (p : Position × Sort). at p.0) ps ++ more)
stands_there at [] more = tt
stands_there at (p ∷ ps) more = (refl, stands_there at ps more)

-- the variables that are read from a row stand at the positions
pub row_stands : (c : Ctor) (a b d e g : ℕ) → StandAt (at_position (positions c) (a ∷ b ∷ d ∷ e ∷ g ∷ [])) (positions c) (a ∷ b ∷ d ∷ e ∷ g ∷ [])
row_stands ctor.Root a b d e g = (refl, tt)
row_stands c a b d e g = stands_there (at_position (positions c) (a ∷ b ∷ d ∷ e ∷ g ∷ [])) (positions c) (drop (length (positions c)) (a ∷ b ∷ d ∷ e ∷ g ∷ []))

-- those of the lines of the positions do, too
pub lines_stand : (c : Ctor) (f : Forest) (line : ℕ) (vs : List ℕ) → StandAt (λ p. first_variable (line_at c f line p)) (positions c) (five (firsts f (positions c) (line + 1) ++ vs))
lines_stand ctor.Root f line vs = (refl, tt)
lines_stand c f line vs =
    stands_there (λ p. first_variable (line_at c f line p)) (positions c) (drop (length (positions c)) (five (firsts f (positions c) (line + 1) ++ vs)))

pub row_agrees : (c : Ctor) (f : Forest) (line : ℕ) (vs : List ℕ)
    → AgreeAt (at_position (positions c) (five (firsts f (positions c) (line + 1) ++ vs))) (λ p. first_variable (line_at c f line p)) (positions c)
row_agrees c f line vs =
    agreeing _ _ (positions c) (five (firsts f (positions c) (line + 1) ++ vs)) (row_stands c _ _ _ _ _) (lines_stand c f line vs)
