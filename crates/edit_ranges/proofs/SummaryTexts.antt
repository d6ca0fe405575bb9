-- The texts of summaries, and of what is none.
use Rattle.std.proofs.Common.{◌≡◌, ℕ, ◌+◌, true, List, [], ◌∷◌, ◌++◌, length, refl, sym, ap, subst, ◌∙◌, arith, append_assoc, append-nil, length-append}
use Rattle.std.proofs.lemmas.Bool.{false≢true}
use Rattle.std.specs.Prelude.{◌&&◌}
use Rattle.text_parts.specs.Separated.{Lacks}
use Rattle.text_parts.proofs.Parts.{Lacks-separated, first_part}
use Rattle.edit_ranges.specs.declared.name_range.NameRange.{NameRange}
use Rattle.edit_ranges.specs.declared.fault.RangeFault.{RangeFault}
use Rattle.edit_ranges.specs.declared.fault.RangeFault.TheVariants.{Syntax, OutOfOrder, Unended}
use Rattle.edit_ranges.specs.Ranges.{is_range, begins_apart, are_ranges}
use Rattle.edit_ranges.specs.Text.{range_text, range_line, summary_text, HasRangeFault, IsMalformed}
use Rattle.edit_ranges.proofs.InOrder.{parts_of, both_hold}
use Rattle.edit_ranges.proofs.RangeTexts.{range_text_injective, Lacks-range_text}

-- the first line of a text
first_line : (r : NameRange) (rs : List NameRange) (x : List ℕ) → summary_text (r ∷ rs) ++ x ≡ range_text r ++ 10 ∷ (summary_text rs ++ x)
first_line r rs x =
    append_assoc (range_line r) (summary_text rs) x ∙ append_assoc (range_text r) (10 ∷ []) (summary_text rs ++ x)

not_nothing : (r : NameRange) (x : List ℕ) → range_text r ++ 10 ∷ x ≡ [] → ⊥
not_nothing r x same = omega (arith, ap length same, length-append (range_text r) (10 ∷ x))

-- of two lists of ranges whose lines begin one text, one goes on where the other ends
data Aligned (a b : List NameRange) (x y : List ℕ) : Type 0 where
  first_longer : (more : List NameRange) → a ≡ b ++ more → y ≡ summary_text more ++ x → Aligned a b x y
  second_longer : (more : List NameRange) → b ≡ a ++ more → x ≡ summary_text more ++ y → Aligned a b x y

aligned_next : (r s : NameRange) (a b : List NameRange) (x y : List ℕ) → r ≡ s → Aligned a b x y → Aligned (r ∷ a) (s ∷ b) x y
aligned_next r s a b x y same (first_longer more is rest) = first_longer more (ap (λ (z : NameRange). z ∷ a) same ∙ ap (λ (zs : List NameRange). s ∷ zs) is) rest
aligned_next r s a b x y same (second_longer more is rest) = second_longer more (ap (λ (z : NameRange). z ∷ b) (sym same) ∙ ap (λ (zs : List NameRange). r ∷ zs) is) rest

aligned : (a b : List NameRange) (x y : List ℕ) → are_ranges a ≡ true → are_ranges b ≡ true → summary_text a ++ x ≡ summary_text b ++ y → Aligned a b x y
aligned [] b x y of_a of_b same = second_longer b refl same
aligned (r ∷ a) [] x y of_a of_b same = first_longer (r ∷ a) refl (sym same)
aligned (r ∷ a) (s ∷ b) x y of_a of_b same =
    let in_a = parts_of r a of_a in
    let in_b = parts_of s b of_b in
    let parts = first_part 10 (range_text r) (range_text s) (summary_text a ++ x) (summary_text b ++ y) (Lacks-range_text r in_a.is_range) (Lacks-range_text s in_b.is_range)
    (sym (first_line r a x) ∙ same ∙ first_line s b y) in
    aligned_next r s a b x y (range_text_injective r s in_a.is_range in_b.is_range parts.0) (aligned a b x y in_a.rest in_b.rest parts.1)

-- nothing more
none_more : (more : List NameRange) (x : List ℕ) → [] ≡ summary_text more ++ x → (more ≡ []) × (x ≡ [])
none_more [] x same = (refl, sym same)
none_more (r ∷ rs) x same = absurd (not_nothing r (summary_text rs ++ x) (sym (first_line r rs x) ∙ sym same))

pub one_text : (a b : List NameRange) → are_ranges a ≡ true → are_ranges b ≡ true → summary_text a ≡ summary_text b → a ≡ b
one_text a b of_a of_b same = by_cases (aligned a b [] [] of_a of_b (ap (λ (t : List ℕ). t ++ []) same)) where
  by_cases : Aligned a b [] [] → a ≡ b
  by_cases (first_longer more is rest) = is ∙ ap (λ (m : List NameRange). b ++ m) (none_more more [] rest).0 ∙ append-nil b
  by_cases (second_longer more is rest) = sym (is ∙ ap (λ (m : List NameRange). a ++ m) (none_more more [] rest).0 ∙ append-nil a)

-- ---- faults

-- where a range stands behind others in order, it may stand there alone
record MayStand (before : List NameRange) (r : NameRange) : Type 0 where
  is_range : is_range r ≡ true
  in_order : are_ranges (before ++ r ∷ []) ≡ true

may_stand : (before : List NameRange) (r : NameRange) (more : List NameRange) → are_ranges (before ++ r ∷ more) ≡ true → MayStand before r
may_stand [] r more h =
    let parts = parts_of r more h in
    record { is_range = parts.is_range; in_order = both_hold (is_range r && true) true (both_hold (is_range r) true parts.is_range refl) refl }
may_stand (x ∷ []) r more h =
    let parts = parts_of x (r ∷ more) h in
    let rest = may_stand [] r more parts.rest in
    record { is_range = rest.is_range; in_order = both_hold (is_range x && begins_apart x (r ∷ [])) (are_ranges (r ∷ [])) (both_hold (is_range x) (begins_apart x (r ∷ [])) parts.is_range parts.apart) rest.in_order }
may_stand (x ∷ y ∷ ys) r more h =
    let parts = parts_of x ((y ∷ ys) ++ r ∷ more) h in
    let rest = may_stand (y ∷ ys) r more parts.rest in
    record {
      is_range = rest.is_range;
      in_order = both_hold (is_range x && begins_apart x (y ∷ ys)) (are_ranges ((y ∷ ys) ++ r ∷ [])) (both_hold (is_range x) (begins_apart x (y ∷ ys)) parts.is_range parts.apart) rest.in_order;
    }

-- a fault is not that of a line that may stand there
no_fault : (before : List NameRange) (rest : List ℕ) (fault : RangeFault) (r : NameRange) (after : List ℕ) → HasRangeFault before rest fault → MayStand before r → rest ≡ range_text r ++ 10 ∷ after → ⊥
no_fault before rest Syntax r after has stand is =
    let parts = first_part 10 has.0 (range_text r) has.1 after has.3 (Lacks-range_text r stand.is_range) (sym has.2 ∙ is) in
    has.4 r stand.is_range parts.0
no_fault before rest OutOfOrder r after has stand is =
    let parts = first_part 10 (range_text has.0) (range_text r) has.1 after (Lacks-range_text has.0 has.3) (Lacks-range_text r stand.is_range) (sym has.2 ∙ is) in
    let same = range_text_injective has.0 r has.3 stand.is_range parts.0 in
    false≢true (sym has.4 ∙ ap (λ (z : NameRange). are_ranges (before ++ z ∷ [])) same ∙ stand.in_order)
no_fault before rest Unended r after has stand is = Lacks-separated 10 (range_text r) after (subst (λ (x : List ℕ). Lacks 10 x) is has.0)

-- nor is it of nothing
fault_of_nothing : (before : List NameRange) (rest : List ℕ) (fault : RangeFault) → HasRangeFault before rest fault → rest ≡ [] → ⊥
fault_of_nothing before rest Syntax has is = omega (arith, ap length (sym has.2 ∙ is), length-append has.0 (10 ∷ has.1))
fault_of_nothing before rest OutOfOrder has is = not_nothing has.0 has.1 (sym has.2 ∙ is)
fault_of_nothing before rest Unended has is = has.1 is

-- no fault stands where ranges in order go on
not_within : (a before : List NameRange) (rest : List ℕ) (fault : RangeFault) (more : List NameRange) (x : List ℕ) → are_ranges a ≡ true → HasRangeFault before rest fault → a ≡ before ++ more → rest ≡ summary_text more ++ x → more ≡ []
not_within a before rest fault [] x of_a has is spells = refl
not_within a before rest fault (r ∷ more) x of_a has is spells =
    absurd (no_fault before rest fault r (summary_text more ++ x) has (may_stand before r more (ap are_ranges (sym is) ∙ of_a)) (spells ∙ first_line r more x))

pub summary_or_fault : (text : List ℕ) (a : List NameRange) (line : ℕ) (fault : RangeFault) → are_ranges a ≡ true → text ≡ summary_text a → IsMalformed text line fault → ⊥
summary_or_fault text a line fault of_a spells bad = by_cases (aligned a bad.before [] bad.rest of_a bad.in_order (append-nil (summary_text a) ∙ sym spells ∙ bad.parts)) where
  by_cases : Aligned a bad.before [] bad.rest → ⊥
  by_cases (first_longer more is rest) =
      let none = not_within a bad.before bad.rest fault more [] of_a bad.has_fault is rest in
      fault_of_nothing bad.before bad.rest fault bad.has_fault (rest ∙ ap (λ (m : List NameRange). summary_text m ++ []) none)
  by_cases (second_longer more is rest) = fault_of_nothing bad.before bad.rest fault bad.has_fault (none_more more bad.rest rest).1

-- at one place there is one fault
same_fault : (before : List NameRange) (rest : List ℕ) (f g : RangeFault) → HasRangeFault before rest f → HasRangeFault before rest g → f ≡ g
same_fault before rest Syntax Syntax one two = refl
same_fault before rest Syntax OutOfOrder one two =
    absurd (one.4 two.0 two.3 (first_part 10 one.0 (range_text two.0) one.1 two.1 one.3 (Lacks-range_text two.0 two.3) (sym one.2 ∙ two.2)).0)
same_fault before rest Syntax Unended one two = absurd (Lacks-separated 10 one.0 one.1 (subst (λ (x : List ℕ). Lacks 10 x) one.2 two.0))
same_fault before rest OutOfOrder Syntax one two =
    absurd (two.4 one.0 one.3 (first_part 10 two.0 (range_text one.0) two.1 one.1 two.3 (Lacks-range_text one.0 one.3) (sym two.2 ∙ one.2)).0)
same_fault before rest OutOfOrder OutOfOrder one two = refl
same_fault before rest OutOfOrder Unended one two = absurd (Lacks-separated 10 (range_text one.0) one.1 (subst (λ (x : List ℕ). Lacks 10 x) one.2 two.0))
same_fault before rest Unended Syntax one two = absurd (Lacks-separated 10 two.0 two.1 (subst (λ (x : List ℕ). Lacks 10 x) two.2 one.0))
same_fault before rest Unended OutOfOrder one two = absurd (Lacks-separated 10 (range_text two.0) two.1 (subst (λ (x : List ℕ). Lacks 10 x) two.2 one.0))
same_fault before rest Unended Unended one two = refl

same_place : (m n : ℕ) (f g : RangeFault) (a b : List NameRange) (x y : List ℕ) → m ≡ length a + 1 → n ≡ length b + 1 → HasRangeFault a x f → HasRangeFault b y g → a ≡ b → x ≡ y → (m ≡ n) × (f ≡ g)
same_place m n f g a b x y of_m of_n one two before rest = (
  of_m ∙ ap (λ (rs : List NameRange). length rs + 1) before ∙ sym of_n,
  same_fault b y f g (subst (λ (rs : List NameRange). HasRangeFault rs y f) before (subst (λ (r : List ℕ). HasRangeFault a r f) rest one)) two,
)

pub one_fault : (text : List ℕ) (m n : ℕ) (f g : RangeFault) → IsMalformed text m f → IsMalformed text n g → (m ≡ n) × (f ≡ g)
one_fault text m n f g one two = by_cases (aligned one.before two.before one.rest two.rest one.in_order two.in_order (sym one.parts ∙ two.parts)) where
  by_cases : Aligned one.before two.before one.rest two.rest → (m ≡ n) × (f ≡ g)
  by_cases (first_longer more is rest) =
      let none = not_within one.before two.before two.rest g more one.rest one.in_order two.has_fault is rest in
      same_place m n f g one.before two.before one.rest two.rest one.number two.number one.has_fault two.has_fault
      (is ∙ ap (λ (rs : List NameRange). two.before ++ rs) none ∙ append-nil two.before)
      (sym (rest ∙ ap (λ (rs : List NameRange). summary_text rs ++ one.rest) none))
  by_cases (second_longer more is rest) =
      let none = not_within two.before one.before one.rest f more two.rest two.in_order one.has_fault is rest in
      same_place m n f g one.before two.before one.rest two.rest one.number two.number one.has_fault two.has_fault
      (sym (is ∙ ap (λ (rs : List NameRange). one.before ++ rs) none ∙ append-nil one.before))
      (rest ∙ ap (λ (rs : List NameRange). summary_text rs ++ two.rest) none)
