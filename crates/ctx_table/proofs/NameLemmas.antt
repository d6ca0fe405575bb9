-- Numbers of names: what a new name leaves and what it adds.
use Rattle.std.proofs.Common.{◌≡◌, ℕ, ◌+◌, ◌<◌, ◌≤◌, ◌⊎◌, inl, inr, true, false, cond, List, [], length, Option, None, Some, refl, sym, ap, ◌∙◌, arith, if◌then◌else◌, is_some}
use Rattle.std.proofs.lemmas.Bool.{cases_Bool}
use Rattle.std.proofs.lemmas.Slice.Eq.{bytes_eq-Decides}
use Rattle.std.proofs.lemmas.Map.Text.{is_eq-slice_cmp}
use Rattle.std.specs.BTreeMap.{is_at}
use Rattle.grove_sorts.specs.declared.ident.Ident.{Ident}
use Rattle.grove_sorts.specs.Ident.{ident_bytes, ident_cmp}
use Rattle.grove_sorts.proofs.Identifiers.{ident_exact}
use Rattle.ctx_table.specs.Names.{number_in, AreNumbered, KeepsNumbers}

-- the order finds names equal exactly where they are one
at_is_same : (a b : Ident) → is_at (ident_cmp a) b ≡ true → a ≡ b
at_is_same a b h = ident_exact a b ((bytes_eq-Decides (ident_bytes a) (ident_bytes b)).0 (sym (is_eq-slice_cmp (ident_bytes a) (ident_bytes b)) ∙ h))

at_same : (a : Ident) → is_at (ident_cmp a) a ≡ true
at_same a = is_eq-slice_cmp (ident_bytes a) (ident_bytes a) ∙ (bytes_eq-Decides (ident_bytes a) (ident_bytes a)).1 refl

pub KeepsNumbers-refl : (names : List (Ident × ℕ)) → KeepsNumbers names names
KeepsNumbers-refl names = record {
  longer = omega arith;
  same = λ name number e. e;
  fresh = λ name number none e. absurd (none_is_not number (sym none ∙ e));
}
  where
    none_is_not : (number : ℕ) → None ≡ Some number → ⊥
    none_is_not number e = cc

pub AreNumbered-none : AreNumbered []
AreNumbered-none = record { below = λ name number e. absurd (none_is_not number e); apart = λ a b number e f. absurd (none_is_not number e) }
  where
    none_is_not : (number : ℕ) → None ≡ Some number → ⊥
    none_is_not number e = cc

-- a name that has no number gets the next one
module _ (old new : List (Ident × ℕ)) (name : Ident) (numbered : AreNumbered old) (missing : number_in old name ≡ None)
    (next : ℕ) (next_is : next ≡ length old) (updates : (q : Ident) → number_in new q ≡ cond (is_at (ident_cmp name) q) (Some next) (number_in old q))
    (before : Option ℕ) (before_is : before ≡ number_in old name) (lengths : length new ≡ length old + (if is_some before then 0 else 1)) where
  update : (q : Ident) → number_in new q ≡ cond (is_at (ident_cmp name) q) (Some (length old)) (number_in old q)
  update q = updates q ∙ ap (λ n. cond (is_at (ident_cmp name) q) (Some n) (number_in old q)) next_is

  longer : length new ≡ length old + 1
  longer = lengths ∙ ap (λ b. length old + (if is_some b then 0 else 1)) (before_is ∙ missing)

  there : number_in new name ≡ Some (length old)
  there = update name ∙ ap (λ b. cond b (Some (length old)) (number_in old name)) (at_same name)

  some_injective : (m n : ℕ) → Some m ≡ Some n → m ≡ n
  some_injective m n e = cc

  none_is_not : (number : ℕ) → None ≡ Some number → ⊥
  none_is_not number e = cc

  -- who has a number in new: the new name, or one that had it
  had : (q : Ident) (number : ℕ) → number_in new q ≡ Some number → ((name ≡ q) × (number ≡ length old)) ⊎ (number_in old q ≡ Some number)
  had q number e = by (cases_Bool (is_at (ident_cmp name) q))
    where
      by : (is_at (ident_cmp name) q ≡ true) ⊎ (is_at (ident_cmp name) q ≡ false) → ((name ≡ q) × (number ≡ length old)) ⊎ (number_in old q ≡ Some number)
      by (inl h) = inl (at_is_same name q h, some_injective number (length old) (sym e ∙ update q ∙ ap (λ b. cond b (Some (length old)) (number_in old q)) h))
      by (inr h) = inr (ap (λ b. cond b (Some (length old)) (number_in old q)) (sym h) ∙ sym (update q) ∙ e)

  pub AreNumbered-new : AreNumbered new
  AreNumbered-new = record { below = λ q number e. below q number (had q number e); apart = λ a b number e f. apart a b number (had a number e) (had b number f) }
    where
      below : (q : Ident) (number : ℕ) → ((name ≡ q) × (number ≡ length old)) ⊎ (number_in old q ≡ Some number) → number < length new
      below q number (inl h) = let n = h.1 in omega (arith, n, longer)
      below q number (inr h) = let n = numbered.below q number h in omega (arith, n, longer)

      apart : (a b : Ident) (number : ℕ) → ((name ≡ a) × (number ≡ length old)) ⊎ (number_in old a ≡ Some number) → ((name ≡ b) × (number ≡ length old)) ⊎ (number_in old b ≡ Some number) → a ≡ b
      apart a b number (inl h) (inl k) = sym h.0 ∙ k.0
      apart a b number (inl h) (inr k) = absurd (let n = numbered.below b number k in let m = h.1 in omega (arith, n, m))
      apart a b number (inr h) (inl k) = absurd (let n = numbered.below a number h in let m = k.1 in omega (arith, n, m))
      apart a b number (inr h) (inr k) = numbered.apart a b number h k

  pub KeepsNumbers-new : KeepsNumbers old new
  KeepsNumbers-new = record {
    longer = omega (arith, longer);
    same = λ q number e. same q number e (cases_Bool (is_at (ident_cmp name) q));
    fresh = λ q number none e. fresh q number none (had q number e);
  }
    where
      same : (q : Ident) (number : ℕ) → number_in old q ≡ Some number → (is_at (ident_cmp name) q ≡ true) ⊎ (is_at (ident_cmp name) q ≡ false) → number_in new q ≡ Some number
      same q number e (inl h) = absurd (none_is_not number (sym missing ∙ ap (number_in old) (at_is_same name q h) ∙ e))
      same q number e (inr h) = update q ∙ ap (λ b. cond b (Some (length old)) (number_in old q)) h ∙ e

      fresh : (q : Ident) (number : ℕ) → number_in old q ≡ None → ((name ≡ q) × (number ≡ length old)) ⊎ (number_in old q ≡ Some number) → length old ≤ number
      fresh q number none (inl h) = let n = h.1 in omega (arith, n)
      fresh q number none (inr h) = absurd (none_is_not number (sym none ∙ h))
