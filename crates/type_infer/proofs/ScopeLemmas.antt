-- What names stand for once one is bound, or the innermost one is left.
use Rattle.std.proofs.Common.{◌≡◌, ℕ, ◌⊎◌, inl, inr, Bool, true, false, cond, List, [], ◌∷◌, ◌++◌, Option, None, Some, refl, sym, ap, subst, ◌∙◌}
use Rattle.std.specs.Prelude.{◌==◌}
use Rattle.std.specs.Cmp.Lexicographic.{pointwise}
use Rattle.std.specs.Map.{lookup}
use Rattle.std.specs.Option.{option_flatten}
use Rattle.std.proofs.lemmas.Bool.{cases_Bool}
use Rattle.std.proofs.lemmas.Slice.Eq.{bytes_eq-Decides}
use Rattle.grove_sorts.specs.declared.ident.Ident.{Ident}
use Rattle.grove_sorts.specs.Ident.{ident_bytes}
use Rattle.grove_sorts.proofs.Identifiers.{ident_exact}
use Rattle.type_infer.specs.declared.scope.Bound.{Bound}
use Rattle.type_infer.specs.TreeEquations.{Names, variable_of}
use Rattle.type_infer.specs.Walking.{without_first}
use Rattle.type_infer.specs.Scopes.{kept_for, names_of, Hide, hidden_of, IsScope}

abbrev is_same : Ident → Ident → Bool
is_same a b = pointwise ◌==◌ (ident_bytes a) (ident_bytes b)

same_is : (a b : Ident) → is_same a b ≡ true → a ≡ b
same_is a b h = ident_exact a b ((bytes_eq-Decides (ident_bytes a) (ident_bytes b)).0 h)

pub names_of-push : (bs : List Bound) (b : Bound) → names_of (bs ++ b ∷ []) ≡ (b.name, b.variable) ∷ names_of bs
names_of-push [] b = refl
names_of-push (x ∷ bs) b = ap (λ (ns : Names). ns ++ (x.name, x.variable) ∷ []) (names_of-push bs b)

hidden_of-push : (bs : List Bound) (b : Bound) → hidden_of (bs ++ b ∷ []) ≡ b.hidden ∷ hidden_of bs
hidden_of-push [] b = refl
hidden_of-push (x ∷ bs) b = ap (λ (hs : List (Option ℕ)). hs ++ x.hidden ∷ []) (hidden_of-push bs b)

-- how an entry is written: the name has a new variable, and the others what they had
abbrev Writes : Ident → Option ℕ → (old new : Ident → Option (Option ℕ)) → Type 0
Writes name variable old new = (q : Ident) → new q ≡ cond (is_same name q) (Some variable) (old q)

flat_if : (b : Bool) (x : Option ℕ) (y : Option (Option ℕ)) → option_flatten (cond b (Some x) y) ≡ cond b x (option_flatten y)
flat_if true x y = refl
flat_if false x y = refl

module _ (bound : List Bound) (old new : List (Ident × Option ℕ)) (is : IsScope bound old) where
  -- one more
  pub bound_scope : (b : Bound) (more : List Bound) → more ≡ bound ++ b ∷ [] → b.hidden ≡ kept_for old b.name
      → Writes b.name (Some b.variable) (λ q. lookup (is_same q) old) (λ q. lookup (is_same q) new) → IsScope more new
  bound_scope b more added hidden writes = subst (λ (bs : List Bound). IsScope bs new) (sym added) (record {
    kept = λ q. ap option_flatten (writes q) ∙ flat_if (is_same b.name q) (Some b.variable) (lookup (is_same q) old)
        ∙ ap (λ (x : Option ℕ). cond (is_same b.name q) (Some b.variable) x) (is.kept q)
        ∙ ap (λ (ns : Names). variable_of ns q) (sym (names_of-push bound b));
    hides = subst (λ (ns : Names). Hide ns (hidden_of (bound ++ b ∷ []))) (sym (names_of-push bound b))
        (subst (Hide ((b.name, b.variable) ∷ names_of bound)) (sym (hidden_of-push bound b)) (hidden ∙ is.kept b.name, is.hides));
  })

  -- one less
  pub left_scope : (fewer : List Bound) (b : Bound) → bound ≡ fewer ++ b ∷ [] → Writes b.name b.hidden (λ q. lookup (is_same q) old) (λ q. lookup (is_same q) new) → IsScope fewer new
  left_scope fewer b removed writes = record { kept = λ q. ap option_flatten (writes q) ∙ flat_if (is_same b.name q) b.hidden (lookup (is_same q) old) ∙ by q (cases_Bool (is_same b.name q)); hides = hides.1 }
    where
      names : names_of bound ≡ (b.name, b.variable) ∷ names_of fewer
      names = ap names_of removed ∙ names_of-push fewer b

      hides : Hide ((b.name, b.variable) ∷ names_of fewer) (b.hidden ∷ hidden_of fewer)
      hides = subst (Hide ((b.name, b.variable) ∷ names_of fewer)) (ap hidden_of removed ∙ hidden_of-push fewer b) (subst (λ (ns : Names). Hide ns (hidden_of bound)) names is.hides)

      before : (q : Ident) → kept_for old q ≡ cond (is_same b.name q) (Some b.variable) (variable_of (names_of fewer) q)
      before q = is.kept q ∙ ap (λ (ns : Names). variable_of ns q) names

      by : (q : Ident) → (is_same b.name q ≡ true) ⊎ (is_same b.name q ≡ false) → cond (is_same b.name q) b.hidden (kept_for old q) ≡ variable_of (names_of fewer) q
      by q (inl h) = ap (λ t. cond t b.hidden (kept_for old q)) h ∙ hides.0 ∙ ap (variable_of (names_of fewer)) (same_is b.name q h)
      by q (inr h) = ap (λ t. cond t b.hidden (kept_for old q)) h ∙ before q ∙ ap (λ t. cond t (Some b.variable) (variable_of (names_of fewer) q)) h

  pub left_names : (fewer : List Bound) (b : Bound) → bound ≡ fewer ++ b ∷ [] → names_of fewer ≡ without_first (names_of bound)
  left_names fewer b removed = sym (ap without_first (ap names_of removed ∙ names_of-push fewer b))
