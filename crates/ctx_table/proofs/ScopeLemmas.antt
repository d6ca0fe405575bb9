-- Persistent maps: what a change of one map leaves and what it adds.
use Rattle.std.proofs.Common.{◌≡◌, ◌≢◌, ℕ, ◌+◌, ◌*◌, ◌<◌, ◌⊎◌, inl, inr, Bool, true, false, List, [], ◌∷◌, ◌++◌, length, Option, None, Some, refl, sym, ap, subst, ◌∙◌, arith, zero, suc, ◌-◌, ◌/◌, ◌%◌}
use Rattle.std.proofs.lemmas.Bool.{cases_order}
use Rattle.std.proofs.lemmas.List.{length_push, get_or_append_left, get_or_push}
use Rattle.std.specs.Prelude.{Result, Ok, Err, IfOk, OnOk, OnErr}
use Rattle.text_parts.specs.declared.no_memory.NoMemory.{NoMemory}
use Rattle.type_core.specs.declared.type_id.TypeId.{TypeId}
use Rattle.ctx_table.specs.declared.scopes.Scope.{Scope}
use Rattle.ctx_table.specs.Scopes.{nothing, scope_at, IsScope, half, number_along, type_along, Binds, IsArena, KeepsScopes, Rebinds}

pub KeepsScopes-refl : (scopes : List Scope) → KeepsScopes scopes scopes
KeepsScopes-refl scopes = record { longer = omega arith; same = λ place h. refl }

pub KeepsScopes-push : (scopes : List Scope) (s : Scope) → KeepsScopes scopes (scopes ++ s ∷ [])
KeepsScopes-push scopes s = record {
  longer = (let p = length_push scopes s in omega (arith, p));
  same = λ place h. get_or_append_left scopes (s ∷ []) nothing place h;
}

pub KeepsScopes-trans : (old middle new : List Scope) → KeepsScopes old middle → KeepsScopes middle new → KeepsScopes old new
KeepsScopes-trans old middle new k l =
    let a = k.longer in
    let b = l.longer in record {
      longer = omega (arith, a, b);
      same = λ place h. l.same place (omega (arith, a, h)) ∙ k.same place h;
    }

-- a map stays as it was
pub type_along-kept : (old new : List Scope) → IsArena old → KeepsScopes old new → (way : List Bool) (place : ℕ) → IsScope old place → type_along new place way ≡ type_along old place way
type_along-kept old new arena kept [] place h = ap (λ s. s.typ) (kept.same place h)
type_along-kept old new arena kept (is_odd ∷ way) place h =
    ap (λ s. type_along new (half is_odd s) way) (kept.same place h)
    ∙ type_along-kept old new arena kept way (half is_odd (scope_at old place)) (arena.within place h is_odd)

pub Binds-kept : (old new : List Scope) → IsArena old → KeepsScopes old new → (place number : ℕ) (t : Option TypeId) → IsScope old place → Binds old place number t → Binds new place number t
Binds-kept old new arena kept place number t h binds = λ way e. type_along-kept old new arena kept way place h ∙ binds way e

-- the first map has nothing
type_along-first : (scopes : List Scope) → IsArena scopes → (way : List Bool) → type_along scopes 0 way ≡ None
type_along-first scopes arena [] = ap (λ s. s.typ) arena.first
type_along-first scopes arena (true ∷ way) = ap (λ s. type_along scopes (half true s) way) arena.first ∙ type_along-first scopes arena way
type_along-first scopes arena (false ∷ way) = ap (λ s. type_along scopes (half false s) way) arena.first ∙ type_along-first scopes arena way

pub Binds-first : (scopes : List Scope) → IsArena scopes → (number : ℕ) → Binds scopes 0 number None
Binds-first scopes arena number = λ way e. type_along-first scopes arena way

-- the list of one node
pub IsArena-one : IsArena (nothing ∷ [])
IsArena-one = record {
  some = omega arith;
  first = refl;
  within = λ place h is_odd. by place h is_odd;
}
  where
    by : (place : ℕ) → IsScope (nothing ∷ []) place → (is_odd : Bool) → IsScope (nothing ∷ []) (half is_odd (scope_at (nothing ∷ []) place))
    by zero h true = omega arith
    by zero h false = omega arith
    by (suc n) h is_odd = absurd (omega (arith, h))

-- one more node, which leads to nodes of the list
pub IsArena-push : (scopes : List Scope) (s : Scope) → IsArena scopes → ((is_odd : Bool) → IsScope scopes (half is_odd s)) → IsArena (scopes ++ s ∷ [])
IsArena-push scopes s arena leads = record {
  some = (let p = length_push scopes s in omega (arith, p));
  first = get_or_append_left scopes (s ∷ []) nothing 0 arena.some ∙ arena.first;
  within = λ place h is_odd. by place h is_odd (cases_order place (length scopes));
}
  where
    long : length (scopes ++ s ∷ []) ≡ length scopes + 1
    long = let p = length_push scopes s in omega (arith, p)

    by : (place : ℕ) → IsScope (scopes ++ s ∷ []) place → (is_odd : Bool) → (place ≡ length scopes) ⊎ ((place < length scopes) ⊎ (length scopes < place))
        → IsScope (scopes ++ s ∷ []) (half is_odd (scope_at (scopes ++ s ∷ []) place))
    by place h is_odd (inl e) =
        let w = leads is_odd in
        subst (λ k. IsScope (scopes ++ s ∷ []) (half is_odd (scope_at (scopes ++ s ∷ []) k))) (sym e)
        (subst (λ m. IsScope (scopes ++ s ∷ []) (half is_odd m)) (sym (get_or_push scopes s nothing (length scopes) refl)) (omega (arith, w, long)))
    by place h is_odd (inr (inl lt)) =
        let w = arena.within place lt is_odd in
        subst (λ m. IsScope (scopes ++ s ∷ []) (half is_odd m)) (sym (get_or_append_left scopes (s ∷ []) nothing place lt)) (omega (arith, w, long))
    by place h is_odd (inr (inr gt)) = absurd (omega (arith, h, gt, long))

-- one step down
pub Binds-odd : (scopes : List Scope) (place number rest : ℕ) (t : Option TypeId) → number ≡ rest * 2 + 1 → Binds scopes place number t → Binds scopes (scope_at scopes place).odd rest t
Binds-odd scopes place number rest t e binds = λ way w. binds (true ∷ way) (omega (arith, e, w))

pub Binds-even : (scopes : List Scope) (place number rest : ℕ) (t : Option TypeId) → number ≡ rest * 2 + 2 → Binds scopes place number t → Binds scopes (scope_at scopes place).even rest t
Binds-even scopes place number rest t e binds = λ way w. binds (false ∷ way) (omega (arith, e, w))

pub Binds-here : (scopes : List Scope) (place number : ℕ) (t : Option TypeId) → number ≡ 0 → Binds scopes place number t → (scope_at scopes place).typ ≡ t
Binds-here scopes place number t e binds = binds [] (sym e)

-- one step down, by a remainder
by_remainder : (number : ℕ) → (number % 2 ≡ 1) ⊎ (number % 2 ≡ 0)
by_remainder number = by (cases_order (number % 2) 1)
  where
    by : (number % 2 ≡ 1) ⊎ ((number % 2 < 1) ⊎ (1 < number % 2)) → (number % 2 ≡ 1) ⊎ (number % 2 ≡ 0)
    by (inl h) = inl h
    by (inr (inl h)) = inr (omega (arith, h))
    by (inr (inr h)) = absurd (omega (arith, h))

pub Binds-half : (scopes : List Scope) (place number sub : ℕ) (t : Option TypeId) → 0 < number → (number % 2 ≡ 1 → sub ≡ (scope_at scopes place).odd)
    → (number % 2 ≡ 0 → sub ≡ (scope_at scopes place).even) → Binds scopes place number t → Binds scopes sub ((number - 1) / 2) t
Binds-half scopes place number sub t positive odd even binds = by (by_remainder number)
  where
    by : (number % 2 ≡ 1) ⊎ (number % 2 ≡ 0) → Binds scopes sub ((number - 1) / 2) t
    by (inl h) = subst (λ k. Binds scopes k ((number - 1) / 2) t) (sym (odd h)) (Binds-odd scopes place number ((number - 1) / 2) t (omega (arith, h, positive)) binds)
    by (inr h) = subst (λ k. Binds scopes k ((number - 1) / 2) t) (sym (even h)) (Binds-even scopes place number ((number - 1) / 2) t (omega (arith, h, positive)) binds)

pub within-half : (scopes : List Scope) → IsArena scopes → (place number sub : ℕ) → IsScope scopes place → (number % 2 ≡ 1 → sub ≡ (scope_at scopes place).odd)
    → (number % 2 ≡ 0 → sub ≡ (scope_at scopes place).even) → IsScope scopes sub
within-half scopes arena place number sub h odd even = by (by_remainder number)
  where
    by : (number % 2 ≡ 1) ⊎ (number % 2 ≡ 0) → IsScope scopes sub
    by (inl e) = subst (IsScope scopes) (sym (odd e)) (arena.within place h true)
    by (inr e) = subst (IsScope scopes) (sym (even e)) (arena.within place h false)

-- a changed node at the end of the list
module _ (old : List Scope) (arena : IsArena old) (root number : ℕ) (t : TypeId) (within : IsScope old root) where
  abbrev here : Scope
  here = scope_at old root

  -- at the number 0
  module _ (changed : Scope) (typ : changed.typ ≡ Some t) (odd : changed.odd ≡ here.odd) (even : changed.even ≡ here.even) (zero_number : number ≡ 0) where
    abbrev added : List Scope
    added = old ++ changed ∷ []

    at : scope_at added (length old) ≡ changed
    at = get_or_push old changed nothing (length old) refl

    leads_zero : (is_odd : Bool) → half is_odd changed ≡ half is_odd here
    leads_zero true = odd
    leads_zero false = even

    pub arena_zero : IsArena added
    arena_zero = IsArena-push old changed arena (λ is_odd. subst (IsScope old) (sym (leads_zero is_odd)) (arena.within root within is_odd))

    below_zero : (is_odd : Bool) (way : List Bool) → type_along added (half is_odd (scope_at added (length old))) way ≡ type_along old (half is_odd here) way
    below_zero is_odd way =
        ap (λ s. type_along added (half is_odd s) way) at ∙ ap (λ k. type_along added k way) (leads_zero is_odd)
        ∙ type_along-kept old added arena (KeepsScopes-push old changed) way (half is_odd here) (arena.within root within is_odd)

    pub rebinds_zero : Rebinds old added root number t (length old)
    rebinds_zero = record { within = (let p = length_push old changed in omega (arith, p)); bound = bound; others = others }
      where
        bound : Binds added (length old) number (Some t)
        bound [] e = ap (λ s. s.typ) at ∙ typ
        bound (true ∷ way) e = absurd (omega (arith, e, zero_number))
        bound (false ∷ way) e = absurd (omega (arith, e, zero_number))

        others : (n : ℕ) (u : Option TypeId) → n ≢ number → Binds old root n u → Binds added (length old) n u
        others n u ne binds [] e = absurd (ne (sym e ∙ sym zero_number))
        others n u ne binds (true ∷ way) e = below_zero true way ∙ binds (true ∷ way) e
        others n u ne binds (false ∷ way) e = below_zero false way ∙ binds (false ∷ way) e

-- the number with this half
abbrev stepped : Bool → ℕ → ℕ
stepped true rest = rest * 2 + 1
stepped false rest = rest * 2 + 2

number_along-stepped : (b : Bool) (way : List Bool) → number_along (b ∷ way) ≡ stepped b (number_along way)
number_along-stepped true way = refl
number_along-stepped false way = refl

stepped-same : (b c : Bool) (m n : ℕ) → stepped b m ≡ stepped c n → (b ≡ c) × (m ≡ n)
stepped-same true true m n e = (refl, omega (arith, e))
stepped-same true false m n e = absurd (omega (arith, e))
stepped-same false true m n e = absurd (omega (arith, e))
stepped-same false false m n e = (refl, omega (arith, e))

stepped_is_positive : (b : Bool) (m : ℕ) → 0 ≡ stepped b m → ⊥
stepped_is_positive true m e = absurd (omega (arith, e))
stepped_is_positive false m e = absurd (omega (arith, e))

-- how a node differs from another: one half leads to sub
abbrev Halves : Scope → Scope → Bool → ℕ → Type 0
Halves here changed is_odd sub = (b : Bool) → ((b ≡ is_odd) × (half b changed ≡ sub)) ⊎ (half b changed ≡ half b here)

-- above 0, where the map of one half was changed before
module _ (old : List Scope) (arena : IsArena old) (root number : ℕ) (t : TypeId) (within : IsScope old root)
    (middle : List Scope) (middle_arena : IsArena middle) (kept : KeepsScopes old middle) (is_odd : Bool) (rest sub : ℕ) (number_is : number ≡ stepped is_odd rest)
    (sub_rebinds : Rebinds old middle (half is_odd (scope_at old root)) rest t sub)
    (changed : Scope) (typ : changed.typ ≡ (scope_at old root).typ) (halves : Halves (scope_at old root) changed is_odd sub) where
  abbrev grown : List Scope
  grown = middle ++ changed ∷ []

  at_grown : scope_at grown (length middle) ≡ changed
  at_grown = get_or_push middle changed nothing (length middle) refl

  pub arena_half : IsArena grown
  arena_half = IsArena-push middle changed middle_arena (λ b. by b (halves b))
    where
      by : (b : Bool) → ((b ≡ is_odd) × (half b changed ≡ sub)) ⊎ (half b changed ≡ half b (scope_at old root)) → IsScope middle (half b changed)
      by b (inl h) = subst (IsScope middle) (sym h.1) sub_rebinds.within
      by b (inr h) =
          let w = arena.within root within b in
          let k = kept.longer in subst (IsScope middle) (sym h) (omega (arith, w, k))

  pub kept_grown : KeepsScopes old grown
  kept_grown = KeepsScopes-trans old middle grown kept (KeepsScopes-push middle changed)

  -- below the changed half and below the other one
  below_sub : (b : Bool) (way : List Bool) → half b changed ≡ sub → type_along grown (length middle) (b ∷ way) ≡ type_along middle sub way
  below_sub b way h =
      ap (λ s. type_along grown (half b s) way) at_grown ∙ ap (λ k. type_along grown k way) h
      ∙ type_along-kept middle grown middle_arena (KeepsScopes-push middle changed) way sub sub_rebinds.within

  below_other : (b : Bool) (way : List Bool) → half b changed ≡ half b (scope_at old root) → type_along grown (length middle) (b ∷ way) ≡ type_along old root (b ∷ way)
  below_other b way h =
      ap (λ s. type_along grown (half b s) way) at_grown ∙ ap (λ k. type_along grown k way) h
      ∙ type_along-kept old grown arena kept_grown way (half b (scope_at old root)) (arena.within root within b)

  -- a way to the number goes into the changed half
  into_half : (b : Bool) (way : List Bool) → number_along (b ∷ way) ≡ number → (b ≡ is_odd) × (number_along way ≡ rest)
  into_half b way e = stepped-same b is_odd (number_along way) rest (sym (number_along-stepped b way) ∙ e ∙ number_is)

  module _ (changed_half : half is_odd changed ≡ sub) where
    bound_half : (way : List Bool) → number_along way ≡ number → type_along grown (length middle) way ≡ Some t
    bound_half [] e = absurd (stepped_is_positive is_odd rest (e ∙ number_is))
    bound_half (b ∷ way) e =
        let i = into_half b way e in below_sub b way (ap (λ c. half c changed) i.0 ∙ changed_half) ∙ sub_rebinds.bound way i.1

    others_half : (n : ℕ) (u : Option TypeId) → n ≢ number → Binds old root n u → (way : List Bool) → number_along way ≡ n → type_along grown (length middle) way ≡ u
    others_half n u ne binds [] e = ap (λ s. s.typ) at_grown ∙ typ ∙ binds [] e
    others_half n u ne binds (b ∷ way) e = by (halves b)
      where
        n_is : n ≡ stepped b (number_along way)
        n_is = sym e ∙ number_along-stepped b way

        by : ((b ≡ is_odd) × (half b changed ≡ sub)) ⊎ (half b changed ≡ half b (scope_at old root)) → type_along grown (length middle) (b ∷ way) ≡ u
        by (inl h) =
            below_sub b way h.1
            ∙ sub_rebinds.others (number_along way) u
            (λ q. ne (n_is ∙ ap (stepped b) q ∙ ap (λ c. stepped c rest) h.0 ∙ sym number_is))
            (λ w v. binds (is_odd ∷ w) (number_along-stepped is_odd w ∙ ap (stepped is_odd) v ∙ ap (λ c. stepped c (number_along way)) (sym h.0) ∙ sym n_is))
            way refl
        by (inr h) = below_other b way h ∙ binds (b ∷ way) e

    pub rebinds_half : Rebinds old grown root number t (length middle)
    rebinds_half = record { within = (let p = length_push middle changed in omega (arith, p)); bound = bound_half; others = others_half }

-- what a change that grew old to new left and made
pub record Bound (old new : List Scope) (root number : ℕ) (t : TypeId) (place : ℕ) : Type 0 where
  pub arena : IsArena new
  pub kept : KeepsScopes old new
  pub map : Rebinds old new root number t place

pub bound_zero : (old new : List Scope) (root number : ℕ) (t : TypeId) (scope : Scope) (place : ℕ) → IsArena old → IsScope old root → scope ≡ scope_at old root → number ≡ 0
    → place ≡ length old → new ≡ old ++ record { typ = Some t; odd = scope.odd; even = scope.even } ∷ [] → Bound old new root number t place
bound_zero old new root number t scope place arena within scope_is number_is place_is new_is =
    let changed : Scope = record { typ = Some t; odd = scope.odd; even = scope.even } in
    let at_end : Bound old (old ++ changed ∷ []) root number t (length old) = record {
      arena = arena_zero old arena root number t within changed refl (ap (λ s. s.odd) scope_is) (ap (λ s. s.even) scope_is) number_is;
      kept = KeepsScopes-push old changed;
      map = rebinds_zero old arena root number t within changed refl (ap (λ s. s.odd) scope_is) (ap (λ s. s.even) scope_is) number_is;
    } in subst (λ xs. Bound old xs root number t place) (sym new_is) (subst (Bound old (old ++ changed ∷ []) root number t) (sym place_is) at_end)

pub bound_odd : (old middle new : List Scope) (root number rest : ℕ) (t : TypeId) (scope : Scope) (sub place : ℕ) → IsArena old → IsScope old root → scope ≡ scope_at old root → number ≡ rest * 2 + 1
    → IsArena middle → KeepsScopes old middle → Rebinds old middle scope.odd rest t sub
    → place ≡ length middle → new ≡ middle ++ record { typ = scope.typ; odd = sub; even = scope.even } ∷ [] → Bound old new root number t place
bound_odd old middle new root number rest t scope sub place arena within scope_is number_is middle_arena kept rebinds place_is new_is =
    let changed : Scope = record { typ = scope.typ; odd = sub; even = scope.even } in
    let sub_rebinds = subst (λ s. Rebinds old middle s.odd rest t sub) scope_is rebinds in
    let at_end : Bound old (middle ++ changed ∷ []) root number t (length middle) = record {
      arena = arena_half old arena root number t within middle middle_arena kept true rest sub number_is sub_rebinds changed (ap (λ s. s.typ) scope_is) halves;
      kept = KeepsScopes-trans old middle (middle ++ changed ∷ []) kept (KeepsScopes-push middle changed);
      map = rebinds_half old arena root number t within middle middle_arena kept true rest sub number_is sub_rebinds changed (ap (λ s. s.typ) scope_is) halves refl;
    } in subst (λ xs. Bound old xs root number t place) (sym new_is) (subst (Bound old (middle ++ changed ∷ []) root number t) (sym place_is) at_end)
  where
    halves : Halves (scope_at old root) (record { typ = scope.typ; odd = sub; even = scope.even }) true sub
    halves true = inl (refl, refl)
    halves false = inr (ap (λ s. s.even) scope_is)

pub bound_even : (old middle new : List Scope) (root number rest : ℕ) (t : TypeId) (scope : Scope) (sub place : ℕ) → IsArena old → IsScope old root → scope ≡ scope_at old root → number ≡ rest * 2 + 2
    → IsArena middle → KeepsScopes old middle → Rebinds old middle scope.even rest t sub
    → place ≡ length middle → new ≡ middle ++ record { typ = scope.typ; odd = scope.odd; even = sub } ∷ [] → Bound old new root number t place
bound_even old middle new root number rest t scope sub place arena within scope_is number_is middle_arena kept rebinds place_is new_is =
    let changed : Scope = record { typ = scope.typ; odd = scope.odd; even = sub } in
    let sub_rebinds = subst (λ s. Rebinds old middle s.even rest t sub) scope_is rebinds in
    let at_end : Bound old (middle ++ changed ∷ []) root number t (length middle) = record {
      arena = arena_half old arena root number t within middle middle_arena kept false rest sub number_is sub_rebinds changed (ap (λ s. s.typ) scope_is) halves;
      kept = KeepsScopes-trans old middle (middle ++ changed ∷ []) kept (KeepsScopes-push middle changed);
      map = rebinds_half old arena root number t within middle middle_arena kept false rest sub number_is sub_rebinds changed (ap (λ s. s.typ) scope_is) halves refl;
    } in subst (λ xs. Bound old xs root number t place) (sym new_is) (subst (Bound old (middle ++ changed ∷ []) root number t) (sym place_is) at_end)
  where
    halves : Halves (scope_at old root) (record { typ = scope.typ; odd = scope.odd; even = sub }) false sub
    halves true = inr (ap (λ s. s.odd) scope_is)
    halves false = inl (refl, refl)

-- what stands where the last node was put, or found no memory
module _ (old middle new : List Scope) (root number : ℕ) (t : TypeId) (changed : Scope) (arena : IsArena middle)
    (make : (place : ℕ) → place ≡ length middle → new ≡ middle ++ changed ∷ [] → Bound old new root number t place) where
  pub settled_arena : (r : Result ℕ NoMemory) → IfOk r (λ place. place ≡ length middle) → OnOk r (new ≡ middle ++ changed ∷ []) → OnErr r (new ≡ middle) → IsArena new
  settled_arena (Ok place) place_is put unchanged = (make place place_is put).arena
  settled_arena (Err e) place_is put unchanged = subst IsArena (sym unchanged) arena

  pub settled_map : (r : Result ℕ NoMemory) → IfOk r (λ place. place ≡ length middle) → OnOk r (new ≡ middle ++ changed ∷ []) → IfOk r (Rebinds old new root number t)
  settled_map (Ok place) place_is put = (make place place_is put).map
  settled_map (Err e) place_is put = tt

-- the halves of a node that was read
pub within_odd : (scopes : List Scope) (root : ℕ) (scope : Scope) → IsArena scopes → IsScope scopes root → scope ≡ scope_at scopes root → IsScope scopes scope.odd
within_odd scopes root scope arena within is = subst (λ s. IsScope scopes s.odd) (sym is) (arena.within root within true)

pub within_even : (scopes : List Scope) (root : ℕ) (scope : Scope) → IsArena scopes → IsScope scopes root → scope ≡ scope_at scopes root → IsScope scopes scope.even
within_even scopes root scope arena within is = subst (λ s. IsScope scopes s.even) (sym is) (arena.within root within false)
