-- Links, and the contexts that they stand for.
use Rattle.std.proofs.Common.{◌≡◌, ℕ, ◌+◌, ◌<◌, ◌⊎◌, Bool, true, List, [], ◌∷◌, ◌++◌, length, get_or, fold, refl, sym, ap, subst, ◌∙◌, inl, inr, arith, true≢false, zero, suc}
use Rattle.std.proofs.lemmas.Bool.{cases_order}
use Rattle.std.proofs.lemmas.List.{length_push, get_or_append_left, get_or_push, get_or_default}
use Rattle.std.proofs.lemmas.List.Sums.{fold-append}
use Rattle.std.proofs.lemmas.Map.Keys.{apart_from_distinct}
use Rattle.std.specs.List.{IsDistinct}
use Rattle.grove_sorts.specs.declared.ident.Ident.{Ident}
use Rattle.type_core.specs.declared.type_id.TypeId.{TypeId}
use Rattle.ctx_table.specs.declared.link.Link.{Link}
use Rattle.ctx_table.specs.Context.{Context}
use Rattle.ctx_table.specs.CtxTable.{context_at, KeepsContexts, HasAdded, AreDistinct}
use Rattle.ctx_table.proofs.LinkEq.{link_same}
use Rattle.ctx_table.specs.Links.{context_of, contexts_of, StandOnce, IsTable, HasAddedLink}

-- one more link
abbrev add_context : List Context → Link → List Context
add_context table l = table ++ context_of table l ∷ []

length-fold : (cs : List Context) (ls : List Link) → length (fold add_context cs ls) ≡ length cs + length ls
length-fold cs [] = omega arith
length-fold cs (l ∷ ls) =
    let e = length-fold (add_context cs l) ls in
    let p = length_push cs (context_of cs l) in omega (arith, e, p)

pub length-contexts_of : (ls : List Link) → length (contexts_of ls) ≡ length ls + 1
length-contexts_of ls = let e = length-fold ([] ∷ []) ls in omega (arith, e)

-- the contexts that were there stay
context_at-fold : (cs : List Context) (ls : List Link) (i : ℕ) → i < length cs → get_or (fold add_context cs ls) i [] ≡ get_or cs i []
context_at-fold cs [] i h = refl
context_at-fold cs (l ∷ ls) i h =
    let p = length_push cs (context_of cs l) in
    context_at-fold (add_context cs l) ls i (omega (arith, p, h)) ∙ get_or_append_left cs (context_of cs l ∷ []) [] i h

-- a link's context is settled by that around it
context_of-same : (cs ds : List Context) (l : Link) → get_or ds l.outer.0 [] ≡ get_or cs l.outer.0 [] → context_of ds l ≡ context_of cs l
context_of-same cs ds l e = ap (λ c. (l.name, l.typ) ∷ c) e

-- each link has its context at its place
context_at-fold_here : (cs : List Context) (ls : List Link) (i : ℕ) (d : Link) → i < length ls → (get_or ls i d).outer.0 < length cs + i
    → get_or (fold add_context cs ls) (length cs + i) [] ≡ context_of (fold add_context cs ls) (get_or ls i d)
context_at-fold_here cs [] i d h before = absurd (omega (arith, h))
context_at-fold_here cs (l ∷ ls) zero d h before =
    let p = length_push cs (context_of cs l) in
    let here : get_or (fold add_context (add_context cs l) ls) (length cs) [] ≡ context_of cs l = context_at-fold (add_context cs l) ls (length cs) (omega (arith, p)) ∙ get_or_push cs (context_of cs l) [] (length cs) refl in
    let e : length cs + 0 ≡ length cs = omega arith in
    let below : l.outer.0 < length cs = omega (arith, before) in
    subst (λ k. get_or (fold add_context (add_context cs l) ls) k [] ≡ context_of (fold add_context (add_context cs l) ls) l) (sym e)
    (here ∙ sym (context_of-same cs (fold add_context (add_context cs l) ls) l
    (context_at-fold (add_context cs l) ls l.outer.0 (omega (arith, p, below)) ∙ get_or_append_left cs (context_of cs l ∷ []) [] l.outer.0 below)))
context_at-fold_here cs (l ∷ ls) (suc i) d h before =
    let e : length (add_context cs l) + i ≡ length cs + suc i = (let p = length_push cs (context_of cs l) in omega (arith, p)) in
    subst (λ k. get_or (fold add_context (add_context cs l) ls) k [] ≡ context_of (fold add_context (add_context cs l) ls) (get_or ls i d)) e
    (context_at-fold_here (add_context cs l) ls i d (omega (arith, h)) (omega (arith, before, e)))

pub context_at-contexts_of : (ls : List Link) → IsTable ls → (i : ℕ) (d : Link) → i < length ls → get_or (contexts_of ls) (i + 1) [] ≡ context_of (contexts_of ls) (get_or ls i d)
context_at-contexts_of ls table i d h =
    let e : 1 + i ≡ i + 1 = omega arith in
    let b = table.outer_before i d h in
    subst (λ k. get_or (contexts_of ls) k [] ≡ context_of (contexts_of ls) (get_or ls i d)) e
    (context_at-fold_here ([] ∷ []) ls i d h (omega (arith, b)))

-- the empty context stands first
pub empty_context : (ls : List Link) (table : List Context) → contexts_of ls ≡ table → get_or table 0 [] ≡ []
empty_context ls table view =
    ap (λ t. get_or t 0 []) (sym view) ∙ context_at-fold ([] ∷ []) ls 0 (omega arith)

pub KeepsContexts-push : (cs : List Context) (c : Context) → KeepsContexts cs (cs ++ c ∷ [])
KeepsContexts-push cs c = record {
  longer = (let p = length_push cs c in omega (arith, p));
  contexts = λ id h. get_or_append_left cs (c ∷ []) [] id.0 h;
}

pub KeepsContexts-refl : (cs : List Context) → KeepsContexts cs cs
KeepsContexts-refl cs = record { longer = omega arith; contexts = λ id h. refl }

KeepsContexts-added : (c : Context) (old new : List Context) → HasAdded c old new → KeepsContexts old new
KeepsContexts-added c old new (inl e) = subst (KeepsContexts old) (sym e) (KeepsContexts-refl old)
KeepsContexts-added c old new (inr e) = subst (KeepsContexts old) (sym e) (KeepsContexts-push old c)

module _ (eq : Link → Link → Bool) (reflexive : (l : Link) → eq l l ≡ true) where
  -- the links that a set holds stand once each
  pub StandOnce-from_distinct : (ls : List Link) → IsDistinct eq ls → StandOnce ls
  StandOnce-from_distinct ls apart i j d hi hj e = by (cases_order i j)
    where
      clash : (k m : ℕ) → k < m → m < length ls → get_or ls k d ≡ get_or ls m d → ⊥
      clash k m h hm same =
          true≢false (sym (reflexive (get_or ls m d)) ∙ ap (λ l. eq l (get_or ls m d)) (sym same) ∙ apart_from_distinct eq ls k m d apart h hm)

      by : (i ≡ j) ⊎ ((i < j) ⊎ (j < i)) → i ≡ j
      by (inl same) = same
      by (inr (inl lt)) = absurd (clash i j lt hj e)
      by (inr (inr lt)) = absurd (clash j i lt hi (sym e))

IsTable-push : (ls : List Link) (l : Link) → IsTable ls → StandOnce (ls ++ l ∷ []) → l.outer.0 < length ls + 1 → IsTable (ls ++ l ∷ [])
IsTable-push ls l links once before = record {
  once = once;
  outer_before = λ i d h. by i d h (cases_order i (length ls));
}
  where
    by : (i : ℕ) (d : Link) → i < length (ls ++ l ∷ []) → (i ≡ length ls) ⊎ ((i < length ls) ⊎ (length ls < i)) → (get_or (ls ++ l ∷ []) i d).outer.0 < i + 1
    by i d h (inl e) =
        subst (λ k. (get_or (ls ++ l ∷ []) k d).outer.0 < k + 1) (sym e) (subst (λ m. m.outer.0 < length ls + 1) (sym (get_or_push ls l d (length ls) refl)) before)
    by i d h (inr (inl lt)) =
        subst (λ m. m.outer.0 < i + 1) (sym (get_or_append_left ls (l ∷ []) d i lt)) (links.outer_before i d lt)
    by i d h (inr (inr lt)) = absurd (let p = length_push ls l in omega (arith, p, h, lt))

-- what stands after a link was placed that leads to a context of the table
module _ (old new : List Link) (table : List Context) (l : Link) (view : contexts_of old ≡ table) (links : IsTable old)
    (outer : l.outer.0 < length table) (added : HasAddedLink l old new) (once : StandOnce new) where
  outer_old : l.outer.0 < length old + 1
  outer_old = omega (arith, outer, ap length view, length-contexts_of old)

  pub placed_links : IsTable new
  placed_links = by added
    where
      by : HasAddedLink l old new → IsTable new
      by (inl e) = subst IsTable (sym e) links
      by (inr e) = subst IsTable (sym e) (IsTable-push old l links (subst StandOnce e once) outer_old)

  pub placed_added : HasAdded (context_of table l) table (contexts_of new)
  placed_added = subst (λ cs. HasAdded (context_of cs l) cs (contexts_of new)) view (by added)
    where
      by : HasAddedLink l old new → HasAdded (context_of (contexts_of old) l) (contexts_of old) (contexts_of new)
      by (inl e) = inl (ap contexts_of e)
      by (inr e) = inr (ap contexts_of e ∙ fold-append add_context ([] ∷ []) old (l ∷ []))

  pub placed_kept : KeepsContexts table (contexts_of new)
  placed_kept = KeepsContexts-added (context_of table l) table (contexts_of new) placed_added

  pub placed_number : (i : ℕ) → i < length new → i + 1 < length (contexts_of new)
  placed_number i h = omega (arith, h, length-contexts_of new)

  pub placed_context : (i : ℕ) → i < length new → get_or new i l ≡ l → get_or (contexts_of new) (i + 1) [] ≡ context_of table l
  placed_context i h here =
      context_at-contexts_of new placed_links i l h ∙ ap (context_of (contexts_of new)) here
      ∙ context_of-same table (contexts_of new) l (placed_kept.contexts l.outer outer)

cons_head : (b c : Ident × TypeId) (bs cs : Context) → b ∷ bs ≡ c ∷ cs → b ≡ c
cons_head b c bs cs e = cc

cons_tail : (b c : Ident × TypeId) (bs cs : Context) → b ∷ bs ≡ c ∷ cs → bs ≡ cs
cons_tail b c bs cs e = cc

nil_is_not_cons : (b : Ident × TypeId) (bs : Context) → [] ≡ b ∷ bs → ⊥
nil_is_not_cons b bs e = cc

module _ (ls : List Link) (links : IsTable ls) where
  -- the link of a number
  number_cases : (n : ℕ) → n < length (contexts_of ls) → (n ≡ 0) ⊎ ((i : ℕ) × (n ≡ i + 1) × (i < length ls))
  number_cases zero h = inl refl
  number_cases (suc i) h = inr (i, omega arith, omega (arith, h, length-contexts_of ls))

  some_link : (i : ℕ) → i < length ls → Link
  some_link i h = first ls (omega (arith, h))
    where
      first : (xs : List Link) → 0 < length xs → Link
      first [] h = absurd (omega (arith, h))
      first (x ∷ xs) h = x

  abbrev IsNil : Context → Type 0
  IsNil c = c ≡ []

  -- the binding and the context around it of a number but 0
  record IsBound (n : ℕ) (c : Context) : Type 0 where
    place : ℕ
    default : Link
    number : n ≡ place + 1
    within : place < length ls
    context : c ≡ context_of (contexts_of ls) (get_or ls place default)

  bound_cases : (n : ℕ) (c : Context) → n < length (contexts_of ls) → get_or (contexts_of ls) n [] ≡ c → ((n ≡ 0) × IsNil c) ⊎ IsBound n c
  bound_cases n c h e = by (number_cases n h)
    where
      by : (n ≡ 0) ⊎ ((i : ℕ) × (n ≡ i + 1) × (i < length ls)) → ((n ≡ 0) × IsNil c) ⊎ IsBound n c
      by (inl z) = inl (z, sym e ∙ ap (λ k. get_or (contexts_of ls) k []) z ∙ empty_context ls (contexts_of ls) refl)
      by (inr w) = inr (record {
        place = w.0;
        default = some_link w.0 w.2;
        number = w.1;
        within = w.2;
        context = sym e ∙ ap (λ k. get_or (contexts_of ls) k []) w.1 ∙ context_at-contexts_of ls links w.0 (some_link w.0 w.2) w.2;
      })

  same_bound : (n m : ℕ) (b : Ident × TypeId) (bs : Context) → IsBound n (b ∷ bs) → IsBound m (b ∷ bs)
      → ((i j : ℕ) → i < length (contexts_of ls) → j < length (contexts_of ls) → get_or (contexts_of ls) i [] ≡ bs → get_or (contexts_of ls) j [] ≡ bs → i ≡ j) → n ≡ m
  same_bound n m b bs x y outer_same =
      let p = get_or ls x.place x.default in
      let q = get_or ls y.place y.default in
      let bx = links.outer_before x.place x.default x.within in
      let by = links.outer_before y.place y.default y.within in
      let len = length-contexts_of ls in
      let wx = x.within in
      let wy = y.within in
      let cs = contexts_of ls in
      let head_x = cons_head b (p.name, p.typ) bs (context_at cs p.outer) x.context in
      let head_y = cons_head b (q.name, q.typ) bs (context_at cs q.outer) y.context in
      let bind_p : Ident × TypeId = (p.name, p.typ) in
      let bind_q : Ident × TypeId = (q.name, q.typ) in
      let heads : bind_p ≡ bind_q = sym head_x ∙ head_y in
      let ox = sym (cons_tail b (p.name, p.typ) bs (context_at cs p.outer) x.context) in
      let oy = sym (cons_tail b (q.name, q.typ) bs (context_at cs q.outer) y.context) in
      let outer = outer_same p.outer.0 q.outer.0 (omega (arith, bx, len, wx)) (omega (arith, by, len, wy)) ox oy in
      let same = link_same p q (ap (λ h. h.0) heads) (ap (λ h. h.1.0) heads) outer in
      let place = links.once x.place y.place x.default x.within y.within (same ∙ get_or_default ls y.place y.default x.default y.within) in
      x.number ∙ ap (λ k. k + 1) place ∙ sym y.number

  same_number : (c : Context) (n m : ℕ) → n < length (contexts_of ls) → m < length (contexts_of ls) → get_or (contexts_of ls) n [] ≡ c → get_or (contexts_of ls) m [] ≡ c → n ≡ m
  same_number [] n m hn hm p q = unbound n m (bound_cases n [] hn p) (bound_cases m [] hm q)
    where
      unbound : (n m : ℕ) → ((n ≡ 0) × IsNil []) ⊎ IsBound n [] → ((m ≡ 0) × IsNil []) ⊎ IsBound m [] → n ≡ m
      unbound n m (inl x) (inl y) = x.0 ∙ sym y.0
      unbound n m (inl x) (inr y) = absurd (nil_is_not_cons _ _ y.context)
      unbound n m (inr x) y = absurd (nil_is_not_cons _ _ x.context)
  same_number (b ∷ bs) n m hn hm p q =
      bound (bound_cases n (b ∷ bs) hn p) (bound_cases m (b ∷ bs) hm q) (λ i j hi hj x y. same_number bs i j hi hj x y)
    where
      bound : ((n ≡ 0) × IsNil (b ∷ bs)) ⊎ IsBound n (b ∷ bs) → ((m ≡ 0) × IsNil (b ∷ bs)) ⊎ IsBound m (b ∷ bs)
          → ((i j : ℕ) → i < length (contexts_of ls) → j < length (contexts_of ls) → get_or (contexts_of ls) i [] ≡ bs → get_or (contexts_of ls) j [] ≡ bs → i ≡ j) → n ≡ m
      bound (inl x) y rest = absurd (nil_is_not_cons b bs (sym x.1))
      bound (inr x) (inl y) rest = absurd (nil_is_not_cons b bs (sym y.1))
      bound (inr x) (inr y) rest = same_bound n m b bs x y rest

  -- a context stands at one place
  pub AreDistinct-contexts_of : (table : List Context) → contexts_of ls ≡ table → AreDistinct table
  AreDistinct-contexts_of table view = subst AreDistinct view (λ a b ha hb e.
      let place = same_number (context_at (contexts_of ls) b) a.0 b.0 ha hb e refl in
      ap (λ k. record { 0 = k }) place)
