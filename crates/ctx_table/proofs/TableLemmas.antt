-- Tables whose contexts have their maps: what a new binding leaves and what it adds.
use Rattle.std.proofs.Common.{◌≡◌, ◌≢◌, ℕ, ◌+◌, ◌-◌, ◌<◌, ◌≤◌, ◌⊎◌, inl, inr, true, false, List, [], ◌∷◌, ◌++◌, length, get_or, Option, None, Some, if◌then◌else◌, refl, sym, ap, subst, ◌∙◌, arith, true≢false, zero, suc, set}
use Rattle.std.proofs.lemmas.Bool.{cases_Bool, cases_order}
use Rattle.std.proofs.lemmas.List.{length_push, get_or_append_left, get_or_push, get_or-set_same, get_or-set_other, map-append}
use Rattle.std.proofs.lemmas.List.Sums.{fold-append}
use Rattle.std.proofs.lemmas.Option.{get_or_from_slice_get, slice_get-map}
use Rattle.std.proofs.Math.ListN.{get_or-map}
use Rattle.std.specs.List.{slice_get}
use Rattle.std.specs.Option.{option_map}
use Rattle.ctx_table.specs.contracts.link.LinkPartialEq.TheImpl as link_eq
use Rattle.std.proofs.lemmas.Map.Entries.{length-keys_of}
use Rattle.indexmap.specs.Layout.{set_value_at}
use Rattle.std.proofs.lemmas.List.{length-map}
use Rattle.std.specs.Map.{keys_of, values_of}
use Rattle.grove_sorts.specs.declared.ident.Ident.{Ident}
use Rattle.type_core.specs.declared.type_id.TypeId.{TypeId}
use Rattle.ctx_table.specs.declared.link.Link.{Link}
use Rattle.ctx_table.specs.declared.scopes.Scope.{Scope}
use Rattle.ctx_table.specs.Context.{Context, is_same_name, look_up}
use Rattle.ctx_table.specs.Links.{context_of, contexts_of, IsTable, StandOnce, HasAddedLink}
use Rattle.ctx_table.specs.Names.{number_in, AreNumbered, KeepsNumbers}
use Rattle.ctx_table.specs.Scopes.{nothing, Binds, IsArena, KeepsScopes, Rebinds}
use Rattle.ctx_table.specs.declared.ways.Way.{Way}
use Rattle.ctx_table.specs.declared.ways.Way.TheVariants.{Map, Outward}
use Rattle.ctx_table.specs.declared.ways.Near.TheVariants.{Bound}
use Rattle.ctx_table.specs.Tables.{way_in, way_at, IsNear, IsMapOf, IsWayOf, HaveMaps, IsMapped}
use Rattle.ctx_table.proofs.ContextLemmas.{is_same_name-same, same_name_is_same}
use Rattle.ctx_table.proofs.LinkLemmas.{length-contexts_of, context_at-contexts_of, placed_links, placed_context}
use Rattle.ctx_table.proofs.NameLemmas.{AreNumbered-none}
use Rattle.ctx_table.proofs.ScopeLemmas.{KeepsScopes-refl, Binds-kept, Binds-first, IsArena-one}

some_is_not_none : (way : Way) → Some way ≡ None → ⊥
some_is_not_none way e = cc

none_is_not : (number : ℕ) → None ≡ Some number → ⊥
none_is_not number e = cc

some_injective : (m n : ℕ) → Some m ≡ Some n → m ≡ n
some_injective m n e = cc

-- a map stays its context's where names get numbers and nodes are added
module _ (names more : List (Ident × ℕ)) (old new : List Scope) (kept_names : KeepsNumbers names more) (arena : IsArena old) (kept : KeepsScopes old new) where
  module _ (ctx : Context) (root : ℕ) (m : IsMapOf names old ctx root) where
    binds_kept : (number : ℕ) (t : Option TypeId) → Binds old root number t → Binds new root number t
    binds_kept number t = Binds-kept old new arena kept root number t m.within

    bound_kept : (name : Ident) (number : ℕ) → number_in more name ≡ Some number → (was : Option ℕ) → number_in names name ≡ was → Binds new root number (look_up ctx name)
    bound_kept name number e None none =
        subst (Binds new root number) (sym (m.unbound name none)) (binds_kept number None (m.fresh number (kept_names.fresh name number none e)))
    bound_kept name number e (Some k) was =
        let same = some_injective k number (sym (kept_names.same name k was) ∙ e) in
        subst (λ n. Binds new root n (look_up ctx name)) same (binds_kept k (look_up ctx name) (m.bound name k was))

    unbound_kept : (name : Ident) → number_in more name ≡ None → (was : Option ℕ) → number_in names name ≡ was → look_up ctx name ≡ None
    unbound_kept name e None none = m.unbound name none
    unbound_kept name e (Some k) was = absurd (none_is_not k (sym e ∙ kept_names.same name k was))

    pub IsMapOf-kept : IsMapOf more new ctx root
    IsMapOf-kept = record {
      within = (let w = m.within in let k = kept.longer in omega (arith, w, k));
      bound = λ name number e. bound_kept name number e (number_in names name) refl;
      unbound = λ name e. unbound_kept name e (number_in names name) refl;
      fresh = λ number h. binds_kept number None (m.fresh number (let k = kept_names.longer in omega (arith, k, h)));
    }

  -- and so does each map on the way
  IsWayOf-kept : (ctx : Context) (way : Way) → IsWayOf names old ctx way → IsWayOf more new ctx way
  IsWayOf-kept ctx (Map root) m = IsMapOf-kept ctx root m
  IsWayOf-kept ctx (Outward steps) m = tt

  pub IsMapped-kept : (links : List (Link × Way)) → IsMapped links names old → AreNumbered more → IsArena new → IsMapped links more new
  IsMapped-kept links mapped numbered new_arena = record {
    table = mapped.table;
    numbered = numbered;
    arena = new_arena;
    maps = λ n h. IsWayOf-kept (get_or (contexts_of (keys_of links)) n []) (way_at links n) (mapped.maps n h);
  }

-- the map of a context with one more binding
module _ (names : List (Ident × ℕ)) (old new : List Scope) (ctx : Context) (root : ℕ) (m : IsMapOf names old ctx root) (numbered : AreNumbered names)
    (name : Ident) (number : ℕ) (t : TypeId) (number_is : number_in names name ≡ Some number) (place : ℕ) (r : Rebinds old new root number t place) where
  abbrev inner : Context
  inner = (name, t) ∷ ctx

  look_up_here : (a : Ident) → is_same_name name a ≡ true → look_up inner a ≡ Some t
  look_up_here a h = ap (λ same. if same then Some t else look_up ctx a) h

  look_up_there : (a : Ident) → is_same_name name a ≡ false → look_up inner a ≡ look_up ctx a
  look_up_there a h = ap (λ same. if same then Some t else look_up ctx a) h

  number_of_same : (a : Ident) → is_same_name name a ≡ true → number_in names a ≡ Some number
  number_of_same a h = ap (number_in names) (sym (same_name_is_same name a h)) ∙ number_is

  bound_inner : (a : Ident) (n : ℕ) → number_in names a ≡ Some n → (is_same_name name a ≡ true) ⊎ (is_same_name name a ≡ false) → Binds new place n (look_up inner a)
  bound_inner a n e (inl h) =
      subst (λ k. Binds new place k (look_up inner a)) (some_injective number n (sym (number_of_same a h) ∙ e))
      (subst (Binds new place number) (sym (look_up_here a h)) r.bound)
  bound_inner a n e (inr h) =
      subst (Binds new place n) (sym (look_up_there a h)) (r.others n (look_up ctx a) other (m.bound a n e))
    where
      other : n ≢ number
      other q =
          let same = numbered.apart name a number number_is (e ∙ ap Some q) in
          true≢false (sym (is_same_name-same name) ∙ ap (is_same_name name) same ∙ h)

  unbound_inner : (a : Ident) → number_in names a ≡ None → (is_same_name name a ≡ true) ⊎ (is_same_name name a ≡ false) → look_up inner a ≡ None
  unbound_inner a e (inl h) = absurd (none_is_not number (sym e ∙ number_of_same a h))
  unbound_inner a e (inr h) = look_up_there a h ∙ m.unbound a e

  fresh_inner : (n : ℕ) → length names ≤ n → Binds new place n None
  fresh_inner n h = r.others n None other (m.fresh n h)
    where
      other : n ≢ number
      other q = absurd (let b = numbered.below name number number_is in omega (arith, b, h, q))

  pub IsMapOf-inner : IsMapOf names new inner place
  IsMapOf-inner = record {
    within = r.within;
    bound = λ a n e. bound_inner a n e (cases_Bool (is_same_name name a));
    unbound = λ a e. unbound_inner a e (cases_Bool (is_same_name name a));
    fresh = fresh_inner;
  }

-- the map of a context by its number
pub map_at : (links : List (Link × Way)) (names : List (Ident × ℕ)) (scopes : List Scope) (table : List Context) → IsMapped links names scopes → contexts_of (keys_of links) ≡ table
    → (n root : ℕ) → n < length table → way_at links n ≡ Map root → IsMapOf names scopes (get_or table n []) root
map_at links names scopes table mapped view n root h way =
    subst (λ cs. IsMapOf names scopes (get_or cs n []) root) view
    (subst (IsWayOf names scopes (get_or (contexts_of (keys_of links)) n [])) way (mapped.maps n (subst (λ cs. n < length cs) (sym view) h)))

pub length-table : (links : List (Link × Way)) (table : List Context) → contexts_of (keys_of links) ≡ table → length table ≡ length links + 1
length-table links table view =
    let v = ap length view in
    let n = length-contexts_of (keys_of links) in
    let k = length-keys_of links in omega (arith, v, n, k)

-- one more link at the end
keys_set : (links : List (Link × Way)) (i : ℕ) (way : Way) → keys_of (set_value_at links i way) ≡ keys_of links
keys_set [] i way = refl
keys_set (e ∷ es) zero way = refl
keys_set (e ∷ es) (suc i) way = ap (λ ls. e.0 ∷ ls) (keys_set es i way)

values_set : (links : List (Link × Way)) (i : ℕ) (way : Way) → values_of (set_value_at links i way) ≡ set (values_of links) i way
values_set [] i way = refl
values_set (e ∷ es) zero way = refl
values_set (e ∷ es) (suc i) way = ap (λ vs. e.1 ∷ vs) (values_set es i way)

set_behind : (first : Way) (ways : List Way) (i : ℕ) (way : Way) → (first ∷ set ways i way) ≡ set (first ∷ ways) (i + 1) way
set_behind first ways i way = ap (λ n. set (first ∷ ways) n way) back
  where
    back : suc i ≡ i + 1
    back = omega arith

module _ (links new_links : List (Link × Way)) (l : Link) (way : Way) (added : new_links ≡ links ++ (l, way) ∷ []) where
  keys_added : keys_of new_links ≡ keys_of links ++ l ∷ []
  keys_added = ap keys_of added ∙ map-append (λ e. e.0) links ((l, way) ∷ [])

  pub HasAddedLink-entry : HasAddedLink l (keys_of links) (keys_of new_links)
  HasAddedLink-entry = inr keys_added

  contexts_added : contexts_of (keys_of new_links) ≡ contexts_of (keys_of links) ++ context_of (contexts_of (keys_of links)) l ∷ []
  contexts_added = ap contexts_of keys_added ∙ fold-append (λ table k. table ++ context_of table k ∷ []) ([] ∷ []) (keys_of links) (l ∷ [])

  ways_added : (Map 0 ∷ values_of new_links) ≡ ((Map 0 ∷ values_of links) ++ way ∷ [])
  ways_added = ap (λ vs. Map 0 ∷ vs) (ap values_of added ∙ map-append (λ e. e.1) links ((l, way) ∷ []))

  -- the link stands at its place
  pub link_at_end : (place : ℕ) → place ≡ length links → get_or (keys_of new_links) place l ≡ l
  link_at_end place e = ap (λ ks. get_or ks place l) keys_added ∙ get_or_push (keys_of links) l l place (length-keys_of links ∙ sym e)

  pub within_end : (place : ℕ) → place ≡ length links → place < length (keys_of new_links)
  within_end place e =
      let k = ap length keys_added in
      let p = length_push (keys_of links) l in
      let n = length-keys_of links in omega (arith, e, k, p, n)

  module _ (names : List (Ident × ℕ)) (scopes : List Scope) (mapped : IsMapped links names scopes) (table : IsTable (keys_of new_links))
      (way_here : IsWayOf names scopes (context_of (contexts_of (keys_of links)) l) way) where
    abbrev cs : List Context
    cs = contexts_of (keys_of links)

    abbrev c : Context
    c = context_of (contexts_of (keys_of links)) l

    abbrev ways : List Way
    ways = Map 0 ∷ values_of links

    lengths : length cs ≡ length ways
    lengths =
        let a = length-contexts_of (keys_of links) in
        let k = length-keys_of links in
        let v = length-map links (λ e. e.1) in omega (arith, a, k, v)

    each : (n : ℕ) → n < length (cs ++ c ∷ []) → (n ≡ length cs) ⊎ ((n < length cs) ⊎ (length cs < n)) → IsWayOf names scopes (get_or (cs ++ c ∷ []) n []) (get_or (ways ++ way ∷ []) n (Map 0))
    each n h (inl e) =
        subst (IsWayOf names scopes (get_or (cs ++ c ∷ []) n [])) (sym (get_or_push ways way (Map 0) n (sym (e ∙ lengths))))
        (subst (λ x. IsWayOf names scopes x way) (sym (get_or_push cs c [] n (sym e))) way_here)
    each n h (inr (inl lt)) =
        let lt_ways : n < length ways = omega (arith, lt, lengths) in
        subst (IsWayOf names scopes (get_or (cs ++ c ∷ []) n [])) (sym (get_or_append_left ways (way ∷ []) (Map 0) n lt_ways))
        (subst (λ x. IsWayOf names scopes x (get_or ways n (Map 0))) (sym (get_or_append_left cs (c ∷ []) [] n lt)) (mapped.maps n lt))
    each n h (inr (inr gt)) = absurd (let p = length_push cs c in omega (arith, p, h, gt))

    maps_added : HaveMaps new_links names scopes
    maps_added n h =
        subst (λ ws. IsWayOf names scopes (get_or (contexts_of (keys_of new_links)) n []) (get_or ws n (Map 0))) (sym ways_added)
        (subst (λ xs. IsWayOf names scopes (get_or xs n []) (get_or (ways ++ way ∷ []) n (Map 0))) (sym contexts_added)
        (each n (subst (λ xs. n < length xs) contexts_added h) (cases_order n (length cs))))

    pub IsMapped-added : IsMapped new_links names scopes
    IsMapped-added = record { table = table; numbered = mapped.numbered; arena = mapped.arena; maps = maps_added }

-- a context of the table gets a map
module _ (links : List (Link × Way)) (names : List (Ident × ℕ)) (scopes : List Scope) (mapped : IsMapped links names scopes)
    (i root : ℕ) (within : i < length links) (map_here : IsMapOf names scopes (get_or (contexts_of (keys_of links)) (i + 1) []) root) where
  abbrev cs_set : List Context
  cs_set = contexts_of (keys_of links)

  ways_set : (Map 0 ∷ values_of (set_value_at links i (Map root))) ≡ set (Map 0 ∷ values_of links) (i + 1) (Map root)
  ways_set = ap (λ vs. Map 0 ∷ vs) (values_set links i (Map root)) ∙ set_behind (Map 0) (values_of links) i (Map root)

  lengths_set : i + 1 < length (Map 0 ∷ values_of links)
  lengths_set = let v = length-map links (λ e. e.1) in omega (arith, v, within)

  other_way : (n : ℕ) → n ≢ i + 1 → way_at (set_value_at links i (Map root)) n ≡ way_at links n
  other_way n ne = ap (λ ws. get_or ws n (Map 0)) ways_set ∙ get_or-set_other (Map 0 ∷ values_of links) (i + 1) n (Map root) (Map 0) ne

  each_set : (n : ℕ) → n < length cs_set → (n ≡ i + 1) ⊎ ((n < i + 1) ⊎ (i + 1 < n)) → IsWayOf names scopes (get_or cs_set n []) (way_at (set_value_at links i (Map root)) n)
  each_set n h (inl e) =
      subst (λ k. IsWayOf names scopes (get_or cs_set k []) (way_at (set_value_at links i (Map root)) k)) (sym e)
      (subst (IsWayOf names scopes (get_or cs_set (i + 1) [])) (sym (ap (λ ws. get_or ws (i + 1) (Map 0)) ways_set ∙ get_or-set_same (Map 0 ∷ values_of links) (i + 1) (Map root) (Map 0) lengths_set)) map_here)
  each_set n h (inr (inl lt)) = subst (IsWayOf names scopes (get_or cs_set n [])) (sym (other_way n (λ e. omega (arith, e, lt)))) (mapped.maps n h)
  each_set n h (inr (inr gt)) = subst (IsWayOf names scopes (get_or cs_set n [])) (sym (other_way n (λ e. omega (arith, e, gt)))) (mapped.maps n h)

  pub IsMapped-set : IsMapped (set_value_at links i (Map root)) names scopes
  IsMapped-set = record {
    table = subst IsTable (sym (keys_set links i (Map root))) mapped.table;
    numbered = mapped.numbered;
    arena = mapped.arena;
    maps = λ n h. subst (λ ks. IsWayOf names scopes (get_or (contexts_of ks) n []) (way_at (set_value_at links i (Map root)) n)) (sym (keys_set links i (Map root)))
        (each_set n (subst (λ ks. n < length (contexts_of ks)) (keys_set links i (Map root)) h) (cases_order n (i + 1)));
  }

-- the table of the empty context
pub IsMapped-empty : (links : List (Link × Way)) (names : List (Ident × ℕ)) (scopes : List Scope) → links ≡ [] → names ≡ [] → scopes ≡ nothing ∷ [] → IsMapped links names scopes
IsMapped-empty links names scopes p q r =
    subst (λ ls. IsMapped ls names scopes) (sym p) (subst (λ ns. IsMapped [] ns scopes) (sym q) (subst (IsMapped [] []) (sym r) empty))
  where
    empty_map : IsMapOf [] (nothing ∷ []) [] 0
    empty_map = record {
      within = omega arith;
      bound = λ name number e. absurd (none_is_not number e);
      unbound = λ name e. refl;
      fresh = λ number h. Binds-first (nothing ∷ []) IsArena-one number;
    }

    maps : (n : ℕ) → n < length (contexts_of []) → IsWayOf [] (nothing ∷ []) (get_or (contexts_of []) n []) (way_at [] n)
    maps zero h = empty_map
    maps (suc n) h = absurd (omega (arith, h))

    empty : IsMapped [] [] (nothing ∷ [])
    empty = record {
      table = record { once = λ i j d hi hj e. absurd (omega (arith, hi)); outer_before = λ i d h. absurd (omega (arith, h)) };
      numbered = AreNumbered-none;
      arena = IsArena-one;
      maps = maps;
    }

-- a link that was found
pub found_number : (links : List (Link × Way)) (table : List Context) → contexts_of (keys_of links) ≡ table → (place : ℕ) → place < length (keys_of links) → place + 1 < length table
found_number links table view place h =
    let t = length-table links table view in
    let k = length-keys_of links in omega (arith, t, k, h)

pub found_context : (links : List (Link × Way)) (table : List Context) (l : Link) → contexts_of (keys_of links) ≡ table → IsTable (keys_of links) → l.outer.0 < length table
    → (place : ℕ) → place < length (keys_of links) → get_or (keys_of links) place l ≡ l → get_or table (place + 1) [] ≡ context_of table l
found_context links table l view is_table outer place h here =
    ap (λ cs. get_or cs (place + 1) []) (sym view)
    ∙ placed_context (keys_of links) (keys_of links) table l view is_table outer (inl refl) is_table.once place h here

-- what the entry of a place says
module _ (links : List (Link × Way)) (n : ℕ) (l : Link) (way : Way) (positive : 0 < n) (entry : slice_get links (n - 1) ≡ Some (l, way)) where
  pub entry_link : slice_get (keys_of links) (n - 1) ≡ Some l
  entry_link = slice_get-map (λ e. e.0) links (n - 1) ∙ ap (option_map (λ e. e.0)) entry

  pub entry_way : way_at links n ≡ way
  entry_way = by n positive entry
    where
      by : (k : ℕ) → 0 < k → slice_get links (k - 1) ≡ Some (l, way) → way_at links k ≡ way
      by zero h e = absurd (omega (arith, h))
      by (suc k) h e =
          let back : suc k - 1 ≡ k = omega arith in
          get_or-map (λ e. e.1) links k (l, Map 0) ∙ ap (λ e. e.1) (get_or_from_slice_get links k (l, way) (l, Map 0) (subst (λ i. slice_get links i ≡ Some (l, way)) back e))

-- which links are there does not depend on the ways
pub missing-same : (links was : List (Link × Way)) (l : Link) → keys_of links ≡ keys_of was → way_in was l ≡ None → way_in links l ≡ None
missing-same [] was l e h = refl
missing-same (x ∷ links) [] l e h = cc
missing-same (x ∷ links) (y ∷ was) l e h = by (missing-same links was l rest) (cases_Bool (link_eq.eq-value.it l y.0))
  where
    first : x.0 ≡ y.0
    first = cc

    rest : keys_of links ≡ keys_of was
    rest = cc

    by : (way_in was l ≡ None → way_in links l ≡ None) → (link_eq.eq-value.it l y.0 ≡ true) ⊎ (link_eq.eq-value.it l y.0 ≡ false) → way_in (x ∷ links) l ≡ None
    by below (inl same) = absurd (some_is_not_none y.1 (sym (ap (λ b. if b then Some y.1 else way_in was l) same) ∙ h))
    by below (inr other) =
        ap (λ b. if b then Some x.1 else way_in links l) (ap (link_eq.eq-value.it l) first ∙ other)
        ∙ below (sym (ap (λ b. if b then Some y.1 else way_in was l) other) ∙ h)

-- a link that was added, to be searched outward
module _ (links new_links : List (Link × Way)) (names : List (Ident × ℕ)) (scopes : List Scope) (table : List Context) (l : Link) (steps : ℕ)
    (mapped : IsMapped links names scopes) (view : contexts_of (keys_of links) ≡ table) (outer : l.outer.0 < length table)
    (added : new_links ≡ links ++ (l, Outward steps) ∷ []) (once : StandOnce (keys_of new_links)) where
  is_table : IsTable (keys_of new_links)
  is_table = placed_links (keys_of links) (keys_of new_links) table l view mapped.table outer (HasAddedLink-entry links new_links l (Outward steps) added) once

  pub extended : IsMapped new_links names scopes
  extended = IsMapped-added links new_links l (Outward steps) added names scopes mapped is_table tt

-- the context of the link that a search begins with
pub near_context : (links : List (Link × Way)) → IsTable (keys_of links) → (n : ℕ) (l : Link) → n < length links + 1 → IsNear links n (Bound l)
    → (get_or (contexts_of (keys_of links)) n [] ≡ context_of (contexts_of (keys_of links)) l) × (l.outer.0 < n)
near_context links table n l h near =
    let positive = near.0 in
    let k = length-keys_of links in
    let within : n - 1 < length (keys_of links) = omega (arith, positive, h, k) in
    let read = get_or_from_slice_get (keys_of links) (n - 1) l l near.1 in
    let back : n - 1 + 1 ≡ n = omega (arith, positive) in
    let before = table.outer_before (n - 1) l within in (
      ap (λ m. get_or (contexts_of (keys_of links)) m []) (sym back) ∙ context_at-contexts_of (keys_of links) table (n - 1) l within ∙ ap (context_of (contexts_of (keys_of links))) read,
      omega (arith, subst (λ x. x.outer.0 < n - 1 + 1) read before, back),
    )

-- the same, in the table
pub near_at : (links : List (Link × Way)) (table : List Context) → IsTable (keys_of links) → contexts_of (keys_of links) ≡ table → (n : ℕ) (l : Link) → n < length table → IsNear links n (Bound l)
    → (get_or table n [] ≡ context_of table l) × (l.outer.0 < n)
near_at links table is_table view n l h near =
    subst (λ cs. (get_or cs n [] ≡ context_of cs l) × (l.outer.0 < n)) view
    (near_context links is_table n l (let t = length-table links table view in omega (arith, h, t)) near)

-- a context of which a link was found gets a map, made of that of the context around it
module _ (was links : List (Link × Way)) (names more : List (Ident × ℕ)) (old new : List Scope) (n : ℕ) (l : Link) (outer root number : ℕ)
    (within : n < length was + 1) (near : IsNear was n (Bound l)) (mapped : IsMapped links names old) (same : keys_of links ≡ keys_of was)
    (outer_map : IsMapOf names old (get_or (contexts_of (keys_of was)) l.outer.0 []) outer)
    (numbered : AreNumbered more) (kept_names : KeepsNumbers names more) (number_is : number_in more l.name ≡ Some number)
    (arena : IsArena new) (kept : KeepsScopes old new) (rebinds : Rebinds old new outer number l.typ root) where
  pub made_map : IsMapOf more new (get_or (contexts_of (keys_of was)) n []) root
  made_map =
      subst (λ c. IsMapOf more new c root) (sym (near_context was (subst IsTable same mapped.table) n l within near).0)
      (IsMapOf-inner more old new (get_or (contexts_of (keys_of was)) l.outer.0 []) outer
      (IsMapOf-kept names more old old kept_names mapped.arena (KeepsScopes-refl old) (get_or (contexts_of (keys_of was)) l.outer.0 []) outer outer_map)
      numbered l.name number l.typ number_is root rebinds)

  pub within_links : n - 1 < length links
  within_links =
      let positive = near.0 in
      let k = length-keys_of links in
      let j = length-keys_of was in
      let e = ap length same in omega (arith, positive, within, k, j, e)

  pub made_mapped : IsMapped (set_value_at links (n - 1) (Map root)) more new
  made_mapped =
      let positive = near.0 in
      let back : n ≡ n - 1 + 1 = omega (arith, positive) in
      IsMapped-set links more new (IsMapped-kept names more old new kept_names mapped.arena kept links mapped numbered arena) (n - 1) root within_links
      (subst (λ ks. IsMapOf more new (get_or (contexts_of ks) (n - 1 + 1) []) root) (sym same)
      (subst (λ m. IsMapOf more new (get_or (contexts_of (keys_of was)) m []) root) back made_map))

  pub made_same : keys_of (set_value_at links (n - 1) (Map root)) ≡ keys_of was
  made_same = keys_set links (n - 1) (Map root) ∙ same
