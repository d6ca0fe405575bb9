-- The roots that the walks up from the first of some vertices have found.
use Rattle.std.proofs.Common.{◌≡◌, ℕ, suc, ◌+◌, ◌*◌, ◌<◌, ◌≤◌, Bool, true, false, cond, List, [], ◌∷◌, length, get_or, refl, sym, ap, ◌∙◌, arith, inl, inr, is_some, IsSome, filter}
use Rattle.std.specs.Prelude.{◌||◌, leb, Option, None, Some}
use Rattle.std.specs.Cmp.{both_ways}
use Rattle.std.proofs.lemmas.Bool.{leb-true, leb-false}
use Rattle.grove_edits.specs.declared.vertex.Vertex.{Vertex}
use Rattle.grove_edits.specs.declared.edge.Edge.{Edge}
use Rattle.grove_edits.specs.Vertex.{is_same_vertex, stands_in}
use Rattle.graph_words.specs.Class.{is_cycle_root, class, is_same_class, of_class}
use Rattle.graph_words.specs.declared.class.Class.TheVariants.{Cycle}
use Rattle.grove_edits.proofs.Vertices.{same_vertex_exact, same_vertex_itself}
use Rattle.graph_words.specs.Met.{met_by, KeepsMet, AreNumbered, HasEnded}
use Rattle.graph_words.specs.Cycle.{leads_to}
use Rattle.graph_words.proofs.Cycles.{reaches_from_leads, leads_to_itself, one_root, class_is_cycle}
use Rattle.grove_sorts.proofs.Truths.{or_true}
use Rattle.graph_words.proofs.Meetings.{Met}

-- those of the first i vertices have been walked up from
pub record AreFound (edges : List Edge) (vertices roots : List Vertex) (met : Met) (i : ℕ) : Type 0 where
  pub sound : (r : Vertex) → stands_in r roots ≡ true → is_cycle_root edges r ≡ true
  pub settled : (v r : Vertex) (k : ℕ) → met_by met v ≡ Some k → is_cycle_root edges r ≡ true → leads_to edges v r ≡ true → stands_in r roots ≡ true
  pub numbered : AreNumbered i met
  pub starts : (k : ℕ) (d : Vertex) → k < i → IsSome (met_by met (get_or vertices k d))

-- ---- one vertex more

kept_number : (number : ℕ) (before after : Met) (v : Vertex) → KeepsMet number before after → IsSome (met_by before v) → IsSome (met_by after v)
kept_number number before after v kept was =
    elim (kept v) [ inl e ↦ ap is_some e ∙ was | inr got ↦ ap is_some got.1 ]

more_numbered : (i j : ℕ) (before after : Met) → KeepsMet i before after → AreNumbered i before → j ≡ i + 1 → AreNumbered j after
more_numbered i j before after kept numbered e v k is =
    elim (kept v) [
      | inl same ↦ let lt = numbered v k (sym same ∙ is) in omega arith
      | inr got ↦ let one : i ≡ k = number_same i k (sym got.1 ∙ is) in omega arith
    ] where
      number_same : (i k : ℕ) → Some i ≡ Some k → i ≡ k
      number_same i k e = cc

more_starts : (i j : ℕ) (vertices : List Vertex) (start : Vertex) (before after : Met) → KeepsMet i before after → ((d : Vertex) → get_or vertices i d ≡ start) → IsSome (met_by after start)
    → ((k : ℕ) (d : Vertex) → k < i → IsSome (met_by before (get_or vertices k d))) → j ≡ i + 1 → (k : ℕ) (d : Vertex) → k < j → IsSome (met_by after (get_or vertices k d))
more_starts i j vertices start before after kept at new starts e k d lt =
    elim (leb (k + 1) i) as (λ b. leb (k + 1) i ≡ b → IsSome (met_by after (get_or vertices k d))) [
      | true ↦ λ le. kept_number i before after (get_or vertices k d) kept (starts k d (omega (arith, leb-true (k + 1) i le)))
      | false ↦ λ gt.
          let last : k ≡ i = omega (arith, leb-false (k + 1) i gt) in
          let is : get_or vertices k d ≡ start = ap (λ n. get_or vertices n d) last ∙ at d in
          ap (λ v. is_some (met_by after v)) is ∙ new
    ] refl

-- the walk found no cycle that no earlier walk had met
pub found_none : (edges : List Edge) (vertices roots : List Vertex) (before after : Met) (i j : ℕ) (start : Vertex) → AreFound edges vertices roots before i → ((d : Vertex) → get_or vertices i d ≡ start)
    → KeepsMet i before after → IsSome (met_by after start) → HasEnded edges i before after None → j ≡ i + 1 → AreFound edges vertices roots after j
found_none edges vertices roots before after i j start found at kept new ended e =
    record {
      sound = found.sound;
      settled = λ v r k is root leads.
          elim (kept v) [
            | inl same ↦ found.settled v r k (sym same ∙ is) root leads
            | inr got ↦ let earlier = ended v r got.1 root leads in found.settled earlier.0 r earlier.1 earlier.2 root earlier.3
          ];
      numbered = more_numbered i j before after kept found.numbered e;
      starts = more_starts i j vertices start before after kept at new found.starts e;
    }

-- the walk found a cycle, whose root is added
pub found_one : (edges : List Edge) (vertices roots then : List Vertex) (before after : Met) (i j : ℕ) (start entry root : Vertex) → AreFound edges vertices roots before i → ((d : Vertex) → get_or vertices i d ≡ start)
    → KeepsMet i before after → IsSome (met_by after start) → HasEnded edges i before after (Some entry) → is_cycle_root edges root ≡ true → leads_to edges entry root ≡ true
    → ((v : Vertex) → stands_in v then ≡ (is_same_vertex root v || stands_in v roots)) → j ≡ i + 1 → AreFound edges vertices then after j
found_one edges vertices roots then before after i j start entry root found at kept new ended is_root above added e =
    record {
      sound = λ r stands.
          elim (is_same_vertex root r) as (λ b. is_same_vertex root r ≡ b → (b || stands_in r roots) ≡ true → is_cycle_root edges r ≡ true) [
            | true ↦ λ same _. ap (is_cycle_root edges) (sym (same_vertex_exact root r same)) ∙ is_root
            | false ↦ λ _ rest. found.sound r rest
          ] refl (sym (added r) ∙ stands);
      settled = λ v r k is other leads.
          elim (kept v) [
            | inl same ↦ added r ∙ ap (λ b. is_same_vertex root r || b) (found.settled v r k (sym same ∙ is) other leads) ∙ or_true (is_same_vertex root r)
            | inr got ↦
                let beyond = ended.1 v r got.1 other leads in
                let one : root ≡ r = one_root edges entry root r is_root other (reaches_from_leads edges entry root above) (reaches_from_leads edges entry r beyond) in
                added r ∙ ap (λ z. is_same_vertex z r || stands_in r roots) one ∙ ap (λ b. b || stands_in r roots) (same_vertex_itself r)
          ];
      numbered = more_numbered i j before after kept found.numbered e;
      starts = more_starts i j vertices start before after kept at new found.starts e;
    }

-- ---- all vertices

stands_at : (v : Vertex) (xs : List Vertex) → stands_in v xs ≡ true → (k : ℕ) × (k < length xs) × (get_or xs k v ≡ v)
stands_at v [] h = absurd cc
stands_at v (x ∷ xs) h =
    elim (is_same_vertex x v) as (λ b. is_same_vertex x v ≡ b → (b || stands_in v xs) ≡ true → (k : ℕ) × (k < length (x ∷ xs)) × (get_or (x ∷ xs) k v ≡ v)) [
      | true ↦ λ same _. (0, omega arith, same_vertex_exact x v same)
      | false ↦ λ _ rest. let found = stands_at v xs rest in (suc found.0, omega (arith, found.1), found.2)
    ] refl h

some_number : (o : Option ℕ) → IsSome o → (k : ℕ) × (o ≡ Some k)
some_number None h = absurd cc
some_number (Some k) h = (k, refl)

pub all_found : (edges : List Edge) (vertices roots : List Vertex) (met : Met) (i : ℕ) → AreFound edges vertices roots met i → length vertices ≤ i
    → (v : Vertex) → stands_in v vertices ≡ true → stands_in v roots ≡ is_cycle_root edges v
all_found edges vertices roots met i found all v stands =
    both_ways (stands_in v roots) (is_cycle_root edges v) (λ h. found.sound v h) (λ root.
    let place = stands_at v vertices stands in
    let start : IsSome (met_by met v) = ap (λ z. is_some (met_by met z)) (sym place.2) ∙ found.starts place.0 v (omega (arith, place.1)) in
    let number = some_number (met_by met v) start in
    found.settled v v number.0 number.1 root (leads_to_itself edges v))

filter_same : (p q : Vertex → Bool) (xs : List Vertex) → ((v : Vertex) → stands_in v xs ≡ true → p v ≡ q v) → filter p xs ≡ filter q xs
filter_same p q [] same = refl
filter_same p q (x ∷ xs) same =
    let rest = filter_same p q xs (λ v stands. same v (ap (λ b. is_same_vertex x v || b) stands ∙ or_true (is_same_vertex x v))) in
    let here = same x (ap (λ b. b || stands_in x xs) (same_vertex_itself x)) in
    ap (λ b. cond b (x ∷ filter p xs) (filter p xs)) here ∙ ap (λ ys. cond (q x) (x ∷ ys) ys) rest

pub roots_are_cycles : (edges : List Edge) (vertices roots : List Vertex) → ((v : Vertex) → stands_in v vertices ≡ true → stands_in v roots ≡ is_cycle_root edges v)
    → filter (λ v. stands_in v roots) vertices ≡ of_class Cycle edges vertices
roots_are_cycles edges vertices roots each =
    filter_same (λ v. stands_in v roots) (λ v. is_same_class (class edges v) Cycle) vertices (λ v stands. each v stands ∙ sym (class_is_cycle edges v))

-- ---- how many steps the walks took

-- a walk, and the way round the cycle that it found
pub ticks_more : (i j left before after round from start now around : ℕ) → from + 4 * before ≤ start + 4 * left + 3 * i → round + after ≤ before → now + 2 * after ≤ from + 2 * before + 3
    → around ≤ now + 2 * round → j ≡ i + 1 → around + 4 * after ≤ start + 4 * left + 3 * j
ticks_more i j left before after round from start now around so_far within walked further e = omega arith

-- and where memory ran out
pub ticks_within : (i n left before after round from start now around : ℕ) → from + 4 * before ≤ start + 4 * left + 3 * i → round + after ≤ before → now + 2 * after ≤ from + 2 * before + 3
    → around ≤ now + 2 * round → i < n → around ≤ start + 4 * left + 3 * n
ticks_within i n left before after round from start now around so_far within walked further lt = omega arith

pub ticks_cut_off : (i n left before from start now : ℕ) → from + 4 * before ≤ start + 4 * left + 3 * i → now ≤ from + 2 * before → i < n → now ≤ start + 4 * left + 3 * n
ticks_cut_off i n left before from start now so_far walked lt = omega arith
