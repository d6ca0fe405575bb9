-- What a set of keys says of the vertices that they stand for.
use Rattle.std.proofs.Common.{◌≡◌, ℕ, zero, suc, ◌<◌, ◌^◌, Bool, true, false, cond, List, [], ◌∷◌, ◌++◌, length, slice_get, Some, true≢false, refl, sym, ap, subst, ◌∙◌, arith}
use Rattle.std.specs.Prelude.{◌||◌, option_map, Result, Ok, Err, OnOk, OnErr}
use Rattle.std.specs.List.{AllByRecursion, IsDistinct, list_any}
use Rattle.std.proofs.lemmas.List.{length-append, map-append}
use Rattle.std.proofs.lemmas.Option.{slice_get-map}
use Rattle.std.proofs.lemmas.Map.Keys.{IsDistinct-push}
use Rattle.indexmap.specs.IndexSet.{insert_key}
use Rattle.grove_sorts.specs.declared.ctor.Ctor.{Ctor}
use Rattle.grove_sorts.specs.declared.ctor.Ctor.TheVariants.{Root, Num}
use Rattle.grove_sorts.specs.declared.plain.Plain.{Plain}
use Rattle.grove_sorts.specs.Plain.{plain_ctor, plain_number}
use Rattle.grove_edits.specs.declared.vertex.Vertex.{Vertex}
use Rattle.grove_edits.specs.Vertex.{is_same_vertex, literal, stands_in}
use Rattle.std.proofs.lemmas.Bool.{lt-ltb}
use Rattle.grove_edits.proofs.Orders.{vertex_from_fields}
use Rattle.grove_edits.proofs.Vertices.{same_vertex_laws, same_vertex_exact, same_vertex_itself}
use Rattle.edit_table.specs.declared.vertex_key.CtorKey.{CtorKey}
use Rattle.edit_table.specs.declared.vertex_key.CtorKey.TheVariants as keys
use Rattle.edit_table.specs.declared.vertex_key.VertexKey.{VertexKey}
use Rattle.edit_table.specs.Keys.{plain_key, ctor_at, vertex_of, vertices_of, with_vertex, AreCtors, AreKeys, BeginsWith, HasCtor, ctor_of, is_short, root_key, IsCtorKeyOf, IsMet}
use Rattle.edit_table.proofs.Lists.{all_pushed, read_at, read_stays, stands_within, within_from, all_at, begins_inserted, still_stands_at}
use Rattle.edit_table.proofs.Ctors.{plain_has_number}
use Rattle.edit_table.proofs.KeyEq.{key_eq, key_exact, key_itself}
use Rattle.grove_sorts.proofs.Truths.{same_tests}

-- ---- where more constructors are met, keys stand for the same

module _ (after before : List Ctor) (begins : BeginsWith after before) where
  still_met : (key : CtorKey) → IsMet before key → IsMet after key
  still_met (keys.At n) met =
      let long : length after ≡ length (before ++ begins.0) = ap length begins.1 in
      omega (arith, long, length-append before begins.0, met)
  still_met (keys.Short n) met = met

  ctor_stays : (key : CtorKey) → IsMet before key → ctor_of after key ≡ ctor_of before key
  ctor_stays (keys.At n) met = read_stays after before n Root begins met
  ctor_stays (keys.Short n) met = refl

  all_have : (ks : List VertexKey) → AllByRecursion (HasCtor before) ks → AllByRecursion (HasCtor after) ks
  all_have [] have = tt
  all_have (key ∷ ks) have = (still_met key.ctor have.0, all_have ks have.1)

  vertices_stay : (ks : List VertexKey) → AllByRecursion (HasCtor before) ks → vertices_of after ks ≡ vertices_of before ks
  vertices_stay [] have = refl
  vertices_stay (key ∷ ks) have =
      let here = ctor_stays key.ctor have.0 in
      let rest = vertices_stay ks have.1 in
      λ j. record { name = key.name; ctor = here j } ∷ rest j

  pub same_vertices : (ks : List VertexKey) → AreKeys before ks → vertices_of after ks ≡ vertices_of before ks
  same_vertices ks are = vertices_stay ks are.have_ctors

  pub keys_stay : (ks : List VertexKey) → AreCtors after → AreKeys before ks → AreKeys after ks
  keys_stay ks ctors are = record {
    ctors_are = ctors;
    have_ctors = all_have ks are.have_ctors;
    once = subst (IsDistinct is_same_vertex) (sym (same_vertices ks are)) are.once;
    few = are.few;
    first = are.first;
  }

-- ---- one key more

any_is_stands_in : (vs : List Vertex) (v : Vertex) → list_any (is_same_vertex v) vs ≡ stands_in v vs
any_is_stands_in [] v = refl
any_is_stands_in (w ∷ vs) v = ap (λ b. b || list_any (is_same_vertex v) vs) (same_vertex_laws.symm v w) ∙ ap (λ b. is_same_vertex w v || b) (any_is_stands_in vs v)

-- the key of a vertex has its name, and a key of its constructor
abbrev pub IsKeyOf : List Ctor → VertexKey → Vertex → Type 0
IsKeyOf ctors key v = (key.name ≡ v.name) × IsCtorKeyOf ctors key.ctor v.ctor

-- a constructor has one key
module _ (ctors : List Ctor) (are : AreCtors ctors) where
  not_both : (n m : ℕ) (c : Ctor) → n < length ctors → ctor_at ctors n ≡ c → m < 2 ^ 32 → Num m ≡ c → ⊥
  not_both n m c within at short is =
      let stands : slice_get ctors n ≡ Some c = stands_within ctors n Root within ∙ ap (λ (x : Ctor). Some x) at in
      let long : is_short c ≡ false = all_at (λ ctor. is_short ctor ≡ false) ctors n c are.long stands in
      true≢false (sym (ap is_short (sym is) ∙ lt-ltb m (2 ^ 32) short) ∙ long)

  one_key : (a b : CtorKey) (c : Ctor) → IsCtorKeyOf ctors a c → IsCtorKeyOf ctors b c → a ≡ b
  one_key (keys.At m) (keys.At n) c first second =
      ap keys.At (are.once m n c (stands_within ctors m Root first.0 ∙ ap (λ (x : Ctor). Some x) first.1) (stands_within ctors n Root second.0 ∙ ap (λ (x : Ctor). Some x) second.1))
  one_key (keys.At m) (keys.Short n) c first second = absurd (not_both m n c first.0 first.1 second.0 second.1)
  one_key (keys.Short m) (keys.At n) c first second = absurd (not_both n m c second.0 second.1 first.0 first.1)
  one_key (keys.Short m) (keys.Short n) c first second = ap keys.Short (ap literal (first.1 ∙ sym second.1))

module _ (ctors : List Ctor) (ctors_are : AreCtors ctors) (key : VertexKey) (v : Vertex) (key_is : IsKeyOf ctors key v) where
  has : HasCtor ctors key
  has = key_is.1.0

  is : vertex_of ctors key ≡ v
  is = vertex_from_fields (vertex_of ctors key) v key_is.0 key_is.1.1

  -- the key is the only one that stands for the vertex
  only : (other : VertexKey) → HasCtor ctors other → vertex_of ctors other ≡ v → other ≡ key
  only other had same =
      let name : other.name ≡ key.name = ap (λ (w : Vertex). w.name) same ∙ sym key_is.0 in
      let ctor : other.ctor ≡ key.ctor = one_key ctors ctors_are other.ctor key.ctor v.ctor (had, ap (λ (w : Vertex). w.ctor) same) key_is.1 in
      λ j. record { name = name j; ctor = ctor j }

  test_is_same : (other : VertexKey) → HasCtor ctors other → key_eq key other ≡ is_same_vertex (vertex_of ctors other) v
  test_is_same other had = same_tests (key_eq key other) (is_same_vertex (vertex_of ctors other) v)
      (λ same. ap (λ k. is_same_vertex (vertex_of ctors k) v) (sym (key_exact key other same)) ∙ ap (λ w. is_same_vertex w v) is ∙ same_vertex_itself v)
      (λ same. ap (key_eq key) (only other had (same_vertex_exact (vertex_of ctors other) v same)) ∙ key_itself key)

  -- a key stands among keys where its vertex stands among theirs
  stands_where : (keys : List VertexKey) → AllByRecursion (HasCtor ctors) keys → list_any (key_eq key) keys ≡ stands_in v (vertices_of ctors keys)
  stands_where [] have = refl
  stands_where (k ∷ keys) have =
      ap (λ b. b || list_any (key_eq key) keys) (test_is_same k have.0) ∙ ap (λ b. is_same_vertex (vertex_of ctors k) v || b) (stands_where keys have.1)

  pub vertices_after : (keys : List VertexKey) → AreKeys ctors keys → vertices_of ctors (insert_key key_eq keys key) ≡ with_vertex v (vertices_of ctors keys)
  vertices_after keys are = by_test (list_any (key_eq key) keys) ∙ ap (λ b. cond b vs (vs ++ v ∷ [])) (stands_where keys are.have_ctors) where
    vs : List Vertex
    vs = vertices_of ctors keys

    by_test : (b : Bool) → vertices_of ctors (cond b keys (keys ++ key ∷ [])) ≡ cond b vs (vs ++ v ∷ [])
    by_test true = refl
    by_test false = map-append (vertex_of ctors) keys (key ∷ []) ∙ ap (λ w. vs ++ w ∷ []) is

  pub keys_after : (keys new : List VertexKey) → new ≡ insert_key key_eq keys key → length new < 2 ^ 32 → AreKeys ctors keys → AreKeys ctors new
  keys_after keys new inserted few are = record {
    ctors_are = ctors_are;
    have_ctors = subst (AllByRecursion (HasCtor ctors)) (sym inserted) (have_by (list_any (key_eq key) keys));
    once = subst (λ ks. IsDistinct is_same_vertex (vertices_of ctors ks)) (sym inserted) (subst (IsDistinct is_same_vertex) (sym (vertices_after keys are)) (once_by (stands_in v vs) refl));
    few = few;
    first = still_stands_at new keys 0 root_key (begins_inserted key_eq new keys key inserted) are.first;
  } where
    vs : List Vertex
    vs = vertices_of ctors keys

    have_by : (b : Bool) → AllByRecursion (HasCtor ctors) (cond b keys (keys ++ key ∷ []))
    have_by true = are.have_ctors
    have_by false = all_pushed (HasCtor ctors) keys key are.have_ctors has

    once_by : (b : Bool) → stands_in v vs ≡ b → IsDistinct is_same_vertex (cond b vs (vs ++ v ∷ []))
    once_by true stands = are.once
    once_by false none = IsDistinct-push same_vertex_laws vs v are.once (any_is_stands_in vs v ∙ none)

  pub vertex_numbered : (keys : List VertexKey) (n : ℕ) → slice_get keys n ≡ Some key → slice_get (vertices_of ctors keys) n ≡ Some v
  vertex_numbered keys n at = slice_get-map (vertex_of ctors) keys n ∙ ap (option_map (vertex_of ctors)) at ∙ ap (λ (w : Vertex). Some w) is

-- a set in which a key stands is not changed by it
pub inserted_again : (keys : List VertexKey) (n : ℕ) (key : VertexKey) → slice_get keys n ≡ Some key → keys ≡ insert_key key_eq keys key
inserted_again keys n key at = sym (ap (λ (b : Bool). cond b keys (keys ++ key ∷ [])) (found keys n at)) where
  behind : (b c : Bool) → c ≡ true → (b || c) ≡ true
  behind true c is = refl
  behind false c is = is

  found : (ks : List VertexKey) (n : ℕ) → slice_get ks n ≡ Some key → list_any (key_eq key) ks ≡ true
  found [] n at = absurd cc
  found (k ∷ ks) zero at =
      let same : k ≡ key = cc in
      ap (λ b. b || list_any (key_eq key) ks) (ap (key_eq key) same ∙ key_itself key)
  found (k ∷ ks) (suc n) at = behind (key_eq key k) (list_any (key_eq key) ks) (found ks n at)

-- ---- what a call left

pub by_result : {X E : Type 0} (r : Result X E) {P Q R : Type 0} → (P → R) → (Q → R) → OnOk r P → OnErr r Q → R
by_result (Ok x) f g ok err = f ok
by_result (Err e) f g ok err = g err

pub on_ok_both : {X E : Type 0} (r : Result X E) {P Q S R : Type 0} → (P → Q → S → R) → OnOk r P → OnOk r Q → S → OnOk r R
on_ok_both (Ok x) f p q s = f p q s
on_ok_both (Err e) f p q s = tt

-- the key of a vertex whose constructor carries nothing
pub plain_key_is : (ctors : List Ctor) (key : VertexKey) (v : Vertex) → AreCtors ctors → (plain : Plain) × (key ≡ plain_key v.name plain) × (plain_ctor plain ≡ v.ctor) → IsKeyOf ctors key v
plain_key_is ctors key v are found = (
  ap (λ (k : VertexKey). k.name) found.1,
  subst (λ (k : CtorKey). IsCtorKeyOf ctors k v.ctor) (sym (ap (λ (k : VertexKey). k.ctor) found.1))
      (within_from ctors (plain_number found.0) (plain_ctor found.0) stands, read_at ctors (plain_number found.0) Root (plain_ctor found.0) stands ∙ found.2),
) where
  stands : slice_get ctors (plain_number found.0) ≡ Some (plain_ctor found.0)
  stands = plain_has_number ctors found.0 are

-- the key of a constructor that carries nothing
pub plain_is_met : (ctors : List Ctor) (n : ℕ) (p : Plain) → n ≡ plain_number p → AreCtors ctors → IsCtorKeyOf ctors (keys.At n) (plain_ctor p)
plain_is_met ctors n p is are = (within_from ctors n (plain_ctor p) stands, read_at ctors n Root (plain_ctor p) stands) where
  stands : slice_get ctors n ≡ Some (plain_ctor p)
  stands = ap (slice_get ctors) is ∙ plain_has_number ctors p are
