-- Nodes, and the types that they stand for.
use Rattle.std.proofs.Common.{◌≡◌, ℕ, ◌+◌, ◌<◌, ◌⊎◌, Bool, true, List, [], ◌∷◌, ◌++◌, length, get_or, fold, refl, sym, ap, subst, ◌∙◌, inl, inr, arith, true≢false, zero, suc}
use Rattle.std.proofs.lemmas.List.{length_push, get_or_append_left, get_or_push, get_or_past}
use Rattle.std.proofs.lemmas.Bool.{cases_order}
use Rattle.std.proofs.lemmas.List.Sums.{fold-append}
use Rattle.std.proofs.lemmas.Map.Keys.{apart_from_distinct}
use Rattle.std.specs.List.{IsDistinct}
use Rattle.type_core.specs.declared.former.Former.{Former}
use Rattle.type_core.specs.declared.node.Node.{Node}
use Rattle.type_core.specs.declared.node.Node.TheVariants.{Unknown, Num, Boolean, Pair}
use Rattle.type_core.specs.declared.type_id.TypeId.{TypeId}
use Rattle.type_core.specs.Typ.{Typ}
use Rattle.type_core.specs.Typ as typ
use Rattle.type_core.specs.TypeTable.{IsTypeOf, type_at, KeepsTypes, HasAdded, AreDistinct}
use Rattle.type_core.specs.Nodes.{type_of_node, types_of, node_at, PartsAreBelow, StandOnce, HasAddedNode, IsTable}

-- one more node
abbrev add_type : List Typ → Node → List Typ
add_type table n = table ++ type_of_node table n ∷ []

pub length-fold : (ts : List Typ) (ns : List Node) → length (fold add_type ts ns) ≡ length ts + length ns
length-fold ts [] = omega arith
length-fold ts (n ∷ ns) =
    let e = length-fold (add_type ts n) ns in
    let p = length_push ts (type_of_node ts n) in omega (arith, e, p)

pub length-types_of : (ns : List Node) → length (types_of ns) ≡ length ns
length-types_of ns = let e = length-fold [] ns in omega (arith, e)

-- the types that were there stay
type_at-fold : (ts : List Typ) (ns : List Node) (i : ℕ) → i < length ts → get_or (fold add_type ts ns) i typ.Unknown ≡ get_or ts i typ.Unknown
type_at-fold ts [] i h = refl
type_at-fold ts (n ∷ ns) i h =
    let p = length_push ts (type_of_node ts n) in
    type_at-fold (add_type ts n) ns i (omega (arith, p, h)) ∙ get_or_append_left ts (type_of_node ts n ∷ []) typ.Unknown i h

-- a node's type is settled by the types of its parts
type_of_node-same : (ts us : List Typ) (n : Node) (i : ℕ) → PartsAreBelow n i → ((k : ℕ) → k < i → get_or us k typ.Unknown ≡ get_or ts k typ.Unknown) → type_of_node us n ≡ type_of_node ts n
type_of_node-same ts us Unknown i h same = refl
type_of_node-same ts us Num i h same = refl
type_of_node-same ts us Boolean i h same = refl
type_of_node-same ts us (Pair f a b) i h same = let x = same a.0 h.0 in let y = same b.0 h.1 in cc

-- each node has its type at its place
type_at-fold_here : (ts : List Typ) (ns : List Node) (i : ℕ) → i < length ns → PartsAreBelow (node_at ns i) (length ts + i)
    → get_or (fold add_type ts ns) (length ts + i) typ.Unknown ≡ type_of_node (fold add_type ts ns) (node_at ns i)
type_at-fold_here ts [] i h parts = absurd (omega (arith, h))
type_at-fold_here ts (n ∷ ns) zero h parts =
    let p = length_push ts (type_of_node ts n) in
    let here : get_or (fold add_type (add_type ts n) ns) (length ts) typ.Unknown ≡ type_of_node ts n = type_at-fold (add_type ts n) ns (length ts) (omega (arith, p)) ∙ get_or_push ts (type_of_node ts n) typ.Unknown (length ts) refl in
    let e : length ts + 0 ≡ length ts = omega arith in
    let below : PartsAreBelow n (length ts) = subst (PartsAreBelow n) e parts in
    subst (λ k. get_or (fold add_type (add_type ts n) ns) k typ.Unknown ≡ type_of_node (fold add_type (add_type ts n) ns) n) (sym e)
    (here ∙ sym (type_of_node-same ts (fold add_type (add_type ts n) ns) n (length ts) below
    (λ k lt. type_at-fold (add_type ts n) ns k (omega (arith, p, lt)) ∙ get_or_append_left ts (type_of_node ts n ∷ []) typ.Unknown k lt)))
type_at-fold_here ts (n ∷ ns) (suc i) h parts =
    let e : length (add_type ts n) + i ≡ length ts + suc i = (let p = length_push ts (type_of_node ts n) in omega (arith, p)) in
    subst (λ k. get_or (fold add_type (add_type ts n) ns) k typ.Unknown ≡ type_of_node (fold add_type (add_type ts n) ns) (node_at ns i)) e
    (type_at-fold_here (add_type ts n) ns i (omega (arith, h)) (subst (PartsAreBelow (node_at ns i)) (sym e) parts))

pub type_at-types_of : (ns : List Node) → IsTable ns → (i : ℕ) → i < length ns → get_or (types_of ns) i typ.Unknown ≡ type_of_node (types_of ns) (node_at ns i)
type_at-types_of ns table i h =
    let e : 0 + i ≡ i = omega arith in
    subst (λ k. get_or (types_of ns) k typ.Unknown ≡ type_of_node (types_of ns) (node_at ns i)) e
    (type_at-fold_here [] ns i h (subst (PartsAreBelow (node_at ns i)) (sym e) (table.parts i)))

-- a type stands where its number is, also after more types
pub KeepsTypes-push : (ts : List Typ) (t : Typ) → KeepsTypes ts (ts ++ t ∷ [])
KeepsTypes-push ts t = record {
  longer = (let p = length_push ts t in omega (arith, p));
  types = λ id h. get_or_append_left ts (t ∷ []) typ.Unknown id.0 h;
}

pub KeepsTypes-refl : (ts : List Typ) → KeepsTypes ts ts
KeepsTypes-refl ts = record { longer = omega arith; types = λ id h. refl }

pub IsTypeOf-kept : (old new : List Typ) → KeepsTypes old new → (id : TypeId) → IsTypeOf old id → IsTypeOf new id
IsTypeOf-kept old new kept id h = let l = kept.longer in omega (arith, l, h)

pub KeepsTypes-trans : (ts us vs : List Typ) → KeepsTypes ts us → KeepsTypes us vs → KeepsTypes ts vs
KeepsTypes-trans ts us vs p q = record {
  longer = (let a = p.longer in let b = q.longer in omega (arith, a, b));
  types = λ id h. q.types id (IsTypeOf-kept ts us p id h) ∙ p.types id h;
}

pub KeepsTypes-added : (t : Typ) (old new : List Typ) → HasAdded t old new → KeepsTypes old new
KeepsTypes-added t old new (inl e) = subst (KeepsTypes old) (sym e) (KeepsTypes-refl old)
KeepsTypes-added t old new (inr e) = subst (KeepsTypes old) (sym e) (KeepsTypes-push old t)

-- what a read of the nodes says of the type at that number
pub type_at-read : (ns ws : List Node) (table : List Typ) → types_of ns ≡ table → ws ≡ ns → IsTable ns → (i : ℕ) → i < length table
    → get_or table i typ.Unknown ≡ type_of_node table (get_or ws i Unknown)
type_at-read ns ws table view same nodes i h =
    let within : i < length ns = omega (arith, h, ap length view, length-types_of ns) in
    subst (λ t. get_or t i typ.Unknown ≡ type_of_node t (get_or ws i Unknown)) view
    (subst (λ xs. get_or (types_of ns) i typ.Unknown ≡ type_of_node (types_of ns) (get_or xs i Unknown)) (sym same) (type_at-types_of ns nodes i within))

-- the base types stand at the first numbers
pub base_within : (ns : List Node) (table : List Typ) → types_of ns ≡ table → IsTable ns → (i : ℕ) → i < 3 → i < length table
base_within ns table view nodes i h = omega (arith, h, nodes.base_count, ap length view, length-types_of ns)

pub base_type : (ns : List Node) (table : List Typ) → types_of ns ≡ table → IsTable ns → (i : ℕ) → i < 3 → (n : Node) → node_at ns i ≡ n
    → get_or table i typ.Unknown ≡ type_of_node table n
base_type ns table view nodes i h n e =
    type_at-read ns ns table view refl nodes i (base_within ns table view nodes i h) ∙ ap (type_of_node table) e

module _ (eq : Node → Node → Bool) (reflexive : (n : Node) → eq n n ≡ true) where
  -- the nodes that a set holds stand once each
  pub StandOnce-from_distinct : (ns : List Node) → IsDistinct eq ns → StandOnce ns
  StandOnce-from_distinct ns apart i j hi hj e = by (cases_order i j)
    where
      clash : (k l : ℕ) → k < l → l < length ns → node_at ns k ≡ node_at ns l → ⊥
      clash k l h hl same =
          true≢false (sym (reflexive (node_at ns l)) ∙ ap (λ n. eq n (node_at ns l)) (sym same) ∙ apart_from_distinct eq ns k l Unknown apart h hl)

      by : (i ≡ j) ⊎ ((i < j) ⊎ (j < i)) → i ≡ j
      by (inl same) = same
      by (inr (inl lt)) = absurd (clash i j lt hj e)
      by (inr (inr lt)) = absurd (clash j i lt hi (sym e))

IsTable-push : (ns : List Node) (n : Node) → IsTable ns → StandOnce (ns ++ n ∷ []) → PartsAreBelow n (length ns) → IsTable (ns ++ n ∷ [])
IsTable-push ns n nodes once parts = record {
  base_count = (let p = length_push ns n in let b = nodes.base_count in omega arith);
  unknown = before 0 (omega arith) ∙ nodes.unknown;
  num = before 1 (omega arith) ∙ nodes.num;
  boolean = before 2 (omega arith) ∙ nodes.boolean;
  once = once;
  parts = λ i. by i (cases_order i (length ns));
}
  where
    before : (i : ℕ) → i < 3 → node_at (ns ++ n ∷ []) i ≡ node_at ns i
    before i h = get_or_append_left ns (n ∷ []) Unknown i (let b = nodes.base_count in omega arith)

    by : (i : ℕ) → (i ≡ length ns) ⊎ ((i < length ns) ⊎ (length ns < i)) → PartsAreBelow (node_at (ns ++ n ∷ []) i) i
    by i (inl e) =
        subst (λ k. PartsAreBelow (node_at (ns ++ n ∷ []) k) k) (sym e) (subst (λ m. PartsAreBelow m (length ns)) (sym (get_or_push ns n Unknown (length ns) refl)) parts)
    by i (inr (inl lt)) = subst (λ m. PartsAreBelow m i) (sym (get_or_append_left ns (n ∷ []) Unknown i lt)) (nodes.parts i)
    by i (inr (inr lt)) =
        let p = length_push ns n in subst (λ m. PartsAreBelow m i) (sym (get_or_past (ns ++ n ∷ []) i Unknown (omega (arith, p, lt)))) tt

-- a table stays one with one more node
pub IsTable-added : (n : Node) (old new : List Node) → HasAddedNode n old new → StandOnce new → IsTable old → PartsAreBelow n (length old) → IsTable new
IsTable-added n old new (inl e) once nodes parts = subst IsTable (sym e) nodes
IsTable-added n old new (inr e) once nodes parts = subst IsTable (sym e) (IsTable-push old n nodes (subst StandOnce e once) parts)

-- and gets the type of that node
pub HasAdded-types_of : (n : Node) (old new : List Node) → HasAddedNode n old new → HasAdded (type_of_node (types_of old) n) (types_of old) (types_of new)
HasAdded-types_of n old new (inl e) = inl (ap types_of e)
HasAdded-types_of n old new (inr e) = inr (ap types_of e ∙ fold-append add_type [] old (n ∷ []))

-- what stands after a node was placed whose parts are numbers of the table
module _ (old new : List Node) (table : List Typ) (n : Node) (view : types_of old ≡ table) (nodes : IsTable old)
    (parts : PartsAreBelow n (length table)) (added : HasAddedNode n old new) (once : StandOnce new) where
  pub placed_nodes : IsTable new
  placed_nodes =
      IsTable-added n old new added once nodes (subst (PartsAreBelow n) (ap length (sym view) ∙ length-types_of old) parts)

  pub placed_added : HasAdded (type_of_node table n) table (types_of new)
  placed_added = subst (λ ts. HasAdded (type_of_node ts n) ts (types_of new)) view (HasAdded-types_of n old new added)

  pub placed_kept : KeepsTypes table (types_of new)
  placed_kept = KeepsTypes-added (type_of_node table n) table (types_of new) placed_added

  pub placed_number : (i : ℕ) → i < length new → i < length (types_of new)
  placed_number i h = omega (arith, h, length-types_of new)

  pub placed_type : (i : ℕ) → i < length new → node_at new i ≡ n → get_or (types_of new) i typ.Unknown ≡ type_of_node table n
  placed_type i h here =
      type_at-types_of new placed_nodes i h ∙ ap (type_of_node (types_of new)) here
      ∙ type_of_node-same table (types_of new) n (length table) parts (λ k lt. placed_kept.types (record { 0 = k }) lt)

-- a node has the form of its type
unknown_node : (table : List Typ) (n : Node) → type_of_node table n ≡ typ.Unknown → n ≡ Unknown
unknown_node table Unknown e = refl
unknown_node table Num e = cc
unknown_node table Boolean e = cc
unknown_node table (Pair f a b) e = cc

num_node : (table : List Typ) (n : Node) → type_of_node table n ≡ typ.Num → n ≡ Num
num_node table Unknown e = cc
num_node table Num e = refl
num_node table Boolean e = cc
num_node table (Pair f a b) e = cc

boolean_node : (table : List Typ) (n : Node) → type_of_node table n ≡ typ.Boolean → n ≡ Boolean
boolean_node table Unknown e = cc
boolean_node table Num e = cc
boolean_node table Boolean e = refl
boolean_node table (Pair f a b) e = cc

-- n has this form, and the types of its parts are these
record HasPartTypes (table : List Typ) (n : Node) (f : Former) (s t : Typ) : Type 0 where
  first : TypeId
  second : TypeId
  node : n ≡ Pair f first second
  first_type : type_at table first ≡ s
  second_type : type_at table second ≡ t

pair_node : (table : List Typ) (n : Node) (f : Former) (s t : Typ) → type_of_node table n ≡ typ.Pair f s t → HasPartTypes table n f s t
pair_node table Unknown f s t e = absurd (cc)
pair_node table Num f s t e = absurd (cc)
pair_node table Boolean f s t e = absurd (cc)
pair_node table (Pair g a b) f s t e = record { first = a; second = b; node = cc; first_type = cc; second_type = cc }

pair_nodes : (f : Former) (a b c d : TypeId) → a.0 ≡ c.0 → b.0 ≡ d.0 → Pair f a b ≡ Pair f c d
pair_nodes f a b c d p q =
    ap (λ k. Pair f (record { 0 = k }) b) p ∙ ap (λ k. Pair f c (record { 0 = k })) q

module _ (ns : List Node) (nodes : IsTable ns) where
  abbrev typ_at : ℕ → Typ
  typ_at i = get_or (types_of ns) i typ.Unknown

  same_place : (t : Typ) (i j : ℕ) → i < length ns → j < length ns → typ_at i ≡ t → typ_at j ≡ t → i ≡ j
  same_place typ.Unknown i j hi hj p q =
      nodes.once i j hi hj (unknown_node (types_of ns) (node_at ns i) (sym (type_at-types_of ns nodes i hi) ∙ p) ∙ sym (unknown_node (types_of ns) (node_at ns j) (sym (type_at-types_of ns nodes j hj) ∙ q)))
  same_place typ.Num i j hi hj p q =
      nodes.once i j hi hj (num_node (types_of ns) (node_at ns i) (sym (type_at-types_of ns nodes i hi) ∙ p) ∙ sym (num_node (types_of ns) (node_at ns j) (sym (type_at-types_of ns nodes j hj) ∙ q)))
  same_place typ.Boolean i j hi hj p q =
      nodes.once i j hi hj (boolean_node (types_of ns) (node_at ns i) (sym (type_at-types_of ns nodes i hi) ∙ p) ∙ sym (boolean_node (types_of ns) (node_at ns j) (sym (type_at-types_of ns nodes j hj) ∙ q)))
  same_place (typ.Pair f s t) i j hi hj p q =
      let x = pair_node (types_of ns) (node_at ns i) f s t (sym (type_at-types_of ns nodes i hi) ∙ p) in
      let y = pair_node (types_of ns) (node_at ns j) f s t (sym (type_at-types_of ns nodes j hj) ∙ q) in
      let bx = subst (λ n. PartsAreBelow n i) x.node (nodes.parts i) in
      let by = subst (λ n. PartsAreBelow n j) y.node (nodes.parts j) in
      let first = same_place s x.first.0 y.first.0 (let h = bx.0 in omega (arith, h, hi)) (let h = by.0 in omega (arith, h, hj)) x.first_type y.first_type in
      let second = same_place t x.second.0 y.second.0 (let h = bx.1 in omega (arith, h, hi)) (let h = by.1 in omega (arith, h, hj)) x.second_type y.second_type in
      nodes.once i j hi hj (x.node ∙ pair_nodes f x.first x.second y.first y.second first second ∙ sym y.node)

  -- a type stands at one place
  pub AreDistinct-types_of : (table : List Typ) → types_of ns ≡ table → AreDistinct table
  AreDistinct-types_of table view = subst AreDistinct view (λ a b ha hb e.
      let place = same_place (type_at (types_of ns) b) a.0 b.0 (omega (arith, ha, length-types_of ns)) (omega (arith, hb, length-types_of ns)) e refl in
      ap (λ k. record { 0 = k }) place)
