-- The vertices from a vertex up to the first one that heads a tree.
use Rattle.std.proofs.Common.{◌≡◌, ℕ, zero, suc, ◌<◌, Bool, true, false, List, [], ◌∷◌, length, refl, sym, ap, subst, ◌∙◌, arith}
use Rattle.std.specs.Prelude.{◌||◌, ◌&&◌, not, Some}
use Rattle.grove_edits.specs.declared.vertex.Vertex.{Vertex}
use Rattle.grove_edits.specs.declared.edge.Edge.{Edge}
use Rattle.graph_words.specs.declared.class.Class.{Class}
use Rattle.graph_words.specs.declared.class.Class.TheVariants.{NoParent, Multi, Cycle, Inner}
use Rattle.graph_words.specs.Live.{parents_of}
use Rattle.grove_edits.specs.Vertex.{is_same_vertex, stands_in}
use Rattle.graph_words.specs.Walk.{only_source, above}
use Rattle.graph_words.specs.Class.{class_by, class, is_cycle_root, is_same_class}
use Rattle.grove_edits.proofs.Vertices.{same_vertex_exact}
use Rattle.graph_words.proofs.Up.{up, up-shift}
use Rattle.graph_words.proofs.Returns.{some_same}
use Rattle.graph_words.proofs.Tops.{has_top}

-- From the first vertex each is below the next one by its only parent edge and heads no tree, and the last one heads one.
abbrev pub IsChain : List Edge → Vertex → List Vertex → Type 0
IsChain live v [] = class live v ≡ Inner → ⊥
IsChain live v (w ∷ ws) = (e : Edge) × (class live v ≡ Inner) × (parents_of v live ≡ e ∷ []) × (e.source ≡ w) × IsChain live w ws

-- the last vertex, which heads a tree
abbrev pub chain_top : Vertex → List Vertex → Vertex
chain_top v [] = v
chain_top v (w ∷ ws) = chain_top w ws

pub record HasChain (live : List Edge) (v : Vertex) : Type 0 where
  pub above : List Vertex
  pub is : IsChain live v above

-- ---- there is one

chain_to : (live : List Edge) (n : ℕ) (v x : Vertex) → up live n (Some v) ≡ Some x → (class live x ≡ Inner → ⊥) → HasChain live v
chain_to live zero v x at heads = record { above = []; is = λ inner. heads (sym (ap (class live) (some_same v x at)) ∙ inner) }
chain_to live (suc n) v x at heads =
    by_parents (parents_of v live) (is_cycle_root live v) refl refl (λ w there. chain_to live n w x there heads) where
      by_parents : (parents : List Edge) (is_root : Bool) → parents_of v live ≡ parents → is_cycle_root live v ≡ is_root
          → ((w : Vertex) → up live n (Some w) ≡ Some x → HasChain live w) → HasChain live v
      by_parents [] is_root are is further = record { above = []; is = λ inner. let c : class live v ≡ NoParent = ap (λ es. class_by es (is_cycle_root live v)) are in cc }
      by_parents (e ∷ []) true are is further =
          record { above = []; is = λ inner. let c : class live v ≡ Cycle = ap (λ es. class_by es (is_cycle_root live v)) are ∙ ap (class_by (e ∷ [])) is in cc }
      by_parents (e ∷ []) false are is further =
          let c : class live v ≡ Inner = ap (λ es. class_by es (is_cycle_root live v)) are ∙ ap (class_by (e ∷ [])) is in
          let next : above live v ≡ Some e.source = ap only_source are in
          let there : up live n (Some e.source) ≡ Some x = ap (up live n) (sym next) ∙ up-shift live (Some v) n ∙ at in
          let rest = further e.source there in
          record { above = e.source ∷ rest.above; is = (e, c, are, refl, rest.is) }
      by_parents (e ∷ f ∷ more) is_root are is further =
          record { above = []; is = λ inner. let c : class live v ≡ Multi = ap (λ es. class_by es (is_cycle_root live v)) are in cc }

pub has_chain : (live : List Edge) (v : Vertex) → HasChain live v
has_chain live v = let t = has_top live v in chain_to live t.steps v t.top t.at t.heads

-- ---- no vertex stands on it twice

one_edge_of : (e f : Edge) → e ∷ [] ≡ f ∷ [] → e ≡ f
one_edge_of e f same = cc

pub chain_is_one : (live : List Edge) (v : Vertex) (xs ys : List Vertex) → IsChain live v xs → IsChain live v ys → xs ≡ ys
chain_is_one live v [] [] one other = refl
chain_is_one live v [] (y ∷ ys) one other = absurd (one other.1)
chain_is_one live v (x ∷ xs) [] one other = absurd (other one.1)
chain_is_one live v (x ∷ xs) (y ∷ ys) one other =
    let edge : other.0 ≡ one.0 = one_edge_of other.0 one.0 (sym other.2 ∙ one.2) in
    let same : y ≡ x = sym other.3 ∙ ap (λ (e : Edge). e.source) edge ∙ one.3 in
    let moved : IsChain live x ys = subst (λ z. IsChain live z ys) same other.4 in
    ap (λ zs. x ∷ zs) (chain_is_one live x xs ys one.4 moved) ∙ ap (λ z. z ∷ ys) (sym same)

-- what stands behind a vertex of a chain is its chain
record IsBehind (live : List Edge) (u : Vertex) (before : List Vertex) : Type 0 where
  behind : List Vertex
  chain : IsChain live u behind
  shorter : length behind < length before

behind_at : (live : List Edge) (v : Vertex) (ws : List Vertex) → IsChain live v ws → (u : Vertex) → stands_in u ws ≡ true → IsBehind live u ws
behind_at live v [] is u stands = absurd cc
behind_at live v (w ∷ ws) is u stands = by_test (is_same_vertex w u) refl stands (behind_at live w ws is.4 u) where
  by_test : (b : Bool) → is_same_vertex w u ≡ b → (b || stands_in u ws) ≡ true → (stands_in u ws ≡ true → IsBehind live u ws) → IsBehind live u (w ∷ ws)
  by_test true same stands later = record { behind = ws; chain = subst (λ z. IsChain live z ws) (same_vertex_exact w u same) is.4; shorter = omega arith }
  by_test false other stands later = let b = later stands in record { behind = b.behind; chain = b.chain; shorter = let s = b.shorter in omega arith }

pub chain_apart : (live : List Edge) (v : Vertex) (ws : List Vertex) → IsChain live v ws → stands_in v ws ≡ false
chain_apart live v ws is = by_test (stands_in v ws) refl where
  by_test : (b : Bool) → stands_in v ws ≡ b → stands_in v ws ≡ false
  by_test true again =
      let b = behind_at live v ws is v again in
      let same : length b.behind ≡ length ws = ap length (chain_is_one live v b.behind ws b.chain is) in
      let shorter = b.shorter in
      absurd (omega arith)
  by_test false new = new

-- ---- its last vertex alone heads a tree

abbrev pub is_inner : List Edge → Vertex → Bool
is_inner live v = is_same_class (class live v) Inner

pub inner_from_test : (live : List Edge) (v : Vertex) → is_inner live v ≡ true → class live v ≡ Inner
inner_from_test live v = by_class (class live v) where
  by_class : (c : Class) → is_same_class c Inner ≡ true → c ≡ Inner
  by_class NoParent h = absurd cc
  by_class Multi h = absurd cc
  by_class Cycle h = absurd cc
  by_class Inner h = refl

pub not_inner_from_test : (live : List Edge) (v : Vertex) → (class live v ≡ Inner → ⊥) → is_inner live v ≡ false
not_inner_from_test live v heads = by_test (is_inner live v) refl where
  by_test : (b : Bool) → is_inner live v ≡ b → is_inner live v ≡ false
  by_test true inner = absurd (heads (inner_from_test live v inner))
  by_test false outer = outer

pub top_heads : (live : List Edge) (v : Vertex) (ws : List Vertex) → IsChain live v ws → class live (chain_top v ws) ≡ Inner → ⊥
top_heads live v [] is inner = is inner
top_heads live v (w ∷ ws) is inner = top_heads live w ws is.4 inner

-- of the vertices of a chain those that head a tree are its last one
pub heads_on_chain : (live : List Edge) (v : Vertex) (ws : List Vertex) → IsChain live v ws → (u : Vertex) → (not (is_inner live u) && stands_in u (v ∷ ws)) ≡ is_same_vertex (chain_top v ws) u
heads_on_chain live v [] is u = by_test (is_same_vertex v u) refl where
  by_test : (b : Bool) → is_same_vertex v u ≡ b → (not (is_inner live u) && (b || false)) ≡ b
  by_test true same =
      let outer : is_inner live u ≡ false = ap (is_inner live) (sym (same_vertex_exact v u same)) ∙ not_inner_from_test live v is in
      ap (λ c. not c && true) outer
  by_test false other = nothing (not (is_inner live u)) where
    nothing : (c : Bool) → (c && false) ≡ false
    nothing true = refl
    nothing false = refl
heads_on_chain live v (w ∷ ws) is u = by_test (is_same_vertex v u) refl ∙ heads_on_chain live w ws is.4 u where
  by_test : (b : Bool) → is_same_vertex v u ≡ b → (not (is_inner live u) && (b || stands_in u (w ∷ ws))) ≡ (not (is_inner live u) && stands_in u (w ∷ ws))
  by_test true same =
      let inner : is_inner live u ≡ true = ap (is_inner live) (sym (same_vertex_exact v u same)) ∙ ap (λ c. is_same_class c Inner) is.1 in
      ap (λ c. not c && true) inner ∙ sym (ap (λ c. not c && stands_in u (w ∷ ws)) inner)
  by_test false other = refl
