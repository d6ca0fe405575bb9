-- The children that are left of a vertex, and what is made for them.
use Rattle.std.proofs.Common.{◌≡◌, inl, inr, Bool, List, [], ◌∷◌, ◌++◌, refl, sym, ap, subst, ◌∙◌, append_assoc, append-nil}
use Rattle.grove_sorts.specs.declared.position.Position.{Position}
use Rattle.grove_edits.specs.declared.vertex.Vertex.{Vertex}
use Rattle.grove_edits.specs.declared.edge.Edge.{Edge}
use Rattle.graph_words.specs.declared.class.Class.{Class}
use Rattle.graph_words.specs.declared.class.Class.TheVariants.{Multi, Cycle, Inner}
use Rattle.graph_words.specs.Class.{class}
use Rattle.grove_terms.specs.Forest.{Forest, none, multi_ref, cycle_ref, tree, child_edges, AreChildren}
use Rattle.mark_step.specs.Expression.{Demanded}
use Rattle.kept_records.specs.Kept.{Kept, Records, IsTreeIn}
use Rattle.kept_records.specs.Renewal.{HasToBeJudged, IsLeft, MakesUnder}
use Rattle.mark_incremental.specs.Walking.{Level, demands, made_of, behind, IsTail, Awaits, GoesOn}

-- ---- tails of children

pub tail_itself : (f : Forest) → IsTail f f
tail_itself none = refl
tail_itself (multi_ref e rest) = inl refl
tail_itself (cycle_ref e rest) = inl refl
tail_itself (tree e below rest) = inl refl

pub tail_behind : (left f : Forest) → IsTail left f → IsTail (behind left) f
tail_behind left none is = ap behind is
tail_behind left (multi_ref e rest) (inl is) = inr (subst (λ x. IsTail x rest) (sym (ap behind is)) (tail_itself rest))
tail_behind left (multi_ref e rest) (inr is) = inr (tail_behind left rest is)
tail_behind left (cycle_ref e rest) (inl is) = inr (subst (λ x. IsTail x rest) (sym (ap behind is)) (tail_itself rest))
tail_behind left (cycle_ref e rest) (inr is) = inr (tail_behind left rest is)
tail_behind left (tree e below rest) (inl is) = inr (subst (λ x. IsTail x rest) (sym (ap behind is)) (tail_itself rest))
tail_behind left (tree e below rest) (inr is) = inr (tail_behind left rest is)

tree_parts : (e d : Edge) (b c f g : Forest) → tree e b f ≡ tree d c g → (d ≡ e) × (c ≡ b)
tree_parts e d b c f g is = (cc, cc)

-- a tree among the children that are left is one among all
pub tail_tree : (e : Edge) (b rest f : Forest) → IsTail (tree e b rest) f → IsTreeIn f e b
tail_tree e b rest none is = cc
tail_tree e b rest (multi_ref d g) (inl is) = absurd cc
tail_tree e b rest (multi_ref d g) (inr is) = tail_tree e b rest g is
tail_tree e b rest (cycle_ref d g) (inl is) = absurd cc
tail_tree e b rest (cycle_ref d g) (inr is) = tail_tree e b rest g is
tail_tree e b rest (tree d c g) (inl is) = inl (tree_parts e d b c rest g is)
tail_tree e b rest (tree d c g) (inr is) = inr (tail_tree e b rest g is)

pub tail_children : (live : List Edge) (left f : Forest) → IsTail left f → AreChildren live f → AreChildren live left
tail_children live left none is are = subst (AreChildren live) (sym is) are
tail_children live left (multi_ref e rest) (inl is) are = subst (AreChildren live) (sym is) are
tail_children live left (multi_ref e rest) (inr is) are = tail_children live left rest is are.1
tail_children live left (cycle_ref e rest) (inl is) are = subst (AreChildren live) (sym is) are
tail_children live left (cycle_ref e rest) (inr is) are = tail_children live left rest is are.1
tail_children live left (tree e below rest) (inl is) are = subst (AreChildren live) (sym is) are
tail_children live left (tree e below rest) (inr is) are = tail_children live left rest is are.3

-- ---- the first child that is left

-- nothing is made for a reference
abbrev pub IsPassed : Forest → Type 0
IsPassed left = (judged : Vertex → Bool) (records : Records) (given : Position → Demanded) (made : List (Vertex × Kept)) → MakesUnder judged records given (behind left) made → MakesUnder judged records given left made

-- the first child is a tree
pub record BeginsWithTree (left : Forest) (e : Edge) : Type 0 where
  pub below : Forest
  pub rest : Forest
  pub is : left ≡ tree e below rest

first_edge : (d e : Edge) (es fs : List Edge) → d ∷ es ≡ e ∷ fs → (d ≡ e) × (es ≡ fs)
first_edge d e es fs is = (cc, cc)

pub behind_first : (left : Forest) (e : Edge) (es : List Edge) → child_edges left ≡ e ∷ es → child_edges (behind left) ≡ es
behind_first none e es is = absurd cc
behind_first (multi_ref d rest) e es is = (first_edge d e (child_edges rest) es is).1
behind_first (cycle_ref d rest) e es is = (first_edge d e (child_edges rest) es is).1
behind_first (tree d below rest) e es is = (first_edge d e (child_edges rest) es is).1

pub none_left : (left : Forest) → child_edges left ≡ [] → left ≡ none
none_left none is = refl
none_left (multi_ref d rest) is = absurd cc
none_left (cycle_ref d rest) is = absurd cc
none_left (tree d below rest) is = absurd cc

module _ (live : List Edge) where
  pub first_reference : (left : Forest) (e : Edge) (es : List Edge) → AreChildren live left → child_edges left ≡ e ∷ es → (class live e.target ≡ Inner → ⊥) → IsPassed left
  first_reference none e es are is outer = λ judged records given made makes. makes
  first_reference (multi_ref d rest) e es are is outer = λ judged records given made makes. makes
  first_reference (cycle_ref d rest) e es are is outer = λ judged records given made makes. makes
  first_reference (tree d below rest) e es are is outer =
      absurd (outer (ap (λ (x : Edge). class live x.target) (sym (first_edge d e (child_edges rest) es is).0) ∙ are.0))

  clash : (c : Class) → c ≡ Inner → c ≡ Multi → ⊥
  clash c is other = let no : Inner ≡ Multi = sym is ∙ other in cc

  clash_cycle : (c : Class) → c ≡ Inner → c ≡ Cycle → ⊥
  clash_cycle c is other = let no : Inner ≡ Cycle = sym is ∙ other in cc

  pub first_tree : (left : Forest) (e : Edge) (es : List Edge) → AreChildren live left → child_edges left ≡ e ∷ es → class live e.target ≡ Inner → BeginsWithTree left e
  first_tree none e es are is inner = absurd cc
  first_tree (multi_ref d rest) e es are is inner =
      absurd (clash (class live e.target) inner (ap (λ (x : Edge). class live x.target) (sym (first_edge d e (child_edges rest) es is).0) ∙ are.0))
  first_tree (cycle_ref d rest) e es are is inner =
      absurd (clash_cycle (class live e.target) inner (ap (λ (x : Edge). class live x.target) (sym (first_edge d e (child_edges rest) es is).0) ∙ are.0))
  first_tree (tree d below rest) e es are is inner =
      record { below = below; rest = rest; is = ap (λ (x : Edge). tree x below rest) (first_edge d e (child_edges rest) es is).0 }

-- ---- what is made for it

module _ (judged : Vertex → Bool) (records : Records) where
  skip_left : (given : Position → Demanded) (left : Forest) (e : Edge) (b rest : Forest) → left ≡ tree e b rest → IsLeft judged records e.target (given e.position)
      → (made : List (Vertex × Kept)) → MakesUnder judged records given (behind left) made → MakesUnder judged records given left made
  skip_left given left e b rest is as_left made makes =
      subst (λ x. MakesUnder judged records given x made) (sym is) (inl (as_left, subst (λ x. MakesUnder judged records given x made) (ap behind is) makes))

  module _ (Done : List (Vertex × Kept) → Type 0) where
    -- a child for which nothing is made is passed
    pub past : (l : Level) (ls : List Level) (made : List (Vertex × Kept))
        → ((later : List (Vertex × Kept)) → MakesUnder judged records (demands l) (behind l.left) later → MakesUnder judged records (demands l) l.left later)
        → GoesOn judged records Done (l ∷ ls) made → GoesOn judged records Done (record l { left = behind l.left } ∷ ls) made
    past l ls made skips goes later makes = goes later (skips later makes)

    pub past_left : (l : Level) (ls : List Level) (made : List (Vertex × Kept)) (e : Edge) (b rest : Forest) → l.left ≡ tree e b rest → IsLeft judged records e.target (demands l e.position)
        → GoesOn judged records Done (l ∷ ls) made → GoesOn judged records Done (record l { left = behind l.left } ∷ ls) made
    past_left l ls made e b rest is as_left = past l ls made (skip_left (demands l) l.left e b rest is as_left)

    -- a child that is judged again is opened
    pub down : (l : Level) (ls : List Level) (made : List (Vertex × Kept)) (e : Edge) (b rest : Forest) (c : Level) → l.left ≡ tree e b rest
        → c ≡ record { above = l.vertex ∷ l.above; vertex = e.target; forest = b; demanded = demands l e.position; left = b }
        → HasToBeJudged judged records e.target (demands l e.position)
        → GoesOn judged records Done (l ∷ ls) made → GoesOn judged records Done (c ∷ l ∷ ls) made
    down l ls made e b rest c is child again goes = subst (λ x. GoesOn judged records Done (x ∷ l ∷ ls) made) (sym child) below where
      own : Vertex × Kept
      own = made_of (record { above = l.vertex ∷ l.above; vertex = e.target; forest = b; demanded = demands l e.position; left = b })

      below : GoesOn judged records Done (record { above = l.vertex ∷ l.above; vertex = e.target; forest = b; demanded = demands l e.position; left = b } ∷ l ∷ ls) made
      below inner makes_inner later makes_later =
          let makes : MakesUnder judged records (demands l) l.left (inner ++ own ∷ later) =
          subst (λ x. MakesUnder judged records (demands l) x (inner ++ own ∷ later)) (sym is)
          (inr (again, inner, later, refl, makes_inner, subst (λ x. MakesUnder judged records (demands l) x later) (ap behind is) makes_later)) in
          subst (λ xs. Awaits judged records Done ls (xs ++ made_of l ∷ [])) (sym (append_assoc (made ++ inner) (own ∷ []) later ∙ append_assoc made inner (own ∷ later))) (goes (inner ++ own ∷ later) makes)

    -- a vertex none of whose children is left gets its record
    pub up : (l : Level) (ls : List Level) (made : List (Vertex × Kept)) → l.left ≡ none → GoesOn judged records Done (l ∷ ls) made → Awaits judged records Done ls (made ++ made_of l ∷ [])
    up l ls made none_left goes =
        subst (λ xs. Awaits judged records Done ls (xs ++ made_of l ∷ [])) (append-nil made)
        (goes [] (subst (λ x. MakesUnder judged records (demands l) x []) (sym none_left) refl))
