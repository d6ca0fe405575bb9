-- A vertex stands in one tree, whose head is the only vertex above it that stands in the tree of no other.
use Rattle.std.proofs.Common.{◌≡◌, ℕ, zero, suc, true, false, List, [], ◌∷◌, length, refl, sym, ap, subst, ◌∙◌}
use Rattle.std.specs.Prelude.{Option, Some, None}
use Rattle.std.specs.List.{AllByRecursion}
use Rattle.grove_edits.specs.declared.vertex.Vertex.{Vertex}
use Rattle.grove_edits.specs.declared.edge.Edge.{Edge}
use Rattle.grove_edits.specs.Edge.{IsWellFormed}
use Rattle.graph_words.specs.declared.class.Class.{Class}
use Rattle.graph_words.specs.declared.class.Class.TheVariants.{NoParent, Multi, Cycle, Inner}
use Rattle.graph_words.specs.Live.{parents_of}
use Rattle.graph_words.specs.Walk.{above}
use Rattle.graph_words.specs.Class.{class, is_same_class, is_cycle_root}
use Rattle.graph_words.proofs.Up.{up, next_above, up-shift}
use Rattle.graph_words.proofs.Cycles.{Reaches, class_is_cycle}
use Rattle.grove_terms.specs.Forest.{Forest}
use Rattle.mark_step.specs.Expression.{Demanded}
use Rattle.kept_records.specs.Kept.{Stands}
use Rattle.kept_records.specs.Change.{top_of, StandsIn}
use Rattle.kept_records.proofs.Standing.{above_child, below_inner, HasPlace, has_place}
use Rattle.kept_records.proofs.Staying.{above_unless_multi}
use Rattle.kept_records.proofs.Other.{HasOwnEdge, own_edge, root_by}

some_same : (x y : Vertex) → Some x ≡ Some y → x ≡ y
some_same x y is = cc

cycle_from : (c : Class) → is_same_class c Cycle ≡ true → c ≡ Cycle
cycle_from NoParent h = absurd cc
cycle_from Multi h = absurd cc
cycle_from Cycle h = refl
cycle_from Inner h = absurd cc

-- the root of a cycle stands in the tree of no other
pub root_outer : (live : List Edge) (r : Vertex) → is_cycle_root live r ≡ true → class live r ≡ Inner → ⊥
root_outer live r root inner =
    let clash : true ≡ false = sym root ∙ sym (class_is_cycle live r) ∙ ap (λ c. is_same_class c Cycle) inner in
    cc

module _ (live : List Edge) (well : AllByRecursion IsWellFormed live) where
  stands_up : (us : List Vertex) (v : Vertex) (f : Forest) (d : Demanded) → Stands live us v f d → up live (length us) (Some v) ≡ Some (top_of v us)
  stands_up [] v f d s = refl
  stands_up (u ∷ us) v f d s =
      sym (up-shift live (Some v) (length us)) ∙ ap (up live (length us)) (above_child live well u us v f d s) ∙ stands_up us u s.0 s.1 s.2

  top_heads : (us : List Vertex) (v : Vertex) (f : Forest) (d : Demanded) → Stands live us v f d → class live (top_of v us) ≡ Inner → ⊥
  top_heads [] v f d s = s.0
  top_heads (u ∷ us) v f d s = top_heads us u s.0 s.1 s.2

  pub record HasHead (v : Vertex) : Type 0 where
    pub head : Vertex
    pub inside : StandsIn live head v

  pub has_head : (v : Vertex) → HasHead v
  has_head v =
      let p : HasPlace live well v = has_place live well v in
      record { head = top_of v p.above; inside = record { above = p.above; forest = p.forest; demanded = p.demanded; stands = p.stands; top = refl } }

  -- a vertex that stands in the tree of no other heads its own
  pub own_head : (v : Vertex) → (class live v ≡ Inner → ⊥) → StandsIn live v v
  own_head v outer = by p.above p.forest p.demanded p.stands where
    p : HasPlace live well v
    p = has_place live well v

    by : (us : List Vertex) (f : Forest) (d : Demanded) → Stands live us v f d → StandsIn live v v
    by [] f d s = record { above = []; forest = f; demanded = d; stands = s; top = refl }
    by (u ∷ us) f d s = absurd (outer (below_inner live u us v f d s))

  module _ (head : Vertex) where
    pub head_outer : (v : Vertex) → StandsIn live head v → class live head ≡ Inner → ⊥
    head_outer v inside inner = top_heads inside.above v inside.forest inside.demanded inside.stands (ap (class live) inside.top ∙ inner)

    pub reaches_head : (v : Vertex) → StandsIn live head v → Reaches live v head
    reaches_head v inside = (length inside.above, stands_up inside.above v inside.forest inside.demanded inside.stands ∙ ap Some inside.top)

    -- above the head of a tree nothing stands, or a vertex of the tree
    above_head : (w : Vertex) → (class live head ≡ Inner → ⊥) → above live head ≡ Some w → StandsIn live head w
    above_head w outer at = subst (StandsIn live head) same o.inside where
      cycle : class live head ≡ Cycle
      cycle = cycle_from (class live head) (class_is_cycle live head ∙ root_by live well (parents_of head live) (is_cycle_root live head) w at outer)

      o : HasOwnEdge live well head
      o = own_edge live well head cycle

      same : o.edge.source ≡ w
      same =
          some_same o.edge.source w
          (sym (above_unless_multi live o.edge o.held (λ multi. let clash : Multi ≡ Cycle = sym multi ∙ ap (class live) o.target ∙ cycle in cc)) ∙ ap (above live) o.target ∙ at)

    above_inside : (x w : Vertex) (us : List Vertex) (f : Forest) (d : Demanded) → Stands live us x f d → top_of x us ≡ head → above live x ≡ Some w → StandsIn live head w
    above_inside x w [] f d s top at = above_head w (λ inner. s.0 (ap (class live) top ∙ inner)) (ap (above live) (sym top) ∙ at)
    above_inside x w (u ∷ us) f d s top at =
        let one : u ≡ w = some_same u w (sym (above_child live well u us x f d s) ∙ at) in
        subst (StandsIn live head) one (record { above = us; forest = s.0; demanded = s.1; stands = s.2; top = top })

    -- each vertex above one of a tree stands in the tree
    pub up_inside : (n : ℕ) (v w : Vertex) → StandsIn live head v → up live n (Some v) ≡ Some w → StandsIn live head w
    up_inside zero v w inside at = subst (StandsIn live head) (some_same v w at) inside
    up_inside (suc n) v w inside at = by_last (up live n (Some v)) (λ x is. up_inside n v x inside is) refl at where
      by_last : (o : Option Vertex) → ((x : Vertex) → up live n (Some v) ≡ Some x → StandsIn live head x) → up live n (Some v) ≡ o → next_above live o ≡ Some w → StandsIn live head w
      by_last None there is next = absurd cc
      by_last (Some x) there is next = let i = there x is in above_inside x w i.above i.forest i.demanded i.stands i.top next

    -- and the head alone stands in the tree of no other
    pub one_head : (v w : Vertex) → StandsIn live head v → Reaches live v w → (class live w ≡ Inner → ⊥) → w ≡ head
    one_head v w inside (n, at) outer = let i = up_inside n v w inside at in by i.above i.forest i.demanded i.stands i.top where
      by : (us : List Vertex) (f : Forest) (d : Demanded) → Stands live us w f d → top_of w us ≡ head → w ≡ head
      by [] f d s top = top
      by (u ∷ us) f d s top = absurd (outer (below_inner live u us w f d s))
