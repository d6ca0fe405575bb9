-- Each vertex stands at one place, with what is demanded of it there.
use Rattle.std.proofs.Common.{◌≡◌, true, List, [], ◌∷◌, refl, sym, ap, subst, ◌∙◌}
use Rattle.std.specs.Prelude.{Some}
use Rattle.std.specs.List.{AllByRecursion}
use Rattle.grove_edits.specs.declared.vertex.Vertex.{Vertex}
use Rattle.grove_edits.specs.declared.edge.Edge.{Edge}
use Rattle.grove_edits.specs.Edge.{IsWellFormed}
use Rattle.graph_words.specs.declared.class.Class.TheVariants.{Inner}
use Rattle.graph_words.specs.Live.{holds_edge, parents_of}
use Rattle.grove_edits.specs.Vertex.{is_same_vertex}
use Rattle.graph_words.specs.Walk.{only_source, above}
use Rattle.graph_words.specs.Class.{class}
use Rattle.graph_words.proofs.Chains.{IsChain, has_chain}
use Rattle.grove_terms.specs.Forest.{Forest, child_edges, edges_under, StandsUnder}
use Rattle.grove_terms.proofs.Forests.{forest_of, root_stands, one_forest}
use Rattle.grove_terms.proofs.WellSorted.{held_first}
use Rattle.mark_step.specs.Expression.{Demanded}
use Rattle.kept_records.specs.Kept.{Kept, alone, kept_of, expression_of, demanded_at, IsTreeIn, Stands, IsKeptOf}
use Rattle.kept_records.proofs.Children.{all_held, held_in_filter, parents_lead, sole_parent, tree_inner, tree_stands, HasTree, has_tree, held_under, IsTreeOf, children_are_of}

-- what a vertex has for children stands under it
pub stands_under : (live : List Edge) (us : List Vertex) (v : Vertex) (f : Forest) (d : Demanded) → Stands live us v f d → StandsUnder live v f
stands_under live [] v f d s = s.1
stands_under live (u ∷ us) v f d s =
    let g = s.0 in
    let above : StandsUnder live u g = stands_under live us u g s.1 s.2 in
    subst (λ w. StandsUnder live w f) s.3.target (tree_stands live g above.children s.3.edge f s.3.is_tree)

-- the vertex below another is inner
pub below_inner : (live : List Edge) (u : Vertex) (us : List Vertex) (v : Vertex) (f : Forest) (d : Demanded) → Stands live (u ∷ us) v f d → class live v ≡ Inner
below_inner live u us v f d s =
    let above : StandsUnder live u s.0 = stands_under live us u s.0 s.1 s.2 in
    ap (class live) (sym s.3.target) ∙ tree_inner live s.0 above.children s.3.edge f s.3.is_tree

-- ---- one place

pub record ArePlaces (us : List Vertex) (f : Forest) (d : Demanded) (us' : List Vertex) (f' : Forest) (d' : Demanded) : Type 0 where
  pub above : us ≡ us'
  pub forest : f ≡ f'
  pub demanded : d ≡ d'

one_edge : (e f : Edge) → e ∷ [] ≡ f ∷ [] → e ≡ f
one_edge e f same = cc

module _ (live : List Edge) (well : AllByRecursion IsWellFormed live) where
  same_forest : (us us' : List Vertex) (v : Vertex) (f f' : Forest) (d d' : Demanded) → Stands live us v f d → Stands live us' v f' d' → f ≡ f'
  same_forest us us' v f f' d d' s s' =
      let a = stands_under live us v f d s in
      let b = stands_under live us' v f' d' s' in
      one_forest live f f' (a.edges ∙ sym b.edges) a.children b.children

  -- the edge to a child is the only parent edge of the child
  pub edge_of_child : (u : Vertex) (us : List Vertex) (v : Vertex) (f : Forest) (d : Demanded) → (s : Stands live (u ∷ us) v f d) → parents_of v live ≡ s.3.edge ∷ []
  edge_of_child u us v f d s =
      let above : StandsUnder live u s.0 = stands_under live us u s.0 s.1 s.2 in
      let of : IsTreeOf live u s.3.edge = children_are_of live well u s.0 above.edges s.3.edge f s.3.is_tree in
      ap (λ w. parents_of w live) (sym s.3.target) ∙ sole_parent live s.3.edge of.held (tree_inner live s.0 above.children s.3.edge f s.3.is_tree)

  pub source_of_child : (u : Vertex) (us : List Vertex) (v : Vertex) (f : Forest) (d : Demanded) → (s : Stands live (u ∷ us) v f d) → s.3.edge.source ≡ u
  source_of_child u us v f d s =
      let above : StandsUnder live u s.0 = stands_under live us u s.0 s.1 s.2 in
      let of : IsTreeOf live u s.3.edge = children_are_of live well u s.0 above.edges s.3.edge f s.3.is_tree in
      of.source

  -- a vertex stands below the one above it
  pub above_child : (u : Vertex) (us : List Vertex) (v : Vertex) (f : Forest) (d : Demanded) → Stands live (u ∷ us) v f d → above live v ≡ Some u
  above_child u us v f d s = ap only_source (edge_of_child u us v f d s) ∙ ap Some (source_of_child u us v f d s)

  pub one_place : (us us' : List Vertex) (v : Vertex) (f f' : Forest) (d d' : Demanded) → Stands live us v f d → Stands live us' v f' d' → ArePlaces us f d us' f' d'
  one_place [] [] v f f' d d' s s' = record { above = refl; forest = same_forest [] [] v f f' d d' s s'; demanded = s.2 ∙ sym s'.2 }
  one_place [] (u ∷ us) v f f' d d' s s' = absurd (s.0 (below_inner live u us v f' d' s'))
  one_place (u ∷ us) [] v f f' d d' s s' = absurd (s'.0 (below_inner live u us v f d s))
  one_place (u ∷ us) (w ∷ ws) v f f' d d' s s' =
      let edge : s.3.edge ≡ s'.3.edge = one_edge s.3.edge s'.3.edge (sym (edge_of_child u us v f d s) ∙ edge_of_child w ws v f' d' s') in
      let above : u ≡ w = sym (source_of_child u us v f d s) ∙ ap (λ (x : Edge). x.source) edge ∙ source_of_child w ws v f' d' s' in
      let there : Stands live us w s.0 s.1 = subst (λ x. Stands live us x s.0 s.1) above s.2 in
      let higher : ArePlaces us s.0 s.1 ws s'.0 s'.1 = one_place us ws w s.0 s'.0 s.1 s'.1 there s'.2 in
      record {
        above = ap (λ x. x ∷ us) above ∙ ap (λ xs. w ∷ xs) higher.above;
        forest = same_forest (u ∷ us) (w ∷ ws) v f f' d d' s s';
        demanded =
            s.3.demanded
            ∙ ap (λ x. demanded_at (expression_of x s.0 s.1) s.0 s.3.edge.position) above
            ∙ ap (λ (x : Edge). demanded_at (expression_of w s.0 s.1) s.0 x.position) edge
            ∙ ap (λ g. demanded_at (expression_of w g s.1) g s'.3.edge.position) higher.forest
            ∙ ap (λ given. demanded_at (expression_of w s'.0 given) s'.0 s'.3.edge.position) higher.demanded
            ∙ sym s'.3.demanded;
      }

  pub one_kept : (v : Vertex) (a b : Kept) → IsKeptOf live v a → IsKeptOf live v b → a ≡ b
  one_kept v a b of_a of_b =
      let one = one_place of_a.above of_b.above v of_a.forest of_b.forest of_a.demanded of_b.demanded of_a.stands of_b.stands in
      of_a.is ∙ ap (λ g. kept_of v g of_a.demanded) one.forest ∙ ap (λ given. kept_of v of_b.forest given) one.demanded ∙ sym of_b.is

  -- ---- and each has one

  pub record HasPlace (v : Vertex) : Type 0 where
    pub above : List Vertex
    pub forest : Forest
    pub demanded : Demanded
    pub stands : Stands live above v forest demanded

  -- a child of a vertex that stands somewhere stands below it
  pub child_stands : (u : Vertex) (us : List Vertex) (g : Forest) (given : Demanded) → Stands live us u g given → (e : Edge) (b : Forest) → IsTreeIn g e b
      → Stands live (u ∷ us) e.target b (demanded_at (expression_of u g given) g e.position)
  child_stands u us g given s e b is = (g, given, s, record { edge = e; is_tree = is; target = refl; demanded = refl })

  place_on_chain : (ws : List Vertex) (v : Vertex) → IsChain live v ws → HasPlace v
  place_on_chain [] v is = record { above = []; forest = forest_of live v; demanded = alone; stands = (is, root_stands live v is, refl) }
  place_on_chain (w ∷ ws) v is = subst HasPlace target (below (place_on_chain ws w is.4)) where
    among : holds_edge is.0 (parents_of v live) ≡ true
    among = ap (holds_edge is.0) is.2 ∙ held_first is.0 []

    held : holds_edge is.0 live ≡ true
    held = held_in_filter (λ e. is_same_vertex e.target v) is.0 live among

    target : is.0.target ≡ v
    target = all_held (λ e. e.target ≡ v) (parents_of v live) (parents_lead v live) is.0 among

    inner : class live is.0.target ≡ Inner
    inner = ap (class live) target ∙ is.1

    below : HasPlace w → HasPlace is.0.target
    below place =
        let under : StandsUnder live w place.forest = stands_under live place.above w place.forest place.demanded place.stands in
        let there : holds_edge is.0 (child_edges place.forest) ≡ true =
        ap (holds_edge is.0) (under.edges ∙ ap (edges_under live) (sym is.3)) ∙ held_under live is.0 held (all_held IsWellFormed live well is.0 held) in
        let found : HasTree place.forest is.0 = has_tree live place.forest under.children is.0 there inner in
        record {
          above = w ∷ place.above;
          forest = found.below;
          demanded = demanded_at (expression_of w place.forest place.demanded) place.forest is.0.position;
          stands = child_stands w place.above place.forest place.demanded place.stands is.0 found.below found.is;
        }

  pub has_place : (v : Vertex) → HasPlace v
  has_place v = let c = has_chain live v in place_on_chain c.above v c.is

  pub record HasKept (v : Vertex) : Type 0 where
    pub kept : Kept
    pub is : IsKeptOf live v kept

  pub has_kept : (v : Vertex) → HasKept v
  has_kept v =
      let p = has_place v in
      record { kept = kept_of v p.forest p.demanded; is = record { above = p.above; forest = p.forest; demanded = p.demanded; stands = p.stands; is = refl } }
