-- The records that walks down make, put in place of the kept ones, are those of the new graph.
use Rattle.std.proofs.Common.{◌≡◌, Bool, true, false, cond, not, List, [], ◌∷◌, refl, sym, ap, subst, ◌∙◌}
use Rattle.std.specs.Prelude.{◌||◌, ◌&&◌, filter}
use Rattle.graph_words.specs.Class.{is_same_class, class}
use Rattle.grove_edits.specs.declared.vertex.Vertex.{Vertex}
use Rattle.grove_edits.specs.declared.edge.Edge.{Edge}
use Rattle.grove_edits.specs.declared.edit.Edit.{Edit}
use Rattle.grove_edits.specs.Edit.{edit_edge}
use Rattle.grove_edits.specs.Vertex.{is_same_vertex, stands_in}
use Rattle.grove_edits.specs.Graph.{graph}
use Rattle.grove_edits.proofs.Vertices.{same_vertex_exact}
use Rattle.graph_words.specs.declared.class.Class.TheVariants.{Inner}
use Rattle.graph_words.specs.Whole.{AreLive, IsVertexOf}
use Rattle.grove_terms.proofs.WellSorted.{live_well_formed}
use Rattle.kept_records.specs.Kept.{Kept, Records, AreKept, Stands}
use Rattle.grove_terms.specs.Forest.{Forest}
use Rattle.mark_step.specs.Expression.{Demanded}
use Rattle.kept_records.specs.Local.{is_inner}
use Rattle.kept_records.specs.Change.{CyclesStay, is_on_walks, StandOnce}
use Rattle.kept_records.specs.Renewal.{MakesTrees, AreHeads, put}
use Rattle.kept_records.proofs.Children.{IsTreeOf, children_are_of}
use Rattle.kept_records.proofs.Standing.{stands_under}
use Rattle.kept_records.proofs.Scratch.{target_vertex}
use Rattle.kept_records.proofs.Edited.{left_keeps, edit_keeps}
use Rattle.graph_words.proofs.Chains.{not_inner_from_test}
use Rattle.mark_incremental.specs.Walking.{LeavesRight}
use Rattle.grove_sorts.proofs.Truths.{not_true}

-- ---- heads among vertices

pub not_inner : (live : List Edge) (v : Vertex) → is_inner live v ≡ false → class live v ≡ Inner → ⊥
not_inner live v is inner = by (is_inner live v) is (test live v inner) where
  by : (b : Bool) → b ≡ false → b ≡ true → ⊥
  by b x y = let no : false ≡ true = sym x ∙ y in cc

  test : (live : List Edge) (v : Vertex) → class live v ≡ Inner → is_inner live v ≡ true
  test live v inner = ap (λ c. is_same_class c Inner) inner

pub stands_filtered : (p : Vertex → Bool) (v : Vertex) (vs : List Vertex) → stands_in v (filter p vs) ≡ (p v && stands_in v vs)
stands_filtered p v [] = by (p v) where
  by : (b : Bool) → false ≡ (b && false)
  by true = refl
  by false = refl
stands_filtered p v (x ∷ xs) = by_test (p x) refl (stands_filtered p v xs) where
  by_same : (b c : Bool) → is_same_vertex x v ≡ b → p x ≡ c → stands_in v (filter p xs) ≡ (p v && stands_in v xs) → stands_in v (cond c (x ∷ filter p xs) (filter p xs)) ≡ (p v && (b || stands_in v xs))
  by_same true true same keep rest =
      ap (λ b. b || stands_in v (filter p xs)) same ∙ sym (ap (λ b. b && true) (ap p (sym (same_vertex_exact x v same)) ∙ keep))
  by_same true false same keep rest =
      rest ∙ ap (λ b. b && stands_in v xs) (ap p (sym (same_vertex_exact x v same)) ∙ keep) ∙ sym (ap (λ b. b && true) (ap p (sym (same_vertex_exact x v same)) ∙ keep))
  by_same false true same keep rest = ap (λ b. b || stands_in v (filter p xs)) same ∙ rest
  by_same false false same keep rest = rest

  by_test : (c : Bool) → p x ≡ c → stands_in v (filter p xs) ≡ (p v && stands_in v xs) → stands_in v (cond (p x) (x ∷ filter p xs) (filter p xs)) ≡ (p v && (is_same_vertex x v || stands_in v xs))
  by_test c keep rest = ap (λ b. stands_in v (cond b (x ∷ filter p xs) (filter p xs))) keep ∙ by_same (is_same_vertex x v) c refl keep rest

once_filtered : (p : Vertex → Bool) (vs : List Vertex) → StandOnce vs → StandOnce (filter p vs)
once_filtered p [] once = tt
once_filtered p (x ∷ xs) once = by (p x) (once_filtered p xs once.1) where
  none_there : (b : Bool) → stands_in x xs ≡ false → (b && stands_in x xs) ≡ false
  none_there true h = h
  none_there false h = refl

  by : (c : Bool) → StandOnce (filter p xs) → StandOnce (cond c (x ∷ filter p xs) (filter p xs))
  by true rest = (stands_filtered p x xs ∙ none_there (p x) once.0, rest)
  by false rest = rest

pub both_parts : (a b : Bool) → (a && b) ≡ true → (a ≡ true) × (b ≡ true)
both_parts true b h = (refl, h)
both_parts false b h = absurd cc

-- what stands below a vertex is a vertex of the graph
pub vertex_below : (edits : List Edit) (edit : Edit) (new : List Edge) → AreLive (graph (edit ∷ edits)) new → (u : Vertex) (us : List Vertex) (v : Vertex) (f : Forest) (d : Demanded) → Stands new (u ∷ us) v f d
    → IsVertexOf (graph (edit ∷ edits)) v
vertex_below edits edit new are_new u us v f d stands =
    let well = live_well_formed (edit ∷ edits) new are_new in
    let under = stands_under new us u stands.0 stands.1 stands.2 in
    let of : IsTreeOf new u stands.3.edge = children_are_of new well u stands.0 under.edges stands.3.edge f stands.3.is_tree in
    subst (IsVertexOf (graph (edit ∷ edits))) stands.3.target (target_vertex (graph (edit ∷ edits)) new are_new well stands.3.edge of.held)

-- ---- one walk down

module _ (edits : List Edit) (edit : Edit) (old new : List Edge) (are_old : AreLive (graph edits) old) (are_new : AreLive (graph (edit ∷ edits)) new) where
  pub leaves_right : CyclesStay old new → (records : Records) → AreKept (graph edits) old records → LeavesRight new (is_on_walks (edit_edge edit) old new) records
  leaves_right stay records kept u us v f d stands left = left_keeps edits edit old new are_old are_new stay records kept (u ∷ us) v f d stands (vertex_below edits edit new are_new u us v f d stands) left

  -- the heads of trees among the vertices on the walks
  pub near_heads : (vertices : List Vertex) → StandOnce vertices → ((v : Vertex) → stands_in v vertices ≡ is_on_walks (edit_edge edit) old new v) → AreHeads (edit_edge edit) old new (filter (λ v. not (is_inner new v)) vertices)
  near_heads vertices once these = record {
    once = once_filtered (λ v. not (is_inner new v)) vertices once;
    each = λ v outer walked. stands_filtered (λ x. not (is_inner new x)) v vertices ∙ ap (λ b. not b && stands_in v vertices) (not_inner_from_test new v outer) ∙ these v ∙ walked;
    no_other = λ v stands. let parts = both_parts (not (is_inner new v)) (stands_in v vertices) (sym (stands_filtered (λ x. not (is_inner new x)) v vertices) ∙ stands) in
        (not_inner new v (not_true (is_inner new v) parts.0), sym (these v) ∙ parts.1);
  }

  pub near_keeps : CyclesStay old new → (records : Records) → AreKept (graph edits) old records → (vertices : List Vertex) → StandOnce vertices → ((v : Vertex) → stands_in v vertices ≡ is_on_walks (edit_edge edit) old new v)
      → (made : List (Vertex × Kept)) → MakesTrees (is_on_walks (edit_edge edit) old new) new records (filter (λ v. not (is_inner new v)) vertices) made → AreKept (graph (edit ∷ edits)) new (put made records)
  near_keeps stay records kept vertices once these made makes =
      edit_keeps edits edit old new are_old are_new stay records kept (filter (λ v. not (is_inner new v)) vertices) (near_heads vertices once these) made makes
