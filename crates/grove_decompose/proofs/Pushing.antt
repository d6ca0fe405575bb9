-- Tasks pushed one by one, the last first.
use Rattle.std.proofs.Common.{◌≡◌, ℕ, zero, suc, ◌+◌, ◌<◌, List, [], ◌∷◌, ◌++◌, length, take, refl, sym, ap, ◌∙◌, append_assoc, arith, ◌⊎◌, inl, inr}
use Rattle.std.specs.Prelude.{Some, slice_get, slice_index_or}
use Rattle.grove_sorts.specs.declared.position.Position.{Position}
use Rattle.grove_sorts.specs.declared.sort.Sort.{Sort}
use Rattle.grove_sorts.specs.Ctor.{positions}
use Rattle.grove_edits.specs.declared.vertex.Vertex.{Vertex}
use Rattle.grove_edits.specs.declared.edge.Edge.{Edge}
use Rattle.graph_words.specs.declared.class.Class.{Class}
use Rattle.graph_words.specs.declared.class.Class.TheVariants.{NoParent, Multi, Cycle, Inner}
use Rattle.grove_terms.specs.declared.node.What.TheVariants as whats
use Rattle.grove_terms.specs.declared.node.Role.{Role}
use Rattle.grove_terms.specs.declared.node.Role.TheVariants as roles
use Rattle.grove_terms.specs.Lent.{what_as}
use Rattle.grove_decompose.specs.declared.task.Task.TheVariants.{Place, Child}
use Rattle.grove_decompose.specs.declared.task.Task.{Task}
use Rattle.grove_decompose.specs.Tasks.{what_by, place_tasks, child_tasks, child_rest}

pub child_tasks-take : {S L : Type 0} (d : ℕ) (es : List L) (j : ℕ) (e : L) → j < length es → e ≡ slice_index_or es j e → child_tasks {S = S} d (take (suc j) es) ≡ Child e d ∷ child_tasks {S = S} d (take j es)
child_tasks-take d [] j e lt is = absurd (omega arith)
child_tasks-take {L = L} d (x ∷ xs) zero e lt is = ap (λ (y : L). Child y d ∷ []) (sym is)
child_tasks-take d (x ∷ xs) (suc j) e lt is = ap (λ ts. ts ++ Child x d ∷ []) (child_tasks-take d xs j e (omega arith) is)

some_same : (p q : Position × Sort) → Some p ≡ Some q → p ≡ q
some_same p q e = cc

pub place_tasks-take : {S L : Type 0} (v : S) (d : ℕ) (ps : List (Position × Sort)) (j : ℕ) (p : Position × Sort) → Some p ≡ slice_get ps j
    → place_tasks {L = L} v d (take (suc j) ps) ≡ Place v p.0 p.1 d ∷ place_tasks {L = L} v d (take j ps)
place_tasks-take v d [] j p is = absurd cc
place_tasks-take v d (q ∷ qs) zero p is = ap (λ (r : Position × Sort). Place v r.0 r.1 d ∷ []) (sym (some_same p q is))
place_tasks-take v d (q ∷ qs) (suc j) p is = ap (λ ts. ts ++ Place v q.0 q.1 d ∷ []) (place_tasks-take v d qs j p is)

pub pushed : {S L : Type 0} (old new rest more whole : List (Task S L)) (task : Task S L) → new ≡ old ++ task ∷ [] → more ≡ task ∷ rest → old ++ more ≡ whole → new ++ rest ≡ whole
pushed old new rest more whole task is next so_far = ap (λ ts. ts ++ rest) is ∙ append_assoc old (task ∷ []) rest ∙ ap (λ ts. old ++ ts) (sym next) ∙ so_far

-- ---- the tasks that a child leaves

whats_same : (v w : Vertex) → whats.Vertex v ≡ whats.Vertex w → v ≡ w
whats_same v w e = cc

-- a vertex leaves those for its positions
pub rest_of_vertex : (c : Class) (t v w : Vertex) (d : ℕ) → what_by c t ≡ whats.Vertex v → w ≡ t → place_tasks {L = Edge} w (d + 1) (positions v.ctor) ≡ child_rest c t d
rest_of_vertex Multi t v w d is same = absurd cc
rest_of_vertex Cycle t v w d is same = absurd cc
rest_of_vertex NoParent t v w d is same = ap (λ (x : Vertex). place_tasks x (d + 1) (positions v.ctor)) same ∙ ap (λ (x : Vertex). place_tasks t (d + 1) (positions x.ctor)) (sym (whats_same t v is))
rest_of_vertex Inner t v w d is same = ap (λ (x : Vertex). place_tasks x (d + 1) (positions v.ctor)) same ∙ ap (λ (x : Vertex). place_tasks t (d + 1) (positions x.ctor)) (sym (whats_same t v is))

-- a reference is no vertex
pub no_vertex : (r : Role) (t v : Vertex) → (r ≡ roles.MultiRef) ⊎ (r ≡ roles.CycleRef) → what_as r t ≡ whats.Vertex v → ⊥
no_vertex r t v (inl multi) is = let e : whats.MultiRef t ≡ whats.Vertex v = ap (λ (x : Role). what_as x t) (sym multi) ∙ is in absurd cc
no_vertex r t v (inr cycle) is = let e : whats.CycleRef t ≡ whats.Vertex v = ap (λ (x : Role). what_as x t) (sym cycle) ∙ is in absurd cc

-- a reference leaves none
pub rest_of_reference : (c : Class) (t : Vertex) (d : ℕ) → ((v : Vertex) → what_by c t ≡ whats.Vertex v → ⊥) → [] ≡ child_rest c t d
rest_of_reference Multi t d other = refl
rest_of_reference Cycle t d other = refl
rest_of_reference NoParent t d other = absurd (other t refl)
rest_of_reference Inner t d other = absurd (other t refl)
