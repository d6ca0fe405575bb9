use Rattle.std.proofs.Common.{◌≡◌, ℕ, List, [], ◌∷◌, length, refl, sym, subst}
use Rattle.grove_sorts.specs.declared.ctor.Ctor.{Ctor}
use Rattle.grove_sorts.specs.declared.ctor.Ctor.TheVariants.{Fst, Snd, Num}
use Rattle.grove_sorts.specs.declared.position.Position.{Position}
use Rattle.grove_sorts.specs.declared.position.Position.TheVariants.{Main, Operand}
use Rattle.grove_edits.specs.declared.vertex.Vertex.{Vertex}
use Rattle.grove_edits.specs.declared.edge.Edge.{Edge}
use Rattle.graph_words.specs.Live.{IsInEdgeOrder, targets_of}
use Rattle.grove_edits.specs.Vertex.{root}
use Rattle.graph_tests.proofs.unicycle_roots_tests.sample.Goals as goal

abbrev vertex : ℕ → Ctor → Vertex
vertex n c = record { name = record { author = 1; counter = n }; ctor = c }

abbrev edge : ℕ → Vertex → Position → Vertex → Edge
edge n s p t = record { name = record { author = 1; counter = n }; source = s; position = p; target = t }

abbrev sample : List Edge
sample =
    edge 2 (vertex 1 Fst) Operand (vertex 1 Fst)
    ∷ edge 4 (vertex 3 Fst) Operand (vertex 5 Snd)
    ∷ edge 6 (vertex 5 Snd) Operand (vertex 3 Fst)
    ∷ edge 8 (vertex 5 Snd) Operand (vertex 7 (Num 7))
    ∷ edge 10 root Main (vertex 9 Snd)
    ∷ edge 12 (vertex 9 Snd) Operand (vertex 11 (Num 8))
    ∷ []

in_order : IsInEdgeOrder sample
in_order = (
  (refl, (refl, (refl, (refl, (refl, tt))))),
  ((refl, (refl, (refl, (refl, tt)))), ((refl, (refl, (refl, tt))), ((refl, (refl, tt)), ((refl, tt), (tt, tt))))),
)

counted : 6 ≡ length (targets_of sample)
counted = refl

pub invariant_of-result : goal.invariant_of-result
invariant_of-result c =
    let items = c.in_ok-edges.ensures.items in
    let is : c.in_ok-edges.edges.items ≡ sample = cc items in
    subst (λ (xs : List Edge). IsInEdgeOrder xs × (6 ≡ length (targets_of xs))) (sym is) (in_order, counted)
