-- A worked example, by computation: an edit at the foot of a balanced tree of 1,023 sums.
use Rattle.std.proofs.Common.{◌≡◌, ℕ, zero, suc, ◌+◌, ◌/◌, ◌%◌, ◌==◌, cond, List, [], ◌∷◌, ◌++◌, refl}
use Rattle.grove_sorts.specs.declared.position.Position.{Position}
use Rattle.grove_sorts.specs.declared.position.Position.TheVariants.{Main, Left, Right}
use Rattle.grove_sorts.specs.declared.ctor.Ctor.TheVariants.{Plus, Num}
use Rattle.grove_edits.specs.declared.vertex.Vertex.{Vertex}
use Rattle.grove_edits.specs.declared.edge.Edge.{Edge}
use Rattle.graph_words.specs.Walk.{walk}
use Rattle.grove_edits.specs.Vertex.{root}
use Rattle.kept_records.specs.Change.{near_size}

abbrev sum_at : ℕ → Vertex
sum_at i = record { name = record { author = 1; counter = i }; ctor = Plus }

abbrev above_sum : ℕ → Vertex
above_sum i = cond (i == 1) root (sum_at (i / 2))

abbrev place_of : ℕ → Position
place_of i = cond (i == 1) Main (cond (i % 2 == 0) Left Right)

abbrev edge_to : ℕ → Edge
edge_to i = record { name = record { author = 1; counter = 2000 + i }; source = above_sum i; position = place_of i; target = sum_at i }

abbrev edges_to : ℕ → List Edge → List Edge
edges_to zero es = es
edges_to (suc n) es = edges_to n (edge_to (suc n) ∷ es)

abbrev sums : List Edge
sums = edges_to 1023 []

abbrev one : Vertex
one = record { name = record { author = 2; counter = 1 }; ctor = Num 1 }

abbrev to_one : Edge
to_one = record { name = record { author = 2; counter = 2 }; source = sum_at 512; position = Left; target = one }

near_sums : List Vertex
near_sums = one ∷ sum_at 512 ∷ sum_at 256 ∷ sum_at 128 ∷ sum_at 64 ∷ sum_at 32 ∷ sum_at 16 ∷ sum_at 8 ∷ sum_at 4 ∷ sum_at 2 ∷ sum_at 1 ∷ root ∷ []

walk_up : walk (sums ++ to_one ∷ []) one ≡ near_sums
unfolding near_sums
walk_up = refl

size_of : near_size sums (sums ++ to_one ∷ []) near_sums ≡ 51
unfolding near_sums
size_of = refl
