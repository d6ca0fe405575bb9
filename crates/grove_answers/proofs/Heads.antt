-- Vertices that head trees.
use Rattle.std.proofs.Common.{◌≡◌, ℕ, suc, List, [], ◌∷◌, ◌++◌, length, refl, ap}
use Rattle.std.specs.List.{AllByRecursion}
use Rattle.grove_edits.specs.declared.vertex.Vertex.{Vertex}
use Rattle.graph_words.specs.declared.class.Class.{Class}
use Rattle.graph_words.specs.declared.class.Class.TheVariants.{Inner}
use Rattle.graph_words.specs.Class.{class, of_class}
use Rattle.graph_table.specs.Table.{Table, live, vertex_at, IsNumber}
use Rattle.grove_decompose.specs.Trees.{vertices_of}
use Rattle.grove_decompose.proofs.Going.{outer_of_class}
use Rattle.grove_answers.specs.Program.{IsHead}

pub vertices-append : (table : Table) (a b : List ℕ) → vertices_of table (a ++ b) ≡ vertices_of table a ++ vertices_of table b
vertices-append table [] b = refl
vertices-append table (n ∷ ns) b = ap (λ (vs : List Vertex). vertex_at table n ∷ vs) (vertices-append table ns b)

pub vertices_count : (table : Table) (ns : List ℕ) → length ns ≡ length (vertices_of table ns)
vertices_count table [] = refl
vertices_count table (n ∷ ns) = ap (λ (k : ℕ). suc k) (vertices_count table ns)

heads_by : (table : Table) (ns : List ℕ) → AllByRecursion (λ v. class (live table) v ≡ Inner → ⊥) (vertices_of table ns) → AllByRecursion (IsNumber table) ns → AllByRecursion (IsHead table) ns
heads_by table [] outer numbers = tt
heads_by table (n ∷ ns) outer numbers = (record { number = numbers.0; outer = outer.0 }, heads_by table ns outer.1 numbers.1)

-- vertices of a class that is not Inner head trees
pub heads_of_class : (c : Class) (table : Table) (vertices : List Vertex) (ns : List ℕ) → (c ≡ Inner → ⊥) → vertices_of table ns ≡ of_class c (live table) vertices → AllByRecursion (IsNumber table) ns
    → AllByRecursion (IsHead table) ns
heads_of_class c table vertices ns other are numbers = heads_by table ns (outer_of_class c (live table) vertices (vertices_of table ns) other are) numbers
