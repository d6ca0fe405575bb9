-- Vertices by their numbers, one after the other.
use Rattle.std.proofs.Common.{◌≡◌, ℕ, zero, suc, ◌+◌, ◌<◌, Bool, true, false, cond, List, [], ◌∷◌, ◌++◌, length, drop, slice_get, refl, sym, ap, subst, ◌∙◌, append_assoc, arith}
use Rattle.std.specs.List.{AllByRecursion}
use Rattle.grove_edits.specs.declared.vertex.Vertex.{Vertex}
use Rattle.grove_edits.specs.declared.edge.Edge.{Edge}
use Rattle.graph_words.specs.declared.class.Class.{Class}
use Rattle.graph_words.specs.declared.class.Class.TheVariants.{NoParent, Multi, Cycle, Inner}
use Rattle.graph_words.specs.Few.{first_two}
use Rattle.graph_words.specs.Live.{parents_of}
use Rattle.graph_words.specs.Class.{class, is_same_class, of_class}
use Rattle.graph_table.specs.declared.parents.Parents.{Parents}
use Rattle.graph_table.specs.declared.parents.Parents.TheVariants.{Zero, One, More}
use Rattle.graph_table.specs.Table.{Table, live, vertex_at, vertex_or_root, few_at, IsNumber}
use Rattle.grove_decompose.specs.Trees.{vertices_of}
use Rattle.grove_decompose.proofs.Mapped.{map_last, all_joined}
use Rattle.grove_decompose.proofs.ByClass.{Tests, passed_by, put_down, tests_zero, tests_one, tests_more}

-- ---- vertices and their numbers

left_at : (vs : List Vertex) (i : ℕ) → i < length vs → drop i vs ≡ vertex_or_root (slice_get vs i) ∷ drop (suc i) vs
left_at [] i lt = absurd (omega (arith, lt))
left_at (v ∷ vs) zero lt = refl
left_at (v ∷ vs) (suc i) lt = left_at vs i (omega (arith, lt))

-- the vertices whose numbers are not less than one are that with this number and those after it
pub vertices_left : (table : Table) (n : ℕ) → IsNumber table n → drop n table.vertices ≡ vertex_at table n ∷ drop (n + 1) table.vertices
vertices_left table n number =
    let next : suc n ≡ n + 1 = omega arith in
    left_at table.vertices n number ∙ ap (λ (i : ℕ). vertex_at table n ∷ drop i table.vertices) next

-- ---- those of a class

-- those of a class that were found so far, and those that are left, are those of all
pub record AreHeadsSoFar (c : Class) (table : Table) (all left : List Vertex) (found : List ℕ) : Type 0 where
  pub heads : vertices_of table found ++ of_class c (live table) left ≡ of_class c (live table) all
  pub numbers : AllByRecursion (IsNumber table) found

pub other_passed : (c : Class) (table : Table) (n : ℕ) (all left rest : List Vertex) (found same : List ℕ) → left ≡ vertex_at table n ∷ rest → is_same_class (class (live table) (vertex_at table n)) c ≡ false → same ≡ found
    → AreHeadsSoFar c table all left found → AreHeadsSoFar c table all rest same
other_passed c table n all left rest found same is other kept so_far =
    subst (AreHeadsSoFar c table all rest) (sym kept) (record {
      heads = passed_by c (live table) (vertex_at table n) (vertices_of table found) left rest _ is other so_far.heads;
      numbers = so_far.numbers;
    })

pub one_put_down : (c : Class) (table : Table) (n : ℕ) (all left rest : List Vertex) (found more : List ℕ) → left ≡ vertex_at table n ∷ rest → IsNumber table n
    → is_same_class (class (live table) (vertex_at table n)) c ≡ true → more ≡ found ++ n ∷ [] → AreHeadsSoFar c table all left found → AreHeadsSoFar c table all rest more
one_put_down c table n all left rest found more is number same pushed so_far = record {
  heads = put_down c (live table) (vertex_at table n) (vertices_of table found) (vertices_of table more) left rest _ is same (map_last (vertex_at table) more found n pushed) so_far.heads;
  numbers = subst (AllByRecursion (IsNumber table)) (sym pushed) (all_joined (IsNumber table) found (n ∷ []) so_far.numbers (number, tt));
}

-- ---- what the parents tell

pub zero_tells : (table : Table) (n : ℕ) (ps : Parents) → few_at table ps ≡ first_two (parents_of (vertex_at table n) (live table)) → ps ≡ Zero → Tests (class (live table) (vertex_at table n)) true false
zero_tells table n ps least is = tests_zero (live table) (vertex_at table n) (few_at table ps) least (ap (few_at table) is)

pub one_tells : (table : Table) (n : ℕ) (ps : Parents) (i : ℕ) → few_at table ps ≡ first_two (parents_of (vertex_at table n) (live table)) → ps ≡ One i → Tests (class (live table) (vertex_at table n)) false false
one_tells table n ps i least is = tests_one (live table) (vertex_at table n) (few_at table ps) _ least (ap (few_at table) is)

pub more_tells : (table : Table) (n : ℕ) (ps : Parents) (i j : ℕ) → few_at table ps ≡ first_two (parents_of (vertex_at table n) (live table)) → ps ≡ More i j
    → Tests (class (live table) (vertex_at table n)) false true
more_tells table n ps i j least is = tests_more (live table) (vertex_at table n) (few_at table ps) _ _ least (ap (few_at table) is)

-- ---- candidates

-- the least vertices of cycles among the candidates so far and among those that are left are those among all
pub record AreCandidatesSoFar (table : Table) (left : List Vertex) (found : List ℕ) : Type 0 where
  pub cycle : of_class Cycle (live table) (vertices_of table found) ++ of_class Cycle (live table) left ≡ of_class Cycle (live table) table.vertices
  pub numbers : AllByRecursion (IsNumber table) found

other_class : (c : Class) → (c ≡ Cycle → ⊥) → is_same_class c Cycle ≡ false
other_class NoParent other = refl
other_class Multi other = refl
other_class Cycle other = absurd (other refl)
other_class Inner other = refl

pub no_candidate : (table : Table) (n : ℕ) (left rest : List Vertex) (found : List ℕ) → left ≡ vertex_at table n ∷ rest → (class (live table) (vertex_at table n) ≡ Cycle → ⊥) → AreCandidatesSoFar table left found
    → AreCandidatesSoFar table rest found
no_candidate table n left rest found is other so_far = record {
  cycle = passed_by Cycle (live table) (vertex_at table n) (of_class Cycle (live table) (vertices_of table found)) left rest _ is (other_class (class (live table) (vertex_at table n)) other) so_far.cycle;
  numbers = so_far.numbers;
}

of_class-joined : (c : Class) (edges : List Edge) (xs ys : List Vertex) → of_class c edges (xs ++ ys) ≡ of_class c edges xs ++ of_class c edges ys
of_class-joined c edges [] ys = refl
of_class-joined c edges (x ∷ xs) ys = by_test (is_same_class (class edges x) c) (of_class-joined c edges xs ys) where
  by_test : (b : Bool) → of_class c edges (xs ++ ys) ≡ of_class c edges xs ++ of_class c edges ys
      → cond b (x ∷ of_class c edges (xs ++ ys)) (of_class c edges (xs ++ ys)) ≡ cond b (x ∷ of_class c edges xs) (of_class c edges xs) ++ of_class c edges ys
  by_test true rest = ap (λ (zs : List Vertex). x ∷ zs) rest
  by_test false rest = rest

pub one_candidate : (table : Table) (n : ℕ) (left rest : List Vertex) (found more : List ℕ) → left ≡ vertex_at table n ∷ rest → IsNumber table n → more ≡ found ++ n ∷ [] → AreCandidatesSoFar table left found
    → AreCandidatesSoFar table rest more
one_candidate table n left rest found more is number pushed so_far =
    let v = vertex_at table n in
    record {
      cycle =
          ap (λ (vs : List Vertex). of_class Cycle (live table) vs ++ of_class Cycle (live table) rest) (map_last (vertex_at table) more found n pushed)
          ∙ ap (λ (vs : List Vertex). vs ++ of_class Cycle (live table) rest) (of_class-joined Cycle (live table) (vertices_of table found) (v ∷ []))
          ∙ append_assoc (of_class Cycle (live table) (vertices_of table found)) (of_class Cycle (live table) (v ∷ [])) (of_class Cycle (live table) rest)
          ∙ ap (λ (vs : List Vertex). of_class Cycle (live table) (vertices_of table found) ++ vs) (sym (of_class-joined Cycle (live table) (v ∷ []) rest) ∙ ap (of_class Cycle (live table)) (sym is))
          ∙ so_far.cycle;
      numbers = subst (AllByRecursion (IsNumber table)) (sym pushed) (all_joined (IsNumber table) found (n ∷ []) so_far.numbers (number, tt));
    }

-- what holds of some vertices holds of those of a class
pub all_of : (P : Vertex → Type 0) (c : Class) (edges : List Edge) (vs : List Vertex) → AllByRecursion P vs → AllByRecursion P (of_class c edges vs)
all_of P c edges [] all = tt
all_of P c edges (v ∷ vs) all = by_test (is_same_class (class edges v) c) (all_of P c edges vs all.1) where
  by_test : (b : Bool) → AllByRecursion P (of_class c edges vs) → AllByRecursion P (cond b (v ∷ of_class c edges vs) (of_class c edges vs))
  by_test true rest = (all.0, rest)
  by_test false rest = rest
