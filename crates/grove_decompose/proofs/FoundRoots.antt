-- The roots that the walks up from the first of some numbers have found.
use Rattle.std.proofs.Common.{◌≡◌, ℕ, zero, suc, ◌+◌, ◌<◌, ◌≤◌, Bool, true, false, List, [], ◌∷◌, length, get_or, map, Some, None, IsSome, refl, sym, ap, subst, ◌∙◌, arith}
use Rattle.std.specs.Prelude.{◌||◌, slice_set, replicate}
use Rattle.std.specs.List.{AllByRecursion, IsDistinct, slice_index_or}
use Rattle.std.proofs.lemmas.List.{length-map}
use Rattle.grove_edits.specs.declared.vertex.Vertex.{Vertex}
use Rattle.grove_edits.specs.Vertex.{is_same_vertex, stands_in}
use Rattle.grove_edits.proofs.Vertices.{same_vertex_itself}
use Rattle.graph_words.specs.declared.class.Class.TheVariants.{Cycle}
use Rattle.graph_words.specs.Class.{class, is_cycle_root, is_same_class}
use Rattle.graph_words.specs.Met.{met_by, KeepsMet, HasEnded}
use Rattle.graph_words.specs.Cycle.{leads_to}
use Rattle.graph_words.proofs.Cycles.{class_is_cycle}
use Rattle.grove_sorts.proofs.Truths.{or_true}
use Rattle.graph_words.proofs.Found.{AreFound, found_none, found_one, all_found}
use Rattle.graph_table.specs.Table.{Table, live, vertex_at, IsNumber}
use Rattle.grove_decompose.specs.Met.{met_of, marked}
use Rattle.grove_decompose.proofs.Marks.{none_at_first, none_marked_first, marked_at, marked_more}
use Rattle.grove_decompose.proofs.Walking.{vertex_read}

-- those of the first i numbers have been walked up from
pub record AreRootsSoFar (table : Table) (starts : List ℕ) (roots : List Bool) (met : List ℕ) (i : ℕ) : Type 0 where
  pub all_met : length met ≡ length table.vertices
  pub all_roots : length roots ≡ length table.vertices
  pub found : AreFound (live table) (map (vertex_at table) starts) (marked table.vertices roots) (met_of table.vertices met) i

length-replicate : {A : Type 0} (n : ℕ) (x : A) → length (replicate n x) ≡ n
length-replicate zero x = refl
length-replicate (suc n) x = ap suc (length-replicate n x)

none_found : (table : Table) (starts : List ℕ) → AreFound (live table) (map (vertex_at table) starts) [] [] 0
none_found table starts = record {
  sound = λ r stands. absurd cc;
  settled = λ v r k is. absurd cc;
  numbered = λ v k is. absurd cc;
  starts = λ k d lt. absurd (omega arith);
}

pub before_walks : (table : Table) (starts : List ℕ) (roots : List Bool) (met : List ℕ) → met ≡ replicate (length table.vertices) 0 → roots ≡ replicate (length table.vertices) false → AreRootsSoFar table starts roots met 0
before_walks table starts roots met none_met no_roots = record {
  all_met = ap length none_met ∙ length-replicate (length table.vertices) 0;
  all_roots = ap length no_roots ∙ length-replicate (length table.vertices) false;
  found = subst (λ rs. AreFound (live table) (map (vertex_at table) starts) rs (met_of table.vertices met) 0) (sym (ap (marked table.vertices) no_roots ∙ none_marked_first table.vertices (length table.vertices)))
      (subst (λ ms. AreFound (live table) (map (vertex_at table) starts) [] ms 0) (sym (ap (met_of table.vertices) none_met ∙ none_at_first table.vertices (length table.vertices))) (none_found table starts));
}

pub read_mapped : {B : Type 0} (f : ℕ → B) (xs : List ℕ) (i : ℕ) → i < length xs → (d : B) → get_or (map f xs) i d ≡ f (get_or xs i 0)
read_mapped f [] i lt d = absurd (omega arith)
read_mapped f (x ∷ xs) zero lt d = refl
read_mapped f (x ∷ xs) (suc i) lt d = read_mapped f xs i (omega arith) d

pub number_at : (P : ℕ → Type 0) (xs : List ℕ) (i : ℕ) → AllByRecursion P xs → i < length xs → P (get_or xs i 0)
number_at P [] i all lt = absurd (omega arith)
number_at P (x ∷ xs) zero all lt = all.0
number_at P (x ∷ xs) (suc i) all lt = number_at P xs i all.1 (omega arith)

-- a walk from one number more
module _ (table : Table) (starts : List ℕ) (roots : List Bool) (before after : List ℕ) (i : ℕ) (so_far : AreRootsSoFar table starts roots before i) (lt : i < length starts)
    (all : length after ≡ length table.vertices) (kept : KeepsMet i (met_of table.vertices before) (met_of table.vertices after)) (new : IsSome (met_by (met_of table.vertices after) (vertex_at table (get_or starts i 0)))) where
  pub walked_to_none : HasEnded (live table) i (met_of table.vertices before) (met_of table.vertices after) None → AreRootsSoFar table starts roots after (i + 1)
  walked_to_none ended = record {
    all_met = all;
    all_roots = so_far.all_roots;
    found = found_none (live table) (map (vertex_at table) starts) (marked table.vertices roots) (met_of table.vertices before) (met_of table.vertices after) i (i + 1) (vertex_at table (get_or starts i 0)) so_far.found
        (read_mapped (vertex_at table) starts i lt) kept new ended refl;
  }

  pub walked_to_cycle : (then : List Bool) (entry root : ℕ) → HasEnded (live table) i (met_of table.vertices before) (met_of table.vertices after) (Some (vertex_at table entry)) → IsNumber table root
      → is_cycle_root (live table) (vertex_at table root) ≡ true → leads_to (live table) (vertex_at table entry) (vertex_at table root) ≡ true → then ≡ slice_set roots root true
      → AreRootsSoFar table starts then after (i + 1)
  walked_to_cycle then entry root ended number is_root above marked_too = record {
    all_met = all;
    all_roots = ap length marked_too ∙ length-set roots root ∙ so_far.all_roots;
    found = found_one (live table) (map (vertex_at table) starts) (marked table.vertices roots) (marked table.vertices then) (met_of table.vertices before) (met_of table.vertices after) i (i + 1) (vertex_at table (get_or starts i 0))
        (vertex_at table entry) (vertex_at table root) so_far.found (read_mapped (vertex_at table) starts i lt) kept new ended is_root above
        (λ v. ap (λ marks. stands_in v (marked table.vertices marks)) marked_too ∙ marked_more table.vertices roots root (vertex_at table root) so_far.all_roots (vertex_read table root number) v) refl;
  }
    where
      length-set : (bs : List Bool) (n : ℕ) → length (slice_set bs n true) ≡ length bs
      length-set [] n = refl
      length-set (b ∷ bs) zero = refl
      length-set (b ∷ bs) (suc n) = ap suc (length-set bs n)

pub all_walked : (table : Table) (starts : List ℕ) (roots : List Bool) (met : List ℕ) (i : ℕ) → AreRootsSoFar table starts roots met i → length starts ≤ i
    → (v : Vertex) → stands_in v (map (vertex_at table) starts) ≡ true → stands_in v (marked table.vertices roots) ≡ is_cycle_root (live table) v
all_walked table starts roots met i so_far all v stands =
    all_found (live table) (map (vertex_at table) starts) (marked table.vertices roots) (met_of table.vertices met) i so_far.found (omega (arith, length-map starts (vertex_at table), all)) v stands

-- ---- the roots among some numbers

stands_mapped : (f : ℕ → Vertex) (xs : List ℕ) (i : ℕ) → i < length xs → stands_in (f (get_or xs i 0)) (map f xs) ≡ true
stands_mapped f [] i lt = absurd (omega arith)
stands_mapped f (x ∷ xs) zero lt = ap (λ b. b || stands_in (f x) (map f xs)) (same_vertex_itself (f x))
stands_mapped f (x ∷ xs) (suc i) lt = ap (λ b. is_same_vertex (f x) (f (get_or xs i 0)) || b) (stands_mapped f xs i (omega arith)) ∙ or_true (is_same_vertex (f x) (f (get_or xs i 0)))

-- a number's mark tells whether its vertex is a root
pub root_by_mark : (table : Table) → IsDistinct is_same_vertex table.vertices → (starts : List ℕ) (roots : List Bool)
    → ((v : Vertex) → stands_in v (map (vertex_at table) starts) ≡ true → stands_in v (marked table.vertices roots) ≡ is_cycle_root (live table) v)
    → (i : ℕ) → i < length starts → IsNumber table (get_or starts i 0) → is_same_class (class (live table) (vertex_at table (get_or starts i 0))) Cycle ≡ slice_index_or roots (get_or starts i 0) false
root_by_mark table once starts roots told i lt number =
    class_is_cycle (live table) (vertex_at table (get_or starts i 0)) ∙ sym (told (vertex_at table (get_or starts i 0)) (stands_mapped (vertex_at table) starts i lt))
    ∙ marked_at table.vertices once roots (get_or starts i 0) (vertex_at table (get_or starts i 0)) (vertex_read table (get_or starts i 0) number)

pub mark_read : (roots : List Bool) (n : ℕ) (b : Bool) → n < length roots → b ≡ get_or roots n b → slice_index_or roots n false ≡ b
mark_read [] n b lt is = absurd (omega arith)
mark_read (r ∷ roots) zero b lt is = sym is
mark_read (r ∷ roots) (suc n) b lt is = mark_read roots n b (omega arith) is
