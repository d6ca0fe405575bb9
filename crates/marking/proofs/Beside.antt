-- Nodes and what is added to them, taken apart and put together.
use Rattle.std.proofs.Common.{◌≡◌, ◌≤◌, ℕ, zero, suc, List, [], ◌∷◌, length, map, Some, None, refl, ap, arith}
use Rattle.std.specs.Prelude.{slice_get}
use Rattle.grove_terms.specs.declared.node.LentNode.{LentNode}
use Rattle.marking.specs.declared.added.Added.{Added}
use Rattle.marking.specs.declared.marked_node.MarkedNode.{MarkedNode}
use Rattle.type_core.specs.Typ.{Typ}
use Rattle.marking.specs.Numbers.{AreAddedOf, AreMarkedNodesOf}
use Rattle.marking.specs.Added.{with_added, added_to, marked_nodes}

pub length-marked : (ns : List LentNode) (added : List Added) → length added ≡ length ns → length (marked_nodes ns added) ≡ length ns
length-marked [] [] same = refl
length-marked [] (a ∷ added) same = refl
length-marked (n ∷ ns) [] same = absurd (omega (arith, same))
length-marked (n ∷ ns) (a ∷ added) same = ap suc (length-marked ns added (omega (arith, same)))

pub nodes-marked : (ns : List LentNode) (added : List Added) → length added ≡ length ns → map (λ m. m.node) (marked_nodes ns added) ≡ ns
nodes-marked [] [] same = refl
nodes-marked [] (a ∷ added) same = absurd (omega (arith, same))
nodes-marked (n ∷ ns) [] same = absurd (omega (arith, same))
nodes-marked (n ∷ ns) (a ∷ added) same = ap (λ xs. n ∷ xs) (nodes-marked ns added (omega (arith, same)))

pub added-marked : (ns : List LentNode) (added : List Added) → length added ≡ length ns → map added_to (marked_nodes ns added) ≡ added
added-marked [] [] same = refl
added-marked [] (a ∷ added) same = absurd (omega (arith, same))
added-marked (n ∷ ns) [] same = refl
added-marked (n ∷ ns) (a ∷ added) same = ap (λ xs. a ∷ xs) (added-marked ns added (omega (arith, same)))

pub get-marked : (ns : List LentNode) (added : List Added) (i : ℕ) (n : LentNode) (a : Added) → slice_get ns i ≡ Some n → slice_get added i ≡ Some a → slice_get (marked_nodes ns added) i ≡ Some (with_added n a)
get-marked [] [] i n a here there = absurd cc
get-marked [] (b ∷ added) i n a here there = absurd cc
get-marked (m ∷ ns) [] i n a here there = absurd cc
get-marked (m ∷ ns) (b ∷ added) zero n a here there = cc
get-marked (m ∷ ns) (b ∷ added) (suc i) n a here there = get-marked ns added i n a here there

pub get-past : (ns : List LentNode) (added : List Added) (i : ℕ) → length ns ≤ i → slice_get (marked_nodes ns added) i ≡ None
get-past [] [] i past = refl
get-past [] (b ∷ added) i past = refl
get-past (m ∷ ns) [] i past = refl
get-past (m ∷ ns) (b ∷ added) zero past = absurd (omega (arith, past))
get-past (m ∷ ns) (b ∷ added) (suc i) past = get-past ns added i (omega (arith, past))

-- the nodes are told by themselves and by what is added to them
pub marked-apart : (ms : List MarkedNode) → marked_nodes (map (λ m. m.node) ms) (map added_to ms) ≡ ms
marked-apart [] = refl
marked-apart (m ∷ ms) = ap (λ xs. m ∷ xs) (marked-apart ms)

-- nodes with what is added to them have its numbers
pub are_marked : (types : List Typ) (ns : List LentNode) (added : List Added) → AreAddedOf types added → AreMarkedNodesOf types (marked_nodes ns added)
are_marked types ns [] all = tt
are_marked types [] (a ∷ added) all = tt
are_marked types (n ∷ ns) (a ∷ added) all = (record { mode = all.0.mode; typ = all.0.typ }, are_marked types ns added all.1)
