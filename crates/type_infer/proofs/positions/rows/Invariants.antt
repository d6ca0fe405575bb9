use Rattle.std.proofs.Common.{◌≡◌, ℕ, ◌+◌, ◌*◌, ◌<◌, ◌≤◌, length, drop, reverse}
use Rattle.std.specs.List.{AllByRecursion}
use Rattle.grove_terms.specs.Lent.{nodes_of}
use Rattle.type_infer.specs.Rows.{place_list, ArePlacesOf}
use Rattle.type_infer.specs.Walking.{heads, five}
use Rattle.type_infer.specs.Positions.{row_at}
use Rattle.type_infer.proofs.positions.rows.Given as goal

abbrev pub invariant-loop-line : goal.invariant-loop-line
invariant-loop-line l = record {
  count : length l.rows.items ≡ length l.nodes;
  line : l.line ≤ length l.nodes;
  firsts : reverse l.firsts.items ≡ heads (drop l.line (nodes_of l.nodes)) l.line;
  small : AllByRecursion (λ v. v < 3 * length l.nodes) l.firsts.items;
  places : (i : ℕ) → l.line ≤ i → i < length l.nodes → place_list (row_at l.rows.items i) ≡ five (heads (drop (i + 1) (nodes_of l.nodes)) (i + 1));
  within : (i : ℕ) → l.line ≤ i → i < length l.nodes → ArePlacesOf (3 * length l.nodes) (row_at l.rows.items i);
}

abbrev pub decreases-loop-line : goal.decreases-loop-line
decreases-loop-line l = l.line
