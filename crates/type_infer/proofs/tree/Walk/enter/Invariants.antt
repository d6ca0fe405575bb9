use Rattle.std.proofs.Common.{◌≡◌, ℕ, length, reverse}
use Rattle.grove_terms.specs.Lent.{nodes_of}
use Rattle.type_infer.specs.Walking.{name_at, entered}
use Rattle.type_infer.specs.Positions.{AreWithin}
use Rattle.type_infer.proofs.tree.Walk.enter.Given as goal

abbrev pub invariant-loop-place : goal.invariant-loop-place
invariant-loop-place l = record {
  list : l.self.list ≡ l.initial.self.list;
  within : AreWithin l.initial.self.list.variables l.self;
  entered : entered (name_at (nodes_of l.nodes)) (reverse l.self.places.items) l.self.scope
      ≡ entered (name_at (nodes_of l.nodes)) (reverse l.initial.self.places.items) l.initial.self.scope;
}

abbrev pub decreases-loop-place : goal.decreases-loop-place
decreases-loop-place l = length l.self.places.items
