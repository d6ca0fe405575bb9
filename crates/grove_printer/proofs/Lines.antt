-- The nodes that are left, and what is added to them.
use Rattle.std.proofs.Common.{◌≡◌, List, [], ◌∷◌, ◌⊎◌, inl, inr, map, refl, ap, ◌∙◌}
use Rattle.grove_terms.specs.declared.node.LentNode.{LentNode}
use Rattle.marking.specs.declared.added.Added.{Added}
use Rattle.marking.specs.declared.marked_node.MarkedNode.{MarkedNode}
use Rattle.marking.specs.Added.{added_to, marked_nodes}
use Rattle.marking.proofs.Beside.{marked-apart}

-- at first all are left
pub all_left : (ns : List LentNode) (added : List Added) (ms : List MarkedNode) → ns ≡ map (λ m. m.node) ms → added ≡ map added_to ms → marked_nodes ns added ≡ ms
all_left ns added ms nodes beside = ap (λ xs. marked_nodes xs added) nodes ∙ ap (marked_nodes (map (λ (m : MarkedNode). m.node) ms)) beside ∙ marked-apart ms

-- and none where either list is at its end
pub none_left : (ns : List LentNode) (added : List Added) → (ns ≡ []) ⊎ (added ≡ []) → marked_nodes ns added ≡ []
none_left [] [] none = refl
none_left [] (a ∷ added) none = refl
none_left (n ∷ ns) [] none = refl
none_left (n ∷ ns) (a ∷ added) (inl none) = absurd cc
none_left (n ∷ ns) (a ∷ added) (inr none) = absurd cc
