-- The comparison of nodes is equality.
use Rattle.std.proofs.Common.{◌≡◌, true, rules}
use Rattle.type_core.specs.declared.former.Former.TheVariants.{Arrow, Product, Sum}
use Rattle.type_core.specs.declared.node.Node.{Node}
use Rattle.type_core.specs.declared.node.Node.TheVariants.{Unknown, Num, Boolean, Pair}
use Rattle.type_core.specs.contracts.node.NodePartialEq.TheImpl as node_eq

pub reflexive : (n : Node) → node_eq.eq-value.it n n ≡ true
reflexive Unknown = search rules
reflexive Num = search rules
reflexive Boolean = search rules
reflexive (Pair Arrow a b) = search rules
reflexive (Pair Product a b) = search rules
reflexive (Pair Sum a b) = search rules

pub sound : (m n : Node) → node_eq.eq-value.it m n ≡ true → m ≡ n
sound m n h = search rules
