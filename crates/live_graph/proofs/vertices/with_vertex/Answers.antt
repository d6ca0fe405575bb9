use Rattle.std.proofs.Common.{◌≡◌, true, subst}
use Rattle.graph_words.specs.Named.{AreLeastTwo}
use Rattle.live_graph.proofs.LeastTwo.{after_none}
use Rattle.live_graph.proofs.vertices.with_vertex.Goals as goal

pub returns-in-Zero : goal.returns-in-Zero
returns-in-Zero c has found = after_none has c.args.vertex (subst (AreLeastTwo (λ v. has v ≡ true)) c.in-Zero.is found)

pub returns-in-One : goal.returns-in-One
returns-in-One c has found = c.both.ensures has (subst (AreLeastTwo (λ v. has v ≡ true)) c.in-One.is found)

pub returns-in-More : goal.returns-in-More
returns-in-More c has found = c.of_three.ensures has (subst (AreLeastTwo (λ v. has v ≡ true)) c.in-More.is found)
