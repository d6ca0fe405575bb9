-- The target is another vertex than the source.
use Rattle.std.proofs.Common.{inl, sym, ◌∙◌}
use Rattle.mark_incremental.proofs.ShortWalks.{other_vertex}
use Rattle.mark_incremental.proofs.apart.is_apart.Goals as goal

pub returns-then-is_leaf-clause-apart : goal.returns-then-is_leaf-clause-apart
returns-then-is_leaf-clause-apart g c = λ yes. inl (other_vertex c.args.target.now c.args.source.now (sym c.is_same_vertex.ensures ∙ c.if-is_same_vertex.false), c.is_leaf.ensures c.if-is_leaf.true)

pub passes_by-requires-clause-other : goal.passes_by-requires-clause-other
passes_by-requires-clause-other g c = other_vertex c.args.target.now c.args.source.now (sym c.is_same_vertex.ensures ∙ c.if-is_same_vertex.false)
