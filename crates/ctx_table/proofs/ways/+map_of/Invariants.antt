use Rattle.ctx_table.proofs.ways.+map_of.Given as goal

abbrev pub decreases-map_of : goal.decreases-map_of
decreases-map_of l = l.ctx.0
