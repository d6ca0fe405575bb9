use Rattle.grove_edits.proofs.WellFormed.{good_vertices, place_fits}
use Rattle.grove_edits.proofs.laws.a_well_formed_edge_fits.Goals as goal

pub returns-clause-vertices : goal.returns-clause-vertices
returns-clause-vertices c = good_vertices

pub returns-clause-place : goal.returns-clause-place
returns-clause-place c = place_fits
