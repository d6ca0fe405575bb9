use Rattle.grove_sorts.proofs.Rows.{positions_rise, row_short, places_found, no_top_below, types_below, none_below}
use Rattle.grove_sorts.proofs.laws.rows_are_in_order.Goals as goal

pub returns-clause-rise : goal.returns-clause-rise
returns-clause-rise c = positions_rise

pub returns-clause-few : goal.returns-clause-few
returns-clause-few c = row_short

pub returns-clause-found : goal.returns-clause-found
returns-clause-found c = places_found

pub returns-clause-no_top : goal.returns-clause-no_top
returns-clause-no_top c = no_top_below

pub returns-clause-types : goal.returns-clause-types
returns-clause-types c = types_below

pub returns-clause-patterns : goal.returns-clause-patterns
returns-clause-patterns c = none_below
