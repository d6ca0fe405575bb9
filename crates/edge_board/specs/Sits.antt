-- How a board's table and a seat's place at it are seen by contracts.
use Rattle.std.specs.Prelude.{◌≡◌, ◌<◌, [], length}
use Rattle.atomic_table.specs.Seated.{TableId}
use Rattle.atomic_table.specs.Table.{Me}
use Rattle.edge_board.specs.declared.known.Known.{Known}
use Rattle.edge_board.specs.declared.known.Opening.{Opening}
use Rattle.edge_board.specs.Seats.{BoardOf, BoardStanding}

abbrev pub board_of : TableId → Opening → BoardOf
board_of table o = record { table = table; parts = o.parts; opening = o.states }

abbrev pub standing : TableId → Known → BoardStanding
standing table v = record { board = board_of table v.opening; parts = v.parts; seen = v.seen; marks = v.marks }

-- the table has a word for each state that it was made with, which the board has kept
pub record Stands (table : TableId) (o kept : Opening) : Type 0 where
  pub words : table.words ≡ length o.states
  pub some_word : 0 < table.words
  pub no_slot : table.slots ≡ 0
  pub same : kept ≡ o

-- a seat has a part, and has seen a state in each slot
pub record Sits {S : Type 0} (me : Me S Known) : Type 0 where
  pub some_part : 0 < me.0.parts
  pub wide : length me.0.seen ≡ length me.0.opening.states
  pub rests : me.1 ≡ []
