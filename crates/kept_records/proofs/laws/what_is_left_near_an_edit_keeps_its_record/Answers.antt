use Rattle.kept_records.proofs.Short.{left_below_top, left_below_target}
use Rattle.kept_records.proofs.laws.what_is_left_near_an_edit_keeps_its_record.Goals as goal

pub returns : goal.returns
returns c = record { top = left_below_top; target = left_below_target }
