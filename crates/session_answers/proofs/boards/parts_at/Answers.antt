use Rattle.std.proofs.Common.{arith}
use Rattle.std.proofs.lemmas.List.Sums.{count_by-le-length}
use Rattle.session_run.specs.Boards.{is_at_work}
use Rattle.session_answers.proofs.boards.parts_at.Goals as goal

pub overflow_add-result : goal.overflow_add-result
overflow_add-result c = let few = count_by-le-length (is_at_work c.args.lines.now c.args.replica) c.args.authors.now in search (arith, few)
