use Rattle.session_script.proofs.NotRead.{no_replica, no_author, no_author_replica, no_send}
use Rattle.session_script.proofs.statement_reading.read_other.Goals as goal

pub returns-in_err-replica-clause-none : goal.returns-in_err-replica-clause-none
returns-in_err-replica-clause-none c =
    rw c.from_residual.ensures (no_replica c.args.version c.args.line.now c.in-Some.rest.now c.in-Some.ensures.found c.in_err-replica.ensures.none)

pub returns-in_err-author-clause-none : goal.returns-in_err-author-clause-none
returns-in_err-author-clause-none c =
    rw c.from_residual-in_err-author.ensures (no_author c.args.version c.args.line.now c.in-Some-after_word.rest.now c.in-Some-after_word.ensures.found (λ n r in_range of same. c.in_err-author.ensures.only n _ in_range same))

pub returns-in_err-replica-2-clause-none : goal.returns-in_err-replica-2-clause-none
returns-in_err-replica-2-clause-none c =
    rw c.from_residual-in_err-replica-2.ensures (no_author c.args.version c.args.line.now c.in-Some-after_word.rest.now c.in-Some-after_word.ensures.found
    (no_author_replica c.args.version c.in-Some-after_word.rest.now c.in_ok-author.rest.now c.in_ok-author.author c.in_ok-author.ensures.in_range c.in_ok-author.ensures.found c.in_err-replica-2.ensures.none))

pub returns-in_err-send-clause-none : goal.returns-in_err-send-clause-none
returns-in_err-send-clause-none c =
    rw c.from_residual-in_err-send.ensures (no_send c.args.version c.args.line.now c.in-Some-after_word-2.rest.now c.in-Some-after_word-2.ensures.found c.in_err-send.ensures.none)
