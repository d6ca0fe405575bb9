use Rattle.session_run.proofs.Listed.{no_author, next_author, all_authors}
use Rattle.session_run.proofs.listing.append_authors.Goals as goal

pub loop-lines-init : goal.loop-lines-init
loop-lines-init c = no_author c.args.replica c.args.all.now c.args.workers.now.items

pub loop-lines-preserved : goal.loop-lines-preserved
loop-lines-preserved c =
    next_author c.args.replica c.args.all.now c.args.workers.now.items c.loop-lines.lines-index c.lines-item.result c.loop-lines.workers.items c.loop-lines-test.true c.lines-item.is
    c.loop-lines.invariant c.append_author.new.workers.items c.in_ok-append_author.ensures

pub returns : goal.returns
returns c = all_authors c.args.replica c.args.all.now c.args.workers.now.items c.loop-lines.lines-index c.loop-lines.workers.items c.loop-lines-test.false c.loop-lines.invariant
