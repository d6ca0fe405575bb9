use Rattle.std.proofs.Common.{drop}
use Rattle.type_core.specs.TypeTable.{KeepsTypes}
use Rattle.ctx_table.specs.CtxTable.{KeepsContexts}
use Rattle.grove_terms.specs.Lent.{nodes_of}
use Rattle.judging.specs.Frames.{AreFramesOf}
use Rattle.plain_typing.proofs.Checked.{HasCome}
use Rattle.plain_typing.proofs.checking.is_typed.Given as goal

abbrev pub invariant-loop-node : goal.invariant-loop-node
invariant-loop-node l = record {
  frames : AreFramesOf l.types l.ctxs l.walk.frames.items;
  come : HasCome l.types l.ctxs l.walk (nodes_of l.node-items) (nodes_of (drop l.node-index l.node-items));
  types : KeepsTypes l.fn.types l.types;
  contexts : KeepsContexts l.fn.ctxs l.ctxs;
}
