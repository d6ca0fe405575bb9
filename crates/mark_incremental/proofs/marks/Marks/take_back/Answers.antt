-- The marks are those before, over tables that may have grown.
use Rattle.std.proofs.Common.{sym, subst, ◌∙◌}
use Rattle.type_core.specs.TypeTable.{KeepsTypes}
use Rattle.ctx_table.specs.CtxTable.{KeepsContexts}
use Rattle.graph_words.specs.States.{state_in}
use Rattle.mark_incremental.proofs.Edited.{grown_stands}
use Rattle.mark_incremental.proofs.marks.Marks.take_back.Goals as goal

pub returns-clause-stand : goal.returns-clause-stand
returns-clause-stand c = λ before marks was.
    grown_stands (state_in before) (state_in c.put_back.new.graph) marks c.put_back-2.new.self was.stood (c.put_back.ensures.put_back before was.raised)
    (record {
      types = subst (KeepsTypes marks.types) (sym c.put_back-2.ensures.types) was.renewed.types;
      contexts = subst (KeepsContexts marks.contexts) (sym c.put_back-2.ensures.contexts) was.renewed.contexts;
      records = λ v. c.put_back-2.ensures.records v ∙ was.renewed.records v;
      roots = λ v. c.put_back-2.ensures.roots v ∙ was.renewed.roots v;
    })
