-- The root is noted, or put back.
use Rattle.std.proofs.Common.{◌≡◌, Bool, cond, not, is_some, sym, ap, subst, ◌∙◌}
use Rattle.grove_edits.specs.declared.vertex.Vertex.{Vertex}
use Rattle.grove_edits.specs.Vertex.{is_same_vertex}
use Rattle.type_core.specs.TypeTable.{KeepsTypes}
use Rattle.ctx_table.specs.CtxTable.{KeepsContexts}
use Rattle.mark_store.specs.Places.{Places, value_at, holds}
use Rattle.mark_incremental.specs.Standing.{KeptMarks}
use Rattle.mark_incremental.proofs.Puts.{root_back}
use Rattle.mark_incremental.proofs.marks.Marks.renew_with_root.Goals as goal

pub returns-in-Ok-clause-old : goal.returns-in-Ok-clause-old
returns-in-Ok-clause-old g c =
    let is : (v : Vertex) → holds c.renew_whole.new.self.roots v ≡ cond (is_same_vertex c.args.root.now v) c.args.is_root (holds c.args.self.now.roots v) =
    λ v. ap (λ (places : Places Bool). holds places v) c.renew_whole.ensures.roots ∙ c.set_root.ensures.set v
    ∙ ap (cond (is_same_vertex c.args.root.now v) c.args.is_root) (ap is_some (c.reserve_for.ensures.unchanged v) ∙ ap (λ (marks : KeptMarks). holds marks.roots v) c.self.view_is) in
    record {
      records = λ v. c.in-Ok.ensures.old.back v ∙ ap (λ (marks : KeptMarks). value_at marks.records v) c.self.view_is;
      roots = root_back c.args.root.now c.args.is_root (holds c.args.self.now.roots) (holds c.renew_whole.new.self.roots) c.requires.was is;
      types = subst (λ (marks : KeptMarks). KeepsTypes marks.types c.renew_whole.new.self.types) c.self.view_is c.renew_whole.ensures.types;
      contexts = subst (λ (marks : KeptMarks). KeepsContexts marks.contexts c.renew_whole.new.self.contexts) c.self.view_is c.renew_whole.ensures.contexts;
    }

pub returns-in-Err-clause-grown : goal.returns-in-Err-clause-grown
returns-in-Err-clause-grown g c =
    let is : (v : Vertex) → holds c.renew_whole.new.self.roots v ≡ cond (is_same_vertex c.args.root.now v) c.args.is_root (holds c.args.self.now.roots v) =
    λ v. ap (λ (places : Places Bool). holds places v) c.renew_whole.ensures.roots ∙ c.set_root.ensures.set v
    ∙ ap (cond (is_same_vertex c.args.root.now v) c.args.is_root) (ap is_some (c.reserve_for.ensures.unchanged v) ∙ ap (λ (marks : KeptMarks). holds marks.roots v) c.self.view_is) in
    record {
      types =
          subst (λ (marks : KeptMarks). KeepsTypes c.args.self.now.types marks.types) (sym c.self-2.view_is)
          (subst (λ (marks : KeptMarks). KeepsTypes marks.types c.renew_whole.new.self.types) c.self.view_is c.renew_whole.ensures.types);
      contexts =
          subst (λ (marks : KeptMarks). KeepsContexts c.args.self.now.contexts marks.contexts) (sym c.self-2.view_is)
          (subst (λ (marks : KeptMarks). KeepsContexts marks.contexts c.renew_whole.new.self.contexts) c.self.view_is c.renew_whole.ensures.contexts);
      records = λ v.
          ap (λ (marks : KeptMarks). value_at marks.records v) c.self-2.view_is ∙ c.in-Err.ensures.unchanged v ∙ ap (λ (marks : KeptMarks). value_at marks.records v) c.self.view_is;
      roots = λ v.
          c.set_root-in-Err.ensures.set v ∙ ap (λ (marks : KeptMarks). cond (is_same_vertex c.args.root.now v) (not c.args.is_root) (holds marks.roots v)) c.self-2.view_is
          ∙ root_back c.args.root.now c.args.is_root (holds c.args.self.now.roots) (holds c.renew_whole.new.self.roots) c.requires.was is v;
    }
