use Rattle.std.proofs.Common.{ap, refl, sym, ◌∙◌}
use Rattle.grove_edits.specs.declared.action.Action.TheVariants.{Cut}
use Rattle.user_actions.specs.Checks.{none_named}
use Rattle.user_actions.specs.PlainEdits.{deletions}
use Rattle.user_actions.proofs.LiveEdges.{all_well}
use Rattle.user_actions.proofs.Telling.{stop, skip}
use Rattle.user_actions.proofs.Finding.{refused}
use Rattle.user_actions.proofs.admitting.admit_cut.Goals as goal

pub returns-in_err-check_named-clause-told : goal.returns-in_err-check_named-clause-told
returns-in_err-check_named-clause-told g c = record {
  each = λ lists of.
      let cut = sym (c.deref.ensures.value ∙ c.in_ok-edges.ensures.cut lists of) in
      refused lists (g.V.PlanView.opening c.args.view.now) c.args.author (Cut c.args.edge) c.from_residual-in_err-check_named.result c.in_err-check_named.field-0.0 c.from_residual-in_err-check_named.ensures.1
      (stop _ _ c.in_err-check_named.field-0.0 (ap (none_named c.args.edge) cut ∙ c.in_err-check_named.ensures));
}

pub returns-clause-made : goal.returns-clause-made
returns-clause-made g c = all_well c.in_ok-edges.edges.items (λ e held. c.requires.well_formed e (c.in_ok-edges.ensures.known e held))

pub returns-clause-told : goal.returns-clause-told
returns-clause-told g c = record {
  each = λ lists of.
      let cut = sym (c.deref.ensures.value ∙ c.in_ok-edges.ensures.cut lists of) in
      record {
        no_fault = skip _ _ (ap (none_named c.args.edge) cut ∙ c.in_ok-check_named.ensures);
        edits_are = ap deletions (c.in_ok-edges.ensures.cut lists of);
        answer_is = refl;
      };
}
