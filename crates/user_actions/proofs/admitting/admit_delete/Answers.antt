use Rattle.std.proofs.Common.{ap, refl, sym, ◌∙◌}
use Rattle.user_actions.proofs.Accepted.{edits_here}
use Rattle.user_actions.specs.PlainEdits.{deletions}
use Rattle.user_actions.specs.Place.{sort_at_place}
use Rattle.grove_edits.specs.declared.action.Action.TheVariants.{Delete}
use Rattle.user_actions.proofs.LiveEdges.{children_well, no_sort}
use Rattle.user_actions.proofs.Telling.{only_from, stop, skip}
use Rattle.user_actions.proofs.PlaceRows.{edges_are}
use Rattle.user_actions.proofs.SpotRows.{after_spot}
use Rattle.user_actions.proofs.Finding.{refused, filled_row}
use Rattle.user_actions.proofs.admitting.admit_delete.Goals as goal

pub returns-in_err-spot-clause-told : goal.returns-in_err-spot-clause-told
returns-in_err-spot-clause-told g c = record {
  each = λ lists of.
      refused lists (g.V.PlanView.opening c.args.view.now) c.args.author (Delete c.args.place) c.from_residual.result c.in_err-spot.field-0.0 c.from_residual.ensures.1
      (c.in_err-spot.ensures.fault lists (g.V.PlanView.opening c.args.view.now) c.args.author (Delete c.args.place) of refl refl);
}

pub returns-in_err-check_filled-clause-told : goal.returns-in_err-check_filled-clause-told
returns-in_err-check_filled-clause-told g c = record {
  each = λ lists of.
      let es = edges_are (g.V.PlanView.states c.args.view.now) lists (g.V.PlanView.children c.args.view.now) c.in_ok-spot.spot.vertex c.args.place of c.requires.live_children in
      refused lists (g.V.PlanView.opening c.args.view.now) c.args.author (Delete c.args.place) c.from_residual-in_err-check_filled.result c.in_err-check_filled.field-0.0 c.from_residual-in_err-check_filled.ensures.1
      (after_spot (g.V.PlanView.states c.args.view.now) lists of (g.V.PlanView.opening c.args.view.now) c.args.author (Delete c.args.place) c.args.place c.in_ok-spot.spot c.in_ok-spot.ensures.spot refl refl ∙ skip _ _ (no_sort (sort_at_place c.in_ok-spot.spot.vertex c.args.place))
      ∙ stop _ _ c.in_err-check_filled.field-0.0 (filled_row c.args.place _ _ _ es c.in_err-check_filled.ensures));
}

pub returns-clause-made : goal.returns-clause-made
returns-clause-made g c = children_well (g.V.PlanView.states c.args.view.now) (g.V.PlanView.children c.args.view.now) c.in_ok-edges.edges.items c.in_ok-spot.spot.vertex c.args.place.position c.requires.well_formed c.requires.live_children c.in_ok-edges.ensures

pub returns-clause-told : goal.returns-clause-told
returns-clause-told g c = record {
  each = λ lists of.
      let es = edges_are (g.V.PlanView.states c.args.view.now) lists (g.V.PlanView.children c.args.view.now) c.in_ok-spot.spot.vertex c.args.place of c.requires.live_children in
      let only = only_from (g.V.PlanView.states c.args.view.now) lists of c.args.place.name c.in_ok-spot.spot.vertex c.in_ok-spot.ensures.spot.one in
      record {
        no_fault =
            after_spot (g.V.PlanView.states c.args.view.now) lists of (g.V.PlanView.opening c.args.view.now) c.args.author (Delete c.args.place) c.args.place c.in_ok-spot.spot c.in_ok-spot.ensures.spot refl refl ∙ skip _ _ (no_sort (sort_at_place c.in_ok-spot.spot.vertex c.args.place))
            ∙ skip _ _ (filled_row c.args.place _ _ _ es c.in_ok-check_filled.ensures);
        edits_are = ap deletions (c.in_ok-edges.ensures ∙ es) ∙ sym (edits_here lists c.args.author (Delete c.args.place) c.args.place c.in_ok-spot.spot.vertex only);
        answer_is = refl;
      };
}
