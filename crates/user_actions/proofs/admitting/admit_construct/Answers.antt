use Rattle.std.proofs.Common.{◌≡◌, List, [], ap, refl, sym, ◌∙◌, arith}
use Rattle.std.specs.Prelude.{Some, None, slice_get, option_map}
use Rattle.grove_sorts.specs.Ctor.{sort_of_ctor}
use Rattle.grove_edits.specs.declared.edge.Edge.{Edge}
use Rattle.grove_edits.specs.declared.action.Place.{Place}
use Rattle.user_actions.specs.declared.new_names.NewNames.{NewNames}
use Rattle.user_actions.specs.declared.admitted.Admitted.TheVariants as found
use Rattle.user_actions.specs.Names.{greatest_counter}
use Rattle.user_actions.specs.Admitted.{edits_made, answer_made}
use Rattle.user_actions.proofs.Accepted.{edits_here}
use Rattle.grove_edits.specs.declared.action.Action.TheVariants.{Construct}
use Rattle.grove_edits.specs.declared.act_fault.ActFault.TheVariants.{Occupied}
use Rattle.user_actions.specs.Faults.{names_spent}
use Rattle.user_actions.proofs.Telling.{only_from, greatest_is, stop, skip}
use Rattle.user_actions.proofs.PlaceRows.{edges_are, names_told, names_fit}
use Rattle.user_actions.proofs.SpotRows.{after_spot, sort_row, same_sort}
use Rattle.user_actions.proofs.Finding.{refused, own_names, has_names, new_stands}
use Rattle.user_actions.proofs.admitting.admit_construct.Goals as goal

pub returns-in_err-spot-clause-told : goal.returns-in_err-spot-clause-told
returns-in_err-spot-clause-told g c = record {
  each = λ lists of.
      refused lists (g.V.PlanView.opening c.args.view.now) c.args.author (Construct c.args.place c.args.ctor) c.from_residual.result c.in_err-spot.field-0.0 c.from_residual.ensures.1
      (c.in_err-spot.ensures.fault lists (g.V.PlanView.opening c.args.view.now) c.args.author (Construct c.args.place c.args.ctor) of refl refl (sym (ap Some c.sort_of.ensures)));
}

pub returns-in_err-check_free-clause-told : goal.returns-in_err-check_free-clause-told
returns-in_err-check_free-clause-told g c = record {
  each = λ lists of.
      let es = edges_are (g.V.PlanView.states c.args.view.now) lists (g.V.PlanView.children c.args.view.now) c.in_ok-spot.spot.vertex c.args.place of c.requires.live_children in
      refused lists (g.V.PlanView.opening c.args.view.now) c.args.author (Construct c.args.place c.args.ctor) c.from_residual-in_err-check_free.result c.in_err-check_free.field-0.0 c.from_residual-in_err-check_free.ensures.1
      (after_spot (g.V.PlanView.states c.args.view.now) lists of (g.V.PlanView.opening c.args.view.now) c.args.author (Construct c.args.place c.args.ctor) c.args.place c.in_ok-spot.spot c.in_ok-spot.ensures.spot refl refl ∙ skip _ _ (sort_row lists (g.V.PlanView.opening c.args.view.now) c.args.author (Construct c.args.place c.args.ctor) c.args.place c.in_ok-spot.spot.vertex c.in_ok-spot.spot.sort (sort_of_ctor c.args.ctor) None c.in_ok-spot.ensures.spot.wanted refl (same_sort c.in_ok-spot.spot.sort (sort_of_ctor c.args.ctor) (c.in_ok-spot.ensures.sort ∙ c.sort_of.ensures)))
      ∙ stop _ _ c.in_err-check_free.field-0.0 (ap (λ (xs : List Edge). option_map Occupied (slice_get xs 0)) (sym es) ∙ c.in_err-check_free.ensures));
}

pub returns-in_err-names-clause-told : goal.returns-in_err-names-clause-told
returns-in_err-names-clause-told g c = record {
  each = λ lists of.
      let es = edges_are (g.V.PlanView.states c.args.view.now) lists (g.V.PlanView.children c.args.view.now) c.in_ok-spot.spot.vertex c.args.place of c.requires.live_children in
      refused lists (g.V.PlanView.opening c.args.view.now) c.args.author (Construct c.args.place c.args.ctor) c.from_residual-in_err-names.result c.in_err-names.field-0.0 c.from_residual-in_err-names.ensures.1
      (after_spot (g.V.PlanView.states c.args.view.now) lists of (g.V.PlanView.opening c.args.view.now) c.args.author (Construct c.args.place c.args.ctor) c.args.place c.in_ok-spot.spot c.in_ok-spot.ensures.spot refl refl ∙ skip _ _ (sort_row lists (g.V.PlanView.opening c.args.view.now) c.args.author (Construct c.args.place c.args.ctor) c.args.place c.in_ok-spot.spot.vertex c.in_ok-spot.spot.sort (sort_of_ctor c.args.ctor) None c.in_ok-spot.ensures.spot.wanted refl (same_sort c.in_ok-spot.spot.sort (sort_of_ctor c.args.ctor) (c.in_ok-spot.ensures.sort ∙ c.sort_of.ensures)))
      ∙ skip _ _ (ap (λ (xs : List Edge). option_map Occupied (slice_get xs 0)) (sym es) ∙ c.in_ok-check_free.ensures)
      ∙ stop (names_spent lists c.args.author (Construct c.args.place c.args.ctor)) [] c.in_err-names.field-0.0 (names_told (g.V.PlanView.states c.args.view.now) lists c.args.author (Construct c.args.place c.args.ctor) 2 c.in_err-names.field-0.0 of c.in_err-names.ensures.spent refl (omega arith)));
}

pub returns-clause-made : goal.returns-clause-made
returns-clause-made g c =
    let names = has_names c.in_ok-names.names c.args.author 2 2 c.in_ok-names.ensures.author c.requires.is_author c.in_ok-names.ensures.fits refl in
    (names, new_stands (g.V.PlanView.states c.args.view.now) c.requires.well_formed c.args.place c.in_ok-spot.spot c.in_ok-spot.ensures.spot c.in_ok-names.names c.args.ctor names.author (c.in_ok-spot.ensures.sort ∙ c.sort_of.ensures))

pub returns-clause-told : goal.returns-clause-told
returns-clause-told g c = record {
  each = λ lists of.
      let names = c.in_ok-names.names in
      let spot = c.in_ok-spot.spot in
      let own : NewNames = record { author = c.args.author; greatest = greatest_counter lists c.args.author } in
      let same : names ≡ own = own_names names c.args.author (greatest_counter lists c.args.author) c.in_ok-names.ensures.author (sym (greatest_is (g.V.PlanView.states c.args.view.now) lists of c.args.author names.greatest c.in_ok-names.ensures.greatest)) in
      let es = edges_are (g.V.PlanView.states c.args.view.now) lists (g.V.PlanView.children c.args.view.now) c.in_ok-spot.spot.vertex c.args.place of c.requires.live_children in
      let only = only_from (g.V.PlanView.states c.args.view.now) lists of c.args.place.name c.in_ok-spot.spot.vertex c.in_ok-spot.ensures.spot.one in
      record {
        no_fault =
            after_spot (g.V.PlanView.states c.args.view.now) lists of (g.V.PlanView.opening c.args.view.now) c.args.author (Construct c.args.place c.args.ctor) c.args.place c.in_ok-spot.spot c.in_ok-spot.ensures.spot refl refl ∙ skip _ _ (sort_row lists (g.V.PlanView.opening c.args.view.now) c.args.author (Construct c.args.place c.args.ctor) c.args.place c.in_ok-spot.spot.vertex c.in_ok-spot.spot.sort (sort_of_ctor c.args.ctor) None c.in_ok-spot.ensures.spot.wanted refl (same_sort c.in_ok-spot.spot.sort (sort_of_ctor c.args.ctor) (c.in_ok-spot.ensures.sort ∙ c.sort_of.ensures)))
            ∙ skip _ _ (ap (λ (xs : List Edge). option_map Occupied (slice_get xs 0)) (sym es) ∙ c.in_ok-check_free.ensures)
            ∙ skip (names_spent lists c.args.author (Construct c.args.place c.args.ctor)) [] (names_fit (g.V.PlanView.states c.args.view.now) lists c.args.author (Construct c.args.place c.args.ctor) names.greatest 2 of c.in_ok-names.ensures.greatest refl c.in_ok-names.ensures.fits);
        edits_are =
            ap (λ (n : NewNames). edits_made (found.Construct spot c.args.ctor n)) same ∙ ap (λ (p : Place). edits_made (found.Construct (record spot { place = p }) c.args.ctor own)) c.in_ok-spot.ensures.spot.is_place
            ∙ sym (edits_here lists c.args.author (Construct c.args.place c.args.ctor) c.args.place spot.vertex only);
        answer_is = ap (λ (n : NewNames). answer_made (found.Construct spot c.args.ctor n)) same;
      };
}
