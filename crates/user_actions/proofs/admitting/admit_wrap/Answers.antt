use Rattle.std.proofs.Common.{◌≡◌, ◌+◌, List, [], length, ap, refl, sym, ◌∙◌, arith}
use Rattle.std.specs.Prelude.{Some, None, option_and_then}
use Rattle.grove_sorts.specs.Ctor.{sort_of_ctor}
use Rattle.grove_edits.specs.declared.edge.Edge.{Edge}
use Rattle.grove_edits.specs.declared.action.Place.{Place}
use Rattle.user_actions.specs.declared.new_names.NewNames.{NewNames}
use Rattle.user_actions.specs.declared.admitted.Admitted.TheVariants as found
use Rattle.user_actions.specs.Names.{greatest_counter}
use Rattle.user_actions.specs.Admitted.{made_of, edits_made, answer_made}
use Rattle.user_actions.proofs.Accepted.{edits_here}
use Rattle.grove_sorts.specs.Ctor.{first_position}
use Rattle.grove_edits.specs.declared.action.Action.TheVariants.{Wrap}
use Rattle.user_actions.specs.Faults.{names_spent}
use Rattle.user_actions.specs.Place.{of_vertex, edges_at}
use Rattle.user_actions.specs.Actions.{name_count}
use Rattle.user_actions.specs.Checks.{wrapping_position}
use Rattle.user_actions.specs.PlainEdits.{wrap_edits}
use Rattle.user_actions.proofs.NoFault.{vertex_named_is}
use Rattle.user_actions.proofs.LiveEdges.{children_well}
use Rattle.user_actions.proofs.Telling.{only_from, greatest_is, stop, skip}
use Rattle.user_actions.proofs.PlaceRows.{edges_are, names_told, names_fit}
use Rattle.user_actions.proofs.SpotRows.{after_spot, sort_row, same_sort}
use Rattle.user_actions.proofs.Finding.{refused, own_names, has_names, new_stands, filled_row, wrap_row, wrapped_stand}
use Rattle.user_actions.proofs.admitting.admit_wrap.Goals as goal

pub returns-in_err-spot-clause-told : goal.returns-in_err-spot-clause-told
returns-in_err-spot-clause-told g c = record {
  each = λ lists of.
      refused lists (g.V.PlanView.opening c.args.view.now) c.args.author (Wrap c.args.place c.args.ctor) c.from_residual.result c.in_err-spot.field-0.0 c.from_residual.ensures.1
      (c.in_err-spot.ensures.fault lists (g.V.PlanView.opening c.args.view.now) c.args.author (Wrap c.args.place c.args.ctor) of refl refl (sym (ap Some c.sort_of.ensures)));
}

pub returns-in_err-check_filled-clause-told : goal.returns-in_err-check_filled-clause-told
returns-in_err-check_filled-clause-told g c = record {
  each = λ lists of.
      let es = edges_are (g.V.PlanView.states c.args.view.now) lists (g.V.PlanView.children c.args.view.now) c.in_ok-spot.spot.vertex c.args.place of c.requires.live_children in
      refused lists (g.V.PlanView.opening c.args.view.now) c.args.author (Wrap c.args.place c.args.ctor) c.from_residual-in_err-check_filled.result c.in_err-check_filled.field-0.0 c.from_residual-in_err-check_filled.ensures.1
      (after_spot (g.V.PlanView.states c.args.view.now) lists of (g.V.PlanView.opening c.args.view.now) c.args.author (Wrap c.args.place c.args.ctor) c.args.place c.in_ok-spot.spot c.in_ok-spot.ensures.spot refl refl ∙ skip _ _ (sort_row lists (g.V.PlanView.opening c.args.view.now) c.args.author (Wrap c.args.place c.args.ctor) c.args.place c.in_ok-spot.spot.vertex c.in_ok-spot.spot.sort (sort_of_ctor c.args.ctor) None c.in_ok-spot.ensures.spot.wanted refl (same_sort c.in_ok-spot.spot.sort (sort_of_ctor c.args.ctor) (c.in_ok-spot.ensures.sort ∙ c.sort_of.ensures)))
      ∙ stop _ _ c.in_err-check_filled.field-0.0 (filled_row c.args.place _ _ _ es c.in_err-check_filled.ensures));
}

pub returns-in_err-below-clause-told : goal.returns-in_err-below-clause-told
returns-in_err-below-clause-told g c = record {
  each = λ lists of.
      let es = edges_are (g.V.PlanView.states c.args.view.now) lists (g.V.PlanView.children c.args.view.now) c.in_ok-spot.spot.vertex c.args.place of c.requires.live_children in
      let only = only_from (g.V.PlanView.states c.args.view.now) lists of c.args.place.name c.in_ok-spot.spot.vertex c.in_ok-spot.ensures.spot.one in
      refused lists (g.V.PlanView.opening c.args.view.now) c.args.author (Wrap c.args.place c.args.ctor) c.from_residual-in_err-below.result c.in_err-below.field-0.0 c.from_residual-in_err-below.ensures.1
      (after_spot (g.V.PlanView.states c.args.view.now) lists of (g.V.PlanView.opening c.args.view.now) c.args.author (Wrap c.args.place c.args.ctor) c.args.place c.in_ok-spot.spot c.in_ok-spot.ensures.spot refl refl ∙ skip _ _ (sort_row lists (g.V.PlanView.opening c.args.view.now) c.args.author (Wrap c.args.place c.args.ctor) c.args.place c.in_ok-spot.spot.vertex c.in_ok-spot.spot.sort (sort_of_ctor c.args.ctor) None c.in_ok-spot.ensures.spot.wanted refl (same_sort c.in_ok-spot.spot.sort (sort_of_ctor c.args.ctor) (c.in_ok-spot.ensures.sort ∙ c.sort_of.ensures)))
      ∙ skip _ _ (filled_row c.args.place _ _ _ es c.in_ok-check_filled.ensures) ∙ stop _ _ c.in_err-below.field-0.0 (wrap_row lists c.args.place c.args.ctor c.in_ok-spot.spot.vertex c.in_ok-spot.spot.sort (Some c.in_err-below.field-0.0) only c.in_ok-spot.ensures.spot.wanted c.in_err-below.ensures.fault));
}

pub returns-in_err-names-clause-told : goal.returns-in_err-names-clause-told
returns-in_err-names-clause-told g c = record {
  each = λ lists of.
      let es = edges_are (g.V.PlanView.states c.args.view.now) lists (g.V.PlanView.children c.args.view.now) c.in_ok-spot.spot.vertex c.args.place of c.requires.live_children in
      let only = only_from (g.V.PlanView.states c.args.view.now) lists of c.args.place.name c.in_ok-spot.spot.vertex c.in_ok-spot.ensures.spot.one in
      let counted : name_count lists (Wrap c.args.place c.args.ctor) ≡ 2 + length c.in_ok-wrapped.wrapped.items =
      ap (λ o. of_vertex o 2 (λ v. 2 + length (edges_at lists v c.args.place))) (vertex_named_is lists c.args.place.name c.in_ok-spot.spot.vertex only) ∙ ap (λ (xs : List Edge). 2 + length xs) (sym (c.in_ok-wrapped.ensures ∙ es)) in
      let count : name_count lists (Wrap c.args.place c.args.ctor) ≡ 2 + c.len.result = omega (arith, counted, c.len.ensures) in
      refused lists (g.V.PlanView.opening c.args.view.now) c.args.author (Wrap c.args.place c.args.ctor) c.from_residual-in_err-names.result c.in_err-names.field-0.0 c.from_residual-in_err-names.ensures.1
      (after_spot (g.V.PlanView.states c.args.view.now) lists of (g.V.PlanView.opening c.args.view.now) c.args.author (Wrap c.args.place c.args.ctor) c.args.place c.in_ok-spot.spot c.in_ok-spot.ensures.spot refl refl ∙ skip _ _ (sort_row lists (g.V.PlanView.opening c.args.view.now) c.args.author (Wrap c.args.place c.args.ctor) c.args.place c.in_ok-spot.spot.vertex c.in_ok-spot.spot.sort (sort_of_ctor c.args.ctor) None c.in_ok-spot.ensures.spot.wanted refl (same_sort c.in_ok-spot.spot.sort (sort_of_ctor c.args.ctor) (c.in_ok-spot.ensures.sort ∙ c.sort_of.ensures)))
      ∙ skip _ _ (filled_row c.args.place _ _ _ es c.in_ok-check_filled.ensures) ∙ skip _ _ (wrap_row lists c.args.place c.args.ctor c.in_ok-spot.spot.vertex c.in_ok-spot.spot.sort None only c.in_ok-spot.ensures.spot.wanted c.in_ok-below.ensures.fault)
      ∙ stop (names_spent lists c.args.author (Wrap c.args.place c.args.ctor)) [] c.in_err-names.field-0.0 (names_told (g.V.PlanView.states c.args.view.now) lists c.args.author (Wrap c.args.place c.args.ctor) (2 + c.len.result) c.in_err-names.field-0.0 of c.in_err-names.ensures.spent count (omega arith)));
}

pub returns-clause-made : goal.returns-clause-made
returns-clause-made g c =
    let names = has_names c.in_ok-names.names c.args.author (2 + c.len.result) (2 + length c.in_ok-wrapped.wrapped.items) c.in_ok-names.ensures.author c.requires.is_author c.in_ok-names.ensures.fits (omega (arith, c.len.ensures)) in
    let can = new_stands (g.V.PlanView.states c.args.view.now) c.requires.well_formed c.args.place c.in_ok-spot.spot c.in_ok-spot.ensures.spot c.in_ok-names.names c.args.ctor names.author (c.in_ok-spot.ensures.sort ∙ c.sort_of.ensures) in (
      names,
      can,
      children_well (g.V.PlanView.states c.args.view.now) (g.V.PlanView.children c.args.view.now) c.in_ok-wrapped.wrapped.items c.in_ok-spot.spot.vertex c.args.place.position c.requires.well_formed c.requires.live_children c.in_ok-wrapped.ensures,
      wrapped_stand (g.V.PlanView.states c.args.view.now) (g.V.PlanView.children c.args.view.now) c.requires.well_formed c.requires.live_children (made_of c.in_ok-names.names c.args.ctor) can.target c.in_ok-wrapped.wrapped.items c.in_ok-spot.spot.vertex c.args.place.position c.in_ok-below.below c.in_ok-spot.spot.sort
          c.in_ok-wrapped.ensures c.in_ok-spot.ensures.spot.wanted c.in_ok-below.ensures.position,
    )

pub returns-clause-told : goal.returns-clause-told
returns-clause-told g c = record {
  each = λ lists of.
      let names = c.in_ok-names.names in
      let spot = c.in_ok-spot.spot in
      let own : NewNames = record { author = c.args.author; greatest = greatest_counter lists c.args.author } in
      let same : names ≡ own = own_names names c.args.author (greatest_counter lists c.args.author) c.in_ok-names.ensures.author (sym (greatest_is (g.V.PlanView.states c.args.view.now) lists of c.args.author names.greatest c.in_ok-names.ensures.greatest)) in
      let es = edges_are (g.V.PlanView.states c.args.view.now) lists (g.V.PlanView.children c.args.view.now) c.in_ok-spot.spot.vertex c.args.place of c.requires.live_children in
      let only = only_from (g.V.PlanView.states c.args.view.now) lists of c.args.place.name c.in_ok-spot.spot.vertex c.in_ok-spot.ensures.spot.one in
      let counted : name_count lists (Wrap c.args.place c.args.ctor) ≡ 2 + length c.in_ok-wrapped.wrapped.items =
      ap (λ o. of_vertex o 2 (λ v. 2 + length (edges_at lists v c.args.place))) (vertex_named_is lists c.args.place.name c.in_ok-spot.spot.vertex only) ∙ ap (λ (xs : List Edge). 2 + length xs) (sym (c.in_ok-wrapped.ensures ∙ es)) in
      let count : name_count lists (Wrap c.args.place c.args.ctor) ≡ 2 + c.len.result = omega (arith, counted, c.len.ensures) in
      let below = c.in_ok-below.below in
      let wrapped = c.in_ok-wrapped.wrapped in
      let position : wrapping_position c.args.ctor spot.vertex c.args.place ≡ Some below = ap (option_and_then (first_position c.args.ctor)) c.in_ok-spot.ensures.spot.wanted ∙ c.in_ok-below.ensures.position in
      record {
        no_fault =
            after_spot (g.V.PlanView.states c.args.view.now) lists of (g.V.PlanView.opening c.args.view.now) c.args.author (Wrap c.args.place c.args.ctor) c.args.place c.in_ok-spot.spot c.in_ok-spot.ensures.spot refl refl ∙ skip _ _ (sort_row lists (g.V.PlanView.opening c.args.view.now) c.args.author (Wrap c.args.place c.args.ctor) c.args.place c.in_ok-spot.spot.vertex c.in_ok-spot.spot.sort (sort_of_ctor c.args.ctor) None c.in_ok-spot.ensures.spot.wanted refl (same_sort c.in_ok-spot.spot.sort (sort_of_ctor c.args.ctor) (c.in_ok-spot.ensures.sort ∙ c.sort_of.ensures)))
            ∙ skip _ _ (filled_row c.args.place _ _ _ es c.in_ok-check_filled.ensures) ∙ skip _ _ (wrap_row lists c.args.place c.args.ctor c.in_ok-spot.spot.vertex c.in_ok-spot.spot.sort None only c.in_ok-spot.ensures.spot.wanted c.in_ok-below.ensures.fault)
            ∙ skip (names_spent lists c.args.author (Wrap c.args.place c.args.ctor)) [] (names_fit (g.V.PlanView.states c.args.view.now) lists c.args.author (Wrap c.args.place c.args.ctor) names.greatest (2 + c.len.result) of c.in_ok-names.ensures.greatest count c.in_ok-names.ensures.fits);
        edits_are =
            ap (λ (n : NewNames). edits_made (found.Wrap spot c.args.ctor below wrapped n)) same
            ∙ ap (λ (p : Place). edits_made (found.Wrap (record spot { place = p }) c.args.ctor below wrapped own)) c.in_ok-spot.ensures.spot.is_place
            ∙ ap (λ (xs : List Edge). wrap_edits c.args.author (greatest_counter lists c.args.author) c.args.ctor spot.vertex c.args.place (Some below) xs) (c.in_ok-wrapped.ensures ∙ es)
            ∙ ap (λ o. wrap_edits c.args.author (greatest_counter lists c.args.author) c.args.ctor spot.vertex c.args.place o (edges_at lists spot.vertex c.args.place)) (sym position)
            ∙ sym (edits_here lists c.args.author (Wrap c.args.place c.args.ctor) c.args.place spot.vertex only);
        answer_is = ap (λ (n : NewNames). answer_made (found.Wrap spot c.args.ctor below wrapped n)) same;
      };
}
