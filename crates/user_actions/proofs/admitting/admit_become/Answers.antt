use Rattle.std.proofs.Common.{◌≡◌, ◌+◌, cond, List, [], ◌∷◌, length, ap, refl, sym, ◌∙◌, arith}
use Rattle.std.specs.Prelude.{Some, None, is_none, slice_get}
use Rattle.grove_sorts.specs.Ctor.{sort_of_ctor}
use Rattle.grove_edits.specs.declared.edge.Edge.{Edge}
use Rattle.grove_edits.specs.declared.action.Place.{Place}
use Rattle.user_actions.specs.declared.new_names.NewNames.{NewNames}
use Rattle.user_actions.specs.declared.admitted.Admitted.TheVariants as found
use Rattle.user_actions.specs.Names.{greatest_counter}
use Rattle.user_actions.specs.Admitted.{made_of, edits_made, answer_made}
use Rattle.user_actions.proofs.Accepted.{edits_here}
use Rattle.grove_edits.specs.declared.action.Action.TheVariants.{Become}
use Rattle.grove_edits.specs.declared.act_fault.ActFault.TheVariants.{Empty}
use Rattle.user_actions.specs.Faults.{names_spent, first_some}
use Rattle.user_actions.specs.Place.{of_vertex, edges_at}
use Rattle.user_actions.specs.Actions.{name_count}
use Rattle.user_actions.specs.Checks.{two_edges}
use Rattle.user_actions.specs.Carried.{carried, carried_by_first}
use Rattle.user_actions.specs.PlainEdits.{deletion, to_new_vertex, carry_over, become_edits}
use Rattle.user_actions.proofs.NoFault.{vertex_named_is, at_place_is}
use Rattle.user_actions.proofs.EditLists.{held_first}
use Rattle.user_actions.proofs.LiveEdges.{children_live, live_well, two_none, four_tell}
use Rattle.user_actions.proofs.Telling.{only_from, greatest_is, stop, skip}
use Rattle.user_actions.proofs.PlaceRows.{edges_are, live_is, names_told, names_fit}
use Rattle.user_actions.proofs.SpotRows.{after_spot, sort_row, same_sort}
use Rattle.user_actions.proofs.Finding.{refused, own_names, has_names, new_stands, moved_stand, moved_well}
use Rattle.user_actions.proofs.admitting.admit_become.Goals as goal

pub returns-in_err-spot-clause-told : goal.returns-in_err-spot-clause-told
returns-in_err-spot-clause-told g c = record {
  each = λ lists of.
      refused lists (g.V.PlanView.opening c.args.view.now) c.args.author (Become c.args.place c.args.ctor) c.from_residual.result c.in_err-spot.field-0.0 c.from_residual.ensures.1
      (c.in_err-spot.ensures.fault lists (g.V.PlanView.opening c.args.view.now) c.args.author (Become c.args.place c.args.ctor) of refl refl (sym (ap Some c.sort_of.ensures)));
}

pub returns-in_err-replaced-clause-told : goal.returns-in_err-replaced-clause-told
returns-in_err-replaced-clause-told g c = record {
  each = λ lists of.
      let es = edges_are (g.V.PlanView.states c.args.view.now) lists (g.V.PlanView.children c.args.view.now) c.in_ok-spot.spot.vertex c.args.place of c.requires.live_children in
      let only = only_from (g.V.PlanView.states c.args.view.now) lists of c.args.place.name c.in_ok-spot.spot.vertex c.in_ok-spot.ensures.spot.one in
      let told = ap (λ (xs : List Edge). first_some (cond (is_none (slice_get xs 0)) (Some (Empty c.args.place)) None ∷ two_edges xs ∷ [])) (sym es) ∙ c.in_err-replaced.ensures.fault in
      let at_row = at_place_is lists c.args.place c.in_ok-spot.spot.vertex (λ v at. two_edges (edges_at lists v at)) only in
      refused lists (g.V.PlanView.opening c.args.view.now) c.args.author (Become c.args.place c.args.ctor) c.from_residual-in_err-replaced.result c.in_err-replaced.field-0.0 c.from_residual-in_err-replaced.ensures.1
      (after_spot (g.V.PlanView.states c.args.view.now) lists of (g.V.PlanView.opening c.args.view.now) c.args.author (Become c.args.place c.args.ctor) c.args.place c.in_ok-spot.spot c.in_ok-spot.ensures.spot refl refl ∙ skip _ _ (sort_row lists (g.V.PlanView.opening c.args.view.now) c.args.author (Become c.args.place c.args.ctor) c.args.place c.in_ok-spot.spot.vertex c.in_ok-spot.spot.sort (sort_of_ctor c.args.ctor) None c.in_ok-spot.ensures.spot.wanted refl (same_sort c.in_ok-spot.spot.sort (sort_of_ctor c.args.ctor) (c.in_ok-spot.ensures.sort ∙ c.sort_of.ensures)))
      ∙ four_tell _ _ _ at_row _ c.in_err-replaced.field-0.0 told);
}

pub returns-in_err-names-clause-told : goal.returns-in_err-names-clause-told
returns-in_err-names-clause-told g c = record {
  each = λ lists of.
      let es = edges_are (g.V.PlanView.states c.args.view.now) lists (g.V.PlanView.children c.args.view.now) c.in_ok-spot.spot.vertex c.args.place of c.requires.live_children in
      let only = only_from (g.V.PlanView.states c.args.view.now) lists of c.args.place.name c.in_ok-spot.spot.vertex c.in_ok-spot.ensures.spot.one in
      let told = ap (λ (xs : List Edge). first_some (cond (is_none (slice_get xs 0)) (Some (Empty c.args.place)) None ∷ two_edges xs ∷ [])) (sym es) ∙ c.in_ok-replaced.ensures.fault in
      let at_row = at_place_is lists c.args.place c.in_ok-spot.spot.vertex (λ v at. two_edges (edges_at lists v at)) only in
      let both = two_none (cond (is_none (slice_get (edges_at lists c.in_ok-spot.spot.vertex c.args.place) 0)) (Some (Empty c.args.place)) None) (two_edges (edges_at lists c.in_ok-spot.spot.vertex c.args.place)) told in
      let sole = sym es ∙ c.in_ok-replaced.ensures.sole in
      let cs = c.in_ok-moved.ensures.carried ∙ ap (carried c.args.ctor c.in_ok-replaced.replaced) (live_is (g.V.PlanView.states c.args.view.now) lists (g.V.PlanView.children c.args.view.now) of c.requires.live_children) in
      let counted : name_count lists (Become c.args.place c.args.ctor) ≡ 2 + length c.in_ok-moved.moved.items =
      ap (λ o. of_vertex o 2 (λ v. 2 + length (carried_by_first c.args.ctor (edges_at lists v c.args.place) lists.live))) (vertex_named_is lists c.args.place.name c.in_ok-spot.spot.vertex only)
      ∙ ap (λ (xs : List Edge). 2 + length (carried_by_first c.args.ctor xs lists.live)) sole ∙ ap (λ (xs : List Edge). 2 + length xs) (sym cs) in
      let count : name_count lists (Become c.args.place c.args.ctor) ≡ 2 + c.len.result = omega (arith, counted, c.len.ensures) in
      refused lists (g.V.PlanView.opening c.args.view.now) c.args.author (Become c.args.place c.args.ctor) c.from_residual-in_err-names.result c.in_err-names.field-0.0 c.from_residual-in_err-names.ensures.1
      (after_spot (g.V.PlanView.states c.args.view.now) lists of (g.V.PlanView.opening c.args.view.now) c.args.author (Become c.args.place c.args.ctor) c.args.place c.in_ok-spot.spot c.in_ok-spot.ensures.spot refl refl ∙ skip _ _ (sort_row lists (g.V.PlanView.opening c.args.view.now) c.args.author (Become c.args.place c.args.ctor) c.args.place c.in_ok-spot.spot.vertex c.in_ok-spot.spot.sort (sort_of_ctor c.args.ctor) None c.in_ok-spot.ensures.spot.wanted refl (same_sort c.in_ok-spot.spot.sort (sort_of_ctor c.args.ctor) (c.in_ok-spot.ensures.sort ∙ c.sort_of.ensures)))
      ∙ skip _ _ both.0 ∙ skip _ _ (at_row ∙ both.1)
      ∙ stop (names_spent lists c.args.author (Become c.args.place c.args.ctor)) [] c.in_err-names.field-0.0 (names_told (g.V.PlanView.states c.args.view.now) lists c.args.author (Become c.args.place c.args.ctor) (2 + c.len.result) c.in_err-names.field-0.0 of c.in_err-names.ensures.spent count (omega arith)));
}

pub returns-clause-made : goal.returns-clause-made
returns-clause-made g c =
    let replaced = c.in_ok-replaced.replaced in
    let names = has_names c.in_ok-names.names c.args.author (2 + c.len.result) (2 + length c.in_ok-moved.moved.items) c.in_ok-names.ensures.author c.requires.is_author c.in_ok-names.ensures.fits (omega (arith, c.len.ensures)) in
    let can = new_stands (g.V.PlanView.states c.args.view.now) c.requires.well_formed c.args.place c.in_ok-spot.spot c.in_ok-spot.ensures.spot c.in_ok-names.names c.args.ctor names.author (c.in_ok-spot.ensures.sort ∙ c.sort_of.ensures) in (
      names,
      can,
      live_well (g.V.PlanView.states c.args.view.now) (g.V.PlanView.children c.args.view.now) c.requires.well_formed c.requires.live_children replaced
          (children_live (g.V.PlanView.children c.args.view.now) (replaced ∷ []) c.in_ok-spot.spot.vertex c.args.place.position (sym c.in_ok-replaced.ensures.sole) replaced (held_first replaced [])),
      moved_well (g.V.PlanView.states c.args.view.now) (g.V.PlanView.children c.args.view.now) c.requires.well_formed c.requires.live_children c.args.ctor c.in_ok-moved.moved.items replaced c.in_ok-moved.ensures.carried,
      moved_stand (g.V.PlanView.states c.args.view.now) (g.V.PlanView.children c.args.view.now) c.requires.well_formed c.requires.live_children (made_of c.in_ok-names.names c.args.ctor) can.target c.in_ok-moved.moved.items replaced c.in_ok-moved.ensures.carried,
    )

pub returns-clause-told : goal.returns-clause-told
returns-clause-told g c = record {
  each = λ lists of.
      let names = c.in_ok-names.names in
      let spot = c.in_ok-spot.spot in
      let own : NewNames = record { author = c.args.author; greatest = greatest_counter lists c.args.author } in
      let same : names ≡ own = own_names names c.args.author (greatest_counter lists c.args.author) c.in_ok-names.ensures.author (sym (greatest_is (g.V.PlanView.states c.args.view.now) lists of c.args.author names.greatest c.in_ok-names.ensures.greatest)) in
      let es = edges_are (g.V.PlanView.states c.args.view.now) lists (g.V.PlanView.children c.args.view.now) c.in_ok-spot.spot.vertex c.args.place of c.requires.live_children in
      let only = only_from (g.V.PlanView.states c.args.view.now) lists of c.args.place.name c.in_ok-spot.spot.vertex c.in_ok-spot.ensures.spot.one in
      let told = ap (λ (xs : List Edge). first_some (cond (is_none (slice_get xs 0)) (Some (Empty c.args.place)) None ∷ two_edges xs ∷ [])) (sym es) ∙ c.in_ok-replaced.ensures.fault in
      let at_row = at_place_is lists c.args.place c.in_ok-spot.spot.vertex (λ v at. two_edges (edges_at lists v at)) only in
      let both = two_none (cond (is_none (slice_get (edges_at lists c.in_ok-spot.spot.vertex c.args.place) 0)) (Some (Empty c.args.place)) None) (two_edges (edges_at lists c.in_ok-spot.spot.vertex c.args.place)) told in
      let sole = sym es ∙ c.in_ok-replaced.ensures.sole in
      let cs = c.in_ok-moved.ensures.carried ∙ ap (carried c.args.ctor c.in_ok-replaced.replaced) (live_is (g.V.PlanView.states c.args.view.now) lists (g.V.PlanView.children c.args.view.now) of c.requires.live_children) in
      let counted : name_count lists (Become c.args.place c.args.ctor) ≡ 2 + length c.in_ok-moved.moved.items =
      ap (λ o. of_vertex o 2 (λ v. 2 + length (carried_by_first c.args.ctor (edges_at lists v c.args.place) lists.live))) (vertex_named_is lists c.args.place.name c.in_ok-spot.spot.vertex only)
      ∙ ap (λ (xs : List Edge). 2 + length (carried_by_first c.args.ctor xs lists.live)) sole ∙ ap (λ (xs : List Edge). 2 + length xs) (sym cs) in
      let count : name_count lists (Become c.args.place c.args.ctor) ≡ 2 + c.len.result = omega (arith, counted, c.len.ensures) in
      let replaced = c.in_ok-replaced.replaced in
      let moved = c.in_ok-moved.moved in
      record {
        no_fault =
            after_spot (g.V.PlanView.states c.args.view.now) lists of (g.V.PlanView.opening c.args.view.now) c.args.author (Become c.args.place c.args.ctor) c.args.place c.in_ok-spot.spot c.in_ok-spot.ensures.spot refl refl ∙ skip _ _ (sort_row lists (g.V.PlanView.opening c.args.view.now) c.args.author (Become c.args.place c.args.ctor) c.args.place c.in_ok-spot.spot.vertex c.in_ok-spot.spot.sort (sort_of_ctor c.args.ctor) None c.in_ok-spot.ensures.spot.wanted refl (same_sort c.in_ok-spot.spot.sort (sort_of_ctor c.args.ctor) (c.in_ok-spot.ensures.sort ∙ c.sort_of.ensures)))
            ∙ skip _ _ both.0 ∙ skip _ _ (at_row ∙ both.1)
            ∙ skip (names_spent lists c.args.author (Become c.args.place c.args.ctor)) [] (names_fit (g.V.PlanView.states c.args.view.now) lists c.args.author (Become c.args.place c.args.ctor) names.greatest (2 + c.len.result) of c.in_ok-names.ensures.greatest count c.in_ok-names.ensures.fits);
        edits_are =
            ap (λ (n : NewNames). edits_made (found.Become spot c.args.ctor replaced moved n)) same
            ∙ ap (λ (p : Place). edits_made (found.Become (record spot { place = p }) c.args.ctor replaced moved own)) c.in_ok-spot.ensures.spot.is_place
            ∙ ap (λ (xs : List Edge). deletion replaced ∷ to_new_vertex c.args.author (greatest_counter lists c.args.author) c.args.ctor spot.vertex c.args.place ∷ carry_over c.args.author (greatest_counter lists c.args.author) (made_of own c.args.ctor) 3 xs) cs
            ∙ ap (λ (xs : List Edge). become_edits c.args.author (greatest_counter lists c.args.author) c.args.ctor spot.vertex c.args.place xs lists.live) (sym sole)
            ∙ sym (edits_here lists c.args.author (Become c.args.place c.args.ctor) c.args.place spot.vertex only);
        answer_is = ap (λ (n : NewNames). answer_made (found.Become spot c.args.ctor replaced moved n)) same;
      };
}
