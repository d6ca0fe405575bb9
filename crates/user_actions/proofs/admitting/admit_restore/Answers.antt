use Rattle.std.proofs.Common.{◌≡◌, List, [], ◌∷◌, ap, refl, sym, ◌∙◌, arith}
use Rattle.std.specs.Prelude.{Some, None, slice_get, option_map}
use Rattle.grove_sorts.specs.Ctor.{sort_of_ctor}
use Rattle.grove_edits.specs.declared.vertex.Vertex.{Vertex}
use Rattle.grove_edits.specs.declared.edge.Edge.{Edge}
use Rattle.grove_edits.specs.declared.action.Place.{Place}
use Rattle.user_actions.specs.declared.new_names.NewNames.{NewNames}
use Rattle.user_actions.specs.declared.admitted.Admitted.TheVariants as found
use Rattle.user_actions.specs.Names.{greatest_counter, new_name}
use Rattle.user_actions.specs.Admitted.{edits_made, answer_made}
use Rattle.user_actions.proofs.Accepted.{edits_here}
use Rattle.graph_words.specs.Live.{parents_of}
use Rattle.grove_edits.specs.declared.action.Action.TheVariants.{Restore}
use Rattle.grove_edits.specs.declared.act_fault.ActFault.TheVariants.{Occupied, NotLoose}
use Rattle.user_actions.specs.Faults.{names_spent}
use Rattle.user_actions.specs.Place.{of_vertex}
use Rattle.user_actions.specs.Checks.{below_itself}
use Rattle.user_actions.specs.PlainEdits.{insertion}
use Rattle.user_actions.proofs.NoFault.{vertex_named_is}
use Rattle.user_actions.proofs.GoodEdges.{vertex_good}
use Rattle.user_actions.proofs.Telling.{only_from, greatest_is, stop, skip}
use Rattle.user_actions.proofs.PlaceRows.{edges_are, live_is, names_told, names_fit}
use Rattle.user_actions.proofs.SpotRows.{after_two, sort_row}
use Rattle.user_actions.proofs.Finding.{refused, own_names, has_names, stands}
use Rattle.user_actions.proofs.admitting.admit_restore.Goals as goal

pub returns-in_err-spot-clause-told : goal.returns-in_err-spot-clause-told
returns-in_err-spot-clause-told g c = record {
  each = λ lists of.
      refused lists (g.V.PlanView.opening c.args.view.now) c.args.author (Restore c.args.vertex c.args.place) c.from_residual.result c.in_err-spot.field-0.0 c.from_residual.ensures.1
      (c.in_err-spot.ensures.fault lists (g.V.PlanView.opening c.args.view.now) c.args.author (Restore c.args.vertex c.args.place) of refl refl);
}

pub returns-in_err-check_sort-clause-told : goal.returns-in_err-check_sort-clause-told
returns-in_err-check_sort-clause-told g c = record {
  each = λ lists of.
      let named = vertex_named_is lists c.args.vertex c.in_ok-spot.moved (only_from (g.V.PlanView.states c.args.view.now) lists of c.args.vertex c.in_ok-spot.moved c.in_ok-spot.ensures.vertex) in
      refused lists (g.V.PlanView.opening c.args.view.now) c.args.author (Restore c.args.vertex c.args.place) c.from_residual-in_err-check_sort.result c.in_err-check_sort.field-0.0 c.from_residual-in_err-check_sort.ensures.1
      (after_two (g.V.PlanView.states c.args.view.now) lists of (g.V.PlanView.opening c.args.view.now) c.args.author (Restore c.args.vertex c.args.place) c.args.place c.in_ok-spot.spot c.in_ok-spot.ensures.spot c.args.vertex c.in_ok-spot.moved c.in_ok-spot.ensures.vertex refl refl
      ∙ stop _ _ c.in_err-check_sort.field-0.0 (sort_row lists (g.V.PlanView.opening c.args.view.now) c.args.author (Restore c.args.vertex c.args.place) c.args.place c.in_ok-spot.spot.vertex c.in_ok-spot.spot.sort c.sort_of.result (Some c.in_err-check_sort.field-0.0) c.in_ok-spot.ensures.spot.wanted (ap (option_map (λ (w : Vertex). sort_of_ctor w.ctor)) named ∙ ap Some (sym c.sort_of.ensures)) c.in_err-check_sort.ensures.fault));
}

pub returns-in_err-check_free-clause-told : goal.returns-in_err-check_free-clause-told
returns-in_err-check_free-clause-told g c = record {
  each = λ lists of.
      let named = vertex_named_is lists c.args.vertex c.in_ok-spot.moved (only_from (g.V.PlanView.states c.args.view.now) lists of c.args.vertex c.in_ok-spot.moved c.in_ok-spot.ensures.vertex) in
      let es = edges_are (g.V.PlanView.states c.args.view.now) lists (g.V.PlanView.children c.args.view.now) c.in_ok-spot.spot.vertex c.args.place of c.requires.live_children in
      refused lists (g.V.PlanView.opening c.args.view.now) c.args.author (Restore c.args.vertex c.args.place) c.from_residual-in_err-check_free.result c.in_err-check_free.field-0.0 c.from_residual-in_err-check_free.ensures.1
      (after_two (g.V.PlanView.states c.args.view.now) lists of (g.V.PlanView.opening c.args.view.now) c.args.author (Restore c.args.vertex c.args.place) c.args.place c.in_ok-spot.spot c.in_ok-spot.ensures.spot c.args.vertex c.in_ok-spot.moved c.in_ok-spot.ensures.vertex refl refl ∙ skip _ _ (sort_row lists (g.V.PlanView.opening c.args.view.now) c.args.author (Restore c.args.vertex c.args.place) c.args.place c.in_ok-spot.spot.vertex c.in_ok-spot.spot.sort c.sort_of.result None c.in_ok-spot.ensures.spot.wanted (ap (option_map (λ (w : Vertex). sort_of_ctor w.ctor)) named ∙ ap Some (sym c.sort_of.ensures)) c.in_ok-check_sort.ensures.fault)
      ∙ stop _ _ c.in_err-check_free.field-0.0 (ap (λ (xs : List Edge). option_map Occupied (slice_get xs 0)) (sym es) ∙ c.in_err-check_free.ensures));
}

pub returns-in_err-check_apart-clause-told : goal.returns-in_err-check_apart-clause-told
returns-in_err-check_apart-clause-told g c = record {
  each = λ lists of.
      let named = vertex_named_is lists c.args.vertex c.in_ok-spot.moved (only_from (g.V.PlanView.states c.args.view.now) lists of c.args.vertex c.in_ok-spot.moved c.in_ok-spot.ensures.vertex) in
      let es = edges_are (g.V.PlanView.states c.args.view.now) lists (g.V.PlanView.children c.args.view.now) c.in_ok-spot.spot.vertex c.args.place of c.requires.live_children in
      let live = live_is (g.V.PlanView.states c.args.view.now) lists (g.V.ParentOf.live c.args.view.now) of c.requires.live_parents in
      refused lists (g.V.PlanView.opening c.args.view.now) c.args.author (Restore c.args.vertex c.args.place) c.from_residual-in_err-check_apart.result c.in_err-check_apart.field-0.0 c.from_residual-in_err-check_apart.ensures.1
      (after_two (g.V.PlanView.states c.args.view.now) lists of (g.V.PlanView.opening c.args.view.now) c.args.author (Restore c.args.vertex c.args.place) c.args.place c.in_ok-spot.spot c.in_ok-spot.ensures.spot c.args.vertex c.in_ok-spot.moved c.in_ok-spot.ensures.vertex refl refl ∙ skip _ _ (sort_row lists (g.V.PlanView.opening c.args.view.now) c.args.author (Restore c.args.vertex c.args.place) c.args.place c.in_ok-spot.spot.vertex c.in_ok-spot.spot.sort c.sort_of.result None c.in_ok-spot.ensures.spot.wanted (ap (option_map (λ (w : Vertex). sort_of_ctor w.ctor)) named ∙ ap Some (sym c.sort_of.ensures)) c.in_ok-check_sort.ensures.fault)
      ∙ skip _ _ (ap (λ (xs : List Edge). option_map Occupied (slice_get xs 0)) (sym es) ∙ c.in_ok-check_free.ensures)
      ∙ stop _ _ c.in_err-check_apart.field-0.0 (ap (below_itself lists.live c.in_ok-spot.spot.vertex) named ∙ ap (λ (xs : List Edge). below_itself xs c.in_ok-spot.spot.vertex (Some c.in_ok-spot.moved)) (sym live) ∙ c.in_err-check_apart.ensures));
}

pub returns-in_err-check_loose-clause-told : goal.returns-in_err-check_loose-clause-told
returns-in_err-check_loose-clause-told g c = record {
  each = λ lists of.
      let named = vertex_named_is lists c.args.vertex c.in_ok-spot.moved (only_from (g.V.PlanView.states c.args.view.now) lists of c.args.vertex c.in_ok-spot.moved c.in_ok-spot.ensures.vertex) in
      let es = edges_are (g.V.PlanView.states c.args.view.now) lists (g.V.PlanView.children c.args.view.now) c.in_ok-spot.spot.vertex c.args.place of c.requires.live_children in
      let live = live_is (g.V.PlanView.states c.args.view.now) lists (g.V.ParentOf.live c.args.view.now) of c.requires.live_parents in
      refused lists (g.V.PlanView.opening c.args.view.now) c.args.author (Restore c.args.vertex c.args.place) c.from_residual-in_err-check_loose.result c.in_err-check_loose.field-0.0 c.from_residual-in_err-check_loose.ensures.1
      (after_two (g.V.PlanView.states c.args.view.now) lists of (g.V.PlanView.opening c.args.view.now) c.args.author (Restore c.args.vertex c.args.place) c.args.place c.in_ok-spot.spot c.in_ok-spot.ensures.spot c.args.vertex c.in_ok-spot.moved c.in_ok-spot.ensures.vertex refl refl ∙ skip _ _ (sort_row lists (g.V.PlanView.opening c.args.view.now) c.args.author (Restore c.args.vertex c.args.place) c.args.place c.in_ok-spot.spot.vertex c.in_ok-spot.spot.sort c.sort_of.result None c.in_ok-spot.ensures.spot.wanted (ap (option_map (λ (w : Vertex). sort_of_ctor w.ctor)) named ∙ ap Some (sym c.sort_of.ensures)) c.in_ok-check_sort.ensures.fault)
      ∙ skip _ _ (ap (λ (xs : List Edge). option_map Occupied (slice_get xs 0)) (sym es) ∙ c.in_ok-check_free.ensures)
      ∙ skip _ _ (ap (below_itself lists.live c.in_ok-spot.spot.vertex) named ∙ ap (λ (xs : List Edge). below_itself xs c.in_ok-spot.spot.vertex (Some c.in_ok-spot.moved)) (sym live) ∙ c.in_ok-check_apart.ensures)
      ∙ stop _ _ c.in_err-check_loose.field-0.0 (ap (λ o. of_vertex o None (λ w. option_map NotLoose (slice_get (parents_of w lists.live) 0))) named ∙ ap (λ (xs : List Edge). option_map NotLoose (slice_get (parents_of c.in_ok-spot.moved xs) 0)) (sym live) ∙ c.in_err-check_loose.ensures));
}

pub returns-in_err-names-clause-told : goal.returns-in_err-names-clause-told
returns-in_err-names-clause-told g c = record {
  each = λ lists of.
      let named = vertex_named_is lists c.args.vertex c.in_ok-spot.moved (only_from (g.V.PlanView.states c.args.view.now) lists of c.args.vertex c.in_ok-spot.moved c.in_ok-spot.ensures.vertex) in
      let es = edges_are (g.V.PlanView.states c.args.view.now) lists (g.V.PlanView.children c.args.view.now) c.in_ok-spot.spot.vertex c.args.place of c.requires.live_children in
      let live = live_is (g.V.PlanView.states c.args.view.now) lists (g.V.ParentOf.live c.args.view.now) of c.requires.live_parents in
      refused lists (g.V.PlanView.opening c.args.view.now) c.args.author (Restore c.args.vertex c.args.place) c.from_residual-in_err-names.result c.in_err-names.field-0.0 c.from_residual-in_err-names.ensures.1
      (after_two (g.V.PlanView.states c.args.view.now) lists of (g.V.PlanView.opening c.args.view.now) c.args.author (Restore c.args.vertex c.args.place) c.args.place c.in_ok-spot.spot c.in_ok-spot.ensures.spot c.args.vertex c.in_ok-spot.moved c.in_ok-spot.ensures.vertex refl refl ∙ skip _ _ (sort_row lists (g.V.PlanView.opening c.args.view.now) c.args.author (Restore c.args.vertex c.args.place) c.args.place c.in_ok-spot.spot.vertex c.in_ok-spot.spot.sort c.sort_of.result None c.in_ok-spot.ensures.spot.wanted (ap (option_map (λ (w : Vertex). sort_of_ctor w.ctor)) named ∙ ap Some (sym c.sort_of.ensures)) c.in_ok-check_sort.ensures.fault)
      ∙ skip _ _ (ap (λ (xs : List Edge). option_map Occupied (slice_get xs 0)) (sym es) ∙ c.in_ok-check_free.ensures)
      ∙ skip _ _ (ap (below_itself lists.live c.in_ok-spot.spot.vertex) named ∙ ap (λ (xs : List Edge). below_itself xs c.in_ok-spot.spot.vertex (Some c.in_ok-spot.moved)) (sym live) ∙ c.in_ok-check_apart.ensures)
      ∙ skip _ _ (ap (λ o. of_vertex o None (λ w. option_map NotLoose (slice_get (parents_of w lists.live) 0))) named ∙ ap (λ (xs : List Edge). option_map NotLoose (slice_get (parents_of c.in_ok-spot.moved xs) 0)) (sym live) ∙ c.in_ok-check_loose.ensures)
      ∙ stop (names_spent lists c.args.author (Restore c.args.vertex c.args.place)) [] c.in_err-names.field-0.0 (names_told (g.V.PlanView.states c.args.view.now) lists c.args.author (Restore c.args.vertex c.args.place) 1 c.in_err-names.field-0.0 of c.in_err-names.ensures.spent refl (omega arith)));
}

pub returns-clause-made : goal.returns-clause-made
returns-clause-made g c = (
  has_names c.in_ok-names.names c.args.author 1 1 c.in_ok-names.ensures.author c.requires.is_author c.in_ok-names.ensures.fits refl,
  stands (g.V.PlanView.states c.args.view.now) c.requires.well_formed c.args.place c.in_ok-spot.spot c.in_ok-spot.ensures.spot c.in_ok-spot.moved (vertex_good (g.V.PlanView.states c.args.view.now) c.requires.well_formed c.in_ok-spot.moved c.in_ok-spot.ensures.vertex.0.1) (c.in_ok-check_sort.ensures.same ∙ c.sort_of.ensures),
)

pub returns-clause-told : goal.returns-clause-told
returns-clause-told g c = record {
  each = λ lists of.
      let names = c.in_ok-names.names in
      let spot = c.in_ok-spot.spot in
      let own : NewNames = record { author = c.args.author; greatest = greatest_counter lists c.args.author } in
      let same : names ≡ own = own_names names c.args.author (greatest_counter lists c.args.author) c.in_ok-names.ensures.author (sym (greatest_is (g.V.PlanView.states c.args.view.now) lists of c.args.author names.greatest c.in_ok-names.ensures.greatest)) in
      let named = vertex_named_is lists c.args.vertex c.in_ok-spot.moved (only_from (g.V.PlanView.states c.args.view.now) lists of c.args.vertex c.in_ok-spot.moved c.in_ok-spot.ensures.vertex) in
      let es = edges_are (g.V.PlanView.states c.args.view.now) lists (g.V.PlanView.children c.args.view.now) c.in_ok-spot.spot.vertex c.args.place of c.requires.live_children in
      let live = live_is (g.V.PlanView.states c.args.view.now) lists (g.V.ParentOf.live c.args.view.now) of c.requires.live_parents in
      let moved = c.in_ok-spot.moved in
      let only = only_from (g.V.PlanView.states c.args.view.now) lists of c.args.place.name spot.vertex c.in_ok-spot.ensures.spot.one in
      record {
        no_fault =
            after_two (g.V.PlanView.states c.args.view.now) lists of (g.V.PlanView.opening c.args.view.now) c.args.author (Restore c.args.vertex c.args.place) c.args.place c.in_ok-spot.spot c.in_ok-spot.ensures.spot c.args.vertex c.in_ok-spot.moved c.in_ok-spot.ensures.vertex refl refl ∙ skip _ _ (sort_row lists (g.V.PlanView.opening c.args.view.now) c.args.author (Restore c.args.vertex c.args.place) c.args.place c.in_ok-spot.spot.vertex c.in_ok-spot.spot.sort c.sort_of.result None c.in_ok-spot.ensures.spot.wanted (ap (option_map (λ (w : Vertex). sort_of_ctor w.ctor)) named ∙ ap Some (sym c.sort_of.ensures)) c.in_ok-check_sort.ensures.fault)
            ∙ skip _ _ (ap (λ (xs : List Edge). option_map Occupied (slice_get xs 0)) (sym es) ∙ c.in_ok-check_free.ensures)
            ∙ skip _ _ (ap (below_itself lists.live c.in_ok-spot.spot.vertex) named ∙ ap (λ (xs : List Edge). below_itself xs c.in_ok-spot.spot.vertex (Some c.in_ok-spot.moved)) (sym live) ∙ c.in_ok-check_apart.ensures)
            ∙ skip _ _ (ap (λ o. of_vertex o None (λ w. option_map NotLoose (slice_get (parents_of w lists.live) 0))) named ∙ ap (λ (xs : List Edge). option_map NotLoose (slice_get (parents_of c.in_ok-spot.moved xs) 0)) (sym live) ∙ c.in_ok-check_loose.ensures)
            ∙ skip (names_spent lists c.args.author (Restore c.args.vertex c.args.place)) [] (names_fit (g.V.PlanView.states c.args.view.now) lists c.args.author (Restore c.args.vertex c.args.place) names.greatest 1 of c.in_ok-names.ensures.greatest refl c.in_ok-names.ensures.fits);
        edits_are =
            ap (λ (n : NewNames). edits_made (found.Restore spot moved n)) same ∙ ap (λ (p : Place). edits_made (found.Restore (record spot { place = p }) moved own)) c.in_ok-spot.ensures.spot.is_place
            ∙ sym (ap (λ o. of_vertex o [] (λ m. insertion (new_name c.args.author (greatest_counter lists c.args.author) 1) spot.vertex c.args.place.position m ∷ [])) named)
            ∙ sym (edits_here lists c.args.author (Restore c.args.vertex c.args.place) c.args.place spot.vertex only);
        answer_is = ap (λ (n : NewNames). answer_made (found.Restore spot moved n)) same;
      };
}
