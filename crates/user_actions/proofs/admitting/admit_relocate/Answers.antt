use Rattle.std.proofs.Common.{◌≡◌, List, [], ◌∷◌, ap, refl, sym, ◌∙◌, arith}
use Rattle.std.specs.Prelude.{Some, slice_get, option_map, not, filter}
use Rattle.grove_sorts.specs.Ctor.{sort_of_ctor}
use Rattle.grove_edits.specs.declared.vertex.Vertex.{Vertex}
use Rattle.grove_edits.specs.declared.edge.Edge.{Edge}
use Rattle.grove_edits.specs.declared.action.Place.{Place}
use Rattle.user_actions.specs.declared.new_names.NewNames.{NewNames}
use Rattle.user_actions.specs.declared.admitted.Admitted.TheVariants as found
use Rattle.user_actions.specs.Names.{greatest_counter, edges_named, is_same_name}
use Rattle.user_actions.specs.Admitted.{edits_made, answer_made}
use Rattle.user_actions.proofs.Accepted.{edits_here}
use Rattle.graph_words.specs.Live.{holds_edge}
use Rattle.grove_edits.specs.declared.action.Action.TheVariants.{Relocate}
use Rattle.grove_edits.specs.declared.act_fault.ActFault.TheVariants.{Occupied}
use Rattle.user_actions.specs.Faults.{names_spent, first_some}
use Rattle.user_actions.specs.Checks.{other_sort, only_target, none_named, two_edges, below_itself}
use Rattle.user_actions.specs.Actions.{found_sort}
use Rattle.user_actions.specs.PlainEdits.{relocate_edits}
use Rattle.user_actions.proofs.EditLists.{held_first}
use Rattle.user_actions.proofs.GoodEdges.{parts_of}
use Rattle.user_actions.proofs.LiveEdges.{two_none, two_tell}
use Rattle.user_actions.proofs.Telling.{only_from, greatest_is, stop, skip}
use Rattle.user_actions.proofs.PlaceRows.{edges_are, live_is, names_told, names_fit}
use Rattle.user_actions.proofs.SpotRows.{after_spot}
use Rattle.user_actions.proofs.Finding.{refused, own_names, has_names, stands}
use Rattle.user_actions.proofs.admitting.admit_relocate.Goals as goal

pub returns-in_err-spot-clause-told : goal.returns-in_err-spot-clause-told
returns-in_err-spot-clause-told g c = record {
  each = λ lists of.
      refused lists (g.V.PlanView.opening c.args.view.now) c.args.author (Relocate c.args.edge c.args.place) c.from_residual.result c.in_err-spot.field-0.0 c.from_residual.ensures.1
      (c.in_err-spot.ensures.fault lists (g.V.PlanView.opening c.args.view.now) c.args.author (Relocate c.args.edge c.args.place) of refl refl);
}

pub returns-in_err-check_target_sort-clause-told : goal.returns-in_err-check_target_sort-clause-told
returns-in_err-check_target_sort-clause-told g c = record {
  each = λ lists of.
      let nl = c.in_ok-moved.ensures.named lists of in
      refused lists (g.V.PlanView.opening c.args.view.now) c.args.author (Relocate c.args.edge c.args.place) c.from_residual-in_err-check_target_sort.result c.in_err-check_target_sort.field-0.0 c.from_residual-in_err-check_target_sort.ensures.1
      (after_spot (g.V.PlanView.states c.args.view.now) lists of (g.V.PlanView.opening c.args.view.now) c.args.author (Relocate c.args.edge c.args.place) c.args.place c.in_ok-spot.spot c.in_ok-spot.ensures.spot refl refl
      ∙ stop _ _ c.in_err-check_target_sort.field-0.0 (ap (λ o. other_sort o (found_sort lists (Relocate c.args.edge c.args.place))) c.in_ok-spot.ensures.spot.wanted
      ∙ ap (λ (xs : List Edge). other_sort (Some c.in_ok-spot.spot.sort) (option_map (λ (w : Vertex). sort_of_ctor w.ctor) (only_target xs))) (sym (c.deref.ensures.value ∙ nl)) ∙ c.in_err-check_target_sort.ensures.fault));
}

pub returns-in_err-check_free_but-clause-told : goal.returns-in_err-check_free_but-clause-told
returns-in_err-check_free_but-clause-told g c = record {
  each = λ lists of.
      let nl = c.in_ok-moved.ensures.named lists of in
      let sorted = ap (λ o. other_sort o (found_sort lists (Relocate c.args.edge c.args.place))) c.in_ok-spot.ensures.spot.wanted
      ∙ ap (λ (xs : List Edge). other_sort (Some c.in_ok-spot.spot.sort) (option_map (λ (w : Vertex). sort_of_ctor w.ctor) (only_target xs))) (sym (c.deref.ensures.value ∙ nl)) ∙ c.in_ok-check_target_sort.ensures.fault in
      let es = edges_are (g.V.PlanView.states c.args.view.now) lists (g.V.PlanView.children c.args.view.now) c.in_ok-spot.spot.vertex c.args.place of c.requires.live_children in
      let free = ap (λ (xs : List Edge). option_map Occupied (slice_get (filter (λ (e : Edge). not (is_same_name e.name c.args.edge)) xs) 0)) (sym es) ∙ c.in_err-check_free_but.ensures in
      refused lists (g.V.PlanView.opening c.args.view.now) c.args.author (Relocate c.args.edge c.args.place) c.from_residual-in_err-check_free_but.result c.in_err-check_free_but.field-0.0 c.from_residual-in_err-check_free_but.ensures.1
      (after_spot (g.V.PlanView.states c.args.view.now) lists of (g.V.PlanView.opening c.args.view.now) c.args.author (Relocate c.args.edge c.args.place) c.args.place c.in_ok-spot.spot c.in_ok-spot.ensures.spot refl refl ∙ skip _ _ sorted
      ∙ stop _ _ c.in_err-check_free_but.field-0.0 free);
}

pub returns-in_err-old-clause-told : goal.returns-in_err-old-clause-told
returns-in_err-old-clause-told g c = record {
  each = λ lists of.
      let nl = c.in_ok-moved.ensures.named lists of in
      let sorted = ap (λ o. other_sort o (found_sort lists (Relocate c.args.edge c.args.place))) c.in_ok-spot.ensures.spot.wanted
      ∙ ap (λ (xs : List Edge). other_sort (Some c.in_ok-spot.spot.sort) (option_map (λ (w : Vertex). sort_of_ctor w.ctor) (only_target xs))) (sym (c.deref.ensures.value ∙ nl)) ∙ c.in_ok-check_target_sort.ensures.fault in
      let es = edges_are (g.V.PlanView.states c.args.view.now) lists (g.V.PlanView.children c.args.view.now) c.in_ok-spot.spot.vertex c.args.place of c.requires.live_children in
      let free = ap (λ (xs : List Edge). option_map Occupied (slice_get (filter (λ (e : Edge). not (is_same_name e.name c.args.edge)) xs) 0)) (sym es) ∙ c.in_ok-check_free_but.ensures in
      let d2 = c.deref-2.ensures.value ∙ nl in
      let told = ap (λ (xs : List Edge). first_some (none_named c.args.edge xs ∷ two_edges xs ∷ [])) (sym d2) ∙ c.in_err-old.ensures.fault in
      refused lists (g.V.PlanView.opening c.args.view.now) c.args.author (Relocate c.args.edge c.args.place) c.from_residual-in_err-old.result c.in_err-old.field-0.0 c.from_residual-in_err-old.ensures.1
      (after_spot (g.V.PlanView.states c.args.view.now) lists of (g.V.PlanView.opening c.args.view.now) c.args.author (Relocate c.args.edge c.args.place) c.args.place c.in_ok-spot.spot c.in_ok-spot.ensures.spot refl refl ∙ skip _ _ sorted
      ∙ skip _ _ free ∙ two_tell _ _ _ c.in_err-old.field-0.0 told);
}

pub returns-in_err-check_apart-clause-told : goal.returns-in_err-check_apart-clause-told
returns-in_err-check_apart-clause-told g c = record {
  each = λ lists of.
      let nl = c.in_ok-moved.ensures.named lists of in
      let sorted = ap (λ o. other_sort o (found_sort lists (Relocate c.args.edge c.args.place))) c.in_ok-spot.ensures.spot.wanted
      ∙ ap (λ (xs : List Edge). other_sort (Some c.in_ok-spot.spot.sort) (option_map (λ (w : Vertex). sort_of_ctor w.ctor) (only_target xs))) (sym (c.deref.ensures.value ∙ nl)) ∙ c.in_ok-check_target_sort.ensures.fault in
      let es = edges_are (g.V.PlanView.states c.args.view.now) lists (g.V.PlanView.children c.args.view.now) c.in_ok-spot.spot.vertex c.args.place of c.requires.live_children in
      let free = ap (λ (xs : List Edge). option_map Occupied (slice_get (filter (λ (e : Edge). not (is_same_name e.name c.args.edge)) xs) 0)) (sym es) ∙ c.in_ok-check_free_but.ensures in
      let d2 = c.deref-2.ensures.value ∙ nl in
      let told = ap (λ (xs : List Edge). first_some (none_named c.args.edge xs ∷ two_edges xs ∷ [])) (sym d2) ∙ c.in_ok-old.ensures.fault in
      let both = two_none (none_named c.args.edge (edges_named c.args.edge lists.live)) (two_edges (edges_named c.args.edge lists.live)) told in
      let sole = sym d2 ∙ c.in_ok-old.ensures.sole in
      let apart = ap (λ (xs : List Edge). below_itself lists.live c.in_ok-spot.spot.vertex (only_target xs)) sole
      ∙ ap (λ (xs : List Edge). below_itself xs c.in_ok-spot.spot.vertex (Some c.in_ok-old.old.target)) (sym (live_is (g.V.PlanView.states c.args.view.now) lists (g.V.ParentOf.live c.args.view.now) of c.requires.live_parents)) ∙ c.in_err-check_apart.ensures in
      refused lists (g.V.PlanView.opening c.args.view.now) c.args.author (Relocate c.args.edge c.args.place) c.from_residual-in_err-check_apart.result c.in_err-check_apart.field-0.0 c.from_residual-in_err-check_apart.ensures.1
      (after_spot (g.V.PlanView.states c.args.view.now) lists of (g.V.PlanView.opening c.args.view.now) c.args.author (Relocate c.args.edge c.args.place) c.args.place c.in_ok-spot.spot c.in_ok-spot.ensures.spot refl refl ∙ skip _ _ sorted
      ∙ skip _ _ free ∙ skip _ _ both.0 ∙ skip _ _ both.1 ∙ stop _ _ c.in_err-check_apart.field-0.0 apart);
}

pub returns-in_err-names-clause-told : goal.returns-in_err-names-clause-told
returns-in_err-names-clause-told g c = record {
  each = λ lists of.
      let nl = c.in_ok-moved.ensures.named lists of in
      let sorted = ap (λ o. other_sort o (found_sort lists (Relocate c.args.edge c.args.place))) c.in_ok-spot.ensures.spot.wanted
      ∙ ap (λ (xs : List Edge). other_sort (Some c.in_ok-spot.spot.sort) (option_map (λ (w : Vertex). sort_of_ctor w.ctor) (only_target xs))) (sym (c.deref.ensures.value ∙ nl)) ∙ c.in_ok-check_target_sort.ensures.fault in
      let es = edges_are (g.V.PlanView.states c.args.view.now) lists (g.V.PlanView.children c.args.view.now) c.in_ok-spot.spot.vertex c.args.place of c.requires.live_children in
      let free = ap (λ (xs : List Edge). option_map Occupied (slice_get (filter (λ (e : Edge). not (is_same_name e.name c.args.edge)) xs) 0)) (sym es) ∙ c.in_ok-check_free_but.ensures in
      let d2 = c.deref-2.ensures.value ∙ nl in
      let told = ap (λ (xs : List Edge). first_some (none_named c.args.edge xs ∷ two_edges xs ∷ [])) (sym d2) ∙ c.in_ok-old.ensures.fault in
      let both = two_none (none_named c.args.edge (edges_named c.args.edge lists.live)) (two_edges (edges_named c.args.edge lists.live)) told in
      let sole = sym d2 ∙ c.in_ok-old.ensures.sole in
      let apart = ap (λ (xs : List Edge). below_itself lists.live c.in_ok-spot.spot.vertex (only_target xs)) sole
      ∙ ap (λ (xs : List Edge). below_itself xs c.in_ok-spot.spot.vertex (Some c.in_ok-old.old.target)) (sym (live_is (g.V.PlanView.states c.args.view.now) lists (g.V.ParentOf.live c.args.view.now) of c.requires.live_parents)) ∙ c.in_ok-check_apart.ensures in
      refused lists (g.V.PlanView.opening c.args.view.now) c.args.author (Relocate c.args.edge c.args.place) c.from_residual-in_err-names.result c.in_err-names.field-0.0 c.from_residual-in_err-names.ensures.1
      (after_spot (g.V.PlanView.states c.args.view.now) lists of (g.V.PlanView.opening c.args.view.now) c.args.author (Relocate c.args.edge c.args.place) c.args.place c.in_ok-spot.spot c.in_ok-spot.ensures.spot refl refl ∙ skip _ _ sorted
      ∙ skip _ _ free ∙ skip _ _ both.0 ∙ skip _ _ both.1 ∙ skip _ _ apart
      ∙ stop (names_spent lists c.args.author (Relocate c.args.edge c.args.place)) [] c.in_err-names.field-0.0 (names_told (g.V.PlanView.states c.args.view.now) lists c.args.author (Relocate c.args.edge c.args.place) 1 c.in_err-names.field-0.0 of c.in_err-names.ensures.spent refl (omega arith)));
}

pub returns-clause-made : goal.returns-clause-made
returns-clause-made g c =
    let old = c.in_ok-old.old in
    let sole = sym c.deref-2.ensures.value ∙ c.in_ok-old.ensures.sole in
    let well = c.requires.well_formed old (c.in_ok-moved.ensures.known old (ap (holds_edge old) sole ∙ held_first old [])) in
    let names = has_names c.in_ok-names.names c.args.author 1 1 c.in_ok-names.ensures.author c.requires.is_author c.in_ok-names.ensures.fits refl in (
      names,
      stands (g.V.PlanView.states c.args.view.now) c.requires.well_formed c.args.place c.in_ok-spot.spot c.in_ok-spot.ensures.spot old.target (parts_of old well).target (c.in_ok-check_target_sort.ensures.same old (c.deref.ensures.value ∙ sole)),
      well,
    )

pub returns-clause-told : goal.returns-clause-told
returns-clause-told g c = record {
  each = λ lists of.
      let names = c.in_ok-names.names in
      let spot = c.in_ok-spot.spot in
      let own : NewNames = record { author = c.args.author; greatest = greatest_counter lists c.args.author } in
      let same : names ≡ own = own_names names c.args.author (greatest_counter lists c.args.author) c.in_ok-names.ensures.author (sym (greatest_is (g.V.PlanView.states c.args.view.now) lists of c.args.author names.greatest c.in_ok-names.ensures.greatest)) in
      let nl = c.in_ok-moved.ensures.named lists of in
      let sorted = ap (λ o. other_sort o (found_sort lists (Relocate c.args.edge c.args.place))) c.in_ok-spot.ensures.spot.wanted
      ∙ ap (λ (xs : List Edge). other_sort (Some c.in_ok-spot.spot.sort) (option_map (λ (w : Vertex). sort_of_ctor w.ctor) (only_target xs))) (sym (c.deref.ensures.value ∙ nl)) ∙ c.in_ok-check_target_sort.ensures.fault in
      let es = edges_are (g.V.PlanView.states c.args.view.now) lists (g.V.PlanView.children c.args.view.now) c.in_ok-spot.spot.vertex c.args.place of c.requires.live_children in
      let free = ap (λ (xs : List Edge). option_map Occupied (slice_get (filter (λ (e : Edge). not (is_same_name e.name c.args.edge)) xs) 0)) (sym es) ∙ c.in_ok-check_free_but.ensures in
      let d2 = c.deref-2.ensures.value ∙ nl in
      let told = ap (λ (xs : List Edge). first_some (none_named c.args.edge xs ∷ two_edges xs ∷ [])) (sym d2) ∙ c.in_ok-old.ensures.fault in
      let both = two_none (none_named c.args.edge (edges_named c.args.edge lists.live)) (two_edges (edges_named c.args.edge lists.live)) told in
      let sole = sym d2 ∙ c.in_ok-old.ensures.sole in
      let apart = ap (λ (xs : List Edge). below_itself lists.live c.in_ok-spot.spot.vertex (only_target xs)) sole
      ∙ ap (λ (xs : List Edge). below_itself xs c.in_ok-spot.spot.vertex (Some c.in_ok-old.old.target)) (sym (live_is (g.V.PlanView.states c.args.view.now) lists (g.V.ParentOf.live c.args.view.now) of c.requires.live_parents)) ∙ c.in_ok-check_apart.ensures in
      let only = only_from (g.V.PlanView.states c.args.view.now) lists of c.args.place.name c.in_ok-spot.spot.vertex c.in_ok-spot.ensures.spot.one in
      let old = c.in_ok-old.old in
      record {
        no_fault =
            after_spot (g.V.PlanView.states c.args.view.now) lists of (g.V.PlanView.opening c.args.view.now) c.args.author (Relocate c.args.edge c.args.place) c.args.place c.in_ok-spot.spot c.in_ok-spot.ensures.spot refl refl ∙ skip _ _ sorted
            ∙ skip _ _ free ∙ skip _ _ both.0 ∙ skip _ _ both.1 ∙ skip _ _ apart
            ∙ skip (names_spent lists c.args.author (Relocate c.args.edge c.args.place)) [] (names_fit (g.V.PlanView.states c.args.view.now) lists c.args.author (Relocate c.args.edge c.args.place) names.greatest 1 of c.in_ok-names.ensures.greatest refl c.in_ok-names.ensures.fits);
        edits_are =
            ap (λ (n : NewNames). edits_made (found.Relocate spot old n)) same ∙ ap (λ (p : Place). edits_made (found.Relocate (record spot { place = p }) old own)) c.in_ok-spot.ensures.spot.is_place
            ∙ ap (relocate_edits c.args.author (greatest_counter lists c.args.author) spot.vertex c.args.place) (sym sole)
            ∙ sym (edits_here lists c.args.author (Relocate c.args.edge c.args.place) c.args.place spot.vertex only);
        answer_is = ap (λ (n : NewNames). answer_made (found.Relocate spot old n)) same;
      };
}
