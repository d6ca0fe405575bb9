-- What the plan of each action has where no fault applies, shown here once for each: the laws of plans follow from it and name no action.
use Rattle.std.proofs.Common.{◌≡◌, ℕ, true, false, cond, List, [], ◌∷◌, refl, sym, ap, subst, ◌∙◌, ◌+◌, ◌<◌, ◌^◌, length, arith}
use Rattle.std.specs.Prelude.{None, Some, not, filter, is_none, slice_get, option_and_then, option_map}
use Rattle.grove_names.specs.declared.name.Name.{Name}
use Rattle.grove_sorts.specs.declared.position.Position.{Position}
use Rattle.grove_sorts.specs.declared.ctor.Ctor.{Ctor}
use Rattle.grove_sorts.specs.Ctor.{sort_of_ctor, first_position}
use Rattle.grove_edits.specs.declared.vertex.Vertex.{Vertex}
use Rattle.grove_edits.specs.declared.edge.Edge.{Edge}
use Rattle.grove_edits.specs.Vertex.{stands_in}
use Rattle.grove_edits.specs.declared.action.Place.{Place}
use Rattle.grove_edits.specs.declared.action.Action.{Action}
use Rattle.grove_edits.specs.declared.action.Action.TheVariants.{Construct, Wrap, Become, Delete, Cut, Relocate, Restore}
use Rattle.grove_edits.specs.declared.act_fault.ActFault.TheVariants.{Occupied, Empty, CannotWrap, NotLoose}
use Rattle.grove_edits.specs.Graph.{Graph}
use Rattle.grove_edits.specs.declared.edit.EditKind.TheVariants.{Insert}
use Rattle.grove_edits.specs.declared.edit.EditKind.{EditKind}
use Rattle.graph_words.specs.Live.{parents_of}
use Rattle.graph_words.specs.Walk.{walk}
use Rattle.user_actions.specs.Lists.{GraphLists, AreListsOf}
use Rattle.user_actions.specs.Names.{is_same_name, edges_named, new_name, greatest_counter}
use Rattle.user_actions.specs.Place.{edges_at, vertex_named, of_vertex}
use Rattle.user_actions.specs.PlainEdits.{PlainEdit, deletions, insertion, new_vertex, to_new_vertex, put_below, wrap_edits, become_edits, relocate_edits}
use Rattle.user_actions.specs.Checks.{wrapping_position, two_edges, only_target, edges_cut}
use Rattle.user_actions.specs.Actions.{found_sort, moved_vertex, edits_of, name_count, place_of, fills_place, made_ctor, moves_vertex}
use Rattle.user_actions.specs.Carried.{carried, carried_by_first}
use Rattle.user_actions.specs.Good.{AreWellFormed, AreInRange, AreOpening, HasLiteralInRange}
use Rattle.user_actions.proofs.NoFault.{NoFault, IsOnly, at_place_is, vertex_named_is, some_from, nothing_from, something_from, one_edge_from, only_stands}
use Rattle.user_actions.proofs.PlainGraphs.{AllEdits, PutsOne}
use Rattle.user_actions.proofs.EditLists.{all_append, all_deletions, all_put_below, all_carry_over, edge_with}
use Rattle.user_actions.proofs.OnePlace.{puts_construct, puts_restore, puts_wrap, puts_become, puts_relocate}
use Rattle.user_actions.proofs.Accepted.{HasPlace, edits_here, place_from, sort_from, second_only, some_edge, apart_from}
use Rattle.user_actions.proofs.GoodEdits.{IsGood, names_left, good_construct, good_wrap, good_become, good_at_place, good_cut, good_relocate, good_restore}

-- ---- what the checks of each action leave

pub record ToConstruct (lists : GraphLists) (place : Place) (ctor : Ctor) : Type 0 where
  pub has : HasPlace lists place
  pub sort : has.sort ≡ sort_of_ctor ctor
  pub free : edges_at lists has.vertex place ≡ []

pub to_construct : (lists : GraphLists) (opening : List Edge) (author : ℕ) (place : Place) (ctor : Ctor) → NoFault lists opening author (Construct place ctor) → ToConstruct lists place ctor
to_construct lists opening author place ctor none =
    let has = place_from lists place [] none.vertex none.one_vertex none.position in
    record {
      has = has;
      sort = sort_from lists place (Some (sort_of_ctor ctor)) (sort_of_ctor ctor) refl has none.sort;
      free = nothing_from Occupied (edges_at lists has.vertex place) (sym (at_place_is lists place has.vertex (λ v at. option_map Occupied (slice_get (edges_at lists v at) 0)) has.only) ∙ none.free);
    }

pub record ToWrap (lists : GraphLists) (place : Place) (ctor : Ctor) : Type 0 where
  pub has : HasPlace lists place
  pub sort : has.sort ≡ sort_of_ctor ctor
  pub below : Position
  pub wraps : first_position ctor has.sort ≡ Some below

pub to_wrap : (lists : GraphLists) (opening : List Edge) (author : ℕ) (place : Place) (ctor : Ctor) → NoFault lists opening author (Wrap place ctor) → ToWrap lists place ctor
to_wrap lists opening author place ctor none =
    let has = place_from lists place [] none.vertex none.one_vertex none.position in
    let found = some_from (wrapping_position ctor has.vertex place) (CannotWrap ctor) (sym (at_place_is lists place has.vertex (λ v at. cond (is_none (wrapping_position ctor v at)) (Some (CannotWrap ctor)) None) has.only) ∙ none.wraps) in
    record {
      has = has;
      sort = sort_from lists place (Some (sort_of_ctor ctor)) (sort_of_ctor ctor) refl has none.sort;
      below = found.0;
      wraps = ap (option_and_then (first_position ctor)) (sym has.position) ∙ found.1;
    }

pub record ToBecome (lists : GraphLists) (place : Place) (ctor : Ctor) : Type 0 where
  pub has : HasPlace lists place
  pub sort : has.sort ≡ sort_of_ctor ctor
  pub edge : Edge
  pub sole : edges_at lists has.vertex place ≡ edge ∷ []

pub to_become : (lists : GraphLists) (opening : List Edge) (author : ℕ) (place : Place) (ctor : Ctor) → NoFault lists opening author (Become place ctor) → ToBecome lists place ctor
to_become lists opening author place ctor none =
    let has = place_from lists place [] none.vertex none.one_vertex none.position in
    let found = something_from (Empty place) (edges_at lists has.vertex place)
    (sym (at_place_is lists place has.vertex (λ v at. cond (is_none (slice_get (edges_at lists v at) 0)) (Some (Empty at)) None) has.only) ∙ none.filled) in
    record {
      has = has;
      sort = sort_from lists place (Some (sort_of_ctor ctor)) (sort_of_ctor ctor) refl has none.sort;
      edge = found.0;
      sole = one_edge_from (edges_at lists has.vertex place) found.0 found.1 found.2 (sym (at_place_is lists place has.vertex (λ v at. two_edges (edges_at lists v at)) has.only) ∙ none.one_edge);
    }

pub to_delete : (lists : GraphLists) (opening : List Edge) (author : ℕ) (place : Place) → NoFault lists opening author (Delete place) → HasPlace lists place
to_delete lists opening author place none = place_from lists place [] none.vertex none.one_vertex none.position

pub record ToRelocate (lists : GraphLists) (edge : Name) (place : Place) : Type 0 where
  pub has : HasPlace lists place
  pub moved : Edge
  pub sole : edges_named edge lists.live ≡ moved ∷ []
  pub sort : has.sort ≡ sort_of_ctor moved.target.ctor
  pub free : filter (λ f. not (is_same_name f.name edge)) (edges_at lists has.vertex place) ≡ []
  pub apart : stands_in moved.target (walk lists.live has.vertex) ≡ false

pub to_relocate : (lists : GraphLists) (opening : List Edge) (author : ℕ) (edge : Name) (place : Place) → NoFault lists opening author (Relocate edge place) → ToRelocate lists edge place
to_relocate lists opening author edge place none =
    let has = place_from lists place [] none.vertex none.one_vertex none.position in
    let found = some_edge edge (edges_named edge lists.live) none.edge in
    let sole = one_edge_from (edges_named edge lists.live) found.0 found.1 found.2 none.one_edge in
    let target : only_target (edges_named edge lists.live) ≡ Some found.0.target = ap only_target sole in
    record {
      has = has;
      moved = found.0;
      sole = sole;
      sort = sort_from lists place (found_sort lists (Relocate edge place)) (sort_of_ctor found.0.target.ctor) (ap (option_map (λ (v : Vertex). sort_of_ctor v.ctor)) target) has none.sort;
      free = nothing_from Occupied (filter (λ f. not (is_same_name f.name edge)) (edges_at lists has.vertex place))
          (sym (at_place_is lists place has.vertex (λ v at. option_map Occupied (slice_get (filter (λ f. not (is_same_name f.name edge)) (edges_at lists v at)) 0)) has.only) ∙ none.free);
      apart = apart_from lists place (moved_vertex lists (Relocate edge place)) found.0.target target has none.apart;
    }

pub record ToRestore (lists : GraphLists) (vertex : Name) (place : Place) : Type 0 where
  pub has : HasPlace lists place
  pub moved : Vertex
  pub only : IsOnly lists vertex moved
  pub sort : has.sort ≡ sort_of_ctor moved.ctor
  pub free : edges_at lists has.vertex place ≡ []
  pub apart : stands_in moved (walk lists.live has.vertex) ≡ false
  pub loose : parents_of moved lists.live ≡ []

pub to_restore : (lists : GraphLists) (opening : List Edge) (author : ℕ) (vertex : Name) (place : Place) → NoFault lists opening author (Restore vertex place) → ToRestore lists vertex place
to_restore lists opening author vertex place none =
    let has = place_from lists place (vertex ∷ []) none.vertex none.one_vertex none.position in
    let second = second_only lists opening author (Restore vertex place) place.name vertex none refl in
    let named : vertex_named lists vertex ≡ Some second.0 = vertex_named_is lists vertex second.0 second.1 in
    record {
      has = has;
      moved = second.0;
      only = second.1;
      sort = sort_from lists place (found_sort lists (Restore vertex place)) (sort_of_ctor second.0.ctor) (ap (option_map (λ (v : Vertex). sort_of_ctor v.ctor)) named) has none.sort;
      free = nothing_from Occupied (edges_at lists has.vertex place) (sym (at_place_is lists place has.vertex (λ v at. option_map Occupied (slice_get (edges_at lists v at) 0)) has.only) ∙ none.free);
      apart = apart_from lists place (moved_vertex lists (Restore vertex place)) second.0 named has none.apart;
      loose =
          nothing_from NotLoose (parents_of second.0 lists.live)
          (sym (ap (λ o. of_vertex o None (λ v. option_map NotLoose (slice_get (parents_of v lists.live) 0))) named) ∙ none.loose);
    }

-- ---- what every plan has

-- the graph and the action have well-formed edges and numbers in their ranges, as those of the program do
pub record AreOfProgram (g : Graph) (opening : List Edge) (author : ℕ) (action : Action) : Type 0 where
  pub well : AreWellFormed g
  pub ranged : AreInRange g
  pub positive : 0 < author
  pub small : author < 2 ^ 32
  pub opened : AreOpening g opening
  pub literals : HasLiteralInRange action

-- what is inserted has a new name of the author
abbrev pub NamesNew : GraphLists → ℕ → EditKind → Edge → Type 0
NamesNew lists author kind e = kind ≡ Insert → (number : ℕ) × (0 < number) × (e.name ≡ new_name author (greatest_counter lists author) number)

-- each edit is of an edge to the vertex that moves, which the vertex of the place does not stand below
pub record MovesVertex (lists : GraphLists) (author : ℕ) (action : Action) (v : Vertex) (new : Edge) (ps : List PlainEdit) : Type 0 where
  pub name : new.name ≡ new_name author (greatest_counter lists author) 1
  pub meant : moved_vertex lists action ≡ Some new.target
  pub source : new.source ≡ v
  pub each : AllEdits (λ kind e. e.target ≡ new.target) ps
  pub apart : stands_in new.target (walk lists.live v) ≡ false

-- the edits put one new edge at the place of the action, to the vertex that it makes or moves
pub record FillsPlace (g : Graph) (lists : GraphLists) (author : ℕ) (action : Action) (ps : List PlainEdit) : Type 0 where
  pub place : Place
  pub named : place_of action ≡ Some place
  pub vertex : Vertex
  pub only : IsOnly lists place.name vertex
  pub new : Edge
  pub puts : PutsOne g lists.live vertex place.position new ps
  pub makes : (ctor : Ctor) → made_ctor action ≡ Some ctor → new.target ≡ new_vertex author (greatest_counter lists author) ctor
  pub moves : moves_vertex action ≡ true → MovesVertex lists author action vertex new ps

pub record IsGoodPlan (g : Graph) (lists : GraphLists) (opening : List Edge) (author : ℕ) (action : Action) (ps : List PlainEdit) : Type 0 where
  pub good : AreOfProgram g opening author action → AllEdits (λ kind e. IsGood e) ps
  pub new : AllEdits (NamesNew lists author) ps
  pub fills : fills_place action ≡ true → FillsPlace g lists author action ps

some_ctor : (a b : Ctor) → Some a ≡ Some b → a ≡ b
some_ctor a b h = cc

-- ---- each action

module _ (g : Graph) (lists : GraphLists) (of : AreListsOf g lists) (opening : List Edge) (author : ℕ) where
  -- the edits of the action, and what they have
  abbrev GoodPlanOf : Action → Type 0
  GoodPlanOf action = IsGoodPlan g lists opening author action (edits_of lists opening author action)

  abbrev greatest : ℕ
  greatest = greatest_counter lists author

  stands : (place : Place) (has : HasPlace lists place) → stands_in has.vertex lists.vertices ≡ true
  stands place has = (only_stands lists place.name has.vertex has.only).0

  none_inserted : (es : List Edge) → AllEdits (NamesNew lists author) (deletions es)
  none_inserted es = all_deletions (NamesNew lists author) es (λ e held is. absurd cc)

  made_as : (ctor other : Ctor) → Some ctor ≡ Some other → new_vertex author greatest ctor ≡ new_vertex author greatest other
  made_as ctor other is = ap (new_vertex author greatest) (some_ctor ctor other is)

  construct_plan : (place : Place) (ctor : Ctor) → NoFault lists opening author (Construct place ctor) → GoodPlanOf (Construct place ctor)
  construct_plan place ctor none =
      let to = to_construct lists opening author place ctor none in
      let v = to.has.vertex in
      let fits = names_left lists author (Construct place ctor) 2 refl (omega arith) none.names in
      subst (IsGoodPlan g lists opening author (Construct place ctor)) (sym (edits_here lists author (Construct place ctor) place v to.has.only))
      (record {
        good = λ p. (good_construct g lists of p.well p.ranged author p.positive p.small place ctor to.has 2 to.sort p.literals fits (omega arith), tt);
        new = (λ _. (2, omega arith, refl), tt);
        fills = λ _. record {
          place = place;
          named = refl;
          vertex = v;
          only = to.has.only;
          new = edge_with author greatest 2 v place.position (new_vertex author greatest ctor);
          puts = puts_construct g lists of author place ctor v (stands place to.has) to.free;
          makes = made_as ctor;
          moves = λ moves. absurd cc;
        };
      })

  wrap_plan : (place : Place) (ctor : Ctor) → NoFault lists opening author (Wrap place ctor) → GoodPlanOf (Wrap place ctor)
  wrap_plan place ctor none =
      let to = to_wrap lists opening author place ctor none in
      let v = to.has.vertex in
      let es = edges_at lists v place in
      let below = put_below author greatest (new_vertex author greatest ctor) to.below 3 es in
      let counted : name_count lists (Wrap place ctor) ≡ 2 + length es = ap (λ o. of_vertex o 2 (λ w. 2 + length (edges_at lists w place))) (vertex_named_is lists place.name v to.has.only) in
      let fits = names_left lists author (Wrap place ctor) (2 + length es) counted (omega arith) none.names in
      let wraps : wrapping_position ctor v place ≡ Some to.below = ap (option_and_then (first_position ctor)) to.has.position ∙ to.wraps in
      subst (IsGoodPlan g lists opening author (Wrap place ctor))
      (sym (edits_here lists author (Wrap place ctor) place v to.has.only ∙ ap (λ o. wrap_edits author greatest ctor v place o es) wraps))
      (record {
        good = λ p. good_wrap g lists of p.well p.ranged author p.positive p.small place ctor to.has to.below to.sort p.literals to.wraps fits;
        new =
            all_append (NamesNew lists author) (deletions es) (to_new_vertex author greatest ctor v place ∷ below) (none_inserted es)
            (λ _. (2, omega arith, refl), all_put_below (NamesNew lists author) author greatest (new_vertex author greatest ctor) to.below 3 es (λ k e from to held _. (k, omega arith, refl)));
        fills = λ _. record {
          place = place;
          named = refl;
          vertex = v;
          only = to.has.only;
          new = edge_with author greatest 2 v place.position (new_vertex author greatest ctor);
          puts = puts_wrap g lists of author place ctor v to.below (stands place to.has);
          makes = made_as ctor;
          moves = λ moves. absurd cc;
        };
      })

  become_plan : (place : Place) (ctor : Ctor) → NoFault lists opening author (Become place ctor) → GoodPlanOf (Become place ctor)
  become_plan place ctor none =
      let to = to_become lists opening author place ctor none in
      let v = to.has.vertex in
      let cs = carried ctor to.edge lists.live in
      let counted : name_count lists (Become place ctor) ≡ 2 + length cs =
      ap (λ o. of_vertex o 2 (λ w. 2 + length (carried_by_first ctor (edges_at lists w place) lists.live))) (vertex_named_is lists place.name v to.has.only)
      ∙ ap (λ es. 2 + length (carried_by_first ctor es lists.live)) to.sole in
      let fits = names_left lists author (Become place ctor) (2 + length cs) counted (omega arith) none.names in
      subst (IsGoodPlan g lists opening author (Become place ctor))
      (sym (edits_here lists author (Become place ctor) place v to.has.only ∙ ap (λ es. become_edits author greatest ctor v place es lists.live) to.sole))
      (record {
        good = λ p. good_become g lists of p.well p.ranged author p.positive p.small place ctor to.has to.edge to.sort p.literals to.sole fits;
        new = (
          λ is. absurd cc,
          (
            λ _. (2, omega arith, refl),
            all_carry_over (NamesNew lists author) author greatest (new_vertex author greatest ctor) 3 cs (λ f held is. absurd cc) (λ k f from to held _. (k, omega arith, refl)),
          ),
        );
        fills = λ _. record {
          place = place;
          named = refl;
          vertex = v;
          only = to.has.only;
          new = edge_with author greatest 2 v place.position (new_vertex author greatest ctor);
          puts = puts_become g lists of author place ctor v to.edge (stands place to.has) to.sole;
          makes = made_as ctor;
          moves = λ moves. absurd cc;
        };
      })

  delete_plan : (place : Place) → NoFault lists opening author (Delete place) → GoodPlanOf (Delete place)
  delete_plan place none =
      let has = to_delete lists opening author place none in
      let v = has.vertex in
      subst (IsGoodPlan g lists opening author (Delete place)) (sym (edits_here lists author (Delete place) place v has.only))
      (record {
        good = λ p. good_at_place g lists of p.well p.ranged author p.positive p.small v place;
        new = none_inserted (edges_at lists v place);
        fills = λ fills. absurd cc;
      })

  cut_plan : (edge : Name) → GoodPlanOf (Cut edge)
  cut_plan edge = record {
    good = λ p. good_cut g lists of p.well p.ranged author p.positive p.small opening p.opened edge;
    new = none_inserted (edges_cut lists opening edge);
    fills = λ fills. absurd cc;
  }

  relocate_plan : (edge : Name) (place : Place) → NoFault lists opening author (Relocate edge place) → GoodPlanOf (Relocate edge place)
  relocate_plan edge place none =
      let to = to_relocate lists opening author edge place none in
      let v = to.has.vertex in
      let fits = names_left lists author (Relocate edge place) 1 refl (omega arith) none.names in
      subst (IsGoodPlan g lists opening author (Relocate edge place))
      (sym (edits_here lists author (Relocate edge place) place v to.has.only ∙ ap (relocate_edits author greatest v place) to.sole))
      (record {
        good = λ p. good_relocate g lists of p.well p.ranged author p.positive p.small place edge to.has to.moved to.sort to.sole fits;
        new = (λ is. absurd cc, (λ _. (1, omega arith, refl), tt));
        fills = λ _. record {
          place = place;
          named = refl;
          vertex = v;
          only = to.has.only;
          new = edge_with author greatest 1 v place.position to.moved.target;
          puts = puts_relocate g lists of author place edge v to.moved to.sole to.free;
          makes = λ ctor makes. absurd cc;
          moves = λ _. record { name = refl; meant = ap only_target to.sole; source = refl; each = (refl, (refl, tt)); apart = to.apart };
        };
      })

  restore_plan : (vertex : Name) (place : Place) → NoFault lists opening author (Restore vertex place) → GoodPlanOf (Restore vertex place)
  restore_plan vertex place none =
      let to = to_restore lists opening author vertex place none in
      let v = to.has.vertex in
      let named = vertex_named_is lists vertex to.moved to.only in
      let fits = names_left lists author (Restore vertex place) 1 refl (omega arith) none.names in
      subst (IsGoodPlan g lists opening author (Restore vertex place))
      (sym (edits_here lists author (Restore vertex place) place v to.has.only ∙ ap (λ o. of_vertex o [] (λ m. insertion (new_name author greatest 1) v place.position m ∷ [])) named))
      (record {
        good = λ p. good_restore g lists of p.well p.ranged author p.positive p.small place to.has to.moved (only_stands lists vertex to.moved to.only).0 to.sort fits;
        new = (λ _. (1, omega arith, refl), tt);
        fills = λ _. record {
          place = place;
          named = refl;
          vertex = v;
          only = to.has.only;
          new = edge_with author greatest 1 v place.position to.moved;
          puts = puts_restore g lists of author place to.moved v to.free;
          makes = λ ctor makes. absurd cc;
          moves = λ _. record { name = refl; meant = named; source = refl; each = (refl, tt); apart = to.apart };
        };
      })

  pub good_plan : (action : Action) → NoFault lists opening author action → GoodPlanOf action
  good_plan (Construct place ctor) none = construct_plan place ctor none
  good_plan (Wrap place ctor) none = wrap_plan place ctor none
  good_plan (Become place ctor) none = become_plan place ctor none
  good_plan (Delete place) none = delete_plan place none
  good_plan (Cut edge) none = cut_plan edge
  good_plan (Relocate edge place) none = relocate_plan edge place none
  good_plan (Restore vertex place) none = restore_plan vertex place none
