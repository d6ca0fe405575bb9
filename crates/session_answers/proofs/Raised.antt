-- What cuts raised is deleted behind the block, so a board that is closed holds no more than the graph has.
use Rattle.std.proofs.Common.{◌≡◌, ◌⊎◌, inl, inr, ℕ, zero, suc, ◌+◌, ◌<◌, ◌==◌, Bool, true, false, cond, List, [], ◌∷◌, ◌++◌, map, slice_get, slice_set, Option, Some, None, refl, sym, ap, subst, ◌∙◌, arith}
use Rattle.std.specs.Prelude.{if◌then◌else◌}
use Rattle.std.specs.List.{AllByRecursion, Contains, filter, flat_map}
use Rattle.std.proofs.lemmas.Bool.{eqb-true, lt-ltb}
use Rattle.std.specs.Option.{option_map}
use Rattle.std.proofs.lemmas.Option.{same_Some, slice_get_within, get_or_from_slice_get, slice_get-map}
use Rattle.edge_lattice.specs.declared.state.State.{State}
use Rattle.edge_lattice.specs.declared.state.State.TheVariants.{Absent, Live, Deleted}
use Rattle.edge_lattice.specs.State.{state_join, IsAtMost}
use Rattle.edge_lattice.proofs.States.{state_join_comm}
use Rattle.edge_board.specs.States.{state_at, raised, AreAtMost}
use Rattle.edge_board.proofs.States.{most-set}
use Rattle.grove_names.specs.declared.name.Name.{Name}
use Rattle.grove_edits.specs.declared.action.Action.{Action}
use Rattle.grove_edits.specs.declared.action.Action.TheVariants.{Cut}
use Rattle.grove_edits.specs.declared.actor.Actor.{Actor}
use Rattle.grove_edits.specs.declared.actor.Actor.TheVariants.{Host, Author, Send}
use Rattle.grove_edits.specs.declared.answer.Answer.TheVariants.{Done}
use Rattle.grove_edits.specs.declared.command.Command.{Command}
use Rattle.grove_edits.specs.declared.command.Command.TheVariants.{Act}
use Rattle.grove_edits.specs.declared.edge.Edge.{Edge}
use Rattle.grove_edits.specs.declared.edit.Edit.{Edit}
use Rattle.grove_edits.specs.declared.edit.EditKind.TheVariants.{Delete}
use Rattle.grove_edits.specs.Edit.{edit_edge, edit_kind}
use Rattle.grove_edits.specs.Graph.{Graph, graph, state_of, is_same_edge}
use Rattle.grove_edits.proofs.Orders.{same_edge_laws}
use Rattle.user_actions.specs.Checks.{none_named, else_edges}
use Rattle.user_actions.specs.Faults.{first_some, names_spent}
use Rattle.user_actions.specs.Lists.{GraphLists}
use Rattle.user_actions.specs.Names.{is_same_name, edges_named}
use Rattle.user_actions.specs.Plan.{plan, unless_refused}
use Rattle.user_actions.specs.PlainEdits.{deletions}
use Rattle.shared_replica.specs.Passes.{call_of, same_actor, calls_by}
use Rattle.shared_replica.specs.Replays.{machine_after}
use Rattle.author_desk.specs.Lines.{has_name, slots_from, slots_named, slots_cut}
use Rattle.session_script.specs.declared.author.Declared.{Declared}
use Rattle.session_script.specs.declared.item.Block.{Block}
use Rattle.session_script.specs.declared.session.Session.{Session}
use Rattle.session_script.specs.Session.{IsSession, IsDeclared}
use Rattle.session_run.specs.Boards.{slots_by, slots_at}
use Rattle.session_run.specs.Calls.{actions_of, commands_by}
use Rattle.replica_core.specs.Content.{Content}
use Rattle.replica_core.specs.Lists.{lists_of}
use Rattle.replica_core.specs.Plain.{and_some, as_edits, edit_of}
use Rattle.replica_core.specs.Step.{effect, after, plan_of, nothing_planned}
use Rattle.replica_core.proofs.AsEdits.{some_edit}
use Rattle.replica_core.proofs.WithEdits.{graph-with_edits}
use Rattle.session_report.specs.Journal.{Entries}
use Rattle.session_answers.specs.Boards.{states_of, states_had, AreHeld}
use Rattle.session_answers.specs.Running.{stage_of, sources_of, HaveRun}
use Rattle.session_answers.proofs.Commands.{of_contained}
use Rattle.session_answers.proofs.Lists.{some_at}

-- ---- lists

-- the item stands in the list
abbrev In : {X : Type 0} → X → List X → Type 0
In x [] = ⊥
In x (y ∷ ys) = (x ≡ y) ⊎ In x ys

module _ {X : Type 0} where
  weaker : (P Q : X → Type 0) (xs : List X) → ((x : X) → P x → Q x) → AllByRecursion P xs → AllByRecursion Q xs
  weaker P Q [] f all = tt
  weaker P Q (x ∷ xs) f all = (f x all.0, weaker P Q xs f all.1)

  each_in : (xs : List X) → AllByRecursion (λ x. In x xs) xs
  each_in [] = tt
  each_in (x ∷ xs) = (inl refl, weaker (λ y. In y xs) (λ y. In y (x ∷ xs)) xs (λ y has. inr has) (each_in xs))

  in_from_Contains : (xs : List X) (x : X) → Contains xs x → In x xs
  in_from_Contains xs x has = of_contained (λ y. In y xs) xs x (each_in xs) has

  Contains-from_in : (xs : List X) (x : X) → In x xs → Contains xs x
  Contains-from_in [] x has = absurd has
  Contains-from_in (y ∷ ys) x (inl is) = (0, omega arith, sym is)
  Contains-from_in (y ∷ ys) x (inr has) = let there = Contains-from_in ys x has in (suc there.0, (let within = there.1 in omega arith), there.2)

  in_at : (xs : List X) (k : ℕ) (x : X) → slice_get xs k ≡ Some x → In x xs
  in_at [] k x is = absurd cc
  in_at (y ∷ ys) zero x is = inl (sym (same_Some y x is))
  in_at (y ∷ ys) (suc k) x is = inr (in_at ys k x is)

  in_append : (xs ys : List X) (x : X) → In x (xs ++ ys) → In x xs ⊎ In x ys
  in_append [] ys x has = inr has
  in_append (z ∷ xs) ys x (inl is) = inl (inl is)
  in_append (z ∷ xs) ys x (inr has) = further (in_append xs ys x has) where
    further : In x xs ⊎ In x ys → In x (z ∷ xs) ⊎ In x ys
    further (inl front) = inl (inr front)
    further (inr back) = inr back

  in_filter : (p : X → Bool) (xs : List X) (x : X) → In x xs → p x ≡ true → In x (filter p xs)
  in_filter p [] x has is = absurd has
  in_filter p (y ∷ ys) x (inl same) is = subst (λ b. In x (cond b (y ∷ filter p ys) (filter p ys))) (sym (ap p (sym same) ∙ is)) (inl same)
  in_filter p (y ∷ ys) x (inr has) is = by_test (p y) (in_filter p ys x has is) where
    by_test : (b : Bool) → In x (filter p ys) → In x (cond b (y ∷ filter p ys) (filter p ys))
    by_test true rest = inr rest
    by_test false rest = rest

in_map : {X Y : Type 0} (f : X → Y) (xs : List X) (x : X) → In x xs → In (f x) (map f xs)
in_map f [] x has = absurd has
in_map f (y ∷ ys) x (inl is) = inl (ap f is)
in_map f (y ∷ ys) x (inr has) = inr (in_map f ys x has)

in_flat : {X Y : Type 0} (f : X → List Y) (xs : List X) (y : Y) → In y (flat_map f xs) → (x : X) × In x xs × In y (f x)
in_flat f [] y has = absurd has
in_flat {X = X} {Y = Y} f (x ∷ xs) y has = by_cases (in_append (f x) (flat_map f xs) y has) (in_flat f xs y) where
  by_cases : In y (f x) ⊎ In y (flat_map f xs) → (In y (flat_map f xs) → (z : X) × In z xs × In y (f z)) → (z : X) × In z (x ∷ xs) × In y (f z)
  by_cases (inl here) rest = (x, inl refl, here)
  by_cases (inr there) rest = let r = rest there in (r.0, inr r.1, r.2)

-- ---- states

at_most_join : (a b : State) → IsAtMost a (state_join a b)
at_most_join Absent b = omega arith
at_most_join Live Absent = omega arith
at_most_join Live Live = omega arith
at_most_join Live Deleted = omega arith
at_most_join Deleted Absent = omega arith
at_most_join Deleted Live = omega arith
at_most_join Deleted Deleted = omega arith

at_most_then : (a b c : State) → IsAtMost a b → IsAtMost b c → IsAtMost a c
at_most_then a b c first second = omega (arith, first, second)

at_most_other : (a b : State) → IsAtMost b (state_join a b)
at_most_other a b = subst (IsAtMost b) (state_join_comm b a) (at_most_join b a)

is_deleted : (s : State) → IsAtMost Deleted s → s ≡ Deleted
is_deleted Absent most = absurd (omega arith)
is_deleted Live most = absurd (omega arith)
is_deleted Deleted most = refl

-- ---- which slots are raised

-- a slot of a name is that of an edit whose edge has the name
abbrev IsSlotOf : ℕ → Name → List Edit → ℕ → Type 0
IsSlotOf start name edits slot = (k : ℕ) × (edit : Edit) × (slot ≡ start + k) × (slice_get edits k ≡ Some edit) × (has_name name edit ≡ true)

slot_further : (start : ℕ) (name : Name) (edit : Edit) (edits : List Edit) (slot : ℕ) → IsSlotOf (start + 1) name edits slot → IsSlotOf start name (edit ∷ edits) slot
slot_further start name edit edits slot s = (suc s.0, s.1, (let there = s.2 in omega arith), s.3, s.4)

slot_named : (start : ℕ) (name : Name) (edits : List Edit) (slot : ℕ) → In slot (slots_from start name edits) → IsSlotOf start name edits slot
slot_named start name [] slot has = absurd has
slot_named start name (edit ∷ edits) slot has = by_test (has_name name edit) refl has (slot_named (start + 1) name edits slot) where
  by_test : (b : Bool) → has_name name edit ≡ b → In slot (if b then start ∷ slots_from (start + 1) name edits else slots_from (start + 1) name edits)
      → (In slot (slots_from (start + 1) name edits) → IsSlotOf (start + 1) name edits slot) → IsSlotOf start name (edit ∷ edits) slot
  by_test true is (inl same) rest = (0, edit, (let here = same in omega arith), refl, is)
  by_test true is (inr later) rest = slot_further start name edit edits slot (rest later)
  by_test false is later rest = slot_further start name edit edits slot (rest later)

cut_with : (opening : List Edit) (action : Action) (slot : ℕ) → In slot (slots_named opening action) → (name : Name) × (action ≡ Cut name) × In slot (slots_from 0 name opening)
cut_with opening (Cut name) slot has = (name, refl, has)
cut_with opening _ slot has = absurd has

acts_here : (declared : Declared) (replica slot : ℕ) (slots : List ℕ) → In slot (if declared.replica == replica then slots else []) → (declared ≡ record { author = declared.author; replica = replica }) × In slot slots
acts_here declared replica slot slots has = by_test (declared.replica == replica) refl has where
  by_test : (b : Bool) → (declared.replica == replica) ≡ b → In slot (if b then slots else []) → (declared ≡ record { author = declared.author; replica = replica }) × In slot slots
  by_test true is has = (ap {B = Declared} (λ (r : ℕ). record { author = declared.author; replica = r }) (eqb-true declared.replica replica is), has)
  by_test false is has = absurd has

-- ---- what a cut does

-- a deletion of each of the edges deletes this one
deletes : (edit : Edit) (edges : List Edge) → In (edit_edge edit) edges → IsAtMost Deleted (graph (as_edits (deletions edges)) (edit_edge edit))
deletes edit [] has = absurd has
deletes edit (x ∷ xs) (inl is) =
    let e = edit_edge edit in
    let rest = as_edits (deletions xs) in
    let found = some_edit Delete e edit.well_formed edit.in_range in
    let same : is_same_edge (edit_edge found.edit) e ≡ true = ap (λ f. is_same_edge f e) found.edge ∙ same_edge_laws.refl e in
    let own : (if is_same_edge (edit_edge found.edit) e then state_of (edit_kind found.edit) else Absent) ≡ Deleted =
    ap (λ b. if b then state_of (edit_kind found.edit) else Absent) same ∙ ap state_of found.kind_is in
    let first : IsAtMost Deleted (graph (found.edit ∷ rest) e) = subst (λ s. IsAtMost Deleted (state_join s (graph rest e))) (sym own) (at_most_join Deleted (graph rest e)) in
    subst (λ y. IsAtMost Deleted (graph (and_some (edit_of Delete y) rest) e)) is (subst (λ o. IsAtMost Deleted (graph (and_some o rest) e)) (sym found.is) first)
deletes edit (x ∷ xs) (inr has) = with_one (edit_of Delete x) (deletes edit xs has) where
  with_one : (o : Option Edit) → IsAtMost Deleted (graph (as_edits (deletions xs)) (edit_edge edit)) → IsAtMost Deleted (graph (and_some o (as_edits (deletions xs))) (edit_edge edit))
  with_one None rest = rest
  with_one (Some y) rest =
      at_most_then Deleted (graph (as_edits (deletions xs)) (edit_edge edit)) (graph (y ∷ as_edits (deletions xs)) (edit_edge edit)) rest
      (at_most_other (if is_same_edge (edit_edge y) (edit_edge edit) then state_of (edit_kind y) else Absent) (graph (as_edits (deletions xs)) (edit_edge edit)))

-- a cut of a name that opening edges have deletes these
cut_edits : (lists : GraphLists) (opening : List Edge) (author : ℕ) (name : Name) (e : Edge) → In e (edges_named name opening) → (plan lists opening author (Cut name)).edits ≡ deletions (edges_named name opening)
cut_edits lists opening author name e has = by_named (edges_named name opening) has where
  by_named : (es : List Edge) → In e es
      → (unless_refused (first_some (none_named name (else_edges es (edges_named name lists.present)) ∷ None ∷ None ∷ None ∷ names_spent lists author (Cut name) ∷ []))
      (record { edits = deletions (else_edges es (edges_named name lists.present)); answer = Done })).edits ≡ deletions es
  by_named [] has = absurd has
  by_named (x ∷ xs) has = refl

cut_taken : (content : Content) (author : ℕ) (name : Name) (edit : Edit) → 0 < author → In (edit_edge edit) content.opening → is_same_name (edit_edge edit).name name ≡ true
    → IsAtMost Deleted (graph (after content (Author author) (Act (Cut name))).edits (edit_edge edit))
cut_taken content author name edit some known named =
    let e = edit_edge edit in
    let edges = edges_named name content.opening in
    let has : In e edges = in_filter (λ f. is_same_name f.name name) content.opening e known named in
    let own = effect content (Author author) (Act (Cut name)) in
    let are : own ≡ as_edits (deletions edges) =
    ap (λ b. as_edits (if b then plan_of content author (Cut name) else nothing_planned).edits) (lt-ltb 0 author some) ∙ ap as_edits (cut_edits (lists_of content.edits) content.opening author name e has) in
    let gone : IsAtMost Deleted (graph own e) = subst (λ es. IsAtMost Deleted (graph es e)) (sym are) (deletes edit edges has) in
    subst (IsAtMost Deleted) (sym (graph-with_edits own content.edits e)) (at_most_then Deleted (graph own e) (state_join (graph content.edits e) (graph own e)) gone (at_most_other (graph content.edits e) (graph own e)))

-- ---- what a journal leaves

-- states only rise
stays : (content : Content) (entries : Entries Content) (e : Edge) (s : State) → IsAtMost s (graph content.edits e) → IsAtMost s (graph (machine_after after content entries).edits e)
stays content [] e s most = most
stays content (entry ∷ entries) e s most =
    let own = effect content entry.actor entry.command in
    stays (after content entry.actor entry.command) entries e s
    (subst (IsAtMost s) (sym (graph-with_edits own content.edits e)) (at_most_then s (graph content.edits e) (state_join (graph content.edits e) (graph own e)) most (at_most_join (graph content.edits e) (graph own e))))

is_author : (actor : Actor) (author : ℕ) → same_actor actor (Author author) ≡ true → actor ≡ Author author
is_author Host author is = absurd cc
is_author (Author other) author is = ap Author (eqb-true other author is)
is_author (Send number) author is = absurd cc

deleted_behind : (content : Content) (author : ℕ) (name : Name) (edit : Edit) → 0 < author → In (edit_edge edit) content.opening → is_same_name (edit_edge edit).name name ≡ true
    → (journal : Entries Content) → In (Act (Cut name)) (commands_by (Author author) journal) → IsAtMost Deleted (graph (machine_after after content journal).edits (edit_edge edit))
deleted_behind content author name edit some known named [] has = absurd has
deleted_behind content author name edit some known named (entry ∷ entries) has =
    by_test (same_actor entry.actor (Author author)) refl has (deleted_behind (after content entry.actor entry.command) author name edit some known named entries) where
      by_test : (b : Bool) → same_actor entry.actor (Author author) ≡ b → In (Act (Cut name)) (map (λ call. call.command) (cond b (call_of entry ∷ calls_by (Author author) entries) (calls_by (Author author) entries)))
          → (In (Act (Cut name)) (commands_by (Author author) entries) → IsAtMost Deleted (graph (machine_after after (after content entry.actor entry.command) entries).edits (edit_edge edit)))
          → IsAtMost Deleted (graph (machine_after after (after content entry.actor entry.command) entries).edits (edit_edge edit))
      by_test true is (inl here) rest =
          stays (after content entry.actor entry.command) entries (edit_edge edit) Deleted
          (subst (λ (a : Actor). IsAtMost Deleted (graph (after content a entry.command).edits (edit_edge edit))) (sym (is_author entry.actor author is))
          (subst (λ (c : Command). IsAtMost Deleted (graph (after content (Author author) c).edits (edit_edge edit))) here (cut_taken content author name edit some known named)))
      by_test true is (inr later) rest = rest later
      by_test false is later rest = rest later

-- ---- what boards hold

-- a list that was raised in some slots is at most another one that has Deleted there
raised_most : (xs ys : List State) (slots : List ℕ) → AreAtMost xs ys → ((slot : ℕ) → In slot slots → IsAtMost Deleted (state_at ys slot)) → AreAtMost (raised xs slots) ys
raised_most xs ys [] most each = most
raised_most xs ys (slot ∷ slots) most each = raised_most (slice_set xs slot Deleted) ys slots (most-set xs ys slot Deleted (each slot (inl refl)) most) (λ other has. each other (inr has))

opening_most : (g : Graph) (edits : List Edit) → ((edit : Edit) → In edit edits → IsAtMost (state_of (edit_kind edit)) (g (edit_edge edit))) → AreAtMost (states_of edits) (states_had g edits)
opening_most g [] each slot = omega arith
opening_most g (edit ∷ edits) each zero = each edit (inl refl)
opening_most g (edit ∷ edits) each (suc slot) = opening_most g edits (λ other has. each other (inr has)) slot

-- a graph has at least what each of its edits asks
asked_had : (edits : List Edit) (edit : Edit) → In edit edits → IsAtMost (state_of (edit_kind edit)) (graph edits (edit_edge edit))
asked_had [] edit has = absurd has
asked_had (x ∷ xs) edit (inl is) =
    let own : (if is_same_edge (edit_edge edit) (edit_edge edit) then state_of (edit_kind edit) else Absent) ≡ state_of (edit_kind edit) =
    ap (λ b. if b then state_of (edit_kind edit) else Absent) (same_edge_laws.refl (edit_edge edit)) in
    subst (λ y. IsAtMost (state_of (edit_kind edit)) (graph (y ∷ xs) (edit_edge edit))) is
    (subst (λ s. IsAtMost (state_of (edit_kind edit)) (state_join s (graph xs (edit_edge edit)))) (sym own) (at_most_join (state_of (edit_kind edit)) (graph xs (edit_edge edit))))
asked_had (x ∷ xs) edit (inr has) =
    at_most_then (state_of (edit_kind edit)) (graph xs (edit_edge edit)) (graph (x ∷ xs) (edit_edge edit)) (asked_had xs edit has)
    (at_most_other (if is_same_edge (edit_edge x) (edit_edge edit) then state_of (edit_kind x) else Absent) (graph xs (edit_edge edit)))

module _ (session : Session) (block : Block) (first_send : ℕ) (firsts : List Content) (journals : List (Entries Content)) (lasts : List Content) (is : IsSession session)
    (run : HaveRun session block first_send firsts journals lasts) (number : ℕ) (first last : Content) (is_first : slice_get firsts number ≡ Some first) (is_last : slice_get lasts number ≡ Some last)
    (opens : first.opening ≡ map edit_edge first.edits) where
  abbrev slots : List ℕ
  slots = slots_at (stage_of session block first_send (sources_of firsts) number) first.edits

  journal_found : (journal : Entries Content) × (slice_get journals number ≡ Some journal)
  journal_found =
      let within = slice_get_within firsts number first is_first in
      let many = run.as_many_journals in
      some_at journals number (omega (arith, within, many))

  -- a slot that was raised is that of an edge that is deleted
  slot_deleted : (slot : ℕ) → In slot slots → (edit : Edit) × (slice_get first.edits slot ≡ Some edit) × IsAtMost Deleted (graph last.edits (edit_edge edit))
  slot_deleted slot has =
      let journal = journal_found in
      let ran = run.each number first last journal.0 is_first is_last journal.1 in
      let who = in_flat (slots_by (stage_of session block first_send (sources_of firsts) number) first.edits) session.authors slot has in
      let author = who.0.author in
      let acts = acts_here who.0 number slot (slots_cut first.edits (actions_of author block.lines)) who.2 in
      let here : Contains session.authors (record { author = author; replica = number }) =
      Contains-from_in session.authors (record { author = author; replica = number }) (subst (λ (d : Declared). In d session.authors) acts.0 who.1) in
      let numbered = of_contained (IsDeclared session) session.authors (record { author = author; replica = number }) is.authors here in
      let line = in_flat (slots_named first.edits) (actions_of author block.lines) slot acts.1 in
      let cut = cut_with first.edits line.0 slot line.2 in
      let name = cut.0 in
      let found = slot_named 0 name first.edits slot cut.2 in
      let edit = found.1 in
      let place : found.0 ≡ slot = (let sum = found.2 in omega (arith, sum)) in
      let at : slice_get first.edits slot ≡ Some edit = ap (slice_get first.edits) (sym place) ∙ found.3 in
      let known : In (edit_edge edit) first.opening = subst (In (edit_edge edit)) (sym opens) (in_map edit_edge first.edits edit (in_at first.edits slot edit at)) in
      let called : In (Act (Cut name)) (commands_by (Author author) journal.0) =
      subst (In (Act (Cut name))) (sym (ran.calls.authors author here))
      (in_map Act (actions_of author block.lines) (Cut name) (subst (λ (a : Action). In a (actions_of author block.lines)) cut.1 line.1)) in (
        edit,
        at,
        subst (λ (c : Content). IsAtMost Deleted (graph c.edits (edit_edge edit))) (sym ran.replays.is) (deleted_behind first author name edit numbered.0.0 known found.4 journal.0 called),
      )

  -- each edge whose slot was raised is deleted
  pub raised_are_deleted : (slot : ℕ) (edit : Edit) → Contains slots slot → slice_get first.edits slot ≡ Some edit → graph last.edits (edit_edge edit) ≡ Deleted
  raised_are_deleted slot edit has at =
      let found = slot_deleted slot (in_from_Contains slots slot has) in
      let same : found.0 ≡ edit = same_Some found.0 edit (sym found.1 ∙ at) in
      is_deleted (graph last.edits (edit_edge edit)) (subst (λ (d : Edit). IsAtMost Deleted (graph last.edits (edit_edge d))) same found.2)

  had_at : (slot : ℕ) (edit : Edit) → slice_get first.edits slot ≡ Some edit → state_at (states_had (graph last.edits) first.edits) slot ≡ graph last.edits (edit_edge edit)
  had_at slot edit at =
      get_or_from_slice_get (states_had (graph last.edits) first.edits) slot (graph last.edits (edit_edge edit)) Absent
      (slice_get-map (λ (d : Edit). graph last.edits (edit_edge d)) first.edits slot ∙ ap (option_map (λ (d : Edit). graph last.edits (edit_edge d))) at)

  -- and a board holds no more than the graph has
  pub held_is_had : (held : List (Option (List State))) (states : List State) → AreHeld session block first_send (sources_of firsts) held → slice_get held number ≡ Some (Some states)
      → AreAtMost states (states_had (graph last.edits) first.edits)
  held_is_had held states are is_held =
      let journal = journal_found in
      let ran = run.each number first last journal.0 is_first is_last journal.1 in
      let ys = states_had (graph last.edits) first.edits in
      let source : slice_get (sources_of firsts) number ≡ Some first.edits = slice_get-map (λ (c : Content). c.edits) firsts number ∙ ap (option_map (λ (c : Content). c.edits)) is_first in
      let as_raised : states ≡ raised (states_of first.edits) slots = are.each number first.edits (Some states) source is_held in
      let opening : AreAtMost (states_of first.edits) ys =
      opening_most (graph last.edits) first.edits
      (λ edit has. subst (λ (c : Content). IsAtMost (state_of (edit_kind edit)) (graph c.edits (edit_edge edit))) (sym ran.replays.is)
      (stays first journal.0 (edit_edge edit) (state_of (edit_kind edit)) (asked_had first.edits edit has))) in
      subst (λ xs. AreAtMost xs ys) (sym as_raised)
      (raised_most (states_of first.edits) ys slots opening
      (λ slot has. let found = slot_deleted slot has in subst (IsAtMost Deleted) (sym (had_at slot found.0 found.1)) found.2))
