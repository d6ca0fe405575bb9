-- Where one actor at most asks of a replica, a block has one legal journal there.
use Rattle.std.proofs.Common.{◌≡◌, ◌≢◌, ℕ, ◌≤◌, Bool, true, false, cond, List, [], ◌∷◌, map, refl, sym, ap, ◌∙◌}
use Rattle.std.proofs.Common.{eq-eqb}
use Rattle.std.specs.List.{AllByRecursion}
use Rattle.std.proofs.lemmas.Bool.{false≢true}
use Rattle.grove_edits.specs.declared.edit.Edit.{Edit}
use Rattle.grove_edits.specs.Graph.{graph}
use Rattle.grove_edits.specs.declared.actor.Actor.{Actor}
use Rattle.grove_edits.specs.declared.actor.Actor.TheVariants.{Host, Author, Send}
use Rattle.grove_edits.specs.declared.answer.Answer.{Answer}
use Rattle.grove_edits.specs.declared.command.Command.{Command}
use Rattle.grove_edits.specs.declared.command.Command.TheVariants.{Act}
use Rattle.grove_edits.specs.declared.action.Action.{Action}
use Rattle.shared_replica.specs.declared.journal.Entry.{Entry}
use Rattle.shared_replica.specs.Passes.{call_of, same_actor, calls_by, AreBy}
use Rattle.session_run.specs.Calls.{Stage, ActsHere, MayCall, AreCalls, actions_of, sends_of, commands_by}
use Rattle.session_run.proofs.SameCommands.{same_commands}
use Rattle.session_report.specs.Journal.{Entries, IsLegal, asked}
use Rattle.session_report.specs.Alone.{Asks, HasOneActor}
use Rattle.session_report.proofs.OneJournal.{one_journal}

same_actor-refl : (a : Actor) → same_actor a a ≡ true
same_actor-refl Host = refl
same_actor-refl (Author author) = eq-eqb author author refl
same_actor-refl (Send number) = eq-eqb number number refl

asks_unless : (stage : Stage) (actor : Actor) → MayCall stage actor → ((author : ℕ) → actor ≡ Author author → ActsHere stage author → actions_of author stage.lines ≢ []) → Asks stage actor
asks_unless stage Host may some = may
asks_unless stage (Author author) may some = (may, some author refl may)
asks_unless stage (Send number) may some = may

module _ {M : Type 0} where
  -- an actor without commands has no entry
  no_entries : (actor : Actor) (entries : Entries M) → commands_by actor entries ≡ [] → AllByRecursion (λ entry. entry.actor ≢ actor) entries
  no_entries actor [] none = tt
  no_entries actor (e ∷ es) none = by_test (same_actor e.actor actor) refl none (no_entries actor es) where
    by_test : (b : Bool) → same_actor e.actor actor ≡ b → map (λ call. call.command) (cond b (call_of e ∷ calls_by actor es) (calls_by actor es)) ≡ []
        → (commands_by actor es ≡ [] → AllByRecursion (λ entry. entry.actor ≢ actor) es) → AllByRecursion (λ entry. entry.actor ≢ actor) (e ∷ es)
    by_test true test is rest = absurd cc
    by_test false test is rest = ((λ same. false≢true (sym test ∙ ap (λ (a : Actor). same_actor a actor) same ∙ same_actor-refl actor)), rest is)

  -- all who have an entry ask
  asking : (stage : Stage) (entries : Entries M) → ((author : ℕ) → ActsHere stage author → actions_of author stage.lines ≡ [] → AllByRecursion (λ entry. entry.actor ≢ Author author) entries)
      → AllByRecursion (λ entry. MayCall stage entry.actor) entries → AllByRecursion (λ entry. Asks stage entry.actor) entries
  asking stage [] none may = tt
  asking stage (e ∷ es) none may = (
    asks_unless stage e.actor may.0 (λ author same acts empty. (none author acts empty).0 same),
    asking stage es (λ author acts empty. (none author acts empty).1) may.1,
  )

  all_ask : (stage : Stage) (journal : Entries M) → AreCalls stage journal → AllByRecursion (λ entry. Asks stage entry.actor) journal
  all_ask stage journal are =
      asking stage journal (λ author acts empty. no_entries (Author author) journal (are.authors author acts ∙ ap (λ (actions : List Action). map Act actions) empty)) are.no_other

  all_by : (stage : Stage) (actor : Actor) (entries : Entries M) → HasOneActor stage → Asks stage actor → AllByRecursion (λ entry. Asks stage entry.actor) entries → AreBy actor entries
  all_by stage actor [] one asks all = tt
  all_by stage actor (e ∷ es) one asks all = (one e.actor actor all.0 asks, all_by stage actor es one asks all.1)

  -- the entries of one actor follow from the actor's commands
  asked_by : (actor : Actor) (entries : Entries M) → AreBy actor entries → map asked entries ≡ map (λ command. (actor, command)) (commands_by actor entries)
  asked_by actor [] are = refl
  asked_by actor (e ∷ es) are =
      let test : true ≡ same_actor e.actor actor = sym (ap (λ (a : Actor). same_actor a actor) are.0 ∙ same_actor-refl actor) in
      ap (λ (a : Actor). (a, e.command) ∷ map asked es) are.0
      ∙ ap (λ (cs : List (Actor × Command)). (actor, e.command) ∷ cs) (asked_by actor es are.1)
      ∙ ap (λ (b : Bool). map (λ command. (actor, command)) (map (λ call. call.command) (cond b (call_of e ∷ calls_by actor es) (calls_by actor es)))) test

  module _ (stage : Stage) (one : HasOneActor stage) (cuts : AllByRecursion (λ send. 1 ≤ send.cut) (sends_of stage.lines)) where
    from_first : (first : Entry M Command (List Edit) Answer) (journal other : Entries M) → AreCalls stage (first ∷ journal) → AreCalls stage other → map asked (first ∷ journal) ≡ map asked other
    from_first first journal other are also =
        let mine = all_ask stage (first ∷ journal) are in
        asked_by first.actor (first ∷ journal) (all_by stage first.actor (first ∷ journal) one mine.0 mine)
        ∙ ap (λ (cs : List Command). map (λ command. (first.actor, command)) cs) (same_commands stage (first ∷ journal) other first.actor cuts are also are.no_other.0)
        ∙ sym (asked_by first.actor other (all_by stage first.actor other one mine.0 (all_ask stage other also)))

    one_asked : (journal other : Entries M) → AreCalls stage journal → AreCalls stage other → map asked journal ≡ map asked other
    one_asked [] [] are also = refl
    one_asked [] (f ∷ fs) are also = sym (from_first f fs [] also are)
    one_asked (e ∷ es) other are also = from_first e es other are also

    pub one_legal_journal : (opening : List Edit) (journal other : Entries M) → IsLegal stage opening journal → IsLegal stage opening other → journal ≡ other
    one_legal_journal opening journal other is also = one_journal (graph opening) opening journal other is.planned also.planned (one_asked journal other is.calls also.calls)
