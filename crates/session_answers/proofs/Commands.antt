-- What the entries of a block ask of a replica can be planned: each is an author's action, with numbers in their ranges, or a piece.
use Rattle.std.proofs.Common.{◌≡◌, ℕ, ◌+◌, ◌<◌, ◌^◌, Bool, true, false, ◌==◌, cond, List, [], ◌∷◌, map, refl, sym, subst, lit<}
use Rattle.std.specs.List.{AllByRecursion, Contains}
use Rattle.std.proofs.lemmas.Bool.{eq-eqb}
use Rattle.std.proofs.lemmas.List.Elements.{All-from_recursion}
use Rattle.grove_sorts.specs.declared.ctor.Ctor.{Ctor}
use Rattle.grove_sorts.specs.declared.ctor.Ctor.TheVariants.{Num}
use Rattle.grove_sorts.specs.Ctor.{InRange}
use Rattle.grove_edits.specs.declared.edit.Edit.{Edit}
use Rattle.grove_edits.specs.declared.action.Action.{Action}
use Rattle.grove_edits.specs.declared.action.Action.TheVariants.{Construct, Wrap, Become}
use Rattle.grove_edits.specs.declared.actor.Actor.{Actor}
use Rattle.grove_edits.specs.declared.actor.Actor.TheVariants.{Host, Author, Send}
use Rattle.grove_edits.specs.declared.command.Command.{Command}
use Rattle.grove_edits.specs.declared.command.Command.TheVariants.{Act, Take}
use Rattle.grove_edits.specs.Vertex.{literal}
use Rattle.user_actions.specs.Good.{HasLiteralInRange}
use Rattle.shared_replica.specs.Passes.{call_of, same_actor, calls_by}
use Rattle.session_script.specs.declared.author.Declared.{Declared}
use Rattle.session_script.specs.declared.line.Line.{Line}
use Rattle.session_script.specs.declared.line.Line.TheVariants as line
use Rattle.session_script.specs.declared.session.Session.{Session}
use Rattle.session_script.specs.Action.{IsAuthor, ActionInRange}
use Rattle.session_script.specs.Session.{IsSession, IsDeclared, IsLine}
use Rattle.session_run.specs.Calls.{Stage, AreCalls, MayCall, commands_by, actions_of, takes}
use Rattle.session_report.specs.Journal.{Entries}

-- an author's action, or a piece
abbrev pub CanBePlanned : Actor → Command → Type 0
CanBePlanned (Author author) (Act action) = IsAuthor author × HasLiteralInRange action
CanBePlanned (Send number) (Take piece bytes edits) = Unit {0}
CanBePlanned actor command = ⊥

literal_below : (ctor : Ctor) → InRange ctor → literal ctor < 2 ^ 64
literal_below (Num n) within = within
literal_below ctor within = lit< tt

literal_in_range : (action : Action) → ActionInRange action → HasLiteralInRange action
literal_in_range (Construct place ctor) within = literal_below ctor within.1
literal_in_range (Wrap place ctor) within = literal_below ctor within.1
literal_in_range (Become place ctor) within = literal_below ctor within.1
literal_in_range _ within = tt

-- what holds of all items holds of one that the list contains
pub of_contained : {A : Type 0} (P : A → Type 0) (xs : List A) (x : A) → AllByRecursion P xs → Contains xs x → P x
of_contained P xs x all has = subst P has.2 (All-from_recursion P xs all has.0 x has.1)

actions_can : (session : Session) (author : ℕ) (lines : List Line) → IsAuthor author → AllByRecursion (IsLine session) lines
    → AllByRecursion (CanBePlanned (Author author)) (map Act (actions_of author lines))
actions_can session author [] is all = tt
actions_can session author (line.Author n action ∷ lines) is all =
    by_test (n == author) (is, literal_in_range action all.0.1) (actions_can session author lines is all.1) where
      by_test : (b : Bool) → CanBePlanned (Author author) (Act action) → AllByRecursion (CanBePlanned (Author author)) (map Act (actions_of author lines))
          → AllByRecursion (CanBePlanned (Author author)) (map Act (cond b (action ∷ actions_of author lines) (actions_of author lines)))
      by_test true this rest = (this, rest)
      by_test false this rest = rest
actions_can session author (line.Send send ∷ lines) is all = actions_can session author lines is all.1

pieces_can : (number piece : ℕ) (pieces : List (List ℕ)) (edits : List (List Edit)) → AllByRecursion (CanBePlanned (Send number)) (takes piece pieces edits)
pieces_can number piece [] edits = tt
pieces_can number piece (bytes ∷ pieces) [] = tt
pieces_can number piece (bytes ∷ pieces) (es ∷ edits) = (tt, pieces_can number (piece + 1) pieces edits)

same_itself : (actor : Actor) → same_actor actor actor ≡ true
same_itself Host = refl
same_itself (Author author) = eq-eqb author author refl
same_itself (Send number) = eq-eqb number number refl

module _ {M : Type 0} where
  -- what holds of the commands of each actor holds of those of all entries
  of_entries : (P : Actor → Command → Type 0) (stage : Stage) (journal : Entries M) → AllByRecursion (λ entry. MayCall stage entry.actor) journal
      → ((actor : Actor) → MayCall stage actor → AllByRecursion (P actor) (commands_by actor journal)) → AllByRecursion (λ entry. P entry.actor entry.command) journal
  of_entries P stage [] may each = tt
  of_entries P stage (entry ∷ entries) may each = (
    here (same_actor entry.actor entry.actor) (same_itself entry.actor) (each entry.actor may.0),
    of_entries P stage entries may.1 (λ actor calls. rest actor (same_actor entry.actor actor) (each actor calls)),
  ) where
    here : (b : Bool) → b ≡ true → AllByRecursion (P entry.actor) (map (λ call. call.command) (cond b (call_of entry ∷ calls_by entry.actor entries) (calls_by entry.actor entries))) → P entry.actor entry.command
    here true is all = all.0
    here false is all = absurd cc

    rest : (actor : Actor) (b : Bool) → AllByRecursion (P actor) (map (λ call. call.command) (cond b (call_of entry ∷ calls_by actor entries) (calls_by actor entries))) → AllByRecursion (P actor) (commands_by actor entries)
    rest actor true all = all.1
    rest actor false all = all

  pub entries_can : (session : Session) (stage : Stage) (journal : Entries M) → IsSession session → stage.authors ≡ session.authors → AllByRecursion (IsLine session) stage.lines → AreCalls stage journal
      → AllByRecursion (λ entry. CanBePlanned entry.actor entry.command) journal
  entries_can session stage journal is authors lines calls = of_entries CanBePlanned stage journal calls.no_other each where
    each : (actor : Actor) → MayCall stage actor → AllByRecursion (CanBePlanned actor) (commands_by actor journal)
    each Host may = absurd may
    each (Author author) may =
        let declared : Contains session.authors (record { author = author; replica = stage.replica }) = subst (λ (all : List Declared). Contains all (record { author = author; replica = stage.replica })) authors may in
        let numbered = of_contained (IsDeclared session) session.authors (record { author = author; replica = stage.replica }) is.authors declared in
        subst (AllByRecursion (CanBePlanned (Author author))) (sym (calls.authors author may)) (actions_can session author stage.lines numbered.0 lines)
    each (Send number) may =
        let sent = calls.sends number may.0 may.1 in
        subst (AllByRecursion (CanBePlanned (Send number))) (sym sent.are_takes) (pieces_can number 1 sent.pieces _)
