-- What a worker did, by how it came to its end.
use Rattle.std.proofs.Common.{◌≡◌, List, [], ◌∷◌, ◌++◌, map, Bor, Result, Ok, Err, refl, sym, ap, ap₂, subst, ◌∙◌, append-nil}
use Rattle.std.specs.List.{flat_map}
use Rattle.std.specs.Result.{IsErr}
use Rattle.std.proofs.lemmas.List.{map-append}
use Rattle.grove_edits.specs.declared.action.Action.{Action}
use Rattle.grove_edits.specs.declared.actor.Actor.TheVariants as actor
use Rattle.grove_edits.specs.declared.command.Command.{Command}
use Rattle.grove_edits.specs.declared.command.Command.TheVariants.{Act}
use Rattle.shared_replica.specs.Passes.{Call, Passing, all_calls}
use Rattle.author_desk.specs.declared.cuts.Cuts.{Cuts}
use Rattle.author_desk.specs.Cuts.{opening_edits, Raises, KeepsSeat}
use Rattle.author_desk.specs.Lines.{slots_cut}
use Rattle.author_desk.specs.Together.{StandInOrder}
use Rattle.author_desk.specs.Turns.{turns_of, commands_of, EntersLines, EntersFirstLines}
use Rattle.author_desk.proofs.FirstTurn.{all_lines}
use Rattle.author_desk.proofs.Raising.{raises_none, keeps_seat}
use Rattle.author_desk.proofs.Standing.{stand}
use Rattle.session_run.specs.declared.author_lines.AuthorLines.{AuthorLines}
use Rattle.session_run.specs.declared.worker.Worker.{Worker}
use Rattle.session_run.specs.declared.worker.Worker.TheVariants as worker
use Rattle.session_run.specs.Passes.{HasWorked}
use Rattle.session_run.proofs.Made.{makes_in_turns}

-- the cuts as they were
pub seat_kept : (cuts : Cuts) → KeepsSeat cuts cuts
seat_kept cuts = keeps_seat cuts cuts [] (raises_none cuts)

module _ {R : Type 0} where
  -- the commands of turns are those of their lines
  pub commands_of_turns : (turns : List (List (Call Command R))) (lines : List (List Action)) → map commands_of turns ≡ map (map Act) lines → commands_of (all_calls turns) ≡ map Act (flat_map (λ turn. turn) lines)
  commands_of_turns [] [] is = refl
  commands_of_turns [] (l ∷ ls) is = absurd cc
  commands_of_turns (t ∷ ts) [] is = absurd cc
  commands_of_turns (t ∷ ts) (l ∷ ls) is =
      let first : commands_of t ≡ map Act l = cc in
      let rest : map commands_of ts ≡ map (map Act) ls = cc in
      map-append (λ (call : Call Command R). call.command) t (all_calls ts) ∙ (ap₂ (λ (xs ys : List Command). xs ++ ys) first (commands_of_turns ts ls rest) ∙ sym (map-append Act l (flat_map (λ turn. turn) ls)))

module _ {M E R X : Type 0} (w : Worker) (before after : Passing M Command E R) (cuts cuts' : Cuts) where
  pub author_worked : (lines : Bor AuthorLines) (x : Unit {0}) (all : List Action) → w ≡ worker.Author lines → before.actor ≡ actor.Author lines.now.declared.author → all ≡ lines.now.actions.items
      → EntersLines before after (opening_edits cuts) all → Raises cuts cuts' (slots_cut (opening_edits cuts) all) → HasWorked {X = X} w before after cuts cuts' (Ok x)
  author_worked lines x slice is by same enters raises =
      let opening = opening_edits cuts in
      let all = lines.now.actions.items in
      let entered = subst (EntersLines before after opening) same enters in
      let raised = subst (λ ls. Raises cuts cuts' (slots_cut opening ls)) same raises in
      subst (λ who. HasWorked {X = X} who before after cuts cuts' (Ok x)) (sym is) record {
        calls = all_calls entered.0;
        makes = makes_in_turns before after entered.0 entered.2;
        keeps_seat = keeps_seat cuts cuts' (slots_cut opening all) raised;
        commands = commands_of_turns entered.0 (turns_of opening all) entered.1 ∙ ap (map Act) (all_lines opening all);
        raised = raised;
        stands = (entered.0, entered.1, subst (λ a. StandInOrder a after.seen entered.0) by (stand before after entered.0 after.seen entered.2 ([], append-nil after.seen)));
      }

  pub author_stopped : (lines : List Action) (done : Result (Unit {0}) X) → IsErr done → EntersFirstLines before after lines → KeepsSeat cuts cuts' → HasWorked w before after cuts cuts' done
  author_stopped lines (Ok x) is entered keeps = absurd cc
  author_stopped lines (Err e) is entered keeps =
      record { calls = all_calls entered.0; makes = makes_in_turns before after entered.0 entered.2; keeps_seat = keeps; commands = tt; raised = tt; stands = tt }
