-- The commands of each actor in a block, which are the same in all its journals.
use Rattle.std.proofs.Common.{◌≡◌, ℕ, zero, suc, ◌≤◌, List, [], ◌∷◌, Some, slice_get, sym, ap, subst, ◌∙◌}
use Rattle.std.specs.List.{AllByRecursion}
use Rattle.grove_edits.specs.declared.edit.Edit.{Edit}
use Rattle.grove_edits.specs.declared.actor.Actor.{Actor}
use Rattle.grove_edits.specs.declared.actor.Actor.TheVariants.{Host, Author, Send}
use Rattle.grove_edits.specs.declared.command.Command.{Command}
use Rattle.shared_replica.specs.declared.journal.Entry.{Entry}
use Rattle.session_script.specs.declared.line.SendLine.{SendLine}
use Rattle.replica_exchange.specs.Send.{sent_edits, sent_bytes, ArePieces, edits_by_piece}
use Rattle.replica_exchange.proofs.Pieces.{one_pieces}
use Rattle.session_run.specs.Calls.{Stage, commands_by, sends_of, takes, AreTakes, MayCall, AreCalls}

list_injective : (a b : List Edit) → Some a ≡ Some b → a ≡ b
list_injective a b e = cc

-- a `send` line has one list of commands
pub one_takes : (sources : List (List Edit)) (send : SendLine) (a b : List Command) → 1 ≤ send.cut → AreTakes sources send a → AreTakes sources send b → a ≡ b
one_takes sources send a b some h k =
    let list : h.list ≡ k.list = list_injective h.list k.list (sym h.is_source ∙ k.is_source) in
    let pieces : h.pieces ≡ k.pieces =
    one_pieces send.cut (sent_bytes send k.list) h.pieces k.pieces some (subst (λ (l : List Edit). ArePieces send.cut (sent_bytes send l) h.pieces) list h.are_pieces) k.are_pieces in
    h.are_takes ∙ ap (λ (l : List Edit). takes 1 h.pieces (edits_by_piece (sent_edits send l) h.pieces)) list
    ∙ ap (λ (ps : List (List ℕ)). takes 1 ps (edits_by_piece (sent_edits send k.list) ps)) pieces ∙ sym k.are_takes

-- what holds of all items holds of each
at_index : (sends : List SendLine) (index : ℕ) (send : SendLine) → AllByRecursion (λ s. 1 ≤ s.cut) sends → slice_get sends index ≡ Some send → 1 ≤ send.cut
at_index [] index send all is = cc
at_index (s ∷ sends) zero send all is = let same : s ≡ send = cc in subst (λ (l : SendLine). 1 ≤ l.cut) same all.0
at_index (s ∷ sends) (suc index) send all is = at_index sends index send all.1 is

module _ {M E R : Type 0} where
  pub same_commands : (stage : Stage) (journal other : List (Entry M Command E R)) (actor : Actor) → AllByRecursion (λ send. 1 ≤ send.cut) (sends_of stage.lines)
      → AreCalls stage journal → AreCalls stage other → MayCall stage actor → commands_by actor journal ≡ commands_by actor other
  same_commands stage journal other Host some h k may = absurd may
  same_commands stage journal other (Author author) some h k may = h.authors author may ∙ sym (k.authors author may)
  same_commands stage journal other (Send number) some h k may =
      one_takes stage.sources may.0 (commands_by (Send number) journal) (commands_by (Send number) other)
      (at_index (sends_of stage.lines) may.1.index may.0 some may.1.is_line) (h.sends number may.0 may.1) (k.sends number may.0 may.1)
