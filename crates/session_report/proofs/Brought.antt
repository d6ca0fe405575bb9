-- The entries of a `send` line bring the edits that are sent.
use Rattle.std.proofs.Common.{◌≡◌, ℕ, ◌+◌, Bool, true, false, cond, List, [], ◌∷◌, ◌++◌, map, take, drop, slice_get, Some, refl, sym, ap, ◌∙◌}
use Rattle.std.specs.List.{flat_map}
use Rattle.std.proofs.lemmas.Bool.{false≢true}
use Rattle.grove_edits.specs.declared.edit.Edit.{Edit}
use Rattle.grove_edits.specs.Graph.{Graph, graph}
use Rattle.grove_edits.specs.declared.actor.Actor.{Actor}
use Rattle.grove_edits.specs.declared.actor.Actor.TheVariants.{Host, Author, Send}
use Rattle.grove_edits.specs.declared.answer.Answer.{Answer}
use Rattle.grove_edits.specs.declared.command.Command.{Command}
use Rattle.grove_edits.specs.declared.command.Command.TheVariants.{Act, Take}
use Rattle.shared_replica.specs.Passes.{call_of, same_actor, calls_by}
use Rattle.session_script.specs.declared.line.SendLine.{SendLine}
use Rattle.replica_exchange.specs.Send.{sent_edits, edits_by_piece, line_ends}
use Rattle.replica_exchange.proofs.Shares.{shared_text}
use Rattle.session_run.specs.Calls.{Stage, SendsHere, commands_by, takes}
use Rattle.session_report.specs.Journal.{Entries, IsPlanned, ArePlanned, IsLegal, edits_of, entries_by}

-- the edits that a command hands in
brought : Command → List Edit
brought (Act action) = []
brought (Take piece bytes edits) = edits

one_brought : (opened now : Graph) (actor : Actor) (command : Command) (edits : List Edit) (answer : Answer) (number : ℕ) → IsPlanned opened now actor command edits answer → same_actor actor (Send number) ≡ true
    → edits ≡ brought command
unfolding brought
one_brought opened now (Send other) (Take piece bytes taken) edits answer number is same = is.0
one_brought opened now (Send other) (Act action) edits answer number is same = absurd is
one_brought opened now Host command edits answer number is same = absurd (false≢true same)
one_brought opened now (Author author) command edits answer number is same = absurd (false≢true same)

takes_brought : (piece : ℕ) (edits : List Edit) (pieces : List (List ℕ)) → flat_map brought (takes piece pieces (edits_by_piece edits pieces)) ≡ flat_map (λ some. some) (edits_by_piece edits pieces)
unfolding brought
takes_brought piece edits [] = refl
takes_brought piece edits (bytes ∷ pieces) =
    ap (λ (es : List Edit). take (line_ends bytes) edits ++ es) (takes_brought (piece + 1) (drop (line_ends bytes) edits) pieces)

same_list : (a b : List Edit) → Some a ≡ Some b → a ≡ b
same_list a b e = cc

module _ {M : Type 0} where
  entries_brought : (opened : Graph) (taken : List Edit) (journal : Entries M) (number : ℕ) → ArePlanned opened taken journal
      → edits_of (entries_by (Send number) journal) ≡ flat_map brought (commands_by (Send number) journal)
  entries_brought opened taken [] number planned = refl
  entries_brought opened taken (entry ∷ entries) number planned =
      by_test (same_actor entry.actor (Send number)) (one_brought opened (graph taken) entry.actor entry.command entry.effect entry.reply number planned.0)
      (entries_brought opened (taken ++ entry.effect) entries number planned.1) where
        by_test : (b : Bool) → (b ≡ true → entry.effect ≡ brought entry.command) → edits_of (entries_by (Send number) entries) ≡ flat_map brought (commands_by (Send number) entries)
            → edits_of (cond b (entry ∷ entries_by (Send number) entries) (entries_by (Send number) entries))
            ≡ flat_map brought (map (λ call. call.command) (cond b (call_of entry ∷ calls_by (Send number) entries) (calls_by (Send number) entries)))
        by_test true own rest = ap (λ (es : List Edit). es ++ edits_of (entries_by (Send number) entries)) (own refl) ∙ ap (λ (es : List Edit). brought entry.command ++ es) rest
        by_test false own rest = rest

  pub sent_brought : (stage : Stage) (opening : List Edit) (journal : Entries M) (number : ℕ) (send : SendLine) (list : List Edit) → IsLegal stage opening journal → SendsHere stage number send
      → slice_get stage.sources send.from ≡ Some list → edits_of (entries_by (Send number) journal) ≡ sent_edits send list
  sent_brought stage opening journal number send list legal here source =
      let calls = legal.calls.sends number send here in
      let same : calls.list ≡ list = same_list calls.list list (sym calls.is_source ∙ source) in
      entries_brought (graph opening) opening journal number legal.planned
      ∙ ap (flat_map brought) calls.are_takes
      ∙ takes_brought 1 (sent_edits send calls.list) calls.pieces
      ∙ shared_text (sent_edits send calls.list) calls.pieces calls.are_pieces.whole
      ∙ ap (sent_edits send) same
