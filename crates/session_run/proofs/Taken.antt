-- Pieces that are taken one after the other, and their commands.
use Rattle.std.proofs.Common.{◌≡◌, ℕ, suc, ◌+◌, ◌≤◌, Some, None, List, [], ◌∷◌, ◌++◌, length, take, slice_get, refl, sym, ap, subst, ◌∙◌, arith}
use Rattle.std.proofs.lemmas.List.{take_more, take_all, length-take-le, length_push}
use Rattle.std.proofs.lemmas.Option.{slice_get_within, get_or_from_slice_get}
use Rattle.grove_sorts.specs.declared.version.Version.TheVariants.{Two}
use Rattle.grove_edits.specs.declared.edit.Edit.{Edit}
use Rattle.grove_edits.specs.declared.command.Command.{Command}
use Rattle.grove_edits.specs.declared.command.Command.TheVariants.{Take}
use Rattle.edit_text.specs.Text.{text_of}
use Rattle.edit_stream.specs.Stream.{StreamState, Feeds, fresh}
use Rattle.session_script.specs.declared.line.SendLine.{SendLine}
use Rattle.replica_exchange.specs.Send.{joined, sent_edits, sent_bytes, ArePieces, edits_by_piece}
use Rattle.replica_exchange.specs.Taker.{TakesAll}
use Rattle.replica_exchange.proofs.Taken.{fronts_taken, one_taken}
use Rattle.session_run.specs.Calls.{takes, AreTakes}

-- one piece more
takes_one_more : (old middle new : StreamState) (pieces : List (List ℕ)) (taken : List (List Edit)) (piece : List ℕ) (edits : List Edit)
    → TakesAll old pieces taken middle → Feeds middle piece edits new → TakesAll old (pieces ++ piece ∷ []) (taken ++ edits ∷ []) new
takes_one_more old middle new [] [] piece edits h fed = (new, subst (λ (s : StreamState). Feeds s piece edits new) h fed, refl)
takes_one_more old middle new [] (e ∷ taken) piece edits h fed = absurd h
takes_one_more old middle new (p ∷ pieces) [] piece edits h fed = absurd h
takes_one_more old middle new (p ∷ pieces) (e ∷ taken) piece edits h fed = (h.0, h.1, takes_one_more h.0 middle new pieces taken piece edits h.2 fed)

-- and its command
takes-one_more : (number : ℕ) (old new : StreamState) (pieces : List (List ℕ)) (taken : List (List Edit)) (piece : List ℕ) (edits : List Edit)
    → TakesAll old pieces taken new → takes number (pieces ++ piece ∷ []) (taken ++ edits ∷ []) ≡ takes number pieces taken ++ Take (number + length pieces) piece edits ∷ []
takes-one_more number old new [] [] piece edits h = let same : number ≡ number + 0 = omega arith in ap (λ k. Take k piece edits ∷ []) same
takes-one_more number old new [] (e ∷ taken) piece edits h = absurd h
takes-one_more number old new (p ∷ pieces) [] piece edits h = absurd h
takes-one_more number old new (p ∷ pieces) (e ∷ taken) piece edits h =
    let k : (number + 1) + length pieces ≡ number + suc (length pieces) = omega arith in
    ap (λ (cs : List Command). Take number p e ∷ cs) (takes-one_more (number + 1) h.0 new pieces taken piece edits h.2 ∙ ap (λ n. takes (number + 1) pieces taken ++ Take n piece edits ∷ []) k)

take_one_more : (pieces : List (List ℕ)) (index : ℕ) (piece : List ℕ) → slice_get pieces index ≡ Some piece → take (index + 1) pieces ≡ take index pieces ++ piece ∷ []
take_one_more pieces index piece is =
    take_more pieces index [] (slice_get_within pieces index piece is) ∙ ap (λ (p : List ℕ). take index pieces ++ p ∷ []) (get_or_from_slice_get pieces index piece [] is)

-- the first pieces were taken, with these commands
pub record TakenSoFar (pieces : List (List ℕ)) (index : ℕ) (stream : StreamState) (commands : List Command) : Type 0 where
  pub taken : List (List Edit)
  pub takes_front : TakesAll (fresh Two) (take index pieces) taken stream
  pub are : commands ≡ takes 1 (take index pieces) taken
  pub many : index ≤ length pieces → length commands ≡ index

module _ (pieces : List (List ℕ)) where
  pub none_taken : (stream : StreamState) → stream ≡ fresh Two → TakenSoFar pieces 0 stream []
  none_taken stream is = record { taken = []; takes_front = is; are = refl; many = λ le. refl }

  -- what the next piece gives has no fault
  pub next_is_good : (edits : List Edit) (index : ℕ) (stream new : StreamState) (commands : List Command) (piece : List ℕ) (some : List Edit) → joined pieces ≡ text_of edits
      → TakenSoFar pieces index stream commands → slice_get pieces index ≡ Some piece → Feeds stream piece some new → new.fault ≡ None
  next_is_good edits index stream new commands piece some whole h is fed =
      let all : TakesAll (fresh Two) (take (index + 1) pieces) (h.taken ++ some ∷ []) new =
      subst (λ (ps : List (List ℕ)). TakesAll (fresh Two) ps (h.taken ++ some ∷ []) new) (sym (take_one_more pieces index piece is))
      (takes_one_more (fresh Two) stream new (take index pieces) h.taken piece some h.takes_front fed) in
      (fronts_taken edits pieces (index + 1) (h.taken ++ some ∷ []) new whole all).1

  pub one_taken_more : (index : ℕ) (stream new : StreamState) (commands : List Command) (piece bytes : List ℕ) (some : List Edit)
      → TakenSoFar pieces index stream commands → slice_get pieces index ≡ Some piece → bytes ≡ piece → Feeds stream piece some new
      → TakenSoFar pieces (index + 1) new (commands ++ Take (index + 1) bytes some ∷ [])
  one_taken_more index stream new commands piece bytes some h is same fed =
      let front = take index pieces in
      let one_more = take_one_more pieces index piece is in
      let within = slice_get_within pieces index piece is in
      let number : 1 + length front ≡ index + 1 = (let le : index ≤ length pieces = omega arith in let l = length-take-le index pieces le in omega arith) in
      let all : takes 1 (take (index + 1) pieces) (h.taken ++ some ∷ []) ≡ takes 1 front h.taken ++ Take (index + 1) piece some ∷ [] =
      ap (λ (ps : List (List ℕ)). takes 1 ps (h.taken ++ some ∷ [])) one_more
      ∙ takes-one_more 1 (fresh Two) stream front h.taken piece some h.takes_front ∙ ap (λ n. takes 1 front h.taken ++ Take n piece some ∷ []) number in record {
        taken = h.taken ++ some ∷ [];
        takes_front = subst (λ (ps : List (List ℕ)). TakesAll (fresh Two) ps (h.taken ++ some ∷ []) new) (sym one_more) (takes_one_more (fresh Two) stream new front h.taken piece some h.takes_front fed);
        are = ap (λ (b : List ℕ). commands ++ Take (index + 1) b some ∷ []) same ∙ ap (λ (cs : List Command). cs ++ Take (index + 1) piece some ∷ []) h.are ∙ sym all;
        many = λ le. (let before = h.many (omega arith) in let more = length_push commands (Take (index + 1) bytes some) in omega arith);
      }

  pub all_taken : (edits : List Edit) (index : ℕ) (stream : StreamState) (commands : List Command) → joined pieces ≡ text_of edits → length pieces ≤ index
      → TakenSoFar pieces index stream commands → commands ≡ takes 1 pieces (edits_by_piece edits pieces)
  all_taken edits index stream commands whole end h =
      let all = take_all index pieces end in
      let taken : h.taken ≡ edits_by_piece edits pieces =
      (one_taken edits pieces h.taken stream whole (subst (λ (ps : List (List ℕ)). TakesAll (fresh Two) ps h.taken stream) all h.takes_front)).0 in
      h.are ∙ ap (λ (ps : List (List ℕ)). takes 1 ps h.taken) all ∙ ap (takes 1 pieces) taken

-- the commands of a `send` line are these
pub are_takes : (sources : List (List Edit)) (send : SendLine) (list : List Edit) (pieces : List (List ℕ)) → slice_get sources send.from ≡ Some list
    → ArePieces send.cut (sent_bytes send list) pieces → AreTakes sources send (takes 1 pieces (edits_by_piece (sent_edits send list) pieces))
are_takes sources send list pieces is_source are_pieces = record { list = list; pieces = pieces; is_source = is_source; are_pieces = are_pieces; are_takes = refl }
