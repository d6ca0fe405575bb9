-- What a block opens of its replicas is all that it sends and all that its authors cut.
use Rattle.std.proofs.Common.{◌≡◌, ℕ, zero, suc, ◌+◌, ◌==◌, ◌&&◌, ◌||◌, Bool, true, false, List, [], ◌∷◌, ◌++◌, length, map, slice_get, Some, if◌then◌else◌, refl, sym, ap, ap₂, ◌∙◌, arith, append_assoc}
use Rattle.std.specs.List.{AllByRecursion, flat_map, list_any}
use Rattle.std.proofs.lemmas.Bool.{eqb-true, eq-eqb}
use Rattle.std.proofs.lemmas.List.{length-append}
use Rattle.std.proofs.lemmas.Option.{same_Some, none-some}
use Rattle.grove_edits.specs.declared.action.Action.{Action}
use Rattle.grove_edits.specs.declared.action.Action.TheVariants.{Cut}
use Rattle.grove_edits.specs.declared.actor.Actor.{Actor}
use Rattle.grove_edits.specs.declared.actor.Actor.TheVariants as actor
use Rattle.grove_edits.specs.declared.edit.Edit.{Edit}
use Rattle.author_desk.specs.Lines.{slots_named, slots_cut}
use Rattle.session_script.specs.declared.author.Declared.{Declared}
use Rattle.session_script.specs.declared.line.Line.{Line}
use Rattle.session_script.specs.declared.line.Line.TheVariants as line
use Rattle.session_script.specs.declared.line.SendLine.{SendLine}
use Rattle.session_run.specs.Boards.{slots_by, slots_at}
use Rattle.session_run.specs.Calls.{Stage, actions_of, sends_of, SendsHere, AreCalls, MayCall}
use Rattle.session_run.specs.Run.{HasRun}
use Rattle.replica_core.specs.Content.{Content, with_block}
use Rattle.replica_core.specs.Step.{effect, reply, after}
use Rattle.session_report.specs.Journal.{Entries}
use Rattle.session_answers.specs.Opened.{is_cut, acts_at, cuts_at, sends_from, asks_of, listed, all_listed}
use Rattle.session_answers.specs.Running.{sources_of}

-- ---- tests

or_true : (b : Bool) → (b || true) ≡ true
or_true true = refl
or_true false = refl

or_false : (a b : Bool) → (a || b) ≡ false → (a ≡ false) × (b ≡ false)
or_false true b none = absurd cc
or_false false b none = (refl, none)

and_false : (a b : Bool) → (a && b) ≡ false → b ≡ true → a ≡ false
and_false true b none is = absurd cc
and_false false b none is = refl

any_there : {X : Type 0} (p : X → Bool) (before more : List X) (x : X) → p x ≡ true → list_any p (before ++ x ∷ more) ≡ true
any_there p [] more x is = ap (λ b. b || list_any p more) is
any_there p (y ∷ before) more x is = ap (λ b. p y || b) (any_there p before more x is) ∙ or_true (p y)

pub all_more : {X : Type 0} (P : X → Type 0) (xs : List X) (x : X) → AllByRecursion P xs → P x → AllByRecursion P (xs ++ x ∷ [])
all_more P [] x all is = (is, tt)
all_more P (y ∷ xs) x all is = (all.0, all_more P xs x all.1 is)

-- ---- what is listed

-- all of it, if an author cuts, and also if some of it is sent
pub listed_if_cut : (sends cuts : Bool) (edits : List Edit) → cuts ≡ true → listed (sends || cuts) edits ≡ edits
listed_if_cut true cuts edits is = refl
listed_if_cut false cuts edits is = ap (λ b. listed b edits) is

listed_if_sent : (sends cuts : Bool) (edits : List Edit) → sends ≡ true → listed (sends || cuts) edits ≡ edits
listed_if_sent true cuts edits is = refl
listed_if_sent false cuts edits is = absurd cc

module _ (authors : List Declared) (lines : List Line) where
  -- what is listed of one replica more
  pub all_listed-more : (replica : ℕ) (contents : List Content) (last : Content)
      → all_listed authors lines replica (contents ++ last ∷ []) ≡ all_listed authors lines replica contents ++ listed (asks_of authors lines (replica + length contents)) last.edits ∷ []
  all_listed-more replica [] last = let here : replica ≡ replica + 0 = omega arith in ap (λ n. listed (asks_of authors lines n) last.edits ∷ []) here
  all_listed-more replica (content ∷ contents) last =
      let there : (replica + 1) + length contents ≡ replica + suc (length contents) = omega arith in
      ap (λ lists. listed (asks_of authors lines replica) content.edits ∷ lists)
      (all_listed-more (replica + 1) contents last ∙ ap (λ n. all_listed authors lines (replica + 1) contents ++ listed (asks_of authors lines n) last.edits ∷ []) there)

  pub length-all_listed : (replica : ℕ) (contents : List Content) → length (all_listed authors lines replica contents) ≡ length contents
  length-all_listed replica [] = refl
  length-all_listed replica (content ∷ contents) = ap (λ n. suc n) (length-all_listed (replica + 1) contents)

  -- opening a block changes no list
  pub all_listed-opened : (replica : ℕ) (contents : List Content) → all_listed authors lines replica contents ≡ all_listed authors lines replica (map with_block contents)
  all_listed-opened replica [] = refl
  all_listed-opened replica (content ∷ contents) = ap (λ lists. listed (asks_of authors lines replica) content.edits ∷ lists) (all_listed-opened (replica + 1) contents)

  -- a replica more is listed
  pub one_more_listed : (lists more all : List (List Edit)) (left rest : List Content) (next : Content) (number : ℕ) (asked : Bool) (list : List Edit) → left ≡ next ∷ rest → number ≡ length lists
      → asked ≡ asks_of authors lines number → list ≡ listed asked next.edits → lists ++ all_listed authors lines (length lists) left ≡ all → more ≡ lists ++ list ∷ []
      → more ++ all_listed authors lines (length more) rest ≡ all
  one_more_listed lists more all left rest next number asked list here counted test is before pushed =
      let size : length more ≡ length lists + 1 = ap (λ (ls : List (List Edit)). length ls) pushed ∙ length-append lists (list ∷ []) in
      let said : list ≡ listed (asks_of authors lines (length lists)) next.edits = is ∙ ap (λ b. listed b next.edits) (test ∙ ap (asks_of authors lines) counted) in
      ap₂ (λ ls n. ls ++ all_listed authors lines n rest) pushed size
      ∙ append_assoc lists (list ∷ []) (all_listed authors lines (length lists + 1) rest)
      ∙ ap (λ l. lists ++ l ∷ all_listed authors lines (length lists + 1) rest) said
      ∙ ap (λ cs. lists ++ all_listed authors lines (length lists) cs) (sym here)
      ∙ before

  -- what is listed of a replica that opened with some edits
  pub listed_at : (replica : ℕ) (contents : List Content) (place number : ℕ) (opening : List Edit) → number ≡ replica + place → slice_get (sources_of contents) place ≡ Some opening
      → slice_get (all_listed authors lines replica contents) place ≡ Some (listed (asks_of authors lines number) opening)
  listed_at replica [] place number opening at is = absurd (none-some opening is)
  listed_at replica (content ∷ contents) zero number opening at is =
      let here : replica ≡ number = omega arith in
      ap₂ (λ n edits. Some (listed (asks_of authors lines n) edits)) here (same_Some content.edits opening is)
  listed_at replica (content ∷ contents) (suc place) number opening at is = listed_at (replica + 1) contents place number opening (omega arith) is

  -- what a replica opened with of which something is sent
  pub source_at : (replica : ℕ) (contents : List Content) (place number : ℕ) (list : List Edit) → number ≡ replica + place → sends_from lines number ≡ true
      → slice_get (all_listed authors lines replica contents) place ≡ Some list → slice_get (sources_of contents) place ≡ Some list
  source_at replica [] place number list at sent is = absurd (none-some list is)
  source_at replica (content ∷ contents) zero number list at sent is =
      let here : number ≡ replica = omega arith in
      let whole = listed_if_sent (sends_from lines replica) (cuts_at authors lines replica) content.edits (ap (sends_from lines) (sym here) ∙ sent) in
      ap (λ edits. Some edits) (sym whole ∙ same_Some (listed (asks_of authors lines replica) content.edits) list is)
  source_at replica (content ∷ contents) (suc place) number list at sent is = source_at (replica + 1) contents place number list (omega arith) sent is

-- ---- what is sent

sender_asked : (lines : List Line) (index : ℕ) (send : SendLine) → slice_get (sends_of lines) index ≡ Some send → sends_from lines send.from ≡ true
sender_asked [] index send is = absurd (none-some send is)
sender_asked (line.Author author action ∷ lines) index send is = sender_asked lines index send is
sender_asked (line.Send first ∷ lines) zero send is =
    ap (λ b. b || sends_from lines send.from) (eq-eqb first.from send.from (ap (λ (s : SendLine). s.from) (same_Some first send is)))
sender_asked (line.Send first ∷ lines) (suc index) send is = ap (λ b. (first.from == send.from) || b) (sender_asked lines index send is) ∙ or_true (first.from == send.from)

-- the calls of a block at a replica are the same by what is listed
module _ (authors : List Declared) (lines : List Line) (first_send replica : ℕ) (contents : List Content) where
  abbrev stage_with : List (List Edit) → Stage
  stage_with sources = record { authors = authors; lines = lines; first_send = first_send; sources = sources; replica = replica }

  module _ (some others : List (List Edit)) where
    sends_here : (number : ℕ) (send : SendLine) → SendsHere (stage_with some) number send → SendsHere (stage_with others) number send
    sends_here number send here = record { index = here.index; is_number = here.is_number; is_line = here.is_line; is_here = here.is_here }

    may_call : (actor : Actor) → MayCall (stage_with some) actor → MayCall (stage_with others) actor
    may_call actor.Host may = absurd may
    may_call (actor.Author author) may = may
    may_call (actor.Send number) may = (may.0, sends_here number may.0 may.1)

    all_may_call : (journal : Entries Content) → AllByRecursion (λ entry. MayCall (stage_with some) entry.actor) journal → AllByRecursion (λ entry. MayCall (stage_with others) entry.actor) journal
    all_may_call [] all = tt
    all_may_call (entry ∷ journal) all = (may_call entry.actor all.0, all_may_call journal all.1)

  abbrev lists : List (List Edit)
  lists = all_listed authors lines 0 contents

  same_calls : (journal : Entries Content) → AreCalls (stage_with lists) journal → AreCalls (stage_with (sources_of contents)) journal
  same_calls journal calls = record {
    authors = λ author acts. calls.authors author acts;
    sends = λ number send here.
        let takes = calls.sends number send (sends_here (sources_of contents) lists number send here) in
        record {
          list = takes.list;
          pieces = takes.pieces;
          is_source = source_at authors lines 0 contents send.from send.from takes.list (omega arith) (sender_asked lines here.index send here.is_line) takes.is_source;
          are_pieces = takes.are_pieces;
          are_takes = takes.are_takes;
        };
    no_other = all_may_call lists (sources_of contents) journal calls.no_other;
  }

  pub has_run_by_all : (first last : Content) (journal : Entries Content) → HasRun after effect reply (stage_with lists) first journal last
      → HasRun after effect reply (stage_with (sources_of contents)) first journal last
  has_run_by_all first last journal ran = record { calls = same_calls journal ran.calls; replays = ran.replays }

-- ---- which slots are raised

no_slots_named : (opening : List Edit) (action : Action) → is_cut action ≡ false → slots_named opening action ≡ []
no_slots_named opening (Cut edge) none = absurd cc
no_slots_named opening _ none = refl

no_slots_of_none : (action : Action) → slots_named [] action ≡ []
no_slots_of_none (Cut edge) = refl
no_slots_of_none _ = refl

cut_of_none : (actions : List Action) → slots_cut [] actions ≡ []
cut_of_none [] = refl
cut_of_none (action ∷ actions) = ap₂ (λ xs ys. xs ++ ys) (no_slots_of_none action) (cut_of_none actions)

module _ (authors : List Declared) (replica : ℕ) (opening : List Edit) (author : ℕ) (there : list_any (acts_at author replica) authors ≡ true) where
  none_cut : (lines : List Line) → cuts_at authors lines replica ≡ false → slots_cut opening (actions_of author lines) ≡ []
  none_cut [] none = refl
  none_cut (line.Send send ∷ lines) none = none_cut lines none
  none_cut (line.Author n action ∷ lines) none =
      let both = or_false (is_cut action && list_any (acts_at n replica) authors) (cuts_at authors lines replica) none in
      by_test (n == author) refl both.0 (none_cut lines both.1) where
        by_test : (b : Bool) → (n == author) ≡ b → (is_cut action && list_any (acts_at n replica) authors) ≡ false → slots_cut opening (actions_of author lines) ≡ []
            → slots_cut opening (if b then action ∷ actions_of author lines else actions_of author lines) ≡ []
        by_test false is no_cut rest = rest
        by_test true is no_cut rest =
            let acts = ap (λ m. list_any (acts_at m replica) authors) (eqb-true n author is) ∙ there in
            ap₂ (λ xs ys. xs ++ ys) (no_slots_named opening action (and_false (is_cut action) (list_any (acts_at n replica) authors) no_cut acts)) rest

module _ (stage : Stage) (opening : List Edit) where
  module _ (none : cuts_at stage.authors stage.lines stage.replica ≡ false) where
    none_by : (before more : List Declared) (declared : Declared) → before ++ declared ∷ more ≡ stage.authors → slots_by stage opening declared ≡ []
    none_by before more declared are = by_test (declared.replica == stage.replica) refl where
      by_test : (b : Bool) → (declared.replica == stage.replica) ≡ b → (if b then slots_cut opening (actions_of declared.author stage.lines) else []) ≡ []
      by_test false is = refl
      by_test true is =
          let acts : acts_at declared.author stage.replica declared ≡ true = ap₂ (λ a b. a && b) (eq-eqb declared.author declared.author refl) is in
          let there = any_there (acts_at declared.author stage.replica) before more declared acts in
          none_cut stage.authors stage.replica opening declared.author (ap (list_any (acts_at declared.author stage.replica)) (sym are) ∙ there) stage.lines none

    none_among : (before more : List Declared) → before ++ more ≡ stage.authors → flat_map (slots_by stage opening) more ≡ []
    none_among before [] are = refl
    none_among before (declared ∷ more) are =
        ap₂ (λ xs ys. xs ++ ys) (none_by before more declared are) (none_among (before ++ declared ∷ []) more (append_assoc before (declared ∷ []) more ∙ are))

    -- none where no author of the replica cuts
    pub no_slots_without_cut : slots_at stage opening ≡ []
    no_slots_without_cut = none_among [] stage.authors refl

-- and none where nothing can be cut
pub no_slots_without_edges : (stage : Stage) → slots_at stage [] ≡ []
no_slots_without_edges stage = among stage.authors where
  by : (declared : Declared) → slots_by stage [] declared ≡ []
  by declared = by_test (declared.replica == stage.replica) where
    by_test : (b : Bool) → (if b then slots_cut [] (actions_of declared.author stage.lines) else []) ≡ []
    by_test false = refl
    by_test true = cut_of_none (actions_of declared.author stage.lines)

  among : (authors : List Declared) → flat_map (slots_by stage []) authors ≡ []
  among [] = refl
  among (declared ∷ authors) = ap₂ (λ xs ys. xs ++ ys) (by declared) (among authors)
