-- The journal of the workers of a block at a replica has the calls of the block there.
use Rattle.std.proofs.Common.{◌≡◌, ℕ, zero, suc, ◌+◌, ◌⊎◌, inl, inr, true, false, List, [], ◌∷◌, ◌++◌, length, map, slice_get, Some, refl, sym, ap, subst, ◌∙◌, add-zero, arith}
use Rattle.std.specs.Prelude.{if◌then◌else◌}
use Rattle.std.specs.List.{AllByRecursion, Contains}
use Rattle.std.proofs.lemmas.Bool.{eqb-true, eq-eqb}
use Rattle.std.proofs.lemmas.Option.{same_Some, none-some, slice_get_read, slice_get_within, get_or_from_slice_get}
use Rattle.grove_edits.specs.declared.edit.Edit.{Edit}
use Rattle.grove_edits.specs.declared.action.Action.{Action}
use Rattle.grove_edits.specs.declared.actor.Actor.{Actor}
use Rattle.grove_edits.specs.declared.actor.Actor.TheVariants as actors
use Rattle.grove_edits.specs.declared.command.Command.{Command}
use Rattle.grove_edits.specs.declared.command.Command.TheVariants.{Act}
use Rattle.shared_replica.specs.declared.journal.Entry.{Entry}
use Rattle.shared_replica.specs.Passes.{Call, call_of, calls_by, same_actor, IsNamed, StandsOnce, AreNamed}
use Rattle.session_script.specs.declared.author.Declared.{Declared}
use Rattle.session_script.specs.declared.line.Line.{Line}
use Rattle.session_script.specs.declared.line.SendLine.{SendLine}
use Rattle.session_script.specs.Session.{AllDiffer}
use Rattle.replica_exchange.specs.Send.{sent_edits, edits_by_piece}
use Rattle.session_run.specs.declared.author_lines.AuthorLines.{AuthorLines}
use Rattle.session_run.specs.declared.worker.Worker.{Worker}
use Rattle.session_run.specs.declared.worker.Worker.TheVariants as worker
use Rattle.session_run.specs.Calls.{Stage, actions_of, sends_of, takes, AreTakes, ActsHere, SendsHere, MayCall, commands_by, AreCalls}
use Rattle.session_run.specs.Workers.{told, told_in, authors_told, AreLinesOf, actor_of, AreCommandsOf, IsAuthorWorker, IsPieceWorker, AreForAuthors, AreForSends}
use Rattle.author_desk.specs.Turns.{commands_of}
use Rattle.session_run.specs.Passes.{HaveRun, IsJournalOf}
use Rattle.session_run.proofs.Taken.{are_takes}

-- ---- actors

author_number : (a b : ℕ) → actors.Author a ≡ actors.Author b → a ≡ b
author_number a b is = cc

send_number : (a b : ℕ) → actors.Send a ≡ actors.Send b → a ≡ b
send_number a b is = cc

author_no_send : (a b : ℕ) → actors.Author a ≡ actors.Send b → ⊥
author_no_send a b is = cc

send_no_author : (a b : ℕ) → actors.Send a ≡ actors.Author b → ⊥
send_no_author a b is = cc

host_no_author : (a : ℕ) → actors.Host ≡ actors.Author a → ⊥
host_no_author a is = cc

host_no_send : (a : ℕ) → actors.Host ≡ actors.Send a → ⊥
host_no_send a is = cc

actor_itself : (actor : Actor) → same_actor actor actor ≡ true
actor_itself actors.Host = refl
actor_itself (actors.Author a) = eq-eqb a a refl
actor_itself (actors.Send k) = eq-eqb k k refl

same_actor_is : (a b : Actor) → same_actor a b ≡ true → a ≡ b
same_actor_is actors.Host actors.Host is = refl
same_actor_is actors.Host (actors.Author b) is = cc
same_actor_is actors.Host (actors.Send b) is = cc
same_actor_is (actors.Author a) actors.Host is = cc
same_actor_is (actors.Author a) (actors.Author b) is = ap actors.Author (eqb-true a b is)
same_actor_is (actors.Author a) (actors.Send b) is = cc
same_actor_is (actors.Send a) actors.Host is = cc
same_actor_is (actors.Send a) (actors.Author b) is = cc
same_actor_is (actors.Send a) (actors.Send b) is = ap actors.Send (eqb-true a b is)

-- ---- workers

author_of : (lines : AuthorLines) (one : Worker) → IsAuthorWorker lines one → actor_of one ≡ actors.Author lines.declared.author
author_of lines (worker.Author mine) is = ap (λ (l : AuthorLines). actors.Author l.declared.author) is
author_of lines (worker.Send number pieces) is = absurd is

author_commands : (lines : AuthorLines) (one : Worker) (commands : List Command) → IsAuthorWorker lines one → AreCommandsOf one commands → commands ≡ map Act lines.actions.items
author_commands lines (worker.Author mine) commands is are = are ∙ ap (λ (l : AuthorLines). map Act l.actions.items) is
author_commands lines (worker.Send number pieces) commands is are = absurd is

-- whoever stands among the authors' calls is an author of the replica
pub record IsOneOf (replica : ℕ) (all : List AuthorLines) (actor : Actor) : Type 0 where
  pub place : ℕ
  pub lines : AuthorLines
  pub at : slice_get all place ≡ Some lines
  pub here : lines.declared.replica ≡ replica
  pub is : actor ≡ actors.Author lines.declared.author

apart_at : (author : ℕ) (all : List AuthorLines) (place : ℕ) (lines : AuthorLines) → AllByRecursion (λ n. author ≡ n → ⊥) (authors_told all) → slice_get all place ≡ Some lines
    → author ≡ lines.declared.author → ⊥
apart_at author [] place lines apart at same = none-some lines at
apart_at author (l ∷ all) zero lines apart at same = apart.0 (same ∙ ap (λ (x : AuthorLines). x.declared.author) (sym (same_Some l lines at)))
apart_at author (l ∷ all) (suc place) lines apart at same = apart_at author all place lines apart.1 at same

send_of : (sources : List (List Edit)) (number : ℕ) (send : SendLine) (one : Worker) → IsPieceWorker sources number send one → actor_of one ≡ actors.Send number
send_of sources number send (worker.Author mine) is = absurd is
send_of sources number send (worker.Send mine pieces) is = ap actors.Send is.0

send_commands : (sources : List (List Edit)) (number : ℕ) (send : SendLine) (one : Worker) (commands : List Command) → IsPieceWorker sources number send one → AreCommandsOf one commands
    → AreTakes sources send commands
send_commands sources number send (worker.Author mine) commands is are = absurd is
send_commands sources number send (worker.Send mine pieces) commands is are =
    let list = is.1.0 in
    let same : commands ≡ takes 1 pieces (edits_by_piece (sent_edits send list) pieces) = are (sent_edits send list) is.1.2.whole in
    subst (AreTakes sources send) (sym same) (are_takes sources send list pieces is.1.1 is.1.2)

pub record IsSender (replica first : ℕ) (sends : List SendLine) (actor : Actor) : Type 0 where
  pub index : ℕ
  pub send : SendLine
  pub at : slice_get sends index ≡ Some send
  pub here : send.to ≡ replica
  pub is : actor ≡ actors.Send (first + index)

later : (replica first : ℕ) (send : SendLine) (sends : List SendLine) (actor : Actor) → IsSender replica (first + 1) sends actor → IsSender replica first (send ∷ sends) actor
later replica first send sends actor next =
    let number : (first + 1) + next.index ≡ first + suc next.index = omega arith in
    record { index = suc next.index; send = next.send; at = next.at; here = next.here; is = next.is ∙ ap actors.Send number }

abbrev Made : Type 0 → Type 0
Made R = List (Actor × List (Call Command R))

module _ {R : Type 0} where
  -- the actor stands nowhere, and there is no command; or it stands once, with calls of these commands
  abbrev Stands : Actor → List Command → Made R → Type 0
  Stands actor commands made =
      ((IsNamed actor made → ⊥) × (commands ≡ [])) ⊎ ((calls : List (Call Command R)) × StandsOnce actor calls made × (commands_of calls ≡ commands))

  named_append : (actor : Actor) (xs ys : Made R) → IsNamed actor (xs ++ ys) → IsNamed actor xs ⊎ IsNamed actor ys
  named_append actor [] ys is = inr is
  named_append actor (x ∷ xs) ys (inl here) = inl (inl here)
  named_append actor (x ∷ xs) ys (inr there) = elim (named_append actor xs ys there) [ inl a ↦ inl (inr a) | inr b ↦ inr b ]

  stands_other : (actor : Actor) (commands : List Command) (t : Actor × List (Call Command R)) (ts : Made R) → (actor ≡ t.0 → ⊥) → Stands actor commands ts → Stands actor commands (t ∷ ts)
  stands_other actor commands t ts other (inl none) = inl ((λ is. elim is [ inl here ↦ other here | inr there ↦ none.0 there ]), none.1)
  stands_other actor commands t ts other (inr once) = inr (once.0, inr ((λ same. other (sym same)), once.1), once.2)

  stands_here : (actor : Actor) (t : Actor × List (Call Command R)) (ts : Made R) → t.0 ≡ actor → (IsNamed actor ts → ⊥) → Stands actor (commands_of t.1) (t ∷ ts)
  stands_here actor t ts same none = inr (t.1, inl (same, refl, none), refl)

  stands_behind : (actor : Actor) (commands : List Command) (xs ys : Made R) → (IsNamed actor xs → ⊥) → Stands actor commands ys → Stands actor commands (xs ++ ys)
  stands_behind actor commands [] ys none h = h
  stands_behind actor commands (x ∷ xs) ys none h =
      stands_other actor commands x (xs ++ ys) (λ is. none (inl is)) (stands_behind actor commands xs ys (λ is. none (inr is)) h)

  once_before : (actor : Actor) (calls : List (Call Command R)) (xs ys : Made R) → StandsOnce actor calls xs → (IsNamed actor ys → ⊥) → StandsOnce actor calls (xs ++ ys)
  once_before actor calls [] ys once none = absurd once
  once_before actor calls (x ∷ xs) ys (inl here) none = inl (here.0, here.1, λ is. elim (named_append actor xs ys is) [ inl a ↦ here.2 a | inr b ↦ none b ])
  once_before actor calls (x ∷ xs) ys (inr there) none = inr (there.0, once_before actor calls xs ys there.1 none)

  stands_before : (actor : Actor) (commands : List Command) (xs ys : Made R) → Stands actor commands xs → (IsNamed actor ys → ⊥) → Stands actor commands (xs ++ ys)
  stands_before actor commands xs ys (inl none) other =
      inl ((λ is. elim (named_append actor xs ys is) [ inl a ↦ none.0 a | inr b ↦ other b ]), none.1)
  stands_before actor commands xs ys (inr once) other = inr (once.0, once_before actor once.0 xs ys once.1 other, once.2)

  -- what workers made, in two parts
  pub record InParts (xs ys : List Worker) (made : Made R) : Type 0 where
    pub front : Made R
    pub back : Made R
    pub first : HaveRun xs front
    pub second : HaveRun ys back
    pub whole : made ≡ front ++ back

  in_parts : (xs ys : List Worker) (made : Made R) → HaveRun (xs ++ ys) made → InParts xs ys made
  in_parts [] ys made h = record { front = []; back = made; first = tt; second = h; whole = refl }
  in_parts (x ∷ xs) ys [] h = absurd h
  in_parts (x ∷ xs) ys (t ∷ ts) h =
      let more = in_parts xs ys ts h.2 in record {
        front = t ∷ more.front;
        back = more.back;
        first = (h.0, h.1, more.first);
        second = more.second;
        whole = ap (λ (us : Made R). t ∷ us) more.whole;
      }

  -- what one worker made, and those behind it
  pub record Begins (one : Worker) (rest : List Worker) (made : Made R) : Type 0 where
    pub calls : List (Call Command R)
    pub others : Made R
    pub are : AreCommandsOf one (commands_of calls)
    pub ran : HaveRun rest others
    pub whole : made ≡ (actor_of one, calls) ∷ others

  begins : (workers : List Worker) (one : Worker) (rest : List Worker) (made : Made R) → workers ≡ one ∷ rest → HaveRun workers made → Begins one rest made
  begins workers one rest made is h = first made (subst (λ (ws : List Worker). HaveRun ws made) is h)
    where
      first : (made : Made R) → HaveRun (one ∷ rest) made → Begins one rest made
      first [] h = absurd h
      first (t ∷ ts) h = record { calls = t.1; others = ts; are = h.1; ran = h.2; whole = ap (λ (a : Actor). (a, t.1) ∷ ts) h.0 }

  nothing_ran : (workers : List Worker) (made : Made R) → workers ≡ [] → HaveRun workers made → made ≡ []
  nothing_ran workers made is h = none made (subst (λ (ws : List Worker). HaveRun ws made) is h)
    where
      none : (made : Made R) → HaveRun [] made → made ≡ []
      none [] h = refl
      none (t ∷ ts) h = absurd h

  -- ---- authors

  author_named : (replica : ℕ) (all : List AuthorLines) (workers : List Worker) (made : Made R) (actor : Actor) → AreForAuthors replica all workers → HaveRun workers made
      → IsNamed actor made → IsOneOf replica all actor
  author_named replica [] workers made actor are ran named = absurd (subst (IsNamed actor) (nothing_ran workers made are ran) named)
  author_named replica (l ∷ all) workers made actor (inl idle) ran named =
      let next = author_named replica all workers made actor idle.1 ran named in
      record { place = suc next.place; lines = next.lines; at = next.at; here = next.here; is = next.is }
  author_named replica (l ∷ all) workers made actor (inr works) ran named =
      let one = works.0 in
      let b = begins workers one works.1 made works.5 ran in
      elim (subst (IsNamed actor) b.whole named) [
        | inl same ↦ record { place = 0; lines = l; at = refl; here = works.2.0; is = same ∙ author_of l one works.3 }
        | inr there ↦
            let next = author_named replica all works.1 b.others actor works.4 b.ran there in
            record { place = suc next.place; lines = next.lines; at = next.at; here = next.here; is = next.is }
      ]

  not_named : (replica author : ℕ) (all : List AuthorLines) (workers : List Worker) (made : Made R) → AreForAuthors replica all workers → HaveRun workers made
      → AllByRecursion (λ n. author ≡ n → ⊥) (authors_told all) → IsNamed (actors.Author author) made → ⊥
  not_named replica author all workers made are ran apart named =
      let one = author_named replica all workers made (actors.Author author) are ran named in
      apart_at author all one.place one.lines apart one.at (author_number author one.lines.declared.author one.is)

  author_stands : (replica author : ℕ) (all : List AuthorLines) (place : ℕ) (lines : AuthorLines) (workers : List Worker) (made : Made R) → AllDiffer (authors_told all)
      → slice_get all place ≡ Some lines → lines.declared.author ≡ author → lines.declared.replica ≡ replica → AreForAuthors replica all workers → HaveRun workers made
      → Stands (actors.Author author) (map Act lines.actions.items) made
  author_stands replica author [] place lines workers made differ at is here are ran = absurd (none-some lines at)
  author_stands replica author (l ∷ all) zero lines workers made differ at is here (inl idle) ran =
      let same : l ≡ lines = same_Some l lines at in
      let mine : l.declared.author ≡ author = ap (λ (x : AuthorLines). x.declared.author) same ∙ is in
      elim idle.0 [
        | inl away ↦ absurd (away (ap (λ (x : AuthorLines). x.declared.replica) same ∙ here))
        | inr none ↦ inl (
          not_named replica author all workers made idle.1 ran (subst (λ n. AllByRecursion (λ m. n ≡ m → ⊥) (authors_told all)) mine differ.0),
          ap (λ (x : AuthorLines). map Act x.actions.items) (sym same) ∙ ap (map Act) none,
        )
      ]
  author_stands replica author (l ∷ all) zero lines workers made differ at is here (inr works) ran =
      let same : l ≡ lines = same_Some l lines at in
      let mine : l.declared.author ≡ author = ap (λ (x : AuthorLines). x.declared.author) same ∙ is in
      let one = works.0 in
      let b = begins workers one works.1 made works.5 ran in
      let none = not_named replica author all works.1 b.others works.4 b.ran (subst (λ n. AllByRecursion (λ m. n ≡ m → ⊥) (authors_told all)) mine differ.0) in
      let commands : commands_of b.calls ≡ map Act lines.actions.items = author_commands l one (commands_of b.calls) works.3 b.are ∙ ap (λ (x : AuthorLines). map Act x.actions.items) same in
      subst (Stands (actors.Author author) (map Act lines.actions.items)) (sym b.whole)
      (subst (λ (cs : List Command). Stands (actors.Author author) cs ((actor_of one, b.calls) ∷ b.others)) commands
      (stands_here (actors.Author author) (actor_of one, b.calls) b.others (author_of l one works.3 ∙ ap actors.Author mine) none))
  author_stands replica author (l ∷ all) (suc place) lines workers made differ at is here (inl idle) ran =
      author_stands replica author all place lines workers made differ.1 at is here idle.1 ran
  author_stands replica author (l ∷ all) (suc place) lines workers made differ at is here (inr works) ran =
      let one = works.0 in
      let b = begins workers one works.1 made works.5 ran in
      let other : actors.Author author ≡ actor_of one → ⊥ =
      λ same. apart_at l.declared.author all place lines differ.0 at (sym (author_number author l.declared.author (same ∙ author_of l one works.3)) ∙ sym is) in
      subst (Stands (actors.Author author) (map Act lines.actions.items)) (sym b.whole)
      (stands_other (actors.Author author) (map Act lines.actions.items) (actor_of one, b.calls) b.others other
      (author_stands replica author all place lines works.1 b.others differ.1 at is here works.4 b.ran))

  -- ---- sends

  send_named : (sources : List (List Edit)) (replica first : ℕ) (sends : List SendLine) (workers : List Worker) (made : Made R) (actor : Actor) → AreForSends sources replica first sends workers
      → HaveRun workers made → IsNamed actor made → IsSender replica first sends actor
  send_named sources replica first [] workers made actor are ran named = absurd (subst (IsNamed actor) (nothing_ran workers made are ran) named)
  send_named sources replica first (s ∷ sends) workers made actor (inl away) ran named = later replica first s sends actor (send_named sources replica (first + 1) sends workers made actor away.1 ran named)
  send_named sources replica first (s ∷ sends) workers made actor (inr works) ran named =
      let one = works.0 in
      let b = begins workers one works.1 made works.5 ran in
      elim (subst (IsNamed actor) b.whole named) [
        | inl same ↦ record { index = 0; send = s; at = refl; here = works.2; is = same ∙ send_of sources first s one works.3 ∙ ap actors.Send (sym (add-zero first)) }
        | inr there ↦ later replica first s sends actor (send_named sources replica (first + 1) sends works.1 b.others actor works.4 b.ran there)
      ]

  send_stands : (sources : List (List Edit)) (replica first : ℕ) (sends : List SendLine) (index : ℕ) (send : SendLine) (workers : List Worker) (made : Made R)
      → slice_get sends index ≡ Some send → send.to ≡ replica → AreForSends sources replica first sends workers → HaveRun workers made
      → (commands : List Command) × AreTakes sources send commands × Stands (actors.Send (first + index)) commands made
  send_stands sources replica first [] index send workers made at here are ran = absurd (none-some send at)
  send_stands sources replica first (s ∷ sends) zero send workers made at here (inl away) ran = absurd (away.0 (ap (λ (x : SendLine). x.to) (same_Some s send at) ∙ here))
  send_stands sources replica first (s ∷ sends) zero send workers made at here (inr works) ran =
      let same : s ≡ send = same_Some s send at in
      let one = works.0 in
      let who = actors.Send (first + 0) in
      let b = begins workers one works.1 made works.5 ran in
      let mine : actor_of one ≡ who = send_of sources first s one works.3 ∙ ap actors.Send (sym (add-zero first)) in
      let none : IsNamed who b.others → ⊥ =
      λ named.
      let next = send_named sources replica (first + 1) sends works.1 b.others who works.4 b.ran named in
      let number = send_number (first + 0) ((first + 1) + next.index) next.is in
      absurd (omega (arith, number)) in (
        commands_of b.calls,
        subst (λ (x : SendLine). AreTakes sources x (commands_of b.calls)) same (send_commands sources first s one (commands_of b.calls) works.3 b.are),
        subst (Stands who (commands_of b.calls)) (sym b.whole) (stands_here who (actor_of one, b.calls) b.others mine none),
      )
  send_stands sources replica first (s ∷ sends) (suc index) send workers made at here (inl away) ran =
      let number : (first + 1) + index ≡ first + suc index = omega arith in
      let next = send_stands sources replica (first + 1) sends index send workers made at here away.1 ran in
      (next.0, next.1, subst (λ n. Stands (actors.Send n) next.0 made) number next.2)
  send_stands sources replica first (s ∷ sends) (suc index) send workers made at here (inr works) ran =
      let number : (first + 1) + index ≡ first + suc index = omega arith in
      let one = works.0 in
      let b = begins workers one works.1 made works.5 ran in
      let next = send_stands sources replica (first + 1) sends index send works.1 b.others at here works.4 b.ran in
      let other : actors.Send (first + suc index) ≡ actor_of one → ⊥ =
      λ same. let n = send_number (first + suc index) first (same ∙ send_of sources first s one works.3) in absurd (omega (arith, n)) in (
        next.0,
        next.1,
        subst (Stands (actors.Send (first + suc index)) next.0) (sym b.whole)
            (stands_other (actors.Send (first + suc index)) next.0 (actor_of one, b.calls) b.others other (subst (λ n. Stands (actors.Send n) next.0 b.others) number next.2)),
      )

-- ---- journals

-- what stands in the plan of an author that acts
author_at : (lines : List Line) (authors : List Declared) (all : List AuthorLines) (place : ℕ) (declared : Declared) → AreLinesOf authors lines all → slice_get authors place ≡ Some declared
    → (mine : AuthorLines) × (slice_get all place ≡ Some mine) × (mine.declared ≡ declared) × (mine.actions.items ≡ actions_of declared.author lines)
author_at lines [] all place declared are at = absurd (none-some declared at)
author_at lines (d ∷ authors) [] place declared are at = cc
author_at lines (d ∷ authors) (l ∷ all) zero declared are at =
    let same : d ≡ declared = same_Some d declared at in
    let first : told l ≡ told_in lines d = first_of are in
    (l, refl, ap (λ (t : Declared × List Action). t.0) first ∙ same, ap (λ (t : Declared × List Action). t.1) first ∙ ap (λ (x : Declared). actions_of x.author lines) same)
  where
    first_of : {X : Type 0} {x y : X} {xs ys : List X} → x ∷ xs ≡ y ∷ ys → x ≡ y
    first_of is = cc
author_at lines (d ∷ authors) (l ∷ all) (suc place) declared are at = author_at lines authors all place declared (rest_of are) at
  where
    rest_of : {X : Type 0} {x y : X} {xs ys : List X} → x ∷ xs ≡ y ∷ ys → xs ≡ ys
    rest_of is = cc

declared_at : (lines : List Line) (authors : List Declared) (all : List AuthorLines) (place : ℕ) (mine : AuthorLines) → AreLinesOf authors lines all → slice_get all place ≡ Some mine
    → slice_get authors place ≡ Some mine.declared
declared_at lines authors [] place mine are at = absurd (none-some mine at)
declared_at lines [] (l ∷ all) place mine are at = cc
declared_at lines (d ∷ authors) (l ∷ all) zero mine are at =
    let first : l.declared ≡ d = ap (λ (t : Declared × List Action). t.0) (first_of are) in
    ap Some (sym first ∙ ap (λ (x : AuthorLines). x.declared) (same_Some l mine at))
  where
    first_of : {X : Type 0} {x y : X} {xs ys : List X} → x ∷ xs ≡ y ∷ ys → x ≡ y
    first_of is = cc
declared_at lines (d ∷ authors) (l ∷ all) (suc place) mine are at = declared_at lines authors all place mine (rest_of are) at
  where
    rest_of : {X : Type 0} {x y : X} {xs ys : List X} → x ∷ xs ≡ y ∷ ys → xs ≡ ys
    rest_of is = cc

module _ {M E R : Type 0} where
  not_in_journal : (actor : Actor) (journal : List (Entry M Command E R)) (all : List (Actor × List (Call Command R))) → (IsNamed actor all → ⊥) → AreNamed journal all → calls_by actor journal ≡ []
  not_in_journal actor [] all none named = refl
  not_in_journal actor (e ∷ es) all none named =
      (elim (same_actor e.actor actor) as (λ b. same_actor e.actor actor ≡ b → (if b then call_of e ∷ calls_by actor es else calls_by actor es) ≡ []) [
        | true ↦ λ is. absurd (none (subst (λ (a : Actor). IsNamed a all) (same_actor_is e.actor actor is) named.0))
        | false ↦ λ is. not_in_journal actor es all none named.1
      ]) refl

  commands_are : (actor : Actor) (commands : List Command) (journal : List (Entry M Command E R)) (all : List (Actor × List (Call Command R))) → Stands actor commands all → AreNamed journal all
      → ((calls : List (Call Command R)) → StandsOnce actor calls all → calls_by actor journal ≡ calls) → commands_by actor journal ≡ commands
  commands_are actor commands journal all (inl none) named exact = ap commands_of (not_in_journal actor journal all none.0 named) ∙ sym none.1
  commands_are actor commands journal all (inr once) named exact = ap commands_of (exact once.0 once.1) ∙ once.2

  -- no entry is the host's, so each is of an actor who may call
  all_may : (stage : Stage) (journal : List (Entry M Command E R)) (made : List (Actor × List (Call Command R))) → AreNamed journal ((actors.Host, []) ∷ made) → calls_by actors.Host journal ≡ []
      → ((actor : Actor) → IsNamed actor made → MayCall stage actor) → AllByRecursion (λ e. MayCall stage e.actor) journal
  all_may stage [] made named none may = tt
  all_may stage (e ∷ es) made named none may =
      (elim (same_actor e.actor actors.Host) as (λ b. same_actor e.actor actors.Host ≡ b
      → (if b then call_of e ∷ calls_by actors.Host es else calls_by actors.Host es) ≡ [] → MayCall stage e.actor × AllByRecursion (λ (e : Entry M Command E R). MayCall stage e.actor) es) [
        | true ↦ λ is some. cc
        | false ↦ λ is rest. (
          elim named.0 [
            | inl host ↦ absurd (true_false (sym (ap (λ (a : Actor). same_actor a actors.Host) host) ∙ is))
            | inr other ↦ may e.actor other
          ],
          all_may stage es made named.1 rest may,
        )
      ]) refl none
    where
      true_false : true ≡ false → ⊥
      true_false is = cc

  module _ (stage : Stage) (all : List AuthorLines) (authors sends : List Worker) (journal : List (Entry M Command E R)) (made : List (Actor × List (Call Command R)))
      (are_lines : AreLinesOf stage.authors stage.lines all) (differ : AllDiffer (authors_told all))
      (for_authors : AreForAuthors stage.replica all authors) (for_sends : AreForSends stage.sources stage.replica stage.first_send (sends_of stage.lines) sends)
      (parts : InParts authors sends made) (named : AreNamed journal ((actors.Host, []) ∷ made))
      (exact : (actor : Actor) (calls : List (Call Command R)) → StandsOnce actor calls ((actors.Host, []) ∷ made) → calls_by actor journal ≡ calls) where
    commands_of_made : (actor : Actor) (commands : List Command) → (actors.Host ≡ actor → ⊥) → Stands actor commands (parts.front ++ parts.back) → commands_by actor journal ≡ commands
    commands_of_made actor commands other h =
        commands_are actor commands journal ((actors.Host, []) ∷ made)
        (stands_other actor commands (actors.Host, []) made (λ is. other (sym is)) (subst (Stands actor commands) (sym parts.whole) h)) named (exact actor)

    of_author : (author : ℕ) → ActsHere stage author → commands_by (actors.Author author) journal ≡ map Act (actions_of author stage.lines)
    of_author author here =
        let declared : Declared = record { author = author; replica = stage.replica } in
        let at : slice_get stage.authors here.0 ≡ Some declared = slice_get_read stage.authors (length stage.authors) here.0 declared refl here.1 (sym here.2) in
        let mine = author_at stage.lines stage.authors all here.0 declared are_lines at in
        let front = author_stands stage.replica author all here.0 mine.0 authors parts.front differ mine.1 (ap (λ (d : Declared). d.author) mine.2) (ap (λ (d : Declared). d.replica) mine.2) for_authors parts.first in
        let none : IsNamed (actors.Author author) parts.back → ⊥ =
        λ is.
        let sender = send_named stage.sources stage.replica stage.first_send (sends_of stage.lines) sends parts.back (actors.Author author) for_sends parts.second is in
        author_no_send author (stage.first_send + sender.index) sender.is in
        commands_of_made (actors.Author author) (map Act mine.0.actions.items) (host_no_author author)
        (stands_before (actors.Author author) (map Act mine.0.actions.items) parts.front parts.back front none) ∙ ap (map Act) mine.3

    of_send : (number : ℕ) (send : SendLine) → SendsHere stage number send → AreTakes stage.sources send (commands_by (actors.Send number) journal)
    of_send number send here =
        let who = actors.Send (stage.first_send + here.index) in
        let back = send_stands stage.sources stage.replica stage.first_send (sends_of stage.lines) here.index send sends parts.back here.is_line here.is_here for_sends parts.second in
        let none : IsNamed who parts.front → ⊥ =
        λ is.
        let one = author_named stage.replica all authors parts.front who for_authors parts.first is in
        send_no_author (stage.first_send + here.index) one.lines.declared.author one.is in
        let commands : commands_by who journal ≡ back.0 = commands_of_made who back.0 (host_no_send (stage.first_send + here.index)) (stands_behind who back.0 parts.front parts.back none back.2) in
        subst (AreTakes stage.sources send) (sym (ap (λ n. commands_by (actors.Send n) journal) here.is_number ∙ commands)) back.1

    may_call : (actor : Actor) → IsNamed actor made → MayCall stage actor
    may_call actor is =
        elim (named_append actor parts.front parts.back (subst (IsNamed actor) parts.whole is)) [
          | inl in_front ↦
              let one = author_named stage.replica all authors parts.front actor for_authors parts.first in_front in
              let mine = one.lines.declared in
              let at : slice_get stage.authors one.place ≡ Some mine = declared_at stage.lines stage.authors all one.place one.lines are_lines one.at in
              let contains : Contains stage.authors mine = (one.place, slice_get_within stage.authors one.place mine at, get_or_from_slice_get stage.authors one.place mine mine at) in
              subst (MayCall stage) (sym one.is) (subst (λ n. Contains stage.authors (record { author = mine.author; replica = n })) one.here contains)
          | inr in_back ↦
              let sender = send_named stage.sources stage.replica stage.first_send (sends_of stage.lines) sends parts.back actor for_sends parts.second in_back in
              subst (MayCall stage) (sym sender.is) (sender.send, record { index = sender.index; is_number = refl; is_line = sender.at; is_here = sender.here })
        ]

    calls_of_made : AreCalls stage journal
    calls_of_made = record { authors = of_author; sends = of_send; no_other = all_may stage journal made named none_of_host may_call }
      where
        none_named : (IsNamed actors.Host made → ⊥)
        none_named is = may_call actors.Host is

        none_of_host : calls_by actors.Host journal ≡ []
        none_of_host = exact actors.Host [] (inl (refl, refl, none_named))

  pub are_calls : (stage : Stage) (all : List AuthorLines) (authors sends workers : List Worker) (journal : List (Entry M Command E R)) → AreLinesOf stage.authors stage.lines all
      → AllDiffer (authors_told all) → AreForAuthors stage.replica all authors → AreForSends stage.sources stage.replica stage.first_send (sends_of stage.lines) sends
      → workers ≡ authors ++ sends → IsJournalOf workers journal → AreCalls stage journal
  are_calls stage all authors sends workers journal are_lines differ for_authors for_sends both h =
      calls_of_made stage all authors sends journal h.made are_lines differ for_authors for_sends
      (in_parts authors sends h.made (subst (λ (ws : List Worker). HaveRun ws h.made) both h.have_run)) h.named h.exact
