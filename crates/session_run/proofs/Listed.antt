-- The workers at a replica, one author and one `send` line after the other.
use Rattle.std.proofs.Common.{◌≡◌, ℕ, suc, ◌+◌, ◌^◌, ◌<◌, ◌≤◌, inl, inr, List, [], ◌∷◌, ◌++◌, length, drop, get_or, refl, sym, ap, subst, ◌∙◌, append_assoc, append-nil, arith}
use Rattle.std.specs.List.{AllByRecursion}
use Rattle.std.proofs.lemmas.List.{drop_more, drop_all}
use Rattle.grove_edits.specs.declared.edit.Edit.{Edit}
use Rattle.session_script.specs.declared.author.Declared.{Declared}
use Rattle.session_script.specs.declared.line.Line.{Line}
use Rattle.session_script.specs.declared.line.Line.TheVariants as line
use Rattle.session_script.specs.declared.line.SendLine.{SendLine}
use Rattle.session_run.specs.declared.author_lines.AuthorLines.{AuthorLines}
use Rattle.session_run.specs.declared.worker.Worker.{Worker}
use Rattle.session_run.specs.Calls.{sends_of}
use Rattle.session_run.specs.Run.{CanSend, CanRun}
use Rattle.session_run.specs.Workers.{IsIdle, IsAtWork, IsAuthorWorker, AddsAuthor, AreForAuthors, AreForSends, AddsSend}

-- the lines that can be run have sends that can be run
pub can_send_all : (authors : List Declared) (replicas : ℕ) (lines : List Line) → AllByRecursion (CanRun authors replicas) lines → AllByRecursion (CanSend replicas) (sends_of lines)
can_send_all authors replicas [] h = tt
can_send_all authors replicas (line.Author author action ∷ lines) h = can_send_all authors replicas lines h.1
can_send_all authors replicas (line.Send send ∷ lines) h = (h.0, can_send_all authors replicas lines h.1)

-- ---- authors

-- the authors so far have these workers more, and some are left
pub record AuthorsSoFar (replica : ℕ) (all : List AuthorLines) (before : List Worker) (left : List AuthorLines) (workers : List Worker) : Type 0 where
  pub more : List Worker
  pub appended : workers ≡ before ++ more
  pub leads : (rest : List Worker) → AreForAuthors replica left rest → AreForAuthors replica all (more ++ rest)

module _ (replica : ℕ) (all : List AuthorLines) (before : List Worker) where
  pub no_author : AuthorsSoFar replica all before all before
  no_author = record { more = []; appended = sym (append-nil before); leads = λ rest h. h }

  idle_author : (lines : AuthorLines) (left : List AuthorLines) (workers : List Worker) → IsIdle replica lines → AuthorsSoFar replica all before (lines ∷ left) workers
      → AuthorsSoFar replica all before left workers
  idle_author lines left workers idle h = record { more = h.more; appended = h.appended; leads = λ rest k. h.leads rest (inl (idle, k)) }

  one_author : (lines : AuthorLines) (left : List AuthorLines) (workers : List Worker) (one : Worker) → IsAtWork replica lines → IsAuthorWorker lines one
      → AuthorsSoFar replica all before (lines ∷ left) workers → AuthorsSoFar replica all before left (workers ++ one ∷ [])
  one_author lines left workers one here is h = record {
    more = h.more ++ one ∷ [];
    appended = ap (λ (ws : List Worker). ws ++ one ∷ []) h.appended ∙ append_assoc before h.more (one ∷ []);
    leads = λ rest k. subst (AreForAuthors replica all) (sym (append_assoc h.more (one ∷ []) rest)) (h.leads (one ∷ rest) (inr (one, rest, here, is, k, refl)));
  }

  module _ (index : ℕ) (lines : AuthorLines) (workers : List Worker) (within : index < length all) (is : lines ≡ get_or all index lines)
      (h : AuthorsSoFar replica all before (drop index all) workers) where
    from_here : AuthorsSoFar replica all before (lines ∷ drop (index + 1) all) workers
    from_here =
        subst (λ (ls : List AuthorLines). AuthorsSoFar replica all before ls workers)
        (drop_more all index lines within ∙ ap (λ (l : AuthorLines). l ∷ drop (index + 1) all) (sym is)) h

    pub next_author : (after : List Worker) → AddsAuthor replica lines workers after → AuthorsSoFar replica all before (drop (index + 1) all) after
    next_author after (inl idle) =
        subst (AuthorsSoFar replica all before (drop (index + 1) all)) (sym idle.1) (idle_author lines (drop (index + 1) all) workers idle.0 from_here)
    next_author after (inr works) =
        subst (AuthorsSoFar replica all before (drop (index + 1) all)) (sym works.3) (one_author lines (drop (index + 1) all) workers works.0 works.1 works.2 from_here)

  pub all_authors : (index : ℕ) (workers : List Worker) → length all ≤ index → AuthorsSoFar replica all before (drop index all) workers
      → (more : List Worker) × AreForAuthors replica all more × (workers ≡ before ++ more)
  all_authors index workers end h =
      let last = subst (λ (ls : List AuthorLines). AuthorsSoFar replica all before ls workers) (drop_all index all end) h in
      (last.more, subst (AreForAuthors replica all) (append-nil last.more) (last.leads [] refl), last.appended)

-- ---- sends

-- of all `send` lines some are left, of which the first has this number; those before have these workers more
pub record SendsSoFar (sources : List (List Edit)) (replica first : ℕ) (all : List SendLine) (before : List Worker) (number : ℕ) (left : List SendLine) (workers : List Worker) : Type 0 where
  pub can_send : AllByRecursion (CanSend (length sources)) left
  pub numbers : number + length left ≡ first + length all
  pub more : List Worker
  pub appended : workers ≡ before ++ more
  pub leads : (rest : List Worker) → AreForSends sources replica number left rest → AreForSends sources replica first all (more ++ rest)

module _ (sources : List (List Edit)) (replica first : ℕ) (all : List SendLine) (before : List Worker) where
  abbrev pub SentUpTo : ℕ → List SendLine → List Worker → Type 0
  SentUpTo number left workers = SendsSoFar sources replica first all before number left workers

  pub none_sent : AllByRecursion (CanSend (length sources)) all → SentUpTo first all before
  none_sent can_send = record { can_send = can_send; numbers = refl; more = []; appended = sym (append-nil before); leads = λ rest h. h }

  one_sent : (number : ℕ) (send : SendLine) (left : List SendLine) (workers after : List Worker) → SentUpTo number (send ∷ left) workers
      → AddsSend sources replica number send workers after → SentUpTo (number + 1) left after
  one_sent number send left workers after h (inl (away, same)) =
      let numbers : number + suc (length left) ≡ first + length all = h.numbers in record {
        can_send = h.can_send.1;
        numbers = omega (arith, numbers);
        more = h.more;
        appended = same ∙ h.appended;
        leads = λ rest k. h.leads rest (inl (away, k));
      }
  one_sent number send left workers after h (inr (one, here, is, added)) =
      let numbers : number + suc (length left) ≡ first + length all = h.numbers in record {
        can_send = h.can_send.1;
        numbers = omega (arith, numbers);
        more = h.more ++ one ∷ [];
        appended = added ∙ ap (λ (ws : List Worker). ws ++ one ∷ []) h.appended ∙ append_assoc before h.more (one ∷ []);
        leads = λ rest k. subst (AreForSends sources replica first all) (sym (append_assoc h.more (one ∷ []) rest)) (h.leads (one ∷ rest) (inr (one, rest, here, is, k, refl)));
      }

  module _ (index number : ℕ) (other : SendLine) (workers : List Worker) (within : index < length all) (h : SentUpTo number (drop index all) workers) where
    abbrev at : SendLine
    at = get_or all index other

    at_send : SentUpTo number (at ∷ drop (index + 1) all) workers
    at_send = subst (λ (ss : List SendLine). SentUpTo number ss workers) (drop_more all index other within) h

    pub next_can_send : CanSend (length sources) at
    next_can_send = at_send.can_send.0

    pub next_number_fits : first + length all < 2 ^ 32 → number + 1 < 2 ^ 32
    next_number_fits fits = let numbers : number + suc (length (drop (index + 1) all)) ≡ first + length all = at_send.numbers in omega arith

    pub next_sent : (after : List Worker) → AddsSend sources replica number at workers after → SentUpTo (number + 1) (drop (index + 1) all) after
    next_sent after adds = one_sent number at (drop (index + 1) all) workers after at_send adds

  pub all_sent : (index number : ℕ) (workers : List Worker) → length all ≤ index → SentUpTo number (drop index all) workers
      → (more : List Worker) × AreForSends sources replica first all more × (workers ≡ before ++ more)
  all_sent index number workers end h =
      let last = subst (λ (ss : List SendLine). SentUpTo number ss workers) (drop_all index all end) h in
      (last.more, subst (AreForSends sources replica first all) (append-nil last.more) (last.leads [] refl), last.appended)
