-- What stands behind some items of a session stands behind one more.
use Rattle.std.proofs.Common.{◌≡◌, ◌≢◌, ◌⊎◌, inl, inr, ℕ, zero, suc, ◌+◌, ◌<◌, ◌≤◌, true, false, ◌==◌, cond, List, [], ◌∷◌, ◌++◌, length, map, slice_get, Some, refl, sym, ap, subst, ◌∙◌, arith, append-nil, length-append}
use Rattle.std.proofs.Math.ListN.{set, length-set, replicate}
use Rattle.std.proofs.lemmas.List.{length-replicate}
use Rattle.std.specs.List.{AllByRecursion, count_by, sum_by, zip}
use Rattle.std.proofs.lemmas.Bool.{eq-eqb}
use Rattle.std.proofs.lemmas.Bool.Decides.{eqb_tells}
use Rattle.std.proofs.lemmas.List.Sums.{sum_by-cons, sum_by-append}
use Rattle.std.proofs.lemmas.Option.{slice_get_within}
use Rattle.grove_sorts.specs.declared.ident.Ident.{Ident}
use Rattle.grove_edits.specs.declared.edit.Edit.{Edit}
use Rattle.grove_edits.specs.Edit.{edit_edge}
use Rattle.grove_edits.specs.Graph.{graph, IsSame, IsCanonical}
use Rattle.user_actions.specs.Lists.{ArePresent}
use Rattle.user_actions.proofs.Openings.{canonical_present}
use Rattle.grove_answers.proofs.SameGraph.{printed_along}
use Rattle.session_script.specs.declared.item.Block.{Block}
use Rattle.session_script.specs.declared.item.Item.{Item}
use Rattle.session_script.specs.declared.item.Item.TheVariants as item
use Rattle.session_script.specs.declared.session.Session.{Session}
use Rattle.session_script.specs.Session.{IsSession, IsLine, is_block, is_show, send_count}
use Rattle.session_run.specs.Run.{HasRun}
use Rattle.replica_core.specs.Canonical.{with_edits}
use Rattle.replica_core.specs.Content.{Content, IsContent, no_edits, with_taken, with_block}
use Rattle.replica_core.specs.Step.{effect, reply, after}
use Rattle.replica_core.proofs.WithEdits.{with_edits-append, ascends-with_edits}
use Rattle.replica_core.proofs.Contents.{content_empty, content_taken, content_opened}
use Rattle.session_report.specs.Journal.{Entries, IsLegal, edits_of}
use Rattle.session_report.specs.Taken.{Journals, entries_at, taken}
use Rattle.session_report.specs.Legal.{next_block, next_send, stage_at, IsLegalAt, AreLegalFor}
use Rattle.session_report.specs.Report.{IsSection, AreSections, IsItemText, AreItemTexts, block_heading, show_heading, journals_text}
use Rattle.session_answers.specs.BlockJournals.{block_journals}
use Rattle.session_answers.specs.Numbers.{next_numbers, numbers_behind}
use Rattle.session_answers.proofs.Lists.{some_at}
use Rattle.session_answers.proofs.Numbers.{numbers_stay, numbers_more}
use Rattle.session_answers.specs.Running.{HaveTaken, IsBehind, HasLoaded, HaveRun, HasRunBlock, HasShown, AreShown, sources_of, stage_of}
use Rattle.session_answers.specs.declared.running.Running.{Running}
use Rattle.session_answers.proofs.Agreeing.{Agree, blocks, blocks-cons, blocks-append, taken-agree, item_texts-agree, legal_at-agree}
use Rattle.session_answers.proofs.OwnEntries.{agree_behind, entries_behind, entries_from-each, of_block}
use Rattle.session_answers.proofs.MoreItems.{places_without, places_with, earlier_blocks, taken_load, taken_block, taken_other, report_more, at_end_or_before}
use Rattle.session_answers.proofs.Commands.{entries_can}
use Rattle.session_answers.proofs.Planned.{taken_graph, steps_planned, journal_taken}

-- ---- what replicas have taken

-- a list of edits taken by nobody before is a canonical one
taken_canonical : (edits : List Edit) → IsCanonical (graph edits) (with_edits edits [])
taken_canonical edits = record { in_order = ascends-with_edits edits [] tt; same = taken_graph edits }

pub canonical_along : (content : Content) (edits : List Edit) → content.edits ≡ with_edits edits [] → IsCanonical (graph edits) content.edits
canonical_along content edits is = subst (IsCanonical (graph edits)) (sym is) (taken_canonical edits)

-- the edges that a block opens with are those that are not Absent
opened_present : (content : Content) (edits : List Edit) → content.edits ≡ with_edits edits [] → ArePresent (graph edits) (with_block content).opening
opened_present content edits is = canonical_present (graph edits) content.edits (canonical_along content edits is)

opened_content : (content : Content) (edits : List Edit) → content.edits ≡ with_edits edits [] → IsContent (with_block content)
opened_content content edits is =
    subst (λ (es : List Edit). IsContent (record { edits = es; opening = map edit_edge es })) (sym is)
    (content_opened (with_taken edits no_edits) (content_taken no_edits edits content_empty))

-- what is read of a list in which one item was set
get-set : {A : Type 0} (xs : List A) (i k : ℕ) (v new : A) → slice_get (set xs i v) k ≡ Some new → ((i ≡ k) × (new ≡ v)) ⊎ ((i ≢ k) × (slice_get xs k ≡ Some new))
get-set [] i k v new is = absurd cc
get-set (x ∷ xs) zero zero v new is = inl (refl, cc)
get-set (x ∷ xs) zero (suc k) v new is = inr ((λ e. omega arith), is)
get-set (x ∷ xs) (suc i) zero v new is = inr ((λ e. omega arith), is)
get-set (x ∷ xs) (suc i) (suc k) v new is = further (get-set xs i k v new is) where
  further : ((i ≡ k) × (new ≡ v)) ⊎ ((i ≢ k) × (slice_get xs k ≡ Some new)) → ((suc i ≡ suc k) × (new ≡ v)) ⊎ ((suc i ≢ suc k) × (slice_get xs k ≡ Some new))
  further (inl here) = inl (ap (λ n. suc n) here.0, here.1)
  further (inr there) = inr ((λ e. there.0 (omega arith)), there.1)

same_some : {A : Type 0} (x y : A) → Some x ≡ Some y → x ≡ y
same_some x y e = cc

get-map : {A B : Type 0} (f : A → B) (xs : List A) (k : ℕ) (x : A) → slice_get xs k ≡ Some x → slice_get (map f xs) k ≡ Some (f x)
get-map f [] k x is = absurd cc
get-map f (y ∷ xs) zero x is = let same : y ≡ x = cc in ap (λ z. Some (f z)) same
get-map f (y ∷ xs) (suc k) x is = get-map f xs k x is

length-map : {A B : Type 0} (f : A → B) (xs : List A) → length (map f xs) ≡ length xs
length-map f [] = refl
length-map f (x ∷ xs) = ap (λ n. suc n) (length-map f xs)

-- an edit more, where the replica is the one that loads it
loaded : (number k : ℕ) (edit : Edit) (before : List Edit) (content : Content) → number ≡ k → content.edits ≡ with_edits before [] → (with_taken (edit ∷ []) content).edits ≡ with_edits (before ++ cond (number == k) (edit ∷ []) []) []
loaded number k edit before content same is =
    ap (with_edits (edit ∷ [])) is ∙ sym (with_edits-append before (edit ∷ []) [])
    ∙ ap (λ b. with_edits (before ++ cond b (edit ∷ []) []) []) (sym (eq-eqb number k same))

not_loaded : (number k : ℕ) (edit : Edit) (before : List Edit) → number ≢ k → with_edits before [] ≡ with_edits (before ++ cond (number == k) (edit ∷ []) []) []
not_loaded number k edit before other = by_tell (eqb_tells number k) where
  by_tell : (((number == k) ≡ true) × (number ≡ k)) ⊎ (((number == k) ≡ false) × (number ≢ k)) → with_edits before [] ≡ with_edits (before ++ cond (number == k) (edit ∷ []) []) []
  by_tell (inl same) = absurd (other same.1)
  by_tell (inr apart) = ap (λ es. with_edits es []) (sym (append-nil before)) ∙ ap (λ b. with_edits (before ++ cond b (edit ∷ []) []) []) (sym apart.0)

module _ (names : List Ident) (js : Journals Content) (before : List Item) where
  load_taken : (number : ℕ) (edit : Edit) (old : Content) (replicas : List Content) → HaveTaken names js before replicas → slice_get replicas number ≡ Some old
      → HaveTaken names js (before ++ item.Load number edit ∷ []) (set replicas number (with_taken (edit ∷ []) old))
  load_taken number edit old replicas have is_old = record { all = length-set replicas number (with_taken (edit ∷ []) old) ∙ have.all; each = each } where
    at : (k : ℕ) (replica : Content) → ((number ≡ k) × (replica ≡ with_taken (edit ∷ []) old)) ⊎ ((number ≢ k) × (slice_get replicas k ≡ Some replica))
        → replica.edits ≡ with_edits (taken js k before ++ cond (number == k) (edit ∷ []) []) []
    at k replica (inl here) =
        let own : slice_get replicas k ≡ Some old = subst (λ n. slice_get replicas n ≡ Some old) here.0 is_old in
        ap (λ (c : Content). c.edits) here.1 ∙ loaded number k edit (taken js k before) old here.0 (have.each k old own)
    at k replica (inr there) = have.each k replica there.1 ∙ not_loaded number k edit (taken js k before) there.0

    each : (k : ℕ) (replica : Content) → slice_get (set replicas number (with_taken (edit ∷ []) old)) k ≡ Some replica → replica.edits ≡ with_edits (taken js k (before ++ item.Load number edit ∷ [])) []
    each k replica is =
        at k replica (get-set replicas number k (with_taken (edit ∷ []) old) replica is)
        ∙ ap (λ es. with_edits es []) (sym (taken_load js k number before edit))

  show_taken : (replicas : List Content) → HaveTaken names js before replicas → HaveTaken names js (before ++ item.Show ∷ []) replicas
  show_taken replicas have = record { all = have.all; each = λ k replica is. have.each k replica is ∙ ap (λ es. with_edits es []) (sym (taken_other js k before item.Show refl)) }

  -- ---- sections

  section_taken : (name : Ident) (replica : Content) (edits : List Edit) (text : List ℕ) → replica.edits ≡ with_edits edits [] → IsSection name replica.edits text → IsSection name edits text
  section_taken name replica edits text is shown = record {
    printed = shown.printed;
    is_print_text = printed_along (graph replica.edits) (graph edits) shown.printed (subst (λ (es : List Edit). IsSame (graph es) (graph edits)) (sym is) (taken_graph edits)) shown.is_print_text;
    written = shown.written;
  }

  sections_taken : (start : ℕ) (of : List Ident) (replicas : List Content) (text : List ℕ) → length replicas ≡ length of
      → ((k : ℕ) (replica : Content) → slice_get replicas k ≡ Some replica → replica.edits ≡ with_edits (taken js (start + k) before) []) → AreShown (zip of replicas) text → AreSections js before start of text
  sections_taken start [] [] text all each shown = shown
  sections_taken start [] (replica ∷ replicas) text all each shown = absurd (omega arith)
  sections_taken start (name ∷ of) [] text all each shown = absurd (omega arith)
  sections_taken start (name ∷ of) (replica ∷ replicas) text all each shown =
      let here : start + 0 ≡ start = omega arith in (
        shown.0,
        shown.1,
        section_taken name replica (taken js start before) shown.0 (each 0 replica refl ∙ ap (λ n. with_edits (taken js n before) []) here) shown.2,
        sections_taken (start + 1) of replicas shown.1 (omega arith)
            (λ k other is. let there : start + suc k ≡ (start + 1) + k = omega arith in each (suc k) other is ∙ ap (λ n. with_edits (taken js n before) []) there) shown.3,
        shown.4,
      )

  show_text : (replicas : List Content) (sections : List ℕ) (shows : ℕ) → HaveTaken names js before replicas → AreShown (zip names replicas) sections → shows ≡ count_by is_show before
      → IsItemText names js before item.Show (show_heading (shows + 1) ++ sections)
  show_text replicas sections shows have shown are =
      let first : (k : ℕ) → k ≡ 0 + k = λ k. omega arith in (
        sections,
        sections_taken 0 names replicas sections have.all (λ k replica is. have.each k replica is ∙ ap (λ n. with_edits (taken js n before) []) (first k)) shown,
        ap (λ n. show_heading (n + 1) ++ sections) are,
      )

-- ---- legal journals

-- an item that is no block adds no journal
legal_without : (session : Session) (before : List Item) (next : Item) (js : Journals Content) → ((block : Block) → next ≢ item.Block block) → AreLegalFor session before js → AreLegalFor session (before ++ next ∷ []) js
legal_without session before next js other legal = record {
  places = legal.places ∙ sym (places_without session.replicas before next other);
  each = λ earlier later block number is within. at earlier later block number within (at_end_or_before before next earlier (item.Block block) later is);
} where
  at : (earlier later : List Item) (block : Block) (number : ℕ) → number < length session.replicas
      → ((next ≡ item.Block block) × (before ≡ earlier)) ⊎ ((rest : List Item) × (before ≡ earlier ++ item.Block block ∷ rest)) → IsLegalAt session js earlier block.lines number
  at earlier later block number within (inl end) = absurd (other block end.0)
  at earlier later block number within (inr there) = legal.each earlier there.0 block number there.1 within

same_block : (a b : Block) → item.Block a ≡ item.Block b → a ≡ b
same_block a b e = cc

-- a block adds a journal for each replica
legal_with : (session : Session) (before : List Item) (block : Block) (js : Journals Content) (more : List (Entries Content)) → AreLegalFor session before js → length more ≡ length session.replicas
    → ((number : ℕ) → number < length session.replicas → IsLegalAt session (js ++ block_journals (next_block before) 1 more) before block.lines number)
    → AreLegalFor session (before ++ item.Block block ∷ []) (js ++ block_journals (next_block before) 1 more)
legal_with session before block js more legal all here = record {
  places = places_with session.replicas before block js more legal.places all;
  each = λ earlier later own number is within. at earlier own number within (at_end_or_before before (item.Block block) earlier (item.Block own) later is);
} where
  agree : Agree (next_block before) js (js ++ block_journals (next_block before) 1 more)
  agree = agree_behind (next_block before) js (block_journals (next_block before) 1 more) (of_block (λ n. next_block before ≤ n) (next_block before) 1 more (omega arith))

  at : (earlier : List Item) (own : Block) (number : ℕ) → number < length session.replicas
      → ((item.Block block ≡ item.Block own) × (before ≡ earlier)) ⊎ ((rest : List Item) × (before ≡ earlier ++ item.Block own ∷ rest)) → IsLegalAt session (js ++ block_journals (next_block before) 1 more) earlier own.lines number
  at earlier own number within (inl end) =
      subst (λ (b : Block). IsLegalAt session (js ++ block_journals (next_block before) 1 more) earlier b.lines number) (same_block block own end.0) (subst (λ (items : List Item). IsLegalAt session (js ++ block_journals (next_block before) 1 more) items block.lines number) end.1 (here number within))
  at earlier own number within (inr there) =
      let count : blocks before ≡ blocks earlier + blocks (item.Block own ∷ there.0) = ap blocks there.1 ∙ blocks-append earlier (item.Block own ∷ there.0) in
      let one = blocks-cons (item.Block own) there.0 in
      legal_at-agree (next_block before) js (js ++ block_journals (next_block before) 1 more) session earlier own.lines number agree (omega arith) (legal.each earlier there.0 own number there.1 within)

-- ---- a block that was run

module _ (session : Session) (before : List Item) (block : Block) (js : Journals Content) (replicas lasts : List Content) (made : List (Entries Content))
    (is_session : IsSession session) (lines : AllByRecursion (IsLine session) block.lines) (have : HaveTaken session.replicas js before replicas) (legal : AreLegalFor session before js)
    (ran : HaveRun session block (next_send before) (map with_block replicas) made lasts) where
  abbrev all_journals : Journals Content
  all_journals = js ++ block_journals (next_block before) 1 made

  abbrev sources : List (List Edit)
  sources = sources_of (map with_block replicas)

  opened_all : length (map with_block replicas) ≡ length session.replicas
  opened_all = length-map with_block replicas ∙ have.all

  agrees : Agree (next_block before) js all_journals
  agrees = agree_behind (next_block before) js (block_journals (next_block before) 1 made) (of_block (λ n. next_block before ≤ n) (next_block before) 1 made (omega arith))

  taken_still : (number : ℕ) → taken js number before ≡ taken all_journals number before
  taken_still number = taken-agree (next_block before) js all_journals number before agrees (omega arith)

  own_journal : (number : ℕ) (journal : Entries Content) → slice_get made number ≡ Some journal → entries_at all_journals (next_block before) (1 + number) ≡ journal
  own_journal number journal is = entries_behind js (next_block before) number made journal (earlier_blocks session.replicas before js legal.places) is

  own_journal_from_one : (number : ℕ) (journal : Entries Content) → slice_get made number ≡ Some journal → entries_at all_journals (next_block before) (number + 1) ≡ journal
  own_journal_from_one number journal is = let same : number + 1 ≡ 1 + number = omega arith in ap (entries_at all_journals (next_block before)) same ∙ own_journal number journal is

  edits_before : (number : ℕ) (replica : Content) → slice_get replicas number ≡ Some replica → replica.edits ≡ with_edits (taken all_journals number before) []
  edits_before number replica is = have.each number replica is ∙ ap (λ es. with_edits es []) (taken_still number)

  has_run : (number : ℕ) (replica last : Content) (journal : Entries Content) → slice_get replicas number ≡ Some replica → slice_get lasts number ≡ Some last → slice_get made number ≡ Some journal
      → HasRun after effect reply (stage_of session block (next_send before) sources number) (with_block replica) journal last
  has_run number replica last journal is_replica is_last is_journal = ran.each number (with_block replica) last journal (get-map with_block replicas number replica is_replica) is_last is_journal

  block_taken : HaveTaken session.replicas all_journals (before ++ item.Block block ∷ []) lasts
  block_taken = record { all = ran.as_many ∙ opened_all; each = each } where
    each : (number : ℕ) (last : Content) → slice_get lasts number ≡ Some last → last.edits ≡ with_edits (taken all_journals number (before ++ item.Block block ∷ [])) []
    each number last is_last =
        let within : number < length lasts = slice_get_within lasts number last is_last in
        let many : length lasts ≡ length (map with_block replicas) = ran.as_many in
        let journals : length made ≡ length (map with_block replicas) = ran.as_many_journals in
        let same : length (map with_block replicas) ≡ length replicas = length-map with_block replicas in
        let first = some_at replicas number (omega arith) in
        let own = some_at made number (omega arith) in
        let run = has_run number first.0 last own.0 first.1 is_last own.1 in
        ap (λ (c : Content). c.edits) run.replays.is
        ∙ journal_taken (with_block first.0) (taken all_journals number before) own.0 (edits_before number first.0 first.1) run.replays.steps
        ∙ ap (λ es. with_edits (taken all_journals number before ++ edits_of es) []) (sym (own_journal_from_one number own.0 own.1))
        ∙ ap (λ es. with_edits es []) (sym (taken_block all_journals number before block))

  source_at : (number : ℕ) (list : List Edit) → slice_get sources number ≡ Some list → IsCanonical (graph (taken all_journals number before)) list
  source_at number list is =
      let within : number < length sources = slice_get_within sources number list is in
      let many : length sources ≡ length (map with_block replicas) = length-map (λ (replica : Content). replica.edits) (map with_block replicas) in
      let same : length (map with_block replicas) ≡ length replicas = length-map with_block replicas in
      let first = some_at replicas number (omega arith) in
      let own = get-map (λ (replica : Content). replica.edits) (map with_block replicas) number (with_block first.0) (get-map with_block replicas number first.0 first.1) in
      subst (IsCanonical (graph (taken all_journals number before))) (same_some first.0.edits list (sym own ∙ is)) (canonical_along first.0 (taken all_journals number before) (edits_before number first.0 first.1))

  legal_here : (number : ℕ) → number < length session.replicas → IsLegalAt session all_journals before block.lines number
  legal_here number within =
      let many : length lasts ≡ length (map with_block replicas) = ran.as_many in
      let journals : length made ≡ length (map with_block replicas) = ran.as_many_journals in
      let same : length (map with_block replicas) ≡ length replicas = length-map with_block replicas in
      let all : length replicas ≡ length session.replicas = have.all in
      let first = some_at replicas number (omega arith) in
      let last = some_at lasts number (omega arith) in
      let own = some_at made number (omega arith) in
      let run = has_run number first.0 last.0 own.0 first.1 last.1 own.1 in
      let edits = edits_before number first.0 first.1 in
      record {
        sources = sources;
        are_sources = record { all = length-map (λ (replica : Content). replica.edits) (map with_block replicas) ∙ opened_all; each = source_at };
        legal = subst (IsLegal (stage_at session before block.lines sources number) (taken all_journals number before)) (sym (own_journal_from_one number own.0 own.1))
            (record {
              calls = run.calls;
              planned = steps_planned (graph (taken all_journals number before)) (with_block first.0) (taken all_journals number before) own.0
                  (opened_content first.0 (taken all_journals number before) edits) (opened_present first.0 (taken all_journals number before) edits) edits
                  (entries_can session (stage_at session before block.lines sources number) own.0 is_session refl lines run.calls) run.replays.steps;
            });
      }

  block_legal : AreLegalFor session (before ++ item.Block block ∷ []) all_journals
  block_legal = legal_with session before block js made legal (ran.as_many_journals ∙ opened_all) legal_here

  block_text : (number : ℕ) → number ≡ next_block before → IsItemText session.replicas all_journals before (item.Block block) (block_heading number ++ journals_text session.replicas made)
  block_text number is =
      ap (λ n. block_heading n ++ journals_text session.replicas made) is
      ∙ ap (λ es. block_heading (next_block before) ++ journals_text session.replicas es)
      (sym (entries_from-each all_journals (next_block before) 1 session.replicas made (sym (ran.as_many_journals ∙ opened_all)) own_journal))

  block_report : (number : ℕ) (text : List ℕ) → number ≡ next_block before → AreItemTexts session.replicas js [] before text
      → AreItemTexts session.replicas all_journals [] (before ++ item.Block block ∷ []) (text ++ (block_heading number ++ journals_text session.replicas made))
  block_report number text is report =
      report_more session.replicas all_journals before (item.Block block) text (block_heading number ++ journals_text session.replicas made)
      (item_texts-agree (next_block before) js all_journals session.replicas [] before text agrees (omega arith) report) (block_text number is)

-- ---- before the first item

empty_ones : (count k : ℕ) (replica : Content) → slice_get (replicate count no_edits) k ≡ Some replica → replica ≡ no_edits
empty_ones zero k replica is = absurd cc
empty_ones (suc count) zero replica is = cc
empty_ones (suc count) (suc k) replica is = empty_ones count k replica is

no_item : (before after : List Item) (block : Block) → [] ≡ before ++ item.Block block ∷ after → ⊥
no_item before after block is = omega (arith, ap length is, length-append before (item.Block block ∷ after))

pub begin_behind : (session : Session) (running : Running) → running.replicas.items ≡ replicate (length session.replicas) no_edits → running.journals ≡ [] → running.text.items ≡ []
    → running.blocks ≡ 0 → running.sends ≡ 0 → running.shows ≡ 0 → running.calls.items ≡ next_numbers [] session.authors → IsBehind session [] running
begin_behind session running replicas journals text blocks sends shows calls = record {
  replicas = subst (λ js. HaveTaken session.replicas js [] running.replicas.items) (sym journals)
      (subst (HaveTaken session.replicas [] []) (sym replicas)
      (record { all = length-replicate (length session.replicas) no_edits; each = λ number replica is. ap (λ (c : Content). c.edits) (empty_ones (length session.replicas) number replica is) }));
  legal = subst (AreLegalFor session []) (sym journals) (record { places = refl; each = λ before after block number is within. absurd (no_item before after block is) });
  report = text;
  blocks = blocks;
  sends = sends;
  shows = shows;
  calls = calls;
}

-- ---- an item more

-- how many there were of a kind
counted : {A : Type 0} (f : A → ℕ) (before : List A) (next : A) (old new : ℕ) → old ≡ sum_by f before → new ≡ old + f next → new ≡ sum_by f (before ++ next ∷ [])
counted f before next old new is more =
    let all = sum_by-append f before (next ∷ []) in
    let own = sum_by-cons f next [] in
    omega arith

module _ (session : Session) (before : List Item) (old new : Running) (behind : IsBehind session before old) where
  pub load_behind : (number : ℕ) (edit : Edit) → HasLoaded number edit old new → IsBehind session (before ++ item.Load number edit ∷ []) new
  load_behind number edit has = record {
    replicas = subst (λ rs. HaveTaken session.replicas new.journals (before ++ item.Load number edit ∷ []) rs) (sym has.replicas)
        (subst (λ js. HaveTaken session.replicas js (before ++ item.Load number edit ∷ []) (set old.replicas.items number (with_taken (edit ∷ []) has.old))) (sym has.journals)
        (load_taken session.replicas old.journals before number edit has.old old.replicas.items behind.replicas has.is_old));
    legal = subst (AreLegalFor session (before ++ item.Load number edit ∷ [])) (sym has.journals) (legal_without session before (item.Load number edit) old.journals (λ block e. cc) behind.legal);
    report = subst (λ js. AreItemTexts session.replicas js [] (before ++ item.Load number edit ∷ []) new.text.items) (sym has.journals)
        (subst (AreItemTexts session.replicas old.journals [] (before ++ item.Load number edit ∷ [])) (append-nil old.text.items ∙ sym has.text)
        (report_more session.replicas old.journals before (item.Load number edit) old.text.items [] behind.report refl));
    blocks = counted (λ (x : Item). cond (is_block x) 1 0) before (item.Load number edit) old.blocks new.blocks behind.blocks (has.blocks ∙ omega arith);
    sends = counted send_count before (item.Load number edit) old.sends new.sends behind.sends (has.sends ∙ omega arith);
    shows = counted (λ (x : Item). cond (is_show x) 1 0) before (item.Load number edit) old.shows new.shows behind.shows (has.shows ∙ omega arith);
    calls = ap (λ calls. calls.items) has.calls ∙ (behind.calls ∙ numbers_stay before (item.Load number edit) session.authors (λ author. refl));
  }

  pub show_behind : HasShown session old new → IsBehind session (before ++ item.Show ∷ []) new
  show_behind has = record {
    replicas = subst (λ rs. HaveTaken session.replicas new.journals (before ++ item.Show ∷ []) rs) (sym has.replicas)
        (subst (λ js. HaveTaken session.replicas js (before ++ item.Show ∷ []) old.replicas.items) (sym has.journals) (show_taken session.replicas old.journals before old.replicas.items behind.replicas));
    legal = subst (AreLegalFor session (before ++ item.Show ∷ [])) (sym has.journals) (legal_without session before item.Show old.journals (λ block e. cc) behind.legal);
    report = subst (λ js. AreItemTexts session.replicas js [] (before ++ item.Show ∷ []) new.text.items) (sym has.journals)
        (subst (AreItemTexts session.replicas old.journals [] (before ++ item.Show ∷ [])) (sym has.text)
        (report_more session.replicas old.journals before item.Show old.text.items (show_heading (old.shows + 1) ++ has.sections) behind.report
        (show_text session.replicas old.journals before old.replicas.items has.sections old.shows behind.replicas has.are_sections behind.shows)));
    blocks = counted (λ (x : Item). cond (is_block x) 1 0) before item.Show old.blocks new.blocks behind.blocks (has.blocks ∙ omega arith);
    sends = counted send_count before item.Show old.sends new.sends behind.sends (has.sends ∙ omega arith);
    shows = counted (λ (x : Item). cond (is_show x) 1 0) before item.Show old.shows new.shows behind.shows has.shows;
    calls = ap (λ calls. calls.items) has.calls ∙ (behind.calls ∙ numbers_stay before item.Show session.authors (λ author. refl));
  }

  pub block_behind : (block : Block) → IsSession session → AllByRecursion (IsLine session) block.lines → HasRunBlock session block old new → IsBehind session (before ++ item.Block block ∷ []) new
  block_behind block is lines has =
      let first : old.sends + 1 ≡ next_send before = ap (λ n. n + 1) behind.sends in
      let number : old.blocks + 1 ≡ next_block before = ap (λ n. n + 1) behind.blocks in
      let ran = subst (λ n. HaveRun session block n (map with_block old.replicas.items) has.journals new.replicas.items) first has.have_run in
      let kept : new.journals ≡ old.journals ++ block_journals (next_block before) 1 has.journals = has.kept ∙ ap (λ n. old.journals ++ block_journals n 1 has.journals) number in
      record {
        replicas = subst (λ js. HaveTaken session.replicas js (before ++ item.Block block ∷ []) new.replicas.items) (sym kept)
            (block_taken session before block old.journals old.replicas.items new.replicas.items has.journals is lines behind.replicas behind.legal ran);
        legal = subst (AreLegalFor session (before ++ item.Block block ∷ [])) (sym kept)
            (block_legal session before block old.journals old.replicas.items new.replicas.items has.journals is lines behind.replicas behind.legal ran);
        report = subst (λ js. AreItemTexts session.replicas js [] (before ++ item.Block block ∷ []) new.text.items) (sym kept)
            (subst (AreItemTexts session.replicas (old.journals ++ block_journals (next_block before) 1 has.journals) [] (before ++ item.Block block ∷ [])) (sym has.text)
            (block_report session before block old.journals old.replicas.items new.replicas.items has.journals is lines behind.replicas behind.legal ran (old.blocks + 1) old.text.items number behind.report));
        blocks = counted (λ (x : Item). cond (is_block x) 1 0) before (item.Block block) old.blocks new.blocks behind.blocks has.blocks;
        sends = counted send_count before (item.Block block) old.sends new.sends behind.sends has.sends;
        shows = counted (λ (x : Item). cond (is_show x) 1 0) before (item.Block block) old.shows new.shows behind.shows (has.shows ∙ omega arith);
        calls = has.calls ∙ (ap (numbers_behind block.lines session.authors) behind.calls ∙ numbers_more before block session.authors);
      }
