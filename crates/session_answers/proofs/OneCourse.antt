-- A session without meetings takes one course: whatever its legal journals are, each replica takes the same edits.
use Rattle.std.proofs.Common.{◌≡◌, ℕ, suc, ◌+◌, ◌<◌, ◌≤◌, ◌==◌, cond, List, [], ◌∷◌, ◌++◌, length, slice_get, Some, refl, sym, ap, subst, ◌∙◌, arith, append_assoc, append-nil}
use Rattle.std.specs.List.{AllByRecursion}
use Rattle.std.proofs.lemmas.Option.{slice_get_within}
use Rattle.grove_edits.specs.declared.edit.Edit.{Edit}
use Rattle.grove_edits.specs.Graph.{graph, IsCanonical}
use Rattle.grove_edits.proofs.Unique.{canonical_once}
use Rattle.session_script.specs.declared.author.Declared.{Declared}
use Rattle.session_script.specs.declared.item.Block.{Block}
use Rattle.session_script.specs.declared.item.Item.{Item}
use Rattle.session_script.specs.declared.item.Item.TheVariants as item
use Rattle.session_script.specs.declared.line.Line.{Line}
use Rattle.session_script.specs.declared.line.Line.TheVariants as line
use Rattle.session_script.specs.declared.session.Session.{Session}
use Rattle.session_script.specs.Session.{IsSession}
use Rattle.session_run.specs.Calls.{sends_of}
use Rattle.session_run.specs.Run.{CanRun}
use Rattle.session_run.proofs.OfSessions.{block_can_run}
use Rattle.session_report.specs.Journal.{Entries, IsLegal, edits_of}
use Rattle.session_report.specs.Taken.{Journals, entries_at, taken}
use Rattle.session_report.specs.Legal.{next_block, stage_at, AreSources, AreLegal}
use Rattle.session_report.specs.Alone.{IsWithoutMeetings}
use Rattle.session_answers.proofs.MoreItems.{taken_load, taken_block, taken_other}
use Rattle.session_answers.proofs.OneActor.{one_legal_journal}

-- lists of one length that agree at each index are one
lists_alike : {A : Type 0} (xs ys : List A) → length xs ≡ length ys → ((number : ℕ) (x y : A) → slice_get xs number ≡ Some x → slice_get ys number ≡ Some y → x ≡ y) → xs ≡ ys
lists_alike [] [] long each = refl
lists_alike [] (y ∷ ys) long each = absurd (omega arith)
lists_alike (x ∷ xs) [] long each = absurd (omega arith)
lists_alike (x ∷ xs) (y ∷ ys) long each =
    ap (λ z. z ∷ xs) (each 0 x y refl refl) ∙ ap (λ zs. y ∷ zs) (lists_alike xs ys (omega arith) (λ number a b at_a at_b. each (suc number) a b at_a at_b))

cuts_of : (authors : List Declared) (replicas : ℕ) (lines : List Line) → AllByRecursion (CanRun authors replicas) lines → AllByRecursion (λ send. 1 ≤ send.cut) (sends_of lines)
cuts_of authors replicas [] all = tt
cuts_of authors replicas (line.Author author action ∷ lines) all = cuts_of authors replicas lines all.1
cuts_of authors replicas (line.Send send ∷ lines) all = (all.0.2, cuts_of authors replicas lines all.1)

module _ {M : Type 0} (session : Session) (js ks : Journals M) (is : IsSession session) (alone : IsWithoutMeetings session) (of_js : AreLegal session js) (of_ks : AreLegal session ks) where
  -- the replicas have taken the same in some items
  abbrev Alike : List Item → Type 0
  Alike before = (replica : ℕ) → replica < length session.replicas → taken js replica before ≡ taken ks replica before

  one_sources : (before : List Item) (a b : List (List Edit)) → Alike before → AreSources session js before a → AreSources session ks before b → a ≡ b
  one_sources before a b alike of_a of_b =
      lists_alike a b (of_a.all ∙ sym of_b.all)
      (λ number x y at_x at_y.
      let within : number < length session.replicas = omega (arith, slice_get_within a number x at_x, of_a.all) in
      canonical_once (graph (taken ks number before)) x y (subst (λ (es : List Edit). IsCanonical (graph es) x) (alike number within) (of_a.each number x at_x)) (of_b.each number y at_y))

  -- a block has the same entries at each replica
  entries_alike : (before after : List Item) (block : Block) → session.items ≡ before ++ item.Block block ∷ after → Alike before
      → (replica : ℕ) → replica < length session.replicas → entries_at js (next_block before) (replica + 1) ≡ entries_at ks (next_block before) (replica + 1)
  entries_alike before after block parts alike replica within =
      let a = of_js.each before after block replica parts within in
      let b = of_ks.each before after block replica parts within in
      let sources : a.sources ≡ b.sources = one_sources before a.sources b.sources alike a.are_sources b.are_sources in
      one_legal_journal (stage_at session before block.lines b.sources replica) (alone before after block b.sources replica parts within)
      (cuts_of session.authors (length session.replicas) block.lines (block_can_run session before after block is parts))
      (taken ks replica before) (entries_at js (next_block before) (replica + 1)) (entries_at ks (next_block before) (replica + 1))
      (subst (λ (es : List Edit). IsLegal (stage_at session before block.lines b.sources replica) es (entries_at js (next_block before) (replica + 1))) (alike replica within)
      (subst (λ (ss : List (List Edit)). IsLegal (stage_at session before block.lines ss replica) (taken js replica before) (entries_at js (next_block before) (replica + 1))) sources a.legal))
      b.legal

  one_item_more : (before after : List Item) (next : Item) → session.items ≡ before ++ next ∷ after → Alike before → Alike (before ++ next ∷ [])
  one_item_more before after (item.Load number edit) parts alike replica within =
      taken_load js replica number before edit
      ∙ ap (λ (es : List Edit). es ++ cond (number == replica) (edit ∷ []) []) (alike replica within)
      ∙ sym (taken_load ks replica number before edit)
  one_item_more before after (item.Block block) parts alike replica within =
      taken_block js replica before block
      ∙ ap (λ (es : List Edit). es ++ edits_of (entries_at js (next_block before) (replica + 1))) (alike replica within)
      ∙ ap (λ (es : Entries M). taken ks replica before ++ edits_of es) (entries_alike before after block parts alike replica within)
      ∙ sym (taken_block ks replica before block)
  one_item_more before after next parts alike replica within = taken_other js replica before next refl ∙ alike replica within ∙ sym (taken_other ks replica before next refl)

  all_items : (before rest : List Item) → session.items ≡ before ++ rest → Alike before → Alike session.items
  all_items before [] parts alike = subst Alike (sym (parts ∙ append-nil before)) alike
  all_items before (next ∷ rest) parts alike =
      all_items (before ++ next ∷ []) rest (parts ∙ sym (append_assoc before (next ∷ []) rest)) (one_item_more before rest next parts alike)

  pub one_course : (replica : ℕ) → replica < length session.replicas → taken js replica session.items ≡ taken ks replica session.items
  one_course = all_items [] session.items refl (λ replica within. refl)
