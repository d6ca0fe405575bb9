-- Journals that have the same entries in the first blocks: what a replica took there, what is written and what is legal is the same.
use Rattle.std.proofs.Common.{◌≡◌, ℕ, ◌+◌, ◌<◌, ◌≤◌, ◌==◌, cond, List, [], ◌∷◌, ◌++◌, refl, ap, subst, ◌∙◌, arith}
use Rattle.std.specs.List.{count_by}
use Rattle.std.proofs.lemmas.List.Sums.{sum_by-cons, sum_by-append}
use Rattle.grove_sorts.specs.declared.ident.Ident.{Ident}
use Rattle.grove_edits.specs.declared.edit.Edit.{Edit}
use Rattle.grove_edits.specs.Graph.{graph, IsCanonical}
use Rattle.session_script.specs.declared.line.Line.{Line}
use Rattle.session_script.specs.declared.item.Item.{Item}
use Rattle.session_script.specs.declared.item.Item.TheVariants as item
use Rattle.session_script.specs.declared.session.Session.{Session}
use Rattle.session_script.specs.Session.{is_block}
use Rattle.session_report.specs.Journal.{Entries, edits_of, IsLegal}
use Rattle.session_report.specs.Taken.{Journals, entries_at, taken_from, taken}
use Rattle.session_report.specs.Legal.{next_block, stage_at, IsLegalAt}
use Rattle.session_report.specs.Report.{IsSection, entries_from, AreSections, IsItemText, AreItemTexts}
use Rattle.session_report.proofs.OneReport.{item_text-along}

abbrev pub blocks : List Item → ℕ
blocks items = count_by is_block items

pub blocks-cons : (next : Item) (items : List Item) → blocks (next ∷ items) ≡ cond (is_block next) 1 0 + blocks items
blocks-cons next items = sum_by-cons (λ (x : Item). cond (is_block x) 1 0) next items

pub blocks-append : (before items : List Item) → blocks (before ++ items) ≡ blocks before + blocks items
blocks-append before items = sum_by-append (λ (x : Item). cond (is_block x) 1 0) before items

module _ {M : Type 0} where
  -- the entries in each block before a number are the same
  abbrev pub Agree : ℕ → Journals M → Journals M → Type 0
  Agree limit js ks = (block replica : ℕ) → block < limit → entries_at js block replica ≡ entries_at ks block replica

  taken_from-agree : (limit : ℕ) (js ks : Journals M) (replica start : ℕ) (items : List Item) → Agree limit js ks → start + blocks items ≤ limit
      → taken_from js replica start items ≡ taken_from ks replica start items
  taken_from-agree limit js ks replica start [] agree few = refl
  taken_from-agree limit js ks replica start (item.Load number edit ∷ items) agree few =
      let count = blocks-cons (item.Load number edit) items in
      ap (λ (es : List Edit). cond (number == replica) (edit ∷ es) es) (taken_from-agree limit js ks replica start items agree (omega arith))
  taken_from-agree limit js ks replica start (item.Block block ∷ items) agree few =
      let count = blocks-cons (item.Block block) items in
      ap (λ (es : Entries M). edits_of es ++ taken_from js replica (start + 1) items) (agree start (replica + 1) (omega arith))
      ∙ ap (λ (es : List Edit). edits_of (entries_at ks start (replica + 1)) ++ es) (taken_from-agree limit js ks replica (start + 1) items agree (omega arith))
  taken_from-agree limit js ks replica start (other ∷ items) agree few =
      let count = blocks-cons other items in
      taken_from-agree limit js ks replica start items agree (omega arith)

  pub taken-agree : (limit : ℕ) (js ks : Journals M) (replica : ℕ) (before : List Item) → Agree limit js ks → blocks before < limit → taken js replica before ≡ taken ks replica before
  taken-agree limit js ks replica before agree few = taken_from-agree limit js ks replica 1 before agree (omega arith)

  entries_from-agree : (limit : ℕ) (js ks : Journals M) (block replica : ℕ) (names : List Ident) → Agree limit js ks → block < limit → entries_from js block replica names ≡ entries_from ks block replica names
  entries_from-agree limit js ks block replica [] agree few = refl
  entries_from-agree limit js ks block replica (name ∷ names) agree few =
      ap (λ (es : Entries M). es ∷ entries_from js block (replica + 1) names) (agree block replica few)
      ∙ ap (λ (more : List (Entries M)). entries_at ks block replica ∷ more) (entries_from-agree limit js ks block (replica + 1) names agree few)

  sections-agree : (limit : ℕ) (js ks : Journals M) (before : List Item) (replica : ℕ) (names : List Ident) (text : List ℕ) → Agree limit js ks → blocks before < limit
      → AreSections js before replica names text → AreSections ks before replica names text
  sections-agree limit js ks before replica [] text agree few are = are
  sections-agree limit js ks before replica (name ∷ names) text agree few are = (
    are.0,
    are.1,
    subst (λ (es : List Edit). IsSection name es are.0) (taken-agree limit js ks replica before agree few) are.2,
    sections-agree limit js ks before (replica + 1) names are.1 agree few are.3,
    are.4,
  )

  item_text-agree : (limit : ℕ) (js ks : Journals M) (names : List Ident) (before : List Item) (next : Item) (text : List ℕ) → Agree limit js ks
      → blocks before + cond (is_block next) 1 0 < limit → IsItemText names js before next text → IsItemText names ks before next text
  item_text-agree limit js ks names before next text agree few is =
      item_text-along names js ks before next text
      (λ is_one. let one : ◌≡◌ {A = ℕ} (cond (is_block next) 1 0) 1 = ap {B = ℕ} (λ b. cond b 1 0) is_one in entries_from-agree limit js ks (next_block before) 1 names agree (omega arith))
      (λ sections are. sections-agree limit js ks before 0 names sections agree (omega arith) are)
      is

  pub item_texts-agree : (limit : ℕ) (js ks : Journals M) (names : List Ident) (before items : List Item) (text : List ℕ) → Agree limit js ks
      → blocks before + blocks items < limit → AreItemTexts names js before items text → AreItemTexts names ks before items text
  item_texts-agree limit js ks names before [] text agree few are = are
  item_texts-agree limit js ks names before (next ∷ items) text agree few are =
      let count = blocks-cons next items in
      let behind = blocks-append before (next ∷ []) in
      let one = blocks-cons next [] in (
        are.0,
        are.1,
        item_text-agree limit js ks names before next are.0 agree (omega arith) are.2,
        item_texts-agree limit js ks names (before ++ next ∷ []) items are.1 agree (omega arith) are.3,
        are.4,
      )

  pub legal_at-agree : (limit : ℕ) (js ks : Journals M) (session : Session) (before : List Item) (lines : List Line) (replica : ℕ) → Agree limit js ks → next_block before < limit
      → IsLegalAt session js before lines replica → IsLegalAt session ks before lines replica
  legal_at-agree limit js ks session before lines replica agree few is =
      let few_blocks : blocks before < limit = omega arith in
      record {
        sources = is.sources;
        are_sources = record {
          all = is.are_sources.all;
          each = λ number list at. subst (λ (es : List Edit). IsCanonical (graph es) list) (taken-agree limit js ks number before agree few_blocks) (is.are_sources.each number list at);
        };
        legal = subst (λ (es : Entries M). IsLegal (stage_at session before lines is.sources replica) (taken ks replica before) es) (agree (next_block before) (replica + 1) few)
            (subst (λ (es : List Edit). IsLegal (stage_at session before lines is.sources replica) es (entries_at js (next_block before) (replica + 1)))
            (taken-agree limit js ks replica before agree few_blocks) is.legal);
      }
