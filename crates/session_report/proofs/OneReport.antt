-- A session and its journals have one report.
use Rattle.std.proofs.Common.{◌≡◌, ℕ, ◌+◌, true, List, [], ◌∷◌, ◌++◌, refl, sym, ap, ◌∙◌}
use Rattle.grove_sorts.specs.declared.ident.Ident.{Ident}
use Rattle.grove_edits.specs.declared.edit.Edit.{Edit}
use Rattle.grove_edits.specs.Graph.{graph, IsSame, HasSameEdits}
use Rattle.grove_edits.proofs.Graphs.{graph-same_edits}
use Rattle.grove_answers.proofs.SameGraph.{printed_along, one_print_text}
use Rattle.session_script.specs.declared.item.Item.{Item}
use Rattle.session_script.specs.declared.item.Item.TheVariants as item
use Rattle.session_script.specs.declared.session.Session.{Session}
use Rattle.session_script.specs.Session.{is_block}
use Rattle.session_report.specs.Journal.{Entries}
use Rattle.session_report.specs.Taken.{Journals, taken}
use Rattle.session_report.specs.Legal.{next_block, next_show}
use Rattle.session_report.specs.Report.{IsSection, entries_from, AreSections, IsItemText, AreItemTexts, IsReport, replica_heading, block_heading, journals_text, show_heading}

-- graphs that are the same have the same print text
same_printed : (name other : Ident) (a b : List Edit) (x y : List ℕ) → IsSame (graph a) (graph b) → (of_a : IsSection name a x) → (of_b : IsSection other b y) → of_a.printed ≡ of_b.printed
same_printed name other a b x y same of_a of_b =
    one_print_text (graph b) of_a.printed of_b.printed (printed_along (graph a) (graph b) of_a.printed same of_a.is_print_text) of_b.is_print_text

-- a replica has one section
one_section : (name : Ident) (a : List Edit) (x y : List ℕ) → IsSection name a x → IsSection name a y → x ≡ y
one_section name a x y of_x of_y =
    of_x.written ∙ ap (λ (t : List ℕ). replica_heading name ++ t) (same_printed name name a a x y (λ e. refl) of_x of_y) ∙ sym of_y.written

-- replicas that took the same edits show the same below their names
pub same_section : (name other : Ident) (a b : List Edit) (x y : List ℕ) → HasSameEdits a b → IsSection name a x → IsSection other b y
    → (shown : List ℕ) × (x ≡ replica_heading name ++ shown) × (y ≡ replica_heading other ++ shown)
same_section name other a b x y same of_a of_b = (
  of_a.printed,
  of_a.written,
  of_b.written ∙ ap (λ (t : List ℕ). replica_heading other ++ t) (sym (same_printed name other a b x y (graph-same_edits a b same.0 same.1) of_a of_b)),
)

module _ {M : Type 0} where
  one_sections : (journals : Journals M) (before : List Item) (replica : ℕ) (names : List Ident) (x y : List ℕ)
      → AreSections journals before replica names x → AreSections journals before replica names y → x ≡ y
  one_sections journals before replica [] x y a b = a ∙ sym b
  one_sections journals before replica (name ∷ names) x y a b =
      let mine : a.0 ≡ b.0 = one_section name (taken journals replica before) a.0 b.0 a.2 b.2 in
      let rest : a.1 ≡ b.1 = one_sections journals before (replica + 1) names a.1 b.1 a.3 b.3 in
      a.4 ∙ ap (λ (t : List ℕ). t ++ a.1) mine ∙ ap (λ (t : List ℕ). b.0 ++ t) rest ∙ sym b.4

  one_item : (names : List Ident) (journals : Journals M) (before : List Item) (next : Item) (x y : List ℕ)
      → IsItemText names journals before next x → IsItemText names journals before next y → x ≡ y
  one_item names journals before item.Show x y a b =
      a.2 ∙ ap (λ (t : List ℕ). show_heading (next_show before) ++ t) (one_sections journals before 0 names a.0 b.0 a.1 b.1) ∙ sym b.2
  one_item names journals before other x y a b = a ∙ sym b

  -- what is written of an item is written of other journals too, where it has the same entries and sections
  pub item_text-along : (names : List Ident) (js ks : Journals M) (before : List Item) (next : Item) (text : List ℕ)
      → (is_block next ≡ true → entries_from js (next_block before) 1 names ≡ entries_from ks (next_block before) 1 names)
      → ((sections : List ℕ) → AreSections js before 0 names sections → AreSections ks before 0 names sections)
      → IsItemText names js before next text → IsItemText names ks before next text
  item_text-along names js ks before (item.Block block) text entries sections is =
      is ∙ ap (λ (es : List (Entries M)). block_heading (next_block before) ++ journals_text names es) (entries refl)
  item_text-along names js ks before item.Show text entries sections is = (is.0, sections is.0 is.1, is.2)
  item_text-along names js ks before other text entries sections is = is

  one_texts : (names : List Ident) (journals : Journals M) (before items : List Item) (x y : List ℕ)
      → AreItemTexts names journals before items x → AreItemTexts names journals before items y → x ≡ y
  one_texts names journals before [] x y a b = a ∙ sym b
  one_texts names journals before (next ∷ items) x y a b =
      let mine : a.0 ≡ b.0 = one_item names journals before next a.0 b.0 a.2 b.2 in
      let rest : a.1 ≡ b.1 = one_texts names journals (before ++ next ∷ []) items a.1 b.1 a.3 b.3 in
      a.4 ∙ ap (λ (t : List ℕ). t ++ a.1) mine ∙ ap (λ (t : List ℕ). b.0 ++ t) rest ∙ sym b.4

  pub one_report_text : (session : Session) (journals : Journals M) (x y : List ℕ)
      → IsReport session journals x → IsReport session journals y → x ≡ y
  one_report_text session journals = one_texts session.replicas journals [] session.items
