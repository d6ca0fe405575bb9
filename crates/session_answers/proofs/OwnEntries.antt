-- The entries of a block and a replica among journals, and those of the journals of one block.
use Rattle.std.proofs.Common.{◌≡◌, ◌≢◌, ◌⊎◌, inl, inr, ℕ, zero, suc, ◌+◌, ◌<◌, ◌≤◌, Bool, true, false, ◌&&◌, ◌==◌, cond, List, [], ◌∷◌, ◌++◌, length, slice_get, Some, refl, sym, ap, ◌∙◌, arith, append_assoc, append-nil}
use Rattle.std.specs.List.{AllByRecursion}
use Rattle.std.proofs.lemmas.Bool.{eq-eqb}
use Rattle.std.proofs.lemmas.Bool.Decides.{eqb_tells}
use Rattle.grove_sorts.specs.declared.ident.Ident.{Ident}
use Rattle.grove_edits.specs.declared.edit.Edit.{Edit}
use Rattle.grove_edits.specs.declared.answer.Answer.{Answer}
use Rattle.grove_edits.specs.declared.command.Command.{Command}
use Rattle.session_report.specs.declared.block_journal.BlockJournal.{BlockJournal}
use Rattle.session_report.specs.Journal.{Entries}
use Rattle.session_report.specs.Taken.{Journals, entries_at}
use Rattle.session_report.specs.Report.{entries_from}
use Rattle.session_answers.specs.BlockJournals.{block_journals}
use Rattle.session_answers.proofs.Agreeing.{Agree}

-- a test that fails
differ : (a b : ℕ) → a ≢ b → (a == b) ≡ false
differ a b other = by_tell (eqb_tells a b) where
  by_tell : (((a == b) ≡ true) × (a ≡ b)) ⊎ (((a == b) ≡ false) × (a ≢ b)) → (a == b) ≡ false
  by_tell (inl same) = absurd (other same.1)
  by_tell (inr not_same) = not_same.0

both : (a b c d : ℕ) → a ≡ b → c ≡ d → ((a == b) && (c == d)) ≡ true
both a b c d e f = ap (λ t. t && (c == d)) (eq-eqb a b e) ∙ eq-eqb c d f

other_first : (a b c d : ℕ) → a ≢ b → ((a == b) && (c == d)) ≡ false
other_first a b c d e = ap (λ t. t && (c == d)) (differ a b e)

and_no : (t : Bool) → (t && false) ≡ false
and_no true = refl
and_no false = refl

other_second : (a b c d : ℕ) → c ≢ d → ((a == b) && (c == d)) ≡ false
other_second a b c d e = ap (λ t. (a == b) && t) (differ c d e) ∙ and_no (a == b)

abbrev OneJournal : Type 0 → Type 0
OneJournal M = BlockJournal M Command (List Edit) Answer

module _ {M : Type 0} where
  abbrev at : OneJournal M → ℕ → ℕ → Bool
  at of block replica = (of.block == block) && (of.replica == replica)

  cond-append : (t : Bool) (x y z : Entries M) → cond t (x ++ (y ++ z)) (y ++ z) ≡ cond t (x ++ y) y ++ z
  cond-append true x y z = sym (append_assoc x y z)
  cond-append false x y z = refl

  pub entries_at-append : (js ks : Journals M) (block replica : ℕ) → entries_at (js ++ ks) block replica ≡ entries_at js block replica ++ entries_at ks block replica
  entries_at-append [] ks block replica = refl
  entries_at-append (of ∷ js) ks block replica =
      ap (λ (es : Entries M). cond (at of block replica) (of.journal ++ es) es) (entries_at-append js ks block replica)
      ∙ cond-append (at of block replica) of.journal (entries_at js block replica) (entries_at ks block replica)

  -- a journal that is not there has no entries there
  entries_at-other : (of : OneJournal M) (js : Journals M) (block replica : ℕ) → at of block replica ≡ false → entries_at (of ∷ js) block replica ≡ entries_at js block replica
  entries_at-other of js block replica elsewhere = ap (λ t. cond t (of.journal ++ entries_at js block replica) (entries_at js block replica)) elsewhere

  pub no_such_block : (js : Journals M) (block replica : ℕ) → AllByRecursion (λ of. of.block ≢ block) js → entries_at js block replica ≡ []
  no_such_block [] block replica none = refl
  no_such_block (of ∷ js) block replica none =
      entries_at-other of js block replica (other_first of.block block of.replica replica none.0) ∙ no_such_block js block replica none.1

  no_such_replica : (js : Journals M) (block replica : ℕ) → AllByRecursion (λ of. of.replica ≢ replica) js → entries_at js block replica ≡ []
  no_such_replica [] block replica none = refl
  no_such_replica (of ∷ js) block replica none =
      entries_at-other of js block replica (other_second of.block block of.replica replica none.0) ∙ no_such_replica js block replica none.1

  -- the journals of a block are of this block alone
  pub of_block : (P : ℕ → Type 0) (block replica : ℕ) (more : List (Entries M)) → P block → AllByRecursion (λ of. P of.block) (block_journals block replica more)
  of_block P block replica [] is = tt
  of_block P block replica (entries ∷ more) is = (is, of_block P block (replica + 1) more is)

  later_replicas : (number block replica : ℕ) (more : List (Entries M)) → number < replica → AllByRecursion (λ of. of.replica ≢ number) (block_journals block replica more)
  later_replicas number block replica [] before = tt
  later_replicas number block replica (entries ∷ more) before = ((λ e. omega arith), later_replicas number block (replica + 1) more (omega arith))

  -- each replica has its own entries
  pub own_entries : (block replica : ℕ) (more : List (Entries M)) (index : ℕ) (own : Entries M) → slice_get more index ≡ Some own
      → entries_at (block_journals block replica more) block (replica + index) ≡ own
  own_entries block replica [] index own is = absurd cc
  own_entries block replica (entries ∷ more) zero own is =
      let same : entries ≡ own = cc in
      let here : replica ≡ replica + 0 = omega arith in
      let rest : entries_at (block_journals block (replica + 1) more) block (replica + 0) ≡ [] = no_such_replica (block_journals block (replica + 1) more) block (replica + 0) (later_replicas (replica + 0) block (replica + 1) more (omega arith)) in
      ap (λ t. cond t (entries ++ entries_at (block_journals block (replica + 1) more) block (replica + 0)) (entries_at (block_journals block (replica + 1) more) block (replica + 0)))
      (both block block replica (replica + 0) refl here)
      ∙ ap (λ (es : Entries M). entries ++ es) rest ∙ append-nil entries ∙ same
  own_entries block replica (entries ∷ more) (suc index) own is =
      let further : replica + suc index ≡ (replica + 1) + index = omega arith in
      let of : OneJournal M = record { block = block; replica = replica; journal = entries } in
      entries_at-other of (block_journals block (replica + 1) more) block (replica + suc index) (other_second block block replica (replica + suc index) (λ e. omega arith))
      ∙ ap (λ n. entries_at (block_journals block (replica + 1) more) block n) further
      ∙ own_entries block (replica + 1) more index own is

  -- the entries of all replicas, from those of each
  pub entries_from-each : (js : Journals M) (block replica : ℕ) (names : List Ident) (more : List (Entries M)) → length names ≡ length more
      → ((index : ℕ) (own : Entries M) → slice_get more index ≡ Some own → entries_at js block (replica + index) ≡ own) → entries_from js block replica names ≡ more
  entries_from-each js block replica [] [] all each = refl
  entries_from-each js block replica [] (entries ∷ more) all each = absurd (omega arith)
  entries_from-each js block replica (name ∷ names) [] all each = absurd (omega arith)
  entries_from-each js block replica (name ∷ names) (entries ∷ more) all each =
      let here : replica ≡ replica + 0 = omega arith in
      let mine : entries_at js block replica ≡ entries = ap (λ n. entries_at js block n) here ∙ each 0 entries refl in
      let rest : entries_from js block (replica + 1) names ≡ more = entries_from-each js block (replica + 1) names more (omega arith)
      (λ index own is. let further : (replica + 1) + index ≡ replica + suc index = omega arith in ap (λ n. entries_at js block n) further ∙ each (suc index) own is) in
      ap (λ (es : Entries M). es ∷ entries_from js block (replica + 1) names) mine ∙ ap (λ (es : List (Entries M)). entries ∷ es) rest

  -- journals of later blocks behind others change nothing of the earlier blocks
  pub agree_behind : (limit : ℕ) (js ks : Journals M) → AllByRecursion (λ of. limit ≤ of.block) ks → Agree limit js (js ++ ks)
  agree_behind limit js ks later block replica before =
      sym (entries_at-append js ks block replica
      ∙ ap (λ (es : Entries M). entries_at js block replica ++ es) (no_such_block ks block replica (differ_all ks later))
      ∙ append-nil (entries_at js block replica)) where
        differ_all : (of : Journals M) → AllByRecursion (λ one. limit ≤ one.block) of → AllByRecursion (λ one. one.block ≢ block) of
        differ_all [] all = tt
        differ_all (one ∷ of) all = ((λ e. let bound = all.0 in omega arith), differ_all of all.1)

  -- and those of the next block have their own entries
  pub entries_behind : (js : Journals M) (block replica : ℕ) (more : List (Entries M)) (own : Entries M) → AllByRecursion (λ of. of.block < block) js → slice_get more replica ≡ Some own
      → entries_at (js ++ block_journals block 1 more) block (1 + replica) ≡ own
  entries_behind js block replica more own before is =
      entries_at-append js (block_journals block 1 more) block (1 + replica)
      ∙ ap (λ (es : Entries M). es ++ entries_at (block_journals block 1 more) block (1 + replica)) (no_such_block js block (1 + replica) (differ_all js before))
      ∙ own_entries block 1 more replica own is where
        differ_all : (of : Journals M) → AllByRecursion (λ one. one.block < block) of → AllByRecursion (λ one. one.block ≢ block) of
        differ_all [] all = tt
        differ_all (one ∷ of) all = ((λ e. let bound = all.0 in omega arith), differ_all of all.1)
