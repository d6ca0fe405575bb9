-- What the records written say of the edits of an append.
use Rattle.std.proofs.Common.{◌≡◌, ◌≤◌, inl, ℕ, ◌+◌, List, ◌∷◌, ◌++◌, length, map, sym, ap, subst, ◌∙◌, arith}
use Rattle.std.specs.List.{AllByRecursion}
use Rattle.grove_edits.specs.declared.edit.Edit.{Edit}
use Rattle.edit_text.specs.Text.{line_of}
use Rattle.edit_journal.specs.Disk.{Only}
use Rattle.edit_journal.specs.LogFile.{longest_file, Fits, opened, at_rest, IsLog, IsWithOrWithout}
use Rattle.edit_journal.specs.LogState.{IsAtRest}
use Rattle.edit_journal.specs.Writing.{Appends, HasWithOrWithout}
use Rattle.edit_journal.proofs.Lines.{one_log}
use Rattle.edit_journal.proofs.Logs.{IsLog-at_rest, fit-append, at_rest-edits, length-at_rest-append, with_or_without}

module _ {D : Type 0} (bytes : D → List ℕ) (may_leave : D → List ℕ → Type 0) (disk : D) (file_length : ℕ) (live : IsAtRest bytes may_leave disk file_length) where
  -- the log before the append
  pub same_before : (before : List Edit) → IsLog (bytes disk) before → live.edits ≡ before
  same_before before is = one_log (bytes disk) live.edits before (IsLog-at_rest (bytes disk) live.edits live.fit live.file) is

  -- without the edits, whatever a crash leaves
  pub left_without : (edits before : List Edit) → IsLog (bytes disk) before → file_length ≤ longest_file → (c : List ℕ) → may_leave disk c → IsWithOrWithout before edits c
  left_without edits before is short c left =
      let same : c ≡ bytes disk = live.durable c left in
      inl (subst (λ f. IsLog f before) (sym same) is, omega (arith, ap length same, live.size, short))

  module _ (edits : List Edit) (piece : List ℕ) (piece_is : 1 ∷ piece ≡ at_rest (map line_of edits)) (fits : AllByRecursion Fits (map line_of edits)) where
    pub appends_edits : Appends (bytes disk) piece (map line_of live.edits) (map line_of edits)
    appends_edits = record { file_is = live.file; piece_is = piece_is; fit = live.fit; group_fits = fits }

    -- the log has the edits once their records are at rest in the file
    pub edits_added : (file : List ℕ) → file ≡ at_rest (map line_of live.edits ++ map line_of edits) → (before : List Edit) → IsLog (bytes disk) before → IsLog file (before ++ edits)
    edits_added file file_is before is =
        subst (λ es. IsLog file (es ++ edits)) (same_before before is)
        (IsLog-at_rest file (live.edits ++ edits) (fit-append live.edits edits live.fit fits) (file_is ∙ at_rest-edits live.edits edits))

    pub edits_left : (before : List Edit) → IsLog (bytes disk) before → (c : List ℕ) → HasWithOrWithout (map line_of live.edits) (map line_of edits) c → IsWithOrWithout before edits c
    edits_left before is c has = subst (λ es. IsWithOrWithout es edits c) (same_before before is) (with_or_without live.edits edits c has)

    -- the log goes on from there
    pub at_rest_with : (new : D) (grown : ℕ) → grown ≡ file_length + length (opened (map line_of edits)) → bytes new ≡ at_rest (map line_of live.edits ++ map line_of edits)
        → Only (bytes new) (may_leave new) → IsAtRest bytes may_leave new grown
    at_rest_with new grown grown_is file_is durable = record {
      edits = live.edits ++ edits;
      file = file_is ∙ at_rest-edits live.edits edits;
      fit = fit-append live.edits edits live.fit fits;
      size = omega (arith, ap length file_is, length-at_rest-append (map line_of live.edits) (map line_of edits), ap length live.file, live.size, grown_is);
      durable = durable;
    }
