-- Lines that stand for edits: each for one, and lines one after the other for the edits of both.
use Rattle.std.proofs.Common.{◌≡◌, ℕ, zero, suc, ◌+◌, ◌-◌, ◌<◌, ◌≤◌, List, [], ◌∷◌, ◌++◌, length, drop, take, get_or, length-append, refl, sym, ap, subst, ◌∙◌, arith}
use Rattle.std.proofs.lemmas.List.{take_more, length-drop}
use Rattle.std.proofs.Math.Seq.{take-append_seam}
use Rattle.grove_sorts.specs.declared.version.Version.{Version}
use Rattle.grove_edits.specs.declared.edit.Edit.{Edit}
use Rattle.grove_edits.specs.Edit.{edit_edge, edit_kind}
use Rattle.edit_text.specs.declared.line_fault.LineFault.{LineFault}
use Rattle.edit_text.specs.Line.{form, Spells, HasFault}
use Rattle.edit_text.specs.Text.{line_of}
use Rattle.edit_text.proofs.Lines.{line_then, same_lines, one_edit, edit_or_fault}
use Rattle.edit_merge.specs.declared.named_line.NamedLine.{NamedLine}
use Rattle.edit_merge.specs.Named.{Stands, StandAll, DoesStand, DoStand}

module _ (version : Version) (text : List ℕ) where
  -- a line stands for one edit
  pub one_stands : (line : NamedLine) (a b : Edit) → Stands version text line a → Stands version text line b → a ≡ b
  one_stands line a b of_a of_b = (same_lines a b of_a.after of_b.after (sym of_a.there ∙ of_b.there)).0

  -- it ends in the text, with an LF behind it
  pub ends_within : (line : NamedLine) → DoesStand version text line → (line.start ≤ line.end) × (line.end < length text)
  ends_within line (edit, stands) =
      let bytes = form (edit_kind edit) (edit_edge edit) in
      let left : length (drop line.start text) ≡ length bytes + length (10 ∷ stands.after) = ap length (stands.there ∙ line_then edit stands.after) ∙ length-append bytes (10 ∷ stands.after) in
      (omega (arith, stands.ended), omega (arith, stands.ended, left, length-drop line.start text))

  -- the bytes up to its end are the edit's
  pub line_there : (line : NamedLine) (edit : Edit) → Stands version text line edit → take (line.end - line.start) (drop line.start text) ≡ form (edit_kind edit) (edit_edge edit)
  line_there line edit stands =
      let bytes = form (edit_kind edit) (edit_edge edit) in
      let count : line.end - line.start ≡ length bytes = omega (arith, stands.ended) in
      ap (λ n. take n (drop line.start text)) count ∙ ap (take (length bytes)) (stands.there ∙ line_then edit stands.after) ∙ take-append_seam bytes (10 ∷ stands.after)

  -- and with the LF they are its line
  pub whole_line_there : (line : NamedLine) (edit : Edit) → Stands version text line edit → take (line.end + 1 - line.start) (drop line.start text) ≡ line_of edit
  whole_line_there line edit stands =
      let bytes = form (edit_kind edit) (edit_edge edit) in
      let count : line.end + 1 - line.start ≡ length (line_of edit) = omega (arith, stands.ended, length-append bytes (10 ∷ [])) in
      ap (λ n. take n (drop line.start text)) count ∙ ap (take (length (line_of edit))) stands.there ∙ take-append_seam (line_of edit) stands.after

  -- what is read there again has no fault, and is that edit
  pub read_has_no_fault : (line : NamedLine) (bytes : List ℕ) (fault : LineFault) → DoesStand version text line
      → ((edit : Edit) → Stands version text line edit → bytes ≡ form (edit_kind edit) (edit_edge edit)) → HasFault version bytes fault → ⊥
  read_has_no_fault line bytes fault does there has = edit_or_fault version bytes does.0 fault (there does.0 does.1, does.1.of_version) has

  pub read_stands : (line : NamedLine) (bytes : List ℕ) (read : Edit) → DoesStand version text line
      → ((edit : Edit) → Stands version text line edit → bytes ≡ form (edit_kind edit) (edit_edge edit)) → Spells version bytes read → Stands version text line read
  read_stands line bytes read does there spells =
      subst (Stands version text line) (one_edit version bytes does.0 read (there does.0 does.1, does.1.of_version) spells) does.1

  -- ---- lines one after the other

  pub StandAll-append : (xs ys : List NamedLine) (es fs : List Edit) → StandAll version text xs es → StandAll version text ys fs → StandAll version text (xs ++ ys) (es ++ fs)
  StandAll-append [] ys [] fs first second = second
  StandAll-append [] ys (a ∷ es) fs first second = absurd first
  StandAll-append (x ∷ xs) ys [] fs first second = absurd first
  StandAll-append (x ∷ xs) ys (a ∷ es) fs first second = (first.0, StandAll-append xs ys es fs first.1 second)

  pub stand_alike_long : (xs : List NamedLine) (es : List Edit) → StandAll version text xs es → length xs ≡ length es
  stand_alike_long [] [] stand = refl
  stand_alike_long [] (a ∷ es) stand = absurd stand
  stand_alike_long (x ∷ xs) [] stand = absurd stand
  stand_alike_long (x ∷ xs) (a ∷ es) stand = ap suc (stand_alike_long xs es stand.1)

  pub DoStand-take : (n : ℕ) (lines : List NamedLine) → DoStand version text lines → DoStand version text (take n lines)
  DoStand-take zero lines stand = ([], tt)
  DoStand-take (suc n) [] stand = ([], tt)
  DoStand-take (suc n) (line ∷ lines) ([], stand) = absurd stand
  DoStand-take (suc n) (line ∷ lines) (edit ∷ edits, stand) =
      let rest = DoStand-take n lines (edits, stand.1) in
      (edit ∷ rest.0, (stand.0, rest.1))

  pub DoStand-drop : (n : ℕ) (lines : List NamedLine) → DoStand version text lines → DoStand version text (drop n lines)
  DoStand-drop zero lines stand = stand
  DoStand-drop (suc n) [] stand = ([], tt)
  DoStand-drop (suc n) (line ∷ lines) ([], stand) = absurd stand
  DoStand-drop (suc n) (line ∷ lines) (edit ∷ edits, stand) = DoStand-drop n lines (edits, stand.1)

  -- the line at an index does
  pub DoStand-at : (i : ℕ) (lines : List NamedLine) (default : NamedLine) → i < length lines → DoStand version text lines → DoesStand version text (get_or lines i default)
  DoStand-at i [] default lt stand = absurd (omega arith)
  DoStand-at i (line ∷ lines) default lt ([], stand) = absurd stand
  DoStand-at zero (line ∷ lines) default lt (edit ∷ edits, stand) = (edit, stand.0)
  DoStand-at (suc i) (line ∷ lines) default lt (edit ∷ edits, stand) = DoStand-at i lines default (omega arith) (edits, stand.1)

  -- one more line was read again
  pub stand_more : (lines : List NamedLine) (i : ℕ) (default : NamedLine) (edits more : List Edit) (edit : Edit) → i < length lines → StandAll version text (take i lines) edits
      → Stands version text (get_or lines i default) edit → more ≡ edits ++ edit ∷ [] → StandAll version text (take (i + 1) lines) more
  stand_more lines i default edits more edit lt so_far stands is =
      let both = StandAll-append (take i lines) (get_or lines i default ∷ []) edits (edit ∷ []) so_far (stands, tt) in
      subst (λ ls. StandAll version text ls more) (sym (take_more lines i default lt)) (subst (StandAll version text (take i lines ++ get_or lines i default ∷ [])) (sym is) both)
