-- A piece behind the bytes that a stream keeps.
use Rattle.std.proofs.Common.{◌≡◌, ℕ, ◌+◌, ◌^◌, ◌<◌, List, [], ◌∷◌, ◌++◌, length, Option, Some, None, refl, sym, ap, subst, ◌∙◌, append_assoc, append-nil, arith}
use Rattle.text_parts.specs.Separated.{Lacks}
use Rattle.text_parts.proofs.Parts.{Lacks-append}
use Rattle.grove_sorts.specs.declared.version.Version.{Version}
use Rattle.grove_edits.specs.declared.edit.Edit.{Edit}
use Rattle.grove_edits.specs.Edit.{edit_edge}
use Rattle.grove_edits.specs.Edge.{IsEdgeOf}
use Rattle.edit_text.specs.declared.line_fault.LineFault.{LineFault}
use Rattle.edit_text.specs.Line.{Spells, HasFault}
use Rattle.edit_text.specs.Text.{text_of, AreOf}
use Rattle.edit_text.proofs.MoreLines.{line_read}
use Rattle.edit_stream.specs.Stream.{StreamState, line_count, StopsAt, Reads, FeedsBy, HasFed}

pub all_append : (version : Version) (xs ys : List Edit) → AreOf version xs → AreOf version ys → AreOf version (xs ++ ys)
all_append version [] ys of_xs of_ys = of_ys
all_append version (x ∷ xs) ys of_xs of_ys = (of_xs.0, all_append version xs ys of_xs.1 of_ys)

-- the line that the kept bytes begin has a fault
pub stops_first : (version : Version) (kept end rest k : List ℕ) (edits : List Edit) (f : Option LineFault) (fault : LineFault) → Lacks 10 (kept ++ end) → HasFault version (kept ++ end) fault
    → edits ≡ [] → k ≡ [] → f ≡ Some fault → Reads version (kept ++ (end ++ 10 ∷ rest)) edits k f
stops_first version kept end rest k edits f fault one_line has no_edits nothing is =
    let parts : kept ++ (end ++ 10 ∷ rest) ≡ text_of [] ++ ((kept ++ end) ++ 10 ∷ rest) = sym (append_assoc kept end (10 ∷ rest)) in
    subst (Reads version (kept ++ (end ++ 10 ∷ rest)) edits k) (sym is) (
      subst (λ es. StopsAt version (kept ++ (end ++ 10 ∷ rest)) es fault) (sym no_edits)
          (record { bad = kept ++ end; after = rest; parts = parts; of_version = tt; one_line = one_line; has_fault = has }),
      nothing,
    )

-- or an edit, and the lines behind it are read on
pub first_read : (version : Version) (kept end rest : List ℕ) (edits : List Edit) (edit : Edit) → Spells version (kept ++ end) edit → edits ≡ edit ∷ []
    → kept ++ (end ++ 10 ∷ rest) ≡ text_of edits ++ rest
first_read version kept end rest edits edit spells one =
    line_read (kept ++ (end ++ 10 ∷ rest)) (kept ++ (end ++ 10 ∷ rest)) (kept ++ end) rest [] edit refl (sym (append_assoc kept end (10 ∷ rest))) spells.0
    ∙ ap (λ (es : List Edit). text_of es ++ rest) (sym one)

no_lines : (lines : ℕ) → lines < 2 ^ 64 → lines ≡ line_count (lines + length {A = Edit} [])
no_lines lines fits = omega arith

fed_by : (fault : Option LineFault) (old new : StreamState) (piece : List ℕ) → fault ≡ None → old.lines < 2 ^ 64 → new.kept ≡ old.kept ++ piece → new.lines ≡ old.lines
    → new.fault ≡ None → new.version ≡ old.version → Lacks 10 (old.kept ++ piece) → FeedsBy fault old piece [] new
fed_by None old new piece good fits kept lines still same unended = (
  subst (Reads old.version (old.kept ++ piece) [] new.kept) (sym still) (record { parts = sym kept; of_version = tt; unended = subst (Lacks 10) (sym kept) unended }),
  lines ∙ no_lines old.lines fits,
  same,
)
fed_by (Some fault) old new piece good fits kept lines still same unended = absurd (cc)

-- a piece with no LF is kept
pub keeps : (old new : StreamState) (piece : List ℕ) (out : List Edit) → old.fault ≡ None → old.lines < 2 ^ 64 → new.kept ≡ old.kept ++ piece → new.lines ≡ old.lines
    → new.fault ≡ None → new.version ≡ old.version → Lacks 10 old.kept → Lacks 10 piece → HasFed old piece new out out
keeps old new piece out good fits kept lines still same unended none =
    ([], fed_by old.fault old new piece good fits kept lines still same (Lacks-append 10 old.kept piece unended none), sym (append-nil out))

-- the edits so far and the next one are of the version
pub more_of : (version : Version) (edits more : List Edit) (edit : Edit) → AreOf version edits → IsEdgeOf version (edit_edge edit) → more ≡ edits ++ edit ∷ [] → AreOf version more
more_of version edits more edit of_edits of_edit is = subst (AreOf version) (sym is) (all_append version edits (edit ∷ []) of_edits (of_edit, tt))
