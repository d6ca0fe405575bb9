-- Lines are judged one after the other.
use Rattle.std.proofs.Common.{◌≡◌, inl, inr, ℕ, ◌+◌, List, [], ◌∷◌, ◌++◌, refl, sym, ap, ◌∙◌, append_assoc, arith}
use Rattle.text_parts.specs.Separated.{Lacks}
use Rattle.grove_sorts.specs.declared.version.Version.{Version}
use Rattle.grove_edits.specs.declared.edit.Edit.{Edit}
use Rattle.grove_edits.specs.Edit.{edit_edge, edit_kind}
use Rattle.edit_text.specs.declared.line_fault.LineFault.{LineFault}
use Rattle.edit_text.specs.declared.line_fault.LineFault.TheVariants.{Syntax}
use Rattle.edit_text.specs.Line.{form, Spells, HasFault}
use Rattle.edit_text.specs.Text.{line_of, text_of}
use Rattle.edit_text.specs.Whole.{header_lines, HasVersion, IsMalformedText}
use Rattle.grove_calls.specs.declared.fault.Fault.TheVariants.{Rest}
use Rattle.grove_calls.specs.FaultOf.{fault_of_line}
use Rattle.grove_calls.specs.FirstFault.{IsFirstFaultOfEdits}
use Rattle.grove_calls.specs.Judged.{LinesAreJudged, HasEditsOrFault}

not_empty : (byte : ℕ) (bytes : List ℕ) → byte ∷ bytes ≡ [] → ⊥
not_empty byte bytes is = cc

-- no line is left
pub none_left : (version : Version) (text : List ℕ) → Lacks 10 text → LinesAreJudged version text
none_left version [] lacks = inl ([], (refl, tt))
none_left version (byte ∷ bytes) lacks =
    inr (inr (1, record { before = []; of_version = tt; rest = byte ∷ bytes; parts = refl; unended = lacks; something = not_empty byte bytes; number = refl }))

-- the first line has no reading
pub first_bad : (version : Version) (text line after : List ℕ) (fault : LineFault) → text ≡ line ++ 10 ∷ after → Lacks 10 line → HasFault version line fault → LinesAreJudged version text
first_bad version text line after fault is lacks has =
    inr (inl (1, fault, record { before = []; of_version = tt; bad = line; after = after; parts = is; one_line = lacks; has_fault = has; number = refl }))

behind_line : (version : Version) (text line after : List ℕ) (edit : Edit) → text ≡ line ++ 10 ∷ after → Spells version line edit → text ≡ line_of edit ++ after
behind_line version text line after edit is spells =
    is ∙ (ap (λ (bytes : List ℕ). bytes ++ 10 ∷ after) spells.0 ∙ sym (append_assoc (form (edit_kind edit) (edit_edge edit)) (10 ∷ []) after))

-- the first line is that of an edit
pub first_good : (version : Version) (text line after : List ℕ) (edit : Edit) → text ≡ line ++ 10 ∷ after → Spells version line edit → LinesAreJudged version after → LinesAreJudged version text
first_good version text line after edit is spells (inl good) =
    inl (edit ∷ good.0, (behind_line version text line after edit is spells ∙ ap (λ (bytes : List ℕ). line_of edit ++ bytes) good.1.0, (spells.1, good.1.1)))
first_good version text line after edit is spells (inr (inl bad)) =
    let m = bad.2 in
    inr (inl (
      bad.0 + 1,
      bad.1,
      record {
        before = edit ∷ m.before;
        of_version = (spells.1, m.of_version);
        bad = m.bad;
        after = m.after;
        parts = behind_line version text line after edit is spells
            ∙ (ap (λ (bytes : List ℕ). line_of edit ++ bytes) m.parts ∙ sym (append_assoc (line_of edit) (text_of m.before) (m.bad ++ 10 ∷ m.after)));
        one_line = m.one_line;
        has_fault = m.has_fault;
        number = (let n = m.number in omega arith);
      },
    ))
first_good version text line after edit is spells (inr (inr left)) =
    let h = left.1 in
    inr (inr (
      left.0 + 1,
      record {
        before = edit ∷ h.before;
        of_version = (spells.1, h.of_version);
        rest = h.rest;
        parts = behind_line version text line after edit is spells
            ∙ (ap (λ (bytes : List ℕ). line_of edit ++ bytes) h.parts ∙ sym (append_assoc (line_of edit) (text_of h.before) h.rest));
        unended = h.unended;
        something = h.something;
        number = (let n = h.number in omega arith);
      },
    ))

of_line_fault : (text : List ℕ) (line : ℕ) (fault : LineFault) → IsMalformedText text line fault → IsFirstFaultOfEdits text line (fault_of_line fault)
of_line_fault text line Syntax bad = bad
of_line_fault text line _ bad = bad

-- and so are the lines of a whole text
pub whole : (text : List ℕ) (version : Version) (body : List ℕ) → HasVersion text version body → LinesAreJudged version body → HasEditsOrFault text
whole text version body has (inl good) = inl (version, good.0, record { body = body; has_version = has; spelled = good.1 })
whole text version body has (inr (inl bad)) =
    inr (
      header_lines version + bad.0,
      fault_of_line bad.1,
      of_line_fault text (header_lines version + bad.0) bad.1 (record { version = version; body = body; line_of_body = bad.0; has_version = has; malformed = bad.2; number = refl }),
    )
whole text version body has (inr (inr left)) =
    inr (header_lines version + left.0, Rest, record { version = version; body = body; line_of_body = left.0; has_version = has; has_rest = left.1; number = refl })
