-- Texts of edits: the edits that a text begins with are known by it, up to the first line that spells none.
use Rattle.std.proofs.Common.{◌≡◌, ◌≢◌, ℕ, ◌+◌, List, [], ◌∷◌, ◌++◌, length, refl, sym, ap, subst, ◌∙◌, append_assoc, append-nil, ◌≤◌, arith, length-append}
use Rattle.text_parts.specs.Separated.{Lacks}
use Rattle.text_parts.proofs.Parts.{Lacks-separated, first_part}
use Rattle.grove_sorts.specs.declared.version.Version.{Version}
use Rattle.grove_edits.specs.declared.edit.Edit.{Edit}
use Rattle.grove_edits.specs.Edge.{IsEdgeOf}
use Rattle.grove_edits.specs.Edit.{edit_edge, edit_kind}
use Rattle.edit_text.specs.declared.line_fault.LineFault.{LineFault}
use Rattle.edit_text.specs.Line.{form, HasFault}
use Rattle.edit_text.specs.Text.{line_of, text_of, AreOf, SpellsAll, IsMalformed, HasRest}
use Rattle.edit_text.proofs.Lines.{Lacks-form, edit_or_fault, one_fault, line_then, same_lines}

-- the text begins with the line of no edit of the version
abbrev pub BeginsNoLine : Version → List ℕ → Type 0
BeginsNoLine version text = (edit : Edit) (rest : List ℕ) → IsEdgeOf version (edit_edge edit) → line_of edit ++ rest ≢ text

-- bytes that no LF ends begin with no edit's line
pub BeginsNoLine-unended : (version : Version) (text : List ℕ) → Lacks 10 text → BeginsNoLine version text
BeginsNoLine-unended version text unended edit rest of_version same =
    Lacks-separated 10 (form (edit_kind edit) (edit_edge edit)) rest (subst (Lacks 10) (sym same ∙ line_then edit rest) unended)

-- a text whose first line has a fault begins with no edit's line
pub BeginsNoLine-bad : (version : Version) (bad after : List ℕ) (fault : LineFault) → Lacks 10 bad → HasFault version bad fault → BeginsNoLine version (bad ++ 10 ∷ after)
BeginsNoLine-bad version bad after fault one_line has edit rest of_version same =
    let parts = first_part 10 (form (edit_kind edit) (edit_edge edit)) bad rest after (Lacks-form edit.kind (edit_edge edit) edit.in_range) one_line (sym (line_then edit rest) ∙ same) in
    edit_or_fault version bad edit fault (sym parts.0, of_version) has

-- the edits before the first place where no line stands, and what stands there, are known by the text
pub same_edits : (version : Version) (xs ys : List Edit) (s t : List ℕ) → AreOf version xs → AreOf version ys → BeginsNoLine version s → BeginsNoLine version t → text_of xs ++ s ≡ text_of ys ++ t → (xs ≡ ys) × (s ≡ t)
same_edits version [] [] s t of_xs of_ys at_s at_t same = (refl, same)
same_edits version [] (y ∷ ys) s t of_xs of_ys at_s at_t same =
    absurd (at_s y (text_of ys ++ t) of_ys.0 (sym (append_assoc (line_of y) (text_of ys) t) ∙ sym same))
same_edits version (x ∷ xs) [] s t of_xs of_ys at_s at_t same =
    absurd (at_t x (text_of xs ++ s) of_xs.0 (sym (append_assoc (line_of x) (text_of xs) s) ∙ same))
same_edits version (x ∷ xs) (y ∷ ys) s t of_xs of_ys at_s at_t same =
    let lines = same_lines x y (text_of xs ++ s) (text_of ys ++ t)
    (sym (append_assoc (line_of x) (text_of xs) s) ∙ same ∙ append_assoc (line_of y) (text_of ys) t) in
    let rest = same_edits version xs ys s t of_xs.1 of_ys.1 at_s at_t lines.1 in
    (ap (λ (z : Edit). z ∷ xs) lines.0 ∙ ap (λ (zs : List Edit). y ∷ zs) rest.0, rest.1)

-- the same where all of the one text is edits
whole : (version : Version) (text : List ℕ) (xs ys : List Edit) (t : List ℕ) → SpellsAll version text xs → AreOf version ys → BeginsNoLine version t → text ≡ text_of ys ++ t → (xs ≡ ys) × ([] ≡ t)
whole version text xs ys t spelled of_ys at_t same =
    same_edits version xs ys [] t spelled.1 of_ys (BeginsNoLine-unended version [] tt) at_t (append-nil (text_of xs) ∙ sym spelled.0 ∙ same)

-- a text has one list of edits
pub one_list : (version : Version) (text : List ℕ) (a b : List Edit) → SpellsAll version text a → SpellsAll version text b → a ≡ b
one_list version text a b of_a of_b =
    (whole version text a b [] of_a of_b.1 (BeginsNoLine-unended version [] tt) (of_b.0 ∙ sym (append-nil (text_of b)))).0

at_bad : (version : Version) (text : List ℕ) (line : ℕ) (fault : LineFault) (m : IsMalformed version text line fault) → BeginsNoLine version (m.bad ++ 10 ∷ m.after)
at_bad version text line fault m = BeginsNoLine-bad version m.bad m.after fault m.one_line m.has_fault

-- a text of edits has no bad line
pub not_malformed : (version : Version) (text : List ℕ) (edits : List Edit) (line : ℕ) (fault : LineFault) → SpellsAll version text edits → IsMalformed version text line fault → ⊥
not_malformed version text edits line fault spelled m =
    let parts = whole version text edits m.before (m.bad ++ 10 ∷ m.after) spelled m.of_version (at_bad version text line fault m) m.parts in
    Lacks-separated 10 m.bad m.after (subst (Lacks 10) parts.1 tt)

-- a text of edits has no rest
pub no_rest : (version : Version) (text : List ℕ) (edits : List Edit) (line : ℕ) → SpellsAll version text edits → HasRest version text line → ⊥
no_rest version text edits line spelled r =
    r.something (sym (whole version text edits r.before r.rest spelled r.of_version (BeginsNoLine-unended version r.rest r.unended) r.parts).1)

line_number : (xs ys : List Edit) (m n : ℕ) → m ≡ length xs + 1 → n ≡ length ys + 1 → xs ≡ ys → m ≡ n
line_number xs ys m n of_m of_n same = of_m ∙ ap (λ (zs : List Edit). length zs + 1) same ∙ sym of_n

-- a text has one first bad line, with one fault
pub one_line : (version : Version) (text : List ℕ) (m n : ℕ) (f g : LineFault) → IsMalformed version text m f → IsMalformed version text n g → (m ≡ n) × (f ≡ g)
one_line version text m n f g a b =
    let parts = same_edits version a.before b.before (a.bad ++ 10 ∷ a.after) (b.bad ++ 10 ∷ b.after) a.of_version b.of_version (at_bad version text m f a) (at_bad version text n g b) (sym a.parts ∙ b.parts) in
    let bad = first_part 10 a.bad b.bad a.after b.after a.one_line b.one_line parts.1 in (
      line_number a.before b.before m n a.number b.number parts.0,
      one_fault version b.bad f g (subst (λ line. HasFault version line f) bad.0 a.has_fault) b.has_fault,
    )

-- a text with a first bad line has no rest
pub malformed_or_rest : (version : Version) (text : List ℕ) (m n : ℕ) (fault : LineFault) → IsMalformed version text m fault → HasRest version text n → ⊥
malformed_or_rest version text m n fault a b =
    let parts = same_edits version a.before b.before (a.bad ++ 10 ∷ a.after) b.rest a.of_version b.of_version (at_bad version text m fault a) (BeginsNoLine-unended version b.rest b.unended) (sym a.parts ∙ b.parts) in
    Lacks-separated 10 a.bad a.after (subst (Lacks 10) (sym parts.1) b.unended)

-- a text has one rest
pub one_rest : (version : Version) (text : List ℕ) (m n : ℕ) → HasRest version text m → HasRest version text n → m ≡ n
one_rest version text m n a b =
    line_number a.before b.before m n a.number b.number
    (same_edits version a.before b.before a.rest b.rest a.of_version b.of_version (BeginsNoLine-unended version a.rest a.unended) (BeginsNoLine-unended version b.rest b.unended) (sym a.parts ∙ b.parts)).0

-- ---- lines are counted by bytes

line_long : (edit : Edit) (rest : List ℕ) → length rest + 1 ≤ length (line_of edit ++ rest)
line_long edit rest =
    let line = length-append (form (edit_kind edit) (edit_edge edit)) (10 ∷ []) in
    omega (arith, length-append (line_of edit) rest, line)

lines_long : (edits : List Edit) (rest : List ℕ) → length edits + length rest ≤ length (text_of edits ++ rest)
lines_long [] rest = omega arith
lines_long (edit ∷ edits) rest =
    let more = lines_long edits rest in
    let first = line_long edit (text_of edits ++ rest) in
    omega (arith, ap length (append_assoc (line_of edit) (text_of edits) rest))

-- the number of a line is no greater than the number of bytes
pub malformed_short : (version : Version) (text : List ℕ) (line : ℕ) (fault : LineFault) → IsMalformed version text line fault → line ≤ length text
malformed_short version text line fault m =
    let long = lines_long m.before (m.bad ++ 10 ∷ m.after) in
    let number = m.number in
    omega (arith, ap length m.parts, length-append m.bad (10 ∷ m.after))

pub rest_short : (version : Version) (text : List ℕ) (line : ℕ) → HasRest version text line → line ≤ length text
rest_short version text line r = by_rest r.rest refl where
  by_rest : (rest : List ℕ) → r.rest ≡ rest → line ≤ length text
  by_rest [] none = absurd (r.something none)
  by_rest (byte ∷ bytes) some =
      let long = lines_long r.before r.rest in
      let number = r.number in
      omega (arith, ap length r.parts, ap length some)
