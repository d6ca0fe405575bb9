-- Texts with the line of their version: each is of one version, and so what holds of the lines behind it holds of the text.
use Rattle.std.proofs.Common.{◌≡◌, ℕ, ◌+◌, List, [], ◌∷◌, ◌++◌, drop, refl, sym, ap, subst, ◌∙◌}
use Rattle.grove_sorts.specs.declared.version.Version.{Version}
use Rattle.grove_sorts.specs.declared.version.Version.TheVariants.{One, Two}
use Rattle.grove_edits.specs.declared.edit.Edit.{Edit}
use Rattle.grove_edits.specs.Edit.{edit_edge}
use Rattle.edit_text.specs.declared.line_fault.LineFault.{LineFault}
use Rattle.edit_text.specs.Text.{AreOf, SpellsAll, IsMalformed, HasRest}
use Rattle.edit_text.specs.Whole.{header, header_lines, HasVersion, IsTextOf, IsMalformedText, HasTextRest}
use Rattle.edit_text.proofs.Lines.{all_in_two}
use Rattle.edit_text.proofs.TextsOfEdits as lines

-- a text has one version and one body
pub one_version : (text : List ℕ) (v w : Version) (a b : List ℕ) → HasVersion text v a → HasVersion text w b → (v ≡ w) × (a ≡ b)
one_version text One One a b of_a of_b = (refl, sym of_a.parts ∙ of_b.parts)
one_version text One Two a b of_a of_b = absurd (of_a.else_one refl b of_b.parts)
one_version text Two One a b of_a of_b = absurd (of_b.else_one refl a of_a.parts)
one_version text Two Two a b of_a of_b =
    let same : header Two ++ a ≡ header Two ++ b = sym of_a.parts ∙ of_b.parts in
    (refl, ap (drop 8) same)

pub one_list : (text : List ℕ) (v w : Version) (a b : List Edit) → IsTextOf text v a → IsTextOf text w b → (v ≡ w) × (a ≡ b)
one_list text v w a b of_a of_b =
    let same = one_version text v w of_a.body of_b.body of_a.has_version of_b.has_version in
    let spelled : SpellsAll w of_b.body a = subst (λ x. SpellsAll x of_b.body a) same.0 (subst (λ body. SpellsAll v body a) same.1 of_a.spelled) in
    (same.0, lines.one_list w of_b.body a b spelled of_b.spelled)

pub not_malformed : (text : List ℕ) (version : Version) (edits : List Edit) (line : ℕ) (fault : LineFault) → IsTextOf text version edits → IsMalformedText text line fault → ⊥
not_malformed text version edits line fault t m =
    let same = one_version text version m.version t.body m.body t.has_version m.has_version in
    let spelled : SpellsAll m.version m.body edits = subst (λ x. SpellsAll x m.body edits) same.0 (subst (λ body. SpellsAll version body edits) same.1 t.spelled) in
    lines.not_malformed m.version m.body edits m.line_of_body fault spelled m.malformed

pub no_rest : (text : List ℕ) (version : Version) (edits : List Edit) (line : ℕ) → IsTextOf text version edits → HasTextRest text line → ⊥
no_rest text version edits line t r =
    let same = one_version text version r.version t.body r.body t.has_version r.has_version in
    let spelled : SpellsAll r.version r.body edits = subst (λ x. SpellsAll x r.body edits) same.0 (subst (λ body. SpellsAll version body edits) same.1 t.spelled) in
    lines.no_rest r.version r.body edits r.line_of_body spelled r.has_rest

counted : (v w : Version) (i j m n : ℕ) → m ≡ header_lines v + i → n ≡ header_lines w + j → v ≡ w → i ≡ j → m ≡ n
counted v w i j m n of_m of_n same_version same_line =
    of_m ∙ ap (λ x. header_lines x + i) same_version ∙ ap (λ k. header_lines w + k) same_line ∙ sym of_n

-- the same bad line, in the version and the body of another reading
malformed_at : (v w : Version) (a b : List ℕ) (line : ℕ) (fault : LineFault) → v ≡ w → a ≡ b → IsMalformed v a line fault → IsMalformed w b line fault
malformed_at v w a b line fault of_version of_body m =
    subst (λ x. IsMalformed x b line fault) of_version (subst (λ body. IsMalformed v body line fault) of_body m)

rest_at : (v w : Version) (a b : List ℕ) (line : ℕ) → v ≡ w → a ≡ b → HasRest v a line → HasRest w b line
rest_at v w a b line of_version of_body r =
    subst (λ x. HasRest x b line) of_version (subst (λ body. HasRest v body line) of_body r)

pub one_line : (text : List ℕ) (m n : ℕ) (f g : LineFault) → IsMalformedText text m f → IsMalformedText text n g → (m ≡ n) × (f ≡ g)
one_line text m n f g a b =
    let same = one_version text a.version b.version a.body b.body a.has_version b.has_version in
    let both = lines.one_line b.version b.body a.line_of_body b.line_of_body f g (malformed_at a.version b.version a.body b.body a.line_of_body f same.0 same.1 a.malformed) b.malformed in
    (counted a.version b.version a.line_of_body b.line_of_body m n a.number b.number same.0 both.0, both.1)

pub malformed_or_rest : (text : List ℕ) (m n : ℕ) (fault : LineFault) → IsMalformedText text m fault → HasTextRest text n → ⊥
malformed_or_rest text m n fault a b =
    let same = one_version text a.version b.version a.body b.body a.has_version b.has_version in
    lines.malformed_or_rest b.version b.body a.line_of_body b.line_of_body fault (malformed_at a.version b.version a.body b.body a.line_of_body fault same.0 same.1 a.malformed) b.has_rest

pub one_rest : (text : List ℕ) (m n : ℕ) → HasTextRest text m → HasTextRest text n → m ≡ n
one_rest text m n a b =
    let same = one_version text a.version b.version a.body b.body a.has_version b.has_version in
    counted a.version b.version a.line_of_body b.line_of_body m n a.number b.number same.0
    (lines.one_rest b.version b.body a.line_of_body b.line_of_body (rest_at a.version b.version a.body b.body a.line_of_body same.0 same.1 a.has_rest) b.has_rest)

all_of_two : (edits : List Edit) → AreOf Two edits
all_of_two [] = tt
all_of_two (edit ∷ edits) = (all_in_two (edit_edge edit), all_of_two edits)

-- a text of version one spells the same edits behind the line of version two
pub kept_in_two : (text : List ℕ) (edits : List Edit) → IsTextOf text One edits → IsTextOf (header Two ++ text) Two edits
kept_in_two text edits t = record {
  body = text;
  has_version = record { parts = refl; else_one = λ e. absurd cc };
  spelled = (t.has_version.parts ∙ t.spelled.0, all_of_two edits);
}
