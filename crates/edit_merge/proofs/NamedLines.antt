-- The lines of a text are named one after the other.
use Rattle.std.proofs.Common.{◌≡◌, ◌≢◌, ℕ, ◌+◌, ◌-◌, List, [], ◌∷◌, ◌++◌, length, drop, append_assoc, append-nil, length-append, refl, sym, ap, subst, ◌∙◌, arith}
use Rattle.std.proofs.Math.Seq.{drop-append_seam}
use Rattle.text_parts.specs.Separated.{Lacks}
use Rattle.grove_sorts.specs.declared.version.Version.{Version}
use Rattle.grove_edits.specs.declared.edit.Edit.{Edit}
use Rattle.grove_edits.specs.Edit.{edit_edge, edit_kind}
use Rattle.grove_edits.specs.Edge.{IsEdgeOf}
use Rattle.edit_text.specs.declared.line_fault.LineFault.{LineFault}
use Rattle.edit_text.specs.Line.{form, Spells, HasFault}
use Rattle.edit_text.specs.Text.{line_of, text_of, AreOf, IsMalformed, HasRest}
use Rattle.edit_text.proofs.MoreLines.{line_read}
use Rattle.edit_merge.specs.declared.named_line.NamedLine.{NamedLine}
use Rattle.edit_merge.specs.Named.{Stands, StandAll, AreNamed}
use Rattle.edit_merge.proofs.Canonical.{All-append}
use Rattle.edit_merge.proofs.Standing.{StandAll-append, stand_alike_long}

module _ (version : Version) (text : List ℕ) where
  -- the lines before the rest are named
  pub record AreNamedTo (rest : List ℕ) (lines : List NamedLine) : Type 0 where
    pub edits : List Edit
    pub parts : text ≡ text_of edits ++ rest
    pub of_version : AreOf version edits
    pub stand : StandAll version text lines edits

  pub named_to_first : (lines : List NamedLine) → lines ≡ [] → AreNamedTo text lines
  named_to_first lines none = record { edits = []; parts = refl; of_version = tt; stand = subst (λ ls. StandAll version text ls []) (sym none) tt }

  -- the rest begins where it is told to
  rest_there : (rest : List ℕ) (lines : List NamedLine) → AreNamedTo rest lines → drop (length text - length rest) text ≡ rest
  rest_there rest lines named =
      let start : length text - length rest ≡ length (text_of named.edits) = omega (arith, ap length named.parts, length-append (text_of named.edits) rest) in
      ap (λ n. drop n text) start ∙ ap (drop (length (text_of named.edits))) named.parts ∙ drop-append_seam (text_of named.edits) rest

  -- the next line is named
  pub named_more : (rest line after : List ℕ) (lines more : List NamedLine) (next : NamedLine) (edit : Edit) → AreNamedTo rest lines → rest ≡ line ++ 10 ∷ after → Spells version line edit
      → next.name ≡ (edit_edge edit).name → next.start ≡ length text - length rest → next.end ≡ next.start + length line → more ≡ lines ++ next ∷ [] → AreNamedTo after more
  named_more rest line after lines more next edit named parts spells name start end is =
      let ended : rest ≡ line_of edit ++ after = parts ∙ ap (λ (l : List ℕ). l ++ 10 ∷ after) spells.0 ∙ sym (append_assoc (form (edit_kind edit) (edit_edge edit)) (10 ∷ []) after) in
      let stands : Stands version text next edit = record {
        after = after;
        there = ap (λ n. drop n text) start ∙ rest_there rest lines named ∙ ended;
        ended = end ∙ ap (λ (l : List ℕ). next.start + length l) spells.0;
        of_version = spells.1;
        named = name;
      } in
      record {
        edits = named.edits ++ edit ∷ [];
        parts = line_read text rest line after named.edits edit named.parts parts spells.0;
        of_version = All-append (λ e. IsEdgeOf version (edit_edge e)) named.edits (edit ∷ []) named.of_version (spells.1, tt);
        stand = subst (λ ls. StandAll version text ls (named.edits ++ edit ∷ [])) (sym is) (StandAll-append version text lines (next ∷ []) named.edits (edit ∷ []) named.stand (stands, tt));
      }

  -- or has a fault
  pub malformed_here : (rest line after : List ℕ) (lines : List NamedLine) (number : ℕ) (fault : LineFault) → AreNamedTo rest lines → rest ≡ line ++ 10 ∷ after → Lacks 10 line
      → HasFault version line fault → number ≡ length lines + 1 → IsMalformed version text number fault
  malformed_here rest line after lines number fault named parts one_line has is = record {
    before = named.edits;
    of_version = named.of_version;
    bad = line;
    after = after;
    parts = named.parts ∙ ap (λ (r : List ℕ). text_of named.edits ++ r) parts;
    one_line = one_line;
    has_fault = has;
    number = is ∙ ap (λ n. n + 1) (stand_alike_long version text lines named.edits named.stand);
  }

  -- what is left is a rest, or nothing
  pub rest_here : (rest : List ℕ) (lines : List NamedLine) (number : ℕ) → AreNamedTo rest lines → Lacks 10 rest → rest ≢ [] → number ≡ length lines + 1 → HasRest version text number
  rest_here rest lines number named unended some is = record {
    before = named.edits;
    of_version = named.of_version;
    rest = rest;
    parts = named.parts;
    unended = unended;
    something = some;
    number = is ∙ ap (λ n. n + 1) (stand_alike_long version text lines named.edits named.stand);
  }

  pub named_all : (rest : List ℕ) (lines : List NamedLine) → AreNamedTo rest lines → rest ≡ [] → AreNamed version text lines
  named_all rest lines named nothing = record {
    edits = named.edits;
    spelled = (named.parts ∙ ap (λ (r : List ℕ). text_of named.edits ++ r) nothing ∙ append-nil (text_of named.edits), named.of_version);
    stand = named.stand;
  }
