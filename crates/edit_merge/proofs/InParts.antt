-- Lines of a text in two parts, of which each is named by itself: those of the second part stand further on in the text by the length of the first.
use Rattle.std.proofs.Common.{◌≡◌, ◌≢◌, ◌⊎◌, inl, inr, ℕ, zero, suc, ◌+◌, ◌≤◌, List, [], ◌∷◌, ◌++◌, length, map, drop, take, append_assoc, append-nil, length-append, refl, sym, ap, ap₂, subst, ◌∙◌, arith}
use Rattle.std.proofs.Math.Seq.{take-append_seam}
use Rattle.text_parts.specs.Separated.{Lacks}
use Rattle.grove_sorts.specs.declared.version.Version.{Version}
use Rattle.grove_edits.specs.declared.edit.Edit.{Edit}
use Rattle.grove_edits.specs.Edit.{edit_edge}
use Rattle.grove_edits.specs.Edge.{IsEdgeOf}
use Rattle.edit_text.specs.declared.line_fault.LineFault.{LineFault}
use Rattle.edit_text.specs.declared.text_fault.TextFault.{TextFault}
use Rattle.edit_text.specs.declared.text_fault.TextFault.TheVariants.{Malformed, Rest, NoMemory}
use Rattle.edit_text.specs.Text.{line_of, text_of, AreOf, IsMalformed, HasRest, HasTextFault}
use Rattle.edit_merge.specs.declared.named_line.NamedLine.{NamedLine}
use Rattle.edit_merge.specs.Named.{Stands, StandAll, AreNamed}
use Rattle.edit_merge.specs.InParts.{moved, IsBehind}
use Rattle.edit_merge.proofs.Canonical.{All-append}
use Rattle.edit_merge.proofs.Groups.{text_of-append}
use Rattle.edit_merge.proofs.Standing.{StandAll-append, stand_alike_long, ends_within}

drop_within : (n : ℕ) (a b : List ℕ) → n ≤ length a → drop n (a ++ b) ≡ drop n a ++ b
drop_within zero a b le = refl
drop_within (suc n) [] b le = absurd (omega arith)
drop_within (suc n) (x ∷ a) b le = drop_within n a b (omega arith)

drop_past : (a b : List ℕ) (n m : ℕ) → m ≡ length a + n → drop m (a ++ b) ≡ drop n b
drop_past [] b n m is = (let same : m ≡ n = omega (arith, is) in ap (λ k. drop k b) same)
drop_past (x ∷ a) b n zero is = absurd (omega arith)
drop_past (x ∷ a) b n (suc m) is = drop_past a b n m (omega arith)

-- a cut behind the LF of a line
pub cut_behind : (text low high line after front : List ℕ) (n : ℕ) → text ≡ low ++ high → high ≡ line ++ 10 ∷ after → n ≡ length low + length line + 1 → front ≡ take n text
    → (before : List ℕ) × (front ≡ before ++ 10 ∷ [])
cut_behind text low high line after front n whole parts count is =
    let ended : List ℕ = (low ++ line) ++ 10 ∷ [] in
    let split : text ≡ ended ++ after = whole ∙ ap (λ (xs : List ℕ). low ++ xs) parts ∙ sym (append_assoc low line (10 ∷ after)) ∙ sym (append_assoc (low ++ line) (10 ∷ []) after) in
    let long : n ≡ length ended = omega (arith, count, length-append (low ++ line) (10 ∷ []), length-append low line) in
    (low ++ line, is ∙ ap (λ (k : ℕ). take k text) long ∙ ap (take (length ended)) split ∙ take-append_seam ended after)

-- what ends with an LF ends with no bytes that lack it
has_its_end : (bytes : List ℕ) → Lacks 10 (bytes ++ 10 ∷ []) → ⊥
has_its_end [] lacks = lacks.0 refl
has_its_end (x ∷ bytes) lacks = has_its_end bytes lacks.1

no_rest : (before done rest : List ℕ) → before ++ 10 ∷ [] ≡ done ++ rest → Lacks 10 rest → rest ≢ [] → ⊥
no_rest before [] rest same lacks some = has_its_end before (subst (Lacks 10) (sym same) lacks)
no_rest [] (y ∷ done) rest same lacks some = nothing_left done rest (ap (drop 1) same) some where
  nothing_left : (done rest : List ℕ) → [] ≡ done ++ rest → rest ≢ [] → ⊥
  nothing_left [] rest none some = some (sym none)
  nothing_left (z ∷ done) rest none some = absurd (let long = ap length none in omega (arith, long))
no_rest (x ∷ before) (y ∷ done) rest same lacks some = no_rest before done rest (ap (drop 1) same) lacks some

module _ (version : Version) (a b : List ℕ) where
  stands_wider : (line : NamedLine) (edit : Edit) → Stands version a line edit → Stands version (a ++ b) line edit
  stands_wider line edit stands =
      let within = ends_within version a line (edit, stands) in
      let low = within.0 in
      let high = within.1 in
      let le : line.start ≤ length a = omega (arith, low, high) in
      record {
        after = stands.after ++ b;
        there = drop_within line.start a b le ∙ ap (λ (xs : List ℕ). xs ++ b) stands.there ∙ append_assoc (line_of edit) stands.after b;
        ended = stands.ended;
        of_version = stands.of_version;
        named = stands.named;
      }

  stands_moved : (line : NamedLine) (edit : Edit) → Stands version b line edit → Stands version (a ++ b) (moved (length a) line) edit
  stands_moved line edit stands = record {
    after = stands.after;
    there = drop_past a b line.start (line.start + length a) (omega arith) ∙ stands.there;
    ended = (let ended = stands.ended in omega (arith, ended));
    of_version = stands.of_version;
    named = stands.named;
  }

  all_wider : (lines : List NamedLine) (edits : List Edit) → StandAll version a lines edits → StandAll version (a ++ b) lines edits
  all_wider [] [] stand = tt
  all_wider [] (e ∷ edits) stand = absurd stand
  all_wider (l ∷ lines) [] stand = absurd stand
  all_wider (l ∷ lines) (e ∷ edits) stand = (stands_wider l e stand.0, all_wider lines edits stand.1)

  all_moved : (lines : List NamedLine) (edits : List Edit) → StandAll version b lines edits → StandAll version (a ++ b) (map (moved (length a)) lines) edits
  all_moved [] [] stand = tt
  all_moved [] (e ∷ edits) stand = absurd stand
  all_moved (l ∷ lines) [] stand = absurd stand
  all_moved (l ∷ lines) (e ∷ edits) stand = (stands_moved l e stand.0, all_moved lines edits stand.1)

  -- both parts are named
  pub named_both : (lines others all : List NamedLine) → all ≡ lines ++ map (moved (length a)) others → AreNamed version a lines → AreNamed version b others → AreNamed version (a ++ b) all
  named_both lines others all is first then = record {
    edits = first.edits ++ then.edits;
    spelled = (ap₂ ◌++◌ first.spelled.0 then.spelled.0 ∙ sym (text_of-append first.edits then.edits), All-append (λ e. IsEdgeOf version (edit_edge e)) first.edits then.edits first.spelled.1 then.spelled.1);
    stand = subst (λ ls. StandAll version (a ++ b) ls (first.edits ++ then.edits)) (sym is)
        (StandAll-append version (a ++ b) lines (map (moved (length a)) others) first.edits then.edits (all_wider lines first.edits first.stand) (all_moved others then.edits then.stand));
  }

  malformed_wider : (line : ℕ) (fault : LineFault) → IsMalformed version a line fault → IsMalformed version (a ++ b) line fault
  malformed_wider line fault is = record {
    before = is.before;
    of_version = is.of_version;
    bad = is.bad;
    after = is.after ++ b;
    parts = ap (λ (xs : List ℕ). xs ++ b) is.parts ∙ append_assoc (text_of is.before) (is.bad ++ 10 ∷ is.after) b
        ∙ ap (λ (xs : List ℕ). text_of is.before ++ xs) (append_assoc is.bad (10 ∷ is.after) b);
    one_line = is.one_line;
    has_fault = is.has_fault;
    number = is.number;
  }

  -- the first part has a fault: it ends with a line, so nothing is left unended there
  pub fault_in_first : (fault : TextFault) → (before : List ℕ) × (a ≡ before ++ 10 ∷ []) → HasTextFault version a fault → HasTextFault version (a ++ b) fault
  fault_in_first (Malformed line fault) ended has = malformed_wider line fault has
  fault_in_first (Rest line) ended has = absurd (no_rest ended.0 (text_of has.before) has.rest (sym ended.1 ∙ has.parts) has.unended has.something)
  fault_in_first NoMemory ended has = tt

  behind_lines : (lines : List NamedLine) (named : AreNamed version a lines) (before : List Edit) (rest : List ℕ) → b ≡ text_of before ++ rest → a ++ b ≡ text_of (named.edits ++ before) ++ rest
  behind_lines lines named before rest parts =
      ap₂ ◌++◌ named.spelled.0 parts ∙ sym (append_assoc (text_of named.edits) (text_of before) rest) ∙ ap (λ (xs : List ℕ). xs ++ rest) (sym (text_of-append named.edits before))

  number_behind : (lines : List NamedLine) (named : AreNamed version a lines) (before : List Edit) (line : ℕ) → line ≡ length before + 1 → line + length lines ≡ length (named.edits ++ before) + 1
  number_behind lines named before line is =
      omega (arith, is, stand_alike_long version a lines named.edits named.stand, length-append named.edits before)

  malformed_behind : (lines : List NamedLine) → AreNamed version a lines → (line : ℕ) (fault : LineFault) → IsMalformed version b line fault → IsMalformed version (a ++ b) (line + length lines) fault
  malformed_behind lines named line fault is = record {
    before = named.edits ++ is.before;
    of_version = All-append (λ e. IsEdgeOf version (edit_edge e)) named.edits is.before named.spelled.1 is.of_version;
    bad = is.bad;
    after = is.after;
    parts = behind_lines lines named is.before (is.bad ++ 10 ∷ is.after) is.parts;
    one_line = is.one_line;
    has_fault = is.has_fault;
    number = number_behind lines named is.before line is.number;
  }

  rest_behind : (lines : List NamedLine) → AreNamed version a lines → (line : ℕ) → HasRest version b line → HasRest version (a ++ b) (line + length lines)
  rest_behind lines named line is = record {
    before = named.edits ++ is.before;
    of_version = All-append (λ e. IsEdgeOf version (edit_edge e)) named.edits is.before named.spelled.1 is.of_version;
    rest = is.rest;
    parts = behind_lines lines named is.before is.rest is.parts;
    unended = is.unended;
    something = is.something;
    number = number_behind lines named is.before line is.number;
  }

  told : (fault behind : TextFault) → HasTextFault version (a ++ b) fault → (behind ≡ NoMemory) ⊎ (behind ≡ fault) → HasTextFault version (a ++ b) behind
  told fault behind has (inl none) = subst (HasTextFault version (a ++ b)) (sym none) tt
  told fault behind has (inr same) = subst (HasTextFault version (a ++ b)) (sym same) has

  -- the second part has a fault behind the lines of the first
  pub fault_in_second : (lines : List NamedLine) (count : ℕ) (fault behind : TextFault) → count ≡ length lines → AreNamed version a lines → HasTextFault version b fault → IsBehind count fault behind
      → HasTextFault version (a ++ b) behind
  fault_in_second lines count (Malformed line fault) behind is named has told_as =
      told (Malformed (line + count) fault) behind (subst (λ (n : ℕ). IsMalformed version (a ++ b) (line + n) fault) (sym is) (malformed_behind lines named line fault has)) told_as
  fault_in_second lines count (Rest line) behind is named has told_as =
      told (Rest (line + count)) behind (subst (λ (n : ℕ). HasRest version (a ++ b) (line + n)) (sym is) (rest_behind lines named line has)) told_as
  fault_in_second lines count NoMemory behind is named has told_as = subst (HasTextFault version (a ++ b)) (sym told_as) tt
