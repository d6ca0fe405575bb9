-- What the pieces of a text give one after the other: where they are cut does not matter.
use Rattle.std.proofs.Common.{◌≡◌, ℕ, ◌+◌, List, [], ◌∷◌, ◌++◌, length, Option, Some, None, refl, sym, ap, subst, ◌∙◌, append_assoc, append-nil, arith, length-append}
use Rattle.std.proofs.lemmas.Grind.{flat_map-append}
use Rattle.std.specs.List.{flat_map}
use Rattle.text_parts.specs.Separated.{Lacks}
use Rattle.text_parts.proofs.Parts.{Lacks-separated, first_part}
use Rattle.grove_sorts.specs.declared.version.Version.{Version}
use Rattle.grove_edits.specs.declared.edit.Edit.{Edit}
use Rattle.edit_text.specs.declared.line_fault.LineFault.{LineFault}
use Rattle.edit_text.specs.Line.{HasFault}
use Rattle.edit_text.specs.Text.{line_of, text_of}
use Rattle.edit_text.proofs.Lines.{one_fault}
use Rattle.edit_text.proofs.TextsOfEdits.{BeginsNoLine-unended, BeginsNoLine-bad, same_edits}
use Rattle.edit_stream.proofs.Pieces.{all_append}
use Rattle.edit_stream.specs.Stream.{StreamState, fresh, line_count, Leaves, StopsAt, Reads, FeedsBy, Feeds, FeedsAll}

-- ---- streams

pub stream_from_fields : (a b : StreamState) → a.version ≡ b.version → a.kept ≡ b.kept → a.lines ≡ b.lines → a.fault ≡ b.fault → a ≡ b
stream_from_fields a b version kept lines fault =
    let with_version : a ≡ record { version = b.version; kept = a.kept; lines = a.lines; fault = a.fault } = ap (λ (v : Version). record { version = v; kept = a.kept; lines = a.lines; fault = a.fault }) version in
    let with_kept : a ≡ record { version = b.version; kept = b.kept; lines = a.lines; fault = a.fault } = with_version ∙ ap (λ (k : List ℕ). record { version = b.version; kept = k; lines = a.lines; fault = a.fault }) kept in
    let with_lines : a ≡ record { version = b.version; kept = b.kept; lines = b.lines; fault = a.fault } = with_kept ∙ ap (λ (n : ℕ). record { version = b.version; kept = b.kept; lines = n; fault = a.fault }) lines in
    with_lines ∙ ap (λ (f : Option LineFault). record { version = b.version; kept = b.kept; lines = b.lines; fault = f }) fault

none_is_not_some : (fault : LineFault) → None ≡ Some fault → ⊥
none_is_not_some fault e = cc

-- ---- a text has one reading

both_leave : (version : Version) (text : List ℕ) (xs ys : List Edit) (k l : List ℕ) → Leaves version text xs k → Leaves version text ys l → (xs ≡ ys) × (k ≡ l)
both_leave version text xs ys k l a b = same_edits version xs ys k l a.of_version b.of_version (BeginsNoLine-unended version k a.unended) (BeginsNoLine-unended version l b.unended) (sym a.parts ∙ b.parts)

leave_or_stop : (version : Version) (text : List ℕ) (xs ys : List Edit) (k : List ℕ) (fault : LineFault) → Leaves version text xs k → StopsAt version text ys fault → ⊥
leave_or_stop version text xs ys k fault a b =
    let parts = same_edits version xs ys k (b.bad ++ 10 ∷ b.after) a.of_version b.of_version (BeginsNoLine-unended version k a.unended) (BeginsNoLine-bad version b.bad b.after fault b.one_line b.has_fault) (sym a.parts ∙ b.parts) in
    Lacks-separated 10 b.bad b.after (subst (Lacks 10) parts.1 a.unended)

both_stop : (version : Version) (text : List ℕ) (xs ys : List Edit) (f g : LineFault) → StopsAt version text xs f → StopsAt version text ys g → (xs ≡ ys) × (f ≡ g)
both_stop version text xs ys f g a b =
    let parts = same_edits version xs ys (a.bad ++ 10 ∷ a.after) (b.bad ++ 10 ∷ b.after) a.of_version b.of_version
    (BeginsNoLine-bad version a.bad a.after f a.one_line a.has_fault) (BeginsNoLine-bad version b.bad b.after g b.one_line b.has_fault) (sym a.parts ∙ b.parts) in
    let bad = first_part 10 a.bad b.bad a.after b.after a.one_line b.one_line parts.1 in
    (parts.0, one_fault version b.bad f g (subst (λ line. HasFault version line f) bad.0 a.has_fault) b.has_fault)

one_reading : (version : Version) (text : List ℕ) (xs ys : List Edit) (k l : List ℕ) (f g : Option LineFault) → Reads version text xs k f → Reads version text ys l g → (xs ≡ ys) × (k ≡ l) × (f ≡ g)
one_reading version text xs ys k l None None a b = let same = both_leave version text xs ys k l a b in (same.0, same.1, refl)
one_reading version text xs ys k l None (Some g) a b = absurd (leave_or_stop version text xs ys k g a b.0)
one_reading version text xs ys k l (Some f) None a b = absurd (leave_or_stop version text ys xs l f b a.0)
one_reading version text xs ys k l (Some f) (Some g) a b = let same = both_stop version text xs ys f g a.0 b.0 in (same.0, a.1 ∙ sym b.1, ap Some same.1)

one_answer_by : (f : Option LineFault) (old new other : StreamState) (piece : List ℕ) (edits more : List Edit)
    → FeedsBy f old piece edits new → FeedsBy f old piece more other → (edits ≡ more) × (new ≡ other)
one_answer_by None old new other piece edits more a b =
    let same = one_reading old.version (old.kept ++ piece) edits more new.kept other.kept new.fault other.fault a.0 b.0 in
    (same.0, stream_from_fields new other (a.2 ∙ sym b.2) same.1 (a.1 ∙ ap (λ (es : List Edit). line_count (old.lines + length es)) same.0 ∙ sym b.1) same.2)
one_answer_by (Some f) old new other piece edits more a b = (a.0 ∙ sym b.0, a.1 ∙ sym b.1)

-- a piece has one answer
pub one_answer : (old new other : StreamState) (piece : List ℕ) (edits more : List Edit)
    → Feeds old piece edits new → Feeds old piece more other → (edits ≡ more) × (new ≡ other)
one_answer old = one_answer_by old.fault old

-- ---- a text and more behind it

text_of-append : (xs ys : List Edit) → text_of (xs ++ ys) ≡ text_of xs ++ text_of ys
text_of-append xs ys = flat_map-append line_of xs ys

-- what is left, with more behind it, begins with more lines
left_then : (text more : List ℕ) (xs ys : List Edit) (kept rest : List ℕ) → text ≡ text_of xs ++ kept → kept ++ more ≡ text_of ys ++ rest
    → text ++ more ≡ text_of (xs ++ ys) ++ rest
left_then text more xs ys kept rest left then =
    ap (λ (t : List ℕ). t ++ more) left ∙ append_assoc (text_of xs) kept more ∙ ap (λ (t : List ℕ). text_of xs ++ t) then
    ∙ sym (append_assoc (text_of xs) (text_of ys) rest) ∙ ap (λ (t : List ℕ). t ++ rest) (sym (text_of-append xs ys))

read_on : (version : Version) (text more : List ℕ) (xs ys : List Edit) (kept k : List ℕ) (f : Option LineFault) → Leaves version text xs kept → Reads version (kept ++ more) ys k f → Reads version (text ++ more) (xs ++ ys) k f
read_on version text more xs ys kept k None a b = record { parts = left_then text more xs ys kept k a.parts b.parts; of_version = all_append version xs ys a.of_version b.of_version; unended = b.unended }
read_on version text more xs ys kept k (Some f) a b = (
  record { bad = b.0.bad; after = b.0.after; parts = left_then text more xs ys kept (b.0.bad ++ 10 ∷ b.0.after) a.parts b.0.parts; of_version = all_append version xs ys a.of_version b.0.of_version; one_line = b.0.one_line; has_fault = b.0.has_fault },
  b.1,
)

stopped : (version : Version) (text more : List ℕ) (xs : List Edit) (f : LineFault) → StopsAt version text xs f → StopsAt version (text ++ more) xs f
stopped version text more xs f a = record {
  bad = a.bad;
  after = a.after ++ more;
  parts = ap (λ (t : List ℕ). t ++ more) a.parts ∙ append_assoc (text_of xs) (a.bad ++ 10 ∷ a.after) more
      ∙ ap (λ (t : List ℕ). text_of xs ++ t) (append_assoc a.bad (10 ∷ a.after) more);
  of_version = a.of_version;
  one_line = a.one_line;
  has_fault = a.has_fault;
}

counted_on : (lines middle new : ℕ) (xs ys : List Edit) → middle ≡ line_count (lines + length xs) → new ≡ line_count (middle + length ys) → new ≡ line_count (lines + length (xs ++ ys))
counted_on lines middle new xs ys a b = omega (arith, length-append xs ys)

goes_on : (old middle new : StreamState) (first second : List ℕ) (some more : List Edit) → middle.fault ≡ None
    → FeedsBy None old first some middle → FeedsBy None middle second more new → FeedsBy None old (first ++ second) (some ++ more) new
goes_on old middle new first second some more good a b =
    let left : Leaves old.version (old.kept ++ first) some middle.kept = subst (Reads old.version (old.kept ++ first) some middle.kept) good a.0 in
    let then : Reads old.version (middle.kept ++ second) more new.kept new.fault = subst (λ v. Reads v (middle.kept ++ second) more new.kept new.fault) a.2 b.0 in (
      subst (λ text. Reads old.version text (some ++ more) new.kept new.fault) (append_assoc old.kept first second)
          (read_on old.version (old.kept ++ first) second some more middle.kept new.kept new.fault left then),
      counted_on old.lines middle.lines new.lines some more a.1 b.1,
      b.2 ∙ a.2,
    )

stays : (old middle : StreamState) (first second : List ℕ) (some : List Edit) (fault : LineFault) → middle.fault ≡ Some fault
    → FeedsBy None old first some middle → FeedsBy None old (first ++ second) some middle
stays old middle first second some fault bad a =
    let stop : Reads old.version (old.kept ++ first) some middle.kept (Some fault) = subst (Reads old.version (old.kept ++ first) some middle.kept) bad a.0 in
    let whole : Reads old.version ((old.kept ++ first) ++ second) some middle.kept (Some fault) = (stopped old.version (old.kept ++ first) second some fault stop.0, stop.1) in (
      subst (λ text. Reads old.version text some middle.kept middle.fault) (append_assoc old.kept first second)
          (subst (Reads old.version ((old.kept ++ first) ++ second) some middle.kept) (sym bad) whole),
      a.1,
      a.2,
    )

joined_by : (f g : Option LineFault) (old middle new : StreamState) (first second : List ℕ) (some more : List Edit) → old.fault ≡ f → middle.fault ≡ g
    → FeedsBy f old first some middle → FeedsBy g middle second more new → FeedsBy f old (first ++ second) (some ++ more) new
joined_by None None old middle new first second some more of_old of_middle a b = goes_on old middle new first second some more of_middle a b
joined_by None (Some g) old middle new first second some more of_old of_middle a b =
    let still = stays old middle first second some g of_middle a in
    let edits : some ≡ some ++ more = sym (ap (λ (es : List Edit). some ++ es) b.0 ∙ append-nil some) in
    subst (λ s. FeedsBy None old (first ++ second) (some ++ more) s) (sym b.1) (subst (λ es. FeedsBy None old (first ++ second) es middle) edits still)
joined_by (Some f) None old middle new first second some more of_old of_middle a b =
    absurd (none_is_not_some f (sym of_middle ∙ ap (λ (s : StreamState). s.fault) a.1 ∙ of_old))
joined_by (Some f) (Some g) old middle new first second some more of_old of_middle a b =
    (ap (λ (es : List Edit). es ++ more) a.0 ∙ b.0, b.1 ∙ a.1)

-- two pieces are one
pub joined : (old middle new : StreamState) (first second : List ℕ) (some more : List Edit)
    → Feeds old first some middle → Feeds middle second more new → Feeds old (first ++ second) (some ++ more) new
joined old middle new first second some more a b = joined_by old.fault middle.fault old middle new first second some more refl refl a b

-- all pieces are one, behind those that were fed before
joined_behind : (start old new : StreamState) (before : List ℕ) (pieces : List (List ℕ)) (some more : List Edit)
    → Feeds start before some old → FeedsAll old pieces more new → Feeds start (before ++ flat_map (λ piece. piece) pieces) (some ++ more) new
joined_behind start old new before [] some more a b =
    let text : before ≡ before ++ [] = sym (append-nil before) in
    let edits : some ≡ some ++ more = sym (ap (λ (es : List Edit). some ++ es) b.0 ∙ append-nil some) in
    subst (λ s. Feeds start (before ++ []) (some ++ more) s) (sym b.1)
    (subst (λ t. Feeds start t (some ++ more) old) text (subst (λ es. Feeds start before es old) edits a))
joined_behind start old new before (piece ∷ pieces) some more a b =
    let tail : Feeds start ((before ++ piece) ++ flat_map (λ p. p) pieces) ((some ++ b.1) ++ b.2) new =
    joined_behind start b.0 new (before ++ piece) pieces (some ++ b.1) b.2 (joined start old b.0 before piece some b.1 a b.3) b.4 in
    let text = append_assoc before piece (flat_map (λ p. p) pieces) in
    let edits : (some ++ b.1) ++ b.2 ≡ some ++ more = append_assoc some b.1 b.2 ∙ ap (λ (es : List Edit). some ++ es) (sym b.5) in
    subst (λ t. Feeds start t (some ++ more) new) text (subst (λ es. Feeds start ((before ++ piece) ++ flat_map (λ p. p) pieces) es new) edits tail)

nothing_fed : (version : Version) → Feeds (fresh version) [] [] (fresh version)
nothing_fed version = (record { parts = refl; of_version = tt; unended = tt }, refl, refl)

-- all pieces of a fresh stream are one
pub all_joined : (version : Version) (pieces : List (List ℕ)) (edits : List Edit) (new : StreamState) → FeedsAll (fresh version) pieces edits new → Feeds (fresh version) (flat_map (λ piece. piece) pieces) edits new
all_joined version pieces edits new all = joined_behind (fresh version) (fresh version) new [] pieces [] edits (nothing_fed version) all
