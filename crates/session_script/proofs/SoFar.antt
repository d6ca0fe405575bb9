-- Reading a session line by line.
use Rattle.std.proofs.Common.{◌≡◌, ◌≢◌, ℕ, ◌+◌, ◌≤◌, Bool, true, false, List, [], ◌∷◌, ◌++◌, Some, None, length, map, refl, sym, ap, subst, ◌∙◌, inl, inr, append_assoc, append-nil, length-append, arith}
use Rattle.std.specs.List.{list_all, flat_map}
use Rattle.std.proofs.lemmas.List.{map-append}
use Rattle.std.proofs.lemmas.Grind.{flat_map-append}
use Rattle.text_parts.specs.Separated.{Lacks}
use Rattle.edit_text.specs.declared.line_fault.LineFault.{LineFault}
use Rattle.session_script.specs.declared.script_kind.ScriptKind.{ScriptKind}
use Rattle.session_script.specs.declared.script_kind.ScriptKind.TheVariants.{OutOfPlace, UnknownReplica, RepeatedReplica, UnknownAuthor, RepeatedAuthor, TooMany, Rest, Unended}
use Rattle.grove_sorts.specs.declared.ident.Ident.{Ident}
use Rattle.grove_sorts.specs.declared.version.Version.{Version}
use Rattle.session_script.specs.declared.author.Declared.{Declared}
use Rattle.session_script.specs.declared.item.Item.{Item}
use Rattle.session_script.specs.declared.phase.Phase.{Phase}
use Rattle.session_script.specs.declared.phase.Phase.TheVariants as phases
use Rattle.session_script.specs.declared.reading.Reading.{Reading}
use Rattle.session_script.specs.declared.session.Session as sessions
use Rattle.session_script.specs.declared.statement.Statement.{Statement}
use Rattle.session_script.specs.Statement.{statement_text, InRange, IsStatementOf, Says, HasFormFault}
use Rattle.session_script.specs.Order.{version_of, named_replicas, statement_fault, GoOn}
use Rattle.session_script.specs.Script.{ended_line, script_text, AreKnown, BeginSession, SaysWrong, kind_of_line, HasLineFault, HasBadLine, IsBad}
use Rattle.session_script.specs.Session.{author_numbers, Spells}
use Rattle.session_script.specs.View.{View, version_after, view_at, seen, start, view, items_at, place_at, declared_at, repeats_replica_at, unknown_author_at, repeats_author_at, too_many_at, fault_at}
use Rattle.session_script.specs.Reading.{view_of, AuthorsAfter, ItemsAfter, LinesAfter}
use Rattle.session_script.proofs.Kept.{all_push, fine_at, HasLines, lines_of_nothing, lines_more, IsWithin, nothing_is_within, within_more, IsKnown, nothing_is_known, known_more, whole_session}
use Rattle.session_script.proofs.Scripts.{bad_by_form}
use Rattle.session_script.proofs.Told.{ended_lines}
use Rattle.session_script.proofs.Views.{after-append, first_fault, fault_is, ended_is, version_push}

-- what was read of a text, and what is left of it
pub record SoFar (text rest : List ℕ) (line : ℕ) (reading : Reading) : Type 0 where
  pub before : List Statement
  pub begin : BeginSession before
  pub viewed : view before ≡ view_of reading
  pub version : version_of before ≡ reading.version
  pub parts : text ≡ script_text before ++ rest
  pub number : line ≡ length before + 1
  pub few : length before + length rest ≤ length text
  pub has_lines : HasLines (map statement_text before) (view_of reading) reading.authors reading.items reading.lines
  pub within : IsWithin (view_of reading) reading.authors reading.items reading.lines
  pub known : IsKnown (view_of reading) reading.items reading.lines

-- the replicas of a view
names_at : (version : Version) (phase : Phase) (replicas : List Ident) (authors : List ℕ) (blocks ends sends shows : ℕ) → (view_at version phase replicas authors blocks ends sends shows).replicas ≡ replicas
names_at version phases.Nothing replicas authors blocks ends sends shows = refl
names_at version phases.Begun replicas authors blocks ends sends shows = refl
names_at version phases.Replicas replicas authors blocks ends sends shows = refl
names_at version phases.Authors replicas authors blocks ends sends shows = refl
names_at version phases.Items replicas authors blocks ends sends shows = refl

-- and its version
version_at : (version : Version) (phase : Phase) (replicas : List Ident) (authors : List ℕ) (blocks ends sends shows : ℕ) → (view_at version phase replicas authors blocks ends sends shows).version ≡ version
version_at version phases.Nothing replicas authors blocks ends sends shows = refl
version_at version phases.Begun replicas authors blocks ends sends shows = refl
version_at version phases.Replicas replicas authors blocks ends sends shows = refl
version_at version phases.Authors replicas authors blocks ends sends shows = refl
version_at version phases.Items replicas authors blocks ends sends shows = refl

version_is : (reading : Reading) → (view_of reading).version ≡ reading.version
version_is reading = version_at reading.version reading.phase reading.replicas (author_numbers reading.authors) reading.blocks reading.ends reading.sends reading.shows

pub nothing_yet : (text : List ℕ) (reading : Reading) → view_of reading ≡ start → reading.authors ≡ [] → reading.items ≡ [] → reading.lines ≡ [] → SoFar text text 1 reading
nothing_yet text reading is no_authors no_items no_lines = record {
  before = [];
  begin = record { in_range = tt; of_version = tt; good = tt };
  viewed = sym is;
  version = sym (sym (version_is reading) ∙ ap (λ (v : View). v.version) is);
  parts = refl;
  number = refl;
  few = omega arith;
  has_lines = rw (is, no_authors, no_items, no_lines) lines_of_nothing;
  within = rw (is, no_authors, no_items, no_lines) nothing_is_within;
  known = rw (is, no_items, no_lines) nothing_is_known;
}

-- ---- one more statement

pub GoOn-push : (front before : List Statement) (s : Statement) → GoOn front before → statement_fault (front ++ before) s ≡ None → GoOn front (before ++ s ∷ [])
GoOn-push front [] s good fine = (subst (λ (b : List Statement). statement_fault b s ≡ None) (append-nil front) fine, tt)
GoOn-push front (b ∷ before) s good fine =
    (good.0, GoOn-push (front ++ b ∷ []) before s good.1 (subst (λ (x : List Statement). statement_fault x s ≡ None) (sym (append_assoc front (b ∷ []) before)) fine))

pub AreKnown-push : (front before : List Statement) (s : Statement) → AreKnown front before → IsStatementOf (version_of (front ++ before)) s → AreKnown front (before ++ s ∷ [])
AreKnown-push front [] s known is = (subst (λ (b : List Statement). IsStatementOf (version_of b) s) (append-nil front) is, tt)
AreKnown-push front (b ∷ before) s known is =
    (known.0, AreKnown-push (front ++ b ∷ []) before s known.1 (subst (λ (x : List Statement). IsStatementOf (version_of x) s) (sym (append_assoc front (b ∷ []) before)) is))

pub script_text-push : (before : List Statement) (s : Statement) → script_text (before ++ s ∷ []) ≡ script_text before ++ ended_line s
script_text-push before s = flat_map-append ended_line before (s ∷ []) ∙ ap (λ (t : List ℕ). script_text before ++ t) (append-nil (ended_line s))

fault_behind : (text rest : List ℕ) (line : ℕ) (reading : Reading) (h : SoFar text rest line reading) (s : Statement) → statement_fault h.before s ≡ fault_at (view_of reading) s
fault_behind text rest line reading h s = fault_is h.before s ∙ ap (λ (v : View). fault_at v s) h.viewed

pub one_more : (text rest bytes more : List ℕ) (line : ℕ) (old new : Reading) (s : Statement) → SoFar text rest line old → rest ≡ bytes ++ 10 ∷ more → Says old.version bytes s
    → fault_at (view_of old) s ≡ None → view_of new ≡ seen (view_of old) s
    → AuthorsAfter old.replicas old.authors s new.authors → ItemsAfter old.replicas old.items old.lines s new.items → LinesAfter old.replicas old.lines s new.lines
    → SoFar text more (line + 1) new
one_more text rest bytes more line old new s h parts says fine viewed authors items lines =
    let good = fine_at (view_of old) s fine in
    let fault_free : statement_fault h.before s ≡ None = fault_behind text rest line old h s ∙ fine in
    let of_version : IsStatementOf (view_of old).version s = subst (λ (v : Version). IsStatementOf v s) (sym (version_is old)) says.of_version in
    let names : old.replicas ≡ (view_of old).replicas = sym (names_at old.version old.phase old.replicas (author_numbers old.authors) old.blocks old.ends old.sends old.shows) in
    let more_authors : AuthorsAfter (view_of old).replicas old.authors s new.authors = subst (λ (rs : List Ident). AuthorsAfter rs old.authors s new.authors) names authors in
    let more_items : ItemsAfter (view_of old).replicas old.items old.lines s new.items = subst (λ (rs : List Ident). ItemsAfter rs old.items old.lines s new.items) names items in
    let more_lines : LinesAfter (view_of old).replicas old.lines s new.lines = subst (λ (rs : List Ident). LinesAfter rs old.lines s new.lines) names lines in
    record {
      before = h.before ++ s ∷ [];
      begin = record {
        in_range = all_push InRange h.before s h.begin.in_range says.in_range;
        of_version = AreKnown-push [] h.before s h.begin.of_version (subst (λ (v : Version). IsStatementOf v s) (sym h.version) says.of_version);
        good = GoOn-push [] h.before s h.begin.good fault_free;
      };
      viewed = after-append start h.before (s ∷ []) ∙ ap (λ (v : View). seen v s) h.viewed ∙ sym viewed;
      version =
          version_push h.before s fault_free ∙ ap (λ (v : Version). version_after v s) (h.version ∙ sym (version_is old))
          ∙ ap (λ (v : View). v.version) (sym viewed) ∙ version_is new;
      parts =
          let ended : bytes ++ 10 ∷ more ≡ ended_line s ++ more = ap (λ (b : List ℕ). b ++ 10 ∷ more) says.text ∙ sym (append_assoc (statement_text s) (10 ∷ []) more) in
          h.parts ∙ ap (λ (r : List ℕ). script_text h.before ++ r) (parts ∙ ended) ∙ sym (append_assoc (script_text h.before) (ended_line s) more)
          ∙ ap (λ (t : List ℕ). t ++ more) (sym (script_text-push h.before s));
      number = omega (arith, h.number, length-append h.before (s ∷ []));
      few = omega (arith, h.few, ap length parts, length-append bytes (10 ∷ more), length-append h.before (s ∷ []));
      has_lines =
          subst (λ (v : View). HasLines (map statement_text (h.before ++ s ∷ [])) v new.authors new.items new.lines) (sym viewed)
          (subst (λ (ts : List (List ℕ)). HasLines ts (seen (view_of old) s) new.authors new.items new.lines) (sym (map-append statement_text h.before (s ∷ [])))
          (lines_more s (map statement_text h.before) (view_of old) old.authors new.authors old.items new.items old.lines new.lines h.has_lines good more_authors more_items more_lines));
      within =
          subst (λ (v : View). IsWithin v new.authors new.items new.lines) (sym viewed)
          (within_more s (map statement_text h.before) (view_of old) old.authors new.authors old.items new.items old.lines new.lines h.has_lines good says.in_range more_authors more_items more_lines h.within);
      known =
          subst (λ (v : View). IsKnown v new.items new.lines) (sym viewed)
          (known_more s (map statement_text h.before) (view_of old) old.authors new.authors old.items new.items old.lines new.lines h.has_lines good of_version more_authors more_items more_lines h.known);
    }

-- ---- a bad line

bad_line : (text rest bytes more : List ℕ) (line : ℕ) (reading : Reading) (kind : ScriptKind) (h : SoFar text rest line reading) → rest ≡ bytes ++ 10 ∷ more → Lacks 10 bytes
    → HasLineFault h.before bytes kind → HasBadLine text line kind
bad_line text rest bytes more line reading kind h parts one_line has = record {
  before = h.before;
  bad = bytes;
  after = more;
  begin = h.begin;
  parts = h.parts ∙ ap (λ (r : List ℕ). script_text h.before ++ r) parts;
  one_line = one_line;
  has_fault = has;
  number = h.number;
}

-- a line without a form
pub bad_form : (text rest bytes more : List ℕ) (line : ℕ) (reading : Reading) (fault : LineFault) → SoFar text rest line reading → rest ≡ bytes ++ 10 ∷ more → Lacks 10 bytes
    → HasFormFault reading.version bytes fault → IsBad text line (kind_of_line fault)
bad_form text rest bytes more line reading fault h parts one_line has =
    bad_by_form text line fault
    (bad_line text rest bytes more line reading (kind_of_line fault) h parts one_line (inl (fault, subst (λ (v : Version). HasFormFault v bytes fault) (sym h.version) has, refl)))

some_injective : (k l : ScriptKind) → Some k ≡ Some l → k ≡ l
some_injective k l e = cc

-- what is false of the kinds of the six conditions is false of the first one's
pub one_of : (P : ScriptKind → Type 0) (a b c d e f : Bool) (kind : ScriptKind) → P OutOfPlace → P UnknownReplica → P RepeatedReplica → P UnknownAuthor → P RepeatedAuthor → P TooMany
    → first_fault a b c d e f ≡ Some kind → P kind
one_of P false b c d e f kind h1 h2 h3 h4 h5 h6 is = subst P (some_injective OutOfPlace kind is) h1
one_of P true false c d e f kind h1 h2 h3 h4 h5 h6 is = subst P (some_injective UnknownReplica kind is) h2
one_of P true true true d e f kind h1 h2 h3 h4 h5 h6 is = subst P (some_injective RepeatedReplica kind is) h3
one_of P true true false true e f kind h1 h2 h3 h4 h5 h6 is = subst P (some_injective UnknownAuthor kind is) h4
one_of P true true false false true f kind h1 h2 h3 h4 h5 h6 is = subst P (some_injective RepeatedAuthor kind is) h5
one_of P true true false false false true kind h1 h2 h3 h4 h5 h6 is = subst P (some_injective TooMany kind is) h6
one_of P true true false false false false kind h1 h2 h3 h4 h5 h6 is = absurd cc

-- a statement with a fault makes a bad line
abbrev MakesBad : List ℕ → List ℕ → List ℕ → List ℕ → ℕ → Reading → Statement → ScriptKind → Type 0
MakesBad text rest bytes more line reading s kind =
    SoFar text rest line reading → rest ≡ bytes ++ 10 ∷ more → Lacks 10 bytes → Says reading.version bytes s → fault_at (view_of reading) s ≡ Some kind → IsBad text line kind

wrong : (text rest bytes more : List ℕ) (line : ℕ) (reading : Reading) (s : Statement) (kind : ScriptKind) (h : SoFar text rest line reading)
    → Says reading.version bytes s → fault_at (view_of reading) s ≡ Some kind → SaysWrong h.before bytes kind
wrong text rest bytes more line reading s kind h says has = record { statement = s; says = subst (λ (v : Version). Says v bytes s) (sym h.version) says; has_fault = fault_behind text rest line reading h s ∙ has }

pub bad_statement : (text rest bytes more : List ℕ) (line : ℕ) (reading : Reading) (s : Statement) (kind : ScriptKind) → fault_at (view_of reading) s ≡ Some kind
    → MakesBad text rest bytes more line reading s kind
bad_statement text rest bytes more line reading s kind has =
    let v = view_of reading in
    one_of (MakesBad text rest bytes more line reading s) (place_at v s) (list_all (declared_at v) (named_replicas s)) (repeats_replica_at v s) (unknown_author_at v s) (repeats_author_at v s) (too_many_at v s) kind
    (λ h parts one_line says is. bad_line text rest bytes more line reading OutOfPlace h parts one_line (inr (wrong text rest bytes more line reading s OutOfPlace h says is)))
    (λ h parts one_line says is. bad_line text rest bytes more line reading UnknownReplica h parts one_line (inr (wrong text rest bytes more line reading s UnknownReplica h says is)))
    (λ h parts one_line says is. bad_line text rest bytes more line reading RepeatedReplica h parts one_line (inr (wrong text rest bytes more line reading s RepeatedReplica h says is)))
    (λ h parts one_line says is. bad_line text rest bytes more line reading UnknownAuthor h parts one_line (inr (wrong text rest bytes more line reading s UnknownAuthor h says is)))
    (λ h parts one_line says is. bad_line text rest bytes more line reading RepeatedAuthor h parts one_line (inr (wrong text rest bytes more line reading s RepeatedAuthor h says is)))
    (λ h parts one_line says is. bad_line text rest bytes more line reading TooMany h parts one_line (inr (wrong text rest bytes more line reading s TooMany h says is)))
    has

-- ---- the end

pub bad_rest : (text rest : List ℕ) (line : ℕ) (reading : Reading) → SoFar text rest line reading → Lacks 10 rest → rest ≢ [] → IsBad text line Rest
bad_rest text rest line reading h unended some =
    record { before = h.before; rest = rest; begin = h.begin; parts = h.parts; unended = unended; something = some; number = h.number }

whole_parts : (text rest : List ℕ) (line : ℕ) (reading : Reading) (h : SoFar text rest line reading) → rest ≡ [] → text ≡ script_text h.before
whole_parts text rest line reading h none = h.parts ∙ ap (λ (r : List ℕ). script_text h.before ++ r) none ∙ append-nil (script_text h.before)

pub bad_end : (text rest : List ℕ) (line : ℕ) (reading : Reading) → SoFar text rest line reading → rest ≡ [] → items_at (view_of reading) ≡ false → IsBad text line Unended
bad_end text rest line reading h none still_open = record {
  before = h.before;
  begin = h.begin;
  parts = whole_parts text rest line reading h none;
  not_ended = ended_is h.before ∙ ap items_at h.viewed ∙ still_open;
  number = h.number;
}

-- the session that was read is the one that the text spells
pub spelled_end : (text rest : List ℕ) (line : ℕ) (reading : Reading) (session : sessions.Session) → SoFar text rest line reading → rest ≡ [] → items_at (view_of reading) ≡ true
    → session.version ≡ reading.version → session.replicas ≡ reading.replicas → session.authors ≡ reading.authors → session.items ≡ reading.items → Spells text session
spelled_end text rest line reading session h none ended version replicas authors items =
    let same : (view_of reading).replicas ≡ session.replicas =
    names_at reading.version reading.phase reading.replicas (author_numbers reading.authors) reading.blocks reading.ends reading.sends reading.shows ∙ sym replicas in
    let has_lines : HasLines (map statement_text h.before) (view_of reading) session.authors session.items reading.lines =
    subst (λ (ds : List Declared). HasLines (map statement_text h.before) (view_of reading) ds session.items reading.lines) (sym authors)
    (subst (λ (is : List Item). HasLines (map statement_text h.before) (view_of reading) reading.authors is reading.lines) (sym items) h.has_lines) in
    let within : IsWithin (view_of reading) session.authors session.items reading.lines =
    subst (λ (ds : List Declared). IsWithin (view_of reading) ds session.items reading.lines) (sym authors)
    (subst (λ (is : List Item). IsWithin (view_of reading) reading.authors is reading.lines) (sym items) h.within) in
    let known : IsKnown (view_of reading) session.items reading.lines = subst (λ (is : List Item). IsKnown (view_of reading) is reading.lines) (sym items) h.known in
    let whole = whole_session session (map statement_text h.before) (view_of reading) reading.lines (version_is reading ∙ sym version) same ended has_lines within known in record {
      is_session = whole.0;
      spelled = whole_parts text rest line reading h none ∙ ended_lines h.before ∙ ap (flat_map (λ (t : List ℕ). t ++ 10 ∷ [])) whole.1;
    }

pub empty_list : (rest : List ℕ) → length rest ≡ 0 → rest ≡ []
empty_list [] none = refl
empty_list (b ∷ rest) none = absurd (omega arith)
