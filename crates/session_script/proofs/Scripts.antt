-- Texts of statements: those that a text begins with are known by it, up to the first line that has a fault.
use Rattle.std.proofs.Common.{◌≡◌, ◌≢◌, ◌⊎◌, ℕ, ◌+◌, List, [], ◌∷◌, ◌++◌, true, false, Option, Some, None, length, refl, sym, ap, subst, ◌∙◌, inl, inr, append_assoc, append-nil}
use Rattle.std.specs.List.{AllByRecursion}
use Rattle.std.proofs.lemmas.Bool.{false≢true}
use Rattle.text_parts.specs.Separated.{Lacks}
use Rattle.text_parts.proofs.Parts.{Lacks-separated, first_part}
use Rattle.grove_sorts.specs.declared.version.Version.{Version}
use Rattle.edit_text.specs.declared.line_fault.LineFault.{LineFault}
use Rattle.edit_text.specs.declared.line_fault.LineFault.TheVariants.{Syntax}
use Rattle.edit_text.specs.FaultOfEdge.{line_fault_of, without_form, with_edge}
use Rattle.session_script.specs.declared.script_kind.ScriptKind.{ScriptKind}
use Rattle.session_script.specs.declared.script_kind.ScriptKind.TheVariants.{Rest, Unended}
use Rattle.session_script.specs.declared.statement.Statement.{Statement}
use Rattle.session_script.specs.Statement.{statement_text, InRange, IsStatementOf, Says, HasFormFault}
use Rattle.session_script.specs.Order.{version_of, statement_fault, GoOn, is_ended}
use Rattle.session_script.specs.Script.{ended_line, script_text, AreKnown, BeginSession, kind_of_line, HasLineFault, HasBadLine, IsBad}
use Rattle.session_script.proofs.Statements.{Lacks-statement, statement_injective, one_statement, not_nothing, no_bad_edge, bad_edge_or_nothing, one_bad_edge}

-- ---- one fault for each line

-- a line that has no form says nothing
form_or_says : (version : Version) (line : List ℕ) (fault : LineFault) (s : Statement) → HasFormFault version line fault → Says version line s → ⊥
form_or_says version line fault s (without_form nothing is) says = not_nothing version line s says nothing
form_or_says version line fault s (with_edge of_edge bad is) says = no_bad_edge version line s of_edge says bad

one_form_fault : (version : Version) (line : List ℕ) (f g : LineFault) → HasFormFault version line f → HasFormFault version line g → f ≡ g
one_form_fault version line f g (without_form none is) (without_form also are) = is ∙ sym are
one_form_fault version line f g (without_form none is) (with_edge b bad are) = absurd (bad_edge_or_nothing version line b bad none)
one_form_fault version line f g (with_edge a bad is) (without_form none are) = absurd (bad_edge_or_nothing version line a bad none)
one_form_fault version line f g (with_edge a of_a is) (with_edge b of_b are) = is ∙ ap line_fault_of (one_bad_edge version line a b of_a of_b) ∙ sym are

kinds_injective : (k l : ScriptKind) → Some k ≡ Some l → k ≡ l
kinds_injective k l e = cc

-- a line has one first fault behind the statements before
pub one_line_fault : (before : List Statement) (line : List ℕ) (k l : ScriptKind) → HasLineFault before line k → HasLineFault before line l → k ≡ l
one_line_fault before line k l (inl a) (inl b) = a.2 ∙ ap kind_of_line (one_form_fault (version_of before) line a.0 b.0 a.1 b.1) ∙ sym b.2
one_line_fault before line k l (inl a) (inr b) = absurd (form_or_says (version_of before) line a.0 b.statement a.1 b.says)
one_line_fault before line k l (inr a) (inl b) = absurd (form_or_says (version_of before) line b.0 a.statement b.1 a.says)
one_line_fault before line k l (inr a) (inr b) =
    let same = one_statement (version_of before) (version_of before) line a.statement b.statement a.says b.says in
    kinds_injective k l (sym a.has_fault ∙ ap (statement_fault before) same ∙ b.has_fault)

-- a line that has no form makes a text bad
pub bad_by_form : (text : List ℕ) (line : ℕ) (fault : LineFault) → HasBadLine text line (kind_of_line fault) → IsBad text line (kind_of_line fault)
bad_by_form text line Syntax h = h
bad_by_form text line _ h = h

-- ---- where the statements of a text end

line_then : (a : Statement) (rest : List ℕ) → ended_line a ++ rest ≡ statement_text a ++ 10 ∷ rest
line_then a rest = append_assoc (statement_text a) (10 ∷ []) rest

-- no statement that may stand behind those before has its line at the front of the text
abbrev pub Stops : List Statement → List ℕ → Type 0
Stops before text = (a : Statement) (rest : List ℕ) → InRange a → IsStatementOf (version_of before) a → statement_fault before a ≡ None → ended_line a ++ rest ≢ text

pub Stops-unended : (before : List Statement) (text : List ℕ) → Lacks 10 text → Stops before text
Stops-unended before text unended a rest in_range known good same =
    Lacks-separated 10 (statement_text a) rest (subst (Lacks 10) (sym same ∙ line_then a rest) unended)

none_or_some : (o : Option ScriptKind) (kind : ScriptKind) → o ≡ None → o ≡ Some kind → ⊥
none_or_some o kind none some = cc

-- what a statement that has no fault says has none
no_fault : (before : List Statement) (line : List ℕ) (a : Statement) (kind : ScriptKind) → Says (version_of before) line a → statement_fault before a ≡ None → HasLineFault before line kind → ⊥
no_fault before line a kind says good (inl b) = form_or_says (version_of before) line b.0 a b.1 says
no_fault before line a kind says good (inr b) =
    none_or_some (statement_fault before b.statement) kind (ap (statement_fault before) (one_statement (version_of before) (version_of before) line b.statement a b.says says) ∙ good) b.has_fault

Stops-bad : (before : List Statement) (bad after : List ℕ) (kind : ScriptKind) → Lacks 10 bad → HasLineFault before bad kind → Stops before (bad ++ 10 ∷ after)
Stops-bad before bad after kind one_line has a rest in_range known good same =
    let parts = first_part 10 (statement_text a) bad rest after (Lacks-statement a in_range) one_line (sym (line_then a rest) ∙ same) in
    no_fault before bad a kind (record { in_range = in_range; of_version = known; text = sym parts.0 }) good has

-- texts that begin with the lines of statements, and are one, have one statement and one rest
same_lines : (a b : Statement) (x y : List ℕ) → InRange a → InRange b → ended_line a ++ x ≡ ended_line b ++ y → (a ≡ b) × (x ≡ y)
same_lines a b x y in_a in_b same =
    let parts = first_part 10 (statement_text a) (statement_text b) x y (Lacks-statement a in_a) (Lacks-statement b in_b) (sym (line_then a x) ∙ same ∙ line_then b y) in
    (statement_injective a b in_a in_b parts.0, parts.1)

one_more : (before : List Statement) (a : Statement) (more : List Statement) → before ++ (a ∷ more) ≡ (before ++ a ∷ []) ++ more
one_more before a more = sym (append_assoc before (a ∷ []) more)

-- the statements before the first place where none may stand, and what stands there, are known by the text
same_statements : (before xs ys : List Statement) (s t : List ℕ) → AllByRecursion InRange xs → AllByRecursion InRange ys → AreKnown before xs → AreKnown before ys → GoOn before xs → GoOn before ys
    → Stops (before ++ xs) s → Stops (before ++ ys) t → script_text xs ++ s ≡ script_text ys ++ t → (xs ≡ ys) × (s ≡ t)
same_statements before [] [] s t in_x in_y known_x known_y good_x good_y at_s at_t same = (refl, same)
same_statements before [] (y ∷ ys) s t in_x in_y known_x known_y good_x good_y at_s at_t same =
    absurd (subst (λ (z : List Statement). Stops z s) (append-nil before) at_s y (script_text ys ++ t) in_y.0 known_y.0 good_y.0 (sym (append_assoc (ended_line y) (script_text ys) t) ∙ sym same))
same_statements before (x ∷ xs) [] s t in_x in_y known_x known_y good_x good_y at_s at_t same =
    absurd (subst (λ (z : List Statement). Stops z t) (append-nil before) at_t x (script_text xs ++ s) in_x.0 known_x.0 good_x.0 (sym (append_assoc (ended_line x) (script_text xs) s) ∙ same))
same_statements before (x ∷ xs) (y ∷ ys) s t in_x in_y known_x known_y good_x good_y at_s at_t same =
    let lines = same_lines x y (script_text xs ++ s) (script_text ys ++ t) in_x.0 in_y.0
    (sym (append_assoc (ended_line x) (script_text xs) s) ∙ same ∙ append_assoc (ended_line y) (script_text ys) t) in
    let behind : before ++ y ∷ [] ≡ before ++ x ∷ [] = ap (λ (z : Statement). before ++ z ∷ []) (sym lines.0) in
    let rest = same_statements (before ++ x ∷ []) xs ys s t in_x.1 in_y.1 known_x.1 (subst (λ (z : List Statement). AreKnown z ys) behind known_y.1) good_x.1 (subst (λ (z : List Statement). GoOn z ys) behind good_y.1)
    (subst (λ (z : List Statement). Stops z s) (one_more before x xs) at_s)
    (subst (λ (z : List Statement). Stops z t) (one_more before y ys ∙ ap (λ (z : List Statement). z ++ ys) behind) at_t) lines.1 in
    (ap (λ (z : Statement). z ∷ xs) lines.0 ∙ ap (λ (zs : List Statement). y ∷ zs) rest.0, rest.1)

-- what a text is made of: statements that begin a session, and behind them what none may stand at
pub record Stopped (text : List ℕ) : Type 0 where
  pub before : List Statement
  pub rest : List ℕ
  pub begin : BeginSession before
  pub parts : text ≡ script_text before ++ rest
  pub stops : Stops before rest

pub one_stop : (text : List ℕ) (a b : Stopped text) → (a.before ≡ b.before) × (a.rest ≡ b.rest)
one_stop text a b =
    same_statements [] a.before b.before a.rest b.rest a.begin.in_range b.begin.in_range a.begin.of_version b.begin.of_version a.begin.good b.begin.good a.stops b.stops (sym a.parts ∙ b.parts)

-- ---- the first bad line of a text

-- a line with a fault, whichever of the ten kinds it has
abbrev BadLine : List Statement → List ℕ → ScriptKind → Type 0
BadLine before rest kind = (bad : List ℕ) × (after : List ℕ) × (rest ≡ bad ++ 10 ∷ after) × Lacks 10 bad × HasLineFault before bad kind

abbrev Whys : List Statement → List ℕ → ScriptKind → Type 0
Whys before rest kind =
    (Lacks 10 rest × (rest ≢ []) × (kind ≡ Rest)) ⊎ (((rest ≡ []) × (is_ended before ≡ false) × (kind ≡ Unended)) ⊎ BadLine before rest kind)

-- the parts of a first bad line
pub record Found (text : List ℕ) (line : ℕ) (kind : ScriptKind) : Type 0 where
  pub stopped : Stopped text
  pub why : Whys stopped.before stopped.rest kind
  pub number : line ≡ length stopped.before + 1

found_bad : (text : List ℕ) (line : ℕ) (kind : ScriptKind) → HasBadLine text line kind → Found text line kind
found_bad text line kind h = record {
  stopped = record {
    before = h.before;
    rest = h.bad ++ 10 ∷ h.after;
    begin = h.begin;
    parts = h.parts;
    stops = Stops-bad h.before h.bad h.after kind h.one_line h.has_fault;
  };
  why = inr (inr (h.bad, h.after, refl, h.one_line, h.has_fault));
  number = h.number;
}

pub found : (text : List ℕ) (line : ℕ) (kind : ScriptKind) → IsBad text line kind → Found text line kind
found text line Rest h = record {
  stopped = record { before = h.before; rest = h.rest; begin = h.begin; parts = h.parts; stops = Stops-unended h.before h.rest h.unended };
  why = inl (h.unended, h.something, refl);
  number = h.number;
}
found text line Unended h = record {
  stopped = record { before = h.before; rest = []; begin = h.begin; parts = h.parts ∙ sym (append-nil (script_text h.before)); stops = Stops-unended h.before [] tt };
  why = inr (inl (refl, h.not_ended, refl));
  number = h.number;
}
found text line kind h = found_bad text line kind h

not_unended : (before : List Statement) (rest : List ℕ) (kind : ScriptKind) → Lacks 10 rest → BadLine before rest kind → ⊥
not_unended before rest kind unended b = Lacks-separated 10 b.0 b.1 (subst (Lacks 10) b.2 unended)

empty_bad : (before : List Statement) (rest : List ℕ) (kind : ScriptKind) → rest ≡ [] → BadLine before rest kind → ⊥
empty_bad before rest kind empty b = not_unended before rest kind (subst (Lacks 10) (sym empty) tt) b

one_why : (before : List Statement) (rest : List ℕ) (k l : ScriptKind) → Whys before rest k → Whys before rest l → k ≡ l
one_why before rest k l (inl a) (inl b) = a.2 ∙ sym b.2
one_why before rest k l (inl a) (inr (inl b)) = absurd (a.1 b.0)
one_why before rest k l (inl a) (inr (inr b)) = absurd (not_unended before rest l a.0 b)
one_why before rest k l (inr (inl a)) (inl b) = absurd (b.1 a.0)
one_why before rest k l (inr (inl a)) (inr (inl b)) = a.2 ∙ sym b.2
one_why before rest k l (inr (inl a)) (inr (inr b)) = absurd (empty_bad before rest l a.0 b)
one_why before rest k l (inr (inr a)) (inl b) = absurd (not_unended before rest k b.0 a)
one_why before rest k l (inr (inr a)) (inr (inl b)) = absurd (empty_bad before rest k b.0 a)
one_why before rest k l (inr (inr a)) (inr (inr b)) =
    let parts = first_part 10 a.0 b.0 a.1 b.1 a.3 b.3 (sym a.2 ∙ b.2) in
    one_line_fault before b.0 k l (subst (λ (line : List ℕ). HasLineFault before line k) parts.0 a.4) b.4

-- a text has one first bad line, with one kind of fault
pub one_fault : (text : List ℕ) (m n : ℕ) (k l : ScriptKind) → IsBad text m k → IsBad text n l → (m ≡ n) × (k ≡ l)
one_fault text m n k l a b =
    let of_a = found text m k a in
    let of_b = found text n l b in
    let same = one_stop text of_a.stopped of_b.stopped in (
      of_a.number ∙ ap (λ (ss : List Statement). length ss + 1) same.0 ∙ sym of_b.number,
      one_why of_b.stopped.before of_b.stopped.rest k l
          (subst (λ (r : List ℕ). Whys of_b.stopped.before r k) same.1 (subst (λ (ss : List Statement). Whys ss of_a.stopped.rest k) same.0 of_a.why)) of_b.why,
    )

-- nothing is wrong where a session may end
no_why : (before : List Statement) (kind : ScriptKind) → is_ended before ≡ true → Whys before [] kind → ⊥
no_why before kind ended (inl a) = a.1 refl
no_why before kind ended (inr (inl a)) = false≢true (sym a.1 ∙ ended)
no_why before kind ended (inr (inr a)) = empty_bad before [] kind refl a

-- a text of statements after which a session may end has no bad line
pub ended_or_bad : (text : List ℕ) (statements : List Statement) (line : ℕ) (kind : ScriptKind) → BeginSession statements → is_ended statements ≡ true → text ≡ script_text statements → IsBad text line kind → ⊥
ended_or_bad text statements line kind begin ended is bad =
    let of_text : Stopped text = record { before = statements; rest = []; begin = begin; parts = is ∙ sym (append-nil (script_text statements)); stops = Stops-unended statements [] tt } in
    let of_bad = found text line kind bad in
    let same = one_stop text of_bad.stopped of_text in
    no_why statements kind ended
    (subst (λ (r : List ℕ). Whys statements r kind) same.1 (subst (λ (ss : List Statement). Whys ss of_bad.stopped.rest kind) same.0 of_bad.why))
