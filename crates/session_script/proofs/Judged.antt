-- Lines are judged one after the other.
use Rattle.std.proofs.Common.{◌≡◌, inl, inr, ℕ, ◌+◌, Bool, true, false, List, [], ◌∷◌, ◌++◌, Option, Some, None, length, refl, sym, ap, subst, ◌∙◌, append_assoc, append-nil}
use Rattle.std.specs.List.{list_all}
use Rattle.text_parts.specs.Separated.{Lacks}
use Rattle.grove_sorts.specs.declared.version.Version.{Version}
use Rattle.edit_text.specs.declared.line_fault.LineFault.{LineFault}
use Rattle.session_script.specs.declared.script_kind.ScriptKind.{ScriptKind}
use Rattle.session_script.specs.declared.script_kind.ScriptKind.TheVariants.{OutOfPlace, UnknownReplica, RepeatedReplica, UnknownAuthor, RepeatedAuthor, TooMany, Rest, Unended}
use Rattle.session_script.specs.declared.statement.Statement.{Statement}
use Rattle.session_script.specs.Statement.{statement_text, InRange, Says, HasFormFault}
use Rattle.session_script.specs.Judged.{HasSessionOrFault, AreJudged}
use Rattle.session_script.specs.Order.{version_of, named_replicas, statement_fault, is_ended}
use Rattle.session_script.specs.Script.{ended_line, script_text, BeginSession, kind_of_line, HasLineFault, HasBadLine, IsBad}
use Rattle.session_script.specs.View.{version_after, view, place_at, declared_at, repeats_replica_at, unknown_author_at, repeats_author_at, too_many_at}
use Rattle.session_script.proofs.Kept.{all_push}
use Rattle.session_script.proofs.Scripts.{bad_by_form}
use Rattle.session_script.proofs.SoFar.{GoOn-push, AreKnown-push, script_text-push, one_of}
use Rattle.session_script.proofs.Views.{fault_is, version_push}
use Rattle.session_script.proofs.Whole.{spells_one}

not_empty : (byte : ℕ) (bytes : List ℕ) → byte ∷ bytes ≡ [] → ⊥
not_empty byte bytes is = cc

-- no line is left
pub none_left : (version : Version) (text : List ℕ) → Lacks 10 text → AreJudged version text
none_left version [] lacks before begin is = by_end (is_ended before) refl where
  by_end : (b : Bool) → is_ended before ≡ b → HasSessionOrFault (script_text before ++ [])
  by_end true ended = inl (spells_one (script_text before ++ []) (record { statements = before; begin = begin; ended = ended; parts = append-nil (script_text before) }))
  by_end false not_ended = inr (length before + 1, Unended, record { before = before; begin = begin; parts = append-nil (script_text before); not_ended = not_ended; number = refl })
none_left version (byte ∷ bytes) lacks before begin is =
    inr (length before + 1, Rest, record { before = before; rest = byte ∷ bytes; begin = begin; parts = refl; unended = lacks; something = not_empty byte bytes; number = refl })

module _ (version : Version) (text line after : List ℕ) (parts : text ≡ line ++ 10 ∷ after) (one_line : Lacks 10 line) where
  bad_here : (before : List Statement) (kind : ScriptKind) → BeginSession before → HasLineFault before line kind → HasBadLine (script_text before ++ text) (length before + 1) kind
  bad_here before kind begin has =
      record { before = before; bad = line; after = after; begin = begin; parts = ap (λ (rest : List ℕ). script_text before ++ rest) parts; one_line = one_line; has_fault = has; number = refl }

  -- the first line has no form
  pub first_bad : (fault : LineFault) → HasFormFault version line fault → AreJudged version text
  first_bad fault has before begin is = inr (
    length before + 1,
    kind_of_line fault,
    bad_by_form (script_text before ++ text) (length before + 1) fault
        (bad_here before (kind_of_line fault) begin (inl (fault, subst (λ (v : Version). HasFormFault v line fault) (sym is) has, refl))),
  )

  -- it says what has a fault behind those before
  wrong_here : (before : List Statement) (s : Statement) (kind : ScriptKind) → BeginSession before → Says (version_of before) line s → statement_fault before s ≡ Some kind
      → IsBad (script_text before ++ text) (length before + 1) kind
  wrong_here before s kind begin says has =
      let v = view before in
      one_of (λ (k : ScriptKind). statement_fault before s ≡ Some k → IsBad (script_text before ++ text) (length before + 1) k)
      (place_at v s) (list_all (declared_at v) (named_replicas s)) (repeats_replica_at v s) (unknown_author_at v s) (repeats_author_at v s) (too_many_at v s) kind
      (λ is. bad_here before OutOfPlace begin (inr (record { statement = s; says = says; has_fault = is })))
      (λ is. bad_here before UnknownReplica begin (inr (record { statement = s; says = says; has_fault = is })))
      (λ is. bad_here before RepeatedReplica begin (inr (record { statement = s; says = says; has_fault = is })))
      (λ is. bad_here before UnknownAuthor begin (inr (record { statement = s; says = says; has_fault = is })))
      (λ is. bad_here before RepeatedAuthor begin (inr (record { statement = s; says = says; has_fault = is })))
      (λ is. bad_here before TooMany begin (inr (record { statement = s; says = says; has_fault = is })))
      (sym (fault_is before s) ∙ has) has

  -- it says something, and those behind it are judged
  pub first_said : (s : Statement) → Says version line s → AreJudged (version_after version s) after → AreJudged version text
  first_said s says rest before begin is = by_fault (statement_fault before s) refl where
    of_before : Says (version_of before) line s
    of_before = subst (λ (v : Version). Says v line s) (sym is) says

    same : script_text (before ++ s ∷ []) ++ after ≡ script_text before ++ text
    same =
        ap (λ (t : List ℕ). t ++ after) (script_text-push before s)
        ∙ (append_assoc (script_text before) (ended_line s) after
        ∙ ap (λ (t : List ℕ). script_text before ++ t) (append_assoc (statement_text s) (10 ∷ []) after ∙ (ap (λ (t : List ℕ). t ++ 10 ∷ after) (sym says.text) ∙ sym parts)))

    by_fault : (o : Option ScriptKind) → statement_fault before s ≡ o → HasSessionOrFault (script_text before ++ text)
    by_fault (Some kind) has = inr (length before + 1, kind, wrong_here before s kind begin of_before has)
    by_fault None fine =
        subst HasSessionOrFault same
        (rest (before ++ s ∷ []) (record {
          in_range = all_push InRange before s begin.in_range says.in_range;
          of_version = AreKnown-push [] before s begin.of_version of_before.of_version;
          good = GoOn-push [] before s begin.good fine;
        }) (version_push before s fine ∙ ap (λ (v : Version). version_after v s) is))

pub whole : (text : List ℕ) (version : Version) → version_of [] ≡ version → AreJudged version text → HasSessionOrFault text
whole text version is judged = judged [] (record { in_range = tt; of_version = tt; good = tt }) is
