-- An input has one first fault, and none where it spells what is asked for.
use Rattle.std.proofs.Common.{◌≡◌, ◌⊎◌, inl, inr, ℕ, List, refl, sym, ap, ◌∙◌}
use Rattle.grove_edits.specs.declared.edit.Edit.{Edit}
use Rattle.grove_sorts.specs.declared.version.Version.{Version}
use Rattle.edit_text.specs.declared.line_fault.LineFault.{LineFault}
use Rattle.edit_text.specs.Whole.{IsTextOf, IsMalformedText, HasTextRest}
use Rattle.edit_text.proofs.WholeTexts.{not_malformed, no_rest, one_line, malformed_or_rest, one_rest}
use Rattle.session_script.specs.declared.session.Session.{Session}
use Rattle.session_script.specs.Session.{Spells}
use Rattle.session_script.proofs.Scripts.{one_fault as one_fault_of_script}
use Rattle.session_script.proofs.OneSession.{session_or_fault}
use Rattle.grove_calls.specs.declared.fault.Fault.{Fault}
use Rattle.grove_calls.specs.declared.fault.Fault.TheVariants.{OutOfPlace, UnknownReplica, RepeatedReplica, UnknownAuthor, RepeatedAuthor, TooMany, Rest, Unended}
use Rattle.grove_calls.specs.FaultOf.{fault_of_line, fault_of_kind}
use Rattle.grove_calls.specs.FirstFault.{IsFirstFaultOfEdits, IsFirstFaultOfSession}

-- a fault of a text is that of a line, or bytes behind the last LF
abbrev IsEitherFault : List ℕ → ℕ → Fault → Type 0
IsEitherFault text line fault = ((of_line : LineFault) × IsMalformedText text line of_line × (fault ≡ fault_of_line of_line)) ⊎ (HasTextRest text line × (fault ≡ Rest))

either_fault : (text : List ℕ) (line : ℕ) (fault : Fault) → IsFirstFaultOfEdits text line fault → IsEitherFault text line fault
either_fault text line Rest h = inr (h, refl)
either_fault text line OutOfPlace h = absurd h
either_fault text line UnknownReplica h = absurd h
either_fault text line RepeatedReplica h = absurd h
either_fault text line UnknownAuthor h = absurd h
either_fault text line RepeatedAuthor h = absurd h
either_fault text line TooMany h = absurd h
either_fault text line Unended h = absurd h
either_fault text line _ h = inl (_, h, refl)

one_fault_by : (text : List ℕ) (m n : ℕ) (f g : Fault) → IsEitherFault text m f → IsEitherFault text n g → (m ≡ n) × (f ≡ g)
one_fault_by text m n f g (inl a) (inl b) =
    let both = one_line text m n a.0 b.0 a.1 b.1 in
    (both.0, a.2 ∙ ap fault_of_line both.1 ∙ sym b.2)
one_fault_by text m n f g (inl a) (inr b) = absurd (malformed_or_rest text m n a.0 a.1 b.0)
one_fault_by text m n f g (inr a) (inl b) = absurd (malformed_or_rest text n m b.0 b.1 a.0)
one_fault_by text m n f g (inr a) (inr b) = (one_rest text m n a.0 b.0, a.1 ∙ sym b.1)

-- a text has one first fault
pub one_fault_of_edits : (text : List ℕ) (m n : ℕ) (f g : Fault) → IsFirstFaultOfEdits text m f → IsFirstFaultOfEdits text n g → (m ≡ n) × (f ≡ g)
one_fault_of_edits text m n f g a b = one_fault_by text m n f g (either_fault text m f a) (either_fault text n g b)

no_fault_by : (text : List ℕ) (version : Version) (edits : List Edit) (line : ℕ) (fault : Fault) → IsTextOf text version edits → IsEitherFault text line fault → ⊥
no_fault_by text version edits line fault spelled (inl bad) = not_malformed text version edits line bad.0 spelled bad.1
no_fault_by text version edits line fault spelled (inr rest) = no_rest text version edits line spelled rest.0

-- a text of edits has none
pub no_fault_of_edits : (text : List ℕ) (version : Version) (edits : List Edit) (line : ℕ) (fault : Fault) → IsTextOf text version edits → IsFirstFaultOfEdits text line fault → ⊥
no_fault_of_edits text version edits line fault spelled h = no_fault_by text version edits line fault spelled (either_fault text line fault h)

pub one_session_fault : (text : List ℕ) (m n : ℕ) (f g : Fault) → IsFirstFaultOfSession text m f → IsFirstFaultOfSession text n g → (m ≡ n) × (f ≡ g)
one_session_fault text m n f g a b =
    let both = one_fault_of_script text m n a.kind b.kind a.is_bad b.is_bad in
    (both.0, a.is_fault ∙ ap fault_of_kind both.1 ∙ sym b.is_fault)

-- a text that spells a session has no fault
pub no_session_fault : (text : List ℕ) (session : Session) (line : ℕ) (fault : Fault) → Spells text session → IsFirstFaultOfSession text line fault → ⊥
no_session_fault text session line fault spelled h = session_or_fault text session line h.kind spelled h.is_bad
