-- Lines that were not read, and why they are no statements.
use Rattle.std.proofs.Common.{◌≡◌, ◌≢◌, ℕ, List, ◌∷◌, ◌++◌, codes, decimal, nat_eq, sym, ap, ◌∙◌, lit<}
use Rattle.std.proofs.lemmas.Bool.{false≢true}
use Rattle.grove_sorts.specs.declared.ident.Ident.{Ident}
use Rattle.grove_sorts.specs.Ident.{ident_bytes}
use Rattle.grove_edits.specs.declared.edge.EdgeFault.{EdgeFault}
use Rattle.grove_sorts.specs.declared.version.Version.{Version}
use Rattle.grove_edits.specs.Edit.{edit_edge, edit_kind}
use Rattle.edit_text.specs.declared.line_fault.LineFault.{LineFault}
use Rattle.edit_text.specs.FaultOfEdge.{IsFaultBy, without_form, with_edge}
use Rattle.edit_text.specs.Line.{spaced, form, HasEdgeFault, HasNoForm, HasFault}
use Rattle.session_script.specs.declared.statement.SendText.{SendText}
use Rattle.session_script.specs.declared.statement.Statement.{Statement}
use Rattle.session_script.specs.declared.statement.Statement.TheVariants.{Replica, Author, Load, Act, Send}
use Rattle.session_script.specs.Action.{action_parts, IsAuthor}
use Rattle.session_script.specs.Statement.{load_line, statement_text, InRange, IsReplicaOf, IsStatementOf, LoadsBadEdge, HasFormFault}
use Rattle.session_script.specs.Form.{IsOther, LoadsNothing, HasLoadFault, LoadsBad, send_rest}
use Rattle.session_script.proofs.Statements.{text_key, number_or_word, author_fits, same_ident, same_number}

-- ---- loads

-- the fault of the edit is that of the load
pub load_fault : (version : Version) (text rest : List ℕ) (replica : Ident) (fault : LineFault) → IsReplicaOf version replica → text ≡ ident_bytes replica ++ 32 ∷ rest → HasFault version rest fault
    → HasLoadFault version text fault
load_fault version text rest replica fault of is h = by_told h.told where
  by_told : IsFaultBy (HasNoForm version rest) (HasEdgeFault version rest) fault → HasLoadFault version text fault
  by_told (without_form none syntax) =
      without_form
      (λ r kind edge in_range of_r of_edge same.
      let parts = same_ident replica r rest (form kind edge) (sym is ∙ same) in none kind edge in_range of_edge parts.1)
      syntax
  by_told (with_edge of_edge bad has) =
      with_edge of_edge (replica, bad.0, bad.1, bad.2, of, bad.3, is ∙ ap (λ (x : List ℕ). ident_bytes replica ++ 32 ∷ x) bad.4, bad.5) has

-- what is no load is no other statement either
no_statement : (version : Version) (line rest : List ℕ) → line ≡ codes "load " ++ rest
    → LoadsNothing version rest → (s : Statement) → InRange s → IsStatementOf version s → line ≢ statement_text s
no_statement version line rest is none (Load r edit) in_range of same =
    let whole : codes "load " ++ rest ≡ load_line (ident_bytes r) (edit_kind edit) (edit_edge edit) = sym is ∙ same in
    none r (edit_kind edit) (edit_edge edit) edit.in_range of.0 of.1 cc
no_statement version line rest is none (Act n a) in_range of same = number_or_word n (32 ∷ spaced (action_parts a)) (codes "load " ++ rest) in_range.0 (sym same ∙ is) (lit< tt)
no_statement version line rest is none s in_range of same = false≢true (ap (λ text. nat_eq (text_key text) (text_key (statement_text s))) (sym is ∙ same))

loads_bad : (version : Version) (line rest : List ℕ) (fault : EdgeFault) → line ≡ codes "load " ++ rest → LoadsBad version rest fault → LoadsBadEdge version line fault
loads_bad version line rest fault is h = record {
  replica = h.0;
  kind = h.1;
  edge = h.2;
  in_range = h.3;
  replica_of_version = h.4;
  edge_of_version = h.5;
  text = is ∙ ap (λ (x : List ℕ). codes "load " ++ x) h.6;
  has_fault = h.7;
}

-- the fault behind the word is the fault of the line
pub form_fault : (version : Version) (line rest : List ℕ) (fault : LineFault) → line ≡ codes "load " ++ rest → HasLoadFault version rest fault → HasFormFault version line fault
form_fault version line rest fault is (without_form none syntax) =
    without_form
    (record {
      no_statement = no_statement version line rest is none;
      no_load = λ r kind edge in_range of_r of_edge same.
          (let whole : codes "load " ++ rest ≡ load_line (ident_bytes r) kind edge = sym is ∙ same in none r kind edge in_range of_r of_edge cc);
    })
    syntax
form_fault version line rest fault is (with_edge of_edge bad has) = with_edge of_edge (loads_bad version line rest of_edge is bad) has

-- ---- other statements of several words

pub no_replica : (version : Version) (line rest : List ℕ) → line ≡ codes "replica " ++ rest → ((r : Ident) → IsReplicaOf version r → rest ≢ ident_bytes r)
    → (s : Statement) → IsOther s → InRange s → IsStatementOf version s → line ≢ statement_text s
no_replica version line rest is none (Replica r) other in_range of same =
    let whole : codes "replica " ++ rest ≡ statement_text (Replica r) = sym is ∙ same in none r of cc
no_replica version line rest is none (Act n a) other in_range of same = number_or_word n (32 ∷ spaced (action_parts a)) (codes "replica " ++ rest) in_range.0 (sym same ∙ is) (lit< tt)
no_replica version line rest is none s other in_range of same = false≢true (ap (λ text. nat_eq (text_key text) (text_key (statement_text s))) (sym is ∙ same))

pub no_author : (version : Version) (line rest : List ℕ) → line ≡ codes "author " ++ rest → ((n : ℕ) (r : Ident) → IsAuthor n → IsReplicaOf version r → rest ≢ decimal n ++ 32 ∷ ident_bytes r)
    → (s : Statement) → IsOther s → InRange s → IsStatementOf version s → line ≢ statement_text s
no_author version line rest is none (Author n r) other in_range of same =
    let whole : codes "author " ++ rest ≡ statement_text (Author n r) = sym is ∙ same in none n r in_range of cc
no_author version line rest is none (Act n a) other in_range of same = number_or_word n (32 ∷ spaced (action_parts a)) (codes "author " ++ rest) in_range.0 (sym same ∙ is) (lit< tt)
no_author version line rest is none s other in_range of same = false≢true (ap (λ text. nat_eq (text_key text) (text_key (statement_text s))) (sym is ∙ same))

-- a number was read, and behind it no replica
pub no_author_replica : (version : Version) (rest more : List ℕ) (author : ℕ) → IsAuthor author → rest ≡ decimal author ++ 32 ∷ more → ((r : Ident) → IsReplicaOf version r → more ≢ ident_bytes r)
    → (n : ℕ) (r : Ident) → IsAuthor n → IsReplicaOf version r → rest ≢ decimal n ++ 32 ∷ ident_bytes r
no_author_replica version rest more author in_range is none n r of_n of_r same =
    none r of_r (same_number author n more (ident_bytes r) (author_fits author in_range) (author_fits n of_n) (sym is ∙ same)).1

pub no_send : (version : Version) (line rest : List ℕ) → line ≡ codes "send " ++ rest → ((send : SendText) → InRange (Send send) → IsStatementOf version (Send send) → rest ≢ send_rest send)
    → (s : Statement) → IsOther s → InRange s → IsStatementOf version s → line ≢ statement_text s
no_send version line rest is none (Send send) other in_range of same =
    let whole : codes "send " ++ rest ≡ statement_text (Send send) = sym is ∙ same in none send in_range of cc
no_send version line rest is none (Act n a) other in_range of same = number_or_word n (32 ∷ spaced (action_parts a)) (codes "send " ++ rest) in_range.0 (sym same ∙ is) (lit< tt)
no_send version line rest is none s other in_range of same = false≢true (ap (λ text. nat_eq (text_key text) (text_key (statement_text s))) (sym is ∙ same))
