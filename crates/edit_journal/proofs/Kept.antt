-- How long a file is that keeps lines.
use Rattle.std.proofs.Common.{◌≡◌, ℕ, ◌*◌, ◌≤◌, List, [], ◌∷◌, ◌++◌, length, map, decimal, sym, ap, subst, ◌∙◌, arith, append_assoc, length-append}
use Rattle.grove_names.specs.declared.name.Name.{Name}
use Rattle.grove_names.specs.Name.{name_text}
use Rattle.grove_sorts.specs.Ctor.{ctor_text}
use Rattle.grove_sorts.specs.Position.{position_text}
use Rattle.grove_edits.specs.declared.edge.Edge.{Edge}
use Rattle.grove_edits.specs.declared.edit.Edit.{Edit}
use Rattle.grove_edits.specs.Edit.{edit_edge, edit_kind}
use Rattle.edit_text.specs.Line.{spaced, edge_parts, form}
use Rattle.edit_text.specs.Text.{line_of, text_of}
use Rattle.edit_journal.specs.LogFile.{framed, opened, at_rest, IsLog}
use Rattle.edit_journal.specs.Fault.{IsFirstExcess}
use Rattle.edit_journal.specs.Keeping.{most_kept}
use Rattle.edit_journal.proofs.Lines.{length-framed, opened-append, one_log, IsLog-nothing}
use Rattle.edit_journal.proofs.Logs.{map-line_of-append, IsLog-at_rest}

name_is_long : (name : Name) → 1 ≤ length (name_text name)
name_is_long name = omega (arith, length-append (decimal name.author) (46 ∷ decimal name.counter))

-- a sign, three dots, five spaces and an LF
line_is_long : (edit : Edit) → 10 ≤ length (line_of edit)
line_is_long edit =
    let edge : Edge = edit_edge edit in
    let line = spaced (edge_parts edge) in
    omega (
      arith,
      length-append (form (edit_kind edit) edge) (10 ∷ []),
      length-append (name_text edge.name) (32 ∷ spaced (name_text edge.source.name ∷ ctor_text edge.source.ctor ∷ position_text edge.position ∷ name_text edge.target.name ∷ ctor_text edge.target.ctor ∷ [])),
      length-append (name_text edge.source.name) (32 ∷ spaced (ctor_text edge.source.ctor ∷ position_text edge.position ∷ name_text edge.target.name ∷ ctor_text edge.target.ctor ∷ [])),
      length-append (ctor_text edge.source.ctor) (32 ∷ spaced (position_text edge.position ∷ name_text edge.target.name ∷ ctor_text edge.target.ctor ∷ [])),
      length-append (position_text edge.position) (32 ∷ spaced (name_text edge.target.name ∷ ctor_text edge.target.ctor ∷ [])),
      length-append (name_text edge.target.name) (32 ∷ ctor_text edge.target.ctor),
      name_is_long edge.name,
      name_is_long edge.source.name,
      name_is_long edge.target.name,
    )

-- records take half as much again as their lines at most
records_are_short : (edits : List Edit) → 2 * length (opened (map line_of edits)) ≤ 3 * length (text_of edits)
records_are_short [] = omega arith
records_are_short (edit ∷ edits) =
    omega (
      arith,
      records_are_short edits,
      line_is_long edit,
      length-framed (line_of edit),
      length-append (framed (line_of edit)) (opened (map line_of edits)),
      length-append (line_of edit) (text_of edits),
    )

-- a file that ends behind no edit has room for those of so few lines
pub room_to_keep : (file : List ℕ) (edits : List Edit) (n : ℕ) → file ≡ at_rest [] → length (text_of edits) ≤ most_kept → IsFirstExcess file edits n → ⊥
room_to_keep file edits n is short excess =
    let upto = excess.before ++ excess.excess ∷ [] in
    let parts : edits ≡ upto ++ excess.after = excess.parts ∙ sym (append_assoc excess.before (excess.excess ∷ []) excess.after) in
    omega (
      arith,
      excess.too_long,
      excess.length_is,
      ap length is,
      records_are_short edits,
      short,
      ap (λ (es : List Edit). length (opened (map line_of es))) parts,
      ap (λ (ls : List (List ℕ)). length (opened ls)) (map-line_of-append upto excess.after),
      ap (λ (l : List ℕ). length l) (opened-append (map line_of upto) (map line_of excess.after)),
      length-append (opened (map line_of upto)) (opened (map line_of excess.after)),
    )

-- a log that was opened on an empty disk
pub opened_on_nothing : (disk log : List ℕ) (found : List Edit) → disk ≡ [] → IsLog disk found → log ≡ at_rest (map line_of found) → log ≡ at_rest []
opened_on_nothing disk log found empty is ends =
    ends ∙ ap (λ (es : List Edit). at_rest (map line_of es)) (one_log [] found [] (subst (λ f. IsLog f found) empty is) IsLog-nothing)

pub log_of_none : (log : List ℕ) → log ≡ at_rest [] → IsLog log []
log_of_none log is = IsLog-at_rest log [] tt is
