-- One more line behind the text of some edits.
use Rattle.std.proofs.Common.{◌≡◌, ℕ, ◌+◌, ◌≤◌, ◌<◌, List, [], ◌∷◌, ◌++◌, length, take, get_or, sym, ap, ◌∙◌, append_assoc, append-nil, arith, length-append}
use Rattle.std.proofs.lemmas.Grind.{flat_map-append}
use Rattle.std.proofs.lemmas.List.{take_more}
use Rattle.grove_edits.specs.declared.edit.Edit.{Edit}
use Rattle.grove_edits.specs.Edit.{edit_edge, edit_kind}
use Rattle.edit_text.specs.Line.{form}
use Rattle.edit_text.specs.Text.{line_of, text_of}

pub text_of-push : (edits : List Edit) (edit : Edit) → text_of (edits ++ edit ∷ []) ≡ text_of edits ++ line_of edit
text_of-push edits edit = flat_map-append line_of edits (edit ∷ []) ∙ ap (λ (line : List ℕ). text_of edits ++ line) (append-nil (line_of edit))

-- the next line was read
pub line_read : (text rest line after : List ℕ) (edits : List Edit) (edit : Edit) → text ≡ text_of edits ++ rest → rest ≡ line ++ 10 ∷ after → line ≡ form (edit_kind edit) (edit_edge edit)
    → text ≡ text_of (edits ++ edit ∷ []) ++ after
line_read text rest line after edits edit so_far parts spells =
    let ended : line ++ 10 ∷ after ≡ line_of edit ++ after = ap (λ (l : List ℕ). l ++ 10 ∷ after) spells ∙ sym (append_assoc (form (edit_kind edit) (edit_edge edit)) (10 ∷ []) after) in
    so_far ∙ ap (λ (r : List ℕ). text_of edits ++ r) (parts ∙ ended) ∙ sym (append_assoc (text_of edits) (line_of edit) after) ∙ ap (λ (t : List ℕ). t ++ after) (sym (text_of-push edits edit))

-- and the edits are still fewer than the bytes
pub line_counted : (edits more : List Edit) (edit : Edit) (rest line after : List ℕ) (n : ℕ) → more ≡ edits ++ edit ∷ [] → rest ≡ line ++ 10 ∷ after
    → length edits + length rest ≤ n → length more + length after ≤ n
line_counted edits more edit rest line after n is parts few =
    let edits_length : length more ≡ length edits + 1 = ap length is ∙ length-append edits (edit ∷ []) in
    let rest_length : length rest ≡ length line + length (10 ∷ after) = ap length parts ∙ length-append line (10 ∷ after) in
    let one_more : length (10 ∷ after) ≡ length after + 1 = omega arith in
    omega arith

-- one more edit of a list was written
pub line_written : (edits : List Edit) (i : ℕ) (edit : Edit) (old out new : List ℕ) → i < length edits → edit ≡ get_or edits i edit → out ≡ old ++ text_of (take i edits)
    → new ≡ out ++ line_of edit → new ≡ old ++ text_of (take (i + 1) edits)
line_written edits i edit old out new lt is so_far appended =
    let more : take (i + 1) edits ≡ take i edits ++ edit ∷ [] = take_more edits i edit lt ∙ ap (λ (e : Edit). take i edits ++ e ∷ []) (sym is) in
    appended ∙ ap (λ (t : List ℕ). t ++ line_of edit) so_far ∙ append_assoc old (text_of (take i edits)) (line_of edit)
    ∙ ap (λ (t : List ℕ). old ++ t) (sym (ap text_of more ∙ text_of-push (take i edits) edit))
