-- Of sorted lines that share a name the last one of each edge is copied.
use Rattle.std.proofs.Common.{◌≡◌, ℕ, ◌+◌, ◌-◌, ◌<◌, ◌≤◌, Bool, true, false, List, [], ◌∷◌, ◌++◌, length, drop, take, get_or, append_assoc, append-nil, refl, sym, ap, subst, ◌∙◌, arith}
use Rattle.std.specs.Prelude.{IsTrue, ◌↔◌}
use Rattle.std.specs.List.Sorted.{IsSorted, IsPermutation}
use Rattle.std.specs.Ordering.{is_eq}
use Rattle.std.proofs.lemmas.Bool.{false≢true}
use Rattle.std.proofs.lemmas.Cmp.{tied_itself}
use Rattle.std.proofs.lemmas.List.{drop_all}
use Rattle.std.proofs.lemmas.List.Sorted.{IsPermutation-map}
use Rattle.grove_sorts.specs.declared.version.Version.{Version}
use Rattle.grove_edits.specs.declared.edge.Edge.{Edge}
use Rattle.grove_edits.specs.declared.edit.Edit.{Edit}
use Rattle.grove_edits.specs.Edit.{edit_edge}
use Rattle.grove_edits.specs.Graph.{graph, is_same_edge, begins_with, IsCanonical}
use Rattle.grove_edits.proofs.CanonicalLists.{kept, kept_is_canonical, begins_with-first, skipped, pushed}
use Rattle.grove_edits.proofs.Orders.{edge_cmp_total, one_edge}
use Rattle.grove_edits.proofs.Unique.{canonical_moved}
use Rattle.edit_text.specs.Text.{line_of, text_of}
use Rattle.edit_merge.specs.declared.edit_line.EditLine.{EditLine}
use Rattle.edit_merge.specs.declared.named_line.NamedLine.{NamedLine}
use Rattle.edit_merge.specs.contracts.edit_line.EditLineOrd.TheImpl as line_impl
use Rattle.edit_merge.specs.EditLine.{edit_of, edits_of, AreRead, AreCopied}
use Rattle.edit_merge.specs.Named.{IsWritten}
use Rattle.edit_merge.proofs.EditLines.{length-edits_of, edit_at, later_edits, edits_chain_from_sorted}
use Rattle.edit_merge.proofs.Groups.{text_of-append}

-- ---- whether the next line is of the same edge

-- a test that tells whether edges are one is that of their order
same_edge_from_test : (e f : Edge) (b : Bool) → (IsTrue b ↔ (e ≡ f)) → b ≡ is_same_edge e f
same_edge_from_test e f true tells = sym (ap (is_same_edge e) (sym (tells.0 refl)) ∙ ap is_eq (tied_itself edge_cmp_total e))
same_edge_from_test e f false tells = by_test (is_same_edge e f) refl where
  by_test : (t : Bool) → is_same_edge e f ≡ t → false ≡ t
  by_test false is = refl
  by_test true is = absurd (false≢true (tells.1 (one_edge e f is)))

pub begins_with-first_line : (e : Edge) (lines : List EditLine) (first : EditLine) (b : Bool) → 1 ≤ length lines → first ≡ get_or lines 0 first → (IsTrue b ↔ (e ≡ edit_edge (edit_of first)))
    → b ≡ begins_with e (edits_of lines)
begins_with-first_line e lines first b some is tells =
    let edge = edit_edge (edit_of first) in
    begins_with-first e edge (edits_of lines) (edit_of first) b refl (omega (arith, length-edits_of lines)) (edit_at lines 0 first (omega arith) is) (same_edge_from_test e edge b tells)

-- the line behind the index is of the edge of the one there
abbrev is_followed : List EditLine → ℕ → EditLine → Bool
is_followed lines i x = begins_with (edit_edge (edit_of x)) (edits_of (take (length lines - (i + 1)) (drop (i + 1) lines)))

-- ---- the loop

-- of the lines before the index those are copied that are the last of their edge
pub record AreCopiedTo (lines : List EditLine) (i : ℕ) (before out : List ℕ) : Type 0 where
  pub front : List Edit
  pub parts : front ++ kept (drop i (edits_of lines)) ≡ kept (edits_of lines)
  pub appended : out ≡ before ++ text_of front

pub copied_no_more : (lines : List EditLine) (i : ℕ) (x : EditLine) (before out : List ℕ) → i < length lines → x ≡ get_or lines i x → true ≡ is_followed lines i x
    → AreCopiedTo lines i before out → AreCopiedTo lines (i + 1) before out
copied_no_more lines i x before out lt is test so_far =
    let edits = edits_of lines in
    let tested = test ∙ ap (begins_with (edit_edge (edit_of x))) (later_edits lines (i + 1)) in
    record {
      front = so_far.front;
      parts = skipped edits so_far.front (kept edits) i (edit_of x) (omega (arith, length-edits_of lines)) (edit_at lines i x lt is) tested so_far.parts;
      appended = so_far.appended;
    }

text_of-push : (edits : List Edit) (edit : Edit) → text_of (edits ++ edit ∷ []) ≡ text_of edits ++ line_of edit
text_of-push edits edit = text_of-append edits (edit ∷ []) ∙ ap (λ (t : List ℕ). text_of edits ++ t) (append-nil (line_of edit))

pub copied_more : (lines : List EditLine) (i : ℕ) (x : EditLine) (before out new : List ℕ) → i < length lines → x ≡ get_or lines i x → false ≡ is_followed lines i x
    → new ≡ out ++ line_of (edit_of x) → AreCopiedTo lines i before out → AreCopiedTo lines (i + 1) before new
copied_more lines i x before out new lt is test copied so_far =
    let edits = edits_of lines in
    let edit = edit_of x in
    let at = edit_at lines i x lt is in
    let tested = test ∙ ap (begins_with (edit_edge edit)) (later_edits lines (i + 1)) in
    record {
      front = so_far.front ++ edit ∷ [];
      parts = pushed edits so_far.front (kept edits) i edit edit (omega (arith, length-edits_of lines)) at at tested so_far.parts;
      appended = copied ∙ ap (λ (t : List ℕ). t ++ line_of edit) so_far.appended ∙ append_assoc before (text_of so_far.front) (line_of edit)
          ∙ ap (λ (t : List ℕ). before ++ t) (sym (text_of-push so_far.front edit));
    }

pub copied_all : (lines : List EditLine) (i : ℕ) (before out : List ℕ) → length lines ≤ i → IsSorted line_impl.ghosts.cmp lines → AreCopiedTo lines i before out → AreCopied lines before out
copied_all lines i before out le up all =
    let edits = edits_of lines in
    let none : drop i edits ≡ [] = drop_all i edits (omega (arith, length-edits_of lines)) in
    let is : all.front ≡ kept edits = sym (append-nil all.front) ∙ ap (λ zs. all.front ++ kept zs) (sym none) ∙ all.parts in
    record {
      canonical = all.front;
      is_canonical = subst (IsCanonical (graph edits)) (sym is) (kept_is_canonical edits (edits_chain_from_sorted lines up));
      appended = all.appended;
    }

-- ---- a group

-- a group is written by the lines that are copied of it
pub written_by_copies : (version : Version) (text : List ℕ) (group : List NamedLine) (read sorted : List EditLine) (old new : List ℕ) → AreRead version text group read → IsPermutation read sorted
    → AreCopied sorted old new → IsWritten version text group old new
written_by_copies version text group read sorted old new are_read moved copied = record {
  edits = edits_of read;
  stand = are_read.stand;
  canonical = copied.canonical;
  is_canonical = canonical_moved (edits_of read) (edits_of sorted) copied.canonical (IsPermutation-map edit_of read sorted moved) copied.is_canonical;
  appended = copied.appended;
}
