-- Lines beside their edits: read in turn, sorted, and taken from an index on.
use Rattle.std.proofs.Common.{◌≡◌, ℕ, zero, ◌+◌, ◌-◌, ◌<◌, false, List, [], ◌∷◌, ◌++◌, length, drop, take, get_or, sym, ap, subst, ◌∙◌, arith}
use Rattle.std.specs.List.Sorted.{IsSorted, IsPermutation}
use Rattle.std.specs.Ordering.{is_gt, is_lt}
use Rattle.std.proofs.lemmas.List.{map-append, length-map, take-map, drop-map, get_or-map}
use Rattle.std.proofs.lemmas.List.Elements.{All-push, All-take, All-drop}
use Rattle.std.proofs.lemmas.List.Sorted.{All-permutation}
use Rattle.grove_sorts.specs.declared.version.Version.{Version}
use Rattle.grove_edits.specs.contracts.edit.EditOrd.TheImpl as edit_impl
use Rattle.grove_edits.specs.contracts.edit.EditOrd.TheImpl.Laws as edit_laws
use Rattle.grove_edits.proofs.CanonicalLists.{IsChainAfter, IsChain}
use Rattle.grove_edits.proofs.Orders.{cmp_is_edit_cmp}
use Rattle.edit_merge.specs.declared.edit_line.EditLine.{EditLine}
use Rattle.edit_merge.specs.declared.named_line.NamedLine.{NamedLine}
use Rattle.edit_merge.specs.contracts.edit_line.EditLineOrd.TheImpl as line_impl
use Rattle.edit_merge.specs.EditLine.{edit_of, edits_of, IsSpelled, AreSpelled, AreRead}
use Rattle.edit_merge.specs.Named.{Stands}
use Rattle.edit_merge.proofs.Groups.{not_after, sorted_tail}
use Rattle.edit_merge.proofs.Standing.{stand_more}

-- ---- the edits

pub length-edits_of : (lines : List EditLine) → length (edits_of lines) ≡ length lines
length-edits_of lines = length-map lines edit_of

pub edit_at : (lines : List EditLine) (i : ℕ) (x : EditLine) → i < length lines → x ≡ get_or lines i x → edit_of x ≡ get_or (edits_of lines) i (edit_of x)
edit_at lines i x lt is = ap edit_of is ∙ sym (get_or-map edit_of lines i x (edit_of x) lt)

-- those of the lines from an index on
pub later_edits : (lines : List EditLine) (i : ℕ) → edits_of (take (length lines - i) (drop i lines)) ≡ take (length (edits_of lines) - i) (drop i (edits_of lines))
later_edits lines i =
    sym (take-map edit_of (length lines - i) (drop i lines))
    ∙ ap (take (length lines - i)) (sym (drop-map edit_of i lines))
    ∙ ap (λ (n : ℕ). take (n - i) (drop i (edits_of lines))) (sym (length-edits_of lines))

-- those of sorted lines are in order
chain_after : (x : EditLine) (xs : List EditLine) → IsSorted line_impl.ghosts.cmp (x ∷ xs) → IsChainAfter (edit_of x) (edits_of xs)
chain_after x [] up = tt
chain_after x (y ∷ ys) up =
    let cmp = edit_impl.ghosts.cmp in
    let first : is_lt (line_impl.ghosts.cmp y x) ≡ false = up zero x (omega arith) (omega arith) in
    let in_order : is_gt (cmp x.edit y.edit) ≡ false = ap is_gt (edit_laws.total-law.antisymm x.edit y.edit) ∙ not_after (cmp y.edit x.edit) _ first in
    (ap is_gt (sym (cmp_is_edit_cmp x.edit y.edit)) ∙ in_order, chain_after y ys (sorted_tail line_impl.ghosts.cmp x (y ∷ ys) up))

pub edits_chain_from_sorted : (xs : List EditLine) → IsSorted line_impl.ghosts.cmp xs → IsChain (edits_of xs)
edits_chain_from_sorted [] up = tt
edits_chain_from_sorted (x ∷ xs) up = chain_after x xs up

-- ---- the lines

module _ (version : Version) (text : List ℕ) where
  -- one more line was read
  pub read_more : (lines : List NamedLine) (i : ℕ) (default : NamedLine) (read more : List EditLine) (next : EditLine) → i < length lines → next.line ≡ get_or lines i default
      → IsSpelled version text next → more ≡ read ++ next ∷ [] → AreRead version text (take i lines) read → AreRead version text (take (i + 1) lines) more
  read_more lines i default read more next lt at spelled is so_far =
      let edits : edits_of more ≡ edits_of read ++ edit_of next ∷ [] = ap edits_of is ∙ map-append edit_of read (next ∷ []) in
      record {
        stand = stand_more version text lines i default (edits_of read) (edits_of more) (edit_of next) lt so_far.stand (subst (λ l. Stands version text l (edit_of next)) at spelled) edits;
        spelled = subst (AreSpelled version text) (sym is) (All-push (IsSpelled version text) read next so_far.spelled spelled);
      }

  pub AreSpelled-moved : (lines sorted : List EditLine) → IsPermutation lines sorted → AreSpelled version text lines → AreSpelled version text sorted
  AreSpelled-moved lines sorted moved spelled = All-permutation (IsSpelled version text) lines sorted moved spelled

  pub AreSpelled-later : (lines : List EditLine) (i : ℕ) → AreSpelled version text lines → AreSpelled version text (take (length lines - i) (drop i lines))
  AreSpelled-later lines i spelled = All-take (IsSpelled version text) (length lines - i) (drop i lines) (All-drop (IsSpelled version text) i lines spelled)

  pub stands_at : (lines : List EditLine) (i : ℕ) (x : EditLine) → i < length lines → x ≡ get_or lines i x → AreSpelled version text lines → Stands version text (get_or lines i x).line (edit_of x)
  stands_at lines i x lt is spelled = subst (λ one. Stands version text (get_or lines i x).line (edit_of one)) (sym is) (spelled i x lt)
