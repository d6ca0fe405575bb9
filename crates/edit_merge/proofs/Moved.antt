-- Lines in another order stand for the same edits.
use Rattle.std.proofs.Common.{◌≡◌, ℕ, zero, suc, ◌<◌, List, [], ◌∷◌, length, get_or, refl, subst, ◌∙◌, arith}
use Rattle.std.specs.List.{Contains}
use Rattle.std.specs.List.Sorted.{IsPermutation}
use Rattle.std.proofs.lemmas.List.Sorted.{Contains-permutation, IsPermutation-sym}
use Rattle.grove_sorts.specs.declared.version.Version.{Version}
use Rattle.grove_edits.specs.declared.edit.Edit.{Edit}
use Rattle.grove_edits.specs.Graph.{graph, IsSame, HasAll}
use Rattle.grove_edits.proofs.Graphs.{graph-same_edits}
use Rattle.edit_merge.specs.declared.named_line.NamedLine.{NamedLine}
use Rattle.edit_merge.specs.Named.{Stands, StandAll, DoesStand, DoStand, AreNamed, IsWritten}
use Rattle.edit_merge.specs.Merged.{IsMerged}
use Rattle.edit_merge.proofs.Standing.{one_stands}

Contains-more : {X : Type 0} (x y : X) (xs : List X) → Contains xs y → Contains (x ∷ xs) y
Contains-more x y xs has = (suc has.0, omega (arith, has.1), has.2)

HasAll-from : (has xs : List Edit) → ((x : Edit) → Contains xs x → Contains has x) → HasAll has xs
HasAll-from has [] each = tt
HasAll-from has (x ∷ xs) each = (each x (zero, omega arith, refl), HasAll-from has xs (λ y in_rest. each y (Contains-more x y xs in_rest)))

module _ (version : Version) (text : List ℕ) where
  -- each line of lines that stand for edits stands for one of them
  edit_of : (lines : List NamedLine) (edits : List Edit) → StandAll version text lines edits → (line : NamedLine) (k : ℕ) → k < length lines → get_or lines k line ≡ line
      → (edit : Edit) × Contains edits edit × Stands version text line edit
  edit_of [] edits stand line k lt is = absurd (omega arith)
  edit_of (x ∷ lines) [] stand line k lt is = absurd stand
  edit_of (x ∷ lines) (edit ∷ edits) stand line zero lt is = (edit, (zero, omega arith, refl), subst (λ l. Stands version text l edit) is stand.0)
  edit_of (x ∷ lines) (edit ∷ edits) stand line (suc k) lt is =
      let rest = edit_of lines edits stand.1 line k (omega arith) is in
      (rest.0, Contains-more edit rest.0 edits rest.1, rest.2)

  -- and each of the edits has a line
  line_for : (lines : List NamedLine) (edits : List Edit) → StandAll version text lines edits → (edit : Edit) (k : ℕ) → k < length edits → get_or edits k edit ≡ edit
      → (line : NamedLine) × Contains lines line × Stands version text line edit
  line_for lines [] stand edit k lt is = absurd (omega arith)
  line_for [] (x ∷ edits) stand edit k lt is = absurd stand
  line_for (line ∷ lines) (x ∷ edits) stand edit zero lt is = (line, (zero, omega arith, refl), subst (Stands version text line) is stand.0)
  line_for (line ∷ lines) (x ∷ edits) stand edit (suc k) lt is =
      let rest = line_for lines edits stand.1 edit k (omega arith) is in
      (rest.0, Contains-more line rest.0 lines rest.1, rest.2)

  -- lines of which each stands for an edit
  all_stand : (lines : List NamedLine) → ((line : NamedLine) → Contains lines line → DoesStand version text line) → DoStand version text lines
  all_stand [] each = ([], tt)
  all_stand (line ∷ lines) each =
      let first = each line (zero, omega arith, refl) in
      let rest = all_stand lines (λ l in_rest. each l (Contains-more line l lines in_rest)) in
      (first.0 ∷ rest.0, (first.1, rest.1))

  pub DoStand-moved : (lines sorted : List NamedLine) → IsPermutation lines sorted → DoStand version text lines → DoStand version text sorted
  DoStand-moved lines sorted moved stand =
      all_stand sorted (λ line has.
      let back = Contains-permutation sorted lines line (IsPermutation-sym lines sorted moved) has in
      let found = edit_of lines stand.0 stand.1 line back.0 back.1 back.2 in
      (found.0, found.2))

  -- the edits of lines are among those of the lines in another order
  HasAll-moved : (lines sorted : List NamedLine) (edits others : List Edit) → IsPermutation lines sorted → StandAll version text lines edits → StandAll version text sorted others → HasAll others edits
  HasAll-moved lines sorted edits others moved stand stand_too =
      HasAll-from others edits (λ edit has.
      let line = line_for lines edits stand edit has.0 has.1 has.2 in
      let there = Contains-permutation lines sorted line.0 moved line.1 in
      let found = edit_of sorted others stand_too line.0 there.0 there.1 there.2 in
      subst (Contains others) (one_stands version text line.0 found.0 edit found.2 line.2) found.1)

  graph-moved : (lines sorted : List NamedLine) (edits others : List Edit) → IsPermutation lines sorted → StandAll version text lines edits → StandAll version text sorted others → IsSame (graph others) (graph edits)
  graph-moved lines sorted edits others moved stand stand_too =
      graph-same_edits others edits (HasAll-moved lines sorted edits others moved stand stand_too)
      (HasAll-moved sorted lines others edits (IsPermutation-sym lines sorted moved) stand_too stand)

  -- what was written of the sorted lines is the canonical text
  pub merged : (lines sorted : List NamedLine) (out : List ℕ) → IsPermutation lines sorted → AreNamed version text lines → IsWritten version text sorted [] out → IsMerged version text out
  merged lines sorted out moved named written = record {
    edits = named.edits;
    spelled = named.spelled;
    canonical = written.canonical;
    is_canonical = record {
      in_order = written.is_canonical.in_order;
      same = λ e. written.is_canonical.same e ∙ graph-moved lines sorted named.edits written.edits moved named.stand written.stand e;
    };
    written = written.appended;
  }
