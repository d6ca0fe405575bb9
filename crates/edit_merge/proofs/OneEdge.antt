-- Lines of one edge: one of them stands for the edit that is left of all.
use Rattle.std.proofs.Common.{◌≡◌, ℕ, ◌+◌, ◌-◌, ◌<◌, ◌≤◌, Bool, true, false, cond, List, [], ◌∷◌, ◌++◌, length, take, drop, get_or, refl, sym, ap, subst, ◌∙◌, arith}
use Rattle.std.proofs.lemmas.Grind.{get_or_after_one}
use Rattle.std.proofs.lemmas.List.{length-drop}
use Rattle.std.proofs.lemmas.Slice.{between_to_end}
use Rattle.grove_sorts.specs.declared.version.Version.{Version}
use Rattle.edge_lattice.specs.declared.state.State.{State}
use Rattle.edge_lattice.specs.declared.state.State.TheVariants.{Absent, Live, Deleted}
use Rattle.edge_lattice.specs.State.{state_join}
use Rattle.grove_edits.specs.declared.edge.Edge.{Edge}
use Rattle.grove_edits.specs.declared.edit.Edit.{Edit}
use Rattle.grove_edits.specs.declared.edit.EditKind.{EditKind}
use Rattle.grove_edits.specs.declared.edit.EditKind.TheVariants.{Insert, Delete}
use Rattle.grove_edits.specs.Edit.{edit_edge, edit_kind}
use Rattle.grove_edits.specs.Graph.{graph, state_of, is_same_edge, IsCanonical}
use Rattle.grove_edits.proofs.Graphs.{graph-append}
use Rattle.edit_text.specs.Line.{spaced, edge_parts, sign}
use Rattle.edit_text.proofs.Lines.{form_injective}
use Rattle.edit_merge.specs.declared.named_line.NamedLine.{NamedLine}
use Rattle.edit_merge.specs.Named.{Stands, DoesStand, DoStand, StandsForAll}
use Rattle.edit_merge.proofs.Canonical.{one_is_canonical}
use Rattle.edit_merge.proofs.Standing.{one_stands, DoStand-at, stand_more}

-- ---- edits of one edge

-- edits whose edges are spelled alike have one edge
pub one_edge_from_text : (a b : Edit) → spaced (edge_parts (edit_edge a)) ≡ spaced (edge_parts (edit_edge b)) → edit_edge a ≡ edit_edge b
one_edge_from_text a b same = (form_injective Insert Insert (edit_edge a) (edit_edge b) a.in_range b.in_range (ap (λ (t : List ℕ). sign Insert ∷ t) same)).1

-- what a list of one edit asks of an edge
abbrev asked_alone : Edge → EditKind → Edge → State
asked_alone edge kind e = state_join (cond (is_same_edge edge e) (state_of kind) Absent) Absent

join_Delete : (same : Bool) (k : EditKind)
    → state_join (state_join (cond same (state_of k) Absent) Absent) (state_join (cond same Deleted Absent) Absent) ≡ state_join (cond same Deleted Absent) Absent
join_Delete true Insert = refl
join_Delete true Delete = refl
join_Delete false k = refl

join_Insert : (same : Bool) (k : EditKind)
    → state_join (state_join (cond same (state_of k) Absent) Absent) (state_join (cond same Live Absent) Absent) ≡ state_join (cond same (state_of k) Absent) Absent
join_Insert true Insert = refl
join_Insert true Delete = refl
join_Insert false k = refl

alike : (a b : Edit) (k : EditKind) (e : Edge) → edit_edge a ≡ edit_edge b → edit_kind b ≡ k
    → state_join (graph (a ∷ []) e) (graph (b ∷ []) e) ≡ state_join (asked_alone (edit_edge b) (edit_kind a) e) (asked_alone (edit_edge b) k e)
alike a b k e edge kind =
    ap (λ (f : Edge). state_join (asked_alone f (edit_kind a) e) (graph (b ∷ []) e)) edge
    ∙ ap (λ (j : EditKind). state_join (asked_alone (edit_edge b) (edit_kind a) e) (asked_alone (edit_edge b) j e)) kind

-- a deletion of the edge is left, whatever was before
deletion_left : (a b : Edit) (e : Edge) → edit_edge a ≡ edit_edge b → edit_kind b ≡ Delete → state_join (graph (a ∷ []) e) (graph (b ∷ []) e) ≡ graph (b ∷ []) e
deletion_left a b e edge kind =
    alike a b Delete e edge kind ∙ join_Delete (is_same_edge (edit_edge b) e) (edit_kind a) ∙ sym (ap (λ (k : EditKind). asked_alone (edit_edge b) k e) kind)

-- an insertion adds nothing
insertion_absorbed : (a b : Edit) (e : Edge) → edit_edge a ≡ edit_edge b → edit_kind b ≡ Insert → state_join (graph (a ∷ []) e) (graph (b ∷ []) e) ≡ graph (a ∷ []) e
insertion_absorbed a b e edge kind =
    alike a b Insert e edge kind ∙ join_Insert (is_same_edge (edit_edge b) e) (edit_kind a) ∙ sym (ap (λ (f : Edge). asked_alone f (edit_kind a) e) edge)

insertion_else : (k : EditKind) → (k ≡ Delete → ⊥) → k ≡ Insert
insertion_else Insert other = refl
insertion_else Delete other = absurd (other refl)

-- what is left of one more edit
IsCanonical-more : (edits : List Edit) (a b left : Edit) → IsCanonical (graph edits) (a ∷ []) → ((e : Edge) → state_join (graph (a ∷ []) e) (graph (b ∷ []) e) ≡ graph (left ∷ []) e)
    → IsCanonical (graph (edits ++ b ∷ [])) (left ∷ [])
IsCanonical-more edits a b left canonical joined = record {
  in_order = (tt, tt);
  same = λ e. sym (joined e) ∙ ap (λ (s : State). state_join s (graph (b ∷ []) e)) (canonical.same e) ∙ sym (graph-append edits (b ∷ []) e);
}

-- ---- lines of one edge

-- the lines behind the first, as a pattern takes them
abbrev pub others : List NamedLine → List NamedLine
others lines = take (length lines - 1) (drop 1 lines)

others_are : (lines : List NamedLine) → others lines ≡ drop 1 lines
others_are lines = between_to_end lines 1 (length lines) (omega arith)

pub length-others : (lines : List NamedLine) → length (others lines) ≡ length lines - 1
length-others lines = ap length (others_are lines) ∙ length-drop 1 lines

pub get_or-others : (lines : List NamedLine) (i : ℕ) (default : NamedLine) → get_or (others lines) i default ≡ get_or lines (i + 1) default
get_or-others lines i default =
    ap (λ (ls : List NamedLine). get_or ls i default) (others_are lines) ∙ get_or_after_one lines i default ∙ ap (λ (n : ℕ). get_or lines n default) (omega arith)

module _ (version : Version) (text : List ℕ) where
  pub other_stands : (lines : List NamedLine) (i : ℕ) (default : NamedLine) → i < length (others lines) → DoStand version text lines → DoesStand version text (get_or (others lines) i default)
  other_stands lines i default lt stand =
      subst (DoesStand version text) (sym (get_or-others lines i default)) (DoStand-at version text (i + 1) lines default (omega (arith, length-others lines)) stand)

  -- two lines stand for edits of one edge
  abbrev pub AreOfOneEdge : NamedLine → NamedLine → Type 0
  AreOfOneEdge line other = (a b : Edit) → Stands version text line a → Stands version text other b → edit_edge a ≡ edit_edge b

  -- the line stands for the edit that is left of all, which is of the first line's edge
  pub record IsChosen (first : NamedLine) (lines : List NamedLine) (line : NamedLine) : Type 0 where
    pub all : StandsForAll version text lines line
    pub one_edge : (edit : Edit) → Stands version text first edit → edit_edge edit ≡ edit_edge all.edit

  pub chosen_first : (lines : List NamedLine) (default : NamedLine) → 1 ≤ length lines → DoStand version text lines → IsChosen (get_or lines 0 default) (take 1 lines) (get_or lines 0 default)
  chosen_first [] default some stand = absurd (omega arith)
  chosen_first (line ∷ lines) default some ([], stand) = absurd stand
  chosen_first (line ∷ lines) default some (edit ∷ edits, stand) = record {
    all = record { edits = edit ∷ []; stand = (stand.0, tt); edit = edit; stands = stand.0; is_canonical = one_is_canonical edit };
    one_edge = λ other stands. ap edit_edge (one_stands version text line other edit stands stand.0);
  }

  -- the next line is chosen where it deletes the edge
  pub chosen_next : (first : NamedLine) (lines : List NamedLine) (i : ℕ) (default chosen line after : NamedLine) → i < length lines → line ≡ get_or lines i default → after ≡ line
      → DoesStand version text first → DoStand version text lines → IsChosen first (take i lines) chosen → AreOfOneEdge first line
      → ((edit : Edit) → Stands version text line edit → edit_kind edit ≡ Delete) → IsChosen first (take (i + 1) lines) after
  chosen_next first lines i default chosen line after lt is it begins stand so_far alike deletes =
      let next = DoStand-at version text i lines default lt stand in
      let stands = subst (λ l. Stands version text l next.0) (sym is) next.1 in
      let all = so_far.all in
      let one_edge : edit_edge all.edit ≡ edit_edge next.0 = sym (so_far.one_edge begins.0 begins.1) ∙ alike begins.0 next.0 begins.1 stands in
      record {
        all = record {
          edits = all.edits ++ next.0 ∷ [];
          stand = stand_more version text lines i default all.edits (all.edits ++ next.0 ∷ []) next.0 lt all.stand next.1 refl;
          edit = next.0;
          stands = subst (λ l. Stands version text l next.0) (sym it) stands;
          is_canonical = IsCanonical-more all.edits all.edit next.0 next.0 all.is_canonical (λ e. deletion_left all.edit next.0 e one_edge (deletes next.0 stands));
        };
        one_edge = λ edit of_first. alike edit next.0 of_first stands;
      }

  -- and else the chosen one stays
  pub chosen_stays : (first : NamedLine) (lines : List NamedLine) (i : ℕ) (default chosen line after : NamedLine) → i < length lines → line ≡ get_or lines i default → after ≡ chosen
      → DoesStand version text first → DoStand version text lines → IsChosen first (take i lines) chosen → AreOfOneEdge first line
      → ((edit : Edit) → Stands version text line edit → edit_kind edit ≡ Delete → ⊥) → IsChosen first (take (i + 1) lines) after
  chosen_stays first lines i default chosen line after lt is it begins stand so_far alike inserts =
      let next = DoStand-at version text i lines default lt stand in
      let stands = subst (λ l. Stands version text l next.0) (sym is) next.1 in
      let all = so_far.all in
      let one_edge : edit_edge all.edit ≡ edit_edge next.0 = sym (so_far.one_edge begins.0 begins.1) ∙ alike begins.0 next.0 begins.1 stands in
      record {
        all = record {
          edits = all.edits ++ next.0 ∷ [];
          stand = stand_more version text lines i default all.edits (all.edits ++ next.0 ∷ []) next.0 lt all.stand next.1 refl;
          edit = all.edit;
          stands = subst (λ l. Stands version text l all.edit) (sym it) all.stands;
          is_canonical = IsCanonical-more all.edits all.edit next.0 all.edit all.is_canonical
              (λ e. insertion_absorbed all.edit next.0 e one_edge (insertion_else (edit_kind next.0) (inserts next.0 stands)));
        };
        one_edge = so_far.one_edge;
      }
