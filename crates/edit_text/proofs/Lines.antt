-- The line of an edit: no two edits share one, and its one LF stands at its end.
use Rattle.std.proofs.Common.{◌≡◌, ◌≢◌, ℕ, ◌<◌, ◌^◌, List, [], ◌∷◌, ◌++◌, Option, Some, None, IsTrue, is_none, refl, sym, ap, ◌∙◌, inl, append_assoc, arith}
use Rattle.std.proofs.lemmas.Bool.{false≢true}
use Rattle.text_parts.specs.Separated.{Lacks}
use Rattle.text_parts.proofs.Parts.{Lacks-append, first_part}
use Rattle.grove_names.specs.declared.name.Name.{Name}
use Rattle.grove_names.specs.Name.{InRange as NameInRange, name_text}
use Rattle.grove_names.proofs.Texts.{name_text_injective, Lacks-name_text}
use Rattle.grove_sorts.specs.declared.ctor.Ctor.{Ctor}
use Rattle.grove_sorts.specs.declared.ctor.Ctor.TheVariants.{Num}
use Rattle.grove_sorts.specs.Ctor.{InRange as CtorInRange, ctor_text}
use Rattle.grove_sorts.specs.declared.position.Position.{Position}
use Rattle.grove_sorts.specs.Position.{position_text}
use Rattle.grove_sorts.proofs.Texts.{ctor_text_injective, position_text_injective, Lacks-ctor_text, Lacks-position_text}
use Rattle.grove_sorts.specs.declared.version.Version.{Version}
use Rattle.grove_sorts.specs.declared.version.Version.TheVariants.{One, Two}
use Rattle.grove_edits.specs.declared.vertex.Vertex.{Vertex}
use Rattle.grove_edits.specs.declared.edge.Edge.{Edge}
use Rattle.grove_edits.specs.declared.edge.EdgeFault.{EdgeFault}
use Rattle.grove_edits.specs.declared.edit.Edit.{Edit}
use Rattle.grove_edits.specs.declared.edit.EditKind.{EditKind}
use Rattle.grove_edits.specs.declared.edit.EditKind.TheVariants.{Insert, Delete}
use Rattle.grove_edits.specs.Vertex.{literal, VertexInRange}
use Rattle.grove_edits.specs.Edge.{EdgeInRange, IsEdgeOf, edge_fault}
use Rattle.grove_edits.specs.Edit.{edit_edge, edit_kind}
use Rattle.grove_edits.proofs.Orders.{vertex_from_fields, edge_from_fields}
use Rattle.grove_edits.proofs.Unique.{edit_from_fields}
use Rattle.edit_text.specs.declared.line_fault.LineFault.{LineFault}
use Rattle.edit_text.specs.FaultOfEdge.{line_fault_of, IsFaultBy, without_form, with_edge}
use Rattle.edit_text.specs.Line.{spaced, edge_parts, sign, form, Spells, HasEdgeFault, HasNoForm, HasFault}
use Rattle.edit_text.specs.Text.{line_of}

-- ---- ranges

-- a constructor whose literal fits is in range
pub InRange-literal : (ctor : Ctor) → literal ctor < 2 ^ 64 → CtorInRange ctor
InRange-literal (Num n) fits = fits
InRange-literal _ fits = tt

-- a name whose numbers fit is in range
pub InRange-numbers : (name : Name) → name.author < 2 ^ 32 → name.counter < 2 ^ 64 → NameInRange name
InRange-numbers name author counter = (author, counter)

-- the name and the constructor of a vertex in range are
pub InRange-vertex : (vertex : Vertex) → VertexInRange vertex → NameInRange vertex.name × CtorInRange vertex.ctor
InRange-vertex vertex in_range = ((in_range.0, in_range.1), InRange-literal vertex.ctor in_range.2)

-- the name of an edge in range is
pub InRange-edge : (edge : Edge) → EdgeInRange edge → NameInRange edge.name
InRange-edge edge in_range = (in_range.0, in_range.1)

-- ---- the bytes that no part has

-- a name has no byte below its dot, as a space or an LF is
Lacks-name : (c : ℕ) (name : Name) → c < 46 → NameInRange name → Lacks c (name_text name)
Lacks-name c name low in_range = Lacks-name_text c name in_range (λ e. absurd (omega arith)) (inl (omega arith))

-- no LF stands in two texts with a space between them, if none does in either
Lacks-part : (part rest : List ℕ) → Lacks 10 part → Lacks 10 rest → Lacks 10 (part ++ 32 ∷ rest)
Lacks-part part rest none more = Lacks-append 10 part (32 ∷ rest) none ((λ e. absurd (omega arith)), more)

sign_is_no_lf : (kind : EditKind) → sign kind ≢ 10
sign_is_no_lf Insert e = omega arith
sign_is_no_lf Delete e = omega arith

-- no LF stands in an edge's text
Lacks-parts : (edge : Edge) → EdgeInRange edge → Lacks 10 (spaced (edge_parts edge))
Lacks-parts edge in_range =
    let source = InRange-vertex edge.source in_range.2 in
    let target = InRange-vertex edge.target in_range.3 in
    Lacks-part (name_text edge.name) _ (Lacks-name 10 edge.name (omega arith) (InRange-edge edge in_range))
    (Lacks-part (name_text edge.source.name) _ (Lacks-name 10 edge.source.name (omega arith) source.0)
    (Lacks-part (ctor_text edge.source.ctor) _ (Lacks-ctor_text 10 edge.source.ctor (omega arith) source.1)
    (Lacks-part (position_text edge.position) _ (Lacks-position_text 10 edge.position (omega arith))
    (Lacks-part (name_text edge.target.name) (ctor_text edge.target.ctor) (Lacks-name 10 edge.target.name (omega arith) target.0)
    (Lacks-ctor_text 10 edge.target.ctor (omega arith) target.1)))))

-- no LF stands in a line without its end
pub Lacks-form : (kind : EditKind) (edge : Edge) → EdgeInRange edge → Lacks 10 (form kind edge)
Lacks-form kind edge in_range = (sign_is_no_lf kind, Lacks-parts edge in_range)

-- ---- one line for each edge

-- texts that begin with a name and a space, and are one, have one name and one rest
pub same_name : (a b : Name) (x y : List ℕ) → NameInRange a → NameInRange b → name_text a ++ 32 ∷ x ≡ name_text b ++ 32 ∷ y → (a ≡ b) × (x ≡ y)
same_name a b x y in_a in_b same =
    let parts = first_part 32 (name_text a) (name_text b) x y (Lacks-name 32 a (omega arith) in_a) (Lacks-name 32 b (omega arith) in_b) same in
    (name_text_injective a b in_a in_b parts.0, parts.1)

-- the same of a constructor and a space
pub same_ctor : (a b : Ctor) (x y : List ℕ) → CtorInRange a → CtorInRange b → ctor_text a ++ 32 ∷ x ≡ ctor_text b ++ 32 ∷ y → (a ≡ b) × (x ≡ y)
same_ctor a b x y in_a in_b same =
    let parts = first_part 32 (ctor_text a) (ctor_text b) x y (Lacks-ctor_text 32 a (omega arith) in_a) (Lacks-ctor_text 32 b (omega arith) in_b) same in
    (ctor_text_injective a b in_a in_b parts.0, parts.1)

-- the same of a position and a space
pub same_position : (a b : Position) (x y : List ℕ) → position_text a ++ 32 ∷ x ≡ position_text b ++ 32 ∷ y → (a ≡ b) × (x ≡ y)
same_position a b x y same =
    let parts = first_part 32 (position_text a) (position_text b) x y (Lacks-position_text 32 a (omega arith)) (Lacks-position_text 32 b (omega arith)) same in
    (position_text_injective a b parts.0, parts.1)

-- edges of one text are one
parts_injective : (a b : Edge) → EdgeInRange a → EdgeInRange b → spaced (edge_parts a) ≡ spaced (edge_parts b) → a ≡ b
parts_injective a b in_a in_b same =
    let source_a = InRange-vertex a.source in_a.2 in
    let source_b = InRange-vertex b.source in_b.2 in
    let target_a = InRange-vertex a.target in_a.3 in
    let target_b = InRange-vertex b.target in_b.3 in
    let name = same_name a.name b.name _ _ (InRange-edge a in_a) (InRange-edge b in_b) same in
    let source_name = same_name a.source.name b.source.name _ _ source_a.0 source_b.0 name.1 in
    let source_ctor = same_ctor a.source.ctor b.source.ctor _ _ source_a.1 source_b.1 source_name.1 in
    let position = same_position a.position b.position _ _ source_ctor.1 in
    let target_name = same_name a.target.name b.target.name (ctor_text a.target.ctor) (ctor_text b.target.ctor) target_a.0 target_b.0 position.1 in
    let target_ctor = ctor_text_injective a.target.ctor b.target.ctor target_a.1 target_b.1 target_name.1 in
    edge_from_fields a b name.0 (vertex_from_fields a.source b.source source_name.0 source_ctor.0)
    position.0 (vertex_from_fields a.target b.target target_name.0 target_ctor)

sign_injective : (k l : EditKind) → sign k ≡ sign l → k ≡ l
sign_injective Insert Insert e = refl
sign_injective Insert Delete e = absurd (omega arith)
sign_injective Delete Insert e = absurd (omega arith)
sign_injective Delete Delete e = refl

first_byte : (c d : ℕ) (x y : List ℕ) → c ∷ x ≡ d ∷ y → (c ≡ d) × (x ≡ y)
first_byte c d x y same = (cc, cc)

-- a line spells one kind and one edge
pub form_injective : (k l : EditKind) (a b : Edge) → EdgeInRange a → EdgeInRange b → form k a ≡ form l b → (k ≡ l) × (a ≡ b)
form_injective k l a b in_a in_b same =
    let parts = first_byte (sign k) (sign l) (spaced (edge_parts a)) (spaced (edge_parts b)) same in
    (sign_injective k l parts.0, parts_injective a b in_a in_b parts.1)

-- edits with one line are one
pub one_edit : (version : Version) (line : List ℕ) (a b : Edit) → Spells version line a → Spells version line b → a ≡ b
one_edit version line a b of_a of_b =
    let same = form_injective a.kind b.kind (edit_edge a) (edit_edge b) a.in_range b.in_range (sym of_a.0 ∙ of_b.0) in
    edit_from_fields a b same.0 same.1

-- version two knows all of each edge, and so each edit has its line there
pub all_in_two : (edge : Edge) → IsEdgeOf Two edge
all_in_two edge = (refl, refl, refl)

pub each_in_two : (edit : Edit) → Spells Two (form (edit_kind edit) (edit_edge edit)) edit
each_in_two edit = (refl, all_in_two (edit_edge edit))

pub kept_in_two : (line : List ℕ) (edit : Edit) → Spells One line edit → Spells Two line edit
kept_in_two line edit spells = (spells.0, all_in_two (edit_edge edit))

-- ---- one fault for each line

none_is_not_some : (o : Option EdgeFault) (fault : EdgeFault) → IsTrue (is_none o) → o ≡ Some fault → ⊥
none_is_not_some None fault none is = cc
none_is_not_some (Some other) fault none is = false≢true none

-- no line of an edit is that of an edge with a fault
edit_or_edge_fault : (version : Version) (line : List ℕ) (edit : Edit) (fault : EdgeFault) → Spells version line edit → HasEdgeFault version line fault → ⊥
edit_or_edge_fault version line edit fault spells has =
    let same = form_injective edit.kind has.0 (edit_edge edit) has.1 edit.in_range has.2 (sym spells.0 ∙ has.4) in
    none_is_not_some (edge_fault (edit_edge edit)) fault edit.well_formed (ap edge_fault same.1 ∙ has.5)

-- an edit's line has no fault
pub edit_or_fault : (version : Version) (line : List ℕ) (edit : Edit) (fault : LineFault) → Spells version line edit → HasFault version line fault → ⊥
edit_or_fault version line edit fault spells h = by_told h.told where
  by_told : IsFaultBy (HasNoForm version line) (HasEdgeFault version line) fault → ⊥
  by_told (without_form none is) = none edit.kind (edit_edge edit) edit.in_range spells.1 spells.0
  by_told (with_edge of_edge has is) = edit_or_edge_fault version line edit of_edge spells has

some_injective : (f g : EdgeFault) → Some f ≡ Some g → f ≡ g
some_injective f g e = cc

one_edge_fault : (version : Version) (line : List ℕ) (f g : EdgeFault) → HasEdgeFault version line f → HasEdgeFault version line g → f ≡ g
one_edge_fault version line f g of_f of_g =
    let same = form_injective of_f.0 of_g.0 of_f.1 of_g.1 of_f.2 of_g.2 (sym of_f.4 ∙ of_g.4) in
    some_injective f g (sym of_f.5 ∙ ap edge_fault same.1 ∙ of_g.5)

-- a line that has no edge's form has no edge's fault
no_form_or_edge : (version : Version) (line : List ℕ) (fault : EdgeFault) → HasNoForm version line → HasEdgeFault version line fault → ⊥
no_form_or_edge version line fault none has = none has.0 has.1 has.2 has.3 has.4

-- a line has one first fault
pub one_fault : (version : Version) (line : List ℕ) (a b : LineFault) → HasFault version line a → HasFault version line b → a ≡ b
one_fault version line a b of_a of_b = by_told of_a.told of_b.told where
  by_told : IsFaultBy (HasNoForm version line) (HasEdgeFault version line) a → IsFaultBy (HasNoForm version line) (HasEdgeFault version line) b → a ≡ b
  by_told (without_form none is) (without_form also are) = is ∙ sym are
  by_told (without_form none is) (with_edge g has are) = absurd (no_form_or_edge version line g none has)
  by_told (with_edge f has is) (without_form none are) = absurd (no_form_or_edge version line f none has)
  by_told (with_edge f has is) (with_edge g also are) = is ∙ ap line_fault_of (one_edge_fault version line f g has also) ∙ sym are

-- a line of an edge with a fault has that fault
pub has_edge_fault : (version : Version) (line : List ℕ) (kind : EditKind) (edge : Edge) (fault : EdgeFault) → EdgeInRange edge → IsEdgeOf version edge
    → line ≡ form kind edge → edge_fault edge ≡ Some fault → HasFault version line (line_fault_of fault)
has_edge_fault version line kind edge fault in_range of_version is has = record { told = with_edge fault (kind, edge, in_range, of_version, is, has) refl }

-- ---- a line and what stands behind it

-- what stands behind an edit's line stands behind its LF
pub line_then : (edit : Edit) (rest : List ℕ) → line_of edit ++ rest ≡ form (edit_kind edit) (edit_edge edit) ++ 10 ∷ rest
line_then edit rest = append_assoc (form (edit_kind edit) (edit_edge edit)) (10 ∷ []) rest

-- texts that begin with the lines of edits, and are one, have one edit and one rest
pub same_lines : (a b : Edit) (x y : List ℕ) → line_of a ++ x ≡ line_of b ++ y → (a ≡ b) × (x ≡ y)
same_lines a b x y same =
    let of_a = form (edit_kind a) (edit_edge a) in
    let of_b = form (edit_kind b) (edit_edge b) in
    let parts = first_part 10 of_a of_b x y (Lacks-form a.kind (edit_edge a) a.in_range) (Lacks-form b.kind (edit_edge b) b.in_range)
    (sym (line_then a x) ∙ same ∙ line_then b y) in
    (one_edit Two of_a a b (each_in_two a) (parts.0, all_in_two (edit_edge b)), parts.1)

-- no edit's line is a proper prefix of another's
pub no_prefix : (a b : Edit) (more : List ℕ) → line_of a ++ more ≡ line_of b → more ≡ []
no_prefix a b more same =
    (first_part 10 (form (edit_kind a) (edit_edge a)) (form (edit_kind b) (edit_edge b)) more []
    (Lacks-form a.kind (edit_edge a) a.in_range) (Lacks-form b.kind (edit_edge b) b.in_range) (sym (line_then a more) ∙ same)).1
