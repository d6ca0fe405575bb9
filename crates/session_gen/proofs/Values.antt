-- The generated session of each size as a value.
use Rattle.std.proofs.Common.{◌≡◌, ℕ, zero, suc, ◌+◌, ◌*◌, ◌/◌, ◌%◌, ◌^◌, ◌<◌, ◌≤◌, true, false, List, [], ◌∷◌, ◌++◌, map, length, IsTrue, is_none, refl, sym, ap, subst, ◌∙◌, append_assoc, arith, lit<, lit≤}
use Rattle.std.specs.Prelude.{slice_index_or, replicate}
use Rattle.std.specs.List.{AllByRecursion}
use Rattle.std.proofs.lemmas.Nat.{mod_below}
use Rattle.grove_sorts.specs.declared.ctor.Ctor.{Ctor}
use Rattle.grove_sorts.specs.declared.ctor.Ctor.TheVariants.{Plus, Ap, Lam, PVar, Var, Num, TNum, LitTrue, Fst}
use Rattle.grove_sorts.specs.declared.ident.Ident.{Ident}
use Rattle.grove_sorts.specs.declared.position.Position.{Position}
use Rattle.grove_sorts.specs.declared.position.Position.TheVariants.{Left, Right, Fun, Param, Annot, Body, Arg, Operand}
use Rattle.grove_sorts.specs.declared.version.Version.TheVariants.{One, Two}
use Rattle.grove_sorts.specs.Identifier.{IsIdentifier}
use Rattle.grove_sorts.specs.Plain.{plain_of}
use Rattle.grove_edits.specs.declared.edit.Edit.{Edit}
use Rattle.grove_edits.specs.declared.edit.EditKind.{EditKind}
use Rattle.grove_edits.specs.declared.edit.EditKind.TheVariants.{Insert, Delete}
use Rattle.grove_edits.specs.Edge.{IsEdgeOf, EdgeInRange}
use Rattle.grove_edits.specs.Edit.{edit_edge, edit_kind}
use Rattle.grove_edits.specs.Vertex.{literal}
use Rattle.grove_edits.proofs.WellFormed.{edit_made}
use Rattle.edit_text.specs.Line.{form}
use Rattle.session_script.specs.declared.item.Item.{Item}
use Rattle.session_script.specs.declared.item.Item.TheVariants as item
use Rattle.session_script.specs.declared.session.Session.{Session}
use Rattle.session_script.specs.Session.{item_lines, Spells}
use Rattle.session_script.proofs.OneSession.{one_session}
use Rattle.session_gen.specs.Generated.{spread, group_edits, load_line, generated_text}
use Rattle.session_gen.specs.Group.{edge_in, fits}
use Rattle.session_gen.specs.Items.{AreNamed, IsLoad, AreLoads, declared, acting, sending}
use Rattle.session_gen.specs.Parts.{HasParts, blocks}
use Rattle.session_gen.proofs.Groups.{edge_good}
use Rattle.session_gen.proofs.MoreLoads.{no_loads, more_loads, load_is}
use Rattle.session_gen.proofs.GeneratedSession.{spells_generated}

-- an identifier of one letter
abbrev letter : (c : ℕ) → IsIdentifier Two (c ∷ []) → Ident
letter c good = record { bytes = c ∷ replicate 63 0; len = 1; whole = refl; short = lit≤ tt; spelled = good; padded = refl }

abbrev names : List Ident
names = letter 97 refl ∷ letter 98 refl ∷ letter 99 refl ∷ []

-- ---- the edits of a group

abbrev IsNumber : ℕ → Type 0
IsNumber n = (1 ≤ n) × (n < 10)

edge_in_range : (group number source target : ℕ) (k l : Ctor) (p : Position) → group ≤ 20000 → IsNumber number → IsNumber source → IsNumber target → literal k < 2 ^ 64 → literal l < 2 ^ 64
    → EdgeInRange (edge_in group number source k p target l)
edge_in_range group number source target k l p few of_number of_source of_target of_k of_l =
    let n = of_number.1 in
    let s = of_source.1 in
    let t = of_target.1 in
    (omega arith, omega arith, (omega arith, omega arith, of_k), (omega arith, omega arith, of_l))

abbrev edit_in : EditKind → (group number source target : ℕ) (k : Ctor) (p : Position) (l : Ctor) → group ≤ 20000 → IsNumber number → IsNumber source → IsNumber target → IsTrue (fits k p l)
    → literal k < 2 ^ 64 → literal l < 2 ^ 64 → Edit
edit_in kind group number source target k p l few of_number of_source of_target shape of_k of_l =
    edit_made kind (edge_in group number source k p target l) (ap is_none (edge_good group number source target k l p of_source.0 of_target.0 shape))
    (edge_in_range group number source target k l p few of_number of_source of_target of_k of_l)

module _ (g : ℕ) (few : g ≤ 20000) where
  shown_small : g < 2 ^ 64
  shown_small = omega arith

  abbrev group_values : List Edit
  group_values =
      edit_in Insert g 1 1 2 Plus Left Ap few (lit≤ tt, lit< tt) (lit≤ tt, lit< tt) (lit≤ tt, lit< tt) refl (lit< tt) (lit< tt)
      ∷ edit_in Insert g 2 1 3 Plus Right (Num g) few (lit≤ tt, lit< tt) (lit≤ tt, lit< tt) (lit≤ tt, lit< tt) refl (lit< tt) shown_small
      ∷ edit_in Insert g 3 2 4 Ap Fun Lam few (lit≤ tt, lit< tt) (lit≤ tt, lit< tt) (lit≤ tt, lit< tt) refl (lit< tt) (lit< tt)
      ∷ edit_in Insert g 4 4 5 Lam Param (PVar (letter 120 refl)) few (lit≤ tt, lit< tt) (lit≤ tt, lit< tt) (lit≤ tt, lit< tt) refl (lit< tt) (lit< tt)
      ∷ edit_in Insert g 5 4 6 Lam Annot TNum few (lit≤ tt, lit< tt) (lit≤ tt, lit< tt) (lit≤ tt, lit< tt) refl (lit< tt) (lit< tt)
      ∷ edit_in Insert g 6 4 7 Lam Body (Var (letter 121 refl)) few (lit≤ tt, lit< tt) (lit≤ tt, lit< tt) (lit≤ tt, lit< tt) refl (lit< tt) (lit< tt)
      ∷ edit_in Insert g 7 2 3 Ap Arg (Num g) few (lit≤ tt, lit< tt) (lit≤ tt, lit< tt) (lit≤ tt, lit< tt) refl (lit< tt) shown_small
      ∷ edit_in Insert g 8 2 8 Ap Arg LitTrue few (lit≤ tt, lit< tt) (lit≤ tt, lit< tt) (lit≤ tt, lit< tt) refl (lit< tt) (lit< tt)
      ∷ edit_in Delete g 5 4 6 Lam Annot TNum few (lit≤ tt, lit< tt) (lit≤ tt, lit< tt) (lit≤ tt, lit< tt) refl (lit< tt) (lit< tt)
      ∷ edit_in Insert g 9 9 9 Fst Operand Fst few (lit≤ tt, lit< tt) (lit≤ tt, lit< tt) (lit≤ tt, lit< tt) refl (lit< tt) (lit< tt)
      ∷ []

  abbrev line_of : Edit → List ℕ
  line_of edit = form (edit_kind edit) (edit_edge edit)

  abbrev IsOfOne : Edit → Type 0
  IsOfOne edit = IsEdgeOf One (edit_edge edit)

  group_lines : map line_of group_values ≡ group_edits g
  unfolding plain_of
  group_lines = refl

  all_of_one : AllByRecursion IsOfOne group_values
  unfolding plain_of
  all_of_one = (
    (refl, refl, refl),
    ((refl, refl, refl), ((refl, refl, refl), ((refl, refl, refl), ((refl, refl, refl), ((refl, refl, refl), ((refl, refl, refl), ((refl, refl, refl), ((refl, refl, refl), ((refl, refl, refl), tt))))))))),
  )

-- an item of a list with its text, by its index
picked : (f : Edit → List ℕ) (P : Edit → Type 0) (edits : List Edit) (number : ℕ) → number < length edits → AllByRecursion P edits → (edit : Edit) × P edit × (f edit ≡ slice_index_or (map f edits) number [])
picked f P [] number within all = absurd (omega arith)
picked f P (edit ∷ edits) zero within all = (edit, all.0, refl)
picked f P (edit ∷ edits) (suc number) within all = picked f P edits number (omega arith) all.1

-- ---- loads

load_value : (number : ℕ) → number < 200000 → (load : Item) × ((replicas : List Ident) → AreNamed replicas → item_lines replicas load ≡ load_line number ∷ []) × IsLoad load
load_value number small =
    let few : number / 10 ≤ 20000 = omega arith in
    let one = picked (line_of (number / 10) few) (IsOfOne (number / 10) few) (group_values (number / 10) few) (number % 10) (mod_below number 10 (lit< tt)) (all_of_one (number / 10) few) in (
      item.Load ((spread number / 65536) % 3) one.0,
      load_is number (spread number) one.0 refl (one.2 ∙ ap (λ (lines : List (List ℕ)). slice_index_or lines (number % 10) []) (group_lines (number / 10) few)),
      (mod_below (spread number / 65536) 3 (lit< tt), one.1),
    )

load_values : (count : ℕ) → count ≤ 200000 → (loads : List Item) × AreLoads count loads
load_values zero few = ([], no_loads)
load_values (suc count) few =
    let before = load_values count (omega arith) in
    let next = load_value count (omega arith) in
    (before.0 ++ next.0 ∷ [], more_loads count before.0 next.0 before.1 next.1 next.2)

-- ---- sessions

abbrev session_of : List Item → Session
session_of loads = record { version = One; replicas = names; authors = declared; items = loads ++ blocks }

is_spelled : (count : ℕ) (loads : List Item) → AreLoads count loads → Spells (generated_text count) (session_of loads)
is_spelled count loads are =
    spells_generated names declared (loads ++ blocks) count loads (record { lines = acting }) (record { lines = sending false false }) (record { lines = sending true true }) refl refl are refl refl refl
    (sym (append_assoc (loads ++ item.Block (record { lines = acting }) ∷ []) (item.Block (record { lines = sending false false }) ∷ []) (item.Block (record { lines = sending true true }) ∷ [])
    ∙ append_assoc loads (item.Block (record { lines = acting }) ∷ []) (item.Block (record { lines = sending false false }) ∷ item.Block (record { lines = sending true true }) ∷ [])))

-- the session of a size has its parts
pub has_parts : (count : ℕ) (session : Session) → count ≤ 200000 → Spells (generated_text count) session → HasParts count session
has_parts count session few spelled =
    let values = load_values count few in
    subst (HasParts count) (one_session (generated_text count) (session_of values.0) session (is_spelled count values.0 values.1) spelled)
    (record { loads = values.0; named = refl; authors = refl; are_loads = values.1; items = refl })
