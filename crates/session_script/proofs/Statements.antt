-- The lines of statements: no two statements share one, and none has an LF in it.
use Rattle.std.proofs.Common.{nat_le, ◌≡◌, ◌≢◌, ℕ, ◌+◌, ◌*◌, ◌<◌, ◌≤◌, ◌^◌, List, [], ◌∷◌, ◌++◌, Bool, true, false, Option, Some, None, IsTrue, is_none, nat_eq, codes, decimal, get_or, refl, sym, ap, ◌∙◌, inl, inr, arith, lit<}
use Rattle.std.specs.List.{list_all}
use Rattle.std.proofs.lemmas.Bool.{false≢true}
use Rattle.std.proofs.lemmas.Bool.Decides.{nat_tests}
use Rattle.std.proofs.lemmas.Fmt.{decimal_injective}
use Rattle.text_parts.specs.Separated.{Lacks}
use Rattle.text_parts.proofs.Parts.{Lacks-append, first_part}
use Rattle.text_parts.proofs.Numbers.{Lacks-decimal, IsNumberText-decimal}
use Rattle.text_parts.specs.Number.{IsNumberText}
use Rattle.grove_names.specs.declared.name.Name.{Name}
use Rattle.grove_names.specs.Name.{InRange as NameInRange, name_text}
use Rattle.grove_names.proofs.Texts.{name_text_injective, Lacks-name_text}
use Rattle.grove_sorts.specs.declared.ctor.Ctor.{Ctor}
use Rattle.grove_sorts.specs.declared.ident.Ident.{Ident}
use Rattle.grove_sorts.specs.declared.position.Position.{Position}
use Rattle.grove_sorts.specs.Ident.{ident_bytes}
use Rattle.grove_sorts.specs.declared.version.Version.{Version}
use Rattle.grove_sorts.specs.declared.version.Version.TheVariants.{One, Two}
use Rattle.grove_sorts.specs.Ctor.{InRange as CtorInRange, ctor_text}
use Rattle.grove_sorts.specs.Position.{position_text}
use Rattle.grove_sorts.proofs.Truths.{both_true}
use Rattle.grove_sorts.proofs.Identifiers.{ident_exact, identifier_spelled}
use Rattle.grove_sorts.proofs.Texts.{ctor_text_injective, position_text_injective, Lacks-ident_bytes, Lacks-ctor_text, Lacks-position_text}
use Rattle.grove_edits.specs.declared.edge.Edge.{Edge}
use Rattle.grove_edits.specs.declared.edge.EdgeFault.{EdgeFault}
use Rattle.grove_edits.specs.declared.edit.Edit.{Edit}
use Rattle.grove_edits.specs.declared.edit.EditKind.{EditKind}
use Rattle.grove_edits.specs.Edge.{EdgeInRange, edge_fault}
use Rattle.grove_edits.specs.Edit.{edit_edge, edit_kind}
use Rattle.grove_edits.proofs.Unique.{edit_from_fields}
use Rattle.edit_text.specs.Line.{spaced, form}
use Rattle.edit_text.proofs.Lines.{Lacks-form, form_injective, same_name, same_position, all_in_two}
use Rattle.grove_edits.specs.declared.action.Place.{Place}
use Rattle.grove_edits.specs.declared.action.Action.{Action}
use Rattle.grove_edits.specs.declared.action.Action.TheVariants.{Construct, Wrap, Become, Delete, Cut, Relocate, Restore}
use Rattle.session_script.specs.declared.statement.SendText.{SendText}
use Rattle.session_script.specs.declared.statement.Statement.{Statement}
use Rattle.session_script.specs.declared.statement.Statement.TheVariants.{Session, Replica, Author, Load, Act, Send}
use Rattle.session_script.specs.Action.{action_parts, action_line, IsAuthor, ActionInRange, IsActionOf}
use Rattle.session_script.specs.Statement.{head_line, direction, repetition, send_terms, load_line, send_line, statement_text, InRange, IsStatementOf, Says, LoadsBadEdge, SaysNothing}

-- ---- parts with a space behind them

-- an author's number fits a number
pub author_fits : (author : ℕ) → IsAuthor author → author < 2 ^ 64
author_fits author h = omega (arith, h)

-- texts that begin with a number and a space, and are one, have one number and one rest
pub same_number : (m n : ℕ) (x y : List ℕ) → m < 2 ^ 64 → n < 2 ^ 64 → decimal m ++ 32 ∷ x ≡ decimal n ++ 32 ∷ y → (m ≡ n) × (x ≡ y)
same_number m n x y small_m small_n same =
    let parts = first_part 32 (decimal m) (decimal n) x y (Lacks-decimal 32 m small_m (inl (omega arith))) (Lacks-decimal 32 n small_n (inl (omega arith))) same in
    (decimal_injective m n small_m small_n parts.0, parts.1)

-- the same of an identifier and a space
pub same_ident : (a b : Ident) (x y : List ℕ) → ident_bytes a ++ 32 ∷ x ≡ ident_bytes b ++ 32 ∷ y → (a ≡ b) × (x ≡ y)
same_ident a b x y same =
    let parts = first_part 32 (ident_bytes a) (ident_bytes b) x y (Lacks-ident_bytes 32 a (omega arith)) (Lacks-ident_bytes 32 b (omega arith)) same in
    (ident_exact a b parts.0, parts.1)

-- ---- actions

-- the first three bytes of a text, by which it is known
abbrev pub text_key : List ℕ → ℕ
text_key text = get_or text 0 0 * 65536 + get_or text 1 0 * 256 + get_or text 2 0

pub place_from_fields : (a b : Place) → a.name ≡ b.name → a.position ≡ b.position → a ≡ b
place_from_fields a b name position =
    let with_name : a ≡ record { name = b.name; position = a.position } = ap (λ (n : Name). record { name = n; position = a.position }) name in
    with_name ∙ ap (λ (p : Position). record { name = b.name; position = p }) position

-- a place and what stands behind it
same_place : (a b : Place) (x y : List ℕ) → NameInRange a.name → NameInRange b.name
    → name_text a.name ++ 32 ∷ (position_text a.position ++ 32 ∷ x) ≡ name_text b.name ++ 32 ∷ (position_text b.position ++ 32 ∷ y) → (a ≡ b) × (x ≡ y)
same_place a b x y in_a in_b same =
    let name = same_name a.name b.name (position_text a.position ++ 32 ∷ x) (position_text b.position ++ 32 ∷ y) in_a in_b same in
    let position = same_position a.position b.position x y name.1 in
    (place_from_fields a b name.0 position.0, position.1)

-- a place at the end
last_place : (a b : Place) → NameInRange a.name → NameInRange b.name
    → name_text a.name ++ 32 ∷ position_text a.position ≡ name_text b.name ++ 32 ∷ position_text b.position → a ≡ b
last_place a b in_a in_b same =
    let name = same_name a.name b.name (position_text a.position) (position_text b.position) in_a in_b same in
    place_from_fields a b name.0 (position_text_injective a.position b.position name.1)

-- a place and a constructor
same_place_ctor : (p q : Place) (k l : Ctor) → NameInRange p.name → NameInRange q.name → CtorInRange k → CtorInRange l
    → name_text p.name ++ 32 ∷ (position_text p.position ++ 32 ∷ ctor_text k) ≡ name_text q.name ++ 32 ∷ (position_text q.position ++ 32 ∷ ctor_text l) → (p ≡ q) × (k ≡ l)
same_place_ctor p q k l in_p in_q in_k in_l same =
    let place = same_place p q (ctor_text k) (ctor_text l) in_p in_q same in
    (place.0, ctor_text_injective k l in_k in_l place.1)

-- a name and a place
same_name_place : (m n : Name) (p q : Place) → NameInRange m → NameInRange n → NameInRange p.name → NameInRange q.name
    → name_text m ++ 32 ∷ (name_text p.name ++ 32 ∷ position_text p.position) ≡ name_text n ++ 32 ∷ (name_text q.name ++ 32 ∷ position_text q.position) → (m ≡ n) × (p ≡ q)
same_name_place m n p q in_m in_n in_p in_q same =
    let name = same_name m n (name_text p.name ++ 32 ∷ position_text p.position) (name_text q.name ++ 32 ∷ position_text q.position) in_m in_n same in
    (name.0, last_place p q in_p in_q name.1)

-- an action is the text of its parts
pub action_injective : (a b : Action) → ActionInRange a → ActionInRange b → spaced (action_parts a) ≡ spaced (action_parts b) → a ≡ b
action_injective (Construct p k) (Construct q l) i j e =
    let parts = same_place_ctor p q k l i.0 j.0 i.1 j.1 cc in ap (λ r. Construct r k) parts.0 ∙ ap (Construct q) parts.1
action_injective (Wrap p k) (Wrap q l) i j e =
    let parts = same_place_ctor p q k l i.0 j.0 i.1 j.1 cc in ap (λ r. Wrap r k) parts.0 ∙ ap (Wrap q) parts.1
action_injective (Become p k) (Become q l) i j e =
    let parts = same_place_ctor p q k l i.0 j.0 i.1 j.1 cc in ap (λ r. Become r k) parts.0 ∙ ap (Become q) parts.1
action_injective (Delete p) (Delete q) i j e = ap Delete (last_place p q i j cc)
action_injective (Cut m) (Cut n) i j e = ap Cut (name_text_injective m n i j cc)
action_injective (Relocate m p) (Relocate n q) i j e =
    let parts = same_name_place m n p q i.0 j.0 i.1 j.1 cc in ap (λ r. Relocate r p) parts.0 ∙ ap (Relocate n) parts.1
action_injective (Restore m p) (Restore n q) i j e =
    let parts = same_name_place m n p q i.0 j.0 i.1 j.1 cc in ap (λ r. Restore r p) parts.0 ∙ ap (Restore n) parts.1
action_injective _ b i j e = absurd (false≢true (ap (λ text. nat_eq (text_key text) (text_key (spaced (action_parts b)))) e))

-- ---- statements

-- no number is a word that begins with a letter
first_digit : (digits rest : List ℕ) → IsNumberText digits → get_or (digits ++ rest) 0 0 ≤ 57
first_digit [] rest h = absurd h
first_digit (d ∷ ds) rest h = elim h [ inl zero_alone ↦ omega arith | inr longer ↦ omega arith ]

pub number_or_word : (n : ℕ) (rest text : List ℕ) → IsAuthor n → decimal n ++ rest ≡ text → 57 < get_or text 0 0 → ⊥
number_or_word n rest text author same letter =
    omega (arith, first_digit (decimal n) rest (IsNumberText-decimal n (author_fits n author)), ap (λ (t : List ℕ). get_or t 0 0) same)

direction_injective : (a b : Bool) (x y : List ℕ) → direction a ++ 32 ∷ x ≡ direction b ++ 32 ∷ y → (a ≡ b) × (x ≡ y)
direction_injective true true x y same = (refl, cc)
direction_injective false false x y same = (refl, cc)
direction_injective _ b x y same = absurd (false≢true (ap (λ text. nat_eq (text_key text) (text_key (direction b ++ 32 ∷ y))) same))

repetition_injective : (a b : Bool) (x y : List ℕ) → repetition a ++ 32 ∷ x ≡ repetition b ++ 32 ∷ y → (a ≡ b) × (x ≡ y)
repetition_injective true true x y same = (refl, cc)
repetition_injective false false x y same = (refl, cc)
repetition_injective _ b x y same = absurd (false≢true (ap (λ text. nat_eq (text_key text) (text_key (repetition b ++ 32 ∷ y))) same))

-- the numbers of a `send` line fit
abbrev SendInRange : SendText → Type 0
SendInRange send = (send.skip < 2 ^ 64) × (send.take < 2 ^ 64) × (send.cut < 2 ^ 64)

abbrev made_send : Ident → Ident → ℕ → ℕ → Bool → Bool → ℕ → SendText
made_send from to skip take reverse twice cut = record { from = from; to = to; skip = skip; take = take; reverse = reverse; twice = twice; cut = cut }

pub send_from_fields : (a b : SendText) → a.from ≡ b.from → a.to ≡ b.to → a.skip ≡ b.skip → a.take ≡ b.take → a.reverse ≡ b.reverse → a.twice ≡ b.twice → a.cut ≡ b.cut → a ≡ b
send_from_fields a b from to skip take reverse twice cut =
    ap (λ (x : Ident). made_send x a.to a.skip a.take a.reverse a.twice a.cut) from
    ∙ ap (λ (x : Ident). made_send b.from x a.skip a.take a.reverse a.twice a.cut) to
    ∙ ap (λ (n : ℕ). made_send b.from b.to n a.take a.reverse a.twice a.cut) skip
    ∙ ap (λ (n : ℕ). made_send b.from b.to b.skip n a.reverse a.twice a.cut) take
    ∙ ap (λ (c : Bool). made_send b.from b.to b.skip b.take c a.twice a.cut) reverse
    ∙ ap (λ (c : Bool). made_send b.from b.to b.skip b.take b.reverse c a.cut) twice
    ∙ ap (λ (n : ℕ). made_send b.from b.to b.skip b.take b.reverse b.twice n) cut

-- the text of a `send` line behind its first word
abbrev send_rest : SendText → List ℕ
send_rest send = ident_bytes send.from ++ 32 ∷ (ident_bytes send.to ++ 32 ∷ spaced (send_terms send.skip send.take send.reverse send.twice send.cut))

send_injective : (a b : SendText) → SendInRange a → SendInRange b → send_rest a ≡ send_rest b → a ≡ b
send_injective a b i j e =
    let from = same_ident a.from b.from _ _ e in
    let to = same_ident a.to b.to _ _ from.1 in
    let skip = same_number a.skip b.skip (spaced (codes "take" ∷ decimal a.take ∷ direction a.reverse ∷ repetition a.twice ∷ codes "cut" ∷ decimal a.cut ∷ []))
    (spaced (codes "take" ∷ decimal b.take ∷ direction b.reverse ∷ repetition b.twice ∷ codes "cut" ∷ decimal b.cut ∷ [])) i.0 j.0 (let f = to.1 in cc) in
    let take = same_number a.take b.take (direction a.reverse ++ 32 ∷ (repetition a.twice ++ 32 ∷ (codes "cut" ++ 32 ∷ decimal a.cut)))
    (direction b.reverse ++ 32 ∷ (repetition b.twice ++ 32 ∷ (codes "cut" ++ 32 ∷ decimal b.cut))) i.1 j.1 (let f = skip.1 in cc) in
    let reverse = direction_injective a.reverse b.reverse (repetition a.twice ++ 32 ∷ (codes "cut" ++ 32 ∷ decimal a.cut)) (repetition b.twice ++ 32 ∷ (codes "cut" ++ 32 ∷ decimal b.cut)) take.1 in
    let twice = repetition_injective a.twice b.twice (codes "cut" ++ 32 ∷ decimal a.cut) (codes "cut" ++ 32 ∷ decimal b.cut) reverse.1 in
    let cut = decimal_injective a.cut b.cut i.2 j.2 (let f = twice.1 in cc) in
    send_from_fields a b from.0 to.0 skip.0 take.0 reverse.0 twice.0 cut

-- a load is its replica and its edit
load_injective : (r s : Ident) (k l : EditKind) (a b : Edge) → EdgeInRange a → EdgeInRange b → load_line (ident_bytes r) k a ≡ load_line (ident_bytes s) l b
    → (r ≡ s) × (k ≡ l) × (a ≡ b)
load_injective r s k l a b i j e =
    let parts = same_ident r s (form k a) (form l b) cc in
    let same = form_injective k l a b i j parts.1 in
    (parts.0, same.0, same.1)

-- a first line tells one version
pub head_line_injective : (v w : Version) → head_line v ≡ head_line w → v ≡ w
head_line_injective One One e = refl
head_line_injective One Two e = absurd cc
head_line_injective Two One e = absurd cc
head_line_injective Two Two e = refl

-- one line has one key
one_key : (a b : Statement) → statement_text a ≡ statement_text b → nat_eq (text_key (statement_text a)) (text_key (statement_text a)) ≡ nat_eq (text_key (statement_text a)) (text_key (statement_text b))
one_key a b e = ap (λ text. nat_eq (text_key (statement_text a)) (text_key text)) e

-- a statement is its line
pub statement_injective : (a b : Statement) → InRange a → InRange b → statement_text a ≡ statement_text b → a ≡ b
statement_injective (Session v) (Session w) i j e = ap Session (head_line_injective v w e)
statement_injective (Replica r) (Replica s) i j e = ap Replica (ident_exact r s cc)
statement_injective (Author m r) (Author n s) i j e =
    let parts = same_number m n (ident_bytes r) (ident_bytes s) (author_fits m i) (author_fits n j) cc in
    ap (λ k. Author k r) parts.0 ∙ ap (Author n) (ident_exact r s parts.1)
statement_injective (Load r a) (Load s b) i j e =
    let parts = load_injective r s (edit_kind a) (edit_kind b) (edit_edge a) (edit_edge b) a.in_range b.in_range e in
    ap (λ q. Load q a) parts.0 ∙ ap (Load s) (edit_from_fields a b parts.1 parts.2)
statement_injective (Act m a) (Act n b) i j e =
    let parts = same_number m n (spaced (action_parts a)) (spaced (action_parts b)) (author_fits m i.0) (author_fits n j.0) e in
    ap (λ k. Act k a) parts.0 ∙ ap (Act n) (action_injective a b i.1 j.1 parts.1)
statement_injective (Send a) (Send b) i j e = ap Send (send_injective a b i j cc)
statement_injective (Act m a) b i j e = absurd (number_or_word m (32 ∷ spaced (action_parts a)) (statement_text b) i.0 e (lit< tt))
statement_injective a (Act n b) i j e = absurd (number_or_word n (32 ∷ spaced (action_parts b)) (statement_text a) j.0 (sym e) (lit< tt))
statement_injective a b i j e = let key = one_key a b e in cc

-- a line says one thing, in whichever versions
pub one_statement : (v w : Version) (line : List ℕ) (a b : Statement) → Says v line a → Says w line b → a ≡ b
one_statement v w line a b of_a of_b = statement_injective a b of_a.in_range of_b.in_range (sym of_a.text ∙ of_b.text)

-- ---- version two knows all

pub action_in_two : (a : Action) → IsActionOf Two a
action_in_two (Construct p k) = (refl, refl)
action_in_two (Wrap p k) = (refl, refl)
action_in_two (Become p k) = (refl, refl)
action_in_two (Cut m) = tt
action_in_two _ = refl

statement_in_two : (a : Statement) → IsStatementOf Two a
statement_in_two (Replica r) = identifier_spelled r
statement_in_two (Author n r) = identifier_spelled r
statement_in_two (Load r edit) = (identifier_spelled r, all_in_two (edit_edge edit))
statement_in_two (Act n a) = action_in_two a
statement_in_two (Send send) = (identifier_spelled send.from, identifier_spelled send.to)
statement_in_two _ = tt

pub kept_in_two : (line : List ℕ) (statement : Statement) → Says One line statement → Says Two line statement
kept_in_two line statement says = record { in_range = says.in_range; of_version = statement_in_two statement; text = says.text }

-- an author's line says what the author does
pub author_line : (author : ℕ) (action : Action) → IsAuthor author → ActionInRange action → Says Two (action_line author action) (Act author action)
author_line author action is in_range = record { in_range = (is, in_range); of_version = action_in_two action; text = refl }

-- ---- lines that say nothing

none_is_not_some : (o : Option EdgeFault) (fault : EdgeFault) → IsTrue (is_none o) → o ≡ Some fault → ⊥
none_is_not_some None fault none is = cc
none_is_not_some (Some other) fault none is = false≢true none

pub not_nothing : (version : Version) (line : List ℕ) (statement : Statement) → Says version line statement → SaysNothing version line → ⊥
not_nothing version line statement says nothing = nothing.no_statement statement says.in_range says.of_version says.text

-- a load of one replica and edge, where the edge of the edit is well formed
no_bad_load : (r s : Ident) (edit : Edit) (kind : EditKind) (edge : Edge) (fault : EdgeFault) → EdgeInRange edge → edge_fault edge ≡ Some fault
    → load_line (ident_bytes r) (edit_kind edit) (edit_edge edit) ≡ load_line (ident_bytes s) kind edge → ⊥
no_bad_load r s edit kind edge fault in_range has same =
    let parts = load_injective r s (edit_kind edit) kind (edit_edge edit) edge edit.in_range in_range same in
    none_is_not_some (edge_fault (edit_edge edit)) fault edit.well_formed (ap edge_fault parts.2 ∙ has)

-- no other statement has the line of a load
other_than_load : (a : Statement) (r : Ident) (kind : EditKind) (edge : Edge) (fault : EdgeFault) → InRange a → EdgeInRange edge → edge_fault edge ≡ Some fault
    → statement_text a ≡ load_line (ident_bytes r) kind edge → ⊥
other_than_load (Load s edit) r kind edge fault i in_range has same = no_bad_load s r edit kind edge fault in_range has same
other_than_load (Act n action) r kind edge fault i in_range has same = number_or_word n (32 ∷ spaced (action_parts action)) (load_line (ident_bytes r) kind edge) i.0 same (lit< tt)
other_than_load a r kind edge fault i in_range has same = false≢true (ap (λ text. nat_eq (text_key text) (text_key (codes "load"))) same)

pub no_bad_edge : (version : Version) (line : List ℕ) (statement : Statement) (fault : EdgeFault) → Says version line statement → LoadsBadEdge version line fault → ⊥
no_bad_edge version line statement fault says bad =
    other_than_load statement bad.replica bad.kind bad.edge fault says.in_range bad.in_range bad.has_fault (sym says.text ∙ bad.text)

pub bad_edge_or_nothing : (version : Version) (line : List ℕ) (fault : EdgeFault) → LoadsBadEdge version line fault → SaysNothing version line → ⊥
bad_edge_or_nothing version line fault bad nothing = nothing.no_load bad.replica bad.kind bad.edge bad.in_range bad.replica_of_version bad.edge_of_version bad.text

some_injective : (f g : EdgeFault) → Some f ≡ Some g → f ≡ g
some_injective f g e = cc

pub one_bad_edge : (version : Version) (line : List ℕ) (f g : EdgeFault) → LoadsBadEdge version line f → LoadsBadEdge version line g → f ≡ g
one_bad_edge version line f g a b =
    let parts = load_injective a.replica b.replica a.kind b.kind a.edge b.edge a.in_range b.in_range (sym a.text ∙ b.text) in
    some_injective f g (sym a.has_fault ∙ ap edge_fault parts.2 ∙ b.has_fault)

-- ---- no LF in a line

Lacks-part : (part rest : List ℕ) → Lacks 10 part → Lacks 10 rest → Lacks 10 (part ++ 32 ∷ rest)
Lacks-part part rest none more = Lacks-append 10 part (32 ∷ rest) none ((λ e. absurd (omega arith)), more)

Lacks-number : (n : ℕ) → n < 2 ^ 64 → Lacks 10 (decimal n)
Lacks-number n small = Lacks-decimal 10 n small (inl (omega arith))

Lacks-ident : (x : Ident) → Lacks 10 (ident_bytes x)
Lacks-ident x = Lacks-ident_bytes 10 x (omega arith)

Lacks-name : (name : Name) → NameInRange name → Lacks 10 (name_text name)
Lacks-name name in_range = Lacks-name_text 10 name in_range (λ e. absurd (omega arith)) (inl (omega arith))

-- every byte of a text is at least a space
abbrev are_above : List ℕ → Bool
are_above = list_all (nat_le 32)

Lacks-above : (bytes : List ℕ) → are_above bytes ≡ true → Lacks 10 bytes
Lacks-above [] above = tt
Lacks-above (byte ∷ bytes) above =
    let parts = both_true (nat_le 32 byte) (are_above bytes) above in
    let apart : byte ≢ 10 = λ e. absurd (grind (arith, nat_tests)) in
    (apart, Lacks-above bytes parts.1)

Lacks-place : (place : Place) → NameInRange place.name → Lacks 10 (name_text place.name ++ 32 ∷ position_text place.position)
Lacks-place place in_range =
    Lacks-part (name_text place.name) (position_text place.position) (Lacks-name place.name in_range) (Lacks-position_text 10 place.position (omega arith))

Lacks-place_ctor : (place : Place) (ctor : Ctor) → NameInRange place.name → CtorInRange ctor
    → Lacks 10 (name_text place.name ++ 32 ∷ (position_text place.position ++ 32 ∷ ctor_text ctor))
Lacks-place_ctor place ctor in_name in_ctor =
    Lacks-part (name_text place.name) (position_text place.position ++ 32 ∷ ctor_text ctor) (Lacks-name place.name in_name)
    (Lacks-part (position_text place.position) (ctor_text ctor) (Lacks-position_text 10 place.position (omega arith)) (Lacks-ctor_text 10 ctor (omega arith) in_ctor))

Lacks-name_place : (name : Name) (place : Place) → NameInRange name → NameInRange place.name
    → Lacks 10 (name_text name ++ 32 ∷ (name_text place.name ++ 32 ∷ position_text place.position))
Lacks-name_place name place in_name in_place =
    Lacks-part (name_text name) (name_text place.name ++ 32 ∷ position_text place.position) (Lacks-name name in_name) (Lacks-place place in_place)

Lacks-action : (a : Action) → ActionInRange a → Lacks 10 (spaced (action_parts a))
Lacks-action (Construct p k) i = Lacks-part (codes "construct") _ (Lacks-above (codes "construct") refl) (Lacks-place_ctor p k i.0 i.1)
Lacks-action (Wrap p k) i = Lacks-part (codes "wrap") _ (Lacks-above (codes "wrap") refl) (Lacks-place_ctor p k i.0 i.1)
Lacks-action (Become p k) i = Lacks-part (codes "become") _ (Lacks-above (codes "become") refl) (Lacks-place_ctor p k i.0 i.1)
Lacks-action (Delete p) i = Lacks-part (codes "delete") _ (Lacks-above (codes "delete") refl) (Lacks-place p i)
Lacks-action (Cut m) i = Lacks-part (codes "cut") (name_text m) (Lacks-above (codes "cut") refl) (Lacks-name m i)
Lacks-action (Relocate m p) i = Lacks-part (codes "relocate") _ (Lacks-above (codes "relocate") refl) (Lacks-name_place m p i.0 i.1)
Lacks-action (Restore m p) i = Lacks-part (codes "restore") _ (Lacks-above (codes "restore") refl) (Lacks-name_place m p i.0 i.1)

Lacks-direction : (reverse : Bool) → Lacks 10 (direction reverse)
Lacks-direction true = Lacks-above (direction true) refl
Lacks-direction false = Lacks-above (direction false) refl

Lacks-repetition : (twice : Bool) → Lacks 10 (repetition twice)
Lacks-repetition true = Lacks-above (repetition true) refl
Lacks-repetition false = Lacks-above (repetition false) refl

Lacks-send : (send : SendText) → SendInRange send → Lacks 10 (send_line (ident_bytes send.from) (ident_bytes send.to) send.skip send.take send.reverse send.twice send.cut)
Lacks-send send i =
    Lacks-part (codes "send") _ (Lacks-above (codes "send") refl)
    (Lacks-part (ident_bytes send.from) _ (Lacks-ident send.from)
    (Lacks-part (ident_bytes send.to) _ (Lacks-ident send.to)
    (Lacks-part (codes "skip") _ (Lacks-above (codes "skip") refl)
    (Lacks-part (decimal send.skip) _ (Lacks-number send.skip i.0)
    (Lacks-part (codes "take") _ (Lacks-above (codes "take") refl)
    (Lacks-part (decimal send.take) _ (Lacks-number send.take i.1)
    (Lacks-part (direction send.reverse) _ (Lacks-direction send.reverse)
    (Lacks-part (repetition send.twice) _ (Lacks-repetition send.twice)
    (Lacks-part (codes "cut") _ (Lacks-above (codes "cut") refl) (Lacks-number send.cut i.2))))))))))

-- no LF stands in the line of a statement
pub Lacks-statement : (a : Statement) → InRange a → Lacks 10 (statement_text a)
Lacks-statement (Session One) i = Lacks-above (head_line One) refl
Lacks-statement (Session Two) i = Lacks-above (head_line Two) refl
Lacks-statement (Replica r) i = Lacks-part (codes "replica") (ident_bytes r) (Lacks-above (codes "replica") refl) (Lacks-ident r)
Lacks-statement (Author n r) i =
    Lacks-part (codes "author") _ (Lacks-above (codes "author") refl) (Lacks-part (decimal n) (ident_bytes r) (Lacks-number n (author_fits n i)) (Lacks-ident r))
Lacks-statement (Load r edit) i =
    Lacks-part (codes "load") _ (Lacks-above (codes "load") refl)
    (Lacks-part (ident_bytes r) (form (edit_kind edit) (edit_edge edit)) (Lacks-ident r) (Lacks-form (edit_kind edit) (edit_edge edit) edit.in_range))
Lacks-statement (Act n a) i = Lacks-part (decimal n) (spaced (action_parts a)) (Lacks-number n (author_fits n i.0)) (Lacks-action a i.1)
Lacks-statement (Send send) i = Lacks-send send i
Lacks-statement a i = Lacks-above (statement_text a) refl
