-- The lines of statements after which a session may end are the text of a session.
use Rattle.std.proofs.Common.{◌≡◌, ℕ, suc, Bool, true, false, ◌&&◌, ◌||◌, List, [], ◌∷◌, ◌++◌, Some, None, map, slice_get, refl, sym, ap, subst, ◌∙◌, append_assoc, append-nil}
use Rattle.std.specs.List.{list_any, flat_map, AllByRecursion}
use Rattle.grove_sorts.specs.declared.ident.Ident.{Ident}
use Rattle.grove_sorts.specs.declared.version.Version.{Version}
use Rattle.grove_sorts.proofs.Truths.{both_true}
use Rattle.session_script.specs.declared.author.Declared.{Declared}
use Rattle.session_script.specs.declared.item.Block as blocks
use Rattle.session_script.specs.declared.item.Item.{Item}
use Rattle.session_script.specs.declared.item.Item.TheVariants as item
use Rattle.session_script.specs.declared.line.Line.{Line}
use Rattle.session_script.specs.declared.line.Line.TheVariants as line
use Rattle.session_script.specs.declared.session.Session as sessions
use Rattle.session_script.specs.declared.statement.Statement.{Statement}
use Rattle.session_script.specs.declared.statement.Statement.TheVariants.{Author, Load, End, Act, Send}
use Rattle.session_script.specs.Statement.{statement_text, InRange, IsStatementOf}
use Rattle.session_script.specs.Order.{version_of, is_same_ident, GoOn}
use Rattle.session_script.specs.Script.{AreKnown, IsWhole}
use Rattle.session_script.specs.Session.{Spells}
use Rattle.session_script.specs.View.{View, version_after, seen, start, after, view, declared_at, fault_at}
use Rattle.session_script.specs.Reading.{numbered, AuthorsAfter, ItemsAfter, LinesAfter}
use Rattle.session_script.proofs.Views.{GoesOn, fault_is, ended_is, view-push, version_push}
use Rattle.session_script.proofs.Told.{ended_lines, told, told_text}
use Rattle.session_script.proofs.Good.{told_good}
use Rattle.session_script.proofs.Names.{same_ident_exact}
use Rattle.session_script.proofs.Kept.{Fine, fine_at, HasLines, lines_of_nothing, lines_more, IsWithin, nothing_is_within, within_more, IsKnown, nothing_is_known, known_more, whole_session}

-- ---- one more statement can be taken

-- a declared replica has a number
abbrev HasNumber : List Ident → Ident → Type 0
HasNumber replicas replica = (number : ℕ) × (slice_get replicas number ≡ Some replica)

number_by : (first replica : Ident) (replicas : List Ident) (same : Bool) → is_same_ident replica first ≡ same → (list_any (is_same_ident replica) replicas ≡ true → HasNumber replicas replica)
    → (same || list_any (is_same_ident replica) replicas) ≡ true → HasNumber (first ∷ replicas) replica
number_by first replica replicas true is rest h = (0, ap Some (sym (same_ident_exact replica first is)))
number_by first replica replicas false is rest h = let more = rest h in (suc more.0, more.1)

has_number : (replicas : List Ident) (replica : Ident) → list_any (is_same_ident replica) replicas ≡ true → HasNumber replicas replica
has_number [] replica h = absurd cc
has_number (first ∷ replicas) replica h = number_by first replica replicas (is_same_ident replica first) refl (has_number replicas replica) h

authors_after : (s : Statement) (v : View) (old : List Declared) → Fine v s → (new : List Declared) × AuthorsAfter v.replicas old s new
authors_after (Author author replica) v old fine =
    let found = has_number v.replicas replica (both_true (declared_at v replica) true fine.declared).0 in
    (old ++ record { author = author; replica = found.0 } ∷ [], (found.0, found.1, refl))
authors_after _ v old fine = (old, refl)

items_after : (s : Statement) (v : View) (old : List Item) (lines : List Line) → Fine v s → (new : List Item) × ItemsAfter v.replicas old lines s new
items_after (Load replica edit) v old lines fine =
    let found = has_number v.replicas replica (both_true (declared_at v replica) true fine.declared).0 in
    (old ++ item.Load found.0 edit ∷ [], (found.0, found.1, refl))
items_after End v old lines fine =
    let block : blocks.Block = record { lines = lines } in (old ++ item.Block block ∷ [], (block, refl, refl))
items_after _ v old lines fine = (_, refl)

lines_after : (s : Statement) (v : View) (old : List Line) → Fine v s → (new : List Line) × LinesAfter v.replicas old s new
lines_after (Act author action) v old fine = (old ++ line.Author author action ∷ [], refl)
lines_after (Send send) v old fine =
    let known = both_true (declared_at v send.from) (declared_at v send.to && true) fine.declared in
    let from = has_number v.replicas send.from known.0 in
    let to = has_number v.replicas send.to (both_true (declared_at v send.to) true known.1).0 in
    (old ++ line.Send (numbered from.0 to.0 send) ∷ [], (from.0, to.0, from.1, to.1, refl))
lines_after End v old fine = ([], refl)
lines_after _ v old fine = (old, refl)

-- ---- and all of them

-- the parts of a session that lines were read of
record Parts (texts : List (List ℕ)) (v : View) : Type 0 where
  authors : List Declared
  items : List Item
  lines : List Line
  has_lines : HasLines texts v authors items lines
  within : IsWithin v authors items lines
  known : IsKnown v items lines

one_more : (texts : List (List ℕ)) (v : View) (s : Statement) → Parts texts v → InRange s → IsStatementOf v.version s → fault_at v s ≡ None → Parts (texts ++ statement_text s ∷ []) (seen v s)
one_more texts v s parts in_range of none =
    let fine = fine_at v s none in
    let authors = authors_after s v parts.authors fine in
    let items = items_after s v parts.items parts.lines fine in
    let lines = lines_after s v parts.lines fine in record {
      authors = authors.0;
      items = items.0;
      lines = lines.0;
      has_lines = lines_more s texts v parts.authors authors.0 parts.items items.0 parts.lines lines.0 parts.has_lines fine authors.1 items.1 lines.1;
      within = within_more s texts v parts.authors authors.0 parts.items items.0 parts.lines lines.0 parts.has_lines fine in_range authors.1 items.1 lines.1 parts.within;
      known = known_more s texts v parts.authors authors.0 parts.items items.0 parts.lines lines.0 parts.has_lines fine of authors.1 items.1 lines.1 parts.known;
    }

-- each of the statements is of the version that the view of those before it has
abbrev AreKnownAt : View → List Statement → Type 0
AreKnownAt v [] = Unit {0}
AreKnownAt v (s ∷ ss) = IsStatementOf v.version s × AreKnownAt (seen v s) ss

known-view : (before ss : List Statement) → version_of before ≡ (view before).version → GoOn before ss → AreKnown before ss → AreKnownAt (view before) ss
known-view before [] same h k = tt
known-view before (s ∷ ss) same h k =
    let pushed : version_of (before ++ s ∷ []) ≡ (view (before ++ s ∷ [])).version =
    version_push before s h.0 ∙ ap (λ (v : Version). version_after v s) same ∙ ap (λ (v : View). v.version) (sym (view-push before s)) in (
      subst (λ (v : Version). IsStatementOf v s) same k.0,
      subst (λ (v : View). AreKnownAt v ss) (view-push before s) (known-view (before ++ s ∷ []) ss pushed h.1 k.1),
    )

all_more : (texts : List (List ℕ)) (v : View) (ss : List Statement) → Parts texts v → AllByRecursion InRange ss → AreKnownAt v ss → GoesOn v ss → Parts (texts ++ map statement_text ss) (after v ss)
all_more texts v [] parts in_range known go = subst (λ (ts : List (List ℕ)). Parts ts v) (sym (append-nil texts)) parts
all_more texts v (s ∷ ss) parts in_range known go =
    subst (λ (ts : List (List ℕ)). Parts ts (after (seen v s) ss)) (append_assoc texts (statement_text s ∷ []) (map statement_text ss))
    (all_more (texts ++ statement_text s ∷ []) (seen v s) ss (one_more texts v s parts in_range.0 known.0 go.0) in_range.1 known.1 go.1)

view-GoOn : (before ss : List Statement) → GoOn before ss → GoesOn (view before) ss
view-GoOn before [] h = tt
view-GoOn before (s ∷ ss) h =
    (sym (fault_is before s) ∙ h.0, subst (λ (v : View). GoesOn v ss) (view-push before s) (view-GoOn (before ++ s ∷ []) ss h.1))

-- a whole text spells a session
pub spells_one : (text : List ℕ) → IsWhole text → (session : sessions.Session) × Spells text session
spells_one text h =
    let ss = h.statements in
    let nothing : Parts [] start = record { authors = []; items = []; lines = []; has_lines = lines_of_nothing; within = nothing_is_within; known = nothing_is_known } in
    let parts = all_more [] start ss nothing h.begin.in_range (known-view [] ss refl h.begin.good h.begin.of_version) (view-GoOn [] ss h.begin.good) in
    let session : sessions.Session = record { version = (view ss).version; replicas = (view ss).replicas; authors = parts.authors; items = parts.items } in
    let whole = whole_session session (map statement_text ss) (view ss) parts.lines refl refl (sym (ended_is ss) ∙ h.ended) parts.has_lines parts.within parts.known in
    (session, record { is_session = whole.0; spelled = h.parts ∙ ended_lines ss ∙ ap (flat_map (λ (t : List ℕ). t ++ 10 ∷ [])) whole.1 })

-- and the text of a session is whole
pub is_whole : (text : List ℕ) (session : sessions.Session) → Spells text session → IsWhole text
is_whole text session h =
    let ss = told session h.is_session in
    let good = told_good session ss.0 h.is_session ss.1 in
    record { statements = ss.0; begin = good.0; ended = good.1; parts = h.spelled ∙ sym (told_text session ss.0 ss.1) }
