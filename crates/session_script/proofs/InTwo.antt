-- What a text spells in version one it spells in version two, behind the first line of that version.
use Rattle.std.proofs.Common.{◌≡◌, ℕ, List, [], ◌∷◌, ◌++◌, drop, map, ap, ◌∙◌}
use Rattle.std.specs.List.{flat_map, AllByRecursion}
use Rattle.grove_sorts.specs.declared.ident.Ident.{Ident}
use Rattle.grove_sorts.specs.declared.version.Version.{Version}
use Rattle.grove_sorts.specs.declared.version.Version.TheVariants.{One, Two}
use Rattle.grove_sorts.proofs.Identifiers.{identifier_spelled}
use Rattle.grove_edits.specs.Edit.{edit_edge}
use Rattle.edit_text.proofs.Lines.{all_in_two}
use Rattle.session_script.specs.declared.author.Declared.{Declared}
use Rattle.session_script.specs.declared.line.Line.{Line}
use Rattle.session_script.specs.declared.line.Line.TheVariants as line
use Rattle.session_script.specs.declared.item.Item.{Item}
use Rattle.session_script.specs.declared.item.Item.TheVariants as item
use Rattle.session_script.specs.declared.session.Session as sessions
use Rattle.session_script.specs.Statement.{IsReplicaOf}
use Rattle.session_script.specs.Session.{head, replica_line, author_line, item_lines, IsLine, IsItem, IsDeclared, IsLineOf, IsItemOf, IsSession, Spells}
use Rattle.session_script.proofs.Statements.{action_in_two}

replicas_in_two : (replicas : List Ident) → AllByRecursion (IsReplicaOf Two) replicas
replicas_in_two [] = tt
replicas_in_two (r ∷ replicas) = (identifier_spelled r, replicas_in_two replicas)

lines_in_two : (lines : List Line) → AllByRecursion (IsLineOf Two) lines
lines_in_two [] = tt
lines_in_two (line.Author author action ∷ lines) = (action_in_two action, lines_in_two lines)
lines_in_two (line.Send send ∷ lines) = (tt, lines_in_two lines)

items_in_two : (items : List Item) → AllByRecursion (IsItemOf Two) items
items_in_two [] = tt
items_in_two (item.Load replica edit ∷ items) = (all_in_two (edit_edge edit), items_in_two items)
items_in_two (item.Block block ∷ items) = (lines_in_two block.lines, items_in_two items)
items_in_two (_ ∷ items) = (tt, items_in_two items)

abbrev in_two : sessions.Session → sessions.Session
in_two session = record session { version = Two }

authors_kept : (session : sessions.Session) (authors : List Declared) → AllByRecursion (IsDeclared session) authors → AllByRecursion (IsDeclared (in_two session)) authors
authors_kept session [] h = tt
authors_kept session (d ∷ authors) h = (h.0, authors_kept session authors h.1)

lines_kept : (session : sessions.Session) (lines : List Line) → AllByRecursion (IsLine session) lines → AllByRecursion (IsLine (in_two session)) lines
lines_kept session [] h = tt
lines_kept session (line.Author author action ∷ lines) h = (h.0, lines_kept session lines h.1)
lines_kept session (line.Send send ∷ lines) h = (h.0, lines_kept session lines h.1)

items_kept : (session : sessions.Session) (items : List Item) → AllByRecursion (IsItem session) items → AllByRecursion (IsItem (in_two session)) items
items_kept session [] h = tt
items_kept session (item.Block block ∷ items) h = (lines_kept session block.lines h.0, items_kept session items h.1)
items_kept session (_ ∷ items) h = (h.0, items_kept session items h.1)

session_in_two : (session : sessions.Session) → IsSession session → IsSession (in_two session)
session_in_two session is = record {
  some_replica = is.some_replica;
  few_replicas = is.few_replicas;
  replicas_differ = is.replicas_differ;
  authors = authors_kept session session.authors is.authors;
  few_authors = is.few_authors;
  authors_differ = is.authors_differ;
  items = items_kept session session.items is.items;
  few_blocks = is.few_blocks;
  few_sends = is.few_sends;
  few_shows = is.few_shows;
  replicas_of_version = replicas_in_two session.replicas;
  items_of_version = items_in_two session.items;
}

-- the lines behind the first one
abbrev rest_text : sessions.Session → List ℕ
rest_text session =
    flat_map (λ text. text ++ 10 ∷ [])
    (map replica_line session.replicas ++ (map (author_line session.replicas) session.authors ++ flat_map (item_lines session.replicas) session.items))

pub session_kept_in_two : (body : List ℕ) (session : sessions.Session) → session.version ≡ One → Spells (head One ++ body) session → Spells (head Two ++ body) (record session { version = Two })
session_kept_in_two body session is_one spells =
    let same : head One ++ body ≡ head One ++ rest_text session = spells.spelled ∙ ap (λ (v : Version). head v ++ rest_text session) is_one in
    let rest : body ≡ rest_text session = ap (drop 8) same in
    record { is_session = session_in_two session spells.is_session; spelled = ap (λ (b : List ℕ). head Two ++ b) rest }
