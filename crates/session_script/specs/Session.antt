-- The one text of a session, and what holds of a session.
-- The promise of the commands rests on these definitions.
use Rattle.std.specs.Prelude.{◌≡◌, ℕ, ◌*◌, ◌<◌, ◌≤◌, Bool, true, false, List, [], ◌∷◌, ◌++◌, length, map, sum_by, slice_get, codes, decimal}
use Rattle.std.specs.List.{flat_map, count_by, AllByRecursion, Contains}
use Rattle.std.specs.Option.{option_map_or}
use Rattle.grove_sorts.specs.declared.ident.Ident.{Ident}
use Rattle.grove_sorts.specs.Ident.{ident_bytes}
use Rattle.grove_sorts.specs.declared.version.Version.{Version}
use Rattle.grove_edits.specs.Edge.{IsEdgeOf}
use Rattle.grove_edits.specs.Edit.{edit_edge, edit_kind}
use Rattle.edit_text.specs.Line.{spaced}
use Rattle.session_script.specs.declared.author.Declared.{Declared}
use Rattle.session_script.specs.declared.line.Line.{Line}
use Rattle.session_script.specs.declared.line.Line.TheVariants as line
use Rattle.session_script.specs.declared.line.SendLine.{SendLine}
use Rattle.session_script.specs.declared.item.Item.{Item}
use Rattle.session_script.specs.declared.item.Item.TheVariants as item
use Rattle.session_script.specs.declared.session.Session.{Session}
use Rattle.session_script.specs.Action.{action_line, IsAuthor, ActionInRange, IsActionOf}
use Rattle.session_script.specs.Statement.{head_line, load_line, send_line, IsReplicaOf}

-- the first line of a session of the version, with its LF
abbrev pub head : Version → List ℕ
head version = head_line version ++ 10 ∷ []

-- the name of the replica with a number, counted from 0
abbrev pub replica_name : List Ident → ℕ → List ℕ
replica_name replicas number = option_map_or ident_bytes (slice_get replicas number) []

abbrev pub replica_line : Ident → List ℕ
replica_line replica = spaced (codes "replica" ∷ ident_bytes replica ∷ [])

abbrev pub author_line : List Ident → Declared → List ℕ
author_line replicas declared = spaced (codes "author" ∷ decimal declared.author ∷ replica_name replicas declared.replica ∷ [])

-- a line of a block
abbrev pub line_text : List Ident → Line → List ℕ
line_text replicas (line.Author author action) = action_line author action
line_text replicas (line.Send send) =
    send_line (replica_name replicas send.from) (replica_name replicas send.to) send.skip send.take send.reverse send.twice send.cut

-- the lines of an item
abbrev pub item_lines : List Ident → Item → List (List ℕ)
item_lines replicas (item.Load replica edit) = load_line (replica_name replicas replica) (edit_kind edit) (edit_edge edit) ∷ []
item_lines replicas (item.Block block) = codes "block" ∷ map (line_text replicas) block.lines ++ codes "end" ∷ []
item_lines replicas item.Show = codes "show" ∷ []

-- the lines of a session, without their LFs: its head, its replicas, its authors and its items
abbrev pub session_lines : Session → List (List ℕ)
session_lines session =
    head_line session.version ∷ map replica_line session.replicas
    ++ (map (author_line session.replicas) session.authors ++ flat_map (item_lines session.replicas) session.items)

-- the text of a session: its lines, each ended by an LF
abbrev pub session_text : Session → List ℕ
session_text session = flat_map (λ text. text ++ 10 ∷ []) (session_lines session)

-- no two items of a list are the same
abbrev pub AllDiffer : {A : Type 0} → List A → Type 0
AllDiffer [] = Unit {0}
AllDiffer (x ∷ xs) = AllByRecursion (λ y. x ≡ y → ⊥) xs × AllDiffer xs

abbrev pub author_numbers : List Declared → List ℕ
author_numbers authors = map (λ declared. declared.author) authors

-- the limits of a `send` line, which names two replicas
pub record IsSend (replicas : ℕ) (send : SendLine) : Type 0 where
  pub from : send.from < replicas
  pub to : send.to < replicas
  pub skip : send.skip ≤ 1000000
  pub take : send.take ≤ 1000000
  pub some_cut : 1 ≤ send.cut
  pub cut : send.cut ≤ 65536
  pub few_pieces : send.take ≤ 4096 * send.cut

-- a line of a block: a declared author's, or a `send` line within the limits
abbrev pub IsLine : Session → Line → Type 0
IsLine session (line.Author author action) = Contains (author_numbers session.authors) author × ActionInRange action
IsLine session (line.Send send) = IsSend (length session.replicas) send

abbrev pub IsItem : Session → Item → Type 0
IsItem session (item.Load replica edit) = replica < length session.replicas
IsItem session (item.Block block) = AllByRecursion (IsLine session) block.lines
IsItem session item.Show = Unit {0}

abbrev pub IsDeclared : Session → Declared → Type 0
IsDeclared session declared = IsAuthor declared.author × (declared.replica < length session.replicas)

-- the version knows all that a line of a block names
abbrev pub IsLineOf : Version → Line → Type 0
IsLineOf version (line.Author author action) = IsActionOf version action
IsLineOf version (line.Send send) = Unit {0}

-- and that an item names
abbrev pub IsItemOf : Version → Item → Type 0
IsItemOf version (item.Load replica edit) = IsEdgeOf version (edit_edge edit)
IsItemOf version (item.Block block) = AllByRecursion (IsLineOf version) block.lines
IsItemOf version item.Show = Unit {0}

abbrev pub is_send : Line → Bool
is_send (line.Send send) = true
is_send _ = false

abbrev pub is_block : Item → Bool
is_block (item.Block block) = true
is_block _ = false

abbrev pub is_show : Item → Bool
is_show item.Show = true
is_show _ = false

-- how many `send` lines an item has
abbrev pub send_count : Item → ℕ
send_count (item.Block block) = count_by is_send block.lines
send_count _ = 0

-- a session as it may be written: replicas and authors are declared once, what is named is declared and of the session's version, and
-- the limits are kept
pub record IsSession (session : Session) : Type 0 where
  pub some_replica : 1 ≤ length session.replicas
  pub few_replicas : length session.replicas ≤ 8
  pub replicas_differ : AllDiffer session.replicas
  pub authors : AllByRecursion (IsDeclared session) session.authors
  pub few_authors : length session.authors ≤ 64
  pub authors_differ : AllDiffer (author_numbers session.authors)
  pub items : AllByRecursion (IsItem session) session.items
  pub few_blocks : count_by is_block session.items ≤ 64
  pub few_sends : sum_by send_count session.items ≤ 32
  pub few_shows : count_by is_show session.items ≤ 8
  pub replicas_of_version : AllByRecursion (IsReplicaOf session.version) session.replicas
  pub items_of_version : AllByRecursion (IsItemOf session.version) session.items

-- a text spells a session
pub record Spells (text : List ℕ) (session : Session) : Type 0 where
  pub is_session : IsSession session
  pub spelled : text ≡ session_text session
