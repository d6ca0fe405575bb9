-- Where a statement may stand: the first fault of one behind others.
-- The promise of the commands rests on these definitions.
use Rattle.std.specs.Prelude.{◌≡◌, ℕ, ◌*◌, Bool, true, false, not, ◌&&◌, ◌||◌, ◌==◌, nat_lt, nat_le, if◌then◌else◌, List, [], ◌∷◌, ◌++◌, Option, Some, None}
use Rattle.std.specs.List.{list_all, list_any, count_by}
use Rattle.std.specs.Ordering.{is_eq}
use Rattle.grove_sorts.specs.declared.ident.Ident.{Ident}
use Rattle.grove_sorts.specs.Ident.{ident_cmp}
use Rattle.grove_sorts.specs.declared.version.Version.{Version}
use Rattle.grove_sorts.specs.declared.version.Version.TheVariants.{One}
use Rattle.session_script.specs.declared.script_kind.ScriptKind.{ScriptKind}
use Rattle.session_script.specs.declared.script_kind.ScriptKind.TheVariants.{OutOfPlace, UnknownReplica, RepeatedReplica, UnknownAuthor, RepeatedAuthor, TooMany}
use Rattle.session_script.specs.declared.statement.SendText.{SendText}
use Rattle.session_script.specs.declared.statement.Statement.{Statement}
use Rattle.session_script.specs.declared.statement.Statement.TheVariants.{Session, Replica, Author, Load, Block, End, Act, Send, Show}

abbrev pub is_session : Statement → Bool
is_session (Session version) = true
is_session _ = false

abbrev pub is_replica : Statement → Bool
is_replica (Replica replica) = true
is_replica _ = false

abbrev pub is_author : Statement → Bool
is_author (Author author replica) = true
is_author _ = false

abbrev pub is_block : Statement → Bool
is_block Block = true
is_block _ = false

abbrev pub is_end : Statement → Bool
is_end End = true
is_end _ = false

abbrev pub is_send : Statement → Bool
is_send (Send send) = true
is_send _ = false

abbrev pub is_show : Statement → Bool
is_show Show = true
is_show _ = false

abbrev pub is_same_ident : Ident → Ident → Bool
is_same_ident a b = is_eq (ident_cmp a b)

-- the version in which a line behind some statements is read: the first of them tells it, and without one it is version one
abbrev pub version_of : List Statement → Version
version_of (Session version ∷ statements) = version
version_of _ = One

-- the replicas that some statements declare, in order
abbrev pub replicas_of : List Statement → List Ident
replicas_of [] = []
replicas_of (Replica replica ∷ statements) = replica ∷ replicas_of statements
replicas_of (_ ∷ statements) = replicas_of statements

-- the numbers of the authors that they declare, in order
abbrev pub authors_of : List Statement → List ℕ
authors_of [] = []
authors_of (Author author replica ∷ statements) = author ∷ authors_of statements
authors_of (_ ∷ statements) = authors_of statements

abbrev pub has_replica : List Statement → Bool
has_replica before = list_any is_replica before

-- a block is open: there were more `block` lines than `end` lines
abbrev pub is_open : List Statement → Bool
is_open before = nat_lt (count_by is_end before) (count_by is_block before)

-- items stand behind the declaration of a replica, and not in a block
abbrev pub items_may_stand : List Statement → Bool
items_may_stand before = has_replica before && not (is_open before)

-- the places of statements: `session` stands first; then replicas, and then authors; then items; and in a block its lines and its end
pub data Place : Type 0 where
  First : Place
  AmongReplicas : Place
  AmongAuthors : Place
  AmongItems : Place
  InBlock : Place

-- the place of a statement: all that neither declares anything nor stands in a block stands among items
abbrev pub place_of : Statement → Place
place_of (Session version) = First
place_of (Replica replica) = AmongReplicas
place_of (Author author replica) = AmongAuthors
place_of End = InBlock
place_of (Act author action) = InBlock
place_of (Send send) = InBlock
place_of _ = AmongItems

-- A place may come behind some statements: the first behind none; that of replicas, and then that of authors, with nothing else before
-- them; and a block's while one is open.
abbrev pub may_come : List Statement → Place → Bool
may_come before First = list_all (λ _. false) before
may_come before AmongReplicas = list_any is_session before && list_all (λ s. is_session s || is_replica s) before
may_come before AmongAuthors = has_replica before && list_all (λ s. is_session s || is_replica s || is_author s) before
may_come before AmongItems = items_may_stand before
may_come before InBlock = is_open before

-- the statement may stand behind those before
abbrev pub has_place : List Statement → Statement → Bool
has_place before statement = may_come before (place_of statement)

-- the replicas that a statement names as declared before
abbrev pub named_replicas : Statement → List Ident
named_replicas (Author author replica) = replica ∷ []
named_replicas (Load replica edit) = replica ∷ []
named_replicas (Send send) = send.from ∷ send.to ∷ []
named_replicas _ = []

abbrev pub is_declared : List Statement → Ident → Bool
is_declared before replica = list_any (is_same_ident replica) (replicas_of before)

abbrev pub is_declared_author : List Statement → ℕ → Bool
is_declared_author before author = list_any (λ n. n == author) (authors_of before)

abbrev pub repeats_replica : List Statement → Statement → Bool
repeats_replica before (Replica replica) = is_declared before replica
repeats_replica before _ = false

abbrev pub has_unknown_author : List Statement → Statement → Bool
has_unknown_author before (Act author action) = not (is_declared_author before author)
has_unknown_author before _ = false

abbrev pub repeats_author : List Statement → Statement → Bool
repeats_author before (Author author replica) = is_declared_author before author
repeats_author before _ = false

-- a `send` line leaves out or takes more than a million edits, has pieces of no bytes or of too many, or takes too many for its pieces
abbrev pub is_beyond : SendText → Bool
is_beyond send =
    nat_lt 1000000 send.skip || nat_lt 1000000 send.take || send.cut == 0 || nat_lt 65536 send.cut || nat_lt (4096 * send.cut) send.take

-- how many statements of each limited kind there are
pub record Counts : Type 0 where
  pub replicas : ℕ
  pub authors : ℕ
  pub blocks : ℕ
  pub sends : ℕ
  pub shows : ℕ

abbrev pub counts_of : List Statement → Counts
counts_of before = record {
  replicas = count_by is_replica before;
  authors = count_by is_author before;
  blocks = count_by is_block before;
  sends = count_by is_send before;
  shows = count_by is_show before;
}

-- behind so many it is the 9th replica, the 65th author, the 65th block, the 33rd send or the 9th show, or it is a send beyond the limits
abbrev pub is_beyond_counts : Counts → Statement → Bool
is_beyond_counts counts (Replica replica) = nat_le 8 counts.replicas
is_beyond_counts counts (Author author replica) = nat_le 64 counts.authors
is_beyond_counts counts Block = nat_le 64 counts.blocks
is_beyond_counts counts (Send send) = nat_le 32 counts.sends || is_beyond send
is_beyond_counts counts Show = nat_le 8 counts.shows
is_beyond_counts counts _ = false

abbrev pub is_too_many : List Statement → Statement → Bool
is_too_many before statement = is_beyond_counts (counts_of before) statement

-- the first kind whose condition holds
abbrev pub first_of : List (Bool × ScriptKind) → Option ScriptKind
first_of [] = None
first_of (condition ∷ conditions) = if condition.0 then Some condition.1 else first_of conditions

-- the first fault of a statement that stands behind others, or none
abbrev pub statement_fault : List Statement → Statement → Option ScriptKind
statement_fault before statement =
    first_of (
    (not (has_place before statement), OutOfPlace)
    ∷ (not (list_all (is_declared before) (named_replicas statement)), UnknownReplica)
    ∷ (repeats_replica before statement, RepeatedReplica)
    ∷ (has_unknown_author before statement, UnknownAuthor)
    ∷ (repeats_author before statement, RepeatedAuthor)
    ∷ (is_too_many before statement, TooMany)
    ∷ []
    )

-- each of the statements, which stand behind others, has no fault
abbrev pub GoOn : List Statement → List Statement → Type 0
GoOn before [] = Unit {0}
GoOn before (statement ∷ statements) = (statement_fault before statement ≡ None) × GoOn (before ++ statement ∷ []) statements

-- a session may end here: a replica is declared, and no block is open
abbrev pub is_ended : List Statement → Bool
is_ended before = has_replica before && not (is_open before)
