-- What is kept of the statements before to read and judge the next one.
use Rattle.std.specs.Prelude.{ℕ, suc, ◌==◌, Bool, true, false, not, ◌&&◌, ◌||◌, nat_lt, List, [], ◌∷◌, ◌++◌, Option, length}
use Rattle.std.specs.List.{list_all, list_any}
use Rattle.grove_sorts.specs.declared.ident.Ident.{Ident}
use Rattle.grove_sorts.specs.declared.version.Version.{Version}
use Rattle.grove_sorts.specs.declared.version.Version.TheVariants.{One}
use Rattle.session_script.specs.declared.phase.Phase.{Phase}
use Rattle.session_script.specs.declared.phase.Phase.TheVariants.{Nothing, Begun, Replicas, Authors, Items}
use Rattle.session_script.specs.declared.script_kind.ScriptKind.{ScriptKind}
use Rattle.session_script.specs.declared.script_kind.ScriptKind.TheVariants.{OutOfPlace, UnknownReplica, RepeatedReplica, UnknownAuthor, RepeatedAuthor, TooMany}
use Rattle.session_script.specs.declared.statement.Statement.{Statement}
use Rattle.session_script.specs.declared.statement.Statement.TheVariants.{Session, Replica, Author, Act}
use Rattle.session_script.specs.Order.{is_session, is_replica, is_author, is_block, is_end, is_send, is_show, is_same_ident, Place, First, AmongReplicas, AmongAuthors, AmongItems, InBlock, place_of, named_replicas, Counts, is_beyond_counts, first_of}

-- what is kept of some statements
pub record View : Type 0 where
  pub version : Version
  pub nothing : Bool
  pub begun : Bool
  pub only_replicas : Bool
  pub only_declared : Bool
  pub some_replica : Bool
  pub replicas : List Ident
  pub authors : List ℕ
  pub blocks : ℕ
  pub ends : ℕ
  pub sends : ℕ
  pub shows : ℕ

abbrev pub is_heading : Statement → Bool
is_heading s = is_session s || is_replica s

abbrev pub is_declaration : Statement → Bool
is_declaration s = is_session s || is_replica s || is_author s

abbrev pub counted : Bool → ℕ → ℕ
counted true n = suc n
counted false n = n

abbrev pub with_replica : Statement → List Ident → List Ident
with_replica (Replica replica) replicas = replicas ++ replica ∷ []
with_replica _ replicas = replicas

abbrev pub with_author : Statement → List ℕ → List ℕ
with_author (Author author replica) authors = authors ++ author ∷ []
with_author _ authors = authors

abbrev pub version_after : Version → Statement → Version
version_after old (Session version) = version
version_after old _ = old

-- one statement more
abbrev pub seen : View → Statement → View
seen v s = record {
  version = version_after v.version s;
  nothing = false;
  begun = v.begun || is_session s;
  only_replicas = v.only_replicas && is_heading s;
  only_declared = v.only_declared && is_declaration s;
  some_replica = v.some_replica || is_replica s;
  replicas = with_replica s v.replicas;
  authors = with_author s v.authors;
  blocks = counted (is_block s) v.blocks;
  ends = counted (is_end s) v.ends;
  sends = counted (is_send s) v.sends;
  shows = counted (is_show s) v.shows;
}

abbrev pub start : View
start = record { version = One; nothing = true; begun = false; only_replicas = true; only_declared = true; some_replica = false; replicas = []; authors = []; blocks = 0; ends = 0; sends = 0; shows = 0 }

abbrev pub open_at : View → Bool
open_at v = nat_lt v.ends v.blocks

abbrev pub items_at : View → Bool
items_at v = v.some_replica && not (open_at v)

abbrev pub may_come_at : View → Place → Bool
may_come_at v First = v.nothing
may_come_at v AmongReplicas = v.begun && v.only_replicas
may_come_at v AmongAuthors = v.some_replica && v.only_declared
may_come_at v AmongItems = items_at v
may_come_at v InBlock = open_at v

abbrev pub place_at : View → Statement → Bool
place_at v s = may_come_at v (place_of s)

abbrev pub declared_at : View → Ident → Bool
declared_at v replica = list_any (is_same_ident replica) v.replicas

abbrev pub declared_author_at : View → ℕ → Bool
declared_author_at v author = list_any (λ n. n == author) v.authors

abbrev pub repeats_replica_at : View → Statement → Bool
repeats_replica_at v (Replica replica) = declared_at v replica
repeats_replica_at v _ = false

abbrev pub unknown_author_at : View → Statement → Bool
unknown_author_at v (Act author action) = not (declared_author_at v author)
unknown_author_at v _ = false

abbrev pub repeats_author_at : View → Statement → Bool
repeats_author_at v (Author author replica) = declared_author_at v author
repeats_author_at v _ = false

abbrev pub counts_at : View → Counts
counts_at v = record { replicas = length v.replicas; authors = length v.authors; blocks = v.blocks; sends = v.sends; shows = v.shows }

abbrev pub too_many_at : View → Statement → Bool
too_many_at v s = is_beyond_counts (counts_at v) s

-- the first fault of the next statement
abbrev pub fault_at : View → Statement → Option ScriptKind
fault_at v s =
    first_of (
    (not (place_at v s), OutOfPlace)
    ∷ (not (list_all (declared_at v) (named_replicas s)), UnknownReplica)
    ∷ (repeats_replica_at v s, RepeatedReplica)
    ∷ (unknown_author_at v s, UnknownAuthor)
    ∷ (repeats_author_at v s, RepeatedAuthor)
    ∷ (too_many_at v s, TooMany)
    ∷ []
    )

-- the view of some statements behind others
abbrev pub after : View → List Statement → View
after v [] = v
after v (s ∷ ss) = after (seen v s) ss

abbrev pub view : List Statement → View
view before = after start before

-- the view after lines of these kinds, with what they declared and how many there were
abbrev pub view_at : Version → Phase → List Ident → List ℕ → ℕ → ℕ → ℕ → ℕ → View
view_at version Nothing replicas authors blocks ends sends shows = record { version = version; nothing = true; begun = false; only_replicas = true; only_declared = true; some_replica = false; replicas = replicas; authors = authors; blocks = blocks; ends = ends; sends = sends; shows = shows }
view_at version Begun replicas authors blocks ends sends shows = record { version = version; nothing = false; begun = true; only_replicas = true; only_declared = true; some_replica = false; replicas = replicas; authors = authors; blocks = blocks; ends = ends; sends = sends; shows = shows }
view_at version Replicas replicas authors blocks ends sends shows = record { version = version; nothing = false; begun = true; only_replicas = true; only_declared = true; some_replica = true; replicas = replicas; authors = authors; blocks = blocks; ends = ends; sends = sends; shows = shows }
view_at version Authors replicas authors blocks ends sends shows = record { version = version; nothing = false; begun = true; only_replicas = false; only_declared = true; some_replica = true; replicas = replicas; authors = authors; blocks = blocks; ends = ends; sends = sends; shows = shows }
view_at version Items replicas authors blocks ends sends shows = record { version = version; nothing = false; begun = true; only_replicas = false; only_declared = false; some_replica = true; replicas = replicas; authors = authors; blocks = blocks; ends = ends; sends = sends; shows = shows }
