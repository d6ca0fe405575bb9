-- The statements of a session: their lines are its lines, and they begin a session that may end behind them.
use Rattle.std.proofs.Common.{◌≡◌, ◌⊎◌, ℕ, zero, suc, ◌<◌, List, [], ◌∷◌, ◌++◌, Some, length, map, codes, decimal, get_or, slice_get, inl, inr, refl, sym, ap, subst, ◌∙◌, arith}
use Rattle.std.specs.List.{flat_map, AllByRecursion}
use Rattle.std.proofs.lemmas.List.{map-append}
use Rattle.grove_sorts.specs.declared.ident.Ident.{Ident}
use Rattle.grove_sorts.specs.Ident.{ident_bytes}
use Rattle.grove_sorts.specs.declared.version.Version.{Version}
use Rattle.edit_text.specs.Line.{spaced}
use Rattle.session_script.specs.declared.author.Declared.{Declared}
use Rattle.session_script.specs.declared.line.Line.{Line}
use Rattle.session_script.specs.declared.line.Line.TheVariants as line
use Rattle.session_script.specs.declared.line.SendLine.{SendLine}
use Rattle.session_script.specs.declared.item.Block as blocks
use Rattle.session_script.specs.declared.item.Item.{Item}
use Rattle.session_script.specs.declared.item.Item.TheVariants as item
use Rattle.session_script.specs.declared.session.Session as sessions
use Rattle.session_script.specs.declared.statement.SendText.{SendText}
use Rattle.session_script.specs.declared.statement.Statement.{Statement}
use Rattle.session_script.specs.declared.statement.Statement.TheVariants.{Session, Replica, Author, Block, End, Act, Send}
use Rattle.session_script.specs.Action.{IsAuthor}
use Rattle.session_script.specs.Statement.{statement_text, head_line, InRange, IsReplicaOf, IsStatementOf, send_line}
use Rattle.session_script.specs.Script.{ended_line, script_text, AreKnown}
use Rattle.session_script.specs.Session.{replica_name, replica_line, author_line, line_text, item_lines, session_lines, session_text, author_numbers, IsSend, IsLine, IsItem, IsDeclared, IsLineOf, IsItemOf, IsSession}
use Rattle.session_script.proofs.Names.{named, name_is, name_known}
use Rattle.session_script.proofs.OneLine.{SaysItem, one_line, item_forms}

-- ---- what a session's parts say

-- the declaration of an author
abbrev pub AuthorTold : List Ident → Declared → Statement → Type 0
AuthorTold replicas declared s = (replica : Ident) × (slice_get replicas declared.replica ≡ Some replica) × (s ≡ Author declared.author replica)

abbrev pub sent : Ident → Ident → SendLine → SendText
sent from to send = record { from = from; to = to; skip = send.skip; take = send.take; reverse = send.reverse; twice = send.twice; cut = send.cut }

-- a line of a block
abbrev pub LineTold : List Ident → Line → Statement → Type 0
LineTold replicas (line.Author author action) s = s ≡ Act author action
LineTold replicas (line.Send send) s =
    (from : Ident) × (to : Ident) × (slice_get replicas send.from ≡ Some from) × (slice_get replicas send.to ≡ Some to) × (s ≡ Send (sent from to send))

abbrev pub Each : {A B : Type 0} → (A → B → Type 0) → List A → List B → Type 0
Each R [] [] = Unit {0}
Each R [] (y ∷ ys) = ⊥
Each R (x ∷ xs) [] = ⊥
Each R (x ∷ xs) (y ∷ ys) = R x y × Each R xs ys

-- an item of one line, and a block
abbrev pub OneTold : List Ident → Item → List Statement → Type 0
OneTold replicas i ss = (s : Statement) × SaysItem replicas s i × (ss ≡ s ∷ [])

abbrev pub BlockTold : List Ident → Item → List Statement → Type 0
BlockTold replicas i ss = (block : blocks.Block) × (inner : List Statement) × (i ≡ item.Block block) × Each (LineTold replicas) block.lines inner × (ss ≡ Block ∷ inner ++ End ∷ [])

-- an item
abbrev pub ItemTold : List Ident → Item → List Statement → Type 0
ItemTold replicas i ss = OneTold replicas i ss ⊎ BlockTold replicas i ss

abbrev pub ItemsTold : List Ident → List Item → List Statement → Type 0
ItemsTold replicas [] ss = ss ≡ []
ItemsTold replicas (i ∷ items) ss =
    (mine : List Statement) × (rest : List Statement) × ItemTold replicas i mine × ItemsTold replicas items rest × (ss ≡ mine ++ rest)

-- a session
pub record Told (session : sessions.Session) (ss : List Statement) : Type 0 where
  pub declared : List Statement
  pub done : List Statement
  pub are_declared : Each (AuthorTold session.replicas) session.authors declared
  pub are_done : ItemsTold session.replicas session.items done
  pub whole : ss ≡ Session session.version ∷ map Replica session.replicas ++ (declared ++ done)

-- ---- each session has statements

authors_told : (session : sessions.Session) (authors : List Declared) → AllByRecursion (IsDeclared session) authors
    → (ss : List Statement) × Each (AuthorTold session.replicas) authors ss
authors_told session [] h = ([], tt)
authors_told session (d ∷ authors) h =
    let name = named session.replicas d.replica h.0.1 in
    let rest = authors_told session authors h.1 in
    (Author d.author name.0 ∷ rest.0, ((name.0, name.1, refl), rest.1))

lines_told : (session : sessions.Session) (lines : List Line) → AllByRecursion (IsLine session) lines → (ss : List Statement) × Each (LineTold session.replicas) lines ss
lines_told session [] h = ([], tt)
lines_told session (line.Author author action ∷ lines) h =
    let rest = lines_told session lines h.1 in (Act author action ∷ rest.0, (refl, rest.1))
lines_told session (line.Send send ∷ lines) h =
    let from = named session.replicas send.from h.0.from in
    let to = named session.replicas send.to h.0.to in
    let rest = lines_told session lines h.1 in
    (Send (sent from.0 to.0 send) ∷ rest.0, ((from.0, to.0, from.1, to.1, refl), rest.1))

item_told : (session : sessions.Session) (i : Item) → IsItem session i → (ss : List Statement) × ItemTold session.replicas i ss
item_told session i h = by_form (item_forms session i h) where
  by_form : ((s : Statement) × SaysItem session.replicas s i) ⊎ ((block : blocks.Block) × (i ≡ item.Block block)) → (ss : List Statement) × ItemTold session.replicas i ss
  by_form (inl one) = (one.0 ∷ [], inl (one.0, one.1, refl))
  by_form (inr of) =
      let inner = lines_told session of.0.lines (subst (IsItem session) of.1 h) in (Block ∷ inner.0 ++ End ∷ [], inr (of.0, inner.0, of.1, inner.1, refl))

items_told : (session : sessions.Session) (items : List Item) → AllByRecursion (IsItem session) items → (ss : List Statement) × ItemsTold session.replicas items ss
items_told session [] h = ([], refl)
items_told session (i ∷ items) h =
    let mine = item_told session i h.0 in
    let rest = items_told session items h.1 in
    (mine.0 ++ rest.0, (mine.0, rest.0, mine.1, rest.1, refl))

pub told : (session : sessions.Session) → IsSession session → (ss : List Statement) × Told session ss
told session is =
    let authors = authors_told session session.authors is.authors in
    let items = items_told session session.items is.items in (
      Session session.version ∷ map Replica session.replicas ++ (authors.0 ++ items.0),
      record { declared = authors.0; done = items.0; are_declared = authors.1; are_done = items.1; whole = refl },
    )

-- ---- their lines are the session's

replica_texts : (replicas : List Ident) → map statement_text (map Replica replicas) ≡ map replica_line replicas
replica_texts [] = refl
replica_texts (r ∷ replicas) = ap (λ (ts : List (List ℕ)). replica_line r ∷ ts) (replica_texts replicas)

author_texts : (replicas : List Ident) (authors : List Declared) (ss : List Statement) → Each (AuthorTold replicas) authors ss
    → map statement_text ss ≡ map (author_line replicas) authors
author_texts replicas [] [] h = refl
author_texts replicas [] (s ∷ ss) h = absurd h
author_texts replicas (d ∷ authors) [] h = absurd h
author_texts replicas (d ∷ authors) (s ∷ ss) h =
    let mine : statement_text s ≡ author_line replicas d =
    ap statement_text h.0.2 ∙ ap (λ (name : List ℕ). spaced (codes "author" ∷ decimal d.author ∷ name ∷ [])) (sym (name_is replicas d.replica h.0.0 h.0.1)) in
    ap (λ (t : List ℕ). t ∷ map statement_text ss) mine ∙ ap (λ (ts : List (List ℕ)). author_line replicas d ∷ ts) (author_texts replicas authors ss h.1)

line_is : (replicas : List Ident) (l : Line) (s : Statement) → LineTold replicas l s → statement_text s ≡ line_text replicas l
line_is replicas (line.Author author action) s h = ap statement_text h
line_is replicas (line.Send send) s h =
    ap statement_text h.4
    ∙ ap (λ (name : List ℕ). send_line name (ident_bytes h.1) send.skip send.take send.reverse send.twice send.cut) (sym (name_is replicas send.from h.0 h.2))
    ∙ ap (λ (name : List ℕ). send_line (replica_name replicas send.from) name send.skip send.take send.reverse send.twice send.cut) (sym (name_is replicas send.to h.1 h.3))

line_texts : (replicas : List Ident) (lines : List Line) (ss : List Statement) → Each (LineTold replicas) lines ss → map statement_text ss ≡ map (line_text replicas) lines
line_texts replicas [] [] h = refl
line_texts replicas [] (s ∷ ss) h = absurd h
line_texts replicas (l ∷ lines) [] h = absurd h
line_texts replicas (l ∷ lines) (s ∷ ss) h =
    ap (λ (t : List ℕ). t ∷ map statement_text ss) (line_is replicas l s h.0) ∙ ap (λ (ts : List (List ℕ)). line_text replicas l ∷ ts) (line_texts replicas lines ss h.1)

item_texts : (replicas : List Ident) (i : Item) (ss : List Statement) → ItemTold replicas i ss → map statement_text ss ≡ item_lines replicas i
item_texts replicas i ss (inl h) = ap (map statement_text) h.2 ∙ sym (one_line replicas h.0 i h.1).text
item_texts replicas i ss (inr h) =
    ap (map statement_text) h.4
    ∙ ap (λ (ts : List (List ℕ)). codes "block" ∷ ts) (map-append statement_text h.1 (End ∷ []) ∙ ap (λ (ts : List (List ℕ)). ts ++ codes "end" ∷ []) (line_texts replicas h.0.lines h.1 h.3))
    ∙ ap (item_lines replicas) (sym h.2)

items_texts : (replicas : List Ident) (items : List Item) (ss : List Statement) → ItemsTold replicas items ss → map statement_text ss ≡ flat_map (item_lines replicas) items
items_texts replicas [] ss h = ap (map statement_text) h
items_texts replicas (i ∷ items) ss h =
    ap (map statement_text) h.4 ∙ map-append statement_text h.0 h.1
    ∙ ap (λ (ts : List (List ℕ)). ts ++ map statement_text h.1) (item_texts replicas i h.0 h.2)
    ∙ ap (λ (ts : List (List ℕ)). item_lines replicas i ++ ts) (items_texts replicas items h.1 h.3)

told_lines : (session : sessions.Session) (ss : List Statement) → Told session ss → map statement_text ss ≡ session_lines session
told_lines session ss h =
    ap (map statement_text) h.whole
    ∙ ap (λ (ts : List (List ℕ)). head_line session.version ∷ ts)
    (map-append statement_text (map Replica session.replicas) (h.declared ++ h.done)
    ∙ ap (λ (ts : List (List ℕ)). ts ++ map statement_text (h.declared ++ h.done)) (replica_texts session.replicas)
    ∙ ap (λ (ts : List (List ℕ)). map replica_line session.replicas ++ ts)
    (map-append statement_text h.declared h.done
    ∙ ap (λ (ts : List (List ℕ)). ts ++ map statement_text h.done) (author_texts session.replicas session.authors h.declared h.are_declared)
    ∙ ap (λ (ts : List (List ℕ)). map (author_line session.replicas) session.authors ++ ts) (items_texts session.replicas session.items h.done h.are_done)))

-- the lines of statements, each ended
pub ended_lines : (ss : List Statement) → script_text ss ≡ flat_map (λ (t : List ℕ). t ++ 10 ∷ []) (map statement_text ss)
ended_lines [] = refl
ended_lines (s ∷ ss) = ap (λ (t : List ℕ). ended_line s ++ t) (ended_lines ss)

-- the lines of a session's statements are its text
pub told_text : (session : sessions.Session) (ss : List Statement) → Told session ss → script_text ss ≡ session_text session
told_text session ss h = ended_lines ss ∙ ap (flat_map (λ (t : List ℕ). t ++ 10 ∷ [])) (told_lines session ss h)

-- ---- they are in range

pub all_append : {A : Type 0} → (P : A → Type 0) (xs ys : List A) → AllByRecursion P xs → AllByRecursion P ys → AllByRecursion P (xs ++ ys)
all_append P [] ys h k = k
all_append P (x ∷ xs) ys h k = (h.0, all_append P xs ys h.1 k)

replicas_in_range : (replicas : List Ident) → AllByRecursion InRange (map Replica replicas)
replicas_in_range [] = tt
replicas_in_range (r ∷ replicas) = (tt, replicas_in_range replicas)

authors_in_range : (session : sessions.Session) (authors : List Declared) (ss : List Statement) → AllByRecursion (IsDeclared session) authors
    → Each (AuthorTold session.replicas) authors ss → AllByRecursion InRange ss
authors_in_range session [] [] is h = tt
authors_in_range session [] (s ∷ ss) is h = absurd h
authors_in_range session (d ∷ authors) [] is h = absurd h
authors_in_range session (d ∷ authors) (s ∷ ss) is h =
    (subst InRange (sym h.0.2) is.0.0, authors_in_range session authors ss is.1 h.1)

-- an author with lines is declared, so its number is one
number_at : (session : sessions.Session) (authors : List Declared) (k author : ℕ) → AllByRecursion (IsDeclared session) authors → k < length (author_numbers authors)
    → get_or (author_numbers authors) k author ≡ author → IsAuthor author
number_at session [] k author is within at = absurd (omega arith)
number_at session (d ∷ authors) zero author is within at = subst IsAuthor at is.0.0
number_at session (d ∷ authors) (suc k) author is within at = number_at session authors k author is.1 (omega arith) at

send_in_range : (session : sessions.Session) (send : SendLine) (from to : Ident) → IsSend (length session.replicas) send → InRange (Send (sent from to send))
send_in_range session send from to is = (omega (arith, is.skip), omega (arith, is.take), omega (arith, is.cut))

lines_in_range : (session : sessions.Session) (lines : List Line) (ss : List Statement) → AllByRecursion (IsDeclared session) session.authors → AllByRecursion (IsLine session) lines
    → Each (LineTold session.replicas) lines ss → AllByRecursion InRange ss
lines_in_range session [] [] ds is h = tt
lines_in_range session [] (s ∷ ss) ds is h = absurd h
lines_in_range session (l ∷ lines) [] ds is h = absurd h
lines_in_range session (line.Author author action ∷ lines) (s ∷ ss) ds is h =
    let number = number_at session session.authors is.0.0.0 author ds is.0.0.1 is.0.0.2 in
    (subst InRange (sym h.0) (number, is.0.1), lines_in_range session lines ss ds is.1 h.1)
lines_in_range session (line.Send send ∷ lines) (s ∷ ss) ds is h =
    (subst InRange (sym h.0.4) (send_in_range session send h.0.0 h.0.1 is.0), lines_in_range session lines ss ds is.1 h.1)

item_in_range : (session : sessions.Session) (i : Item) (ss : List Statement) → AllByRecursion (IsDeclared session) session.authors → IsItem session i
    → ItemTold session.replicas i ss → AllByRecursion InRange ss
item_in_range session i ss ds is (inl h) = subst (AllByRecursion InRange) (sym h.2) ((one_line session.replicas h.0 i h.1).in_range, tt)
item_in_range session i ss ds is (inr h) =
    subst (AllByRecursion InRange) (sym h.4)
    (tt, all_append InRange h.1 (End ∷ []) (lines_in_range session h.0.lines h.1 ds (subst (IsItem session) h.2 is) h.3) (tt, tt))

items_in_range : (session : sessions.Session) (items : List Item) (ss : List Statement) → AllByRecursion (IsDeclared session) session.authors → AllByRecursion (IsItem session) items
    → ItemsTold session.replicas items ss → AllByRecursion InRange ss
items_in_range session [] ss ds is h = subst (AllByRecursion InRange) (sym h) tt
items_in_range session (i ∷ items) ss ds is h =
    subst (AllByRecursion InRange) (sym h.4) (all_append InRange h.0 h.1 (item_in_range session i h.0 ds is.0 h.2) (items_in_range session items h.1 ds is.1 h.3))

pub told_in_range : (session : sessions.Session) (ss : List Statement) → IsSession session → Told session ss → AllByRecursion InRange ss
told_in_range session ss is h =
    subst (AllByRecursion InRange) (sym h.whole) (
      tt,
      all_append InRange (map Replica session.replicas) (h.declared ++ h.done) (replicas_in_range session.replicas)
          (all_append InRange h.declared h.done (authors_in_range session session.authors h.declared is.authors h.are_declared)
          (items_in_range session session.items h.done is.authors is.items h.are_done)),
    )

-- ---- they are of the session's version

replicas_known : (version : Version) (replicas : List Ident) → AllByRecursion (IsReplicaOf version) replicas → AllByRecursion (IsStatementOf version) (map Replica replicas)
replicas_known version [] h = tt
replicas_known version (r ∷ replicas) h = (h.0, replicas_known version replicas h.1)

authors_known : (version : Version) (replicas : List Ident) (authors : List Declared) (ss : List Statement) → AllByRecursion (IsReplicaOf version) replicas → Each (AuthorTold replicas) authors ss
    → AllByRecursion (IsStatementOf version) ss
authors_known version replicas [] [] names h = tt
authors_known version replicas [] (s ∷ ss) names h = absurd h
authors_known version replicas (d ∷ authors) [] names h = absurd h
authors_known version replicas (d ∷ authors) (s ∷ ss) names h =
    (subst (IsStatementOf version) (sym h.0.2) (name_known version replicas d.replica h.0.0 names h.0.1), authors_known version replicas authors ss names h.1)

lines_known : (version : Version) (replicas : List Ident) (lines : List Line) (ss : List Statement) → AllByRecursion (IsReplicaOf version) replicas → AllByRecursion (IsLineOf version) lines
    → Each (LineTold replicas) lines ss → AllByRecursion (IsStatementOf version) ss
lines_known version replicas [] [] names is h = tt
lines_known version replicas [] (s ∷ ss) names is h = absurd h
lines_known version replicas (l ∷ lines) [] names is h = absurd h
lines_known version replicas (line.Author author action ∷ lines) (s ∷ ss) names is h =
    (subst (IsStatementOf version) (sym h.0) is.0, lines_known version replicas lines ss names is.1 h.1)
lines_known version replicas (line.Send send ∷ lines) (s ∷ ss) names is h = (
  subst (IsStatementOf version) (sym h.0.4) (name_known version replicas send.from h.0.0 names h.0.2, name_known version replicas send.to h.0.1 names h.0.3),
  lines_known version replicas lines ss names is.1 h.1,
)

item_known : (version : Version) (replicas : List Ident) (i : Item) (ss : List Statement) → AllByRecursion (IsReplicaOf version) replicas → IsItemOf version i → ItemTold replicas i ss
    → AllByRecursion (IsStatementOf version) ss
item_known version replicas i ss names is (inl h) =
    subst (AllByRecursion (IsStatementOf version)) (sym h.2) ((one_line replicas h.0 i h.1).of_version version names is, tt)
item_known version replicas i ss names is (inr h) =
    subst (AllByRecursion (IsStatementOf version)) (sym h.4)
    (tt, all_append (IsStatementOf version) h.1 (End ∷ []) (lines_known version replicas h.0.lines h.1 names (subst (IsItemOf version) h.2 is) h.3) (tt, tt))

items_known : (version : Version) (replicas : List Ident) (items : List Item) (ss : List Statement) → AllByRecursion (IsReplicaOf version) replicas → AllByRecursion (IsItemOf version) items
    → ItemsTold replicas items ss → AllByRecursion (IsStatementOf version) ss
items_known version replicas [] ss names is h = subst (AllByRecursion (IsStatementOf version)) (sym h) tt
items_known version replicas (i ∷ items) ss names is h =
    subst (AllByRecursion (IsStatementOf version)) (sym h.4) (all_append (IsStatementOf version) h.0 h.1 (item_known version replicas i h.0 names is.0 h.2) (items_known version replicas items h.1 names is.1 h.3))

-- behind the first line, which tells the version
known_behind : (version : Version) (front ss : List Statement) → AllByRecursion (IsStatementOf version) ss → AreKnown (Session version ∷ front) ss
known_behind version front [] h = tt
known_behind version front (s ∷ ss) h = (h.0, known_behind version (front ++ s ∷ []) ss h.1)

pub told_known : (session : sessions.Session) (ss : List Statement) → IsSession session → Told session ss → AreKnown [] ss
told_known session ss is h =
    let version = session.version in
    subst (AreKnown []) (sym h.whole) (
      tt,
      known_behind version [] (map Replica session.replicas ++ (h.declared ++ h.done))
          (all_append (IsStatementOf version) (map Replica session.replicas) (h.declared ++ h.done) (replicas_known version session.replicas is.replicas_of_version)
          (all_append (IsStatementOf version) h.declared h.done (authors_known version session.replicas session.authors h.declared is.replicas_of_version h.are_declared)
          (items_known version session.replicas session.items h.done is.replicas_of_version is.items_of_version h.are_done))),
    )
