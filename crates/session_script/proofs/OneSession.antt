-- A text spells one session.
use Rattle.std.proofs.Common.{◌≡◌, ℕ, Bool, List, [], ◌∷◌, ◌++◌, Some, map, slice_get, inl, inr, refl, sym, ap, subst, ◌∙◌, append_assoc, append-nil}
use Rattle.grove_sorts.specs.declared.ident.Ident.{Ident}
use Rattle.grove_sorts.specs.declared.version.Version.{Version}
use Rattle.grove_edits.specs.declared.action.Action.{Action}
use Rattle.session_script.specs.declared.author.Declared.{Declared}
use Rattle.session_script.specs.declared.line.Line.{Line}
use Rattle.session_script.specs.declared.line.Line.TheVariants as line
use Rattle.session_script.specs.declared.line.SendLine.{SendLine}
use Rattle.session_script.specs.declared.item.Block as blocks
use Rattle.session_script.specs.declared.item.Item.{Item}
use Rattle.session_script.specs.declared.item.Item.TheVariants as item
use Rattle.session_script.specs.declared.script_kind.ScriptKind.{ScriptKind}
use Rattle.session_script.specs.declared.session.Session as sessions
use Rattle.session_script.specs.declared.statement.SendText.{SendText}
use Rattle.session_script.specs.declared.statement.Statement.{Statement}
use Rattle.session_script.specs.declared.statement.Statement.TheVariants.{Session, Replica, Author, Block, End, Act, Send}
use Rattle.session_script.specs.Order.{version_of, replicas_of}
use Rattle.session_script.specs.Script.{script_text, BeginSession, IsBad}
use Rattle.session_script.specs.Session.{AllDiffer, Spells}
use Rattle.session_script.proofs.Scripts.{Stopped, Stops-unended, one_stop, ended_or_bad}
use Rattle.session_script.proofs.Names.{same_number}
use Rattle.session_script.proofs.OneLine.{SaysItem, one_line, one_item}
use Rattle.session_script.proofs.Told.{AuthorTold, LineTold, OneTold, BlockTold, ItemTold, ItemsTold, Each, Told, sent, told, told_text}
use Rattle.session_script.proofs.Good.{told_good}

-- ---- the replicas of a session

replicas_of-append : (xs ys : List Statement) → replicas_of (xs ++ ys) ≡ replicas_of xs ++ replicas_of ys
replicas_of-append [] ys = refl
replicas_of-append (Replica r ∷ xs) ys = ap (λ (rs : List Ident). r ∷ rs) (replicas_of-append xs ys)
replicas_of-append (x ∷ xs) ys = replicas_of-append xs ys

replicas_of-map : (replicas : List Ident) → replicas_of (map Replica replicas) ≡ replicas
replicas_of-map [] = refl
replicas_of-map (r ∷ replicas) = ap (λ (rs : List Ident). r ∷ rs) (replicas_of-map replicas)

-- a statement that declares no replica
skip_one : (s t : Statement) (ss : List Statement) → s ≡ t → ((xs : List Statement) → replicas_of (t ∷ xs) ≡ replicas_of xs) → replicas_of (s ∷ ss) ≡ replicas_of ss
skip_one s t ss same none = ap (λ (x : Statement). replicas_of (x ∷ ss)) same ∙ none ss

authors_none : (replicas : List Ident) (authors : List Declared) (ss : List Statement) → Each (AuthorTold replicas) authors ss → replicas_of ss ≡ []
authors_none replicas [] [] h = refl
authors_none replicas [] (s ∷ ss) h = absurd h
authors_none replicas (d ∷ authors) [] h = absurd h
authors_none replicas (d ∷ authors) (s ∷ ss) h =
    skip_one s (Author d.author h.0.0) ss h.0.2 (λ xs. refl) ∙ authors_none replicas authors ss h.1

lines_none : (replicas : List Ident) (lines : List Line) (ss : List Statement) → Each (LineTold replicas) lines ss → replicas_of ss ≡ []
lines_none replicas [] [] h = refl
lines_none replicas [] (s ∷ ss) h = absurd h
lines_none replicas (l ∷ lines) [] h = absurd h
lines_none replicas (line.Author author action ∷ lines) (s ∷ ss) h = skip_one s (Act author action) ss h.0 (λ xs. refl) ∙ lines_none replicas lines ss h.1
lines_none replicas (line.Send send ∷ lines) (s ∷ ss) h = skip_one s (Send (sent h.0.0 h.0.1 send)) ss h.0.4 (λ xs. refl) ∙ lines_none replicas lines ss h.1

item_none : (replicas : List Ident) (i : Item) (ss : List Statement) → ItemTold replicas i ss → replicas_of ss ≡ []
item_none replicas i ss (inl h) = ap replicas_of h.2 ∙ (one_line replicas h.0 i h.1).no_replicas []
item_none replicas i ss (inr h) =
    ap replicas_of h.4 ∙ replicas_of-append h.1 (End ∷ []) ∙ append-nil (replicas_of h.1) ∙ lines_none replicas h.0.lines h.1 h.3

items_none : (replicas : List Ident) (items : List Item) (ss : List Statement) → ItemsTold replicas items ss → replicas_of ss ≡ []
items_none replicas [] ss h = ap replicas_of h
items_none replicas (i ∷ items) ss h =
    ap replicas_of h.4 ∙ replicas_of-append h.0 h.1 ∙ ap (λ (rs : List Ident). rs ++ replicas_of h.1) (item_none replicas i h.0 h.2) ∙ items_none replicas items h.1 h.3

told_replicas : (session : sessions.Session) (ss : List Statement) → Told session ss → replicas_of ss ≡ session.replicas
told_replicas session ss h =
    ap replicas_of h.whole ∙ replicas_of-append (map Replica session.replicas) (h.declared ++ h.done)
    ∙ ap (λ (rs : List Ident). rs ++ replicas_of (h.declared ++ h.done)) (replicas_of-map session.replicas)
    ∙ ap (λ (rs : List Ident). session.replicas ++ rs)
    (replicas_of-append h.declared h.done ∙ ap (λ (rs : List Ident). rs ++ replicas_of h.done) (authors_none session.replicas session.authors h.declared h.are_declared)
    ∙ items_none session.replicas session.items h.done h.are_done)
    ∙ append-nil session.replicas

-- ---- lines

abbrev made : ℕ → ℕ → ℕ → ℕ → Bool → Bool → ℕ → SendLine
made from to skip take reverse twice cut = record { from = from; to = to; skip = skip; take = take; reverse = reverse; twice = twice; cut = cut }

send_from_fields : (a b : SendLine) → a.from ≡ b.from → a.to ≡ b.to → a.skip ≡ b.skip → a.take ≡ b.take → a.reverse ≡ b.reverse → a.twice ≡ b.twice → a.cut ≡ b.cut → a ≡ b
send_from_fields a b from to skip take reverse twice cut =
    ap (λ n. made n a.to a.skip a.take a.reverse a.twice a.cut) from
    ∙ ap (λ n. made b.from n a.skip a.take a.reverse a.twice a.cut) to
    ∙ ap (λ n. made b.from b.to n a.take a.reverse a.twice a.cut) skip
    ∙ ap (λ n. made b.from b.to b.skip n a.reverse a.twice a.cut) take
    ∙ ap (λ x. made b.from b.to b.skip b.take x a.twice a.cut) reverse
    ∙ ap (λ x. made b.from b.to b.skip b.take b.reverse x a.cut) twice
    ∙ ap (λ n. made b.from b.to b.skip b.take b.reverse b.twice n) cut

same_send : (replicas : List Ident) (a b : SendLine) (from to into onto : Ident) → AllDiffer replicas → slice_get replicas a.from ≡ Some from → slice_get replicas a.to ≡ Some to
    → slice_get replicas b.from ≡ Some into → slice_get replicas b.to ≡ Some onto → sent from to a ≡ sent into onto b → a ≡ b
same_send replicas a b from to into onto differ af at bf bt same =
    send_from_fields a b
    (same_number replicas a.from b.from from into differ (ap (λ (x : SendText). x.from) same) af bf)
    (same_number replicas a.to b.to to onto differ (ap (λ (x : SendText). x.to) same) at bt)
    (ap (λ (x : SendText). x.skip) same) (ap (λ (x : SendText). x.take) same) (ap (λ (x : SendText). x.reverse) same) (ap (λ (x : SendText). x.twice) same)
    (ap (λ (x : SendText). x.cut) same)

sends_injective : (a b : SendText) → Send a ≡ Send b → a ≡ b
sends_injective a b e = cc

acts_injective : (m n : ℕ) (a b : Action) → Act m a ≡ Act n b → (m ≡ n) × (a ≡ b)
acts_injective m n a b e = (cc, cc)

-- a statement is that of one line
same_line : (replicas : List Ident) (l k : Line) (s : Statement) → AllDiffer replicas → LineTold replicas l s → LineTold replicas k s → l ≡ k
same_line replicas (line.Author m a) (line.Author n b) s differ h g =
    let same = acts_injective m n a b (sym h ∙ g) in ap (λ x. line.Author x a) same.0 ∙ ap (line.Author n) same.1
same_line replicas (line.Author m a) (line.Send send) s differ h g = let e : Act m a ≡ Send (sent g.0 g.1 send) = sym h ∙ g.4 in absurd cc
same_line replicas (line.Send send) (line.Author n b) s differ h g = let e : Send (sent h.0 h.1 send) ≡ Act n b = sym h.4 ∙ g in absurd cc
same_line replicas (line.Send a) (line.Send b) s differ h g =
    ap line.Send (same_send replicas a b h.0 h.1 g.0 g.1 differ h.2 h.3 g.2 g.3 (sends_injective (sent h.0 h.1 a) (sent g.0 g.1 b) (sym h.4 ∙ g.4)))

-- no line of a block ends it
no_end : (replicas : List Ident) (l : Line) → LineTold replicas l End → ⊥
no_end replicas (line.Author author action) h = cc
no_end replicas (line.Send send) h = let e : End ≡ Send (sent h.0 h.1 send) = h.4 in cc

same_lines : (replicas : List Ident) (ls ks : List Line) (xs ys x y : List Statement) → AllDiffer replicas → Each (LineTold replicas) ls xs → Each (LineTold replicas) ks ys
    → xs ++ End ∷ x ≡ ys ++ End ∷ y → (ls ≡ ks) × (x ≡ y)
same_lines replicas [] [] [] [] x y differ h g same = (refl, cc)
same_lines replicas [] [] [] (t ∷ ys) x y differ h g same = absurd g
same_lines replicas [] [] (s ∷ xs) ys x y differ h g same = absurd h
same_lines replicas [] (k ∷ ks) [] [] x y differ h g same = absurd g
same_lines replicas [] (k ∷ ks) [] (t ∷ ys) x y differ h g same =
    let first : t ≡ End = cc in absurd (no_end replicas k (subst (LineTold replicas k) first g.0))
same_lines replicas [] (k ∷ ks) (s ∷ xs) ys x y differ h g same = absurd h
same_lines replicas (l ∷ ls) ks [] ys x y differ h g same = absurd h
same_lines replicas (l ∷ ls) [] (s ∷ xs) [] x y differ h g same =
    let first : s ≡ End = cc in absurd (no_end replicas l (subst (LineTold replicas l) first h.0))
same_lines replicas (l ∷ ls) [] (s ∷ xs) (t ∷ ys) x y differ h g same = absurd g
same_lines replicas (l ∷ ls) (k ∷ ks) (s ∷ xs) [] x y differ h g same = absurd g
same_lines replicas (l ∷ ls) (k ∷ ks) (s ∷ xs) (t ∷ ys) x y differ h g same =
    let first : s ≡ t = cc in
    let mine : l ≡ k = same_line replicas l k t differ (subst (LineTold replicas l) first h.0) g.0 in
    let rest = same_lines replicas ls ks xs ys x y differ h.1 g.1 (cc) in
    (ap (λ (m : Line). m ∷ ls) mine ∙ ap (λ (ms : List Line). k ∷ ms) rest.0, rest.1)

-- ---- items

block_from_lines : (a b : blocks.Block) → a.lines ≡ b.lines → a ≡ b
block_from_lines a b same = ap (λ (ls : List Line). record { lines = ls }) same

-- what an item's statements are, with others behind them
one_parts : (replicas : List Ident) (i : Item) (mine rest ss : List Statement) (h : OneTold replicas i mine) → ss ≡ mine ++ rest → ss ≡ h.0 ∷ rest
one_parts replicas i mine rest ss h same = same ∙ ap (λ (xs : List Statement). xs ++ rest) h.2

block_parts : (replicas : List Ident) (i : Item) (mine rest ss : List Statement) (h : BlockTold replicas i mine) → ss ≡ mine ++ rest → ss ≡ Block ∷ h.1 ++ (End ∷ rest)
block_parts replicas i mine rest ss h same =
    same ∙ ap (λ (xs : List Statement). xs ++ rest) h.4 ∙ ap (λ (t : List Statement). Block ∷ t) (append_assoc h.1 (End ∷ []) rest)

-- a block is no item of one line
no_block : (replicas : List Ident) (i : Item) (s : Statement) → SaysItem replicas s i → s ≡ Block → ⊥
no_block replicas i s says is = subst (λ (x : Statement). SaysItem replicas x i) is says

-- an item has some statement
begins : (replicas : List Ident) (i : Item) (mine rest ss : List Statement) → ItemTold replicas i mine → ss ≡ mine ++ rest → (s : Statement) × (more : List Statement) × (ss ≡ s ∷ more)
begins replicas i mine rest ss (inl h) same = (h.0, rest, one_parts replicas i mine rest ss h same)
begins replicas i mine rest ss (inr h) same = (Block, h.1 ++ (End ∷ rest), block_parts replicas i mine rest ss h same)

-- the first item of some statements, and what is behind it
same_item : (replicas : List Ident) (i j : Item) (xs ys x y ss : List Statement) → AllDiffer replicas → ItemTold replicas i xs → ItemTold replicas j ys → ss ≡ xs ++ x → ss ≡ ys ++ y → (i ≡ j) × (x ≡ y)
same_item replicas i j xs ys x y ss differ (inl h) (inl g) of_x of_y =
    let e : h.0 ∷ x ≡ g.0 ∷ y = sym (one_parts replicas i xs x ss h of_x) ∙ one_parts replicas j ys y ss g of_y in
    let first : h.0 ≡ g.0 = cc in
    (one_item replicas g.0 i j differ (subst (λ (s : Statement). SaysItem replicas s i) first h.1) g.1, cc)
same_item replicas i j xs ys x y ss differ (inl h) (inr g) of_x of_y =
    let e : h.0 ∷ x ≡ Block ∷ g.1 ++ (End ∷ y) = sym (one_parts replicas i xs x ss h of_x) ∙ block_parts replicas j ys y ss g of_y in
    absurd (no_block replicas i h.0 h.1 (cc))
same_item replicas i j xs ys x y ss differ (inr h) (inl g) of_x of_y =
    let e : g.0 ∷ y ≡ Block ∷ h.1 ++ (End ∷ x) = sym (one_parts replicas j ys y ss g of_y) ∙ block_parts replicas i xs x ss h of_x in
    absurd (no_block replicas j g.0 g.1 (cc))
same_item replicas i j xs ys x y ss differ (inr h) (inr g) of_x of_y =
    let e : Block ∷ h.1 ++ (End ∷ x) ≡ Block ∷ g.1 ++ (End ∷ y) = sym (block_parts replicas i xs x ss h of_x) ∙ block_parts replicas j ys y ss g of_y in
    let inner : h.1 ++ (End ∷ x) ≡ g.1 ++ (End ∷ y) = cc in
    let parts = same_lines replicas h.0.lines g.0.lines h.1 g.1 x y differ h.3 g.3 inner in
    (h.2 ∙ ap item.Block (block_from_lines h.0 g.0 parts.0) ∙ sym g.2, parts.1)

same_items : (replicas : List Ident) (is js : List Item) (xs ys : List Statement) → AllDiffer replicas → xs ≡ ys → ItemsTold replicas is xs → ItemsTold replicas js ys → is ≡ js
same_items replicas [] [] xs ys differ same h g = refl
same_items replicas [] (j ∷ js) xs ys differ same h g =
    let some = begins replicas j g.0 g.1 ys g.2 g.4 in
    let e : [] ≡ some.0 ∷ some.1 = sym h ∙ same ∙ some.2 in absurd cc
same_items replicas (i ∷ is) [] xs ys differ same h g =
    let some = begins replicas i h.0 h.1 xs h.2 h.4 in
    let e : [] ≡ some.0 ∷ some.1 = sym g ∙ sym same ∙ some.2 in absurd cc
same_items replicas (i ∷ is) (j ∷ js) xs ys differ same h g =
    let parts = same_item replicas i j h.0 g.0 h.1 g.1 xs differ h.2 g.2 h.4 (same ∙ g.4) in
    ap (λ (k : Item). k ∷ is) parts.0 ∙ ap (λ (more : List Item). j ∷ more) (same_items replicas is js h.1 g.1 differ parts.1 h.3 g.3)

-- ---- authors

declared_from_fields : (a b : Declared) → a.author ≡ b.author → a.replica ≡ b.replica → a ≡ b
declared_from_fields a b author replica =
    let with_author : a ≡ record { author = b.author; replica = a.replica } = ap (λ (n : ℕ). record { author = n; replica = a.replica }) author in
    with_author ∙ ap (λ (n : ℕ). record { author = b.author; replica = n }) replica

authors_injective : (m n : ℕ) (r s : Ident) → Author m r ≡ Author n s → (m ≡ n) × (r ≡ s)
authors_injective m n r s e = (cc, cc)

-- no item begins with the declaration of an author
item_no_author : (replicas : List Ident) (i : Item) (mine rest : List Statement) (n : ℕ) (r : Ident) (more : List Statement) → ItemTold replicas i mine → Author n r ∷ more ≡ mine ++ rest → ⊥
item_no_author replicas i mine rest n r more (inl h) same =
    let e : Author n r ∷ more ≡ h.0 ∷ rest = one_parts replicas i mine rest (Author n r ∷ more) h same in
    let first : h.0 ≡ Author n r = cc in
    subst (λ (x : Statement). SaysItem replicas x i) first h.1
item_no_author replicas i mine rest n r more (inr h) same =
    let e : Author n r ∷ more ≡ Block ∷ h.1 ++ (End ∷ rest) = block_parts replicas i mine rest (Author n r ∷ more) h same in cc

no_author : (replicas : List Ident) (items : List Item) (n : ℕ) (r : Ident) (more : List Statement) → ItemsTold replicas items (Author n r ∷ more) → ⊥
no_author replicas [] n r more h = cc
no_author replicas (i ∷ items) n r more h = item_no_author replicas i h.0 h.1 n r more h.2 h.4

-- nor do items whose statements are a declaration and others
no_author_in : (replicas : List Ident) (items : List Item) (d : Declared) (s : Statement) (more ss : List Statement) → ItemsTold replicas items ss → ss ≡ s ∷ more → AuthorTold replicas d s → ⊥
no_author_in replicas items d s more ss h same g =
    no_author replicas items d.author g.0 more (subst (ItemsTold replicas items) (same ∙ ap (λ (x : Statement). x ∷ more) g.2) h)

same_authors : (replicas : List Ident) (ds es : List Declared) (is js : List Item) (xs ys x y : List Statement) → AllDiffer replicas → Each (AuthorTold replicas) ds xs → Each (AuthorTold replicas) es ys
    → ItemsTold replicas is x → ItemsTold replicas js y → xs ++ x ≡ ys ++ y → (ds ≡ es) × (x ≡ y)
same_authors replicas [] [] is js [] [] x y differ h g of_x of_y same = (refl, same)
same_authors replicas [] [] is js [] (t ∷ ys) x y differ h g of_x of_y same = absurd g
same_authors replicas [] [] is js (s ∷ xs) ys x y differ h g of_x of_y same = absurd h
same_authors replicas [] (e ∷ es) is js [] [] x y differ h g of_x of_y same = absurd g
same_authors replicas [] (e ∷ es) is js [] (t ∷ ys) x y differ h g of_x of_y same = absurd (no_author_in replicas is e t (ys ++ y) x of_x same g.0)
same_authors replicas [] (e ∷ es) is js (s ∷ xs) ys x y differ h g of_x of_y same = absurd h
same_authors replicas (d ∷ ds) es is js [] ys x y differ h g of_x of_y same = absurd h
same_authors replicas (d ∷ ds) [] is js (s ∷ xs) [] x y differ h g of_x of_y same = absurd (no_author_in replicas js d s (xs ++ x) y of_y (sym same) h.0)
same_authors replicas (d ∷ ds) [] is js (s ∷ xs) (t ∷ ys) x y differ h g of_x of_y same = absurd g
same_authors replicas (d ∷ ds) (e ∷ es) is js (s ∷ xs) [] x y differ h g of_x of_y same = absurd g
same_authors replicas (d ∷ ds) (e ∷ es) is js (s ∷ xs) (t ∷ ys) x y differ h g of_x of_y same =
    let first : s ≡ t = cc in
    let one = authors_injective d.author e.author h.0.0 g.0.0 (sym h.0.2 ∙ first ∙ g.0.2) in
    let mine : d ≡ e = declared_from_fields d e one.0 (same_number replicas d.replica e.replica h.0.0 g.0.0 differ one.1 h.0.1 g.0.1) in
    let rest = same_authors replicas ds es is js xs ys x y differ h.1 g.1 of_x of_y (cc) in
    (ap (λ (k : Declared). k ∷ ds) mine ∙ ap (λ (ks : List Declared). e ∷ ks) rest.0, rest.1)

-- ---- the whole

same_back : (front : List Statement) (x y : List Statement) → front ++ x ≡ front ++ y → x ≡ y
same_back [] x y same = same
same_back (s ∷ front) x y same = same_back front x y (cc)

abbrev made_session : Version → List Ident → List Declared → List Item → sessions.Session
made_session version replicas authors items = record { version = version; replicas = replicas; authors = authors; items = items }

session_from_fields : (a b : sessions.Session) → a.version ≡ b.version → a.replicas ≡ b.replicas → a.authors ≡ b.authors → a.items ≡ b.items → a ≡ b
session_from_fields a b version replicas authors items =
    ap (λ (x : Version). made_session x a.replicas a.authors a.items) version
    ∙ ap (λ (x : List Ident). made_session b.version x a.authors a.items) replicas
    ∙ ap (λ (x : List Declared). made_session b.version b.replicas x a.items) authors
    ∙ ap (λ (x : List Item). made_session b.version b.replicas b.authors x) items

same_session : (a b : sessions.Session) (ss : List Statement) → AllDiffer b.replicas → Told a ss → Told b ss → a ≡ b
same_session a b ss differ h g =
    let replicas : a.replicas ≡ b.replicas = sym (told_replicas a ss h) ∙ told_replicas b ss g in
    let version : a.version ≡ b.version = sym (ap version_of h.whole) ∙ ap version_of g.whole in
    let of_a : ss ≡ Session b.version ∷ map Replica b.replicas ++ (h.declared ++ h.done) =
    h.whole ∙ ap (λ (v : Version). Session v ∷ map Replica a.replicas ++ (h.declared ++ h.done)) version ∙ ap (λ (rs : List Ident). Session b.version ∷ map Replica rs ++ (h.declared ++ h.done)) replicas in
    let heads : Session b.version ∷ map Replica b.replicas ++ (h.declared ++ h.done) ≡ Session b.version ∷ map Replica b.replicas ++ (g.declared ++ g.done) = sym of_a ∙ g.whole in
    let bodies : h.declared ++ h.done ≡ g.declared ++ g.done = same_back (Session b.version ∷ map Replica b.replicas) (h.declared ++ h.done) (g.declared ++ g.done) heads in
    let are_declared : Each (AuthorTold b.replicas) a.authors h.declared = subst (λ (rs : List Ident). Each (AuthorTold rs) a.authors h.declared) replicas h.are_declared in
    let are_done : ItemsTold b.replicas a.items h.done = subst (λ (rs : List Ident). ItemsTold rs a.items h.done) replicas h.are_done in
    let authors = same_authors b.replicas a.authors b.authors a.items b.items h.declared g.declared h.done g.done differ are_declared g.are_declared are_done g.are_done bodies in
    session_from_fields a b version replicas authors.0 (same_items b.replicas a.items b.items h.done g.done differ authors.1 are_done g.are_done)

abbrev whole_text : (text : List ℕ) (ss : List Statement) → BeginSession ss → text ≡ script_text ss → Stopped text
whole_text text ss begin is =
    record { before = ss; rest = []; begin = begin; parts = is ∙ sym (append-nil (script_text ss)); stops = Stops-unended ss [] tt }

-- a text spells one session
pub one_session : (text : List ℕ) (a b : sessions.Session) → Spells text a → Spells text b → a ≡ b
one_session text a b h g =
    let of_a = told a h.is_session in
    let of_b = told b g.is_session in
    let good_a = told_good a of_a.0 h.is_session of_a.1 in
    let good_b = told_good b of_b.0 g.is_session of_b.1 in
    let same = one_stop text (whole_text text of_a.0 good_a.0 (h.spelled ∙ sym (told_text a of_a.0 of_a.1))) (whole_text text of_b.0 good_b.0 (g.spelled ∙ sym (told_text b of_b.0 of_b.1))) in
    same_session a b of_b.0 g.is_session.replicas_differ (subst (Told a) same.0 of_a.1) of_b.1

-- and then it has no bad line
pub session_or_fault : (text : List ℕ) (session : sessions.Session) (line : ℕ) (kind : ScriptKind) → Spells text session → IsBad text line kind → ⊥
session_or_fault text session line kind h bad =
    let of_session = told session h.is_session in
    let good = told_good session of_session.0 h.is_session of_session.1 in
    ended_or_bad text of_session.0 line kind good.0 good.1 (h.spelled ∙ sym (told_text session of_session.0 of_session.1)) bad
