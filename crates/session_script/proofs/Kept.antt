-- What is kept of a session while it is read: the lines that it has so far, and that it keeps the limits.
use Rattle.std.proofs.Common.{◌≡◌, ℕ, suc, ◌+◌, ◌*◌, ◌<◌, ◌≤◌, Bool, true, false, not, ◌&&◌, ◌||◌, ◌==◌, nat_lt, nat_le, List, [], ◌∷◌, ◌++◌, Some, None, length, map, codes, decimal, slice_get, cond, refl, sym, ap, subst, ◌∙◌, append_assoc, append-nil, length-append, arith}
use Rattle.std.specs.List.{list_all, list_any, count_by, sum_by, flat_map, AllByRecursion, Contains}
use Rattle.std.proofs.lemmas.List.{map-append, length-map}
use Rattle.std.proofs.lemmas.Grind.{flat_map-append}
use Rattle.std.proofs.lemmas.Option.{slice_get_within}
use Rattle.std.proofs.lemmas.Bool.Decides.{nat_tests}
use Rattle.std.proofs.lemmas.List.Sums.{sum_by-append, sum_by-cons}
use Rattle.grove_sorts.specs.declared.ident.Ident.{Ident}
use Rattle.grove_sorts.specs.Ident.{ident_bytes}
use Rattle.grove_sorts.specs.declared.version.Version.{Version}
use Rattle.grove_sorts.proofs.Truths.{both_true, not_true, neither}
use Rattle.grove_edits.specs.declared.action.Action.{Action}
use Rattle.edit_text.specs.Line.{spaced}
use Rattle.session_script.specs.declared.author.Declared.{Declared}
use Rattle.session_script.specs.declared.line.Line.{Line}
use Rattle.session_script.specs.declared.line.Line.TheVariants as line
use Rattle.session_script.specs.declared.item.Item.{Item}
use Rattle.session_script.specs.declared.item.Item.TheVariants as item
use Rattle.session_script.specs.declared.item.Block as blocks
use Rattle.session_script.specs.declared.session.Session as sessions
use Rattle.session_script.specs.declared.statement.SendText.{SendText}
use Rattle.session_script.specs.declared.statement.Statement.{Statement}
use Rattle.session_script.specs.declared.statement.Statement.TheVariants.{Session, Replica, Author, Block, End, Act, Send}
use Rattle.session_script.specs.Action.{IsAuthor, ActionInRange, action_line}
use Rattle.session_script.specs.Statement.{head_line, statement_text, InRange, IsReplicaOf, IsStatementOf, send_line}
use Rattle.session_script.specs.Order.{is_same_ident, is_beyond, named_replicas}
use Rattle.session_script.specs.Session.{replica_name, replica_line, author_line, line_text, item_lines, session_lines, AllDiffer, author_numbers, IsSend, IsItem, IsDeclared, IsLineOf, IsItemOf, IsSession, is_send, is_block, is_show, send_count}
use Rattle.session_script.specs.View.{View, seen, start, open_at, items_at, place_at, declared_at, repeats_replica_at, unknown_author_at, repeats_author_at, too_many_at, fault_at}
use Rattle.session_script.specs.Reading.{numbered, AuthorsAfter, ItemsAfter, LinesAfter}
use Rattle.session_script.proofs.Views.{first_fault, counted-add}
use Rattle.session_script.proofs.Names.{name_is, same_ident_itself}
use Rattle.session_script.proofs.OneLine.{IsLineIn, IsItemIn, is_item_of, IsOneLine, one_line, item_after}
use Rattle.session_script.proofs.Told.{all_append}
use Rattle.session_script.proofs.Good.{same_number_exact}

-- ---- where there is no fault no condition holds

pub record Fine (v : View) (s : Statement) : Type 0 where
  pub place : place_at v s ≡ true
  pub declared : list_all (declared_at v) (named_replicas s) ≡ true
  pub new_replica : repeats_replica_at v s ≡ false
  pub known_author : unknown_author_at v s ≡ false
  pub new_author : repeats_author_at v s ≡ false
  pub few : too_many_at v s ≡ false

six_hold : (a b c d e f : Bool) → first_fault a b c d e f ≡ None → (a ≡ true) × (b ≡ true) × (c ≡ false) × (d ≡ false) × (e ≡ false) × (f ≡ false)
six_hold false b c d e f is = absurd cc
six_hold true false c d e f is = absurd cc
six_hold true true true d e f is = absurd cc
six_hold true true false true e f is = absurd cc
six_hold true true false false true f is = absurd cc
six_hold true true false false false true is = absurd cc
six_hold true true false false false false is = (refl, refl, refl, refl, refl, refl)

pub fine_at : (v : View) (s : Statement) → fault_at v s ≡ None → Fine v s
fine_at v s none =
    let h = six_hold (place_at v s) (list_all (declared_at v) (named_replicas s)) (repeats_replica_at v s) (unknown_author_at v s) (repeats_author_at v s) (too_many_at v s) none in
    record { place = h.0; declared = h.1; new_replica = h.2; known_author = h.3; new_author = h.4; few = h.5 }

-- ---- tests

never : {P : Type 0} → (a : Bool) → (a && false) ≡ true → P
never true h = absurd cc
never false h = absurd cc

not_false : (a : Bool) → not a ≡ false → a ≡ true
not_false true h = refl
not_false false h = absurd cc

kept_true : (a : Bool) → (a || false) ≡ true → a ≡ true
kept_true true h = refl
kept_true false h = absurd cc

is_below : (n limit : ℕ) → nat_le limit n ≡ false → n < limit
is_below n limit h = grind (arith, nat_tests)

is_within : (n limit : ℕ) → nat_lt limit n ≡ false → n ≤ limit
is_within n limit h = grind (arith, nat_tests)

is_some : (n : ℕ) → (n == 0) ≡ false → 1 ≤ n
is_some n h = grind (arith, nat_tests)

is_less : (a b : ℕ) → nat_lt a b ≡ true → a < b
is_less a b h = grind (arith, nat_tests)

less : (a b : ℕ) → a < b → nat_lt a b ≡ true
less a b h = grind (arith, nat_tests)

no_less : (a b : ℕ) → b ≤ a → nat_lt a b ≡ false
no_less a b h = grind (arith, nat_tests)

-- ---- one more at the end

pub all_push : {A : Type 0} → (P : A → Type 0) (xs : List A) (x : A) → AllByRecursion P xs → P x → AllByRecursion P (xs ++ x ∷ [])
all_push P xs x all is = all_append P xs (x ∷ []) all (is, tt)

all_of_none : {A : Type 0} → (P : A → Type 0) (xs : List A) → xs ≡ [] → AllByRecursion P xs
all_of_none P xs none = subst (AllByRecursion P) (sym none) tt

sum_push : {A : Type 0} → (f : A → ℕ) (xs : List A) (x : A) → sum_by f (xs ++ x ∷ []) ≡ sum_by f xs + f x
sum_push f xs x = omega (arith, sum_by-append f xs (x ∷ []), sum_by-cons f x [])

count_push : {A : Type 0} → (p : A → Bool) (xs : List A) (x : A) → count_by p (xs ++ x ∷ []) ≡ count_by p xs + cond (p x) 1 0
count_push p xs x = sum_push (λ y. cond (p y) 1 0) xs x

is_other : {A : Type 0} → (same : A → A → Bool) → ((a : A) → same a a ≡ true) → (x y : A) → same x y ≡ false → y ≡ x → ⊥
is_other same itself x y other e =
    let yes : same x y ≡ true = ap (same x) e ∙ itself x in cc

differ_push : {A : Type 0} → (same : A → A → Bool) → ((a : A) → same a a ≡ true) → (xs : List A) (x : A) → AllDiffer xs → list_any (same x) xs ≡ false → AllDiffer (xs ++ x ∷ [])
differ_push same itself [] x h other = (tt, tt)
differ_push same itself (y ∷ xs) x h other =
    let parts = neither (same x y) (list_any (same x) xs) other in
    (all_push (λ z. y ≡ z → ⊥) xs x h.0 (is_other same itself x y parts.0), differ_push same itself xs x h.1 parts.1)

contains_by : (n author : ℕ) (numbers : List ℕ) (b : Bool) → (n == author) ≡ b → (list_any (λ m. m == author) numbers ≡ true → Contains numbers author)
    → (b || list_any (λ m. m == author) numbers) ≡ true → Contains (n ∷ numbers) author
contains_by n author numbers true is rest h = (0, omega arith, sym (same_number_exact author n is))
contains_by n author numbers false is rest h = let more = rest h in (suc more.0, omega (arith, more.1), more.2)

contains : (numbers : List ℕ) (author : ℕ) → list_any (λ m. m == author) numbers ≡ true → Contains numbers author
contains [] author h = absurd cc
contains (n ∷ numbers) author h = contains_by n author numbers (n == author) refl (contains numbers author) h

-- ---- the lines so far

abbrev opened : List Ident → Bool → List Line → List (List ℕ)
opened replicas true lines = codes "block" ∷ map (line_text replicas) lines
opened replicas false lines = []

abbrev headed : Version → List Ident → List Declared → List (List ℕ) → List (List ℕ)
headed version replicas authors rest = head_line version ∷ map replica_line replicas ++ (map (author_line replicas) authors ++ rest)

-- the lines of a session, and of a block that is open
abbrev all_lines : Version → List Ident → List Declared → List Item → Bool → List Line → List (List ℕ)
all_lines version replicas authors items is_open lines = headed version replicas authors (flat_map (item_lines replicas) items ++ opened replicas is_open lines)

headed-push : (version : Version) (replicas : List Ident) (authors : List Declared) (rest : List (List ℕ)) (t : List ℕ) → headed version replicas authors rest ++ t ∷ [] ≡ headed version replicas authors (rest ++ t ∷ [])
headed-push version replicas authors rest t =
    ap (λ (ts : List (List ℕ)). head_line version ∷ ts)
    (append_assoc (map replica_line replicas) (map (author_line replicas) authors ++ rest) (t ∷ [])
    ∙ ap (λ (ts : List (List ℕ)). map replica_line replicas ++ ts) (append_assoc (map (author_line replicas) authors) rest (t ∷ [])))

-- where no item has come
only_headed : (version : Version) (replicas : List Ident) (authors : List Declared) (items : List Item) (is_open : Bool) (lines : List Line) → items ≡ [] → is_open ≡ false
    → all_lines version replicas authors items is_open lines ≡ headed version replicas authors []
only_headed version replicas authors items is_open lines none closed =
    ap (λ (is : List Item). all_lines version replicas authors is is_open lines) none ∙ ap (λ o. all_lines version replicas authors [] o lines) closed

one_replica_more : (version : Version) (replicas : List Ident) (r : Ident) → headed version replicas [] [] ++ replica_line r ∷ [] ≡ headed version (replicas ++ r ∷ []) [] []
one_replica_more version replicas r =
    headed-push version replicas [] [] (replica_line r)
    ∙ ap (λ (ts : List (List ℕ)). head_line version ∷ ts) (sym (append-nil (map replica_line (replicas ++ r ∷ [])) ∙ map-append replica_line replicas (r ∷ [])))

one_author_more : (version : Version) (replicas : List Ident) (authors : List Declared) (d : Declared) → headed version replicas authors [] ++ author_line replicas d ∷ [] ≡ headed version replicas (authors ++ d ∷ []) []
one_author_more version replicas authors d =
    headed-push version replicas authors [] (author_line replicas d)
    ∙ ap (λ (ts : List (List ℕ)). head_line version ∷ map replica_line replicas ++ ts)
    (sym (append-nil (map (author_line replicas) (authors ++ d ∷ [])) ∙ map-append (author_line replicas) authors (d ∷ [])))

-- the lines of one item more
items_push : (replicas : List Ident) (items : List Item) (i : Item) → flat_map (item_lines replicas) (items ++ i ∷ []) ≡ flat_map (item_lines replicas) items ++ item_lines replicas i
items_push replicas items i =
    flat_map-append (item_lines replicas) items (i ∷ []) ∙ ap (λ (ts : List (List ℕ)). flat_map (item_lines replicas) items ++ ts) (append-nil (item_lines replicas i))

one_item_more : (version : Version) (replicas : List Ident) (authors : List Declared) (items : List Item) (i : Item) (is_open : Bool) (lines : List Line) (t : List ℕ) → is_open ≡ false → item_lines replicas i ≡ t ∷ []
    → all_lines version replicas authors items is_open lines ++ t ∷ [] ≡ all_lines version replicas authors (items ++ i ∷ []) is_open lines
one_item_more version replicas authors items i is_open lines t closed is =
    let before = flat_map (item_lines replicas) items in
    ap (λ o. all_lines version replicas authors items o lines ++ t ∷ []) closed
    ∙ headed-push version replicas authors (before ++ []) t
    ∙ ap (headed version replicas authors)
    (ap (λ (ts : List (List ℕ)). ts ++ t ∷ []) (append-nil before) ∙ ap (λ (ts : List (List ℕ)). before ++ ts) (sym is)
    ∙ sym (append-nil (flat_map (item_lines replicas) (items ++ i ∷ [])) ∙ items_push replicas items i))
    ∙ ap (λ o. all_lines version replicas authors (items ++ i ∷ []) o lines) (sym closed)

block_opened : (version : Version) (replicas : List Ident) (authors : List Declared) (items : List Item) (old new : Bool) (lines : List Line) → old ≡ false → new ≡ true → lines ≡ []
    → all_lines version replicas authors items old lines ++ codes "block" ∷ [] ≡ all_lines version replicas authors items new lines
block_opened version replicas authors items old new lines closed is_open none =
    let before = flat_map (item_lines replicas) items in
    ap (λ o. all_lines version replicas authors items o lines ++ codes "block" ∷ []) closed
    ∙ headed-push version replicas authors (before ++ []) (codes "block")
    ∙ ap (headed version replicas authors) (ap (λ (ts : List (List ℕ)). ts ++ codes "block" ∷ []) (append-nil before))
    ∙ ap (λ (ls : List Line). all_lines version replicas authors items true ls) (sym none)
    ∙ ap (λ o. all_lines version replicas authors items o lines) (sym is_open)

block_ended : (version : Version) (replicas : List Ident) (authors : List Declared) (items : List Item) (block : blocks.Block) (old new : Bool) (lines more : List Line) → old ≡ true → new ≡ false → block.lines ≡ lines
    → all_lines version replicas authors items old lines ++ codes "end" ∷ [] ≡ all_lines version replicas authors (items ++ item.Block block ∷ []) new more
block_ended version replicas authors items block old new lines more is_open closed same =
    let before = flat_map (item_lines replicas) items in
    ap (λ o. all_lines version replicas authors items o lines ++ codes "end" ∷ []) is_open
    ∙ ap (λ (ls : List Line). all_lines version replicas authors items true ls ++ codes "end" ∷ []) (sym same)
    ∙ headed-push version replicas authors (before ++ opened replicas true block.lines) (codes "end")
    ∙ ap (headed version replicas authors)
    (append_assoc before (opened replicas true block.lines) (codes "end" ∷ [])
    ∙ sym (append-nil (flat_map (item_lines replicas) (items ++ item.Block block ∷ [])) ∙ items_push replicas items (item.Block block)))
    ∙ ap (λ o. all_lines version replicas authors (items ++ item.Block block ∷ []) o more) (sym closed)

one_line_more : (version : Version) (replicas : List Ident) (authors : List Declared) (items : List Item) (is_open : Bool) (lines : List Line) (l : Line) → is_open ≡ true
    → all_lines version replicas authors items is_open lines ++ line_text replicas l ∷ [] ≡ all_lines version replicas authors items is_open (lines ++ l ∷ [])
one_line_more version replicas authors items is_open lines l opening =
    let before = flat_map (item_lines replicas) items in
    ap (λ o. all_lines version replicas authors items o lines ++ line_text replicas l ∷ []) opening
    ∙ headed-push version replicas authors (before ++ opened replicas true lines) (line_text replicas l)
    ∙ ap (headed version replicas authors)
    (append_assoc before (opened replicas true lines) (line_text replicas l ∷ [])
    ∙ ap (λ (ts : List (List ℕ)). before ++ (codes "block" ∷ ts)) (sym (map-append (line_text replicas) lines (l ∷ []))))
    ∙ ap (λ o. all_lines version replicas authors items o (lines ++ l ∷ [])) (sym opening)

-- ---- the lines that were read are the lines so far

pub record HasLines (texts : List (List ℕ)) (v : View) (authors : List Declared) (items : List Item) (lines : List Line) : Type 0 where
  -- nothing was read
  pub nothing : v.nothing ≡ true → (texts ≡ []) × (v.replicas ≡ []) × (authors ≡ []) × (items ≡ []) × (v.blocks ≡ 0)
  -- neither an author nor an item has come
  pub only_replicas : v.only_replicas ≡ true → (authors ≡ []) × (items ≡ []) × (v.blocks ≡ 0)
  -- no item has come
  pub only_declared : v.only_declared ≡ true → (items ≡ []) × (v.blocks ≡ 0)
  -- a replica has come behind the head
  pub begun : v.some_replica ≡ true → (v.begun ≡ true) × (1 ≤ length v.replicas)
  pub told : v.begun ≡ true → texts ≡ all_lines v.version v.replicas authors items (open_at v) lines
  -- one block at most is open, and lines stand in it alone
  pub ended : v.ends ≤ v.blocks
  pub one_open : v.blocks ≤ suc v.ends
  pub between : v.blocks ≤ v.ends → lines ≡ []

pub lines_of_nothing : HasLines [] start [] [] []
lines_of_nothing = record {
  nothing = λ h. (refl, refl, refl, refl, refl);
  only_replicas = λ h. (refl, refl, refl);
  only_declared = λ h. (refl, refl);
  begun = λ h. absurd cc;
  told = λ h. absurd cc;
  ended = omega arith;
  one_open = omega arith;
  between = λ h. refl;
}

no_blocks : (ends blocks : ℕ) → blocks ≡ 0 → nat_lt ends blocks ≡ false
no_blocks ends blocks none = no_less ends blocks (omega arith)

session_lines_more : (version : Version) (texts : List (List ℕ)) (v : View) (authors : List Declared) (items : List Item) (lines : List Line) → HasLines texts v authors items lines → Fine v (Session version)
    → HasLines (texts ++ head_line version ∷ []) (seen v (Session version)) authors items lines
session_lines_more version texts v authors items lines h fine =
    let none = h.nothing fine.place in record {
      nothing = λ e. absurd cc;
      only_replicas = λ e. (none.2, none.3, none.4);
      only_declared = λ e. (none.3, none.4);
      begun = λ e. let yes = h.begun (kept_true v.some_replica e) in absurd (omega (arith, yes.1, ap length none.1));
      told = λ e.
          ap (λ (ts : List (List ℕ)). ts ++ head_line version ∷ []) none.0
          ∙ ap (λ (rs : List Ident). headed version rs [] []) (sym none.1)
          ∙ ap (λ (ds : List Declared). headed version v.replicas ds []) (sym none.2)
          ∙ sym (only_headed version v.replicas authors items (open_at v) lines none.3 (no_blocks v.ends v.blocks none.4));
      ended = h.ended;
      one_open = h.one_open;
      between = h.between;
    }

replica_lines_more : (texts : List (List ℕ)) (v : View) (authors : List Declared) (items : List Item) (lines : List Line) (r : Ident) → HasLines texts v authors items lines → Fine v (Replica r)
    → HasLines (texts ++ replica_line r ∷ []) (seen v (Replica r)) authors items lines
replica_lines_more texts v authors items lines r h fine =
    let place = both_true v.begun v.only_replicas fine.place in
    let none = h.only_replicas place.1 in
    let closed = no_blocks v.ends v.blocks none.2 in
    let replicas = v.replicas ++ r ∷ [] in record {
      nothing = λ e. absurd cc;
      only_replicas = λ e. none;
      only_declared = λ e. (none.1, none.2);
      begun = λ e. (ap (λ b. b || false) place.0, omega (arith, length-append v.replicas (r ∷ [])));
      told = λ e.
          ap (λ (ts : List (List ℕ)). ts ++ replica_line r ∷ []) (h.told place.0 ∙ only_headed v.version v.replicas authors items (open_at v) lines none.1 closed)
          ∙ ap (λ (ds : List Declared). headed v.version v.replicas ds [] ++ replica_line r ∷ []) none.0
          ∙ one_replica_more v.version v.replicas r
          ∙ ap (λ (ds : List Declared). headed v.version replicas ds []) (sym none.0)
          ∙ sym (only_headed v.version replicas authors items (open_at v) lines none.1 closed);
      ended = h.ended;
      one_open = h.one_open;
      between = h.between;
    }

author_lines_more : (texts : List (List ℕ)) (v : View) (authors : List Declared) (items : List Item) (lines : List Line) (n : ℕ) (r : Ident) (k : ℕ) → HasLines texts v authors items lines → Fine v (Author n r)
    → slice_get v.replicas k ≡ Some r
    → HasLines (texts ++ statement_text (Author n r) ∷ []) (seen v (Author n r)) (authors ++ record { author = n; replica = k } ∷ []) items lines
author_lines_more texts v authors items lines n r k h fine is =
    let d : Declared = record { author = n; replica = k } in
    let t = statement_text (Author n r) in
    let place = both_true v.some_replica v.only_declared fine.place in
    let yes = h.begun place.0 in
    let none = h.only_declared place.1 in
    let closed = no_blocks v.ends v.blocks none.1 in
    let same : t ≡ author_line v.replicas d = ap (λ (name : List ℕ). spaced (codes "author" ∷ decimal n ∷ name ∷ [])) (sym (name_is v.replicas k r is)) in record {
      nothing = λ e. absurd cc;
      only_replicas = λ e. never v.only_replicas e;
      only_declared = λ e. none;
      begun = λ e. (ap (λ b. b || false) yes.0, yes.1);
      told = λ e.
          ap (λ (ts : List (List ℕ)). ts ++ t ∷ []) (h.told yes.0 ∙ only_headed v.version v.replicas authors items (open_at v) lines none.0 closed)
          ∙ ap (λ (u : List ℕ). headed v.version v.replicas authors [] ++ u ∷ []) same
          ∙ one_author_more v.version v.replicas authors d
          ∙ sym (only_headed v.version v.replicas (authors ++ d ∷ []) items (open_at v) lines none.0 closed);
      ended = h.ended;
      one_open = h.one_open;
      between = h.between;
    }

-- an item of one line
item_lines_more : (texts : List (List ℕ)) (v : View) (authors : List Declared) (items : List Item) (lines : List Line) (i : Item) (t : List ℕ) → HasLines texts v authors items lines → items_at v ≡ true
    → item_lines v.replicas i ≡ t ∷ []
    → v.begun ≡ true → texts ++ t ∷ [] ≡ all_lines v.version v.replicas authors (items ++ i ∷ []) (open_at v) lines
item_lines_more texts v authors items lines i t h place is e =
    ap (λ (ts : List (List ℕ)). ts ++ t ∷ []) (h.told e) ∙ one_item_more v.version v.replicas authors items i (open_at v) lines t (not_true (open_at v) (both_true v.some_replica (not (open_at v)) place).1) is

still_begun : (begun some_replica : Bool) (P : Type 0) → (some_replica ≡ true → (begun ≡ true) × P) → (some_replica || false) ≡ true → ((begun || false) ≡ true) × P
still_begun begun some_replica P h e = let yes = h (kept_true some_replica e) in (ap (λ b. b || false) yes.0, yes.1)

one_lines_more : (texts : List (List ℕ)) (v : View) (authors : List Declared) (items : List Item) (lines : List Line) (s : Statement) (i : Item) → HasLines texts v authors items lines → Fine v s
    → IsOneLine v.replicas s i → HasLines (texts ++ statement_text s ∷ []) (seen v s) authors (items ++ i ∷ []) lines
one_lines_more texts v authors items lines s i h fine law =
    subst (λ (w : View). HasLines (texts ++ statement_text s ∷ []) w authors (items ++ i ∷ []) lines) (sym (law.seen_is v)) (record {
      nothing = λ e. absurd cc;
      only_replicas = λ e. never v.only_replicas e;
      only_declared = λ e. never v.only_declared e;
      begun = still_begun v.begun v.some_replica (1 ≤ length v.replicas) h.begun;
      told = λ e. item_lines_more texts v authors items lines i (statement_text s) h (sym (law.place v) ∙ fine.place) law.text (kept_true v.begun e);
      ended = h.ended;
      one_open = h.one_open;
      between = h.between;
    })

block_lines_more : (texts : List (List ℕ)) (v : View) (authors : List Declared) (items : List Item) (lines : List Line) → HasLines texts v authors items lines → Fine v Block
    → HasLines (texts ++ codes "block" ∷ []) (seen v Block) authors items lines
block_lines_more texts v authors items lines h fine =
    let place = both_true v.some_replica (not (open_at v)) fine.place in
    let closed = not_true (open_at v) place.1 in
    let all_ended : v.blocks ≤ v.ends = is_within v.blocks v.ends closed in record {
      nothing = λ e. absurd cc;
      only_replicas = λ e. never v.only_replicas e;
      only_declared = λ e. never v.only_declared e;
      begun = still_begun v.begun v.some_replica (1 ≤ length v.replicas) h.begun;
      told = λ e.
          ap (λ (ts : List (List ℕ)). ts ++ codes "block" ∷ []) (h.told (kept_true v.begun e))
          ∙ block_opened v.version v.replicas authors items (open_at v) (nat_lt v.ends (suc v.blocks)) lines closed (less v.ends (suc v.blocks) (omega (arith, h.ended))) (h.between all_ended);
      ended = omega (arith, h.ended);
      one_open = omega arith;
      between = λ e. absurd (omega (arith, h.ended));
    }

end_lines_more : (texts : List (List ℕ)) (v : View) (authors : List Declared) (items : List Item) (lines : List Line) (block : blocks.Block) → HasLines texts v authors items lines → Fine v End
    → block.lines ≡ lines → HasLines (texts ++ codes "end" ∷ []) (seen v End) authors (items ++ item.Block block ∷ []) []
end_lines_more texts v authors items lines block h fine same =
    let unended : v.ends < v.blocks = is_less v.ends v.blocks fine.place in record {
      nothing = λ e. absurd cc;
      only_replicas = λ e. never v.only_replicas e;
      only_declared = λ e. never v.only_declared e;
      begun = still_begun v.begun v.some_replica (1 ≤ length v.replicas) h.begun;
      told = λ e.
          ap (λ (ts : List (List ℕ)). ts ++ codes "end" ∷ []) (h.told (kept_true v.begun e))
          ∙ block_ended v.version v.replicas authors items block (open_at v) (nat_lt (suc v.ends) v.blocks) lines [] fine.place (no_less (suc v.ends) v.blocks h.one_open) same;
      ended = omega arith;
      one_open = omega (arith, h.one_open);
      between = λ e. refl;
    }

-- one more line of a block
inner_lines_more : (texts : List (List ℕ)) (v : View) (authors : List Declared) (items : List Item) (lines : List Line) (l : Line) (t : List ℕ) → HasLines texts v authors items lines → open_at v ≡ true
    → line_text v.replicas l ≡ t → v.begun ≡ true → texts ++ t ∷ [] ≡ all_lines v.version v.replicas authors items (open_at v) (lines ++ l ∷ [])
inner_lines_more texts v authors items lines l t h place is e =
    ap (λ (u : List ℕ). texts ++ u ∷ []) (sym is) ∙ ap (λ (ts : List (List ℕ)). ts ++ line_text v.replicas l ∷ []) (h.told e) ∙ one_line_more v.version v.replicas authors items (open_at v) lines l place

act_lines_more : (texts : List (List ℕ)) (v : View) (authors : List Declared) (items : List Item) (lines : List Line) (n : ℕ) (action : Action) → HasLines texts v authors items lines → Fine v (Act n action)
    → HasLines (texts ++ action_line n action ∷ []) (seen v (Act n action)) authors items (lines ++ line.Author n action ∷ [])
act_lines_more texts v authors items lines n action h fine =
    let unended : v.ends < v.blocks = is_less v.ends v.blocks fine.place in record {
      nothing = λ e. absurd cc;
      only_replicas = λ e. never v.only_replicas e;
      only_declared = λ e. never v.only_declared e;
      begun = still_begun v.begun v.some_replica (1 ≤ length v.replicas) h.begun;
      told = λ e. inner_lines_more texts v authors items lines (line.Author n action) (action_line n action) h fine.place refl (kept_true v.begun e);
      ended = h.ended;
      one_open = h.one_open;
      between = λ e. absurd (omega arith);
    }

send_lines_more : (texts : List (List ℕ)) (v : View) (authors : List Declared) (items : List Item) (lines : List Line) (send : SendText) (from to : ℕ) → HasLines texts v authors items lines → Fine v (Send send)
    → slice_get v.replicas from ≡ Some send.from → slice_get v.replicas to ≡ Some send.to
    → HasLines (texts ++ statement_text (Send send) ∷ []) (seen v (Send send)) authors items (lines ++ line.Send (numbered from to send) ∷ [])
send_lines_more texts v authors items lines send from to h fine is_from is_to =
    let unended : v.ends < v.blocks = is_less v.ends v.blocks fine.place in
    let l = line.Send (numbered from to send) in
    let same : line_text v.replicas l ≡ statement_text (Send send) =
    ap (λ (name : List ℕ). send_line name (replica_name v.replicas to) send.skip send.take send.reverse send.twice send.cut) (name_is v.replicas from send.from is_from)
    ∙ ap (λ (name : List ℕ). send_line (ident_bytes send.from) name send.skip send.take send.reverse send.twice send.cut) (name_is v.replicas to send.to is_to) in record {
      nothing = λ e. absurd cc;
      only_replicas = λ e. never v.only_replicas e;
      only_declared = λ e. never v.only_declared e;
      begun = still_begun v.begun v.some_replica (1 ≤ length v.replicas) h.begun;
      told = λ e. inner_lines_more texts v authors items lines l (statement_text (Send send)) h fine.place same (kept_true v.begun e);
      ended = h.ended;
      one_open = h.one_open;
      between = λ e. absurd (omega arith);
    }

-- one more statement
pub lines_more : (s : Statement) (texts : List (List ℕ)) (v : View) (authors more_authors : List Declared) (items more_items : List Item) (lines more_lines : List Line)
    → HasLines texts v authors items lines → Fine v s
    → AuthorsAfter v.replicas authors s more_authors → ItemsAfter v.replicas items lines s more_items → LinesAfter v.replicas lines s more_lines
    → HasLines (texts ++ statement_text s ∷ []) (seen v s) more_authors more_items more_lines
lines_more (Session version) texts v authors more_authors items more_items lines more_lines h fine a i l =
    rw (a, i, l) (session_lines_more version texts v authors items lines h fine)
lines_more (Replica r) texts v authors more_authors items more_items lines more_lines h fine a i l =
    rw (a, i, l) (replica_lines_more texts v authors items lines r h fine)
lines_more (Author n r) texts v authors more_authors items more_items lines more_lines h fine a i l =
    rw (a.2, i, l) (author_lines_more texts v authors items lines n r a.0 h fine a.1)
lines_more Block texts v authors more_authors items more_items lines more_lines h fine a i l =
    rw (a, i, l) (block_lines_more texts v authors items lines h fine)
lines_more End texts v authors more_authors items more_items lines more_lines h fine a i l =
    rw (a, i.2, l) (end_lines_more texts v authors items lines i.0 h fine i.1)
lines_more (Act n action) texts v authors more_authors items more_items lines more_lines h fine a i l =
    rw (a, i, l) (act_lines_more texts v authors items lines n action h fine)
lines_more (Send send) texts v authors more_authors items more_items lines more_lines h fine a i l =
    rw (a, i, l.4) (send_lines_more texts v authors items lines send l.0 l.1 h fine l.2 l.3)
lines_more s texts v authors more_authors items more_items lines more_lines h fine a i l =
    let more = item_after v.replicas s items lines more_items refl i in
    rw (a, more.2, l) (one_lines_more texts v authors items lines s more.0 h fine (one_line v.replicas s more.0 more.1))

-- ---- the limits are kept

abbrev pub IsDeclaredIn : ℕ → Declared → Type 0
IsDeclaredIn replicas declared = IsAuthor declared.author × (declared.replica < replicas)

pub record IsWithin (v : View) (authors : List Declared) (items : List Item) (lines : List Line) : Type 0 where
  pub numbers : author_numbers authors ≡ v.authors
  pub few_replicas : length v.replicas ≤ 8
  pub replicas_differ : AllDiffer v.replicas
  pub each_author : AllByRecursion (IsDeclaredIn (length v.replicas)) authors
  pub few_authors : length v.authors ≤ 64
  pub authors_differ : AllDiffer v.authors
  pub each_item : AllByRecursion (IsItemIn (length v.replicas) v.authors) items
  pub each_line : AllByRecursion (IsLineIn (length v.replicas) v.authors) lines
  pub blocks : count_by is_block items ≡ v.ends
  pub few_blocks : v.blocks ≤ 64
  pub sends : sum_by send_count items + count_by is_send lines ≡ v.sends
  pub few_sends : v.sends ≤ 32
  pub shows : count_by is_show items ≡ v.shows
  pub few_shows : v.shows ≤ 8

pub nothing_is_within : IsWithin start [] [] []
nothing_is_within = record {
  numbers = refl;
  few_replicas = omega arith;
  replicas_differ = tt;
  each_author = tt;
  few_authors = omega arith;
  authors_differ = tt;
  each_item = tt;
  each_line = tt;
  blocks = refl;
  few_blocks = omega arith;
  sends = refl;
  few_sends = omega arith;
  shows = refl;
  few_shows = omega arith;
}

replica_within : (texts : List (List ℕ)) (v : View) (authors : List Declared) (items : List Item) (lines : List Line) (r : Ident) → HasLines texts v authors items lines → Fine v (Replica r)
    → IsWithin v authors items lines → IsWithin (seen v (Replica r)) authors items lines
replica_within texts v authors items lines r h fine w =
    let none = h.only_replicas (both_true v.begun v.only_replicas fine.place).1 in
    let replicas = v.replicas ++ r ∷ [] in
    let few : length v.replicas < 8 = is_below (length v.replicas) 8 fine.few in record {
      numbers = w.numbers;
      few_replicas = omega (arith, length-append v.replicas (r ∷ []));
      replicas_differ = differ_push is_same_ident same_ident_itself v.replicas r w.replicas_differ fine.new_replica;
      each_author = all_of_none (IsDeclaredIn (length replicas)) authors none.0;
      few_authors = w.few_authors;
      authors_differ = w.authors_differ;
      each_item = all_of_none (IsItemIn (length replicas) v.authors) items none.1;
      each_line = all_of_none (IsLineIn (length replicas) v.authors) lines (h.between (omega (arith, none.2)));
      blocks = w.blocks;
      few_blocks = w.few_blocks;
      sends = w.sends;
      few_sends = w.few_sends;
      shows = w.shows;
      few_shows = w.few_shows;
    }

same_number_itself : (a : ℕ) → (a == a) ≡ true
same_number_itself a = grind (arith, nat_tests)

author_within : (texts : List (List ℕ)) (v : View) (authors : List Declared) (items : List Item) (lines : List Line) (n : ℕ) (r : Ident) (k : ℕ) → HasLines texts v authors items lines → Fine v (Author n r)
    → IsAuthor n → slice_get v.replicas k ≡ Some r
    → IsWithin v authors items lines → IsWithin (seen v (Author n r)) (authors ++ record { author = n; replica = k } ∷ []) items lines
author_within texts v authors items lines n r k h fine is_author is w =
    let none = h.only_declared (both_true v.some_replica v.only_declared fine.place).1 in
    let d : Declared = record { author = n; replica = k } in
    let numbers = v.authors ++ n ∷ [] in
    let few : length v.authors < 64 = is_below (length v.authors) 64 fine.few in record {
      numbers = map-append (λ (x : Declared). x.author) authors (d ∷ []) ∙ ap (λ (ns : List ℕ). ns ++ n ∷ []) w.numbers;
      few_replicas = w.few_replicas;
      replicas_differ = w.replicas_differ;
      each_author = all_push (IsDeclaredIn (length v.replicas)) authors d w.each_author (is_author, slice_get_within v.replicas k r is);
      few_authors = omega (arith, length-append v.authors (n ∷ []));
      authors_differ = differ_push (λ a b. b == a) same_number_itself v.authors n w.authors_differ fine.new_author;
      each_item = all_of_none (IsItemIn (length v.replicas) numbers) items none.0;
      each_line = all_of_none (IsLineIn (length v.replicas) numbers) lines (h.between (omega (arith, none.1)));
      blocks = w.blocks;
      few_blocks = w.few_blocks;
      sends = w.sends;
      few_sends = w.few_sends;
      shows = w.shows;
      few_shows = w.few_shows;
    }

one_within : (v : View) (authors : List Declared) (items : List Item) (lines : List Line) (s : Statement) (i : Item) → Fine v s → IsOneLine v.replicas s i
    → IsWithin v authors items lines → IsWithin (seen v s) authors (items ++ i ∷ []) lines
one_within v authors items lines s i fine law w =
    subst (λ (x : View). IsWithin x authors (items ++ i ∷ []) lines) (sym (law.seen_is v)) (record {
      numbers = w.numbers;
      few_replicas = w.few_replicas;
      replicas_differ = w.replicas_differ;
      each_author = w.each_author;
      few_authors = w.few_authors;
      authors_differ = w.authors_differ;
      each_item = all_push (IsItemIn (length v.replicas) v.authors) items i w.each_item (law.fits v.authors);
      each_line = w.each_line;
      blocks = omega (arith, count_push is_block items i, law.no_block, w.blocks);
      few_blocks = w.few_blocks;
      sends = omega (arith, sum_push send_count items i, law.no_sends, w.sends);
      few_sends = w.few_sends;
      shows = omega (arith, count_push is_show items i, counted-add (is_show i) v.shows, w.shows);
      few_shows = law.within v fine.few w.few_shows;
    })

block_within : (v : View) (authors : List Declared) (items : List Item) (lines : List Line) → Fine v Block
    → IsWithin v authors items lines → IsWithin (seen v Block) authors items lines
block_within v authors items lines fine w =
    let few : v.blocks < 64 = is_below v.blocks 64 fine.few in record {
      numbers = w.numbers;
      few_replicas = w.few_replicas;
      replicas_differ = w.replicas_differ;
      each_author = w.each_author;
      few_authors = w.few_authors;
      authors_differ = w.authors_differ;
      each_item = w.each_item;
      each_line = w.each_line;
      blocks = w.blocks;
      few_blocks = omega arith;
      sends = w.sends;
      few_sends = w.few_sends;
      shows = w.shows;
      few_shows = w.few_shows;
    }

end_within : (v : View) (authors : List Declared) (items : List Item) (lines : List Line) (block : blocks.Block) → block.lines ≡ lines
    → IsWithin v authors items lines → IsWithin (seen v End) authors (items ++ item.Block block ∷ []) []
end_within v authors items lines block same w =
    let i = item.Block block in
    let inner : AllByRecursion (IsLineIn (length v.replicas) v.authors) block.lines = subst (AllByRecursion (IsLineIn (length v.replicas) v.authors)) (sym same) w.each_line in
    let sent : count_by is_send block.lines ≡ count_by is_send lines = ap (count_by is_send) same in record {
      numbers = w.numbers;
      few_replicas = w.few_replicas;
      replicas_differ = w.replicas_differ;
      each_author = w.each_author;
      few_authors = w.few_authors;
      authors_differ = w.authors_differ;
      each_item = all_push (IsItemIn (length v.replicas) v.authors) items i w.each_item inner;
      each_line = tt;
      blocks = omega (arith, count_push is_block items i, w.blocks);
      few_blocks = w.few_blocks;
      sends = omega (arith, sum_push send_count items i, sent, w.sends);
      few_sends = w.few_sends;
      shows = omega (arith, count_push is_show items i, w.shows);
      few_shows = w.few_shows;
    }

act_within : (v : View) (authors : List Declared) (items : List Item) (lines : List Line) (n : ℕ) (action : Action) → Fine v (Act n action) → ActionInRange action
    → IsWithin v authors items lines → IsWithin (seen v (Act n action)) authors items (lines ++ line.Author n action ∷ [])
act_within v authors items lines n action fine in_range w =
    let l = line.Author n action in
    let found = contains v.authors n (not_false (list_any (λ m. m == n) v.authors) fine.known_author) in record {
      numbers = w.numbers;
      few_replicas = w.few_replicas;
      replicas_differ = w.replicas_differ;
      each_author = w.each_author;
      few_authors = w.few_authors;
      authors_differ = w.authors_differ;
      each_item = w.each_item;
      each_line = all_push (IsLineIn (length v.replicas) v.authors) lines l w.each_line (found, in_range);
      blocks = w.blocks;
      few_blocks = w.few_blocks;
      sends = omega (arith, count_push is_send lines l, w.sends);
      few_sends = w.few_sends;
      shows = w.shows;
      few_shows = w.few_shows;
    }

is_send_within : (n from to : ℕ) (send : SendText) → from < n → to < n → is_beyond send ≡ false → IsSend n (numbered from to send)
is_send_within n from to send f t h =
    let a = nat_lt 1000000 send.skip in
    let b = nat_lt 1000000 send.take in
    let c = send.cut == 0 in
    let d = nat_lt 65536 send.cut in
    let e = nat_lt (4096 * send.cut) send.take in
    let pieces = neither (a || b || c || d) e h in
    let cut = neither (a || b || c) d pieces.0 in
    let some = neither (a || b) c cut.0 in
    let few = neither a b some.0 in record {
      from = f;
      to = t;
      skip = is_within send.skip 1000000 few.0;
      take = is_within send.take 1000000 few.1;
      some_cut = is_some send.cut some.1;
      cut = is_within send.cut 65536 cut.1;
      few_pieces = is_within send.take (4096 * send.cut) pieces.1;
    }

send_within : (v : View) (authors : List Declared) (items : List Item) (lines : List Line) (send : SendText) (from to : ℕ) → Fine v (Send send)
    → slice_get v.replicas from ≡ Some send.from → slice_get v.replicas to ≡ Some send.to
    → IsWithin v authors items lines → IsWithin (seen v (Send send)) authors items (lines ++ line.Send (numbered from to send) ∷ [])
send_within v authors items lines send from to fine is_from is_to w =
    let l = line.Send (numbered from to send) in
    let limits = neither (nat_le 32 v.sends) (is_beyond send) fine.few in
    let few : v.sends < 32 = is_below v.sends 32 limits.0 in
    let good = is_send_within (length v.replicas) from to send (slice_get_within v.replicas from send.from is_from) (slice_get_within v.replicas to send.to is_to) limits.1 in record {
      numbers = w.numbers;
      few_replicas = w.few_replicas;
      replicas_differ = w.replicas_differ;
      each_author = w.each_author;
      few_authors = w.few_authors;
      authors_differ = w.authors_differ;
      each_item = w.each_item;
      each_line = all_push (IsLineIn (length v.replicas) v.authors) lines l w.each_line good;
      blocks = w.blocks;
      few_blocks = w.few_blocks;
      sends = omega (arith, count_push is_send lines l, w.sends);
      few_sends = omega arith;
      shows = w.shows;
      few_shows = w.few_shows;
    }

session_within : (version : Version) (v : View) (authors : List Declared) (items : List Item) (lines : List Line) → IsWithin v authors items lines → IsWithin (seen v (Session version)) authors items lines
session_within version v authors items lines w = record {
  numbers = w.numbers;
  few_replicas = w.few_replicas;
  replicas_differ = w.replicas_differ;
  each_author = w.each_author;
  few_authors = w.few_authors;
  authors_differ = w.authors_differ;
  each_item = w.each_item;
  each_line = w.each_line;
  blocks = w.blocks;
  few_blocks = w.few_blocks;
  sends = w.sends;
  few_sends = w.few_sends;
  shows = w.shows;
  few_shows = w.few_shows;
}

-- one more statement
pub within_more : (s : Statement) (texts : List (List ℕ)) (v : View) (authors more_authors : List Declared) (items more_items : List Item) (lines more_lines : List Line)
    → HasLines texts v authors items lines → Fine v s → InRange s
    → AuthorsAfter v.replicas authors s more_authors → ItemsAfter v.replicas items lines s more_items → LinesAfter v.replicas lines s more_lines
    → IsWithin v authors items lines → IsWithin (seen v s) more_authors more_items more_lines
within_more (Session version) texts v authors more_authors items more_items lines more_lines h fine range a i l w =
    rw (a, i, l) (session_within version v authors items lines w)
within_more (Replica r) texts v authors more_authors items more_items lines more_lines h fine range a i l w =
    rw (a, i, l) (replica_within texts v authors items lines r h fine w)
within_more (Author n r) texts v authors more_authors items more_items lines more_lines h fine range a i l w =
    rw (a.2, i, l) (author_within texts v authors items lines n r a.0 h fine range a.1 w)
within_more Block texts v authors more_authors items more_items lines more_lines h fine range a i l w =
    rw (a, i, l) (block_within v authors items lines fine w)
within_more End texts v authors more_authors items more_items lines more_lines h fine range a i l w =
    rw (a, i.2, l) (end_within v authors items lines i.0 i.1 w)
within_more (Act n action) texts v authors more_authors items more_items lines more_lines h fine range a i l w =
    rw (a, i, l) (act_within v authors items lines n action fine range.1 w)
within_more (Send send) texts v authors more_authors items more_items lines more_lines h fine range a i l w =
    rw (a, i, l.4) (send_within v authors items lines send l.0 l.1 fine l.2 l.3 w)
within_more s texts v authors more_authors items more_items lines more_lines h fine range a i l w =
    let more = item_after v.replicas s items lines more_items refl i in
    rw (a, more.2, l) (one_within v authors items lines s more.0 fine (one_line v.replicas s more.0 more.1) w)

-- ---- what the version knows

pub record IsKnown (v : View) (items : List Item) (lines : List Line) : Type 0 where
  pub replicas : AllByRecursion (IsReplicaOf v.version) v.replicas
  pub each_item : AllByRecursion (IsItemOf v.version) items
  pub each_line : AllByRecursion (IsLineOf v.version) lines

pub nothing_is_known : IsKnown start [] []
nothing_is_known = record { replicas = tt; each_item = tt; each_line = tt }

session_known : (version : Version) (texts : List (List ℕ)) (v : View) (authors : List Declared) (items : List Item) (lines : List Line) → HasLines texts v authors items lines → Fine v (Session version)
    → IsKnown (seen v (Session version)) items lines
session_known version texts v authors items lines h fine =
    let none = h.nothing fine.place in record {
      replicas = all_of_none (IsReplicaOf version) v.replicas none.1;
      each_item = all_of_none (IsItemOf version) items none.3;
      each_line = all_of_none (IsLineOf version) lines (h.between (omega (arith, none.4)));
    }

-- one more statement, of the version
pub known_more : (s : Statement) (texts : List (List ℕ)) (v : View) (authors more_authors : List Declared) (items more_items : List Item) (lines more_lines : List Line)
    → HasLines texts v authors items lines → Fine v s → IsStatementOf v.version s
    → AuthorsAfter v.replicas authors s more_authors → ItemsAfter v.replicas items lines s more_items → LinesAfter v.replicas lines s more_lines
    → IsKnown v items lines → IsKnown (seen v s) more_items more_lines
known_more (Session version) texts v authors more_authors items more_items lines more_lines h fine of a i l k =
    rw (i, l) (session_known version texts v authors items lines h fine)
known_more (Replica r) texts v authors more_authors items more_items lines more_lines h fine of a i l k =
    rw (i, l) (record { replicas = all_push (IsReplicaOf v.version) v.replicas r k.replicas of; each_item = k.each_item; each_line = k.each_line })
known_more (Author n r) texts v authors more_authors items more_items lines more_lines h fine of a i l k =
    rw (i, l) (record { replicas = k.replicas; each_item = k.each_item; each_line = k.each_line })
known_more Block texts v authors more_authors items more_items lines more_lines h fine of a i l k =
    rw (i, l) (record { replicas = k.replicas; each_item = k.each_item; each_line = k.each_line })
known_more End texts v authors more_authors items more_items lines more_lines h fine of a i l k =
    let inner : AllByRecursion (IsLineOf v.version) i.0.lines = subst (AllByRecursion (IsLineOf v.version)) (sym i.1) k.each_line in
    rw (i.2, l) (record { replicas = k.replicas; each_item = all_push (IsItemOf v.version) items (item.Block i.0) k.each_item inner; each_line = tt })
known_more (Act n action) texts v authors more_authors items more_items lines more_lines h fine of a i l k =
    rw (i, l) (record { replicas = k.replicas; each_item = k.each_item; each_line = all_push (IsLineOf v.version) lines (line.Author n action) k.each_line of })
known_more (Send send) texts v authors more_authors items more_items lines more_lines h fine of a i l k =
    rw (i, l.4) (record { replicas = k.replicas; each_item = k.each_item; each_line = all_push (IsLineOf v.version) lines (line.Send (numbered l.0 l.1 send)) k.each_line tt })
known_more s texts v authors more_authors items more_items lines more_lines h fine of a i l k =
    let more = item_after v.replicas s items lines more_items refl i in
    let law = one_line v.replicas s more.0 more.1 in
    rw (more.2, l) (record { replicas = k.replicas; each_item = all_push (IsItemOf v.version) items more.0 k.each_item (law.item_of_version v.version of); each_line = k.each_line })

-- ---- the whole

are_declared : (session : sessions.Session) (authors : List Declared) → AllByRecursion (IsDeclaredIn (length session.replicas)) authors → AllByRecursion (IsDeclared session) authors
are_declared session [] h = tt
are_declared session (d ∷ authors) h = (h.0, are_declared session authors h.1)

are_items : (session : sessions.Session) (items : List Item) → AllByRecursion (IsItemIn (length session.replicas) (author_numbers session.authors)) items → AllByRecursion (IsItem session) items
are_items session [] h = tt
are_items session (i ∷ items) h = (is_item_of session i h.0, are_items session items h.1)

-- where a session may end, its parts are a session with the lines that were read
pub whole_session : (session : sessions.Session) (texts : List (List ℕ)) (v : View) (lines : List Line) → v.version ≡ session.version → v.replicas ≡ session.replicas → items_at v ≡ true
    → HasLines texts v session.authors session.items lines → IsWithin v session.authors session.items lines → IsKnown v session.items lines → IsSession session × (texts ≡ session_lines session)
whole_session session texts v lines version same place h w k =
    let parts = both_true v.some_replica (not (open_at v)) place in
    let closed = not_true (open_at v) parts.1 in
    let yes = h.begun parts.0 in
    let numbers : List ℕ = author_numbers session.authors in
    let ended : v.blocks ≤ v.ends = is_within v.blocks v.ends closed in
    let count : length v.replicas ≡ length session.replicas = ap length same in
    let items : AllByRecursion (IsItemIn (length session.replicas) numbers) session.items =
    subst (λ (n : ℕ). AllByRecursion (IsItemIn n numbers) session.items) count
    (subst (λ (ns : List ℕ). AllByRecursion (IsItemIn (length v.replicas) ns) session.items) (sym w.numbers) w.each_item) in
    let authors : AllByRecursion (IsDeclaredIn (length session.replicas)) session.authors =
    subst (λ (n : ℕ). AllByRecursion (IsDeclaredIn n) session.authors) count w.each_author in (
      record {
        some_replica = omega (arith, yes.1);
        few_replicas = omega (arith, w.few_replicas);
        replicas_differ = subst AllDiffer same w.replicas_differ;
        authors = are_declared session session.authors authors;
        few_authors = omega (arith, w.few_authors, ap length w.numbers, length-map session.authors (λ (x : Declared). x.author));
        authors_differ = subst AllDiffer (sym w.numbers) w.authors_differ;
        items = are_items session session.items items;
        few_blocks = omega (arith, w.blocks, w.few_blocks, h.ended);
        few_sends = omega (arith, w.sends, w.few_sends);
        few_shows = omega (arith, w.shows, w.few_shows);
        replicas_of_version = subst (λ (x : Version). AllByRecursion (IsReplicaOf x) session.replicas) version (subst (AllByRecursion (IsReplicaOf v.version)) same k.replicas);
        items_of_version = subst (λ (x : Version). AllByRecursion (IsItemOf x) session.items) version k.each_item;
      },
      h.told yes.0
          ∙ ap (λ o. all_lines v.version v.replicas session.authors session.items o lines) closed
          ∙ ap (λ (ts : List (List ℕ)). headed v.version v.replicas session.authors ts) (append-nil (flat_map (item_lines v.replicas) session.items))
          ∙ ap (λ (rs : List Ident). headed v.version rs session.authors (flat_map (item_lines rs) session.items)) same
          ∙ ap (λ (x : Version). headed x session.replicas session.authors (flat_map (item_lines session.replicas) session.items)) version,
    )
