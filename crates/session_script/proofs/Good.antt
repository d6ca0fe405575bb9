-- The statements of a session have no fault, and a session may end behind them.
use Rattle.std.proofs.Common.{◌≡◌, ℕ, zero, suc, ◌+◌, ◌*◌, ◌<◌, ◌≤◌, Bool, true, false, not, ◌&&◌, ◌||◌, ◌==◌, nat_lt, nat_le, List, [], ◌∷◌, ◌++◌, None, length, map, get_or, cond, inl, inr, refl, sym, ap, subst, ◌∙◌, append_assoc, append-nil, length-append, arith}
use Rattle.std.specs.List.{list_all, list_any, count_by, sum_by, AllByRecursion}
use Rattle.std.proofs.lemmas.Bool.{eq-eqb}
use Rattle.std.proofs.lemmas.Bool.Decides.{nat_tests}
use Rattle.std.proofs.lemmas.List.Sums.{sum_by-cons}
use Rattle.grove_sorts.specs.declared.ident.Ident.{Ident}
use Rattle.grove_sorts.specs.declared.version.Version.{Version}
use Rattle.grove_sorts.proofs.Truths.{or_right, false_from}
use Rattle.session_script.specs.declared.author.Declared.{Declared}
use Rattle.session_script.specs.declared.line.Line.{Line}
use Rattle.session_script.specs.declared.line.Line.TheVariants as line
use Rattle.session_script.specs.declared.line.SendLine.{SendLine}
use Rattle.session_script.specs.declared.item.Item.{Item}
use Rattle.session_script.specs.declared.session.Session as sessions
use Rattle.session_script.specs.declared.statement.Statement.{Statement}
use Rattle.session_script.specs.declared.statement.Statement.TheVariants.{Session, Replica, Author, Block, End, Act, Send}
use Rattle.session_script.specs.Order.{is_same_ident, is_beyond, named_replicas, is_ended}
use Rattle.session_script.specs.Script.{BeginSession}
use Rattle.session_script.specs.Session.{AllDiffer, author_numbers, IsSend, IsLine, IsItem, IsSession, is_send, is_block, is_show, send_count}
use Rattle.session_script.specs.View.{View, seen, start, after, items_at, place_at, declared_at, repeats_replica_at, unknown_author_at, repeats_author_at, too_many_at, fault_at}
use Rattle.session_script.proofs.Views.{counted-add, first_fault, GoesOn, GoOn-view, ended_is}
use Rattle.session_script.proofs.Names.{same_ident_exact, declared_name}
use Rattle.session_script.proofs.OneLine.{with_item, one_line}
use Rattle.session_script.proofs.Told.{AuthorTold, LineTold, ItemTold, ItemsTold, Each, Told, sent, told_in_range, told_known}

-- ---- where no condition holds there is no fault

six : (a b c d e f : Bool) → a ≡ true → b ≡ true → c ≡ false → d ≡ false → e ≡ false → f ≡ false → first_fault a b c d e f ≡ None
six a b c d e f pa pb pc pd pe pf =
    ap (λ x. first_fault x b c d e f) pa ∙ ap (λ x. first_fault true x c d e f) pb ∙ ap (λ x. first_fault true true x d e f) pc
    ∙ ap (λ x. first_fault true true false x e f) pd ∙ ap (λ x. first_fault true true false false x f) pe ∙ ap (λ x. first_fault true true false false false x) pf

no_fault_at : (v : View) (s : Statement) → place_at v s ≡ true → list_all (declared_at v) (named_replicas s) ≡ true → repeats_replica_at v s ≡ false
    → unknown_author_at v s ≡ false → repeats_author_at v s ≡ false → too_many_at v s ≡ false → fault_at v s ≡ None
no_fault_at v s = six (place_at v s) (list_all (declared_at v) (named_replicas s)) (repeats_replica_at v s) (unknown_author_at v s) (repeats_author_at v s) (too_many_at v s)

-- the statements have no fault behind what is viewed, and lead to a view of which P holds
abbrev pub Leads : (View → Type 0) → View → List Statement → Type 0
Leads P v [] = P v
Leads P v (s ∷ ss) = (fault_at v s ≡ None) × Leads P (seen v s) ss

goes_on : (P : View → Type 0) (v : View) (ss : List Statement) → Leads P v ss → GoesOn v ss × P (after v ss)
goes_on P v [] h = (tt, h)
goes_on P v (s ∷ ss) h = let rest = goes_on P (seen v s) ss h.1 in ((h.0, rest.0), rest.1)

-- ---- tests

below_limit : (n limit : ℕ) → n < limit → nat_le limit n ≡ false
below_limit n limit h = grind (arith, nat_tests)

within_limit : (n limit : ℕ) → n ≤ limit → nat_lt limit n ≡ false
within_limit n limit h = grind (arith, nat_tests)

some_cut : (n : ℕ) → 1 ≤ n → (n == 0) ≡ false
some_cut n h = grind (arith, nat_tests)

not_open : (n : ℕ) → nat_lt n n ≡ false
not_open n = within_limit n n (omega arith)

is_open_block : (n : ℕ) → nat_lt n (suc n) ≡ true
is_open_block n = grind (arith, nat_tests)

none_of_five : (a b c d e : Bool) → a ≡ false → b ≡ false → c ≡ false → d ≡ false → e ≡ false → (a || b || c || d || e) ≡ false
none_of_five a b c d e pa pb pc pd pe =
    ap (λ x. x || b || c || d || e) pa ∙ ap (λ x. x || c || d || e) pb ∙ ap (λ x. x || d || e) pc ∙ ap (λ x. x || e) pd ∙ pe

none_of_two : (a b : Bool) → a ≡ false → b ≡ false → (a || b) ≡ false
none_of_two a b pa pb = ap (λ x. x || b) pa ∙ pb

pub same_number_exact : (a b : ℕ) → (b == a) ≡ true → a ≡ b
same_number_exact a b e = grind (arith, nat_tests)

-- a number that stands in a list is found there
found_number : (numbers : List ℕ) (k author : ℕ) → k < length numbers → get_or numbers k author ≡ author → list_any (λ n. n == author) numbers ≡ true
found_number [] k author within at = absurd (omega arith)
found_number (n ∷ numbers) zero author within at = ap (λ b. b || list_any (λ m. m == author) numbers) (eq-eqb n author at)
found_number (n ∷ numbers) (suc k) author within at =
    ap (λ b. (n == author) || b) (found_number numbers k author (omega arith) at) ∙ or_right (n == author) true refl

-- what differs from all others does not stand before itself
other_than : {A : Type 0} → (x y : A) (more : List A) (front : List A) → AllByRecursion (λ z. x ≡ z → ⊥) (front ++ y ∷ more) → x ≡ y → ⊥
other_than x y more [] h = h.0
other_than x y more (z ∷ front) h = other_than x y more front h.1

not_before : {A : Type 0} → (same : A → A → Bool) → ((a b : A) → same a b ≡ true → a ≡ b) → (front : List A) (x : A) (more : List A) → AllDiffer (front ++ x ∷ more)
    → list_any (same x) front ≡ false
not_before same exact [] x more h = refl
not_before same exact (y ∷ front) x more h =
    none_of_two (same x y) (list_any (same x) front) (false_from (same x y) (λ e. other_than y x more front h.0 (sym (exact x y e)))) (not_before same exact front x more h.1)

-- ---- the views on the way

abbrev replicas_view : Version → List Ident → View
replicas_view version replicas = record { version = version; nothing = false; begun = true; only_replicas = true; only_declared = true; some_replica = true; replicas = replicas; authors = []; blocks = 0; ends = 0; sends = 0; shows = 0 }

abbrev authors_view : Version → List Ident → Bool → List ℕ → View
authors_view version replicas only authors = record { version = version; nothing = false; begun = true; only_replicas = only; only_declared = true; some_replica = true; replicas = replicas; authors = authors; blocks = 0; ends = 0; sends = 0; shows = 0 }

abbrev items_view : Version → List Ident → List ℕ → Bool → Bool → ℕ → ℕ → ℕ → ℕ → View
items_view version replicas authors only declared blocks ends sends shows = record { version = version; nothing = false; begun = true; only_replicas = only; only_declared = declared; some_replica = true; replicas = replicas; authors = authors; blocks = blocks; ends = ends; sends = sends; shows = shows }

-- ---- replicas

replicas_go : (P : View → Type 0) (version : Version) (front back : List Ident) (rest : List Statement) → AllDiffer (front ++ back) → length front + length back ≤ 8
    → Leads P (replicas_view version (front ++ back)) rest → Leads P (replicas_view version front) (map Replica back ++ rest)
replicas_go P version front [] rest differ few go = subst (λ (rs : List Ident). Leads P (replicas_view version rs) rest) (append-nil front) go
replicas_go P version front (r ∷ back) rest differ few go =
    let pushed : front ++ (r ∷ back) ≡ (front ++ r ∷ []) ++ back = sym (append_assoc front (r ∷ []) back) in (
      no_fault_at (replicas_view version front) (Replica r) refl refl (not_before is_same_ident same_ident_exact front r back differ) refl refl (below_limit (length front) 8 (omega arith)),
      replicas_go P version (front ++ r ∷ []) back rest (subst AllDiffer pushed differ) (omega (arith, length-append front (r ∷ [])))
          (subst (λ (rs : List Ident). Leads P (replicas_view version rs) rest) pushed go),
    )

-- ---- authors

authors_go : (P : View → Type 0) (version : Version) (replicas : List Ident) (only : Bool) (numbers : List ℕ) (authors : List Declared) (ss rest : List Statement) → Each (AuthorTold replicas) authors ss
    → AllDiffer (numbers ++ author_numbers authors) → length numbers + length authors ≤ 64
    → ((b : Bool) → Leads P (authors_view version replicas b (numbers ++ author_numbers authors)) rest) → Leads P (authors_view version replicas only numbers) (ss ++ rest)
authors_go P version replicas only numbers [] [] rest h differ few go = subst (λ (ns : List ℕ). Leads P (authors_view version replicas only ns) rest) (append-nil numbers) (go only)
authors_go P version replicas only numbers [] (s ∷ ss) rest h differ few go = absurd h
authors_go P version replicas only numbers (d ∷ authors) [] rest h differ few go = absurd h
authors_go P version replicas only numbers (d ∷ authors) (s ∷ ss) rest h differ few go =
    let n = d.author in
    let pushed : numbers ++ (n ∷ author_numbers authors) ≡ (numbers ++ n ∷ []) ++ author_numbers authors = sym (append_assoc numbers (n ∷ []) (author_numbers authors)) in
    let known : list_all (declared_at (authors_view version replicas only numbers)) (h.0.0 ∷ []) ≡ true = ap (λ b. b && true) (declared_name replicas d.replica h.0.0 h.0.1) in
    subst (λ (x : Statement). Leads P (authors_view version replicas only numbers) (x ∷ ss ++ rest)) (sym h.0.2) (
      no_fault_at (authors_view version replicas only numbers) (Author n h.0.0) refl known refl refl
          (not_before (λ a b. b == a) same_number_exact numbers n (author_numbers authors) differ) (below_limit (length numbers) 64 (omega arith)),
      authors_go P version replicas (only && false) (numbers ++ n ∷ []) authors ss rest h.1 (subst AllDiffer pushed differ) (omega (arith, length-append numbers (n ∷ [])))
          (λ b. subst (λ (ns : List ℕ). Leads P (authors_view version replicas b ns) rest) pushed (go b)),
    )

-- ---- lines of a block

within_limits : (replicas : ℕ) (from to : Ident) (send : SendLine) → IsSend replicas send → is_beyond (sent from to send) ≡ false
within_limits replicas from to send is =
    none_of_five (nat_lt 1000000 send.skip) (nat_lt 1000000 send.take) (send.cut == 0) (nat_lt 65536 send.cut) (nat_lt (4096 * send.cut) send.take)
    (within_limit send.skip 1000000 is.skip) (within_limit send.take 1000000 is.take) (some_cut send.cut is.some_cut) (within_limit send.cut 65536 is.cut)
    (within_limit send.take (4096 * send.cut) is.few_pieces)

-- the numbers of one more line
line_counts : (l : Line) (lines : List Line) → count_by is_send (l ∷ lines) ≡ cond (is_send l) 1 0 + count_by is_send lines
line_counts l lines = sum_by-cons (λ x. cond (is_send x) 1 0) l lines

lines_go : (P : View → Type 0) (session : sessions.Session) (only declared : Bool) (n sends shows : ℕ) (lines : List Line) (inner rest : List Statement)
    → Each (LineTold session.replicas) lines inner → AllByRecursion (IsLine session) lines → sends + count_by is_send lines ≤ 32
    → ((b c : Bool) → Leads P (items_view session.version session.replicas (author_numbers session.authors) b c (suc n) n (sends + count_by is_send lines) shows) rest)
    → Leads P (items_view session.version session.replicas (author_numbers session.authors) only declared (suc n) n sends shows) (inner ++ rest)
lines_go P session only declared n sends shows [] [] rest h is few go =
    subst (λ m. Leads P (items_view session.version session.replicas (author_numbers session.authors) only declared (suc n) n m shows) rest) (omega arith) (go only declared)
lines_go P session only declared n sends shows [] (s ∷ inner) rest h is few go = absurd h
lines_go P session only declared n sends shows (l ∷ lines) [] rest h is few go = absurd h
lines_go P session only declared n sends shows (line.Author author action ∷ lines) (s ∷ inner) rest h is few go =
    let v = items_view session.version session.replicas (author_numbers session.authors) only declared (suc n) n sends shows in
    let same : sends + count_by is_send (line.Author author action ∷ lines) ≡ sends + count_by is_send lines = omega (arith, line_counts (line.Author author action) lines) in
    let known : not (list_any (λ m. m == author) (author_numbers session.authors)) ≡ false = ap not (found_number (author_numbers session.authors) is.0.0.0 author is.0.0.1 is.0.0.2) in
    subst (λ (x : Statement). Leads P v (x ∷ inner ++ rest)) (sym h.0) (
      no_fault_at v (Act author action) (is_open_block n) refl refl known refl refl,
      lines_go P session (only && false) (declared && false) n sends shows lines inner rest h.1 is.1 (omega arith)
          (λ b c. subst (λ m. Leads P (items_view session.version session.replicas (author_numbers session.authors) b c (suc n) n m shows) rest) same (go b c)),
    )
lines_go P session only declared n sends shows (line.Send send ∷ lines) (s ∷ inner) rest h is few go =
    let v = items_view session.version session.replicas (author_numbers session.authors) only declared (suc n) n sends shows in
    let from = h.0.0 in
    let to = h.0.1 in
    let same : sends + count_by is_send (line.Send send ∷ lines) ≡ suc sends + count_by is_send lines = omega (arith, line_counts (line.Send send) lines) in
    let known : list_all (declared_at v) (from ∷ to ∷ []) ≡ true =
    ap (λ b. b && (declared_at v to && true)) (declared_name session.replicas send.from from h.0.2) ∙ ap (λ b. b && true) (declared_name session.replicas send.to to h.0.3) in
    let not_many : (nat_le 32 sends || is_beyond (sent from to send)) ≡ false =
    none_of_two (nat_le 32 sends) (is_beyond (sent from to send)) (below_limit sends 32 (omega arith)) (within_limits (length session.replicas) from to send is.0) in
    subst (λ (x : Statement). Leads P v (x ∷ inner ++ rest)) (sym h.0.4) (
      no_fault_at v (Send (sent from to send)) (is_open_block n) known refl refl refl not_many,
      lines_go P session (only && false) (declared && false) n (suc sends) shows lines inner rest h.1 is.1 (omega arith)
          (λ b c. subst (λ m. Leads P (items_view session.version session.replicas (author_numbers session.authors) b c (suc n) n m shows) rest) same (go b c)),
    )

-- ---- items

-- a session may end at a view
abbrev Ends : View → Type 0
Ends v = items_at v ≡ true

closed : (n : ℕ) → (true && not (nat_lt n n)) ≡ true
closed n = ap not (not_open n)

-- an item of one line, or a block
item_go : (P : View → Type 0) (session : sessions.Session) (only declared : Bool) (n sends shows : ℕ) (i : Item) (mine rest : List Statement)
    → ItemTold session.replicas i mine → IsItem session i → n + cond (is_block i) 1 0 ≤ 64 → sends + send_count i ≤ 32 → shows + cond (is_show i) 1 0 ≤ 8
    → ((b c : Bool) → Leads P (items_view session.version session.replicas (author_numbers session.authors) b c (n + cond (is_block i) 1 0) (n + cond (is_block i) 1 0) (sends + send_count i) (shows + cond (is_show i) 1 0)) rest)
    → Leads P (items_view session.version session.replicas (author_numbers session.authors) only declared n n sends shows) (mine ++ rest)
item_go P session only declared n sends shows i mine rest (inl h) is blocks few many go =
    let v = items_view session.version session.replicas (author_numbers session.authors) only declared n n sends shows in
    let law = one_line session.replicas h.0 i h.1 in
    let same_blocks : n + cond (is_block i) 1 0 ≡ n = omega (arith, law.no_block) in
    let same_sends : sends + send_count i ≡ sends = omega (arith, law.no_sends) in
    let more : Leads P (items_view session.version session.replicas (author_numbers session.authors) (only && false) (declared && false) n n sends (shows + cond (is_show i) 1 0)) rest =
    subst (λ m. Leads P (items_view session.version session.replicas (author_numbers session.authors) (only && false) (declared && false) n n m (shows + cond (is_show i) 1 0)) rest) same_sends
    (subst (λ m. Leads P (items_view session.version session.replicas (author_numbers session.authors) (only && false) (declared && false) m m (sends + send_count i) (shows + cond (is_show i) 1 0)) rest) same_blocks
    (go (only && false) (declared && false))) in
    let counts : Leads P (with_item v i) rest =
    subst (λ m. Leads P (items_view session.version session.replicas (author_numbers session.authors) (only && false) (declared && false) n n sends m) rest) (sym (counted-add (is_show i) shows)) more in
    subst (λ (ss : List Statement). Leads P v (ss ++ rest)) (sym h.2) (
      no_fault_at v h.0 (law.place v ∙ closed n) (law.declared v refl) (law.old_replica v) (law.no_author v) (law.old_author v) (law.few v many),
      subst (λ (w : View). Leads P w rest) (sym (law.seen_is v)) counts,
    )
item_go P session only declared n sends shows i mine rest (inr h) is blocks few many go =
    let v = items_view session.version session.replicas (author_numbers session.authors) only declared n n sends shows in
    let block = h.0 in
    let one_more : n + cond (is_block i) 1 0 ≡ suc n = omega (arith, ap {B = ℕ} (λ (x : Item). cond (is_block x) 1 0) h.2) in
    let more_sends : sends + send_count i ≡ sends + count_by is_send block.lines = omega (arith, ap send_count h.2) in
    let same_shows : shows + cond (is_show i) 1 0 ≡ shows = omega (arith, ap {B = ℕ} (λ (x : Item). cond (is_show x) 1 0) h.2) in
    let more : (b c : Bool) → Leads P (items_view session.version session.replicas (author_numbers session.authors) b c (suc n) (suc n) (sends + count_by is_send block.lines) shows) rest =
    λ b c.
    subst (λ m. Leads P (items_view session.version session.replicas (author_numbers session.authors) b c (suc n) (suc n) (sends + count_by is_send block.lines) m) rest) same_shows
    (subst (λ m. Leads P (items_view session.version session.replicas (author_numbers session.authors) b c (suc n) (suc n) m (shows + cond (is_show i) 1 0)) rest) more_sends
    (subst (λ m. Leads P (items_view session.version session.replicas (author_numbers session.authors) b c m m (sends + send_count i) (shows + cond (is_show i) 1 0)) rest) one_more (go b c))) in
    let parts : mine ++ rest ≡ Block ∷ h.1 ++ (End ∷ rest) = ap (λ (ss : List Statement). ss ++ rest) h.4 ∙ ap (λ (t : List Statement). Block ∷ t) (append_assoc h.1 (End ∷ []) rest) in
    subst (Leads P v) (sym parts) (
      no_fault_at v Block (closed n) refl refl refl refl (below_limit n 64 (omega arith)),
      lines_go P session (only && false) (declared && false) n sends shows block.lines h.1 (End ∷ rest) h.3 (subst (IsItem session) h.2 is) (omega arith)
          (λ b c. (
            no_fault_at (items_view session.version session.replicas (author_numbers session.authors) b c (suc n) n (sends + count_by is_send block.lines) shows) End (is_open_block n) refl refl refl refl refl,
            more (b && false) (c && false),
          )),
    )

items_go : (session : sessions.Session) (only declared : Bool) (n sends shows : ℕ) (items : List Item) (ss : List Statement)
    → ItemsTold session.replicas items ss → AllByRecursion (IsItem session) items → n + count_by is_block items ≤ 64 → sends + sum_by send_count items ≤ 32 → shows + count_by is_show items ≤ 8
    → Leads Ends (items_view session.version session.replicas (author_numbers session.authors) only declared n n sends shows) ss
items_go session only declared n sends shows [] ss h is blocks few many =
    subst (Leads Ends (items_view session.version session.replicas (author_numbers session.authors) only declared n n sends shows)) (sym h) (closed n)
items_go session only declared n sends shows (i ∷ items) ss h is blocks few many =
    let more_blocks : count_by is_block (i ∷ items) ≡ cond (is_block i) 1 0 + count_by is_block items = sum_by-cons (λ x. cond (is_block x) 1 0) i items in
    let more_sends : sum_by send_count (i ∷ items) ≡ send_count i + sum_by send_count items = sum_by-cons send_count i items in
    let more_shows : count_by is_show (i ∷ items) ≡ cond (is_show i) 1 0 + count_by is_show items = sum_by-cons (λ x. cond (is_show x) 1 0) i items in
    subst (Leads Ends (items_view session.version session.replicas (author_numbers session.authors) only declared n n sends shows)) (sym h.4)
    (item_go Ends session only declared n sends shows i h.0 h.1 h.2 is.0 (omega arith) (omega arith) (omega arith)
    (λ b c. items_go session b c (n + cond (is_block i) 1 0) (sends + send_count i) (shows + cond (is_show i) 1 0) items h.1 h.3 is.1 (omega arith) (omega arith) (omega arith)))

-- ---- the whole

from_start : (session : sessions.Session) (replicas : List Ident) (ss : List Statement) → replicas ≡ session.replicas → IsSession session → Told session ss → Leads Ends start ss
from_start session [] ss same is h = absurd (omega (arith, is.some_replica, ap length same))
from_start session (r ∷ replicas) ss same is h =
    let differ : AllDiffer (r ∷ replicas) = subst AllDiffer (sym same) is.replicas_differ in
    let few : length (r ∷ replicas) ≤ 8 = omega (arith, is.few_replicas, ap length same) in
    let parts : ss ≡ Session session.version ∷ map Replica (r ∷ replicas) ++ (h.declared ++ h.done) = h.whole ∙ ap (λ (rs : List Ident). Session session.version ∷ map Replica rs ++ (h.declared ++ h.done)) (sym same) in
    subst (Leads Ends start) (sym parts) (
      refl,
      (
        refl,
        replicas_go Ends session.version (r ∷ []) replicas (h.declared ++ h.done) differ (omega arith)
            (subst (λ (rs : List Ident). Leads Ends (replicas_view session.version rs) (h.declared ++ h.done)) (sym same)
            (authors_go Ends session.version session.replicas true [] session.authors h.declared h.done h.are_declared is.authors_differ (omega (arith, is.few_authors))
            (λ b. items_go session b true 0 0 0 session.items h.done h.are_done is.items (omega (arith, is.few_blocks)) (omega (arith, is.few_sends)) (omega (arith, is.few_shows))))),
      ),
    )

pub told_good : (session : sessions.Session) (ss : List Statement) → IsSession session → Told session ss → BeginSession ss × (is_ended ss ≡ true)
told_good session ss is h =
    let go = goes_on Ends start ss (from_start session session.replicas ss refl is h) in
    (record { in_range = told_in_range session ss is h; of_version = told_known session ss is h; good = GoOn-view [] ss go.0 }, ended_is ss ∙ go.1)
