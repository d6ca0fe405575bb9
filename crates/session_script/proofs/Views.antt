-- What the statements before decide of the next one, as they come one after the other.
use Rattle.std.proofs.Common.{◌≡◌, ℕ, ◌+◌, Bool, true, false, not, ◌&&◌, ◌||◌, ◌==◌, nat_lt, cond, List, [], ◌∷◌, ◌++◌, Option, None, length, refl, sym, ap, subst, ◌∙◌, append_assoc, append-nil, arith}
use Rattle.std.specs.List.{list_all, list_any, count_by}
use Rattle.std.proofs.lemmas.List.Sums.{sum_by-cons}
use Rattle.std.proofs.Math.Bool.{or_assoc, and_assoc, or-false, and-true}
use Rattle.grove_sorts.specs.declared.ident.Ident.{Ident}
use Rattle.session_script.specs.declared.script_kind.ScriptKind.{ScriptKind}
use Rattle.session_script.specs.declared.script_kind.ScriptKind.TheVariants.{OutOfPlace, UnknownReplica, RepeatedReplica, UnknownAuthor, RepeatedAuthor, TooMany}
use Rattle.session_script.specs.declared.statement.Statement.{Statement}
use Rattle.session_script.specs.declared.statement.Statement.TheVariants.{Session, Replica, Author, Act}
use Rattle.session_script.specs.Order.{version_of, is_session, is_replica, is_author, is_block, is_end, is_send, is_show, is_same_ident, replicas_of, authors_of, has_replica, is_open, items_may_stand, Place, First, AmongReplicas, AmongAuthors, AmongItems, InBlock, place_of, may_come, has_place, named_replicas, is_declared, is_declared_author, repeats_replica, has_unknown_author, repeats_author, Counts, counts_of, is_beyond_counts, is_too_many, first_of, statement_fault, GoOn, is_ended}
use Rattle.session_script.specs.View.{View, version_after, is_heading, is_declaration, counted, with_replica, with_author, seen, start, open_at, items_at, may_come_at, place_at, declared_at, declared_author_at, repeats_replica_at, unknown_author_at, repeats_author_at, counts_at, too_many_at, fault_at, after, view}

pub after-append : (v : View) (xs ys : List Statement) → after v (xs ++ ys) ≡ after (after v xs) ys
after-append v [] ys = refl
after-append v (x ∷ xs) ys = after-append (seen v x) xs ys

-- ---- a view tells what the statements do

pub counted-add : (b : Bool) (n : ℕ) → counted b n ≡ n + cond b 1 0
counted-add true n = omega arith
counted-add false n = omega arith

-- a count that goes up with each statement that passes is the number of those that do
count_after : (p : Statement → Bool) (of : View → ℕ) → ((v : View) (s : Statement) → of (seen v s) ≡ counted (p s) (of v)) → (v : View) (ss : List Statement) → of (after v ss) ≡ of v + count_by p ss
count_after p of step v [] = omega arith
count_after p of step v (s ∷ ss) =
    let one : count_by p (s ∷ ss) ≡ cond (p s) 1 0 + count_by p ss = sum_by-cons (λ x. cond (p x) 1 0) s ss in
    omega (arith, count_after p of step (seen v s) ss, step v s, counted-add (p s) (of v))

any_after : (p : Statement → Bool) (of : View → Bool) → ((v : View) (s : Statement) → of (seen v s) ≡ (of v || p s)) → (v : View) (ss : List Statement) → of (after v ss) ≡ (of v || list_any p ss)
any_after p of step v [] = sym (or-false (of v))
any_after p of step v (s ∷ ss) =
    any_after p of step (seen v s) ss ∙ ap (λ b. b || list_any p ss) (step v s) ∙ or_assoc (of v) (p s) (list_any p ss)

all_after : (p : Statement → Bool) (of : View → Bool) → ((v : View) (s : Statement) → of (seen v s) ≡ (of v && p s)) → (v : View) (ss : List Statement) → of (after v ss) ≡ (of v && list_all p ss)
all_after p of step v [] = sym (and-true (of v))
all_after p of step v (s ∷ ss) =
    all_after p of step (seen v s) ss ∙ ap (λ b. b && list_all p ss) (step v s) ∙ and_assoc (of v) (p s) (list_all p ss)

replicas_cons : (s : Statement) (front : List Ident) (ss : List Statement) → with_replica s front ++ replicas_of ss ≡ front ++ replicas_of (s ∷ ss)
replicas_cons (Replica replica) front ss = append_assoc front (replica ∷ []) (replicas_of ss)
replicas_cons _ front ss = refl

replicas_after : (v : View) (ss : List Statement) → (after v ss).replicas ≡ v.replicas ++ replicas_of ss
replicas_after v [] = sym (append-nil v.replicas)
replicas_after v (s ∷ ss) = replicas_after (seen v s) ss ∙ replicas_cons s v.replicas ss

authors_cons : (s : Statement) (front : List ℕ) (ss : List Statement) → with_author s front ++ authors_of ss ≡ front ++ authors_of (s ∷ ss)
authors_cons (Author author replica) front ss = append_assoc front (author ∷ []) (authors_of ss)
authors_cons _ front ss = refl

authors_after : (v : View) (ss : List Statement) → (after v ss).authors ≡ v.authors ++ authors_of ss
authors_after v [] = sym (append-nil v.authors)
authors_after v (s ∷ ss) = authors_after (seen v s) ss ∙ authors_cons s v.authors ss

-- as many `replica` lines as replicas
replica_count : (ss : List Statement) → count_by is_replica ss ≡ length (replicas_of ss)
replica_count [] = refl
replica_count (Replica replica ∷ ss) = omega (arith, sum_by-cons (λ s. cond (is_replica s) 1 0) (Replica replica) ss, replica_count ss)
replica_count (s ∷ ss) = omega (arith, sum_by-cons (λ x. cond (is_replica x) 1 0) s ss, replica_count ss)

author_count : (ss : List Statement) → count_by is_author ss ≡ length (authors_of ss)
author_count [] = refl
author_count (Author author replica ∷ ss) = omega (arith, sum_by-cons (λ s. cond (is_author s) 1 0) (Author author replica) ss, author_count ss)
author_count (s ∷ ss) = omega (arith, sum_by-cons (λ x. cond (is_author x) 1 0) s ss, author_count ss)

-- ---- what the order asks of the statements before, by their view

-- a view of something is not one of nothing
something : (v : View) (ss : List Statement) → v.nothing ≡ false → (after v ss).nothing ≡ false
something v [] h = h
something v (s ∷ ss) h = something (seen v s) ss refl

nothing_is : (before : List Statement) → list_all (λ _. false) before ≡ (view before).nothing
nothing_is [] = refl
nothing_is (s ∷ ss) = sym (something (seen start s) ss refl)

begun_is : (before : List Statement) → list_any is_session before ≡ (view before).begun
begun_is before = sym (any_after is_session (λ v. v.begun) (λ v s. refl) start before)

only_replicas_is : (before : List Statement) → list_all is_heading before ≡ (view before).only_replicas
only_replicas_is before = sym (all_after is_heading (λ v. v.only_replicas) (λ v s. refl) start before)

only_declared_is : (before : List Statement) → list_all is_declaration before ≡ (view before).only_declared
only_declared_is before = sym (all_after is_declaration (λ v. v.only_declared) (λ v s. refl) start before)

some_replica_is : (before : List Statement) → has_replica before ≡ (view before).some_replica
some_replica_is before = sym (any_after is_replica (λ v. v.some_replica) (λ v s. refl) start before)

replicas_is : (before : List Statement) → replicas_of before ≡ (view before).replicas
replicas_is before = sym (replicas_after start before)

authors_is : (before : List Statement) → authors_of before ≡ (view before).authors
authors_is before = sym (authors_after start before)

blocks_is : (before : List Statement) → count_by is_block before ≡ (view before).blocks
blocks_is before = omega (arith, count_after is_block (λ v. v.blocks) (λ v s. refl) start before)

ends_is : (before : List Statement) → count_by is_end before ≡ (view before).ends
ends_is before = omega (arith, count_after is_end (λ v. v.ends) (λ v s. refl) start before)

sends_is : (before : List Statement) → count_by is_send before ≡ (view before).sends
sends_is before = omega (arith, count_after is_send (λ v. v.sends) (λ v s. refl) start before)

shows_is : (before : List Statement) → count_by is_show before ≡ (view before).shows
shows_is before = omega (arith, count_after is_show (λ v. v.shows) (λ v s. refl) start before)

replica_number_is : (before : List Statement) → count_by is_replica before ≡ length (view before).replicas
replica_number_is before = replica_count before ∙ ap length (replicas_is before)

author_number_is : (before : List Statement) → count_by is_author before ≡ length (view before).authors
author_number_is before = author_count before ∙ ap length (authors_is before)

pub open_is : (before : List Statement) → is_open before ≡ open_at (view before)
open_is before = ap (λ n. nat_lt n (count_by is_block before)) (ends_is before) ∙ ap (λ n. nat_lt (view before).ends n) (blocks_is before)

items_is : (before : List Statement) → items_may_stand before ≡ items_at (view before)
items_is before = ap (λ b. b && not (is_open before)) (some_replica_is before) ∙ ap (λ b. (view before).some_replica && not b) (open_is before)

pub ended_is : (before : List Statement) → is_ended before ≡ items_at (view before)
ended_is before = items_is before

comes_is : (before : List Statement) (place : Place) → may_come before place ≡ may_come_at (view before) place
comes_is before First = nothing_is before
comes_is before AmongReplicas = ap (λ b. b && list_all is_heading before) (begun_is before) ∙ ap (λ b. (view before).begun && b) (only_replicas_is before)
comes_is before AmongAuthors = ap (λ b. b && list_all is_declaration before) (some_replica_is before) ∙ ap (λ b. (view before).some_replica && b) (only_declared_is before)
comes_is before AmongItems = items_is before
comes_is before InBlock = open_is before

place_is : (before : List Statement) (s : Statement) → has_place before s ≡ place_at (view before) s
place_is before s = comes_is before (place_of s)

declared_is : (before : List Statement) (replica : Ident) → is_declared before replica ≡ declared_at (view before) replica
declared_is before replica = ap (λ (rs : List Ident). list_any (is_same_ident replica) rs) (replicas_is before)

declared_author_is : (before : List Statement) (author : ℕ) → is_declared_author before author ≡ declared_author_at (view before) author
declared_author_is before author = ap (λ (ns : List ℕ). list_any (λ n. n == author) ns) (authors_is before)

all_declared_is : (before : List Statement) (replicas : List Ident) → list_all (is_declared before) replicas ≡ list_all (declared_at (view before)) replicas
all_declared_is before [] = refl
all_declared_is before (replica ∷ replicas) =
    ap (λ b. b && list_all (is_declared before) replicas) (declared_is before replica) ∙ ap (λ b. declared_at (view before) replica && b) (all_declared_is before replicas)

repeats_replica_is : (before : List Statement) (s : Statement) → repeats_replica before s ≡ repeats_replica_at (view before) s
repeats_replica_is before (Replica replica) = declared_is before replica
repeats_replica_is before _ = refl

unknown_author_is : (before : List Statement) (s : Statement) → has_unknown_author before s ≡ unknown_author_at (view before) s
unknown_author_is before (Act author action) = ap not (declared_author_is before author)
unknown_author_is before _ = refl

repeats_author_is : (before : List Statement) (s : Statement) → repeats_author before s ≡ repeats_author_at (view before) s
repeats_author_is before (Author author replica) = declared_author_is before author
repeats_author_is before _ = refl

abbrev counts : ℕ → ℕ → ℕ → ℕ → ℕ → Counts
counts replicas authors blocks sends shows = record { replicas = replicas; authors = authors; blocks = blocks; sends = sends; shows = shows }

counts_are : (before : List Statement) → counts_of before ≡ counts_at (view before)
counts_are before =
    let v = view before in
    ap (λ n. counts n (count_by is_author before) (count_by is_block before) (count_by is_send before) (count_by is_show before)) (replica_number_is before)
    ∙ ap (λ n. counts (length v.replicas) n (count_by is_block before) (count_by is_send before) (count_by is_show before)) (author_number_is before)
    ∙ ap (λ n. counts (length v.replicas) (length v.authors) n (count_by is_send before) (count_by is_show before)) (blocks_is before)
    ∙ ap (λ n. counts (length v.replicas) (length v.authors) v.blocks n (count_by is_show before)) (sends_is before)
    ∙ ap (counts (length v.replicas) (length v.authors) v.blocks v.sends) (shows_is before)

too_many_is : (before : List Statement) (s : Statement) → is_too_many before s ≡ too_many_at (view before) s
too_many_is before s = ap (λ c. is_beyond_counts c s) (counts_are before)

-- the first of the six conditions
abbrev pub first_fault : Bool → Bool → Bool → Bool → Bool → Bool → Option ScriptKind
first_fault a b c d e f =
    first_of ((not a, OutOfPlace) ∷ (not b, UnknownReplica) ∷ (c, RepeatedReplica) ∷ (d, UnknownAuthor) ∷ (e, RepeatedAuthor) ∷ (f, TooMany) ∷ [])

-- the first fault of a statement behind others follows from their view
pub fault_is : (before : List Statement) (s : Statement) → statement_fault before s ≡ fault_at (view before) s
fault_is before s =
    let declared = list_all (is_declared before) (named_replicas s) in
    let declared_now = list_all (declared_at (view before)) (named_replicas s) in
    ap (λ x. first_fault x declared (repeats_replica before s) (has_unknown_author before s) (repeats_author before s) (is_too_many before s)) (place_is before s)
    ∙ ap (λ x. first_fault (place_at (view before) s) x (repeats_replica before s) (has_unknown_author before s) (repeats_author before s) (is_too_many before s)) (all_declared_is before (named_replicas s))
    ∙ ap (λ x. first_fault (place_at (view before) s) declared_now x (has_unknown_author before s) (repeats_author before s) (is_too_many before s)) (repeats_replica_is before s)
    ∙ ap (λ x. first_fault (place_at (view before) s) declared_now (repeats_replica_at (view before) s) x (repeats_author before s) (is_too_many before s)) (unknown_author_is before s)
    ∙ ap (λ x. first_fault (place_at (view before) s) declared_now (repeats_replica_at (view before) s) (unknown_author_at (view before) s) x (is_too_many before s)) (repeats_author_is before s)
    ∙ ap (λ x. first_fault (place_at (view before) s) declared_now (repeats_replica_at (view before) s) (unknown_author_at (view before) s) (repeats_author_at (view before) s) x) (too_many_is before s)

-- each of the statements has no fault at the view of those before it
abbrev pub GoesOn : View → List Statement → Type 0
GoesOn v [] = Unit {0}
GoesOn v (s ∷ ss) = (fault_at v s ≡ None) × GoesOn (seen v s) ss

pub view-push : (before : List Statement) (s : Statement) → view (before ++ s ∷ []) ≡ seen (view before) s
view-push before s = after-append start before (s ∷ [])

pub GoOn-view : (before ss : List Statement) → GoesOn (view before) ss → GoOn before ss
GoOn-view before [] h = tt
GoOn-view before (s ∷ ss) h =
    (fault_is before s ∙ h.0, GoOn-view (before ++ s ∷ []) ss (subst (λ (v : View). GoesOn v ss) (sym (view-push before s)) h.1))

-- ---- the version behind some statements

-- it is that of the first statement
version_of_first : (s : Statement) (xs ys : List Statement) → version_of (s ∷ xs) ≡ version_of (s ∷ ys)
version_of_first (Session version) xs ys = refl
version_of_first _ xs ys = refl

-- where a statement has no fault it tells the version if it is a first line, and else leaves it
pub version_push : (before : List Statement) (s : Statement) → statement_fault before s ≡ None → version_of (before ++ s ∷ []) ≡ version_after (version_of before) s
version_push [] (Session version) fine = refl
version_push [] _ fine = refl
version_push (b ∷ before) (Session version) fine = absurd cc
version_push (b ∷ before) s fine = version_of_first b (before ++ s ∷ []) before
