-- The items of a session by their index, and what holds of one.
use Rattle.std.proofs.Common.{◌≡◌, ℕ, zero, suc, ◌+◌, ◌<◌, ◌≤◌, ◌^◌, true, cond, List, [], ◌∷◌, ◌++◌, length, take, slice_get, Some, Result, Ok, Err, sym, ap, subst, ◌∙◌, arith}
use Rattle.std.specs.Prelude.{IfOk}
use Rattle.std.specs.List.{AllByRecursion, count_by, sum_by}
use Rattle.std.proofs.lemmas.List.{take_more}
use Rattle.std.proofs.lemmas.List.Sums.{sum_by-cons, sum_by-append}
use Rattle.std.specs.Option.{option_map}
use Rattle.std.proofs.lemmas.Option.{same_Some, slice_get_within, get_or_from_slice_get, slice_get-map}
use Rattle.grove_edits.specs.declared.edit.Edit.{Edit}
use Rattle.session_script.specs.declared.author.Declared.{Declared}
use Rattle.session_script.specs.declared.item.Block.{Block}
use Rattle.session_script.specs.declared.item.Item.{Item}
use Rattle.session_script.specs.declared.item.Item.TheVariants as item
use Rattle.session_script.specs.declared.session.Session.{Session}
use Rattle.session_script.specs.Session.{IsSession, IsLine, IsItem, is_block, is_send, is_show}
use Rattle.session_run.specs.Asked.{IsLineNumber, IsNumberIn}
use Rattle.session_run.specs.Run.{CanRun}
use Rattle.session_run.proofs.OfSessions.{block_can_run, few_numbers, sends_counted}
use Rattle.session_answers.specs.declared.running.Running.{Running}
use Rattle.session_answers.specs.Numbers.{next_number, IsNumberInSession}
use Rattle.session_answers.specs.Running.{IsBehind, HasLoaded, HasRunBlock}
use Rattle.session_answers.proofs.Behind.{load_behind, block_behind}

-- what holds of the value where there is one
pub if_ok : {A E : Type 0} (P Q : A → Type 0) (r : Result A E) → ((x : A) → P x → Q x) → IfOk r P → IfOk r Q
if_ok P Q (Ok x) leads is = leads x is
if_ok P Q (Err e) leads is = tt

pub take_next : {A : Type 0} (xs : List A) (k : ℕ) (x : A) → slice_get xs k ≡ Some x → take (k + 1) xs ≡ take k xs ++ x ∷ []
take_next xs k x is = take_more xs k x (slice_get_within xs k x is) ∙ ap (λ y. take k xs ++ y ∷ []) (get_or_from_slice_get xs k x x is)

-- a list parts at an index
parted : {A : Type 0} (xs : List A) (k : ℕ) (x : A) → slice_get xs k ≡ Some x → (after : List A) × (xs ≡ take k xs ++ x ∷ after)
parted [] k x is = absurd cc
parted (y ∷ xs) zero x is = let same : y ≡ x = cc in (xs, ap (λ z. z ∷ xs) same)
parted (y ∷ xs) (suc k) x is = let rest = parted xs k x is in (rest.0, ap (λ zs. y ∷ zs) rest.1)

pub of_item : {A : Type 0} (P : A → Type 0) (xs : List A) (k : ℕ) (x : A) → AllByRecursion P xs → slice_get xs k ≡ Some x → P x
of_item P [] k x all is = absurd cc
of_item P (y ∷ xs) zero x all is = let same : y ≡ x = cc in subst P same all.0
of_item P (y ∷ xs) (suc k) x all is = of_item P xs k x all.1 is

-- a count of the items before one, and its own, are at most that of all
counted_before : {A : Type 0} (f : A → ℕ) (xs : List A) (k : ℕ) (x : A) (most : ℕ) → sum_by f xs ≤ most → slice_get xs k ≡ Some x → sum_by f (take k xs) + f x ≤ most
counted_before f xs k x most few is =
    let parts = parted xs k x is in
    let all : sum_by f xs ≡ sum_by f (take k xs) + sum_by f (x ∷ parts.0) = ap (sum_by f) parts.1 ∙ sum_by-append f (take k xs) (x ∷ parts.0) in
    let own : sum_by f (x ∷ parts.0) ≡ f x + sum_by f parts.0 = sum_by-cons f x parts.0 in
    omega arith

module _ (session : Session) (index : ℕ) (old : Running) (is : IsSession session) (behind : IsBehind session (take index session.items) old) where
  pub load_within : (number : ℕ) (edit : Edit) → slice_get session.items index ≡ Some (item.Load number edit) → number < length old.replicas.items
  load_within number edit at =
      let within : number < length session.replicas = of_item (IsItem session) session.items index (item.Load number edit) is.items at in
      let all : length old.replicas.items ≡ length session.replicas = behind.replicas.all in
      omega arith

  pub block_within : (block : Block) → slice_get session.items index ≡ Some (item.Block block) → old.blocks < 64
  block_within block at =
      let few = counted_before (λ (x : Item). cond (is_block x) 1 0) session.items index (item.Block block) 64 is.few_blocks at in
      let count = behind.blocks in
      omega arith

  pub show_within : (next : Item) → is_show next ≡ true → slice_get session.items index ≡ Some next → old.shows < 8
  show_within next is_one at =
      let few = counted_before (λ (x : Item). cond (is_show x) 1 0) session.items index next 8 is.few_shows at in
      let one : ◌≡◌ {A = ℕ} (cond (is_show next) 1 0) 1 = ap {B = ℕ} (λ b. cond b 1 0) is_one in
      let count = behind.shows in
      omega arith

  pub lines_can_run : (block : Block) → slice_get session.items index ≡ Some (item.Block block) → AllByRecursion (CanRun session.authors (length session.replicas)) block.lines
  lines_can_run block at = let parts = parted session.items index (item.Block block) at in block_can_run session (take index session.items) parts.0 block is parts.1

  pub few_sends : (block : Block) → slice_get session.items index ≡ Some (item.Block block) → old.sends + 1 + count_by is_send block.lines < 2 ^ 32
  few_sends block at =
      let parts = parted session.items index (item.Block block) at in
      let few = few_numbers session (take index session.items) parts.0 block is parts.1 in
      let count = behind.sends in
      let own = sends_counted block.lines in
      omega arith

  -- the numbers of a block's lines are those that they have in the session
  pub block_numbers : (block : Block) → slice_get session.items index ≡ Some (item.Block block) → (author number : ℕ) → IsNumberIn session.authors old.calls.items block.lines author number → IsNumberInSession session author number
  block_numbers block at author number n =
      let before = take index session.items in
      let parts = parted session.items index (item.Block block) at in
      let next = λ (d : Declared). next_number before d.author in
      let first : next n.declared ≡ n.first =
      same_Some (next n.declared) n.first
      (sym (ap (option_map next) n.is_declared) ∙ (sym (slice_get-map next session.authors n.place) ∙ (ap (λ ns. slice_get ns n.place) (sym behind.calls) ∙ n.is_first))) in
      let own : next_number before author ≡ n.first = ap (next_number before) n.is_author ∙ first in
      record {
        before = before;
        block = block;
        after = parts.0;
        is_block = parts.1;
        is_line = subst (λ f. IsLineNumber author f block.lines number) (sym own) n.is_line;
      }

  -- ---- one item more

  pub after_item : (next : Item) (new : Running) → slice_get session.items index ≡ Some next → IsBehind session (take index session.items ++ next ∷ []) new → IsBehind session (take (index + 1) session.items) new
  after_item next new at more = subst (λ items. IsBehind session items new) (sym (take_next session.items index next at)) more

  pub after_load : (number : ℕ) (edit : Edit) (new : Running) → slice_get session.items index ≡ Some (item.Load number edit) → HasLoaded number edit old new → IsBehind session (take (index + 1) session.items) new
  after_load number edit new at has =
      after_item (item.Load number edit) new at (load_behind session (take index session.items) old new behind number edit has)

  pub after_block : (block : Block) (new : Running) → slice_get session.items index ≡ Some (item.Block block) → HasRunBlock session block old new → IsBehind session (take (index + 1) session.items) new
  after_block block new at has =
      let lines : AllByRecursion (IsLine session) block.lines = of_item (IsItem session) session.items index (item.Block block) is.items at in
      after_item (item.Block block) new at (block_behind session (take index session.items) old new behind block is lines has)
