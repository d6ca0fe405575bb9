use Rattle.std.proofs.Common.{◌≡◌, List, [], ◌∷◌, Some, ℕ, zero, suc, drop, slice_get, length, sym, ap, subst, ◌∙◌, arith, rules}
use Rattle.std.specs.List.{AllByRecursion}
use Rattle.std.proofs.lemmas.List.Sums.{count_by-le-length}
use Rattle.std.proofs.lemmas.Option.{same_Some, none-some}
use Rattle.session_script.specs.declared.item.Item.{Item}
use Rattle.session_script.specs.declared.item.Item.TheVariants.{Block}
use Rattle.author_desk.specs.Cuts.{CanRaise, HasPartsFor}
use Rattle.session_run.specs.Boards.{is_at_work, authors_at_work}
use Rattle.session_run.specs.Run.{CanRun}
use Rattle.session_run.proofs.Seats.{fewer_parts}
use Rattle.session_run.proofs.OfSessions.{few_numbers, block_can_run}
use Rattle.thread_tests.proofs.session_run_tests.journals_of.Goals as goal

first_item : (items : List Item) (one : Item) → slice_get items 0 ≡ Some one → items ≡ one ∷ drop 1 items
first_item [] one is = absurd (none-some one is)
first_item (i ∷ items) one is = ap (λ (j : Item). j ∷ items) (same_Some i one is)

at_index : {X : Type 0} (P : X → Type 0) (xs : List X) (k : ℕ) (x : X) → AllByRecursion P xs → slice_get xs k ≡ Some x → P x
at_index P [] k x all is = absurd (none-some x is)
at_index P (y ∷ ys) zero x all is = subst P (same_Some y x is) all.0
at_index P (y ∷ ys) (suc k) x all is = at_index P ys k x all.1 is

pub run_block-requires-clause-boards : goal.run_block-requires-clause-boards
run_block-requires-clause-boards g c κs within = λ replica own is.
    let can = at_index (λ cuts. CanRaise cuts × HasPartsFor 2 cuts) c.args.cuts.now.items replica own c.requires.boards is in
    let authors = c.args.session.now.authors in
    let lines = c.in-Some-Block.block.lines in
    let few = count_by-le-length (is_at_work lines replica) authors in
    let two = c.requires.authors in
    record { can_raise = can.0; parts = fewer_parts own (authors_at_work authors lines replica) 2 (omega arith) can.1 }

pub run_block-requires-clause-numbers : goal.run_block-requires-clause-numbers
run_block-requires-clause-numbers g c κs within =
    let items = c.args.session.now.items in
    let block = c.in-Some-Block.block in
    let first : slice_get items 0 ≡ Some (Block block) = search rules in
    let few = few_numbers c.args.session.now [] (drop 1 items) block c.requires.session (first_item items (Block block) first) in
    omega arith

pub run_block-requires-clause-lines : goal.run_block-requires-clause-lines
run_block-requires-clause-lines g c κs within =
    let session = c.args.session.now in
    let block = c.in-Some-Block.block in
    let first : slice_get session.items 0 ≡ Some (Block block) = search rules in
    let can = block_can_run session [] (drop 1 session.items) block c.requires.session (first_item session.items (Block block) first) in
    let two : length session.replicas ≡ length c.args.machines.items = c.requires.replicas ∙ sym c.requires.machines in
    subst (λ (n : ℕ). AllByRecursion (CanRun session.authors n) block.lines) two can
