-- A block of a session can be run.
use Rattle.std.proofs.Common.{◌≡◌, ◌+◌, ◌^◌, ◌<◌, ◌≤◌, List, [], ◌∷◌, ◌++◌, length, cond, refl, ap, subst, ◌∙◌, arith}
use Rattle.std.specs.List.{AllByRecursion, count_by, sum_by}
use Rattle.std.proofs.lemmas.List.Sums.{sum_by-cons, sum_by-append}
use Rattle.session_script.specs.declared.author.Declared.{Declared}
use Rattle.session_script.specs.declared.item.Block.{Block}
use Rattle.session_script.specs.declared.item.Item.{Item}
use Rattle.session_script.specs.declared.item.Item.TheVariants as item
use Rattle.session_script.specs.declared.line.Line.{Line}
use Rattle.session_script.specs.declared.line.Line.TheVariants as line
use Rattle.session_script.specs.declared.session.Session.{Session}
use Rattle.session_script.specs.Session.{is_send, send_count, IsDeclared, IsLine, IsItem, IsSession}
use Rattle.session_run.specs.Calls.{sends_of}
use Rattle.session_run.specs.Run.{IsPlaced, CanRun}

placed : (session : Session) (authors : List Declared) → AllByRecursion (IsDeclared session) authors → AllByRecursion (IsPlaced (length session.replicas)) authors
placed session [] h = tt
placed session (d ∷ authors) h = ((h.0.0.0, h.0.1), placed session authors h.1)

pub all_placed : (session : Session) → IsSession session → AllByRecursion (IsPlaced (length session.replicas)) session.authors
all_placed session h = placed session session.authors h.authors

can_run : (session : Session) (lines : List Line) → AllByRecursion (IsLine session) lines → AllByRecursion (CanRun session.authors (length session.replicas)) lines
can_run session [] h = tt
can_run session (line.Author author action ∷ lines) h = (h.0.0, can_run session lines h.1)
can_run session (line.Send send ∷ lines) h = ((h.0.from, h.0.to, h.0.some_cut), can_run session lines h.1)

item_at : (session : Session) (before after : List Item) (one : Item) → AllByRecursion (IsItem session) (before ++ one ∷ after) → IsItem session one
item_at session [] after one h = h.0
item_at session (i ∷ before) after one h = item_at session before after one h.1

pub block_can_run : (session : Session) (before after : List Item) (block : Block) → IsSession session → session.items ≡ before ++ item.Block block ∷ after
    → AllByRecursion (CanRun session.authors (length session.replicas)) block.lines
block_can_run session before after block h parts =
    can_run session block.lines (item_at session before after (item.Block block) (subst (AllByRecursion (IsItem session)) parts h.items))

-- the `send` lines of a block are as many as are counted
pub sends_counted : (lines : List Line) → count_by is_send lines ≡ length (sends_of lines)
sends_counted [] = refl
sends_counted (line.Author author action ∷ lines) =
    let same : count_by is_send (line.Author author action ∷ lines) ≡ 0 + count_by is_send lines = sum_by-cons (λ x. cond (is_send x) 1 0) (line.Author author action) lines in
    let rest = sends_counted lines in
    omega arith
sends_counted (line.Send send ∷ lines) =
    let one_more : count_by is_send (line.Send send ∷ lines) ≡ 1 + count_by is_send lines = sum_by-cons (λ x. cond (is_send x) 1 0) (line.Send send) lines in
    let rest = sends_counted lines in
    omega arith

pub few_numbers : (session : Session) (before after : List Item) (block : Block) → IsSession session → session.items ≡ before ++ item.Block block ∷ after
    → sum_by send_count before + 1 + length (sends_of block.lines) < 2 ^ 32
few_numbers session before after block h parts =
    let few : sum_by send_count session.items ≤ 32 = h.few_sends in
    let all : sum_by send_count session.items ≡ sum_by send_count before + sum_by send_count (item.Block block ∷ after) =
    ap (sum_by send_count) parts ∙ sum_by-append send_count before (item.Block block ∷ after) in
    let mine : sum_by send_count (item.Block block ∷ after) ≡ count_by is_send block.lines + sum_by send_count after = sum_by-cons send_count (item.Block block) after in
    let counted = sends_counted block.lines in
    omega arith
