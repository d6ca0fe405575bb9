-- Inner model, which no public contract cites: how many steps a walk down a tree counts.
use Rattle.std.specs.Prelude.{◌≡◌, Bool, ℕ, suc, ◌+◌, ◌*◌, ◌≤◌, List, [], ◌∷◌, length, take, drop}
use Rattle.std.specs.List.{sum_by}
use Rattle.grove_sorts.specs.declared.position.Position.{Position}
use Rattle.grove_sorts.specs.declared.sort.Sort.{Sort}
use Rattle.grove_sorts.specs.Ctor.{positions}
use Rattle.grove_edits.specs.declared.vertex.Vertex.{Vertex}
use Rattle.grove_edits.specs.declared.edge.Edge.{Edge}
use Rattle.grove_terms.specs.Forest.{edges_from, edges_under}
use Rattle.type_core.specs.Typ.{Typ}
use Rattle.ctx_table.specs.Context.{Context}
use Rattle.kept_records.specs.Kept.{Kept, Records}
use Rattle.kept_records.specs.Kept.{alone}
use Rattle.kept_records.specs.Renewal.{MakesTrees}
use Rattle.kept_records.specs.Short.{MakesFrom}
use Rattle.mark_store.specs.declared.record.Record.{Record}
use Rattle.mark_store.specs.Places.{Places}
use Rattle.mark_incremental.specs.declared.frame.Frame.{Frame}
use Rattle.mark_incremental.specs.Walking.{ReadsAs, LeavesRight, LeavesRightBelow, Start, start_at, HasMade}

-- one for the vertex and one for each edge under it
abbrev pub weight : List Edge → Vertex → ℕ
weight live v = 1 + length (edges_under live v)

-- the weight of the vertices of which something is made
abbrev pub weight_of : {X : Type 0} → List Edge → List (Vertex × X) → ℕ
weight_of live made = sum_by (λ m. weight live m.0) made

-- the weight of the vertices that are open
abbrev pub weight_open : List Edge → List Frame → ℕ
weight_open live [] = 0
weight_open live (fr ∷ frames) = weight live fr.vertex.now + weight_open live frames

-- the positions from the next one on
abbrev pub from_next : Frame → List (Position × Sort)
from_next fr = drop fr.state.next (positions fr.vertex.now.ctor)

-- what it counts at most to begin any of some positions of a vertex: one for each, and one for each edge there
abbrev pub places_cost : List Edge → Vertex → List (Position × Sort) → ℕ
places_cost live v row = length row + length (edges_from live v row)

-- those behind it
abbrev pub after_next : Frame → List (Position × Sort)
after_next fr = drop (suc fr.state.next) (positions fr.vertex.now.ctor)

-- what it counts to begin the next position: one for the position, if there is one, and one for each edge there
abbrev pub begun_cost : Frame → ℕ
begun_cost fr = length (take 1 (from_next fr)) + length fr.left

-- the most that is still counted for a vertex, with these edges left at its position: three for each of them, and what the positions
-- behind it take
abbrev pub still_costs : List Edge → Frame → List Edge → ℕ
still_costs live fr left = 3 * length left + (length (after_next fr) + 4 * length (edges_from live fr.vertex.now (after_next fr)))

-- for some vertices whose first children that are left were looked at
abbrev pub waiting_cost : List Edge → List Frame → ℕ
waiting_cost live [] = 0
waiting_cost live (fr ∷ frames) = still_costs live fr (drop 1 fr.left) + waiting_cost live frames

-- for the vertices that are open, innermost first
abbrev pub open_cost : List Edge → List Frame → ℕ
open_cost live [] = 0
open_cost live (fr ∷ frames) = still_costs live fr fr.left + waiting_cost live frames

-- What was counted since a start, with what may still be counted for open vertices, is at most five for each vertex and each edge under it
-- that is open or of which a record is made. Some records were paid for before the start.
pub record AreCounted (live : List Edge) (start paid steps : ℕ) (frames : List Frame) (made : List (Vertex × Record)) : Type 0 where
  pub within : steps + (open_cost live frames + paid) ≤ start + 5 * (weight_open live frames + weight_of live made)

-- a frame at its next child
pub record IsMoved (before now : Frame) : Type 0 where
  pub vertex : now.vertex.now ≡ before.vertex.now
  pub state : now.state ≡ before.state
  pub left : now.left ≡ drop 1 before.left

-- the innermost of some vertices, whose first child that is left was looked at, is at its next child
pub record AreMoved (live : List Edge) (before now : List Frame) : Type 0 where
  pub costs : open_cost live now ≡ waiting_cost live before
  pub weighs : weight_open live now ≡ weight_open live before

-- ---- also where memory runs out in the midst of a walk

-- there is a walk down, behind some records, for which so much may be counted
pub record IsPaid (live : List Edge) (judged : Vertex → Bool) (records : Records) (from : Start) (before : List (Vertex × Kept)) (start paid steps : ℕ) : Type 0 where
  pub all : List (Vertex × Kept)
  pub made : HasMade live judged records from before all
  pub within : steps + paid ≤ start + 5 * weight_of live all

-- the same for whatever records the map has, read through the tables
abbrev pub IsPaidFor : List Edge → List Typ → List Context → Places Record → (Vertex → Bool) → Start → List (Vertex × Kept) → ℕ → ℕ → ℕ → Type 0
IsPaidFor live types ctxs places judged from before start paid steps =
    (records : Records) → ReadsAs types ctxs places records → LeavesRightBelow live judged records from.vertex → IsPaid live judged records from before start paid steps

-- What a walk down counts, also where it is cut off, is at most five for each vertex, and for each edge under it, of the records that the
-- walk makes.
pub record IsWalkPaid (live : List Edge) (judged : Vertex → Bool) (records : Records) (from : Start) (before after : ℕ) : Type 0 where
  pub all : List (Vertex × Kept)
  pub makes : MakesFrom judged live records from.vertex from.demanded all
  pub within : after ≤ before + 5 * weight_of live all

abbrev pub IsWalkPaidFor : List Edge → List Typ → List Context → Places Record → (Vertex → Bool) → Start → ℕ → ℕ → Type 0
IsWalkPaidFor live types ctxs places judged from before after =
    (records : Records) → ReadsAs types ctxs places records → LeavesRightBelow live judged records from.vertex → IsWalkPaid live judged records from before after

-- the same of a tree
abbrev pub IsTreePaidFor : List Edge → List Typ → List Context → Places Record → (Vertex → Bool) → Vertex → ℕ → ℕ → Type 0
IsTreePaidFor live types ctxs places judged head before after = IsWalkPaidFor live types ctxs places judged (start_at head alone) before after

-- and of the trees of some heads
pub record AreTreesPaid (live : List Edge) (judged : Vertex → Bool) (records : Records) (heads : List Vertex) (before after : ℕ) : Type 0 where
  pub all : List (Vertex × Kept)
  pub makes : MakesTrees judged live records heads all
  pub within : after ≤ before + 5 * weight_of live all

abbrev pub AreTreesPaidFor : List Edge → List Typ → List Context → Places Record → (Vertex → Bool) → List Vertex → ℕ → ℕ → Type 0
AreTreesPaidFor live types ctxs places judged heads before after =
    (records : Records) → ReadsAs types ctxs places records → LeavesRight live judged records → AreTreesPaid live judged records heads before after
