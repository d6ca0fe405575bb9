-- Inner model, which no public contract cites: a walk down a tree, by the vertices that are open.
use Rattle.std.specs.Prelude.{◌≡◌, ◌⊎◌, ◌↔◌, ◌<◌, ℕ, suc, Bool, IsTrue, Some, List, [], ◌∷◌, ◌++◌, length, take, drop, map, reverse, if◌then◌else◌}
use Rattle.grove_sorts.specs.declared.position.Position.{Position}
use Rattle.grove_sorts.specs.declared.sort.Sort.{Sort}
use Rattle.grove_sorts.specs.Ctor.{positions, sort_of_ctor}
use Rattle.grove_edits.specs.declared.vertex.Vertex.{Vertex}
use Rattle.grove_edits.specs.declared.edge.Edge.{Edge}
use Rattle.graph_words.specs.Live.{children_of}
use Rattle.grove_terms.specs.Forest.{Forest, none, multi_ref, cycle_ref, tree, child_edges, edges_from}
use Rattle.type_core.specs.Typ.{Typ}
use Rattle.ctx_table.specs.Context.{Context}
use Rattle.mark_step.specs.Expression.{Demanded}
use Rattle.mark_step.specs.Step.{demand}
use Rattle.mark_step.specs.Rows.{is_exp}
use Rattle.mark_step.specs.Node as node
use Rattle.mark_step.specs.Node.{IsDemandOf}
use Rattle.marking.specs.Marking.{types_at, judged_in}
use Rattle.judging.specs.declared.frame.Given.{Given}
use Rattle.judging.specs.declared.frame.OpenVertex.{OpenVertex}
use Rattle.judging.specs.Machine as machine
use Rattle.judging.specs.Frames.{given_at, opened_at, IsOpenOf, IsGivenOf}
use Rattle.judging.proofs.Running.{Agree, after}
use Rattle.judging.proofs.Running as running
use Rattle.mark_step.specs.declared.node.Demand.{Demand}
use Rattle.kept_records.specs.Kept.{Kept, Records, Stands, alone, kept_of, expression_of, demanded_at, demanded_among}
use Rattle.kept_records.specs.Renewal.{MakesUnder, MakesTree, MakesTrees}
use Rattle.kept_records.specs.Renewal as renewal
use Rattle.kept_records.specs.Short.{MakesFrom}
use Rattle.mark_store.specs.declared.record.Record.{Record}
use Rattle.mark_store.specs.Places.{Places}
use Rattle.mark_incremental.specs.declared.frame.Frame.{Frame}
use Rattle.mark_incremental.specs.Reading.{kept_by, records_at, IsRecordOf}

-- ---- the vertices that are open

-- an open vertex: those above it, its children, what is demanded of it, and which children are left
pub record Level : Type 0 where
  pub above : List Vertex
  pub vertex : Vertex
  pub forest : Forest
  pub demanded : Demanded
  pub left : Forest

-- what is demanded of its children at a position
abbrev pub demands : Level → Position → Demanded
demands l = demanded_at (expression_of l.vertex l.forest l.demanded) l.forest

-- what is made of it in the end
abbrev pub made_of : Level → Vertex × Kept
made_of l = (l.vertex, kept_of l.vertex l.forest l.demanded)

-- the children behind the first
abbrev pub behind : Forest → Forest
behind none = none
behind (multi_ref e rest) = rest
behind (cycle_ref e rest) = rest
behind (tree e below rest) = rest

-- some children are all of others, or the last ones
abbrev pub IsTail : Forest → Forest → Type 0
IsTail left none = left ≡ none
IsTail left (multi_ref e rest) = (left ≡ multi_ref e rest) ⊎ IsTail left rest
IsTail left (cycle_ref e rest) = (left ≡ cycle_ref e rest) ⊎ IsTail left rest
IsTail left (tree e below rest) = (left ≡ tree e below rest) ⊎ IsTail left rest

-- the vertex is the first child that is left of another
pub record IsBelow (l m : Level) : Type 0 where
  pub edge : Edge
  pub rest : Forest
  pub first : m.left ≡ tree edge l.forest rest
  pub target : edge.target ≡ l.vertex
  pub demanded : l.demanded ≡ demands m edge.position

-- each is the first child that is left of the next
abbrev pub AreLinked : List Level → Type 0
AreLinked [] = Unit {0}
AreLinked (l ∷ []) = Unit {0}
AreLinked (l ∷ m ∷ ms) = IsBelow l m × AreLinked (m ∷ ms)

-- what holds of all records that are made, if those made so far, with whatever is made for the children behind the first ones of open vertices, are all
abbrev pub Awaits : (Vertex → Bool) → Records → (List (Vertex × Kept) → Type 0) → List Level → List (Vertex × Kept) → Type 0
Awaits judged records Done [] made = Done made
Awaits judged records Done (l ∷ ls) made =
    (later : List (Vertex × Kept)) → MakesUnder judged records (demands l) (behind l.left) later → Awaits judged records Done ls ((made ++ later) ++ made_of l ∷ [])

-- the same where the innermost vertex has all children that are left still to be taken
abbrev pub GoesOn : (Vertex → Bool) → Records → (List (Vertex × Kept) → Type 0) → List Level → List (Vertex × Kept) → Type 0
GoesOn judged records Done [] made = Done made
GoesOn judged records Done (l ∷ ls) made =
    (later : List (Vertex × Kept)) → MakesUnder judged records (demands l) l.left later → Awaits judged records Done ls ((made ++ later) ++ made_of l ∷ [])

-- ---- as they are kept

-- what is demanded of the children at a position by the rule, before it is asked how many they are
abbrev pub asked : Level → OpenVertex → Demanded
asked l o =
    let x = expression_of l.vertex l.forest l.demanded in
    demand x (types_at x (judged_in l.forest) (take o.next (positions l.vertex.ctor)) [])

-- what is given where the only child at a position is the one to which an edge leads
abbrev pub given_there : Level → OpenVertex → ℕ → Position × Sort → machine.Given
given_there l o n p = running.given_at p.1 n l.forest p.0 (asked l o)

-- what is demanded at the next position, and what it gives once no child is left there
pub record IsAtPlace (live : List Edge) (types : List Typ) (ctxs : List Context) (l : Level) (fr : Frame) (p : Position × Sort) : Type 0 where
  pub demand : Agree p.1 (node.demanded_at types ctxs fr.demand) (demands l p.0)
  pub done : List Edge
  pub held : done ++ fr.left ≡ children_of l.vertex p.0 live
  pub several : IsTrue fr.several ↔ (1 < length (children_of l.vertex p.0 live))
  pub gives : fr.left ≡ [] → given_at types fr.given ≡ given_there l fr.state (length (children_of l.vertex p.0 live)) p

-- what the first child that is left gives, where it is the only one at its position
abbrev pub GivesFirst : List Edge → List Typ → Level → Frame → Given → Type 0
GivesFirst live types l fr g =
    (p : Position × Sort) (ps : List (Position × Sort)) → drop fr.state.next (positions l.vertex.ctor) ≡ p ∷ ps → length (children_of l.vertex p.0 live) ≡ 1
    → given_at types g ≡ given_there l fr.state 1 p

-- the numbers of a frame are of the tables
pub record IsFrameOf (types : List Typ) (ctxs : List Context) (fr : Frame) : Type 0 where
  pub state : IsOpenOf types ctxs fr.state
  pub demand : IsDemandOf types ctxs fr.demand
  pub given : IsGivenOf types fr.given
  pub ctor : fr.state.ctor.now ≡ fr.vertex.now.ctor

abbrev pub AreFramesOf : List Typ → List Context → List Frame → Type 0
AreFramesOf types ctxs [] = Unit {0}
AreFramesOf types ctxs (fr ∷ frs) = IsFrameOf types ctxs fr × AreFramesOf types ctxs frs

-- a frame keeps an open vertex
pub record IsLevel (live : List Edge) (types : List Typ) (ctxs : List Context) (l : Level) (fr : Frame) : Type 0 where
  pub vertex : fr.vertex.now ≡ l.vertex
  pub stands : Stands live l.above l.vertex l.forest l.demanded
  pub agree : Agree (sort_of_ctor l.vertex.ctor) (node.demanded_at types ctxs fr.state.demand) l.demanded
  pub gave : opened_at types ctxs fr.state
      ≡ after l.vertex.ctor (node.demanded_at types ctxs fr.state.demand) (expression_of l.vertex l.forest l.demanded) l.forest (take fr.state.next (positions l.vertex.ctor))
  pub tail : IsTail l.left l.forest
  pub edges : child_edges l.left ≡ fr.left ++ edges_from live l.vertex (drop (suc fr.state.next) (positions l.vertex.ctor))
  pub place : (p : Position × Sort) (ps : List (Position × Sort)) → drop fr.state.next (positions l.vertex.ctor) ≡ p ∷ ps → IsAtPlace live types ctxs l fr p
  pub none_there : drop fr.state.next (positions l.vertex.ctor) ≡ [] → fr.left ≡ []

-- a child of each is open
abbrev pub AreWaiting : List Frame → Type 0
AreWaiting [] = Unit {0}
AreWaiting (fr ∷ frs) = (0 < length fr.left) × AreWaiting frs

abbrev pub AreLevels : List Edge → List Typ → List Context → List Level → List Frame → Type 0
AreLevels live types ctxs [] [] = Unit {0}
AreLevels live types ctxs [] (fr ∷ frs) = ⊥
AreLevels live types ctxs (l ∷ ls) [] = ⊥
AreLevels live types ctxs (l ∷ ls) (fr ∷ frs) = IsLevel live types ctxs l fr × AreLevels live types ctxs ls frs

-- ---- steps

-- the first child that is left has given this, which a conflict does not pass on
pub record IsAccepted (types : List Typ) (before : Frame) (g : Given) (now : Frame) : Type 0 where
  pub vertex : now.vertex.now ≡ before.vertex.now
  pub state : now.state ≡ before.state
  pub several : now.several ≡ before.several
  pub demand : now.demand ≡ before.demand
  pub left : now.left ≡ drop 1 before.left
  pub given : given_at types now.given ≡ (if before.several then machine.nothing else given_at types g)

-- an open vertex before its next position is begun
pub record IsBetween (live : List Edge) (types : List Typ) (ctxs : List Context) (l : Level) (o : OpenVertex) : Type 0 where
  pub stands : Stands live l.above l.vertex l.forest l.demanded
  pub agree : Agree (sort_of_ctor l.vertex.ctor) (node.demanded_at types ctxs o.demand) l.demanded
  pub gave : opened_at types ctxs o ≡ after l.vertex.ctor (node.demanded_at types ctxs o.demand) (expression_of l.vertex l.forest l.demanded) l.forest (take o.next (positions l.vertex.ctor))
  pub tail : IsTail l.left l.forest
  pub edges : child_edges l.left ≡ edges_from live l.vertex (drop o.next (positions l.vertex.ctor))

-- the position that comes next is begun; what is demanded there was found with the old tables
pub record IsBegunAt (live : List Edge) (old new : List Typ) (oldc newc : List Context) (fr : Frame) (p : Position × Sort) : Type 0 where
  pub left : fr.left ≡ children_of fr.vertex.now p.0 live
  pub several : IsTrue fr.several ↔ (1 < length (children_of fr.vertex.now p.0 live))
  pub demand : node.demanded_at new newc fr.demand ≡ demanded_among (length (children_of fr.vertex.now p.0 live)) (machine.demanded_by (opened_at old oldc fr.state) p.1)
  pub given : given_at new fr.given ≡ machine.nothing

pub record IsBegun (live : List Edge) (old new : List Typ) (oldc newc : List Context) (fr : Frame) : Type 0 where
  pub there : (p : Position × Sort) (ps : List (Position × Sort)) → drop fr.state.next (positions fr.vertex.now.ctor) ≡ p ∷ ps → IsBegunAt live old new oldc newc fr p
  pub none_there : drop fr.state.next (positions fr.vertex.now.ctor) ≡ [] → fr.left ≡ []

-- the child of the innermost of some vertices, if there is one, has given this
abbrev pub IsHanded : List Typ → Given → List Frame → List Frame → Type 0
IsHanded types g [] now = now ≡ []
IsHanded types g (fr ∷ frs) now = (taken : Frame) × (now ≡ taken ∷ frs) × (0 < length fr.left → IsAccepted types fr g taken)

-- what is kept of an open vertex whose positions are judged
abbrev pub kept_closed : machine.Opened → Kept
kept_closed v = record {
  scope = if is_exp (sort_of_ctor v.ctor) then v.demanded.scope else [];
  wanted = (machine.added_of v).wanted;
  typ = (machine.added_of v).typ;
  mark = (machine.added_of v).mark;
}

-- the record of such a vertex is made behind others
pub record IsSettled (types : List Typ) (ctxs : List Context) (v : Vertex) (opened : machine.Opened) (before now : List (Vertex × Record)) : Type 0 where
  pub kept : Record
  pub behind : now ≡ before ++ (v, kept) ∷ []
  pub is : kept_by types ctxs kept ≡ kept_closed opened
  pub numbers : IsRecordOf types ctxs kept

-- ---- the walk

-- the vertices that are open, innermost first: none once the walk has ended
abbrev pub still_open : Bool → Frame → List Frame → List Frame
still_open ended innermost outer = if ended then [] else innermost ∷ reverse outer

-- what the records that are made stand for
abbrev pub meant : List Typ → List Context → List (Vertex × Record) → List (Vertex × Kept)
meant types ctxs made = map (λ m. (m.0, kept_by types ctxs m.1)) made

abbrev pub AreMadeOf : List Typ → List Context → List (Vertex × Record) → Type 0
AreMadeOf types ctxs [] = Unit {0}
AreMadeOf types ctxs (m ∷ ms) = IsRecordOf types ctxs m.1 × AreMadeOf types ctxs ms

-- the records of the map read so
abbrev pub ReadsAs : List Typ → List Context → Places Record → Records → Type 0
ReadsAs types ctxs places records = (v : Vertex) → records v ≡ records_at types ctxs places v

-- what is left as it is has the record that it has in the new graph
abbrev pub LeavesRight : List Edge → (Vertex → Bool) → Records → Type 0
LeavesRight live judged records = (u : Vertex) (us : List Vertex) (v : Vertex) (f : Forest) (d : Demanded) → Stands live (u ∷ us) v f d → renewal.IsLeft judged records v d
    → records v ≡ Some (kept_of v f d)

-- ---- where a walk down begins

-- a vertex, of which this is demanded
pub record Start : Type 0 where
  pub vertex : Vertex
  pub demanded : Demanded

abbrev pub start_at : Vertex → Demanded → Start
start_at v d = record { vertex = v; demanded = d }

-- it stands there, and what a number says is demanded of it
pub record IsStart (live : List Edge) (types : List Typ) (ctxs : List Context) (demand : Demand) (from : Start) : Type 0 where
  pub above : List Vertex
  pub forest : Forest
  pub stands : Stands live above from.vertex forest from.demanded
  pub agree : Agree (sort_of_ctor from.vertex.ctor) (node.demanded_at types ctxs demand) from.demanded

-- a vertex is among others
pub record IsMember (v : Vertex) (vs : List Vertex) : Type 0 where
  pub before : List Vertex
  pub behind : List Vertex
  pub are : vs ≡ before ++ v ∷ behind

-- each of some open vertices is a vertex, or stands below it
abbrev pub StandBelow : Vertex → List Level → Type 0
StandBelow start [] = Unit {0}
StandBelow start (l ∷ ls) = IsMember start (l.vertex ∷ l.above) × StandBelow start ls

-- what is left as it is below a vertex has the record that it has in the new graph
abbrev pub LeavesRightBelow : List Edge → (Vertex → Bool) → Records → Vertex → Type 0
LeavesRightBelow live judged records start =
    (u : Vertex) (us : List Vertex) (v : Vertex) (f : Forest) (d : Demanded) → Stands live (u ∷ us) v f d → IsMember start (u ∷ us) → renewal.IsLeft judged records v d
    → records v ≡ Some (kept_of v f d)

-- behind some records stand those that a walk down makes
pub record HasMade (live : List Edge) (judged : Vertex → Bool) (records : Records) (from : Start) (before made : List (Vertex × Kept)) : Type 0 where
  pub own : List (Vertex × Kept)
  pub are : made ≡ before ++ own
  pub makes : MakesFrom judged live records from.vertex from.demanded own

-- the vertices that are open in a walk down, innermost first, and the records that are made so far, behind some others
pub record IsOnWay (live : List Edge) (types : List Typ) (ctxs : List Context) (judged : Vertex → Bool) (records : Records) (from : Start) (before : List (Vertex × Kept)) (frames : List Frame) (made : List (Vertex × Record)) : Type 0 where
  pub levels : List Level
  pub are : AreLevels live types ctxs levels frames
  pub waiting : AreWaiting (drop 1 frames)
  pub linked : AreLinked levels
  pub below : StandBelow from.vertex levels
  pub goes_on : GoesOn judged records (HasMade live judged records from before) levels (meant types ctxs made)

-- the same for whatever records the map has, read through the tables
abbrev pub IsUnderWay : List Edge → List Typ → List Context → Places Record → (Vertex → Bool) → Start → List (Vertex × Kept) → List Frame → List (Vertex × Record) → Type 0
IsUnderWay live types ctxs places judged from before frames made =
    (records : Records) → ReadsAs types ctxs places records → LeavesRightBelow live judged records from.vertex → IsOnWay live types ctxs judged records from before frames made

-- behind some records stand those of a walk down, for whatever records the map has, read through the tables
abbrev pub HasMadeFrom : List Edge → List Typ → List Context → Places Record → (Vertex → Bool) → Start → List (Vertex × Record) → List (Vertex × Record) → Type 0
HasMadeFrom live types ctxs places judged from before made =
    (records : Records) → ReadsAs types ctxs places records → LeavesRightBelow live judged records from.vertex → HasMade live judged records from (meant types ctxs before) (meant types ctxs made)

-- those of a tree
abbrev pub HasMadeTree : List Edge → List Typ → List Context → Places Record → (Vertex → Bool) → Vertex → List (Vertex × Record) → List (Vertex × Record) → Type 0
HasMadeTree live types ctxs places judged head before made = HasMadeFrom live types ctxs places judged (start_at head alone) before made

-- the records are those of the trees of some heads
abbrev pub HasMadeTrees : List Edge → List Typ → List Context → Places Record → (Vertex → Bool) → List Vertex → List (Vertex × Record) → Type 0
HasMadeTrees live types ctxs places judged heads made =
    (records : Records) → ReadsAs types ctxs places records → LeavesRight live judged records → MakesTrees judged live records heads (meant types ctxs made)
