-- A walk up by numbers, which is a walk up from a vertex.
use Rattle.std.proofs.Common.{◌≡◌, ℕ, zero, suc, ◌+◌, ◌<◌, List, [], ◌∷◌, length, Some, None, is_some, IsSome, refl, sym, ap, subst, ◌∙◌, arith, inl}
use Rattle.std.specs.Prelude.{slice_get, slice_set}
use Rattle.std.specs.List.{IsDistinct}
use Rattle.grove_edits.specs.declared.vertex.Vertex.{Vertex}
use Rattle.grove_edits.specs.Vertex.{is_same_vertex}
use Rattle.graph_words.specs.Walk.{above}
use Rattle.graph_words.proofs.Up.{up}
use Rattle.graph_words.proofs.Returns.{some_same}
use Rattle.graph_words.specs.Met.{met_by, unmet, AreNumbered, HasEnded}
use Rattle.graph_words.proofs.Unmet.{HasEntered, unmet-entered, sole_parent}
use Rattle.graph_words.proofs.Meetings.{Met, IsMeeting, IsEntered, meeting_entered, meeting_next, ended_at_none, ended_at_itself, ended_at_earlier, first_entered}
use Rattle.graph_table.specs.Table.{Table, live, vertex_at, vertex_or_root, IsNumber}
use Rattle.grove_decompose.specs.Met.{walk_at, met_of}
use Rattle.grove_decompose.proofs.Marks.{met_at, entered_at}

read_at : (vs : List Vertex) (n : ℕ) → n < length vs → slice_get vs n ≡ Some (vertex_or_root (slice_get vs n))
read_at [] n within = absurd (omega arith)
read_at (v ∷ vs) zero within = refl
read_at (v ∷ vs) (suc n) within = read_at vs n (omega arith)

pub vertex_read : (table : Table) (n : ℕ) → IsNumber table n → slice_get table.vertices n ≡ Some (vertex_at table n)
vertex_read table n within = read_at table.vertices n within

-- the walk from one number is about to look at another one
pub record IsWalking (table : Table) (start at walk : ℕ) (before after : List ℕ) : Type 0 where
  pub number : IsNumber table at
  pub all : length after ≡ length table.vertices
  pub steps : ℕ
  pub meeting : IsMeeting (live table) (vertex_at table start) (vertex_at table at) walk (met_of table.vertices before) (met_of table.vertices after) 0 steps

-- the same after the walk's number was noted there
pub record IsNoted (table : Table) (start at walk : ℕ) (before after : List ℕ) : Type 0 where
  pub all : length after ≡ length table.vertices
  pub steps : ℕ
  pub entered : IsEntered (live table) (vertex_at table start) (vertex_at table at) walk (met_of table.vertices before) (met_of table.vertices after) 0 steps

not_met_yet : (walk : ℕ) (met : Met) → AreNumbered walk met → (v : Vertex) → met_by met v ≡ Some walk → ⊥
not_met_yet walk met earlier v is = let less = earlier v walk is in omega arith

pub begun : (table : Table) (start walk : ℕ) (before : List ℕ) → IsNumber table start → length before ≡ length table.vertices → AreNumbered walk (met_of table.vertices before) → IsWalking table start start walk before before
begun table start walk before number all earlier = record {
  number = number;
  all = all;
  steps = 0;
  meeting = record {
    n = 0;
    there = refl;
    passed = λ i x lt. absurd (omega arith);
    within = omega arith;
    counted = omega arith;
    fewer = omega arith;
    kept = λ v. inl refl;
    below = λ v has. absurd (not_met_yet walk (met_of table.vertices before) earlier v has);
  };
}

length-slice_set : (xs : List ℕ) (n x : ℕ) → length (slice_set xs n x) ≡ length xs
length-slice_set [] n x = refl
length-slice_set (y ∷ xs) zero x = refl
length-slice_set (y ∷ xs) (suc n) x = ap suc (length-slice_set xs n x)

-- what the table tells of its vertices' numbers
module _ (table : Table) (once : IsDistinct is_same_vertex table.vertices) (start at walk : ℕ) (before after : List ℕ) (walking : IsWalking table start at walk before after) where
  same_met : met_by (met_of table.vertices after) (vertex_at table at) ≡ walk_at after at
  same_met = met_at table.vertices once after at (vertex_at table at) (vertex_read table at walking.number)

  pub has_entered : (then : List ℕ) → then ≡ slice_set after at (walk + 1) → HasEntered (vertex_at table at) walk (met_of table.vertices after) (met_of table.vertices then)
  has_entered then is =
      let one : walk + 1 ≡ suc walk = omega arith in
      subst (λ marks. HasEntered (vertex_at table at) walk (met_of table.vertices after) (met_of table.vertices marks)) (sym (is ∙ ap (slice_set after at) one))
      (entered_at table.vertices once after at walk (vertex_at table at) walking.all (vertex_read table at walking.number))

  pub noted : (then : List ℕ) → walk_at after at ≡ None → then ≡ slice_set after at (walk + 1) → IsNoted table start at walk before then
  noted then new is = record {
    all = ap length is ∙ length-slice_set after at (walk + 1) ∙ walking.all;
    steps = walking.steps;
    entered = meeting_entered (live table) (vertex_at table start) (vertex_at table at) walk (met_of table.vertices before) (met_of table.vertices after) (met_of table.vertices then) 0 walking.steps
        walking.meeting (same_met ∙ new) (has_entered then is);
  }

  -- one vertex less is left that no walk has met
  pub less_left : (then : List ℕ) (x : Vertex) → walk_at after at ≡ None → then ≡ slice_set after at (walk + 1) → above (live table) (vertex_at table at) ≡ Some x
      → unmet (live table) (met_of table.vertices then) < unmet (live table) (met_of table.vertices after)
  less_left then x new is next =
      let fewer = unmet-entered (live table) (vertex_at table at) walk (met_of table.vertices after) (met_of table.vertices then) (same_met ∙ new) (has_entered then is) in
      let sole = sole_parent (live table) (vertex_at table at) x next in
      omega arith

  pub came_back : walk_at after at ≡ Some walk → HasEnded (live table) walk (met_of table.vertices before) (met_of table.vertices after) (Some (vertex_at table at))
  came_back is =
      ended_at_itself (live table) (vertex_at table start) (vertex_at table at) walk (met_of table.vertices before) (met_of table.vertices after) 0 walking.steps walking.meeting (same_met ∙ is)

  pub came_to : (earlier : ℕ) → walk_at after at ≡ Some earlier → (earlier ≡ walk → ⊥) → HasEnded (live table) walk (met_of table.vertices before) (met_of table.vertices after) None
  came_to earlier is other =
      ended_at_earlier (live table) (vertex_at table start) (vertex_at table at) walk earlier (met_of table.vertices before) (met_of table.vertices after) 0 walking.steps walking.meeting (same_met ∙ is) other

  pub start_met : (earlier : ℕ) → walk_at after at ≡ Some earlier → IsSome (met_by (met_of table.vertices after) (vertex_at table start))
  start_met earlier is = by_steps walking.meeting.n walking.meeting.there walking.meeting.passed where
    by_steps : (n : ℕ) → up (live table) n (Some (vertex_at table start)) ≡ Some (vertex_at table at)
        → ((i : ℕ) (x : Vertex) → i < n → up (live table) i (Some (vertex_at table start)) ≡ Some x → IsSome (met_by (met_of table.vertices after) x)) → IsSome (met_by (met_of table.vertices after) (vertex_at table start))
    by_steps zero there passed =
        ap (λ v. is_some (met_by (met_of table.vertices after) v)) (some_same (vertex_at table start) (vertex_at table at) there) ∙ ap is_some (same_met ∙ is)
    by_steps (suc n) there passed = passed 0 (vertex_at table start) (omega arith) refl

module _ (table : Table) (start at walk : ℕ) (before after : List ℕ) (it : IsNoted table start at walk before after) where
  pub goes_on : (x : ℕ) → IsNumber table x → above (live table) (vertex_at table at) ≡ Some (vertex_at table x) → IsWalking table start x walk before after
  goes_on x number next = record {
    number = number;
    all = it.all;
    steps = it.steps + 2;
    meeting = meeting_next (live table) (vertex_at table start) (vertex_at table at) (vertex_at table x) walk (met_of table.vertices before) (met_of table.vertices after) 0 it.steps (it.steps + 2) it.entered next refl;
  }

  pub came_up : above (live table) (vertex_at table at) ≡ None → HasEnded (live table) walk (met_of table.vertices before) (met_of table.vertices after) None
  came_up none = ended_at_none (live table) (vertex_at table start) (vertex_at table at) walk (met_of table.vertices before) (met_of table.vertices after) 0 it.steps it.entered none

  pub start_noted : IsSome (met_by (met_of table.vertices after) (vertex_at table start))
  start_noted = first_entered (live table) (vertex_at table start) (vertex_at table at) walk (met_of table.vertices before) (met_of table.vertices after) 0 it.steps it.entered
