-- A walk up that gives a number to each vertex that it meets first.
use Rattle.std.proofs.Common.{◌≡◌, ℕ, suc, ◌+◌, ◌*◌, ◌<◌, ◌≤◌, true, false, cond, refl, sym, ap, ◌∙◌, arith, inl, inr, ◌⊎◌, is_some, IsSome}
use Rattle.std.specs.Prelude.{List, length, Option, None, Some}
use Rattle.grove_edits.specs.declared.vertex.Vertex.{Vertex}
use Rattle.grove_edits.specs.declared.edge.Edge.{Edge}
use Rattle.grove_edits.specs.Vertex.{is_same_vertex}
use Rattle.graph_words.specs.Live.{parents_of}
use Rattle.graph_words.specs.Walk.{above}
use Rattle.graph_words.specs.Class.{is_cycle_root}
use Rattle.grove_edits.proofs.Vertices.{same_vertex_exact, same_vertex_itself}
use Rattle.graph_words.proofs.Up.{up, walk_len, walk_back}
use Rattle.graph_words.specs.Met.{met_by, unmet, round_len, KeepsMet, HasEnded}
use Rattle.graph_words.specs.Cycle.{leads_to}
use Rattle.graph_words.proofs.Returns.{some_same, up_from}
use Rattle.graph_words.proofs.Unmet.{HasEntered, unmet-entered, sole_parent, no_longer}
use Rattle.graph_words.proofs.Cycles.{Reaches, leads_from_reaches, reaches_from_leads, back_from_return, cycle_from_back, root_further, no_root_below_none}

abbrev pub Met : Type 0
Met = List (Vertex × ℕ)

-- the walk is n steps up from its start, and about to look at a vertex
pub record IsMeeting (edges : List Edge) (first at : Vertex) (number : ℕ) (before after : Met) (start now : ℕ) : Type 0 where
  pub n : ℕ
  pub there : up edges n (Some first) ≡ Some at
  pub passed : (i : ℕ) (x : Vertex) → i < n → up edges i (Some first) ≡ Some x → IsSome (met_by after x)
  pub within : n ≤ walk_len edges first
  pub counted : now ≡ start + 2 * n
  pub fewer : n + unmet edges after ≤ unmet edges before
  pub kept : KeepsMet number before after
  pub below : (v : Vertex) → met_by after v ≡ Some number → (m : ℕ) × (m < n) × (up edges (suc m) (Some v) ≡ Some at)

-- the same after the vertex got the number
pub record IsEntered (edges : List Edge) (first at : Vertex) (number : ℕ) (before after : Met) (start now : ℕ) : Type 0 where
  pub n : ℕ
  pub there : up edges n (Some first) ≡ Some at
  pub passed : (i : ℕ) (x : Vertex) → i ≤ n → up edges i (Some first) ≡ Some x → IsSome (met_by after x)
  pub within : n < walk_len edges first
  pub counted : now ≡ start + 2 * n
  pub fewer : n + length (parents_of at edges) + unmet edges after ≤ unmet edges before
  pub kept : KeepsMet number before after
  pub below : (v : Vertex) → met_by after v ≡ Some number → (m : ℕ) × (m ≤ n) × (up edges m (Some v) ≡ Some at)

-- ---- a vertex gets the number

some_from : (o : Option ℕ) (k : ℕ) → o ≡ Some k → IsSome o
some_from None k is = absurd cc
some_from (Some j) k is = refl

entered_passed : (edges : List Edge) (first at : Vertex) (number n : ℕ) (after then : Met) → up edges n (Some first) ≡ Some at → HasEntered at number after then
    → ((i : ℕ) (x : Vertex) → i < n → up edges i (Some first) ≡ Some x → IsSome (met_by after x)) → (i : ℕ) (x : Vertex) → i ≤ n → up edges i (Some first) ≡ Some x → IsSome (met_by then x)
entered_passed edges first at number n after then there entered passed i x le found =
    elim (is_same_vertex at x) as (λ b. is_same_vertex at x ≡ b → met_by then x ≡ cond b (Some number) (met_by after x) → IsSome (met_by then x)) [
      | true ↦ λ _ is. some_from (met_by then x) number is
      | false ↦ λ other is.
          let not_last : i ≡ n → ⊥ = λ e.
          let one : at ≡ x = some_same at x (sym there ∙ ap (λ j. up edges j (Some first)) (sym e) ∙ found) in
          let same : is_same_vertex at x ≡ true = ap (is_same_vertex at) (sym one) ∙ same_vertex_itself at in
          cc in
          ap is_some is ∙ passed i x (omega (arith, not_last)) found
    ] refl (entered x)

entered_kept : (at : Vertex) (number : ℕ) (before after then : Met) → met_by after at ≡ None → HasEntered at number after then → KeepsMet number before after → KeepsMet number before then
entered_kept at number before after then new entered kept v =
    elim (is_same_vertex at v) as (λ b. is_same_vertex at v ≡ b → met_by then v ≡ cond b (Some number) (met_by after v) → (met_by then v ≡ met_by before v) ⊎ ((met_by before v ≡ None) × (met_by then v ≡ Some number))) [
      | true ↦ λ same is.
          let none : met_by after v ≡ None = ap (met_by after) (sym (same_vertex_exact at v same)) ∙ new in
          inr (elim (kept v) [ inl e ↦ sym e ∙ none | inr got ↦ got.0 ], is)
      | false ↦ λ _ is. elim (kept v) [ inl e ↦ inl (is ∙ e) | inr got ↦ inr (got.0, is ∙ got.1) ]
    ] refl (entered v)

entered_below : (edges : List Edge) (at : Vertex) (number n : ℕ) (after then : Met) → HasEntered at number after then
    → ((v : Vertex) → met_by after v ≡ Some number → (m : ℕ) × (m < n) × (up edges (suc m) (Some v) ≡ Some at)) → (v : Vertex) → met_by then v ≡ Some number
    → (m : ℕ) × (m ≤ n) × (up edges m (Some v) ≡ Some at)
entered_below edges at number n after then entered below v has =
    elim (is_same_vertex at v) as (λ b. is_same_vertex at v ≡ b → met_by then v ≡ cond b (Some number) (met_by after v) → (m : ℕ) × (m ≤ n) × (up edges m (Some v) ≡ Some at)) [
      | true ↦ λ same _. (0, omega arith, ap Some (sym (same_vertex_exact at v same)))
      | false ↦ λ _ is. let found = below v (sym is ∙ has) in (suc found.0, omega (arith, found.1), found.2)
    ] refl (entered v)

-- a vertex that was not met is not behind the end of the walk
not_ended : (edges : List Edge) (first at : Vertex) (n : ℕ) (after : Met) → up edges n (Some first) ≡ Some at → met_by after at ≡ None
    → ((i : ℕ) (x : Vertex) → i < n → up edges i (Some first) ≡ Some x → IsSome (met_by after x)) → n ≤ walk_len edges first → n < walk_len edges first
not_ended edges first at n after there new passed within =
    let not_last : walk_len edges first ≡ n → ⊥ = λ e.
    let found = walk_back edges first at (ap (λ i. up edges i (Some first)) e ∙ there) in
    let was : IsSome (met_by after at) = passed found.0 at (omega (arith, found.1)) found.2 in
    let none = ap is_some new in
    cc in
    omega (arith, not_last)

pub meeting_entered : (edges : List Edge) (first at : Vertex) (number : ℕ) (before after then : Met) (start now : ℕ) → IsMeeting edges first at number before after start now
    → met_by after at ≡ None → HasEntered at number after then → IsEntered edges first at number before then start now
meeting_entered edges first at number before after then start now meeting new entered =
    let fewer = meeting.fewer in
    let with_it = unmet-entered edges at number after then new entered in
    record {
      n = meeting.n;
      there = meeting.there;
      passed = entered_passed edges first at number meeting.n after then meeting.there entered meeting.passed;
      within = not_ended edges first at meeting.n after meeting.there new meeting.passed meeting.within;
      counted = meeting.counted;
      fewer = omega arith;
      kept = entered_kept at number before after then new entered meeting.kept;
      below = entered_below edges at number meeting.n after then entered meeting.below;
    }

pub meeting_next : (edges : List Edge) (first at x : Vertex) (number : ℕ) (before after : Met) (start now then : ℕ) → IsEntered edges first at number before after start now
    → above edges at ≡ Some x → then ≡ now + 2 → IsMeeting edges first x number before after start then
meeting_next edges first at x number before after start now then entered next ticks =
    let n : ℕ = entered.n in
    let within = entered.within in
    let counted = entered.counted in
    let fewer = entered.fewer in
    let sole = sole_parent edges at x next in
    record {
      n = suc n;
      there = up_from edges first at n (Some x) entered.there next;
      passed = λ i y lt found. entered.passed i y (omega arith) found;
      within = omega arith;
      counted = omega arith;
      fewer = omega arith;
      kept = entered.kept;
      below = λ v has. let found = entered.below v has in (found.0, omega (arith, found.1), up_from edges v at found.0 (Some x) found.2 next);
    }

-- ---- the walk ends

-- where no vertex is above, no cycle is
pub ended_at_none : (edges : List Edge) (first at : Vertex) (number : ℕ) (before after : Met) (start now : ℕ) → IsEntered edges first at number before after start now
    → above edges at ≡ None → HasEnded edges number before after None
ended_at_none edges first at number before after start now entered none v r has root leads =
    let found = entered.below v has in
    absurd (no_root_below_none edges v r (suc found.0) root (reaches_from_leads edges v r leads) (up_from edges v at found.0 None found.2 none))

-- a root above what the walk met is above the vertex at which the walk ends
root_from_end : (edges : List Edge) (at v r : Vertex) → is_cycle_root edges r ≡ true → leads_to edges v r ≡ true → Reaches edges v at → leads_to edges at r ≡ true
root_from_end edges at v r root leads there = leads_from_reaches edges at r (root_further edges v at r root (reaches_from_leads edges v r leads) there)

pub ended_at_itself : (edges : List Edge) (first at : Vertex) (number : ℕ) (before after : Met) (start now : ℕ) → IsMeeting edges first at number before after start now
    → met_by after at ≡ Some number → HasEnded edges number before after (Some at)
ended_at_itself edges first at number before after start now meeting is =
    let return = meeting.below at is in (
      cycle_from_back edges at (back_from_return edges at return.0 return.2),
      λ v r has root leads. let found = meeting.below v has in root_from_end edges at v r root leads (suc found.0, found.2),
    )

pub ended_at_earlier : (edges : List Edge) (first at : Vertex) (number walk : ℕ) (before after : Met) (start now : ℕ) → IsMeeting edges first at number before after start now
    → met_by after at ≡ Some walk → (walk ≡ number → ⊥) → HasEnded edges number before after None
ended_at_earlier edges first at number walk before after start now meeting is other v r has root leads =
    let found = meeting.below v has in
    let earlier : met_by before at ≡ Some walk = elim (meeting.kept at) [
      | inl e ↦ sym e ∙ is
      | inr got ↦ absurd (other (same_number (sym is ∙ got.1)))
    ] in
    (at, walk, earlier, root_from_end edges at v r root leads (suc found.0, found.2))
  where
    same_number : Some walk ≡ Some number → walk ≡ number
    same_number e = cc

-- ---- how many steps the walk took

-- the way round is no longer than the walk
pub round_within : (edges : List Edge) (first at : Vertex) (number : ℕ) (before after : Met) (start now : ℕ) → IsMeeting edges first at number before after start now
    → met_by after at ≡ Some number → walk_len edges at + unmet edges after ≤ unmet edges before
round_within edges first at number before after start now meeting is =
    let return = meeting.below at is in
    let len = no_longer edges at (suc return.0) (omega arith) return.2 in
    let fewer = meeting.fewer in
    omega (arith, return.1)

pub fewer_entered : (edges : List Edge) (first at : Vertex) (number : ℕ) (before after : Met) (start now : ℕ) → IsEntered edges first at number before after start now
    → round_len edges None + unmet edges after ≤ unmet edges before
fewer_entered edges first at number before after start now entered = let fewer = entered.fewer in omega arith

pub ticks_entered : (edges : List Edge) (first at : Vertex) (number : ℕ) (before after : Met) (start now then : ℕ) → IsEntered edges first at number before after start now → then ≤ now + 3
    → then + 2 * unmet edges after ≤ start + 2 * unmet edges before + 3
ticks_entered edges first at number before after start now then entered ticks =
    let fewer = entered.fewer in
    let counted = entered.counted in
    omega arith

pub first_entered : (edges : List Edge) (first at : Vertex) (number : ℕ) (before after : Met) (start now : ℕ) → IsEntered edges first at number before after start now → IsSome (met_by after first)
first_entered edges first at number before after start now entered = entered.passed 0 first (omega arith) refl
