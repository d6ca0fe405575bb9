-- What the steps of a walk down a tree count.
use Rattle.std.proofs.Common.{◌≡◌, ◌⊎◌, inl, inr, ℕ, zero, suc, ◌+◌, ◌*◌, ◌<◌, ◌≤◌, List, [], ◌∷◌, ◌++◌, take, drop, length, None, Some, refl, sym, ap, subst, ◌∙◌, length-append, arith}
use Rattle.std.specs.Prelude.{reverse, slice_get}
use Rattle.std.proofs.lemmas.List.Sums.{sum_by-append}
use Rattle.grove_sorts.specs.declared.position.Position.{Position}
use Rattle.grove_sorts.specs.declared.sort.Sort.{Sort}
use Rattle.grove_sorts.specs.Ctor.{positions}
use Rattle.grove_sorts.proofs.Rows.{row_short}
use Rattle.grove_edits.specs.declared.vertex.Vertex.{Vertex}
use Rattle.grove_edits.specs.declared.edge.Edge.{Edge}
use Rattle.graph_words.specs.Live.{children_of}
use Rattle.grove_terms.specs.Forest.{edges_from, edges_under}
use Rattle.type_core.specs.Typ.{Typ}
use Rattle.ctx_table.specs.Context.{Context}
use Rattle.judging.specs.declared.frame.OpenVertex.{OpenVertex}
use Rattle.judging.specs.Frames.{left_of}
use Rattle.mark_store.specs.declared.record.Record.{Record}
use Rattle.mark_incremental.specs.declared.frame.Frame.{Frame}
use Rattle.mark_incremental.specs.Walking.{IsBegun}
use Rattle.mark_incremental.specs.Ticks.{weight, weight_of, weight_open, from_next, places_cost, after_next, begun_cost, still_costs, waiting_cost, open_cost, AreCounted, IsMoved, AreMoved}
use Rattle.mark_incremental.proofs.Levels.{drop_cases}
use Rattle.mark_incremental.proofs.Steps.{on_top}
use Rattle.mark_incremental.proofs.Stack.{empty}

drop_next : (n : ℕ) (row : List (Position × Sort)) (p : Position × Sort) (ps : List (Position × Sort)) → drop n row ≡ p ∷ ps → drop (suc n) row ≡ ps
drop_next zero [] p ps is = absurd cc
drop_next zero (q ∷ row) p ps is = cc
drop_next (suc n) [] p ps is = absurd cc
drop_next (suc n) (q ∷ row) p ps is = drop_next n row p ps is

drop_past : (n : ℕ) (row : List (Position × Sort)) → drop n row ≡ [] → drop (suc n) row ≡ []
drop_past zero [] is = refl
drop_past zero (q ∷ row) is = absurd cc
drop_past (suc n) [] is = refl
drop_past (suc n) (q ∷ row) is = drop_past n row is

one_next : (row : List (Position × Sort)) (n : ℕ) (p : Position × Sort) → slice_get row n ≡ Some p → length (take 1 (drop n row)) ≡ 1
one_next [] zero p is = absurd cc
one_next [] (suc n) p is = absurd cc
one_next (q ∷ row) zero p is = refl
one_next (q ∷ row) (suc n) p is = one_next row n p is

none_next : (row : List (Position × Sort)) (n : ℕ) → slice_get row n ≡ None → length (take 1 (drop n row)) ≡ 0
none_next [] zero is = refl
none_next [] (suc n) is = refl
none_next (q ∷ row) zero is = absurd cc
none_next (q ∷ row) (suc n) is = none_next row n is

pub some_left : (es : List Edge) (e : Edge) → slice_get es 0 ≡ Some e → 0 < length es
some_left [] e is = absurd cc
some_left (d ∷ es) e is = omega arith

-- ---- a position is begun

pub begun_there : (fr : Frame) (p : Position × Sort) (before after : ℕ) → slice_get (positions fr.vertex.now.ctor) fr.state.next ≡ Some p → after ≡ before + 1 + length fr.left → after ≡ before + begun_cost fr
begun_there fr p before after found ticked = let one = one_next (positions fr.vertex.now.ctor) fr.state.next p found in omega (arith, one, ticked)

pub begun_nowhere : (fr : Frame) (steps : ℕ) → slice_get (positions fr.vertex.now.ctor) fr.state.next ≡ None → fr.left ≡ [] → steps ≡ steps + begun_cost fr
begun_nowhere fr steps past left =
    let none_there = none_next (positions fr.vertex.now.ctor) fr.state.next past in
    let none_left : length fr.left ≡ 0 = ap length left in
    omega (arith, none_there, none_left)

-- a position, among those that are left
pub place_costs : (live : List Edge) (v : Vertex) (n : ℕ) (p : Position × Sort) (before after : ℕ) → slice_get (positions v.ctor) n ≡ Some p → after ≡ before + 1 + length (children_of v p.0 live)
    → after ≤ before + places_cost live v (drop n (positions v.ctor))
place_costs live v n p before after found ticked =
    let costs = in_row (positions v.ctor) n found in
    omega (arith, costs, ticked)
  where
    some_part : (q r : Position × Sort) → Some q ≡ Some r → q ≡ r
    some_part q r e = cc

    in_row : (row : List (Position × Sort)) (n : ℕ) → slice_get row n ≡ Some p → 1 + length (children_of v p.0 live) ≤ places_cost live v (drop n row)
    in_row [] zero is = absurd cc
    in_row [] (suc n) is = absurd cc
    in_row (q ∷ row) zero is =
        let same : length (children_of v q.0 live) ≡ length (children_of v p.0 live) = ap (λ (r : Position × Sort). length (children_of v r.0 live)) (some_part q p is) in
        let all = length-append (children_of v q.0 live) (edges_from live v row) in
        omega (arith, same, all)
    in_row (q ∷ row) (suc n) is = in_row row n is

-- none of its positions is judged
pub fresh_row : (fr : Frame) (v : Vertex) → fr.vertex.now ≡ v → fr.state.ctor.now ≡ fr.vertex.now.ctor → left_of fr.state ≡ positions v.ctor → from_next fr ≡ positions fr.vertex.now.ctor
fresh_row fr v vertex ctor all = ap (λ c. drop fr.state.next (positions c)) (sym ctor) ∙ all ∙ ap (λ (u : Vertex). positions u.ctor) (sym vertex)

module _ (live : List Edge) (old new : List Typ) (oldc newc : List Context) (fr : Frame) (is : IsBegun live old new oldc newc fr) where
  -- beginning a position, with all that is still counted there and behind it
  pub begun_costs : begun_cost fr + still_costs live fr fr.left ≤ length (from_next fr) + 4 * length (edges_from live fr.vertex.now (from_next fr))
  begun_costs = by (drop_cases fr.state.next (positions fr.vertex.now.ctor)) where
    by : (from_next fr ≡ []) ⊎ ((p : Position × Sort) × (ps : List (Position × Sort)) × (from_next fr ≡ p ∷ ps))
        → begun_cost fr + still_costs live fr fr.left ≤ length (from_next fr) + 4 * length (edges_from live fr.vertex.now (from_next fr))
    by (inl empty) =
        let past : after_next fr ≡ [] = drop_past fr.state.next (positions fr.vertex.now.ctor) empty in
        let a : length fr.left ≡ 0 = ap length (is.none_there empty) in
        let b : length (take 1 (from_next fr)) ≡ 0 = ap (λ (row : List (Position × Sort)). length (take 1 row)) empty in
        let c : length (after_next fr) ≡ 0 = ap length past in
        let d : length (edges_from live fr.vertex.now (after_next fr)) ≡ 0 = ap (λ row. length (edges_from live fr.vertex.now row)) past in
        omega (arith, a, b, c, d)
    by (inr (p, ps, at)) =
        let later : after_next fr ≡ ps = drop_next fr.state.next (positions fr.vertex.now.ctor) p ps at in
        let a : length fr.left ≡ length (children_of fr.vertex.now p.0 live) = ap length (is.there p ps at).left in
        let b : length (take 1 (from_next fr)) ≡ 1 = ap (λ (row : List (Position × Sort)). length (take 1 row)) at in
        let c : length (from_next fr) ≡ suc (length ps) = ap length at in
        let d : length (edges_from live fr.vertex.now (from_next fr)) ≡ length (children_of fr.vertex.now p.0 live) + length (edges_from live fr.vertex.now ps) =
        ap (λ row. length (edges_from live fr.vertex.now row)) at ∙ length-append (children_of fr.vertex.now p.0 live) (edges_from live fr.vertex.now ps) in
        let e : length (after_next fr) ≡ length ps = ap length later in
        let f : length (edges_from live fr.vertex.now (after_next fr)) ≡ length (edges_from live fr.vertex.now ps) = ap (λ row. length (edges_from live fr.vertex.now row)) later in
        omega (arith, a, b, c, d, e, f)

  -- a vertex none of whose positions is judged
  pub first_costs : from_next fr ≡ positions fr.vertex.now.ctor → begun_cost fr + still_costs live fr fr.left ≤ 5 + 4 * length (edges_under live fr.vertex.now)
  first_costs all =
      let costs = begun_costs in
      let short = row_short fr.vertex.now.ctor in
      let row : length (from_next fr) ≡ length (positions fr.vertex.now.ctor) = ap length all in
      let edges : length (edges_from live fr.vertex.now (from_next fr)) ≡ length (edges_under live fr.vertex.now) = ap (λ qs. length (edges_from live fr.vertex.now qs)) all in
      omega (arith, costs, short, row, edges)

  pub fresh_costs : from_next fr ≡ positions fr.vertex.now.ctor → begun_cost fr + still_costs live fr fr.left ≤ 5 * weight live fr.vertex.now
  fresh_costs all = let costs = first_costs all in omega (arith, costs)

  -- a vertex at the position behind that of another frame
  pub next_costs : (before : Frame) → fr.vertex.now ≡ before.vertex.now → fr.state.next ≡ before.state.next + 1 → begun_cost fr + still_costs live fr fr.left ≤ still_costs live before before.left
  next_costs before vertex next =
      let costs = begun_costs in
      let suc_next : fr.state.next ≡ suc before.state.next = omega (arith, next) in
      let row : from_next fr ≡ after_next before = ap (λ (n : ℕ). drop n (positions fr.vertex.now.ctor)) suc_next ∙ ap (λ (v : Vertex). drop (suc before.state.next) (positions v.ctor)) vertex in
      let places : length (from_next fr) ≡ length (after_next before) = ap length row in
      let edges : length (edges_from live fr.vertex.now (from_next fr)) ≡ length (edges_from live before.vertex.now (after_next before)) =
      ap (λ qs. length (edges_from live fr.vertex.now qs)) row ∙ ap (λ (v : Vertex). length (edges_from live v (after_next before))) vertex in
      omega (arith, costs, places, edges)

-- ---- what is open

some_dropped : (es : List Edge) → 0 < length es → length es ≡ suc (length (drop 1 es))
some_dropped [] some = absurd (omega (arith, some))
some_dropped (e ∷ es) some = refl

module _ (live : List Edge) (start paid : ℕ) where
  -- a child that was looked at is opened
  pub counted_down : (fr child : Frame) (frames : List Frame) (made : List (Vertex × Record)) (before after : ℕ) → 0 < length fr.left → begun_cost child + still_costs live child child.left ≤ 5 * weight live child.vertex.now
      → after ≤ before + 3 + begun_cost child → AreCounted live start paid before (fr ∷ frames) made → AreCounted live start paid after (child ∷ fr ∷ frames) made
  counted_down fr child frames made before after some fresh more counted =
      let one = some_dropped fr.left some in
      let within = counted.within in
      record { within = omega (arith, one, within, fresh, more) }

  -- the next position of a vertex is begun
  pub counted_on : (fr now : Frame) (frames : List Frame) (made : List (Vertex × Record)) (before after : ℕ) → now.vertex.now ≡ fr.vertex.now → begun_cost now + still_costs live now now.left ≤ still_costs live fr fr.left
      → after ≤ before + begun_cost now → AreCounted live start paid before (fr ∷ frames) made → AreCounted live start paid after (now ∷ frames) made
  counted_on fr now frames made before after vertex next more counted =
      let same : weight live now.vertex.now ≡ weight live fr.vertex.now = ap (weight live) vertex in
      let within = counted.within in
      record { within = omega (arith, same, within, next, more) }

  -- the first child that is left gave something
  pub counted_past : (fr : Frame) (frames now : List Frame) (made : List (Vertex × Record)) (before after : ℕ) → 0 < length fr.left → open_cost live now ≡ waiting_cost live (fr ∷ frames) → weight_open live now ≡ weight_open live (fr ∷ frames)
      → after ≤ before + 3 → AreCounted live start paid before (fr ∷ frames) made → AreCounted live start paid after now made
  counted_past fr frames now made before after some costs weighs more counted =
      let one = some_dropped fr.left some in
      let within = counted.within in
      record { within = omega (arith, one, within, costs, weighs, more) }

  -- the record of a vertex is made
  pub counted_up : (fr : Frame) (frames now : List Frame) (made new : List (Vertex × Record)) (r : Record) (count : ℕ) → new ≡ made ++ (fr.vertex.now, r) ∷ [] → open_cost live now ≡ waiting_cost live frames → weight_open live now ≡ weight_open live frames
      → AreCounted live start paid count (fr ∷ frames) made → AreCounted live start paid count now new
  counted_up fr frames now made new r count pushed costs weighs counted =
      let within = counted.within in
      let weights : weight_of live new ≡ weight_of live made + (0 + weight live fr.vertex.now) =
      ap (weight_of live) pushed ∙ sum_by-append (λ (m : Vertex × Record). weight live m.0) made ((fr.vertex.now, r) ∷ []) in
      record { within = omega (arith, weights, within, costs, weighs) }

  -- the head of a tree is opened, and in the end nothing is open
  pub counted_head : (fr : Frame) (made : List (Vertex × Record)) (before after : ℕ) → begun_cost fr + still_costs live fr fr.left ≤ 5 * weight live fr.vertex.now → after ≡ before + begun_cost fr
      → before + paid ≤ start + 5 * weight_of live made → AreCounted live start paid after (fr ∷ []) made
  counted_head fr made before after fresh more within = record { within = omega (arith, fresh, more, within) }

  pub counted_end : (made : List (Vertex × Record)) (count : ℕ) → AreCounted live start paid count [] made → count + paid ≤ start + 5 * weight_of live made
  counted_end made count counted = let within = counted.within in omega (arith, within)

-- ---- the innermost is at its next child

module _ (live : List Edge) where
  moved_costs : (fr taken : Frame) → IsMoved fr taken → still_costs live taken taken.left ≡ still_costs live fr (drop 1 fr.left)
  moved_costs fr taken is =
      ap
      (λ (n : ℕ). 3 * length taken.left + (length (drop (suc n) (positions taken.vertex.now.ctor)) + 4 * length (edges_from live taken.vertex.now (drop (suc n) (positions taken.vertex.now.ctor)))))
      (ap (λ (o : OpenVertex). o.next) is.state)
      ∙ ap
      (λ (v : Vertex). 3 * length taken.left + (length (drop (suc fr.state.next) (positions v.ctor)) + 4 * length (edges_from live v (drop (suc fr.state.next) (positions v.ctor)))))
      is.vertex
      ∙ ap (λ (es : List Edge). still_costs live fr es) is.left

  pub taken_moved : (fr taken : Frame) (frames : List Frame) → IsMoved fr taken → AreMoved live (fr ∷ frames) (taken ∷ frames)
  taken_moved fr taken frames moved = record {
    costs = ap (λ n. n + waiting_cost live frames) (moved_costs fr taken moved);
    weighs = ap (λ (v : Vertex). weight live v + weight_open live frames) moved.vertex;
  }

  pub one_moved : (old off : List Frame) (fr taken : Frame) → old ≡ off ++ fr ∷ [] → IsMoved fr taken → AreMoved live (reverse old) (taken ∷ reverse off)
  one_moved old off fr taken was moved =
      subst (λ (frs : List Frame). AreMoved live frs (taken ∷ reverse off)) (sym (on_top off old fr was)) (taken_moved fr taken (reverse off) moved)

  pub none_moved : (old : List Frame) → length old ≡ 0 → AreMoved live (reverse old) []
  none_moved old none = subst (λ (frs : List Frame). AreMoved live (reverse frs) []) (sym (empty old none)) record { costs = refl; weighs = refl }
