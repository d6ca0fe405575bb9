-- What was counted is within what a walk may count, also where it is cut off: there is a walk down that goes on from what is open.
use Rattle.std.proofs.Common.{◌≡◌, ◌⊎◌, inl, inr, ℕ, suc, ◌+◌, ◌*◌, ◌≤◌, Bool, true, false, None, List, [], ◌∷◌, ◌++◌, drop, length, refl, sym, ap, subst, ◌∙◌, append_assoc, add-zero, arith}
use Rattle.std.specs.List.{AllByRecursion}
use Rattle.std.proofs.lemmas.List.Sums.{sum_by-append, sum_by-cons}
use Rattle.grove_sorts.specs.declared.position.Position.{Position}
use Rattle.grove_sorts.specs.declared.sort.Sort.{Sort}
use Rattle.grove_sorts.specs.declared.sort.Sort.TheVariants.{Top, Exp, Pat, Typ as TypeSort}
use Rattle.grove_sorts.specs.Ctor.{positions, sort_of_ctor}
use Rattle.grove_sorts.proofs.Rows.{row_short}
use Rattle.grove_edits.specs.declared.vertex.Vertex.{Vertex}
use Rattle.grove_edits.specs.declared.edge.Edge.{Edge}
use Rattle.grove_edits.specs.Edge.{IsWellFormed}
use Rattle.graph_words.specs.declared.class.Class.TheVariants.{Inner}
use Rattle.graph_words.specs.Class.{class}
use Rattle.grove_terms.specs.Forest.{Forest, none, multi_ref, cycle_ref, tree, edges_from, StandsUnder}
use Rattle.grove_terms.proofs.Forests.{forest_of, root_stands}
use Rattle.type_core.specs.Typ.{Typ}
use Rattle.ctx_table.specs.Context.{Context}
use Rattle.mark_step.specs.Expression.{Demanded}
use Rattle.judging.proofs.Kept.{types-itself, contexts-itself}
use Rattle.kept_records.specs.Kept.{Kept, Records, alone, kept_of, expression_of, demanded_at}
use Rattle.kept_records.specs.Local.{kept_demand}
use Rattle.kept_records.specs.Renewal.{HasToBeJudged, IsLeft, MakesUnder, MakesTrees}
use Rattle.kept_records.proofs.Decided.{AreSameOrNot, demanded_or}
use Rattle.mark_store.specs.declared.record.Record.{Record}
use Rattle.mark_store.specs.Places.{Places}
use Rattle.mark_incremental.specs.declared.frame.Frame.{Frame}
use Rattle.mark_incremental.specs.Reading.{kept_by, AreRecordsOf}
use Rattle.mark_incremental.specs.Looking.{IsFound}
use Rattle.mark_incremental.specs.Walking.{Level, demands, made_of, behind, Awaits, GoesOn, AreLevels, IsLevel, Start, start_at, StandBelow, IsUnderWay, HasMade, meant}
use Rattle.mark_incremental.specs.Ticks.{weight, weight_of, weight_open, places_cost, after_next, open_cost, AreCounted, IsPaid, IsPaidFor, IsWalkPaid, AreTreesPaid}
use Rattle.mark_incremental.proofs.Tails.{BeginsWithTree, first_tree, down}
use Rattle.mark_incremental.proofs.Trees.{as_tree}
use Rattle.mark_incremental.proofs.Steps.{are_left, edges_left, child_agrees, child_stands_there, again}

-- ---- weights

-- of what one element more is made
one_more : {X : Type 0} (live : List Edge) (made : List (Vertex × X)) (m : Vertex × X) → weight_of live (made ++ m ∷ []) ≡ weight_of live made + weight live m.0
one_more live made m = sum_by-append (λ n. weight live n.0) made (m ∷ []) ∙ ap (λ w. weight_of live made + w) (sum_by-cons (λ n. weight live n.0) m [] ∙ add-zero (weight live m.0))

pub joined : {X : Type 0} (live : List Edge) (a b : List (Vertex × X)) → weight_of live (a ++ b) ≡ weight_of live a + weight_of live b
joined live a b = sum_by-append (λ n. weight live n.0) a b

pub meant_weighs : (live : List Edge) (types : List Typ) (ctxs : List Context) (made : List (Vertex × Record)) → weight_of live (meant types ctxs made) ≡ weight_of live made
meant_weighs live types ctxs [] = refl
meant_weighs live types ctxs (m ∷ ms) =
    let rest = meant_weighs live types ctxs ms in
    let here = sum_by-cons (λ (n : Vertex × Kept). weight live n.0) (m.0, kept_by types ctxs m.1) (meant types ctxs ms) in
    let there = sum_by-cons (λ (n : Vertex × Record). weight live n.0) m ms in
    here ∙ ap (λ w. weight live m.0 + w) rest ∙ sym there

abbrev weight_levels : List Edge → List Level → ℕ
weight_levels live [] = 0
weight_levels live (l ∷ ls) = weight live l.vertex + weight_levels live ls

levels_weigh : (live : List Edge) (types : List Typ) (ctxs : List Context) (ls : List Level) (frames : List Frame) → AreLevels live types ctxs ls frames → weight_levels live ls ≡ weight_open live frames
levels_weigh live types ctxs [] [] are = refl
levels_weigh live types ctxs [] (fr ∷ frames) are = absurd are
levels_weigh live types ctxs (l ∷ ls) [] are = absurd are
levels_weigh live types ctxs (l ∷ ls) (fr ∷ frames) are =
    ap (λ (v : Vertex). weight live v + weight_levels live ls) (sym are.0.vertex) ∙ ap (λ w. weight live fr.vertex.now + w) (levels_weigh live types ctxs ls frames are.1)

-- ---- there is something that is made

sort_or : (s : Sort) → (s ≡ Exp) ⊎ (s ≡ Exp → ⊥)
sort_or Top = inr (λ e. cc)
sort_or Exp = inl refl
sort_or Pat = inr (λ e. cc)
sort_or TypeSort = inr (λ e. cc)

module _ (live : List Edge) (judged : Vertex → Bool) (records : Records) where
  judged_or : (v : Vertex) (d : Demanded) → IsLeft judged records v d ⊎ HasToBeJudged judged records v d
  judged_or v d = by_set (judged v) refl where
    by_demand : judged v ≡ false → sort_of_ctor v.ctor ≡ Exp → AreSameOrNot (kept_demand records v) d → IsLeft judged records v d ⊎ HasToBeJudged judged records v d
    by_demand off sort (inl is) = inl (off, λ _. is)
    by_demand off sort (inr other) = inr (inr (sort, other))

    by_sort : judged v ≡ false → (sort_of_ctor v.ctor ≡ Exp) ⊎ (sort_of_ctor v.ctor ≡ Exp → ⊥) → IsLeft judged records v d ⊎ HasToBeJudged judged records v d
    by_sort off (inl sort) = by_demand off sort (demanded_or (kept_demand records v) d)
    by_sort off (inr other) = inl (off, λ sort. absurd (other sort))

    by_set : (b : Bool) → judged v ≡ b → IsLeft judged records v d ⊎ HasToBeJudged judged records v d
    by_set true is_on = inr (inl is_on)
    by_set false off = by_sort off (sort_or (sort_of_ctor v.ctor))

  record HasMadeUnder (given : Position → Demanded) (f : Forest) : Type 0 where
    made : List (Vertex × Kept)
    makes : MakesUnder judged records given f made

  some_under : (f : Forest) (given : Position → Demanded) → HasMadeUnder given f
  some_under none given = record { made = []; makes = refl }
  some_under (multi_ref d rest) given = let r = some_under rest given in record { made = r.made; makes = r.makes }
  some_under (cycle_ref d rest) given = let r = some_under rest given in record { made = r.made; makes = r.makes }
  some_under (tree d below rest) given =
      by_cause (judged_or d.target (given d.position)) (some_under below (demanded_at (expression_of d.target below (given d.position)) below)) (some_under rest given) where
        by_cause : IsLeft judged records d.target (given d.position) ⊎ HasToBeJudged judged records d.target (given d.position)
            → HasMadeUnder (demanded_at (expression_of d.target below (given d.position)) below) below → HasMadeUnder given rest → HasMadeUnder given (tree d below rest)
        by_cause (inl left) deep wide = record { made = wide.made; makes = inl (left, wide.makes) }
        by_cause (inr has_to) deep wide = record {
          made = deep.made ++ (d.target, kept_of d.target below (given d.position)) ∷ wide.made;
          makes = inr (has_to, deep.made, wide.made, refl, deep.makes, wide.makes);
        }

  -- ---- a walk goes on from what is open

  module _ (Done : List (Vertex × Kept) → Type 0) where
    pub record HasEnd (ls : List Level) (made : List (Vertex × Kept)) : Type 0 where
      pub all : List (Vertex × Kept)
      pub done : Done all
      pub within : weight_levels live ls + weight_of live made ≤ weight_of live all

    more_weighs : (made later : List (Vertex × Kept)) (m : Vertex × Kept) → weight_of live made + weight live m.0 ≤ weight_of live ((made ++ later) ++ m ∷ [])
    more_weighs made later m =
        let a = one_more live (made ++ later) m in
        let b = joined live made later in
        omega (arith, a, b)

    awaits_end : (ls : List Level) (made : List (Vertex × Kept)) → Awaits judged records Done ls made → HasEnd ls made
    awaits_end [] made done = record { all = made; done = done; within = omega arith }
    awaits_end (l ∷ ls) made awaits =
        let some = some_under (behind l.left) (demands l) in
        let end = awaits_end ls ((made ++ some.made) ++ made_of l ∷ []) (awaits some.made some.makes) in
        let more = more_weighs made some.made (made_of l) in
        let rest = end.within in
        record { all = end.all; done = end.done; within = omega (arith, more, rest) }

    pub goes_end : (ls : List Level) (made : List (Vertex × Kept)) → GoesOn judged records Done ls made → HasEnd ls made
    goes_end [] made done = record { all = made; done = done; within = omega arith }
    goes_end (l ∷ ls) made goes =
        let some = some_under l.left (demands l) in
        let end = awaits_end ls ((made ++ some.made) ++ made_of l ∷ []) (goes some.made some.makes) in
        let more = more_weighs made some.made (made_of l) in
        let rest = end.within in
        record { all = end.all; done = end.done; within = omega (arith, more, rest) }

  -- a walk down
  pub start_paid : (from : Start) (f : Forest) → StandsUnder live from.vertex f → (before after : ℕ) → after ≤ before + places_cost live from.vertex (positions from.vertex.ctor) → IsWalkPaid live judged records from before after
  start_paid from f under before after more =
      let some = some_under f (demanded_at (expression_of from.vertex f from.demanded) f) in
      let weighs = one_more live some.made (from.vertex, kept_of from.vertex f from.demanded) in
      let short = row_short from.vertex.ctor in
      record {
        all = some.made ++ (from.vertex, kept_of from.vertex f from.demanded) ∷ [];
        makes = record { forest = f; stands = under; inner = some.made; made_are = refl; under = some.makes };
        within = omega (arith, weighs, short, more);
      }

  -- the records of a walk down behind others are those of the walk
  pub walk_paid : (from : Start) (before : List (Vertex × Kept)) (start paid steps : ℕ) → paid ≡ 5 * weight_of live before → IsPaid live judged records from before start paid steps → IsWalkPaid live judged records from start steps
  walk_paid from before start paid steps of_before is =
      let weighs = ap (weight_of live) is.made.are ∙ joined live before is.made.own in
      let within = is.within in
      record { all = is.made.own; makes = is.made.makes; within = omega (arith, weighs, within, of_before) }

  -- ---- the trees of some heads

  joined_trees : (xs ys : List Vertex) (a b : List (Vertex × Kept)) → MakesTrees judged live records xs a → MakesTrees judged live records ys b → MakesTrees judged live records (xs ++ ys) (a ++ b)
  joined_trees [] ys a b makes others = subst (λ (ms : List (Vertex × Kept)). MakesTrees judged live records ys (ms ++ b)) (sym makes) others
  joined_trees (x ∷ xs) ys a b (one, rest, are, makes, trees) others =
      (one, rest ++ b, ap (λ ms. ms ++ b) are ∙ append_assoc one rest b, makes, joined_trees xs ys rest b trees others)

  trees_there : (heads : List Vertex) → AllByRecursion (λ v. class live v ≡ Inner → ⊥) heads → AreTreesPaid live judged records heads 0 0
  trees_there [] outer = record { all = []; makes = refl; within = omega arith }
  trees_there (v ∷ vs) outer =
      let one = start_paid (start_at v alone) (forest_of live v) (root_stands live v outer.0) 0 0 (omega arith) in
      let rest = trees_there vs outer.1 in
      record { all = one.all ++ rest.all; makes = (one.all, rest.all, refl, as_tree live judged records v one.all one.makes, rest.makes); within = omega arith }

  -- some trees are walked down, and the walk down the next one is cut off
  pub trees_cut : (done rest : List Vertex) (head : Vertex) (made : List (Vertex × Kept)) (start before after : ℕ) → AllByRecursion (λ v. class live v ≡ Inner → ⊥) rest → MakesTrees judged live records done made
      → before ≤ start + 5 * weight_of live made → IsWalkPaid live judged records (start_at head alone) before after → AreTreesPaid live judged records (done ++ head ∷ rest) start after
  trees_cut done rest head made start before after outer makes counted next =
      let others = trees_there rest outer in
      let weighs = joined live made (next.all ++ others.all) in
      let weighs_there = joined live next.all others.all in
      let within = next.within in
      record {
        all = made ++ (next.all ++ others.all);
        makes = joined_trees done (head ∷ rest) made (next.all ++ others.all) makes (next.all, others.all, refl, as_tree live judged records head next.all next.makes, others.makes);
        within = omega (arith, weighs, weighs_there, within, counted);
      }

-- ---- what was counted

module _ (live : List Edge) (types : List Typ) (ctxs : List Context) (places : Places Record) (judged : Vertex → Bool) (from : Start) (before : List (Vertex × Kept)) (made : List (Vertex × Record)) (start paid count steps : ℕ) where
  pub paid_now : (frames : List Frame) → IsUnderWay live types ctxs places judged from before frames made → AreCounted live start paid count frames made → steps ≤ count + open_cost live frames
      → IsPaidFor live types ctxs places judged from before start paid steps
  paid_now frames way counted more records reads leaves =
      let w = way records reads leaves in
      let end = goes_end live judged records (HasMade live judged records from before) w.levels (meant types ctxs made) w.goes_on in
      let same = levels_weigh live types ctxs w.levels frames w.are in
      let as_made = meant_weighs live types ctxs made in
      let within = counted.within in
      let in_all = end.within in
      record { all = end.all; made = end.done; within = omega (arith, same, as_made, within, in_all, more) }

  -- positions of the innermost vertex that are left are begun
  pub paid_on : (fr : Frame) (frames : List Frame) → IsUnderWay live types ctxs places judged from before (fr ∷ frames) made → AreCounted live start paid count (fr ∷ frames) made
      → steps ≤ count + places_cost live fr.vertex.now (after_next fr) → IsPaidFor live types ctxs places judged from before start paid steps
  paid_on fr frames way counted more = paid_now (fr ∷ frames) way counted (omega (arith, more))

  -- positions of the first child that is left are begun
  pub paid_down : AllByRecursion IsWellFormed live → AreRecordsOf types ctxs places → (fr : Frame) (frames : List Frame) (e : Edge) (rest : List Edge) → fr.left ≡ e ∷ rest → IsFound live types ctxs places judged fr.demand e.target None
      → IsUnderWay live types ctxs places judged from before (fr ∷ frames) made → AreCounted live start paid count (fr ∷ frames) made → steps ≤ count + 3 + places_cost live e.target (positions e.target.ctor)
      → IsPaidFor live types ctxs places judged from before start paid steps
  paid_down well of_tables fr frames e rest first found way counted more records reads leaves =
      let w = way records reads leaves in by w.levels w.are w.below w.goes_on
    where
      by : (levels : List Level) → AreLevels live types ctxs levels (fr ∷ frames) → StandBelow from.vertex levels → GoesOn judged records (HasMade live judged records from before) levels (meant types ctxs made) → IsPaid live judged records from before start paid steps
      by [] are within_it goes = absurd are
      by (l ∷ ls) are within_it goes =
          let end = goes_end live judged records (HasMade live judged records from before) (c ∷ l ∷ ls) (meant types ctxs made) below in
          let same = levels_weigh live types ctxs (l ∷ ls) (fr ∷ frames) are in
          let as_made = meant_weighs live types ctxs made in
          let within = counted.within in
          let in_all = end.within in
          let short = row_short e.target.ctor in
          let len : length fr.left ≡ suc (length rest) = ap length first in
          record { all = end.all; made = end.done; within = omega (arith, same, as_made, within, in_all, more, short, len) }
        where
          is : IsLevel live types ctxs l fr
          is = are.0

          tree_is : BeginsWithTree l.left e
          tree_is =
              first_tree live l.left e (rest ++ edges_from live l.vertex (drop (suc fr.state.next) (positions l.vertex.ctor))) (are_left live well types ctxs l fr is e rest first)
              (edges_left live well types ctxs l fr is e rest first) found.0

          c : Level
          c = record { above = l.vertex ∷ l.above; vertex = e.target; forest = tree_is.below; demanded = demands l e.position; left = tree_is.below }

          below : GoesOn judged records (HasMade live judged records from before) (c ∷ l ∷ ls) (meant types ctxs made)
          below =
              down judged records (HasMade live judged records from before) l ls (meant types ctxs made) e tree_is.below tree_is.rest c tree_is.is refl
              (again live well types types ctxs ctxs (types-itself types) (contexts-itself ctxs) places of_tables judged from before e.target records reads leaves l.vertex l.above tree_is.below (demands l e.position) fr.demand within_it.0
              (child_stands_there live well types ctxs l fr is e rest first tree_is.below tree_is.rest tree_is.is) (child_agrees live well types ctxs l fr is e rest first tree_is.below tree_is.rest tree_is.is) found.1) goes
