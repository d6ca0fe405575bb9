-- An open vertex from position to position, where no child of a conflict is taken.
use Rattle.std.proofs.Common.{◌≡◌, inl, inr, ℕ, zero, suc, ◌+◌, ◌<◌, Bool, true, false, List, [], ◌∷◌, ◌++◌, take, drop, length, Some, refl, sym, ap, subst, ◌∙◌, append_assoc, arith}
use Rattle.std.specs.Prelude.{IsTrue, slice_get}
use Rattle.std.specs.List.{AllByRecursion}
use Rattle.grove_sorts.specs.declared.position.Position.{Position}
use Rattle.grove_sorts.specs.declared.sort.Sort.{Sort}
use Rattle.grove_sorts.specs.Ctor.{positions, sort_at}
use Rattle.grove_sorts.proofs.Rows.{places_found}
use Rattle.grove_edits.specs.declared.vertex.Vertex.{Vertex}
use Rattle.grove_edits.specs.declared.edge.Edge.{Edge}
use Rattle.grove_edits.specs.Edge.{IsWellFormed}
use Rattle.graph_words.specs.Live.{children_of}
use Rattle.grove_terms.specs.Forest.{Forest, child_edges, edges_from, StandsUnder}
use Rattle.grove_terms.specs.Nodes.{count_at}
use Rattle.type_core.specs.Typ.{Typ}
use Rattle.type_core.specs.TypeTable.{KeepsTypes}
use Rattle.ctx_table.specs.Context.{Context}
use Rattle.ctx_table.specs.CtxTable.{KeepsContexts}
use Rattle.mark_step.specs.declared.node.Demand.{Demand}
use Rattle.mark_step.specs.Expression.{Demanded}
use Rattle.mark_step.specs.Node as node
use Rattle.judging.specs.declared.frame.Given.{Given}
use Rattle.judging.specs.declared.frame.OpenVertex.{OpenVertex}
use Rattle.judging.specs.Machine as machine
use Rattle.judging.specs.Frames.{opened_at, left_of, filled_with, IsOpenOf}
use Rattle.judging.proofs.Running as running
use Rattle.judging.proofs.Running.{Agree}
use Rattle.kept_records.specs.Kept.{Records}
use Rattle.kept_records.proofs.Standing.{stands_under}
use Rattle.kept_records.proofs.Before.{count_at_position}
use Rattle.mark_store.specs.declared.record.Record.{Record}
use Rattle.mark_store.specs.Places.{Places}
use Rattle.mark_incremental.specs.declared.frame.Frame.{Frame}
use Rattle.mark_incremental.specs.Looking.{IsFound}
use Rattle.mark_incremental.specs.Walking.{Level, demands, behind, IsTail, asked, given_there, GivesFirst, IsLevel, IsBetween, IsAccepted, IsBegun, ReadsAs, IsStart, start_at, LeavesRightBelow}
use Rattle.mark_incremental.specs.AtConflict.{GaveSoFar, IsOpened, IsPassed, level_at}
use Rattle.mark_incremental.proofs.Tails.{tail_behind, tail_itself, behind_first, first_tree, BeginsWithTree}
use Rattle.mark_incremental.proofs.Levels.{accepted, begun, fresh_between, filled_gave}
use Rattle.mark_incremental.proofs.Steps.{next_in, are_left, edges_left, some_left, reference_gives_first, child_stands_there, found_left, found_gives}

-- ---- the children from a position on

record HasTail (f : Forest) (es : List Edge) : Type 0 where
  left : Forest
  tail : IsTail left f
  edges : child_edges left ≡ es

tail_from : (f left : Forest) → IsTail left f → (xs ys : List Edge) → child_edges left ≡ xs ++ ys → HasTail f ys
tail_from f left tail [] ys is = record { left = left; tail = tail; edges = is }
tail_from f left tail (x ∷ xs) ys is = tail_from f (behind left) (tail_behind left f tail) xs ys (behind_first left x (xs ++ ys) is)

edges_split : (live : List Edge) (v : Vertex) (row : List (Position × Sort)) (n : ℕ) → edges_from live v row ≡ edges_from live v (take n row) ++ edges_from live v (drop n row)
edges_split live v [] zero = refl
edges_split live v [] (suc n) = refl
edges_split live v (p ∷ row) zero = refl
edges_split live v (p ∷ row) (suc n) =
    ap (λ es. children_of v p.0 live ++ es) (edges_split live v row n) ∙ sym (append_assoc (children_of v p.0 live) (edges_from live v (take n row)) (edges_from live v (drop n row)))

-- ---- a position is begun

module _ (live : List Edge) (old new : List Typ) (oldc newc : List Context) (keeps : KeepsTypes old new) (keepsc : KeepsContexts oldc newc) (l : Level) (now : Frame) (is_open : IsOpenOf old oldc now.state)
    (vertex : now.vertex.now ≡ l.vertex) (begins : IsBegun live old new oldc newc now) where
  opened_between : (left : Forest) → IsBetween live old oldc (record l { left = left }) now.state → IsOpened live new newc l now
  opened_between left between = record {
    left = left;
    is = begun live old new oldc newc keeps keepsc (record l { left = left }) now is_open vertex between begins;
    all_left = λ p ps at. (begins.there p ps (row_same ∙ at)).left ∙ ap (λ v. children_of v p.0 live) vertex;
    nothing = λ p ps at. (begins.there p ps (row_same ∙ at)).given;
  } where
    row_same : drop now.state.next (positions now.vertex.now.ctor) ≡ drop now.state.next (positions l.vertex.ctor)
    row_same = ap (λ (v : Vertex). drop now.state.next (positions v.ctor)) vertex

  -- behind one that has given what it gives
  pub opened_on : (fr : Frame) (p : Position × Sort) (ps : List (Position × Sort)) → IsOpenOf old oldc fr.state → fr.state.ctor.now ≡ l.vertex.ctor → drop fr.state.next (positions l.vertex.ctor) ≡ p ∷ ps
      → now.state ≡ filled_with fr.given fr.state → IsPassed live old oldc l fr → IsOpened live new newc l now
  opened_on fr p ps was_open ctor at filled passed = opened_between t.left (subst (IsBetween live old oldc (record l { left = t.left })) (sym filled) between) where
    under : StandsUnder live l.vertex l.forest
    under = stands_under live l.above l.vertex l.forest l.demanded passed.so_far.stands

    t : HasTail l.forest (edges_from live l.vertex (drop (fr.state.next + 1) (positions l.vertex.ctor)))
    t =
        tail_from l.forest l.forest (tail_itself l.forest) (edges_from live l.vertex (take (fr.state.next + 1) (positions l.vertex.ctor))) (edges_from live l.vertex (drop (fr.state.next + 1) (positions l.vertex.ctor)))
        (under.edges ∙ edges_split live l.vertex (positions l.vertex.ctor) (fr.state.next + 1))

    count : count_at l.forest p.0 ≡ length (children_of l.vertex p.0 live)
    count = count_at_position live l.vertex l.forest under.edges fr.state.next p ps at

    between : IsBetween live old oldc (record l { left = t.left }) (filled_with fr.given fr.state)
    between = record {
      stands = passed.so_far.stands;
      agree = passed.so_far.agree;
      gave = filled_gave old oldc l fr p ps was_open ctor at passed.so_far.gave (passed.gives p ps at ∙ ap (λ n. given_there l fr.state n p) (sym count));
      tail = t.tail;
      edges = t.edges;
    }

-- none of its positions has given anything
pub opened_first : (live : List Edge) (old new : List Typ) (oldc newc : List Context) → KeepsTypes old new → KeepsContexts oldc newc → (v : Vertex) (d : Demand) (fr : Frame) → IsOpenOf old oldc fr.state → fr.vertex.now ≡ v
    → opened_at old oldc fr.state ≡ machine.fresh v.ctor (node.demanded_at old oldc d) → left_of fr.state ≡ positions v.ctor → IsBegun live old new oldc newc fr
    → (given : Demanded) (place : IsStart live old oldc d (start_at v given)) → IsOpened live new newc (level_at v place.above place.forest given) fr
opened_first live old new oldc newc keeps keepsc v d fr is_open vertex fresh all begins given place =
    let l = level_at v place.above place.forest given in
    opened_between live old new oldc newc keeps keepsc l fr is_open vertex begins place.forest (fresh_between live old oldc l d fr.state place.stands refl place.agree fresh all)

-- ---- a position is passed

module _ (live : List Edge) (types : List Typ) (ctxs : List Context) (l : Level) (fr : Frame) (opened : IsOpened live types ctxs l fr) where
  so_far : GaveSoFar live types ctxs l fr
  so_far = record { vertex = opened.is.vertex; stands = opened.is.stands; agree = opened.is.agree; gave = opened.is.gave }

  -- where no child stands
  pub passed_empty : fr.left ≡ [] → IsPassed live types ctxs l fr
  passed_empty nil = record { so_far = so_far; gives = λ p ps at. (opened.is.place p ps at).gives nil }

  -- where several stand, of which none is taken
  pub passed_conflict : IsTrue fr.several → IsPassed live types ctxs l fr
  passed_conflict several = record { so_far = so_far; gives = λ p ps at. opened.nothing p ps at ∙ sym (of_several p (length (children_of l.vertex p.0 live)) ((opened.is.place p ps at).several.0 several)) } where
    of_several : (p : Position × Sort) (n : ℕ) → 1 < n → given_there l fr.state n p ≡ machine.nothing
    of_several p zero more = absurd (omega (arith, more))
    of_several p (suc zero) more = absurd (omega (arith, more))
    of_several p (suc (suc n)) more = running.given-several p.1 n l.forest p.0 (asked l fr.state)

  -- where one stands, which is found as it is
  module _ (well : AllByRecursion IsWellFormed live) (places : Places Record) (judged : Vertex → Bool) (records : Records) (reads : ReadsAs types ctxs places records) (leaves : LeavesRightBelow live judged records l.vertex)
      (e : Edge) (rest : List Edge) (first : fr.left ≡ e ∷ rest) (g : Given) (found : IsFound live types ctxs places judged fr.demand e.target (Some g)) where
    abbrev k : Level
    k = record l { left = opened.left }

    gives_first : IsFound live types ctxs places judged fr.demand e.target (Some g) → GivesFirst live types k fr g
    gives_first (inl (outer, nothing)) = reference_gives_first live well types ctxs k fr opened.is e rest first outer g nothing
    gives_first (inr (inner, is_left)) =
        let begins : BeginsWithTree k.left e = first_tree live k.left e (rest ++ edges_from live k.vertex (drop (suc fr.state.next) (positions k.vertex.ctor))) (are_left live well types ctxs k fr opened.is e rest first)
        (edges_left live well types ctxs k fr opened.is e rest first) inner in
        found_gives live well types ctxs places judged records reads k fr opened.is e rest first begins.below begins.rest begins.is g is_left
        (leaves k.vertex k.above e.target begins.below (demands k e.position) (child_stands_there live well types ctxs k fr opened.is e rest first begins.below begins.rest begins.is)
        (record { before = []; behind = k.above; are = refl })
        (found_left live well types ctxs places judged records reads k fr opened.is e rest first begins.below begins.rest begins.is g is_left))

    pub passed_only : (now : Frame) → IsAccepted types fr g now → fr.several ≡ false → IsPassed live types ctxs l now
    passed_only now acc single = record {
      so_far = record { vertex = level.vertex; stands = level.stands; agree = level.agree; gave = level.gave };
      gives = λ p ps at. (level.place p ps at).gives (none_behind p ps (subst (λ (o : OpenVertex). drop o.next (positions l.vertex.ctor) ≡ p ∷ ps) acc.state at));
    } where
      level : IsLevel live types ctxs (record k { left = behind k.left }) now
      level = accepted live types ctxs k fr now g opened.is acc (some_left live well types ctxs k fr opened.is e rest first) (gives_first found)

      single_not : fr.several ≡ true → ⊥
      single_not is = let clash : true ≡ false = sym is ∙ single in cc

      none_of : (es : List Edge) → fr.left ≡ e ∷ es → (p : Position × Sort) (ps : List (Position × Sort)) → drop fr.state.next (positions l.vertex.ctor) ≡ p ∷ ps → es ≡ []
      none_of [] is p ps at = refl
      none_of (x ∷ es) is p ps at =
          let many : length (children_of l.vertex p.0 live) ≡ suc (suc (length es)) = ap length (sym (opened.all_left p ps at) ∙ is) in
          absurd (single_not ((opened.is.place p ps at).several.1 (omega (arith, many))))

      none_behind : (p : Position × Sort) (ps : List (Position × Sort)) → drop fr.state.next (positions l.vertex.ctor) ≡ p ∷ ps → now.left ≡ []
      none_behind p ps at = acc.left ∙ ap (λ (es : List Edge). drop 1 es) first ∙ none_of rest first p ps at

-- ---- the position of an edge

-- the position that comes next
pub next_there : (row : List (Position × Sort)) (n : ℕ) (p : Position × Sort) → slice_get row n ≡ Some p → drop n row ≡ p ∷ drop (suc n) row
next_there [] n p is = absurd cc
next_there (q ∷ row) zero p is = ap (λ x. x ∷ row) (some_part is) where
  some_part : Some q ≡ Some p → q ≡ p
  some_part same = cc
next_there (q ∷ row) (suc n) p is = next_there row n p is

-- what is demanded there, of whatever sort it wants
pub demand_there : (live : List Edge) (types : List Typ) (ctxs : List Context) (l : Level) (fr : Frame) → IsOpened live types ctxs l fr → (p : Position × Sort) → slice_get (positions l.vertex.ctor) fr.state.next ≡ Some p
    → (q : Position) → p.0 ≡ q → (s : Sort) → sort_at l.vertex.ctor q ≡ Some s → Agree s (node.demanded_at types ctxs fr.demand) (demands l q)
demand_there live types ctxs l fr opened p is q one s wanted =
    let at = next_there (positions l.vertex.ctor) fr.state.next p is in
    let sorted = next_in (λ x. sort_at l.vertex.ctor x.0 ≡ Some x.1) (positions l.vertex.ctor) fr.state.next p (drop (suc fr.state.next) (positions l.vertex.ctor)) (places_found l.vertex.ctor) at in
    subst (λ t. Agree t (node.demanded_at types ctxs fr.demand) (demands l q)) (some_sort (sym sorted ∙ ap (sort_at l.vertex.ctor) one ∙ wanted))
    (subst (λ x. Agree p.1 (node.demanded_at types ctxs fr.demand) (demands l x)) one (opened.is.place p (drop (suc fr.state.next) (positions l.vertex.ctor)) at).demand) where
      some_sort : Some p.1 ≡ Some s → p.1 ≡ s
      some_sort same = cc
