-- An open vertex as its frame keeps it, from step to step.
use Rattle.std.proofs.Common.{◌≡◌, ◌⊎◌, inl, inr, ℕ, zero, suc, ◌+◌, ◌<◌, Bool, true, false, cond, List, [], ◌∷◌, ◌++◌, take, drop, length, refl, sym, ap, subst, ◌∙◌, append_assoc, length-append, arith}
use Rattle.std.specs.Prelude.{if◌then◌else◌}
use Rattle.grove_sorts.specs.declared.position.Position.{Position}
use Rattle.grove_sorts.specs.declared.sort.Sort.{Sort}
use Rattle.grove_sorts.specs.declared.sort.Sort.TheVariants.{Top, Exp, Pat, Typ as TypeSort}
use Rattle.grove_sorts.specs.Ctor.{positions, sort_of_ctor}
use Rattle.grove_edits.specs.declared.vertex.Vertex.{Vertex}
use Rattle.grove_edits.specs.declared.edge.Edge.{Edge}
use Rattle.graph_words.specs.Live.{children_of}
use Rattle.grove_terms.specs.Forest.{Forest, child_edges, edges_from}
use Rattle.grove_terms.specs.Nodes.{count_at}
use Rattle.type_core.specs.Typ.{Typ}
use Rattle.type_core.specs.TypeTable.{KeepsTypes}
use Rattle.ctx_table.specs.Context.{Context}
use Rattle.ctx_table.specs.CtxTable.{KeepsContexts}
use Rattle.mark_step.specs.Expression.{Expression, Demanded, Marked}
use Rattle.mark_step.specs.Step.{demand}
use Rattle.mark_step.specs.declared.node.Demand.{Demand}
use Rattle.mark_step.specs.Node as node
use Rattle.mark_step.specs.Node.{IsDemandOf}
use Rattle.marking.specs.Types.{tree_type}
use Rattle.marking.specs.Marking.{judged_in, children_types}
use Rattle.mark_step.specs.Step.{settled}
use Rattle.judging.specs.declared.frame.Given.{Given}
use Rattle.judging.specs.declared.frame.OpenVertex.{OpenVertex}
use Rattle.judging.specs.Machine as machine
use Rattle.judging.specs.Frames.{given_at, opened_at, left_of, filled_with, IsOpenOf}
use Rattle.judging.proofs.Kept.{demanded_at-kept, opened_at-kept}
use Rattle.judging.proofs.Filling.{opened_filled}
use Rattle.judging.proofs.Running as running
use Rattle.judging.proofs.Running.{Agree, after, places_give, places_give-append, one_more, all_taken, all_demand, settled_whole, made_known}
use Rattle.kept_records.specs.Kept.{Kept, kept_of, kept_as, kept_expression, kept_type, expression_of, demanded_among, types_before, Stands}
use Rattle.kept_records.proofs.Standing.{stands_under}
use Rattle.kept_records.proofs.Before.{types_before_row, count_at_position}
use Rattle.mark_incremental.specs.declared.frame.Frame.{Frame}
use Rattle.mark_incremental.specs.Walking.{Level, demands, behind, asked, given_there, GivesFirst, IsAtPlace, IsLevel, IsBetween, IsAccepted, IsBegunAt, IsBegun, kept_closed}
use Rattle.mark_step.specs.Rows.{is_exp}
use Rattle.mark_incremental.specs.Walking.{IsTail}
use Rattle.mark_incremental.proofs.Tails.{tail_behind, tail_itself, behind_first}

-- ---- small facts

some_first : {X : Type 0} (xs : List X) → 0 < length xs → (x : X) × (ys : List X) × (xs ≡ x ∷ ys)
some_first [] some = absurd (omega arith)
some_first (x ∷ xs) some = (x, xs, refl)

pub drop_cases : (n : ℕ) (row : List (Position × Sort)) → (drop n row ≡ []) ⊎ ((p : Position × Sort) × (ps : List (Position × Sort)) × (drop n row ≡ p ∷ ps))
drop_cases zero [] = inl refl
drop_cases zero (p ∷ ps) = inr (p, ps, refl)
drop_cases (suc n) [] = inl refl
drop_cases (suc n) (p ∷ ps) = drop_cases n ps

drop_none : (n : ℕ) (row : List (Position × Sort)) → drop n row ≡ [] → drop (suc n) row ≡ []
drop_none zero [] is = refl
drop_none zero (p ∷ ps) is = absurd cc
drop_none (suc n) [] is = refl
drop_none (suc n) (p ∷ ps) is = drop_none n ps is

among-agrees : (n : ℕ) (s : Sort) (d e : Demanded) → Agree s d e → Agree s (demanded_among n d) (demanded_among n e)
among-agrees n Exp d e same = ap (demanded_among n) same
among-agrees n Top d e same = ap (demanded_among n) same
among-agrees n Pat d e same = tt
among-agrees n TypeSort d e same = tt

-- ---- the first child that is left is accepted

module _ (live : List Edge) (types : List Typ) (ctxs : List Context) (l : Level) (fr now : Frame) (g : Given) where
  pub accepted : IsLevel live types ctxs l fr → IsAccepted types fr g now → 0 < length fr.left → GivesFirst live types l fr g → IsLevel live types ctxs (record l { left = behind l.left }) now
  accepted is acc some gives = record {
    vertex = acc.vertex ∙ is.vertex;
    stands = is.stands;
    agree = subst (λ (o : OpenVertex). Agree (sort_of_ctor l.vertex.ctor) (node.demanded_at types ctxs o.demand) l.demanded) (sym acc.state) is.agree;
    gave =
        subst
        (λ (o : OpenVertex). opened_at types ctxs o ≡ after l.vertex.ctor (node.demanded_at types ctxs o.demand) (expression_of l.vertex l.forest l.demanded) l.forest (take o.next (positions l.vertex.ctor)))
        (sym acc.state) is.gave;
    tail = tail_behind l.left l.forest is.tail;
    edges = behind_first l.left first (rest ++ later) (is.edges ∙ ap (λ es. es ++ later) cut.2) ∙ ap (λ es. es ++ later) (sym left_now) ∙ later_same;
    place = place;
    none_there = λ empty. acc.left ∙ ap (λ (es : List Edge). drop 1 es) (is.none_there (subst (λ (o : OpenVertex). drop o.next (positions l.vertex.ctor) ≡ []) acc.state empty));
  } where
    cut : (x : Edge) × (ys : List Edge) × (fr.left ≡ x ∷ ys)
    cut = some_first fr.left some

    first : Edge
    first = cut.0

    rest : List Edge
    rest = cut.1

    later : List Edge
    later = edges_from live l.vertex (drop (suc fr.state.next) (positions l.vertex.ctor))

    left_now : now.left ≡ rest
    left_now = acc.left ∙ ap (λ (es : List Edge). drop 1 es) cut.2

    later_same : now.left ++ later ≡ now.left ++ edges_from live l.vertex (drop (suc now.state.next) (positions l.vertex.ctor))
    later_same = ap (λ (o : OpenVertex). now.left ++ edges_from live l.vertex (drop (suc o.next) (positions l.vertex.ctor))) (sym acc.state)

    place : (p : Position × Sort) (ps : List (Position × Sort)) → drop now.state.next (positions l.vertex.ctor) ≡ p ∷ ps → IsAtPlace live types ctxs (record l { left = behind l.left }) now p
    place p ps at_now =
        record {
          demand = subst (λ (d : Demand). Agree p.1 (node.demanded_at types ctxs d) (demands l p.0)) (sym acc.demand) was.demand;
          done = was.done ++ first ∷ [];
          held = append_assoc was.done (first ∷ []) now.left ∙ ap (λ es. was.done ++ (first ∷ es)) left_now ∙ ap (λ es. was.done ++ es) (sym cut.2) ∙ was.held;
          several = (λ h. was.several.0 (sym acc.several ∙ h), λ h. acc.several ∙ was.several.1 h);
          gives = λ nil. subst (λ (o : OpenVertex). given_at types now.given ≡ given_there l o total p) (sym acc.state) (whole nil);
        }
      where
        at : drop fr.state.next (positions l.vertex.ctor) ≡ p ∷ ps
        at = subst (λ (o : OpenVertex). drop o.next (positions l.vertex.ctor) ≡ p ∷ ps) acc.state at_now

        was : IsAtPlace live types ctxs l fr p
        was = is.place p ps at

        total : ℕ
        total = length (children_of l.vertex p.0 live)

        by_test : (b : Bool) → fr.several ≡ b → (n : ℕ) → total ≡ suc n → given_at types now.given ≡ given_there l fr.state total p
        by_test true sev zero one =
            let more : 1 < total = was.several.0 sev in
            absurd (omega (arith, more, one))
        by_test true sev (suc n) many =
            acc.given ∙ ap (λ b. cond b machine.nothing (given_at types g)) sev
            ∙ sym (running.given-several p.1 n l.forest p.0 (asked l fr.state)) ∙ ap (λ k. given_there l fr.state k p) (sym many)
        by_test false sev zero one =
            acc.given ∙ ap (λ b. cond b machine.nothing (given_at types g)) sev ∙ gives p ps at one ∙ ap (λ k. given_there l fr.state k p) (sym one)
        by_test false sev (suc n) many =
            let some_more : 1 < total = omega (arith, many) in
            let clash : true ≡ false = sym (was.several.1 some_more) ∙ sev in
            absurd cc

        whole : now.left ≡ [] → given_at types now.given ≡ given_there l fr.state total p
        whole none_now = by_test fr.several refl (length was.done) count where
          none_rest : rest ≡ []
          none_rest = sym left_now ∙ none_now

          count : total ≡ suc (length was.done)
          count =
              ap length (sym was.held ∙ ap (λ es. was.done ++ es) (cut.2 ∙ ap (λ es. first ∷ es) none_rest))
              ∙ (let len = length-append was.done (first ∷ []) in omega (arith, len))

-- ---- a position is begun

module _ (live : List Edge) (old new : List Typ) (oldc newc : List Context) (keeps : KeepsTypes old new) (keepsc : KeepsContexts oldc newc) (l : Level) (fr : Frame) where
  pub begun : IsOpenOf old oldc fr.state → fr.vertex.now ≡ l.vertex → IsBetween live old oldc l fr.state → IsBegun live old new oldc newc fr → IsLevel live new newc l fr
  begun is_open vertex between begins = record {
    vertex = vertex;
    stands = between.stands;
    agree = subst (λ d. Agree (sort_of_ctor l.vertex.ctor) d l.demanded) (sym demanded) between.agree;
    gave =
        opened_at-kept old new oldc newc keeps keepsc fr.state is_open ∙ between.gave
        ∙ ap (λ (d : Demanded). after l.vertex.ctor d x l.forest (take fr.state.next (positions l.vertex.ctor))) (sym demanded);
    tail = between.tail;
    edges = edges (drop_cases fr.state.next (positions l.vertex.ctor));
    place = place;
    none_there = λ empty. begins.none_there (row_same ∙ empty);
  } where
    x : Expression
    x = expression_of l.vertex l.forest l.demanded

    demanded : node.demanded_at new newc fr.state.demand ≡ node.demanded_at old oldc fr.state.demand
    demanded = demanded_at-kept old new oldc newc keeps keepsc fr.state.demand is_open.demand

    row_same : drop fr.state.next (positions fr.vertex.now.ctor) ≡ drop fr.state.next (positions l.vertex.ctor)
    row_same = ap (λ (v : Vertex). drop fr.state.next (positions v.ctor)) vertex

    left_there : (p : Position × Sort) (ps : List (Position × Sort)) → drop fr.state.next (positions l.vertex.ctor) ≡ p ∷ ps → fr.left ≡ children_of l.vertex p.0 live
    left_there p ps at = (begins.there p ps (row_same ∙ at)).left ∙ ap (λ (v : Vertex). children_of v p.0 live) vertex

    edges : (drop fr.state.next (positions l.vertex.ctor) ≡ []) ⊎ ((p : Position × Sort) × (ps : List (Position × Sort)) × (drop fr.state.next (positions l.vertex.ctor) ≡ p ∷ ps))
        → child_edges l.left ≡ fr.left ++ edges_from live l.vertex (drop (suc fr.state.next) (positions l.vertex.ctor))
    edges (inl empty) =
        between.edges ∙ ap (edges_from live l.vertex) empty
        ∙ sym (ap (λ es. es ++ edges_from live l.vertex (drop (suc fr.state.next) (positions l.vertex.ctor))) (begins.none_there (row_same ∙ empty))
        ∙ ap (edges_from live l.vertex) (drop_none fr.state.next (positions l.vertex.ctor) empty))
    edges (inr (p, ps, at)) =
        between.edges ∙ ap (edges_from live l.vertex) at
        ∙ ap (λ es. es ++ edges_from live l.vertex ps) (sym (left_there p ps at))
        ∙ ap (λ qs. fr.left ++ edges_from live l.vertex qs) (sym (one_more (positions l.vertex.ctor) fr.state.next p ps at).1)

    place : (p : Position × Sort) (ps : List (Position × Sort)) → drop fr.state.next (positions l.vertex.ctor) ≡ p ∷ ps → IsAtPlace live new newc l fr p
    place p ps at =
        record {
          demand = subst (λ d. Agree p.1 d (demands l p.0)) (sym is_demand) (subst (Agree p.1 (demanded_among total rule)) (sym in_records) (among-agrees total p.1 rule (asked l fr.state) by_rule));
          done = [];
          held = left_there p ps at;
          several = (λ h. subst (λ (v : Vertex). 1 < length (children_of v p.0 live)) vertex (there.several.0 h), λ h. there.several.1 (subst (λ (v : Vertex). 1 < length (children_of v p.0 live)) (sym vertex) h));
          gives = gives;
        }
      where
        there : IsBegunAt live old new oldc newc fr p
        there = begins.there p ps (row_same ∙ at)

        total : ℕ
        total = length (children_of l.vertex p.0 live)

        rule : Demanded
        rule = machine.demanded_by (opened_at old oldc fr.state) p.1

        is_demand : node.demanded_at new newc fr.demand ≡ demanded_among total rule
        is_demand = there.demand ∙ ap (λ (v : Vertex). demanded_among (length (children_of v p.0 live)) rule) vertex

        by_rule : Agree p.1 rule (asked l fr.state)
        by_rule =
            subst (λ (o : machine.Opened). Agree p.1 (machine.demanded_by o p.1) (asked l fr.state)) (sym between.gave)
            (all_demand l.vertex.ctor (node.demanded_at old oldc fr.state.demand) l.demanded l.forest between.agree fr.state.next p ps at)

        count : count_at l.forest p.0 ≡ total
        count = count_at_position live l.vertex l.forest (stands_under live l.above l.vertex l.forest l.demanded between.stands).edges fr.state.next p ps at

        in_records : demands l p.0 ≡ demanded_among total (asked l fr.state)
        in_records =
            ap (λ n. demanded_among n (demand x (types_before x (judged_in l.forest) p.0 (positions l.vertex.ctor) []))) count
            ∙ ap (λ (ts : List Typ). demanded_among total (demand x ts)) (types_before_row x (judged_in l.forest) l.vertex.ctor fr.state.next p ps at)

        gives : fr.left ≡ [] → given_at new fr.given ≡ given_there l fr.state total p
        gives nil =
            let zero_children : total ≡ 0 = ap length (sym (left_there p ps at) ∙ nil) in
            there.given ∙ sym (running.given-none p.1 l.forest p.0 (asked l fr.state)) ∙ ap (λ n. given_there l fr.state n p) (sym zero_children)

-- ---- before a position is begun

take_none : (row : List (Position × Sort)) (n : ℕ) → drop n row ≡ row → take n row ≡ []
take_none [] zero is = refl
take_none [] (suc n) is = refl
take_none (p ∷ row) zero is = refl
take_none (p ∷ row) (suc n) is = absurd (too_short row n (p ∷ row) is (omega arith)) where
  too_short : (xs : List (Position × Sort)) (n : ℕ) (ys : List (Position × Sort)) → drop n xs ≡ ys → length xs < length ys → ⊥
  too_short xs zero ys is less = let same = ap length is in omega (arith, same)
  too_short [] (suc n) ys is less = let same = ap length is in omega (arith, same)
  too_short (x ∷ xs) (suc n) ys is less = too_short xs n ys is (omega (arith, less))

-- a vertex none of whose children is taken
pub fresh_between : (live : List Edge) (types : List Typ) (ctxs : List Context) (l : Level) (d : Demand) (o : OpenVertex)
    → Stands live l.above l.vertex l.forest l.demanded → l.left ≡ l.forest → Agree (sort_of_ctor l.vertex.ctor) (node.demanded_at types ctxs d) l.demanded
    → opened_at types ctxs o ≡ machine.fresh l.vertex.ctor (node.demanded_at types ctxs d) → left_of o ≡ positions l.vertex.ctor → IsBetween live types ctxs l o
fresh_between live types ctxs l d o stands all agree opened left = record {
  stands = stands;
  agree = subst (λ e. Agree (sort_of_ctor l.vertex.ctor) e l.demanded) (sym same) agree;
  gave =
      opened
      ∙ ap (λ (e : Demanded). let v : machine.Opened = record { ctor = l.vertex.ctor; demanded = e; given = [] } in v) (sym same)
      ∙ ap (λ qs. after l.vertex.ctor (node.demanded_at types ctxs o.demand) (expression_of l.vertex l.forest l.demanded) l.forest qs) (sym (take_none (positions l.vertex.ctor) o.next row));
  tail = subst (λ f. IsTail f l.forest) (sym all) (tail_itself l.forest);
  edges = ap child_edges all ∙ (stands_under live l.above l.vertex l.forest l.demanded stands).edges ∙ ap (edges_from live l.vertex) (sym row);
} where
  ctor : o.ctor.now ≡ l.vertex.ctor
  ctor = ap (λ (v : machine.Opened). v.ctor) opened

  same : node.demanded_at types ctxs o.demand ≡ node.demanded_at types ctxs d
  same = ap (λ (v : machine.Opened). v.demanded) opened

  row : drop o.next (positions l.vertex.ctor) ≡ positions l.vertex.ctor
  row = ap (λ c. drop o.next (positions c)) (sym ctor) ∙ left

-- what is open after the next position has given something
pub filled_gave : (types : List Typ) (ctxs : List Context) (l : Level) (fr : Frame) (p : Position × Sort) (ps : List (Position × Sort)) → IsOpenOf types ctxs fr.state → fr.state.ctor.now ≡ l.vertex.ctor
    → drop fr.state.next (positions l.vertex.ctor) ≡ p ∷ ps
    → opened_at types ctxs fr.state ≡ after l.vertex.ctor (node.demanded_at types ctxs fr.state.demand) (expression_of l.vertex l.forest l.demanded) l.forest (take fr.state.next (positions l.vertex.ctor))
    → given_at types fr.given ≡ running.given_at p.1 (count_at l.forest p.0) l.forest p.0 (asked l fr.state)
    → opened_at types ctxs (filled_with fr.given fr.state) ≡ after l.vertex.ctor (node.demanded_at types ctxs fr.state.demand) (expression_of l.vertex l.forest l.demanded) l.forest (take (fr.state.next + 1) (positions l.vertex.ctor))
filled_gave types ctxs l fr p ps is_open ctor at gave gives =
    opened_filled types ctxs fr.given fr.state is_open some
    ∙ ap (machine.filled (given_at types fr.given)) gave
    ∙ ap (λ (g : machine.Given). let v : machine.Opened = record { ctor = l.vertex.ctor; demanded = d; given = places_give x l.forest done [] ++ g ∷ [] } in v) gives
    ∙ ap (λ (gs : List machine.Given). let v : machine.Opened = record { ctor = l.vertex.ctor; demanded = d; given = gs } in v) (sym (places_give-append x l.forest done (p ∷ []) []))
    ∙ ap (λ qs. after l.vertex.ctor d x l.forest qs) (sym more.0 ∙ ap (λ n. take n (positions l.vertex.ctor)) (sym next_one))
  where
    x : Expression
    x = expression_of l.vertex l.forest l.demanded

    d : Demanded
    d = node.demanded_at types ctxs fr.state.demand

    done : List (Position × Sort)
    done = take fr.state.next (positions l.vertex.ctor)

    more : (take (suc fr.state.next) (positions l.vertex.ctor) ≡ done ++ p ∷ []) × (drop (suc fr.state.next) (positions l.vertex.ctor) ≡ ps)
    more = one_more (positions l.vertex.ctor) fr.state.next p ps at

    next_one : fr.state.next + 1 ≡ suc fr.state.next
    next_one = omega arith

    shorter : (n : ℕ) (row : List (Position × Sort)) → drop n row ≡ p ∷ ps → n < length row
    shorter zero [] empty = absurd cc
    shorter zero (q ∷ row) is_row = omega arith
    shorter (suc n) [] empty = absurd cc
    shorter (suc n) (q ∷ row) is_row = let less = shorter n row is_row in omega (arith, less)

    some : fr.state.next < length (positions fr.state.ctor.now)
    some = subst (λ c. fr.state.next < length (positions c)) (sym ctor) (shorter fr.state.next (positions l.vertex.ctor) at)

-- a vertex whose children at a position are all taken
pub filled_between : (live : List Edge) (types : List Typ) (ctxs : List Context) (l : Level) (fr : Frame) (p : Position × Sort) (ps : List (Position × Sort))
    → IsOpenOf types ctxs fr.state → fr.state.ctor.now ≡ l.vertex.ctor → drop fr.state.next (positions l.vertex.ctor) ≡ p ∷ ps → fr.left ≡ [] → IsLevel live types ctxs l fr
    → IsBetween live types ctxs l (filled_with fr.given fr.state)
filled_between live types ctxs l fr p ps is_open ctor at none_here is = record {
  stands = is.stands;
  agree = is.agree;
  gave = filled_gave types ctxs l fr p ps is_open ctor at is.gave gives;
  tail = is.tail;
  edges = is.edges ∙ ap (λ es. es ++ edges_from live l.vertex (drop (suc fr.state.next) (positions l.vertex.ctor))) none_here ∙ ap (λ n. edges_from live l.vertex (drop n (positions l.vertex.ctor))) (sym next_one);
} where
  next_one : fr.state.next + 1 ≡ suc fr.state.next
  next_one = omega arith

  count : count_at l.forest p.0 ≡ length (children_of l.vertex p.0 live)
  count = count_at_position live l.vertex l.forest (stands_under live l.above l.vertex l.forest l.demanded is.stands).edges fr.state.next p ps at

  gives : given_at types fr.given ≡ running.given_at p.1 (count_at l.forest p.0) l.forest p.0 (asked l fr.state)
  gives = (is.place p ps at).gives none_here ∙ ap (λ n. given_there l fr.state n p) (sym count)

-- ---- a vertex whose positions are all judged

closed_by : (s : Sort) (v : Vertex) (f : Forest) (d e : Demanded) → sort_of_ctor v.ctor ≡ s → Agree s d e
    → (let o = after v.ctor d (expression_of v f e) f (positions v.ctor) in
    let k : Kept = record { scope = if is_exp s then d.scope else []; wanted = (machine.added_by_sort s o).wanted; typ = (machine.added_by_sort s o).typ; mark = (machine.added_by_sort s o).mark } in k)
    ≡ kept_as s e (settled (expression_of v f e) (children_types (expression_of v f e) f)) (tree_type v.ctor f)
closed_by Exp v f d e is same =
    ap (λ (y : Demanded). let o = after v.ctor y (expression_of v f e) f (positions v.ctor) in
    let k : Kept = record { scope = y.scope; wanted = (machine.added_by_sort Exp o).wanted; typ = (machine.added_by_sort Exp o).typ; mark = (machine.added_by_sort Exp o).mark } in k) same
    ∙ ap (λ (m : Marked). kept_expression e m) (settled_whole v.ctor e f)
closed_by TypeSort v f d e is same = ap kept_type (made_known v.ctor (expression_of v f e) f)
closed_by Pat v f d e is same = refl
closed_by Top v f d e is same = refl

pub closed_is : (v : Vertex) (f : Forest) (d e : Demanded) → Agree (sort_of_ctor v.ctor) d e → kept_closed (after v.ctor d (expression_of v f e) f (positions v.ctor)) ≡ kept_of v f e
closed_is v f d e same = closed_by (sort_of_ctor v.ctor) v f d e refl same
