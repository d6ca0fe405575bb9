-- The steps of a walk down a tree.
use Rattle.std.proofs.Common.{◌≡◌, ◌⊎◌, inl, inr, ℕ, zero, suc, ◌<◌, Bool, true, false, cond, List, [], ◌∷◌, ◌++◌, take, drop, length, Option, Some, None, refl, sym, ap, subst, ◌∙◌, append_assoc, length-append, arith}
use Rattle.std.specs.Prelude.{◌||◌, ◌&&◌, slice_get, unwrap_or, filter, reverse}
use Rattle.std.specs.Option.{option_map}
use Rattle.std.specs.List.{AllByRecursion}
use Rattle.std.proofs.lemmas.List.{map-append, reverse-append}
use Rattle.grove_sorts.specs.declared.position.Position.{Position}
use Rattle.grove_sorts.specs.declared.sort.Sort.{Sort}
use Rattle.grove_sorts.specs.declared.sort.Sort.TheVariants.{Top, Exp, Pat, Typ as TypeSort}
use Rattle.grove_sorts.specs.Ctor.{positions, sort_of_ctor, sort_at}
use Rattle.grove_sorts.specs.Position.{is_same_position}
use Rattle.grove_sorts.proofs.Orders.{one_position}
use Rattle.grove_sorts.proofs.Rows.{places_found}
use Rattle.grove_edits.specs.declared.vertex.Vertex.{Vertex}
use Rattle.grove_edits.specs.declared.edge.Edge.{Edge}
use Rattle.grove_edits.specs.Edge.{IsWellFormed}
use Rattle.grove_edits.specs.Graph.{is_same_edge}
use Rattle.grove_edits.specs.Vertex.{is_same_vertex}
use Rattle.grove_edits.proofs.Vertices.{same_vertex_itself}
use Rattle.grove_edits.proofs.Orders.{one_edge}
use Rattle.graph_words.specs.declared.class.Class.TheVariants.{Inner}
use Rattle.graph_words.specs.Class.{class}
use Rattle.graph_words.specs.Live.{children_of, holds_edge}
use Rattle.grove_terms.specs.Forest.{Forest, none, tree, child_edges, edges_from, AreChildren, StandsUnder}
use Rattle.grove_terms.specs.Nodes.{count_at}
use Rattle.grove_terms.proofs.InLive.{IsFromPlace, children_lead}
use Rattle.grove_terms.proofs.Forests.{forest_of, root_stands}
use Rattle.type_core.specs.Typ.{Typ, Unknown}
use Rattle.type_core.specs.TypeTable.{KeepsTypes}
use Rattle.ctx_table.specs.Context.{Context}
use Rattle.ctx_table.specs.CtxTable.{KeepsContexts}
use Rattle.mark_step.specs.declared.node.Demand.{Demand}
use Rattle.mark_step.specs.declared.node.Mode.{Mode}
use Rattle.mark_step.specs.declared.node.Mode.TheVariants.{Syn}
use Rattle.mark_step.specs.Scope.{scope_at}
use Rattle.mark_step.specs.Expression.{Wanted, Synthesise, Demanded}
use Rattle.mark_step.specs.Step.{demand, settled}
use Rattle.mark_step.specs.Node as node
use Rattle.mark_step.specs.Node.{wanted_at}
use Rattle.marking.specs.Types.{if_sole, child_type, tree_type}
use Rattle.marking.specs.Marking.{judged_child, judged_in, children_types}
use Rattle.grove_sorts.proofs.Truths.{and_true}
use Rattle.judging.specs.declared.frame.Given.{Given}
use Rattle.judging.specs.Machine as machine
use Rattle.judging.specs.Frames.{given_at, opened_at, left_of, filled_with, IsOpenOf}
use Rattle.judging.proofs.Running as running
use Rattle.judging.proofs.Running.{Agree, after, given_tree, gives_whole}
use Rattle.kept_records.specs.Renewal.{MakesUnder}
use Rattle.kept_records.specs.Kept.{Kept, Records, alone, kept_of, kept_as, expression_of, demanded_among, types_before, IsTreeIn, Stands}
use Rattle.kept_records.specs.Local.{kept_demand}
use Rattle.kept_records.specs.Renewal as renewal
use Rattle.kept_records.proofs.Children.{IsTreeOf, children_are_of, tree_inner}
use Rattle.kept_records.proofs.Standing.{stands_under, child_stands}
use Rattle.kept_records.proofs.Before.{types_before_row, count_at_position}
use Rattle.kept_records.proofs.Sole.{judged_sole, type_sole, child_name_sole, judged_without, type_without, child_name_without}
use Rattle.kept_records.proofs.Decided.{demanded_or}
use Rattle.kept_records.proofs.Decided as decided
use Rattle.mark_store.specs.declared.record.Record.{Record}
use Rattle.mark_store.specs.Places.{Places}
use Rattle.mark_incremental.specs.declared.frame.Frame.{Frame}
use Rattle.mark_incremental.specs.Reading.{kept_by, AreRecordsOf, demand_of}
use Rattle.mark_incremental.specs.Looking.{IsFound, IsLeftAs, given_in, given_by_kept, HasToBeJudged, in_set, unknown, demanded}
use Rattle.mark_incremental.specs.Walking.{Level, demands, made_of, behind, IsTail, IsBelow, AreLinked, Awaits, GoesOn, asked, GivesFirst, IsAtPlace, AreFramesOf, IsLevel, AreWaiting, AreLevels, IsAccepted, IsBetween, IsBegun, IsHanded, IsSettled, kept_closed, meant, AreMadeOf, ReadsAs, Start, start_at, IsStart, IsMember, StandBelow, LeavesRightBelow, HasMade, IsOnWay, IsUnderWay}
use Rattle.mark_incremental.proofs.Tails.{tail_tree, tail_children, first_reference, first_tree, BeginsWithTree, none_left, past, past_left, down, up}
use Rattle.mark_incremental.proofs.Growth.{reads_as-kept, meant-kept, levels_kept, level_kept}
use Rattle.mark_incremental.proofs.Levels.{drop_cases, accepted, begun, fresh_between, filled_between, closed_is}

-- ---- small facts

in_middle : (P : Edge → Type 0) (done : List Edge) (e : Edge) (rest : List Edge) → AllByRecursion P (done ++ e ∷ rest) → P e
in_middle P [] e rest all = all.0
in_middle P (d ∷ done) e rest all = in_middle P done e rest all.1

pub next_in : (P : Position × Sort → Type 0) (row : List (Position × Sort)) (n : ℕ) (p : Position × Sort) (ps : List (Position × Sort)) → AllByRecursion P row → drop n row ≡ p ∷ ps → P p
next_in P [] zero p ps all e = absurd cc
next_in P [] (suc n) p ps all e = absurd cc
next_in P (q ∷ row) zero p ps all e = subst P (first_same q p row ps e) all.0 where
  first_same : (q p : Position × Sort) (qs ps : List (Position × Sort)) → q ∷ qs ≡ p ∷ ps → q ≡ p
  first_same q p qs ps e = cc
next_in P (q ∷ row) (suc n) p ps all e = next_in P row n p ps all.1 e

some_part : {X : Type 0} (x y : X) → Some x ≡ Some y → x ≡ y
some_part x y e = cc

pub held_in : (p : Edge → Bool) (e : Edge) (es : List Edge) → p e ≡ true → holds_edge e es ≡ true → holds_edge e (filter p es) ≡ true
held_in p e [] is held = held
held_in p e (x ∷ es) is held = by_test (is_same_edge x e) refl held (held_in p e es is) where
  keeps : (a b : Bool) → (a ≡ true → b ≡ true) → holds_edge e (filter p es) ≡ true → holds_edge e (cond b (x ∷ filter p es) (filter p es)) ≡ true
  keeps a true left_over rest = by_first (is_same_edge x e) rest where
    by_first : (c : Bool) → holds_edge e (filter p es) ≡ true → (c || holds_edge e (filter p es)) ≡ true
    by_first true h = refl
    by_first false h = h
  keeps a false left_over rest = rest

  by_test : (b : Bool) → is_same_edge x e ≡ b → (b || holds_edge e es) ≡ true → (holds_edge e es ≡ true → holds_edge e (filter p es) ≡ true) → holds_edge e (cond (p x) (x ∷ filter p es) (filter p es)) ≡ true
  by_test true same h later =
      let there : p x ≡ true = ap p (one_edge x e same) ∙ is in
      ap (λ b. holds_edge e (cond b (x ∷ filter p es) (filter p es))) there ∙ ap (λ b. b || holds_edge e (filter p es)) same
  by_test false other h later = keeps false (p x) (λ never. absurd cc) (later h)

one_left : (done : List Edge) (e : Edge) (rest es : List Edge) → done ++ e ∷ rest ≡ es → length es ≡ 1 → es ≡ e ∷ []
one_left [] e [] es is one = sym is
one_left [] e (x ∷ rest) es is one = let len = ap length is in absurd (omega (arith, len, one))
one_left (d ∷ done) e rest es is one =
    let len = ap length is in let more = length-append done (e ∷ rest) in absurd (omega (arith, len, one, more))

held_one : (e x : Edge) → holds_edge x (e ∷ []) ≡ true → e ≡ x
held_one e x held = one_edge e x (only (is_same_edge e x) held) where
  only : (a : Bool) → (a || false) ≡ true → a ≡ true
  only true h = refl
  only false h = absurd cc

-- what an only child that is a tree gives
sole_gives : (s : Sort) (f : Forest) (p : Position) (d : Demanded) (e : Edge) (b : Forest) → count_at f p ≡ 1 → IsTreeIn f e b → is_same_position e.position p ≡ true
    → running.given_at s 1 f p d ≡ given_tree s e.target.ctor d b
sole_gives Exp f p d e b one is at = ap (λ n. machine.of_type (if_sole n (judged_child f p d) Unknown)) (sym one) ∙ ap machine.of_type (judged_sole f p d e b one is at)
sole_gives TypeSort f p d e b one is at = ap (λ n. machine.of_type (if_sole n (child_type f p) Unknown)) (sym one) ∙ ap machine.of_type (type_sole f p e b one is at)
sole_gives Pat f p d e b one is at = ap machine.of_name (child_name_sole f p e b one is at)
sole_gives Top f p d e b one is at = refl

-- and one that is none gives nothing
no_tree_gives : (s : Sort) (f : Forest) (p : Position) (d : Demanded) → count_at f p ≡ 1 → ((e : Edge) (b : Forest) → IsTreeIn f e b → is_same_position e.position p ≡ true → ⊥)
    → running.given_at s 1 f p d ≡ machine.nothing
no_tree_gives Exp f p d one nowhere = ap (λ n. machine.of_type (if_sole n (judged_child f p d) Unknown)) (sym one) ∙ ap machine.of_type (judged_without f p d (λ e b is at h. nowhere e b is at))
no_tree_gives TypeSort f p d one nowhere = ap (λ n. machine.of_type (if_sole n (child_type f p) Unknown)) (sym one) ∙ ap machine.of_type (type_without f p (λ e b is at h. nowhere e b is at))
no_tree_gives Pat f p d one nowhere = ap machine.of_name (child_name_without f p nowhere)
no_tree_gives Top f p d one nowhere = refl

-- what a record gives is what its tree gives
record_gives : (s : Sort) (v : Vertex) (f : Forest) (d : Demanded)
    → given_in s v.ctor (kept_as s d (settled (expression_of v f d) (children_types (expression_of v f d) f)) (tree_type v.ctor f)).typ ≡ given_tree s v.ctor d f
record_gives Exp v f d = refl
record_gives TypeSort v f d = refl
record_gives Pat v f d = refl
record_gives Top v f d = refl

-- ---- the first child that is left

module _ (live : List Edge) (well : AllByRecursion IsWellFormed live) (types : List Typ) (ctxs : List Context) (l : Level) (fr : Frame) (is : IsLevel live types ctxs l fr) (e : Edge) (rest : List Edge) (first : fr.left ≡ e ∷ rest) where
  under : StandsUnder live l.vertex l.forest
  under = stands_under live l.above l.vertex l.forest l.demanded is.stands

  pub are_left : AreChildren live l.left
  are_left = tail_children live l.left l.forest is.tail under.children

  pub edges_left : child_edges l.left ≡ e ∷ (rest ++ edges_from live l.vertex (drop (suc fr.state.next) (positions l.vertex.ctor)))
  edges_left = is.edges ∙ ap (λ es. es ++ edges_from live l.vertex (drop (suc fr.state.next) (positions l.vertex.ctor))) first

  pub some_left : 0 < length fr.left
  some_left = let len : length fr.left ≡ suc (length rest) = ap length first in omega (arith, len)

  module _ (p : Position × Sort) (ps : List (Position × Sort)) (at : drop fr.state.next (positions l.vertex.ctor) ≡ p ∷ ps) where
    was : IsAtPlace live types ctxs l fr p
    was = is.place p ps at

    row : was.done ++ e ∷ rest ≡ children_of l.vertex p.0 live
    row = ap (λ es. was.done ++ es) (sym first) ∙ was.held

    from_place : IsFromPlace live l.vertex p.0 e
    from_place = in_middle (IsFromPlace live l.vertex p.0) was.done e rest (subst (AllByRecursion (IsFromPlace live l.vertex p.0)) (sym row) (children_lead live l.vertex p.0))

    position : e.position ≡ p.0
    position = one_position e.position p.0 from_place.position

    count : count_at l.forest p.0 ≡ length (children_of l.vertex p.0 live)
    count = count_at_position live l.vertex l.forest under.edges fr.state.next p ps at

    one_demand : length (children_of l.vertex p.0 live) ≡ 1 → demands l p.0 ≡ asked l fr.state
    one_demand one =
        ap (λ n. demanded_among n (demand (expression_of l.vertex l.forest l.demanded) (types_before (expression_of l.vertex l.forest l.demanded) (judged_in l.forest) p.0 (positions l.vertex.ctor) []))) (count ∙ one)
        ∙ ap (λ (ts : List Typ). demand (expression_of l.vertex l.forest l.demanded) ts) (types_before_row (expression_of l.vertex l.forest l.demanded) (judged_in l.forest) l.vertex.ctor fr.state.next p ps at)

    wanted : sort_at l.vertex.ctor p.0 ≡ Some p.1
    wanted = next_in (λ q. sort_at l.vertex.ctor q.0 ≡ Some q.1) (positions l.vertex.ctor) fr.state.next p ps (places_found l.vertex.ctor) at

    -- no tree stands where the only child is a reference
    reference_nowhere : (class live e.target ≡ Inner → ⊥) → length (children_of l.vertex p.0 live) ≡ 1 → (d : Edge) (b : Forest) → IsTreeIn l.forest d b → is_same_position d.position p.0 ≡ true → ⊥
    reference_nowhere outer one d b is_tree there =
        let of : IsTreeOf live l.vertex d = children_are_of live well l.vertex l.forest under.edges d b is_tree in
        let passes : (is_same_vertex d.source l.vertex && is_same_position d.position p.0) ≡ true =
        and_true (is_same_vertex d.source l.vertex) (is_same_position d.position p.0) (ap (λ (u : Vertex). is_same_vertex u l.vertex) of.source ∙ same_vertex_itself l.vertex) there in
        let among : holds_edge d (children_of l.vertex p.0 live) ≡ true = held_in (λ x. is_same_vertex x.source l.vertex && is_same_position x.position p.0) d live passes of.held in
        let same : e ≡ d = held_one e d (ap (holds_edge d) (sym (one_left was.done e rest (children_of l.vertex p.0 live) row one)) ∙ among) in
        outer (ap (λ (x : Edge). class live x.target) same ∙ tree_inner live l.forest under.children d b is_tree)

  pub reference_gives_first : (class live e.target ≡ Inner → ⊥) → (g : Given) → given_at types g ≡ machine.nothing → GivesFirst live types l fr g
  reference_gives_first outer g nothing p ps at one =
      nothing ∙ sym (no_tree_gives p.1 l.forest p.0 (asked l fr.state) (count p ps at ∙ one) (reference_nowhere p ps at outer one))

  -- ---- where it is a tree

  module _ (b after_it : Forest) (begins : l.left ≡ tree e b after_it) where
    pub is_tree : IsTreeIn l.forest e b
    is_tree = tail_tree e b after_it l.forest (subst (λ x. IsTail x l.forest) begins is.tail)

    sorted : (p : Position × Sort) (ps : List (Position × Sort)) → drop fr.state.next (positions l.vertex.ctor) ≡ p ∷ ps → p.1 ≡ sort_of_ctor e.target.ctor
    sorted p ps at =
        let of : IsTreeOf live l.vertex e = children_are_of live well l.vertex l.forest under.edges e b is_tree in
        some_part p.1 (sort_of_ctor e.target.ctor) (sym (wanted p ps at) ∙ ap (sort_at l.vertex.ctor) (sym (position p ps at)) ∙ of.sorted)

    pub tree_gives_first : (g : Given) → given_at types g ≡ given_tree (sort_of_ctor e.target.ctor) e.target.ctor (demands l e.position) b → GivesFirst live types l fr g
    tree_gives_first g gives p ps at one =
        gives
        ∙ ap (λ s. given_tree s e.target.ctor (demands l e.position) b) (sym (sorted p ps at))
        ∙ ap (λ q. given_tree p.1 e.target.ctor (demands l q) b) (position p ps at)
        ∙ ap (λ (d : Demanded). given_tree p.1 e.target.ctor d b) (one_demand p ps at one)
        ∙ sym (sole_gives p.1 l.forest p.0 (asked l fr.state) e b (count p ps at ∙ one) is_tree (from_place p ps at).position)

    -- what is demanded of it is what is kept for the position
    pub child_agrees : Agree (sort_of_ctor e.target.ctor) (node.demanded_at types ctxs fr.demand) (demands l e.position)
    child_agrees = by (drop_cases fr.state.next (positions l.vertex.ctor)) where
      by : (drop fr.state.next (positions l.vertex.ctor) ≡ []) ⊎ ((p : Position × Sort) × (ps : List (Position × Sort)) × (drop fr.state.next (positions l.vertex.ctor) ≡ p ∷ ps))
          → Agree (sort_of_ctor e.target.ctor) (node.demanded_at types ctxs fr.demand) (demands l e.position)
      by (inl empty) = absurd (two_lists (sym (is.none_there empty) ∙ first)) where
        two_lists : [] ≡ e ∷ rest → ⊥
        two_lists h = cc
      by (inr (p, ps, at)) =
          subst (λ s. Agree s (node.demanded_at types ctxs fr.demand) (demands l e.position)) (sorted p ps at)
          (subst (λ q. Agree p.1 (node.demanded_at types ctxs fr.demand) (demands l q)) (sym (position p ps at)) (is.place p ps at).demand)

    pub child_stands_there : Stands live (l.vertex ∷ l.above) e.target b (demands l e.position)
    child_stands_there = child_stands live well l.vertex l.above l.forest l.demanded is.stands e b is_tree

pub agree_expression : (s : Sort) (d e : Demanded) → Agree s d e → s ≡ Exp → d ≡ e
agree_expression s d e agree is = subst (λ t. Agree t d e) is agree

-- a vertex that is among others is so with one more
member_of_more : (v u : Vertex) (vs : List Vertex) → IsMember v vs → IsMember v (u ∷ vs)
member_of_more v u vs is = record { before = u ∷ is.before; behind = is.behind; are = ap (λ xs. u ∷ xs) is.are }

-- ---- links

relink : (l k : Level) (ls : List Level) → l.forest ≡ k.forest → l.vertex ≡ k.vertex → l.demanded ≡ k.demanded → AreLinked (l ∷ ls) → AreLinked (k ∷ ls)
relink l k [] f v d linked = tt
relink l k (m ∷ ms) f v d linked =
    let below : IsBelow l m = linked.0 in (
      record {
        edge = below.edge;
        rest = below.rest;
        first = below.first ∙ ap (λ (x : Forest). tree below.edge x below.rest) f;
        target = below.target ∙ v;
        demanded = sym d ∙ below.demanded;
      },
      linked.1,
    )

-- what a record says was demanded
demand_kept : (types : List Typ) (ctxs : List Context) (r : Record) → (let d : Demanded = record { scope = (kept_by types ctxs r).scope; wanted = unwrap_or (kept_by types ctxs r).wanted Synthesise } in d) ≡ node.demanded_at types ctxs (demand_of r)
demand_kept types ctxs r = ap (λ (w : Wanted). let d : Demanded = record { scope = scope_at types ctxs r.ctx; wanted = w } in d) (by r.mode) where
  by : (m : Option Mode) → unwrap_or (option_map (wanted_at types) m) Synthesise ≡ wanted_at types (unwrap_or m Syn)
  by None = refl
  by (Some m) = refl

pub kept_demand_of : (types : List Typ) (ctxs : List Context) (records : Records) (v : Vertex) (r : Record) → records v ≡ Some (kept_by types ctxs r) → kept_demand records v ≡ node.demanded_at types ctxs (demand_of r)
kept_demand_of types ctxs records v r is =
    ap (λ (k : Option Kept). kept_demand (λ u. k) v) is ∙ demand_kept types ctxs r

-- ---- a child that is left as it is, or a reference

module _ (live : List Edge) (well : AllByRecursion IsWellFormed live) (types : List Typ) (ctxs : List Context) (places : Places Record) (judged : Vertex → Bool) (records : Records) (reads : ReadsAs types ctxs places records)
    (l : Level) (fr : Frame) (is : IsLevel live types ctxs l fr) (e : Edge) (rest : List Edge) (first : fr.left ≡ e ∷ rest) (b after_it : Forest) (begins : l.left ≡ tree e b after_it)
    (g : Given) (left : IsLeftAs types ctxs places judged fr.demand e.target g) where
  read : records e.target ≡ Some (kept_by types ctxs left.kept)
  read = reads e.target ∙ ap (option_map (kept_by types ctxs)) left.found

  -- the first child that is left, a tree, is left as it is where it is found so
  pub found_left : renewal.IsLeft judged records e.target (demands l e.position)
  found_left = (
    left.off,
    λ exp. kept_demand_of types ctxs records e.target left.kept read ∙ left.still exp
        ∙ agree_expression (sort_of_ctor e.target.ctor) (node.demanded_at types ctxs fr.demand) (demands l e.position)
        (child_agrees live well types ctxs l fr is e rest first b after_it begins) exp,
  )

  -- and gives what it gives in the new graph
  pub found_gives : records e.target ≡ Some (kept_of e.target b (demands l e.position)) → GivesFirst live types l fr g
  found_gives there =
      let kept : kept_by types ctxs left.kept ≡ kept_of e.target b (demands l e.position) =
      some_part (kept_by types ctxs left.kept) (kept_of e.target b (demands l e.position)) (sym read ∙ there) in
      tree_gives_first live well types ctxs l fr is e rest first b after_it begins g
      (left.gives ∙ ap (given_by_kept e.target) kept ∙ record_gives (sort_of_ctor e.target.ctor) e.target b (demands l e.position))

module _ (live : List Edge) (well : AllByRecursion IsWellFormed live) (types : List Typ) (ctxs : List Context) (places : Places Record) (judged : Vertex → Bool) (from : Start) (before : List (Vertex × Kept)) where
  pub passed : (fr now : Frame) (frames : List Frame) (made : List (Vertex × Record)) (e : Edge) (rest : List Edge) (g : Given) → fr.left ≡ e ∷ rest
      → IsFound live types ctxs places judged fr.demand e.target (Some g) → IsAccepted types fr g now
      → IsUnderWay live types ctxs places judged from before (fr ∷ frames) made → IsUnderWay live types ctxs places judged from before (now ∷ frames) made
  passed fr now frames made e rest g first found acc way records reads leaves =
      let w = way records reads leaves in by w.levels w.are w.waiting w.linked w.below w.goes_on
    where
      by : (levels : List Level) → AreLevels live types ctxs levels (fr ∷ frames) → AreWaiting frames → AreLinked levels → StandBelow from.vertex levels
          → GoesOn judged records (HasMade live judged records from before) levels (meant types ctxs made) → IsOnWay live types ctxs judged records from before (now ∷ frames) made
      by [] are waiting linked within goes = absurd are
      by (l ∷ ls) are waiting linked within goes = by_found found where
        is : IsLevel live types ctxs l fr
        is = are.0

        edges : child_edges l.left ≡ e ∷ (rest ++ edges_from live l.vertex (drop (suc fr.state.next) (positions l.vertex.ctor)))
        edges = edges_left live well types ctxs l fr is e rest first

        made_so : GivesFirst live types l fr g → GoesOn judged records (HasMade live judged records from before) (record l { left = behind l.left } ∷ ls) (meant types ctxs made)
            → IsOnWay live types ctxs judged records from before (now ∷ frames) made
        made_so gives goes_then = record {
          levels = record l { left = behind l.left } ∷ ls;
          are = (accepted live types ctxs l fr now g is acc (some_left live well types ctxs l fr is e rest first) gives, are.1);
          waiting = waiting;
          linked = relink l (record l { left = behind l.left }) ls refl refl refl linked;
          below = within;
          goes_on = goes_then;
        }

        by_found : IsFound live types ctxs places judged fr.demand e.target (Some g) → IsOnWay live types ctxs judged records from before (now ∷ frames) made
        by_found (inl (outer, nothing)) =
            made_so (reference_gives_first live well types ctxs l fr is e rest first outer g nothing)
            (past judged records (HasMade live judged records from before) l ls (meant types ctxs made)
            (first_reference live l.left e (rest ++ edges_from live l.vertex (drop (suc fr.state.next) (positions l.vertex.ctor))) (are_left live well types ctxs l fr is e rest first) edges outer judged records (demands l)) goes)
        by_found (inr (inner, left)) =
            let begins : BeginsWithTree l.left e = first_tree live l.left e (rest ++ edges_from live l.vertex (drop (suc fr.state.next) (positions l.vertex.ctor))) (are_left live well types ctxs l fr is e rest first) edges inner in
            let as_left = found_left live well types ctxs places judged records reads l fr is e rest first begins.below begins.rest begins.is g left in
            made_so
            (found_gives live well types ctxs places judged records reads l fr is e rest first begins.below begins.rest begins.is g left
            (leaves l.vertex l.above e.target begins.below (demands l e.position) (child_stands_there live well types ctxs l fr is e rest first begins.below begins.rest begins.is) within.0 as_left))
            (past_left judged records (HasMade live judged records from before) l ls (meant types ctxs made) e begins.below begins.rest begins.is as_left goes)

-- ---- the tables grow

module _ (live : List Edge) (well : AllByRecursion IsWellFormed live) (old new : List Typ) (oldc newc : List Context) (keeps : KeepsTypes old new) (keepsc : KeepsContexts oldc newc) (places : Places Record) (of_tables : AreRecordsOf old oldc places) (judged : Vertex → Bool) (from : Start) (before : List (Vertex × Kept)) where
  abbrev pub Was : List Frame → List (Vertex × Record) → Type 0
  Was frames made = IsUnderWay live old oldc places judged from before frames made

  abbrev pub Is : List Frame → List (Vertex × Record) → Type 0
  Is frames made = IsUnderWay live new newc places judged from before frames made

  -- what is found where it has to be judged again
  pub again : (v : Vertex) (records : Records) → ReadsAs old oldc places records → LeavesRightBelow live judged records from.vertex → (u : Vertex) (us : List Vertex) (f : Forest) (d : Demanded) (dn : Demand)
      → IsMember from.vertex (u ∷ us) → Stands live (u ∷ us) v f d → Agree (sort_of_ctor v.ctor) (node.demanded_at old oldc dn) d → HasToBeJudged old oldc places judged dn v → renewal.HasToBeJudged judged records v d
  again v records reads leaves u us f d dn within stands agree (in_set on) = inl on
  again v records reads leaves u us f d dn within stands agree (demanded r found exp other) =
      inr (exp, λ same. other (sym (kept_demand_of old oldc records v r (reads v ∙ ap (option_map (kept_by old oldc)) found)) ∙ same ∙ sym (agree_expression (sort_of_ctor v.ctor) (node.demanded_at old oldc dn) d agree exp)))
  again v records reads leaves u us f d dn within stands agree (unknown none_there) = by_set (judged v) refl where
    none_kept : records v ≡ None
    none_kept = reads v ∙ ap (option_map (kept_by old oldc)) none_there

    not_left : renewal.IsLeft judged records v d → ⊥
    not_left left = clash (records v) (kept_of v f d) none_kept (leaves u us v f d stands within left) where
      clash : (o : Option Kept) (k : Kept) → o ≡ None → o ≡ Some k → ⊥
      clash o k a b = let never : None ≡ Some k = sym a ∙ b in cc

    by_set : (b : Bool) → judged v ≡ b → renewal.HasToBeJudged judged records v d
    by_set true on = inl on
    by_set false off = by_sort (sort_of_ctor v.ctor) refl where
      by_demand : sort_of_ctor v.ctor ≡ Exp → renewal.HasToBeJudged judged records v d
      by_demand exp = by_or (demanded_or (kept_demand records v) d) where
        by_or : decided.AreSameOrNot (kept_demand records v) d → renewal.HasToBeJudged judged records v d
        by_or (inl same) = absurd (not_left (off, λ h. same))
        by_or (inr other) = inr (exp, other)

      no_sort : (s : Sort) → sort_of_ctor v.ctor ≡ s → sort_of_ctor v.ctor ≡ Exp → (s ≡ Exp → ⊥) → ⊥
      no_sort s sort exp other = other (sym sort ∙ exp)

      by_sort : (s : Sort) → sort_of_ctor v.ctor ≡ s → renewal.HasToBeJudged judged records v d
      by_sort Exp exp = by_demand exp
      by_sort Top sort = absurd (not_left (off, λ h. absurd (no_sort Top sort h (λ same. cc))))
      by_sort Pat sort = absurd (not_left (off, λ h. absurd (no_sort Pat sort h (λ same. cc))))
      by_sort TypeSort sort = absurd (not_left (off, λ h. absurd (no_sort TypeSort sort h (λ same. cc))))

  -- a child is opened
  pub descended : (fr child : Frame) (frames : List Frame) (made : List (Vertex × Record)) (e : Edge) (rest : List Edge) → fr.left ≡ e ∷ rest → AreFramesOf old oldc (fr ∷ frames) → AreMadeOf old oldc made
      → IsFound live old oldc places judged fr.demand e.target None → IsOpenOf old oldc child.state → child.vertex.now ≡ e.target
      → opened_at old oldc child.state ≡ machine.fresh e.target.ctor (node.demanded_at old oldc fr.demand) → left_of child.state ≡ positions e.target.ctor → IsBegun live old new oldc newc child
      → Was (fr ∷ frames) made → Is (child ∷ fr ∷ frames) made
  descended fr child frames made e rest first of of_made found is_open vertex opened all begins way records reads leaves =
      let w = way records (reads_as-kept old new oldc newc keeps keepsc places records of_tables reads) leaves in by w.levels w.are w.waiting w.linked w.below w.goes_on
    where
      by : (levels : List Level) → AreLevels live old oldc levels (fr ∷ frames) → AreWaiting frames → AreLinked levels → StandBelow from.vertex levels
          → GoesOn judged records (HasMade live judged records from before) levels (meant old oldc made) → IsOnWay live new newc judged records from before (child ∷ fr ∷ frames) made
      by [] are waiting linked within goes = absurd are
      by (l ∷ ls) are waiting linked within goes = record {
        levels = c ∷ l ∷ ls;
        are = (
          begun live old new oldc newc keeps keepsc c child is_open vertex (fresh_between live old oldc c fr.demand child.state stands refl agrees opened all) begins,
          levels_kept old new oldc newc keeps keepsc live (l ∷ ls) (fr ∷ frames) of are,
        );
        waiting = (some_left live well old oldc l fr is e rest first, waiting);
        linked = (record { edge = e; rest = tree_is.rest; first = tree_is.is; target = refl; demanded = refl }, linked);
        below = (member_of_more from.vertex e.target (l.vertex ∷ l.above) within.0, within);
        goes_on =
            subst (GoesOn judged records (HasMade live judged records from before) (c ∷ l ∷ ls)) (sym (meant-kept old new oldc newc keeps keepsc made of_made))
            (down judged records (HasMade live judged records from before) l ls (meant old oldc made) e tree_is.below tree_is.rest c tree_is.is refl
            (again e.target records (reads_as-kept old new oldc newc keeps keepsc places records of_tables reads) leaves l.vertex l.above tree_is.below (demands l e.position) fr.demand within.0 stands agrees found.1) goes);
      } where
        is : IsLevel live old oldc l fr
        is = are.0

        tree_is : BeginsWithTree l.left e
        tree_is =
            first_tree live l.left e (rest ++ edges_from live l.vertex (drop (suc fr.state.next) (positions l.vertex.ctor))) (are_left live well old oldc l fr is e rest first)
            (edges_left live well old oldc l fr is e rest first) found.0

        c : Level
        c = record { above = l.vertex ∷ l.above; vertex = e.target; forest = tree_is.below; demanded = demands l e.position; left = tree_is.below }

        stands : Stands live (l.vertex ∷ l.above) e.target tree_is.below (demands l e.position)
        stands = child_stands_there live well old oldc l fr is e rest first tree_is.below tree_is.rest tree_is.is

        agrees : Agree (sort_of_ctor e.target.ctor) (node.demanded_at old oldc fr.demand) (demands l e.position)
        agrees = child_agrees live well old oldc l fr is e rest first tree_is.below tree_is.rest tree_is.is

  -- the next position is begun
  pub went_on : (fr now : Frame) (frames : List Frame) (made : List (Vertex × Record)) → fr.left ≡ [] → fr.state.next < length (positions fr.vertex.now.ctor) → AreFramesOf old oldc (fr ∷ frames) → AreMadeOf old oldc made
      → IsOpenOf old oldc now.state → now.vertex.now ≡ fr.vertex.now → now.state ≡ filled_with fr.given fr.state → IsBegun live old new oldc newc now → Was (fr ∷ frames) made → Is (now ∷ frames) made
  went_on fr now frames made none_here some of of_made is_open vertex filled begins way records reads leaves =
      let w = way records (reads_as-kept old new oldc newc keeps keepsc places records of_tables reads) leaves in by w.levels w.are w.waiting w.linked w.below w.goes_on
    where
      by : (levels : List Level) → AreLevels live old oldc levels (fr ∷ frames) → AreWaiting frames → AreLinked levels → StandBelow from.vertex levels
          → GoesOn judged records (HasMade live judged records from before) levels (meant old oldc made) → IsOnWay live new newc judged records from before (now ∷ frames) made
      by [] are waiting linked within goes = absurd are
      by (l ∷ ls) are waiting linked within goes = record {
        levels = l ∷ ls;
        are = (
          begun live old new oldc newc keeps keepsc l now is_open (vertex ∙ is.vertex)
              (subst (IsBetween live old oldc l) (sym filled) (between (drop_cases fr.state.next (positions l.vertex.ctor)))) begins,
          levels_kept old new oldc newc keeps keepsc live ls frames of.1 are.1,
        );
        waiting = waiting;
        linked = linked;
        below = within;
        goes_on = subst (GoesOn judged records (HasMade live judged records from before) (l ∷ ls)) (sym (meant-kept old new oldc newc keeps keepsc made of_made)) goes;
      } where
        is : IsLevel live old oldc l fr
        is = are.0

        in_row : fr.state.next < length (positions l.vertex.ctor)
        in_row = subst (λ (v : Vertex). fr.state.next < length (positions v.ctor)) is.vertex some

        not_past : (n : ℕ) (row : List (Position × Sort)) → n < length row → drop n row ≡ [] → ⊥
        not_past zero [] less empty = omega (arith, less)
        not_past zero (q ∷ row) less empty = cc
        not_past (suc n) [] less empty = omega (arith, less)
        not_past (suc n) (q ∷ row) less empty = not_past n row (omega (arith, less)) empty

        between : (drop fr.state.next (positions l.vertex.ctor) ≡ []) ⊎ ((p : Position × Sort) × (ps : List (Position × Sort)) × (drop fr.state.next (positions l.vertex.ctor) ≡ p ∷ ps)) → IsBetween live old oldc l (filled_with fr.given fr.state)
        between (inl empty) = absurd (not_past fr.state.next (positions l.vertex.ctor) in_row empty)
        between (inr (p, ps, at)) = filled_between live old oldc l fr p ps of.0.state (of.0.ctor ∙ ap (λ (v : Vertex). v.ctor) is.vertex) at none_here is

  -- ---- a vertex is settled

  taken_all : (row : List (Position × Sort)) (n : ℕ) → n ≡ length row → take n row ≡ row
  taken_all [] zero is = refl
  taken_all [] (suc n) is = refl
  taken_all (p ∷ row) zero is = absurd (omega arith)
  taken_all (p ∷ row) (suc n) is = ap (λ qs. p ∷ qs) (taken_all row n (omega (arith, is)))

  dropped_all : (row : List (Position × Sort)) (n : ℕ) → length row < n → drop n row ≡ []
  dropped_all [] zero less = refl
  dropped_all [] (suc n) less = refl
  dropped_all (p ∷ row) zero less = absurd (omega (arith, less))
  dropped_all (p ∷ row) (suc n) less = dropped_all row n (omega (arith, less))

  pub settled_up : (fr : Frame) (frames left_over : List Frame) (made after_it : List (Vertex × Record)) (g : Given) → fr.left ≡ [] → fr.state.next ≡ length (positions fr.state.ctor.now) → AreFramesOf old oldc (fr ∷ frames) → AreMadeOf old oldc made
      → IsSettled new newc fr.vertex.now (opened_at old oldc fr.state) made after_it → given_at new g ≡ machine.given_of (opened_at old oldc fr.state) → IsHanded new g frames left_over
      → Was (fr ∷ frames) made → Is left_over after_it
  settled_up fr frames left_over made after_it g none_here whole of of_made settles gives handed way records reads leaves =
      let w = way records (reads_as-kept old new oldc newc keeps keepsc places records of_tables reads) leaves in by w.levels w.are w.waiting w.linked w.below w.goes_on
    where
      by : (levels : List Level) → AreLevels live old oldc levels (fr ∷ frames) → AreWaiting frames → AreLinked levels → StandBelow from.vertex levels → GoesOn judged records (HasMade live judged records from before) levels (meant old oldc made)
          → IsOnWay live new newc judged records from before left_over after_it
      by [] are waiting linked within goes = absurd are
      by (l ∷ ls) are waiting linked within goes = above ls frames handed are.1 of.1 waiting linked within.1 awaits where
        is : IsLevel live old oldc l fr
        is = are.0

        same_ctor : fr.state.ctor.now ≡ l.vertex.ctor
        same_ctor = of.0.ctor ∙ ap (λ (v : Vertex). v.ctor) is.vertex

        at_end : fr.state.next ≡ length (positions l.vertex.ctor)
        at_end = whole ∙ ap (λ c. length (positions c)) same_ctor

        d : Demanded
        d = node.demanded_at old oldc fr.state.demand

        opened : opened_at old oldc fr.state ≡ after l.vertex.ctor d (expression_of l.vertex l.forest l.demanded) l.forest (positions l.vertex.ctor)
        opened = is.gave ∙ ap (λ qs. after l.vertex.ctor d (expression_of l.vertex l.forest l.demanded) l.forest qs) (taken_all (positions l.vertex.ctor) fr.state.next at_end)

        kept : kept_by new newc settles.kept ≡ kept_of l.vertex l.forest l.demanded
        kept = settles.is ∙ ap kept_closed opened ∙ closed_is l.vertex l.forest d l.demanded is.agree

        gives_tree : given_at new g ≡ given_tree (sort_of_ctor l.vertex.ctor) l.vertex.ctor l.demanded l.forest
        gives_tree = gives ∙ ap machine.given_of opened ∙ gives_whole l.vertex.ctor (sort_of_ctor l.vertex.ctor) d l.demanded l.forest is.agree

        none_more : l.left ≡ none
        none_more =
            none_left l.left
            (is.edges ∙ ap (λ es. es ++ edges_from live l.vertex (drop (suc fr.state.next) (positions l.vertex.ctor))) none_here
            ∙ ap (edges_from live l.vertex) (dropped_all (positions l.vertex.ctor) (suc fr.state.next) (omega (arith, at_end))))

        now_meant : meant new newc after_it ≡ meant old oldc made ++ made_of l ∷ []
        now_meant =
            ap (meant new newc) settles.behind ∙ map-append (λ (m : Vertex × Record). let k : Vertex × Kept = (m.0, kept_by new newc m.1) in k) made ((fr.vertex.now, settles.kept) ∷ [])
            ∙ ap (λ ks. ks ++ (fr.vertex.now, kept_by new newc settles.kept) ∷ []) (meant-kept old new oldc newc keeps keepsc made of_made)
            ∙ ap (λ (v : Vertex). meant old oldc made ++ (v, kept_by new newc settles.kept) ∷ []) is.vertex
            ∙ ap (λ (k : Kept). meant old oldc made ++ (l.vertex, k) ∷ []) kept

        awaits : Awaits judged records (HasMade live judged records from before) ls (meant new newc after_it)
        awaits = subst (Awaits judged records (HasMade live judged records from before) ls) (sym now_meant) (up judged records (HasMade live judged records from before) l ls (meant old oldc made) none_more goes)

        above : (ls : List Level) (frames : List Frame) → IsHanded new g frames left_over → AreLevels live old oldc ls frames → AreFramesOf old oldc frames → AreWaiting frames → AreLinked (l ∷ ls) → StandBelow from.vertex ls
            → Awaits judged records (HasMade live judged records from before) ls (meant new newc after_it) → IsOnWay live new newc judged records from before left_over after_it
        above [] [] handed are of waiting linked within awaited =
            record { levels = []; are = subst (AreLevels live new newc []) (sym handed) tt; waiting = subst (λ (frs : List Frame). AreWaiting (drop 1 frs)) (sym handed) tt; linked = tt; below = tt; goes_on = awaited }
        above [] (m ∷ frames) handed are of waiting linked within awaited = absurd are
        above (k ∷ ks) [] handed are of waiting linked within awaited = absurd are
        above (k ∷ ks) (m ∷ frames) (now, is_then, accepts) are of waiting linked within awaited =
            let is_now : IsLevel live new newc k m = level_kept old new oldc newc keeps keepsc live k m of.0 are.0 in
            let below : IsBelow l k = linked.0 in
            record {
              levels = record k { left = behind k.left } ∷ ks;
              are =
                  subst (AreLevels live new newc (record k { left = behind k.left } ∷ ks)) (sym is_then)
                  (accepted live new newc k m now g is_now (accepts waiting.0) waiting.0 (gives_below k m is_now below waiting.0), levels_kept old new oldc newc keeps keepsc live ks frames of.1 are.1);
              waiting = subst (λ (frs : List Frame). AreWaiting (drop 1 frs)) (sym is_then) waiting.1;
              linked = relink k (record k { left = behind k.left }) ks refl refl refl linked.1;
              below = within;
              goes_on = awaited;
            }
          where
            gives_below : (k : Level) (m : Frame) → IsLevel live new newc k m → IsBelow l k → 0 < length m.left → GivesFirst live new k m g
            gives_below k m is_k below some = by_first (some_cases m.left some) where
              some_cases : (xs : List Edge) → 0 < length xs → (x : Edge) × (ys : List Edge) × (xs ≡ x ∷ ys)
              some_cases [] some_there = absurd (omega (arith, some_there))
              some_cases (x ∷ xs) one = (x, xs, refl)

              first_same : (x y : Edge) (xs ys : List Edge) → x ∷ xs ≡ y ∷ ys → x ≡ y
              first_same x y xs ys h = cc

              by_first : ((x : Edge) × (ys : List Edge) × (m.left ≡ x ∷ ys)) → GivesFirst live new k m g
              by_first (x, ys, first) =
                  let edges = edges_left live well new newc k m is_k x ys first in
                  let same : x ≡ below.edge = first_same x below.edge (ys ++ edges_from live k.vertex (drop (suc m.state.next) (positions k.vertex.ctor))) (child_edges below.rest) (sym edges ∙ ap child_edges below.first) in
                  tree_gives_first live well new newc k m is_k x ys first l.forest below.rest (below.first ∙ ap (λ (y : Edge). tree y l.forest below.rest) (sym same)) g
                  (gives_tree
                  ∙ ap (λ (v : Vertex). given_tree (sort_of_ctor v.ctor) v.ctor l.demanded l.forest) (sym below.target ∙ ap (λ (y : Edge). y.target) (sym same))
                  ∙ ap (λ (e : Demanded). given_tree (sort_of_ctor x.target.ctor) x.target.ctor e l.forest) (below.demanded ∙ ap (λ (y : Edge). demands k y.position) (sym same)))

  -- ---- a walk down is begun, and ends

  pub walk_begun : (fr : Frame) (made : List (Vertex × Record)) (d : Demand) → IsStart live old oldc d from → IsOpenOf old oldc fr.state → fr.vertex.now ≡ from.vertex
      → opened_at old oldc fr.state ≡ machine.fresh from.vertex.ctor (node.demanded_at old oldc d) → left_of fr.state ≡ positions from.vertex.ctor → IsBegun live old new oldc newc fr
      → IsUnderWay live new newc places judged from (meant new newc made) (fr ∷ []) made
  walk_begun fr made d place is_open vertex opened all begins records reads leaves = record {
    levels = l ∷ [];
    are = (begun live old new oldc newc keeps keepsc l fr is_open vertex (fresh_between live old oldc l d fr.state place.stands refl place.agree opened all) begins, tt);
    waiting = tt;
    linked = tt;
    below = (record { before = []; behind = place.above; are = refl }, tt);
    goes_on = goes;
  } where
    l : Level
    l = record { above = place.above; vertex = from.vertex; forest = place.forest; demanded = from.demanded; left = place.forest }

    goes : (later : List (Vertex × Kept)) → MakesUnder judged records (demands l) place.forest later → HasMade live judged records from (meant new newc made) ((meant new newc made ++ later) ++ made_of l ∷ [])
    goes later makes = record {
      own = later ++ made_of l ∷ [];
      are = append_assoc (meant new newc made) later (made_of l ∷ []);
      makes = record { forest = place.forest; stands = stands_under live place.above from.vertex place.forest from.demanded place.stands; inner = later; made_are = refl; under = makes };
    }

-- the head of a tree is where a walk down the tree begins
pub head_is_start : (live : List Edge) (types : List Typ) (ctxs : List Context) (head : Vertex) → (class live head ≡ Inner → ⊥) → (d : Demand) → node.demanded_at types ctxs d ≡ alone → IsStart live types ctxs d (start_at head alone)
head_is_start live types ctxs head outer d by_itself = record {
  above = [];
  forest = forest_of live head;
  stands = (outer, root_stands live head outer, refl);
  agree = agree_by (sort_of_ctor head.ctor);
} where
  agree_by : (s : Sort) → Agree s (node.demanded_at types ctxs d) alone
  agree_by Exp = by_itself
  agree_by Top = by_itself
  agree_by Pat = tt
  agree_by TypeSort = tt

pub way_ends : (live : List Edge) (types : List Typ) (ctxs : List Context) (places : Places Record) (judged : Vertex → Bool) (from : Start) (before : List (Vertex × Kept)) (made : List (Vertex × Record))
    → IsUnderWay live types ctxs places judged from before [] made → (records : Records) → ReadsAs types ctxs places records → LeavesRightBelow live judged records from.vertex → HasMade live judged records from before (meant types ctxs made)
way_ends live types ctxs places judged from before made way records reads leaves =
    let w = way records reads leaves in by w.levels w.are w.goes_on
  where
    by : (levels : List Level) → AreLevels live types ctxs levels [] → GoesOn judged records (HasMade live judged records from before) levels (meant types ctxs made) → HasMade live judged records from before (meant types ctxs made)
    by [] are goes = goes
    by (l ∷ ls) are goes = absurd are

-- ---- frames that are put on and taken off

pub no_first : {X : Type 0} (xs : List X) → slice_get xs 0 ≡ None → xs ≡ []
no_first [] is = refl
no_first (x ∷ xs) is = absurd cc

pub first_is : {X : Type 0} (xs : List X) (x : X) → slice_get xs 0 ≡ Some x → xs ≡ x ∷ drop 1 xs
first_is [] x is = absurd cc
first_is (y ∷ ys) x is = ap (λ z. z ∷ ys) (some_part y x is)

-- the innermost frame is the last that was put on
pub on_top : (frames new : List Frame) (fr : Frame) → new ≡ frames ++ fr ∷ [] → reverse new ≡ fr ∷ reverse frames
on_top frames new fr pushed = ap reverse pushed ∙ reverse-append frames (fr ∷ [])
