-- Taking the nodes of a tree one by one gives its marked nodes.
use Rattle.std.proofs.Common.{◌≡◌, ℕ, zero, suc, ◌+◌, Bool, true, false, cond, List, [], ◌∷◌, ◌++◌, take, drop, length, Some, None, refl, sym, ap, subst, ◌∙◌, append-nil, append_assoc, arith}
use Rattle.std.specs.Prelude.{if◌then◌else◌}
use Rattle.std.specs.List.{AllByRecursion}
use Rattle.std.proofs.lemmas.List.{take-append-drop}
use Rattle.std.proofs.lemmas.Bool.{both_ways}
use Rattle.grove_sorts.specs.declared.ctor.Ctor.{Ctor}
use Rattle.grove_sorts.specs.declared.ctor.Ctor.TheVariants as ctor
use Rattle.grove_sorts.specs.declared.position.Position.{Position}
use Rattle.grove_sorts.specs.declared.sort.Sort.{Sort}
use Rattle.grove_sorts.specs.declared.sort.Sort.TheVariants.{Top, Exp, Pat, Typ as TypeSort}
use Rattle.grove_sorts.specs.Ctor.{positions, sort_of_ctor, sort_at}
use Rattle.grove_sorts.specs.Position.{is_same_position}
use Rattle.grove_sorts.proofs.Rows.{places_found}
use Rattle.grove_edits.specs.declared.vertex.Vertex.{Vertex as VertexOf}
use Rattle.grove_edits.specs.declared.edge.Edge.{Edge}
use Rattle.grove_terms.specs.declared.node.Node.{Node}
use Rattle.grove_terms.specs.declared.node.What.TheVariants.{Vertex, Hole, Conflict, MultiRef, CycleRef}
use Rattle.grove_terms.specs.Forest.{Forest, none, multi_ref, cycle_ref, tree, child_edges, IsWellSorted}
use Rattle.grove_terms.specs.Nodes.{node_at, child_node, head_node, place_nodes, places_nodes, count_at, child_nodes, tree_nodes, nodes_under}
use Rattle.type_core.specs.Typ.{Typ}
use Rattle.mark_step.specs.Scope.{Scope}
use Rattle.mark_step.specs.Expression.{Wanted, Synthesise, Analyse, Expression, Demanded, Marked}
use Rattle.mark_step.specs.Step.{demand, scope_next, wanted_next, settled, settled_as}
use Rattle.mark_step.specs.Rows.{is_exp}
use Rattle.marking.specs.Types.{if_sole, child_name, tree_type, child_type, pattern_name, bound_in}
use Rattle.marking.specs.Marking.{MarkedNode, expression, types_at, judged_in, judged_child, marked_plain, marked_vertex, marked_place, marked_places, marked_children, marked_tree, synthesised_in, children_types}
use Rattle.marking.proofs.Judged.{child_has_sort}
use Rattle.marking.proofs.ByRows.{type_judges_none, pattern_judges_none, no_top_in}
use Rattle.judging.specs.Machine.{Given, nothing, of_type, of_name, Opened, Frame, Of, Several, State, at, bound_by, made_of, types_given, before_of, expression_of, given_by_sort, given_of, Added, type_added, expression_added, added_by_sort, added_of, with_added, add_at, unsettled, fresh, filled, demanded_by, demanded_next, deliver, opened, taken, step, run}

pub run-append : (s : State) (xs ys : List Node) → run s (xs ++ ys) ≡ run (run s xs) ys
run-append s [] ys = refl
run-append s (x ∷ xs) ys = run-append (step s x) xs ys

-- ---- what is given

-- what the place of a position gives at which so many children stand
abbrev pub given_at : Sort → ℕ → Forest → Position → Demanded → Given
given_at Exp n f p d = of_type (if_sole n (judged_child f p d) Typ.Unknown)
given_at TypeSort n f p d = of_type (if_sole n (child_type f p) Typ.Unknown)
given_at Pat n f p d = of_name (if_sole n (child_name f p) None)
given_at Top n f p d = nothing

-- what a tree gives
abbrev pub given_tree : Sort → Ctor → Demanded → Forest → Given
given_tree Exp c d f = of_type (settled (expression c d.scope d.wanted f) (children_types (expression c d.scope d.wanted f) f)).typ
given_tree TypeSort c d f = of_type (tree_type c f)
given_tree Pat c d f = of_name (pattern_name c)
given_tree Top c d f = nothing

pub given-none : (s : Sort) (f : Forest) (p : Position) (d : Demanded) → given_at s 0 f p d ≡ nothing
given-none Exp f p d = refl
given-none TypeSort f p d = refl
given-none Pat f p d = refl
given-none Top f p d = refl

pub given-several : (s : Sort) (n : ℕ) (f : Forest) (p : Position) (d : Demanded) → given_at s (suc (suc n)) f p d ≡ nothing
given-several Exp n f p d = refl
given-several TypeSort n f p d = refl
given-several Pat n f p d = refl
given-several Top n f p d = refl

-- what is demanded matters neither for patterns nor for types
abbrev pub Agree : Sort → Demanded → Demanded → Type 0
Agree Exp d e = d ≡ e
Agree Top d e = d ≡ e
Agree Pat d e = Unit {0}
Agree TypeSort d e = Unit {0}

plain-agrees : (s : Sort) (d e : Demanded) (n : Node) → Agree s d e → marked_plain s d.wanted n ≡ marked_plain s e.wanted n
plain-agrees Exp d e n same = ap (λ (x : Demanded). marked_plain Exp x.wanted n) same
plain-agrees TypeSort d e n same = refl
plain-agrees Pat d e n same = refl
plain-agrees Top d e n same = refl

synthesised-agrees : (s : Sort) (d e : Demanded) → Agree s d e → Agree s (synthesised_in d) (synthesised_in e)
synthesised-agrees Exp d e same = ap synthesised_in same
synthesised-agrees Top d e same = ap synthesised_in same
synthesised-agrees Pat d e same = tt
synthesised-agrees TypeSort d e same = tt

-- ---- a conflict

-- a conflict with so many children left, or what stands when none is left
abbrev pub counted : ℕ → Demanded → List Frame → List MarkedNode → State
counted zero d frames out = deliver nothing frames out
counted (suc n) d frames out = at (Several d (suc n) ∷ frames) out

deliver-several : (g : Given) (n : ℕ) (d : Demanded) (frames : List Frame) (out : List MarkedNode) → deliver g (Several d (suc n) ∷ frames) out ≡ counted n d frames out
deliver-several g zero d frames out = refl
deliver-several g (suc n) d frames out = refl

pub deliver-of : (g : Given) (place : ℕ) (v : Opened) (p : Position × Sort) (ps : List (Position × Sort)) (frames : List Frame) (out : List MarkedNode)
    → deliver g (Of place v p ps ∷ frames) out ≡ opened place (filled g v) ps frames out
deliver-of g place v p [] frames out = refl
deliver-of g place v p (q ∷ qs) frames out = refl

-- ---- a position

-- taking the child at a position, where it is the only one
abbrev pub SoleRuns : Forest → Position → Sort → Type 0
SoleRuns f p s = (depth : ℕ) (d e : Demanded) (frames : List Frame) (out : List MarkedNode) → Agree s d e → demanded_next frames ≡ d → count_at f p ≡ 1
    → run (at frames out) (child_nodes f depth p) ≡ deliver (given_at s 1 f p e) frames (out ++ marked_children f depth p e)

-- taking the children at a position, where they stand under a conflict
abbrev pub SeveralRun : Forest → Position → Sort → Type 0
SeveralRun f p s = (depth : ℕ) (d e : Demanded) (frames : List Frame) (out : List MarkedNode) (n : ℕ) → Agree s d e
    → run (counted (count_at f p + n) d frames out) (child_nodes f depth p) ≡ counted n d frames (out ++ marked_children f depth p e)

pub record Run (f : Forest) (p : Position) (s : Sort) : Type 0 where
  pub sole : SoleRuns f p s
  pub several : SeveralRun f p s

abbrev pub PlaceRuns : ℕ → Forest → Position → Sort → Type 0
PlaceRuns n f p s = (depth : ℕ) (d e : Demanded) (frames : List Frame) (out : List MarkedNode) → Agree s d e → demanded_next frames ≡ d
    → run (at frames out) (place_nodes n (λ at. child_nodes f at p) depth p s) ≡ deliver (given_at s n f p e) frames (out ++ marked_place n (λ at x. marked_children f at p x) depth p s e)

place-runs : (n : ℕ) (f : Forest) (p : Position) (s : Sort) → count_at f p ≡ n → Run f p s → PlaceRuns n f p s
place-runs zero f p s count runs depth d e frames out same next =
    let plain : marked_plain s (demanded_next frames).wanted (node_at depth p (Hole s)) ≡ marked_plain s e.wanted (node_at depth p (Hole s)) =
    ap (λ (x : Demanded). marked_plain s x.wanted (node_at depth p (Hole s))) next ∙ plain-agrees s d e (node_at depth p (Hole s)) same in
    ap (λ m. deliver nothing frames (out ++ m ∷ [])) plain
    ∙ ap (λ g. deliver g frames (out ++ marked_plain s e.wanted (node_at depth p (Hole s)) ∷ [])) (sym (given-none s f p e))
place-runs (suc zero) f p s count runs depth d e frames out same next = runs.sole depth d e frames out same next count
place-runs (suc (suc n)) f p s count runs depth d e frames out same next =
    let node : Node = node_at depth p (Conflict s (suc (suc n))) in
    let plain : marked_plain s (demanded_next frames).wanted node ≡ marked_plain s e.wanted node =
    ap (λ (x : Demanded). marked_plain s x.wanted node) next ∙ plain-agrees s d e node same in
    let whole : count_at f p + 0 ≡ suc (suc n) = omega (arith, count) in
    ap (λ m. run (at (Several (synthesised_in (demanded_next frames)) (suc (suc n)) ∷ frames) (out ++ m ∷ [])) (child_nodes f (depth + 1) p)) plain
    ∙ ap (λ (x : Demanded). run (at (Several (synthesised_in x) (suc (suc n)) ∷ frames) (out ++ marked_plain s e.wanted node ∷ [])) (child_nodes f (depth + 1) p)) next
    ∙ ap (λ k. run (counted k (synthesised_in d) frames (out ++ marked_plain s e.wanted node ∷ [])) (child_nodes f (depth + 1) p)) (sym whole)
    ∙ runs.several (depth + 1) (synthesised_in d) (synthesised_in e) frames (out ++ marked_plain s e.wanted node ∷ []) 0 (synthesised-agrees s d e same)
    ∙ ap (λ ms. deliver nothing frames ms) (append_assoc out (marked_plain s e.wanted node ∷ []) (marked_children f (depth + 1) p (synthesised_in e)))
    ∙ ap (λ g. deliver g frames (out ++ (marked_plain s e.wanted node ∷ marked_children f (depth + 1) p (synthesised_in e)))) (sym (given-several s n f p e))

-- ---- the positions of a vertex

-- the types of the expressions once a position is marked
abbrev pub types_then : Sort → Forest → Position → Demanded → List Typ → List Typ
types_then s f p d before = if is_exp s then (before ++ judged_in f p d ∷ []) else before

-- what some positions give, one after the other
abbrev pub places_give : Expression → Forest → List (Position × Sort) → List Typ → List Given
places_give x f [] before = []
places_give x f (p ∷ ps) before = given_at p.1 (count_at f p.0) f p.0 (demand x before) ∷ places_give x f ps (types_then p.1 f p.0 (demand x before) before)

pub places_give-append : (x : Expression) (f : Forest) (ps qs : List (Position × Sort)) (before : List Typ)
    → places_give x f (ps ++ qs) before ≡ places_give x f ps before ++ places_give x f qs (types_at x (judged_in f) ps before)
places_give-append x f [] qs before = refl
places_give-append x f (p ∷ ps) qs before =
    ap (λ gs. given_at p.1 (count_at f p.0) f p.0 (demand x before) ∷ gs)
    (places_give-append x f ps qs (types_then p.1 f p.0 (demand x before) before)
    ∙ ap (λ now. places_give x f ps (types_then p.1 f p.0 (demand x before) before) ++ places_give x f qs now) (by_sort (is_exp p.1)))
  where
    by_sort : (b : Bool) → types_at x (judged_in f) ps (cond b (before ++ judged_in f p.0 (demand x before) ∷ []) before)
        ≡ cond b (types_at x (judged_in f) ps (before ++ judged_in f p.0 (demand x before) ∷ [])) (types_at x (judged_in f) ps before)
    by_sort true = refl
    by_sort false = refl

pub types_at-append : (x : Expression) (f : Forest) (ps qs : List (Position × Sort)) (before : List Typ)
    → types_at x (judged_in f) (ps ++ qs) before ≡ types_at x (judged_in f) qs (types_at x (judged_in f) ps before)
types_at-append x f [] qs before = refl
types_at-append x f (p ∷ ps) qs before =
    by_sort (is_exp p.1) (types_at-append x f ps qs (before ++ judged_in f p.0 (demand x before) ∷ [])) (types_at-append x f ps qs before) where
      by_sort : (b : Bool)
          → types_at x (judged_in f) (ps ++ qs) (before ++ judged_in f p.0 (demand x before) ∷ []) ≡ types_at x (judged_in f) qs (types_at x (judged_in f) ps (before ++ judged_in f p.0 (demand x before) ∷ []))
          → types_at x (judged_in f) (ps ++ qs) before ≡ types_at x (judged_in f) qs (types_at x (judged_in f) ps before)
          → cond b (types_at x (judged_in f) (ps ++ qs) (before ++ judged_in f p.0 (demand x before) ∷ [])) (types_at x (judged_in f) (ps ++ qs) before)
          ≡ types_at x (judged_in f) qs (cond b (types_at x (judged_in f) ps (before ++ judged_in f p.0 (demand x before) ∷ [])) (types_at x (judged_in f) ps before))
      by_sort true one other = one
      by_sort false one other = other

-- the type that an expression place gives is the one with which judging goes on
given_types : (x : Expression) (f : Forest) (ps qs : List (Position × Sort)) (before : List Typ)
    → before ++ types_given (ps ++ qs) (places_give x f ps before) ≡ types_at x (judged_in f) ps before
given_types x f [] [] before = append-nil before
given_types x f [] (q ∷ qs) before = append-nil before
given_types x f ((q, Exp) ∷ ps) qs before =
    sym (append_assoc before (judged_in f q (demand x before) ∷ []) (types_given (ps ++ qs) (places_give x f ps (before ++ judged_in f q (demand x before) ∷ []))))
    ∙ given_types x f ps qs (before ++ judged_in f q (demand x before) ∷ [])
given_types x f ((q, Top) ∷ ps) qs before = given_types x f ps qs before
given_types x f ((q, Pat) ∷ ps) qs before = given_types x f ps qs before
given_types x f ((q, TypeSort) ∷ ps) qs before = given_types x f ps qs before

-- the children at each position of a constructor are run
abbrev pub AllRun : Ctor → Forest → Type 0
AllRun c f = (p : Position) (s : Sort) → sort_at c p ≡ Some s → Run f p s

-- the vertex of which this is demanded, once some positions gave what they give
abbrev pub after : Ctor → Demanded → Expression → Forest → List (Position × Sort) → Opened
after c d x f done = record { ctor = c; demanded = d; given = places_give x f done [] }

-- at each of its positions the rule demands of the vertex what is demanded there
abbrev pub Demands : Ctor → Demanded → Expression → Forest → Type 0
Demands c d x f = (n : ℕ) (p : Position × Sort) (ps : List (Position × Sort)) → drop n (positions c) ≡ p ∷ ps
    → Agree p.1 (demanded_by (after c d x f (take n (positions c))) p.1) (demand x (types_at x (judged_in f) (take n (positions c)) []))

add-seam : (xs : List MarkedNode) (n : Node) (ys : List MarkedNode) (a : Added) → add_at a (xs ++ unsettled n ∷ ys) (length xs) ≡ xs ++ with_added a n ∷ ys
add-seam [] n ys a = refl
add-seam (x ∷ xs) n ys a = ap (λ ms. x ∷ ms) (add-seam xs n ys a)

-- a row with one position more taken
pub one_more : (row : List (Position × Sort)) (n : ℕ) (p : Position × Sort) (ps : List (Position × Sort)) → drop n row ≡ p ∷ ps → (take (suc n) row ≡ take n row ++ p ∷ []) × (drop (suc n) row ≡ ps)
one_more [] zero p ps e = absurd cc
one_more [] (suc n) p ps e = absurd cc
one_more (q ∷ row) zero p ps e = (ap (λ (qs : List (Position × Sort)). take 1 qs) e, ap (λ (qs : List (Position × Sort)). drop 1 qs) e)
one_more (q ∷ row) (suc n) p ps e = let more = one_more row n p ps e in (ap (λ qs. q ∷ qs) more.0, more.1)

pub all_taken : (row : List (Position × Sort)) (n : ℕ) → drop n row ≡ [] → take n row ≡ row
all_taken [] zero e = refl
all_taken [] (suc n) e = refl
all_taken (q ∷ row) zero e = absurd cc
all_taken (q ∷ row) (suc n) e = ap (λ qs. q ∷ qs) (all_taken row n e)

-- what holds of each entry of a row holds of each that comes next
next_in : (P : Position × Sort → Type 0) (row : List (Position × Sort)) (n : ℕ) (p : Position × Sort) (ps : List (Position × Sort)) → AllByRecursion P row → drop n row ≡ p ∷ ps → P p
next_in P [] zero p ps all e = absurd cc
next_in P [] (suc n) p ps all e = absurd cc
next_in P (q ∷ row) zero p ps all e = subst P (first_same q p row ps e) all.0 where
  first_same : (q p : Position × Sort) (qs ps : List (Position × Sort)) → q ∷ qs ≡ p ∷ ps → q ≡ p
  first_same q p qs ps e = cc
next_in P (q ∷ row) (suc n) p ps all e = next_in P row n p ps all.1 e

places-run : (c : Ctor) (d : Demanded) (x : Expression) (f : Forest) → AllRun c f → Demands c d x f → (n : ℕ) (ps : List (Position × Sort)) → drop n (positions c) ≡ ps
    → (place depth : ℕ) (frames : List Frame) (out : List MarkedNode)
    → run (opened place (after c d x f (take n (positions c))) ps frames out) (places_nodes ps (count_at f) (child_nodes f) depth)
    ≡ deliver (given_of (after c d x f (positions c))) frames
    (add_at (added_of (after c d x f (positions c))) (out ++ marked_places x (count_at f) (marked_children f) (judged_in f) depth ps (types_at x (judged_in f) (take n (positions c)) [])) place)
places-run c d x f runs demands n [] row place depth frames out =
    ap (λ qs. deliver (given_of (after c d x f qs)) frames (add_at (added_of (after c d x f qs)) out place)) (all_taken (positions c) n row)
    ∙ ap (λ ms. deliver (given_of (after c d x f (positions c))) frames (add_at (added_of (after c d x f (positions c))) ms place)) (sym (append-nil out))
places-run c d x f runs demands n (p ∷ ps) row place depth frames out =
    let done : List (Position × Sort) = take n (positions c) in
    let before : List Typ = types_at x (judged_in f) done [] in
    let e : Demanded = demand x before in
    let v : Opened = after c d x f done in
    let whole : Opened = after c d x f (positions c) in
    let here : List MarkedNode = marked_place (count_at f p.0) (λ at y. marked_children f at p.0 y) depth p.0 p.1 e in
    let given : Given = given_at p.1 (count_at f p.0) f p.0 e in
    let later : List MarkedNode = marked_places x (count_at f) (marked_children f) (judged_in f) depth ps (types_then p.1 f p.0 e before) in
    let more = one_more (positions c) n p ps row in
    run-append (at (Of place v p ps ∷ frames) out) (place_nodes (count_at f p.0) (λ at. child_nodes f at p.0) depth p.0 p.1) (places_nodes ps (count_at f) (child_nodes f) depth)
    ∙ ap (λ s. run s (places_nodes ps (count_at f) (child_nodes f) depth))
    (place-runs (count_at f p.0) f p.0 p.1 refl (runs p.0 p.1 (next_in (λ q. sort_at c q.0 ≡ Some q.1) (positions c) n p ps (places_found c) row)) depth (demanded_by v p.1) e (Of place v p ps ∷ frames) out (demands n p ps row) refl
    ∙ deliver-of given place v p ps frames (out ++ here)
    ∙ ap (λ (gs : List Given). opened place (record { ctor = c; demanded = d; given = gs }) ps frames (out ++ here)) (sym (places_give-append x f done (p ∷ []) []))
    ∙ ap (λ qs. opened place (after c d x f qs) ps frames (out ++ here)) (sym more.0))
    ∙ places-run c d x f runs demands (suc n) ps more.1 place depth frames (out ++ here)
    ∙ ap (λ ts. deliver (given_of whole) frames (add_at (added_of whole) ((out ++ here) ++ marked_places x (count_at f) (marked_children f) (judged_in f) depth ps ts) place))
    (ap (λ qs. types_at x (judged_in f) qs []) more.0 ∙ types_at-append x f done (p ∷ []) [])
    ∙ ap (λ ms. deliver (given_of whole) frames (add_at (added_of whole) ms place)) (append_assoc out here later)

-- ---- what an open vertex knows

no_more : (n : ℕ) (p : Position × Sort) (ps : List (Position × Sort)) → drop n [] ≡ p ∷ ps → ⊥
no_more zero p ps e = cc
no_more (suc n) p ps e = cc

-- What a vertex binds is known where a child is judged in whose scope it stands.
inside_known : (c : Ctor) (x : Expression) (f : Forest) (scope : Scope) (n : ℕ) (p : Position × Sort) (ps : List (Position × Sort)) → drop n (positions c) ≡ p ∷ ps → p.1 ≡ Exp
    → scope_next c (bound_by c (places_give x f (take n (positions c)) [])) scope (types_at x (judged_in f) (take n (positions c)) [])
    ≡ scope_next c (bound_in c f) scope (types_at x (judged_in f) (take n (positions c)) [])
inside_known ctor.Lam x f scope zero p ps row exp = absurd cc
inside_known ctor.Lam x f scope (suc zero) p ps row exp = absurd cc
inside_known ctor.Lam x f scope (suc (suc zero)) p ps row exp = refl
inside_known ctor.Lam x f scope (suc (suc (suc n))) p ps row exp = absurd (no_more n p ps row)
inside_known ctor.Let x f scope zero p ps row exp = refl
inside_known ctor.Let x f scope (suc zero) p ps row exp = refl
inside_known ctor.Let x f scope (suc (suc zero)) p ps row exp = refl
inside_known ctor.Let x f scope (suc (suc (suc n))) p ps row exp = absurd (no_more n p ps row)
inside_known ctor.Case x f scope zero p ps row exp = refl
inside_known ctor.Case x f scope (suc zero) p ps row exp = absurd cc
inside_known ctor.Case x f scope (suc (suc zero)) p ps row exp = refl
inside_known ctor.Case x f scope (suc (suc (suc zero))) p ps row exp = absurd cc
inside_known ctor.Case x f scope (suc (suc (suc (suc zero)))) p ps row exp = refl
inside_known ctor.Case x f scope (suc (suc (suc (suc (suc n))))) p ps row exp = absurd (no_more n p ps row)
inside_known _ x f scope n p ps row exp = refl

-- at the end each vertex knows what it binds, as far as it counts
settled_known : (c : Ctor) (x : Expression) (f : Forest) (scope : Scope) (w : Wanted) (ts : List Typ) → settled_as w c scope (bound_by c (places_give x f (positions c) [])) ts ≡ settled_as w c scope (bound_in c f) ts
settled_known ctor.Lam x f scope w ts = refl
settled_known _ x f scope Synthesise ts = refl
settled_known _ x f scope (Analyse t) ts = refl

-- and the type that it is
pub made_known : (c : Ctor) (x : Expression) (f : Forest) → made_of c (places_give x f (positions c) []) ≡ tree_type c f
made_known ctor.Root x f = refl
made_known _ x f = refl

-- the types of the expressions so far
before_known : (c : Ctor) (d : Demanded) (x : Expression) (f : Forest) (n : ℕ) → before_of (after c d x f (take n (positions c))) ≡ types_at x (judged_in f) (take n (positions c)) []
before_known c d x f n =
    ap (λ qs. types_given qs (places_give x f (take n (positions c)) [])) (sym (take-append-drop n (positions c))) ∙ given_types x f (take n (positions c)) (drop n (positions c)) []

all_known : (c : Ctor) (d : Demanded) (x : Expression) (f : Forest) → before_of (after c d x f (positions c)) ≡ types_at x (judged_in f) (positions c) []
all_known c d x f = ap (λ qs. types_given qs (places_give x f (positions c) [])) (sym (append-nil (positions c))) ∙ given_types x f (positions c) [] []

-- an expression, or the root, demands of its child what is demanded there
demands_known : (c : Ctor) (e : Demanded) (f : Forest) (n : ℕ) (p : Position × Sort) (ps : List (Position × Sort)) → drop n (positions c) ≡ p ∷ ps → p.1 ≡ Exp
    → demand (expression_of (after c e (expression c e.scope e.wanted f) f (take n (positions c)))) (before_of (after c e (expression c e.scope e.wanted f) f (take n (positions c))))
    ≡ demand (expression c e.scope e.wanted f) (types_at (expression c e.scope e.wanted f) (judged_in f) (take n (positions c)) [])
demands_known c e f n p ps row exp =
    let x : Expression = expression c e.scope e.wanted f in
    ap (demand (expression_of (after c e x f (take n (positions c))))) (before_known c e x f n)
    ∙ ap (λ (scope : Scope). record { scope = scope; wanted = wanted_next c e.wanted (types_at x (judged_in f) (take n (positions c)) []) }) (inside_known c x f e.scope n p ps row exp)

-- a vertex has a child that is an expression only where it is an expression or the root, so that what is demanded of it counts
counts : (c : Ctor) (d e : Demanded) (n : ℕ) (p : Position × Sort) (ps : List (Position × Sort)) → Agree (sort_of_ctor c) d e → drop n (positions c) ≡ p ∷ ps → p.1 ≡ Exp → d ≡ e
counts c d e n p ps same row exp = by_sort (sort_of_ctor c) refl same where
  no_expression : AllByRecursion (λ q. is_exp q.1 ≡ false) (positions c) → d ≡ e
  no_expression all = absurd (both_ways _ (next_in (λ q. is_exp q.1 ≡ false) (positions c) n p ps all row) (ap is_exp exp))

  by_sort : (s : Sort) → sort_of_ctor c ≡ s → Agree s d e → d ≡ e
  by_sort Exp is same = same
  by_sort Top is same = same
  by_sort Pat is same = no_expression (pattern_judges_none c is)
  by_sort TypeSort is same = no_expression (type_judges_none c is)

pub all_demand : (c : Ctor) (d e : Demanded) (f : Forest) → Agree (sort_of_ctor c) d e → Demands c d (expression c e.scope e.wanted f) f
all_demand c d e f same n p ps row = by_sort p.1 refl where
  x : Expression
  x = expression c e.scope e.wanted f

  by_sort : (s : Sort) → p.1 ≡ s → Agree s (demanded_by (after c d x f (take n (positions c))) s) (demand x (types_at x (judged_in f) (take n (positions c)) []))
  by_sort Exp is =
      ap (λ (y : Demanded). demand (expression_of (after c y x f (take n (positions c)))) (before_of (after c y x f (take n (positions c))))) (counts c d e n p ps same row is)
      ∙ demands_known c e f n p ps row is
  by_sort Top is = absurd (next_in (λ q. q.1 ≡ Top → ⊥) (positions c) n p ps (no_top_in c) row is)
  by_sort Pat is = tt
  by_sort TypeSort is = tt

pub settled_whole : (c : Ctor) (e : Demanded) (f : Forest) → settled (expression_of (after c e (expression c e.scope e.wanted f) f (positions c))) (before_of (after c e (expression c e.scope e.wanted f) f (positions c)))
    ≡ settled (expression c e.scope e.wanted f) (children_types (expression c e.scope e.wanted f) f)
settled_whole c e f =
    let x : Expression = expression c e.scope e.wanted f in
    ap (settled (expression_of (after c e x f (positions c)))) (all_known c e x f) ∙ settled_known c x f e.scope e.wanted (types_at x (judged_in f) (positions c) [])

-- so each vertex gives what its tree gives, and its node is marked as that of the tree
pub gives_whole : (c : Ctor) (s : Sort) (d e : Demanded) (f : Forest) → Agree s d e → given_by_sort s (after c d (expression c e.scope e.wanted f) f (positions c)) ≡ given_tree s c e f
gives_whole c Exp d e f same =
    ap (λ (y : Demanded). given_by_sort Exp (after c y (expression c e.scope e.wanted f) f (positions c))) same ∙ ap (λ (m : Marked). of_type m.typ) (settled_whole c e f)
gives_whole c TypeSort d e f same = ap of_type (made_known c (expression c e.scope e.wanted f) f)
gives_whole c Pat d e f same = refl
gives_whole c Top d e f same = refl

adds_whole : (c : Ctor) (s : Sort) (d e : Demanded) (f : Forest) (n : Node) → Agree s d e
    → with_added (added_by_sort s (after c d (expression c e.scope e.wanted f) f (positions c))) n ≡ marked_vertex s (expression c e.scope e.wanted f) f n
adds_whole c Exp d e f n same =
    ap (λ (y : Demanded). with_added (added_by_sort Exp (after c y (expression c e.scope e.wanted f) f (positions c))) n) same ∙ ap (λ (m : Marked). with_added (expression_added e.wanted m) n) (settled_whole c e f)
adds_whole c TypeSort d e f n same = ap (λ t. with_added (type_added t) n) (made_known c (expression c e.scope e.wanted f) f)
adds_whole c Pat d e f n same = refl
adds_whole c Top d e f n same = refl

-- ---- a tree

tree-runs : (u : VertexOf) (n : Node) (f : Forest) → n.what ≡ Vertex u → AllRun u.ctor f → (depth : ℕ) (d e : Demanded) (frames : List Frame) (out : List MarkedNode)
    → Agree (sort_of_ctor u.ctor) d e → demanded_next frames ≡ d
    → run (at frames out) (n ∷ nodes_under u f depth)
    ≡ deliver (given_tree (sort_of_ctor u.ctor) u.ctor e f) frames
    (out ++ (marked_vertex (sort_of_ctor u.ctor) (expression u.ctor e.scope e.wanted f) f n ∷ marked_places (expression u.ctor e.scope e.wanted f) (count_at f) (marked_children f) (judged_in f) depth (positions u.ctor) []))
tree-runs u n f what runs depth d e frames out same next =
    let c : Ctor = u.ctor in
    let x : Expression = expression c e.scope e.wanted f in
    let whole : Opened = after c d x f (positions c) in
    let later : List MarkedNode = marked_places x (count_at f) (marked_children f) (judged_in f) depth (positions c) [] in
    ap (λ w. run (taken w n (demanded_next frames) frames out) (nodes_under u f depth)) what
    ∙ ap (λ (y : Demanded). run (opened (length out) (fresh c y) (positions c) frames (out ++ unsettled n ∷ [])) (nodes_under u f depth)) next
    ∙ places-run c d x f runs (all_demand c d e f same) 0 (positions c) refl (length out) depth frames (out ++ unsettled n ∷ [])
    ∙ ap (λ ms. deliver (given_of whole) frames (add_at (added_of whole) ms (length out))) (append_assoc out (unsettled n ∷ []) later)
    ∙ ap (λ ms. deliver (given_of whole) frames ms) (add-seam out n later (added_of whole))
    ∙ ap (λ g. deliver g frames (out ++ with_added (added_of whole) n ∷ later)) (gives_whole c (sort_of_ctor c) d e f same)
    ∙ ap (λ m. deliver (given_tree (sort_of_ctor c) c e f) frames (out ++ m ∷ later)) (adds_whole c (sort_of_ctor c) d e f n same)

-- ---- the children at a position, child by child

-- the first child stands elsewhere
record Skips (f rest : Forest) (p : Position) : Type 0 where
  pub count : count_at f p ≡ count_at rest p
  pub nodes : (depth : ℕ) → child_nodes f depth p ≡ child_nodes rest depth p
  pub marked : (depth : ℕ) (d : Demanded) → marked_children f depth p d ≡ marked_children rest depth p d
  pub given : (s : Sort) (d : Demanded) → given_at s 1 f p d ≡ given_at s 1 rest p d

-- the first child stands there, with these nodes, and gives this
record Begins (f rest : Forest) (p : Position) (own : ℕ → List Node) (marks : ℕ → Demanded → List MarkedNode) (gives : Sort → Demanded → Given) : Type 0 where
  pub count : count_at f p ≡ suc (count_at rest p)
  pub nodes : (depth : ℕ) → child_nodes f depth p ≡ own depth ++ child_nodes rest depth p
  pub marked : (depth : ℕ) (d : Demanded) → marked_children f depth p d ≡ marks depth d ++ marked_children rest depth p d
  pub given : count_at rest p ≡ 0 → (s : Sort) (d : Demanded) → given_at s 1 f p d ≡ gives s d

skips-multi : (e : Edge) (rest : Forest) (p : Position) → is_same_position e.position p ≡ false → Skips (multi_ref e rest) rest p
skips-multi e rest p other = record {
  count = ap (λ b. cond b (suc (count_at rest p)) (count_at rest p)) other;
  nodes = λ depth. ap (λ b. cond b (child_node depth p e (MultiRef e.target) ∷ child_nodes rest depth p) (child_nodes rest depth p)) other;
  marked = λ depth d. ap (λ b. cond b (marked_plain (sort_of_ctor e.target.ctor) d.wanted (child_node depth p e (MultiRef e.target)) ∷ marked_children rest depth p d) (marked_children rest depth p d)) other;
  given = gives;
} where
  gives : (s : Sort) (d : Demanded) → given_at s 1 (multi_ref e rest) p d ≡ given_at s 1 rest p d
  gives Exp d = refl
  gives TypeSort d = refl
  gives Pat d = refl
  gives Top d = refl

skips-cycle : (e : Edge) (rest : Forest) (p : Position) → is_same_position e.position p ≡ false → Skips (cycle_ref e rest) rest p
skips-cycle e rest p other = record {
  count = ap (λ b. cond b (suc (count_at rest p)) (count_at rest p)) other;
  nodes = λ depth. ap (λ b. cond b (child_node depth p e (CycleRef e.target) ∷ child_nodes rest depth p) (child_nodes rest depth p)) other;
  marked = λ depth d. ap (λ b. cond b (marked_plain (sort_of_ctor e.target.ctor) d.wanted (child_node depth p e (CycleRef e.target)) ∷ marked_children rest depth p d) (marked_children rest depth p d)) other;
  given = gives;
} where
  gives : (s : Sort) (d : Demanded) → given_at s 1 (cycle_ref e rest) p d ≡ given_at s 1 rest p d
  gives Exp d = refl
  gives TypeSort d = refl
  gives Pat d = refl
  gives Top d = refl

-- the marked nodes of the tree under an edge
abbrev pub tree_marks : Position → Edge → Forest → ℕ → Demanded → List MarkedNode
tree_marks p e below depth d =
    marked_vertex (sort_of_ctor e.target.ctor) (expression e.target.ctor d.scope d.wanted below) below (child_node depth p e (Vertex e.target))
    ∷ marked_places (expression e.target.ctor d.scope d.wanted below) (count_at below) (marked_children below) (judged_in below) (depth + 1) (positions e.target.ctor) []

abbrev pub tree_list : Position → Edge → Forest → ℕ → List Node
tree_list p e below depth = child_node depth p e (Vertex e.target) ∷ nodes_under e.target below (depth + 1)

skips-tree : (e : Edge) (below rest : Forest) (p : Position) → is_same_position e.position p ≡ false → Skips (tree e below rest) rest p
skips-tree e below rest p other = record {
  count = ap (λ b. cond b (suc (count_at rest p)) (count_at rest p)) other;
  nodes = λ depth. ap (λ b. cond b (tree_list p e below depth ++ child_nodes rest depth p) (child_nodes rest depth p)) other;
  marked = λ depth d. ap (λ b. cond b (tree_marks p e below depth d ++ marked_children rest depth p d) (marked_children rest depth p d)) other;
  given = gives;
} where
  gives : (s : Sort) (d : Demanded) → given_at s 1 (tree e below rest) p d ≡ given_at s 1 rest p d
  gives Exp d = ap (λ b. of_type (cond b (given_tree Exp e.target.ctor d below).typ (judged_child rest p d))) other
  gives TypeSort d = ap (λ b. of_type (cond b (tree_type e.target.ctor below) (child_type rest p))) other
  gives Pat d = ap (λ b. of_name (cond b (pattern_name e.target.ctor) (child_name rest p))) other
  gives Top d = refl

-- ---- where no child stands at a position

record IsNone (f : Forest) (p : Position) : Type 0 where
  pub nodes : (depth : ℕ) → child_nodes f depth p ≡ []
  pub marked : (depth : ℕ) (d : Demanded) → marked_children f depth p d ≡ []
  pub given : (s : Sort) (d : Demanded) → given_at s 1 f p d ≡ nothing

none-skips : (f rest : Forest) (p : Position) → Skips f rest p → IsNone rest p → IsNone f p
none-skips f rest p skips later = record {
  nodes = λ depth. skips.nodes depth ∙ later.nodes depth;
  marked = λ depth d. skips.marked depth d ∙ later.marked depth d;
  given = λ s d. skips.given s d ∙ later.given s d;
}

-- a child at the position is one
none-here : (f rest : Forest) (p : Position) (b : Bool) → count_at f p ≡ cond b (suc (count_at rest p)) (count_at rest p) → count_at f p ≡ 0 → (b ≡ false → Skips f rest p) → (count_at rest p ≡ 0 → IsNone rest p) → IsNone f p
none-here f rest p true count zero_children skips later = absurd (omega (arith, count, zero_children))
none-here f rest p false count zero_children skips later = none-skips f rest p (skips refl) (later (sym count ∙ zero_children))

is-none : (f : Forest) (p : Position) → count_at f p ≡ 0 → IsNone f p
is-none none p zero_children = record { nodes = λ depth. refl; marked = λ depth d. refl; given = no_given } where
  no_given : (s : Sort) (d : Demanded) → given_at s 1 none p d ≡ nothing
  no_given Exp d = refl
  no_given TypeSort d = refl
  no_given Pat d = refl
  no_given Top d = refl
is-none (multi_ref e rest) p zero_children = none-here (multi_ref e rest) rest p (is_same_position e.position p) refl zero_children (skips-multi e rest p) (is-none rest p)
is-none (cycle_ref e rest) p zero_children = none-here (cycle_ref e rest) rest p (is_same_position e.position p) refl zero_children (skips-cycle e rest p) (is-none rest p)
is-none (tree e below rest) p zero_children = none-here (tree e below rest) rest p (is_same_position e.position p) refl zero_children (skips-tree e below rest p) (is-none rest p)

-- ---- the first child at a position

begins-multi : (e : Edge) (rest : Forest) (p : Position) → is_same_position e.position p ≡ true
    → Begins (multi_ref e rest) rest p (λ depth. child_node depth p e (MultiRef e.target) ∷ []) (λ depth d. marked_plain (sort_of_ctor e.target.ctor) d.wanted (child_node depth p e (MultiRef e.target)) ∷ []) (λ s d. nothing)
begins-multi e rest p here = record {
  count = ap (λ b. cond b (suc (count_at rest p)) (count_at rest p)) here;
  nodes = λ depth. ap (λ b. cond b (child_node depth p e (MultiRef e.target) ∷ child_nodes rest depth p) (child_nodes rest depth p)) here;
  marked = λ depth d. ap (λ b. cond b (marked_plain (sort_of_ctor e.target.ctor) d.wanted (child_node depth p e (MultiRef e.target)) ∷ marked_children rest depth p d) (marked_children rest depth p d)) here;
  given = gives;
} where
  gives : count_at rest p ≡ 0 → (s : Sort) (d : Demanded) → given_at s 1 (multi_ref e rest) p d ≡ nothing
  gives empty Exp d = (is-none rest p empty).given Exp d
  gives empty TypeSort d = (is-none rest p empty).given TypeSort d
  gives empty Pat d = (is-none rest p empty).given Pat d
  gives empty Top d = refl

begins-cycle : (e : Edge) (rest : Forest) (p : Position) → is_same_position e.position p ≡ true
    → Begins (cycle_ref e rest) rest p (λ depth. child_node depth p e (CycleRef e.target) ∷ []) (λ depth d. marked_plain (sort_of_ctor e.target.ctor) d.wanted (child_node depth p e (CycleRef e.target)) ∷ []) (λ s d. nothing)
begins-cycle e rest p here = record {
  count = ap (λ b. cond b (suc (count_at rest p)) (count_at rest p)) here;
  nodes = λ depth. ap (λ b. cond b (child_node depth p e (CycleRef e.target) ∷ child_nodes rest depth p) (child_nodes rest depth p)) here;
  marked = λ depth d. ap (λ b. cond b (marked_plain (sort_of_ctor e.target.ctor) d.wanted (child_node depth p e (CycleRef e.target)) ∷ marked_children rest depth p d) (marked_children rest depth p d)) here;
  given = gives;
} where
  gives : count_at rest p ≡ 0 → (s : Sort) (d : Demanded) → given_at s 1 (cycle_ref e rest) p d ≡ nothing
  gives empty Exp d = (is-none rest p empty).given Exp d
  gives empty TypeSort d = (is-none rest p empty).given TypeSort d
  gives empty Pat d = (is-none rest p empty).given Pat d
  gives empty Top d = refl

begins-tree : (e : Edge) (below rest : Forest) (p : Position) → is_same_position e.position p ≡ true
    → Begins (tree e below rest) rest p (tree_list p e below) (tree_marks p e below) (λ s d. given_tree s e.target.ctor d below)
begins-tree e below rest p here = record {
  count = ap (λ b. cond b (suc (count_at rest p)) (count_at rest p)) here;
  nodes = λ depth. ap (λ b. cond b (tree_list p e below depth ++ child_nodes rest depth p) (child_nodes rest depth p)) here;
  marked = λ depth d. ap (λ b. cond b (tree_marks p e below depth d ++ marked_children rest depth p d) (marked_children rest depth p d)) here;
  given = gives;
} where
  gives : count_at rest p ≡ 0 → (s : Sort) (d : Demanded) → given_at s 1 (tree e below rest) p d ≡ given_tree s e.target.ctor d below
  gives empty Exp d = ap (λ b. of_type (cond b (given_tree Exp e.target.ctor d below).typ (judged_child rest p d))) here
  gives empty TypeSort d = ap (λ b. of_type (cond b (tree_type e.target.ctor below) (child_type rest p))) here
  gives empty Pat d = ap (λ b. of_name (cond b (pattern_name e.target.ctor) (child_name rest p))) here
  gives empty Top d = refl

-- ---- they are run

abbrev pub ChildRuns : Sort → (ℕ → List Node) → (ℕ → Demanded → List MarkedNode) → (Sort → Demanded → Given) → Type 0
ChildRuns s nodes marks gives = (depth : ℕ) (d e : Demanded) (frames : List Frame) (out : List MarkedNode) → Agree s d e → demanded_next frames ≡ d
    → run (at frames out) (nodes depth) ≡ deliver (gives s e) frames (out ++ marks depth e)

run-skips : (f rest : Forest) (p : Position) (s : Sort) → Skips f rest p → Run rest p s → Run f p s
run-skips f rest p s skips later = record {
  sole = λ depth d e frames out same next one.
      ap (run (at frames out)) (skips.nodes depth)
      ∙ later.sole depth d e frames out same next (sym skips.count ∙ one)
      ∙ ap (λ g. deliver g frames (out ++ marked_children rest depth p e)) (sym (skips.given s e))
      ∙ ap (λ ms. deliver (given_at s 1 f p e) frames (out ++ ms)) (sym (skips.marked depth e));
  several = λ depth d e frames out n same.
      ap (λ k. run (counted (k + n) d frames out) (child_nodes f depth p)) skips.count
      ∙ ap (run (counted (count_at rest p + n) d frames out)) (skips.nodes depth)
      ∙ later.several depth d e frames out n same
      ∙ ap (λ ms. counted n d frames (out ++ ms)) (sym (skips.marked depth e));
}

run-begins : (f rest : Forest) (p : Position) (s : Sort) (nodes : ℕ → List Node) (marks : ℕ → Demanded → List MarkedNode) (gives : Sort → Demanded → Given)
    → Begins f rest p nodes marks gives → ChildRuns s nodes marks gives → Run rest p s → Run f p s
run-begins f rest p s nodes marks gives begins child later = record {
  sole = λ depth d e frames out same next one.
      let empty : count_at rest p ≡ 0 = omega (arith, begins.count, one) in
      let no : IsNone rest p = is-none rest p empty in
      ap (run (at frames out)) (begins.nodes depth ∙ ap (λ ns. nodes depth ++ ns) (no.nodes depth) ∙ append-nil (nodes depth))
      ∙ child depth d e frames out same next
      ∙ ap (λ g. deliver g frames (out ++ marks depth e)) (sym (begins.given empty s e))
      ∙ ap (λ ms. deliver (given_at s 1 f p e) frames (out ++ ms)) (sym (begins.marked depth e ∙ ap (λ ms. marks depth e ++ ms) (no.marked depth e) ∙ append-nil (marks depth e)));
  several = λ depth d e frames out n same.
      let one_more : count_at f p + n ≡ suc (count_at rest p + n) = omega (arith, begins.count) in
      ap (λ k. run (counted k d frames out) (child_nodes f depth p)) one_more
      ∙ ap (run (at (Several d (suc (count_at rest p + n)) ∷ frames) out)) (begins.nodes depth)
      ∙ run-append (at (Several d (suc (count_at rest p + n)) ∷ frames) out) (nodes depth) (child_nodes rest depth p)
      ∙ ap (λ st. run st (child_nodes rest depth p)) (child depth d e (Several d (suc (count_at rest p + n)) ∷ frames) out same refl ∙ deliver-several (gives s e) (count_at rest p + n) d frames (out ++ marks depth e))
      ∙ later.several depth d e frames (out ++ marks depth e) n same
      ∙ ap (λ ms. counted n d frames ms) (append_assoc out (marks depth e) (marked_children rest depth p e) ∙ ap (λ ms. out ++ ms) (sym (begins.marked depth e)));
}

reference-runs : (s : Sort) (nodes : ℕ → Node) → ((depth : ℕ) (d : Demanded) (frames : List Frame) (out : List MarkedNode) → demanded_next frames ≡ d
    → step (at frames out) (nodes depth) ≡ deliver nothing frames (out ++ marked_plain s d.wanted (nodes depth) ∷ []))
    → ChildRuns s (λ depth. nodes depth ∷ []) (λ depth d. marked_plain s d.wanted (nodes depth) ∷ []) (λ t d. nothing)
reference-runs s nodes steps depth d e frames out same next =
    steps depth d frames out next ∙ ap (λ m. deliver nothing frames (out ++ m ∷ [])) (plain-agrees s d e (nodes depth) same)

tree-child : (p : Position) (e : Edge) (below : Forest) → AllRun e.target.ctor below → ChildRuns (sort_of_ctor e.target.ctor) (tree_list p e below) (tree_marks p e below) (λ s d. given_tree s e.target.ctor d below)
tree-child p e below runs depth d x frames out same next = tree-runs e.target (child_node depth p e (Vertex e.target)) below refl runs (depth + 1) d x frames out same next

-- ---- all of them

run-either : (f rest : Forest) (p : Position) (s : Sort) (b : Bool) → (b ≡ false → Skips f rest p) → (b ≡ true → Run f p s) → Run rest p s → Run f p s
run-either f rest p s true skips begins later = begins refl
run-either f rest p s false skips begins later = run-skips f rest p s (skips refl) later

children-run : (v : VertexOf) (f : Forest) → IsWellSorted v f → (p : Position) (s : Sort) → sort_at v.ctor p ≡ Some s → Run f p s
children-run v none sorted p s known = record {
  sole = λ depth d e frames out same next one. absurd (zero-one one);
  several = λ depth d e frames out n same.
      let alone : count_at none p + n ≡ n = omega arith in
      ap (λ k. counted k d frames out) alone ∙ ap (λ ms. counted n d frames ms) (sym (append-nil out));
} where
  zero-one : count_at none p ≡ 1 → ⊥
  zero-one h = omega arith
children-run v (multi_ref e rest) sorted p s known =
    run-either (multi_ref e rest) rest p s (is_same_position e.position p) (skips-multi e rest p)
    (λ here. run-begins (multi_ref e rest) rest p s (λ depth. child_node depth p e (MultiRef e.target) ∷ []) (λ depth d. marked_plain (sort_of_ctor e.target.ctor) d.wanted (child_node depth p e (MultiRef e.target)) ∷ []) (λ t d. nothing)
    (begins-multi e rest p here)
    (subst (λ (t : Sort). ChildRuns t (λ depth. child_node depth p e (MultiRef e.target) ∷ []) (λ depth d. marked_plain (sort_of_ctor e.target.ctor) d.wanted (child_node depth p e (MultiRef e.target)) ∷ []) (λ t d. nothing))
    (child_has_sort v e (child_edges rest) p s sorted.0 here known)
    (reference-runs (sort_of_ctor e.target.ctor) (λ depth. child_node depth p e (MultiRef e.target))
    (λ depth d frames out next. ap (λ (x : Demanded). deliver nothing frames (out ++ marked_plain (sort_of_ctor e.target.ctor) x.wanted (child_node depth p e (MultiRef e.target)) ∷ [])) next)))
    (children-run v rest sorted.1 p s known))
    (children-run v rest sorted.1 p s known)
children-run v (cycle_ref e rest) sorted p s known =
    run-either (cycle_ref e rest) rest p s (is_same_position e.position p) (skips-cycle e rest p)
    (λ here. run-begins (cycle_ref e rest) rest p s (λ depth. child_node depth p e (CycleRef e.target) ∷ []) (λ depth d. marked_plain (sort_of_ctor e.target.ctor) d.wanted (child_node depth p e (CycleRef e.target)) ∷ []) (λ t d. nothing)
    (begins-cycle e rest p here)
    (subst (λ (t : Sort). ChildRuns t (λ depth. child_node depth p e (CycleRef e.target) ∷ []) (λ depth d. marked_plain (sort_of_ctor e.target.ctor) d.wanted (child_node depth p e (CycleRef e.target)) ∷ []) (λ t d. nothing))
    (child_has_sort v e (child_edges rest) p s sorted.0 here known)
    (reference-runs (sort_of_ctor e.target.ctor) (λ depth. child_node depth p e (CycleRef e.target))
    (λ depth d frames out next. ap (λ (x : Demanded). deliver nothing frames (out ++ marked_plain (sort_of_ctor e.target.ctor) x.wanted (child_node depth p e (CycleRef e.target)) ∷ [])) next)))
    (children-run v rest sorted.1 p s known))
    (children-run v rest sorted.1 p s known)
children-run v (tree e below rest) sorted p s known =
    run-either (tree e below rest) rest p s (is_same_position e.position p) (skips-tree e below rest p)
    (λ here. run-begins (tree e below rest) rest p s (tree_list p e below) (tree_marks p e below) (λ t d. given_tree t e.target.ctor d below)
    (begins-tree e below rest p here)
    (subst (λ (t : Sort). ChildRuns t (tree_list p e below) (tree_marks p e below) (λ t d. given_tree t e.target.ctor d below))
    (child_has_sort v e (child_edges rest) p s sorted.0 here known)
    (tree-child p e below (λ q t at. children-run e.target below sorted.1 q t at)))
    (children-run v rest sorted.2 p s known))
    (children-run v rest sorted.2 p s known)

-- what is demanded of the head
abbrev pub by_nothing : Demanded
by_nothing = demanded_next []

agrees-itself : (s : Sort) (d : Demanded) → Agree s d d
agrees-itself Exp d = refl
agrees-itself Top d = refl
agrees-itself Pat d = tt
agrees-itself TypeSort d = tt

-- the nodes of a well-sorted tree, one by one from nothing, give its marked nodes
pub tree_marked : (v : VertexOf) (f : Forest) → IsWellSorted v f → run (at [] []) (tree_nodes v f) ≡ at [] (marked_tree v f)
tree_marked v f sorted =
    tree-runs v (head_node v) f refl (λ p s known. children-run v f sorted p s known) 1 by_nothing by_nothing [] [] (agrees-itself (sort_of_ctor v.ctor) by_nothing) refl
