-- The roots of cycles stay where the target of an edit is on no cycle before it and on none after it, and else some root does not.
use Rattle.std.proofs.Common.{◌≡◌, suc, ◌+◌, ◌-◌, Bool, true, false, cond, List, [], ◌∷◌, ◌++◌, length, filter, refl, sym, ap, subst, ◌∙◌, arith}
use Rattle.std.specs.Prelude.{◌&&◌, Option, Some, None}
use Rattle.std.proofs.lemmas.Bool.{and_parts, or_left, or_right}
use Rattle.grove_edits.specs.declared.vertex.Vertex.{Vertex}
use Rattle.grove_edits.specs.declared.edge.Edge.{Edge}
use Rattle.graph_words.specs.declared.class.Class.TheVariants.{Inner}
use Rattle.graph_words.specs.Live.{parents_of}
use Rattle.grove_edits.specs.Vertex.{is_same_vertex, stands_in}
use Rattle.graph_words.specs.Walk.{only_source, above, above_last, GoesOn, walk}
use Rattle.graph_words.specs.Class.{is_vertex_of, is_least, is_cycle_root, class_by}
use Rattle.grove_edits.proofs.Vertices.{same_vertex_exact, same_vertex_itself}
use Rattle.graph_words.proofs.Endings.{walk_is, walk_is_one}
use Rattle.graph_words.proofs.Up.{up, next_above, walk_len}
use Rattle.graph_words.proofs.Tops.{HasTop, has_top}
use Rattle.graph_words.specs.Cycle.{is_on_cycle, leads_to}
use Rattle.graph_words.proofs.Cycles.{Reaches, up_through, leads_from_reaches, reaches_from_leads, back_from_cycle, cycle_from_back, leads_back, returns, never_none, back_from_return}
use Rattle.kept_records.specs.Change.{HasOneMore, Changes, same, comes, goes, CyclesStay}
use Rattle.grove_sorts.proofs.Truths.{not_both as clash}
use Rattle.kept_records.proofs.Edits.{change_back, above_stays}

-- ---- walks over vertices above which the same stands

abbrev AlikeOn : List Edge → List Edge → List Vertex → Type 0
AlikeOn old new xs = (x : Vertex) → stands_in x xs ≡ true → above old x ≡ above new x

first_of : (x : Vertex) (xs : List Vertex) → stands_in x (x ∷ xs) ≡ true
first_of x xs = or_left (is_same_vertex x x) (stands_in x xs) (same_vertex_itself x)

alike_later : (old new : List Edge) (x : Vertex) (xs : List Vertex) → AlikeOn old new (x ∷ xs) → AlikeOn old new xs
alike_later old new x xs alike y stands = alike y (or_right (is_same_vertex x y) (stands_in y xs) stands)

goes_alike : (old new : List Edge) (passed : List Vertex) (o : Option Vertex) (xs : List Vertex) → GoesOn old passed o xs → AlikeOn old new xs → GoesOn new passed o xs
goes_alike old new passed o [] g alike = g
goes_alike old new passed o (x ∷ xs) g alike = (
  g.0,
  g.1,
  subst (λ (next : Option Vertex). GoesOn new (x ∷ passed) next xs) (alike x (first_of x xs))
      (goes_alike old new (x ∷ passed) (above old x) xs g.2 (alike_later old new x xs alike)),
)

last_alike : (old new : List Edge) (xs : List Vertex) → AlikeOn old new xs → above_last old xs ≡ above_last new xs
last_alike old new [] alike = refl
last_alike old new (x ∷ []) alike = alike x (first_of x [])
last_alike old new (x ∷ y ∷ xs) alike = last_alike old new (y ∷ xs) (alike_later old new x (y ∷ xs) alike)

walk_alike : (old new : List Edge) (v : Vertex) → AlikeOn old new (walk old v) → walk old v ≡ walk new v
walk_alike old new v alike = walk_is_one new v (walk old v) (goes_alike old new [] (Some v) (walk old v) (walk_is old v) alike)

root_alike : (old new : List Edge) (v : Vertex) → AlikeOn old new (walk old v) → is_cycle_root old v ≡ is_cycle_root new v
root_alike old new v alike =
    ap (λ o. is_vertex_of v o && is_least v (walk old v)) (last_alike old new (walk old v) alike)
    ∙ ap (λ xs. is_vertex_of v (above_last new xs) && is_least v xs) (walk_alike old new v alike)

-- ---- a vertex above the root of a cycle is on a cycle

above_root : (live : List Edge) (r t : Vertex) → is_cycle_root live r ≡ true → stands_in t (walk live r) ≡ true → is_on_cycle live t ≡ true
above_root live r t root stands =
    let parts = and_parts (is_vertex_of r (above_last live (walk live r))) (is_least r (walk live r)) root in
    let back = back_from_cycle live r parts.0 in
    let there : Reaches live r t = reaches_from_leads live r t stands in
    let again = leads_back live r t back there in
    let round : up live (again.0 + there.0) (Some t) ≡ Some t = up_through live t r again.0 there.0 (again.0 + there.0) again.2 refl ∙ there.1 in
    let pos = again.1 in
    let one : suc (again.0 + there.0 - 1) ≡ again.0 + there.0 = omega (arith, pos) in
    cycle_from_back live t (back_from_return live t (again.0 + there.0 - 1) (ap (λ n. up live n (Some t)) one ∙ round))

module _ (e : Edge) (old new : List Edge) (change : Changes e old new) where
  -- where the target stands above no root of a cycle, the same vertices stand above those that do
  alike_above : (r : Vertex) → is_cycle_root old r ≡ true → is_on_cycle old e.target ≡ false → AlikeOn old new (walk old r)
  alike_above r root off x stands = above_stays e old new change x (other (is_same_vertex e.target x) refl) where
    other : (b : Bool) → is_same_vertex e.target x ≡ b → is_same_vertex e.target x ≡ false
    other true one =
        absurd (clash (is_on_cycle old e.target) (above_root old r e.target root (ap (λ z. stands_in z (walk old r)) (same_vertex_exact e.target x one) ∙ stands)) off)
    other false differs = differs

  root_stays : (r : Vertex) → is_cycle_root old r ≡ true → is_on_cycle old e.target ≡ false → is_cycle_root new r ≡ true
  root_stays r root off = sym (root_alike old new r (alike_above r root off)) ∙ root

root_by : (ps : List Edge) (b : Bool) (x : Vertex) → only_source ps ≡ Some x → (class_by ps b ≡ Inner → ⊥) → b ≡ true
root_by [] b x is outer = absurd cc
root_by (p ∷ []) true x is outer = refl
root_by (p ∷ []) false x is outer = absurd (outer refl)
root_by (p ∷ q ∷ ps) b x is outer = absurd cc

pub cycles_stay : (e : Edge) (old new : List Edge) → Changes e old new → is_on_cycle old e.target ≡ false → is_on_cycle new e.target ≡ false → CyclesStay old new
cycles_stay e old new change off_old off_new v = by_tests (is_cycle_root old v) (is_cycle_root new v) refl refl where
  by_tests : (a b : Bool) → is_cycle_root old v ≡ a → is_cycle_root new v ≡ b → is_cycle_root old v ≡ is_cycle_root new v
  by_tests true b is_a is_b = is_a ∙ sym (root_stays e old new change v is_a off_old)
  by_tests false true is_a is_b = absurd (clash (is_cycle_root old v) (root_stays e new old (change_back e old new change) v is_b off_new) is_a)
  by_tests false false is_a is_b = is_a ∙ sym is_b

-- a vertex that nothing is above is on no cycle
pub headed_off_cycle : (live : List Edge) (v : Vertex) → above live v ≡ None → is_on_cycle live v ≡ false
headed_off_cycle live v ends = by_test (is_on_cycle live v) refl where
  by_test : (b : Bool) → is_on_cycle live v ≡ b → is_on_cycle live v ≡ false
  by_test true on = absurd (never_none live v (walk_len live v - 1) (returns live v (back_from_cycle live v on)) 1 ends)
  by_test false off = off

-- nor is one that stands below another alone, and not above it
pub off_cycle_by_source : (live : List Edge) (s v : Vertex) → ((w : Vertex) → above live v ≡ Some w → w ≡ s) → stands_in v (walk live s) ≡ false → is_on_cycle live v ≡ false
off_cycle_by_source live s v below off = by_test (is_on_cycle live v) (above live v) refl refl where
  by_test : (b : Bool) (o : Option Vertex) → is_on_cycle live v ≡ b → above live v ≡ o → is_on_cycle live v ≡ false
  by_test true None on up = absurd (never_none live v (walk_len live v - 1) (returns live v (back_from_cycle live v on)) 1 up)
  by_test true (Some w) on up =
      let there = leads_back live v s (back_from_cycle live v on) (1, up ∙ ap Some (below w up)) in
      absurd (clash (stands_in v (walk live s)) (leads_from_reaches live s v (there.0, there.2)) off)
  by_test false o off_cycle up = off_cycle

-- a walk that does not pass the target of the edge is the same in both graphs
pub walk_past : (e : Edge) (old new : List Edge) → Changes e old new → (v : Vertex) → stands_in e.target (walk old v) ≡ false → walk old v ≡ walk new v
walk_past e old new change v off = walk_alike old new v alike where
  other : (x : Vertex) → stands_in x (walk old v) ≡ true → (b : Bool) → is_same_vertex e.target x ≡ b → is_same_vertex e.target x ≡ false
  other x there true one = absurd (clash (stands_in e.target (walk old v)) (ap (λ z. stands_in z (walk old v)) (same_vertex_exact e.target x one) ∙ there) off)
  other x there false differs = differs

  alike : AlikeOn old new (walk old v)
  alike x there = above_stays e old new change x (other x there (is_same_vertex e.target x) refl)

-- where the target was on a cycle and is on none, the root of its cycle is one no more
pub cycle_ends : (e : Edge) (old new : List Edge) → Changes e old new → is_on_cycle old e.target ≡ true → is_on_cycle new e.target ≡ false → CyclesStay old new → ⊥
cycle_ends e old new change on off stay = by_above (above old t.top) refl where
  t : HasTop old e.target
  t = has_top old e.target

  back : up old (suc (walk_len old e.target - 1)) (Some e.target) ≡ Some e.target
  back = returns old e.target (back_from_cycle old e.target on)

  by_above : (o : Option Vertex) → above old t.top ≡ o → ⊥
  by_above None ends =
      never_none old e.target (walk_len old e.target - 1) back (suc t.steps) (ap (next_above old) t.at ∙ ends)
  by_above (Some x) goes_on =
      let root : is_cycle_root old t.top ≡ true = root_by (parents_of t.top old) (is_cycle_root old t.top) x goes_on t.heads in
      let still : is_cycle_root new t.top ≡ true = sym (stay t.top) ∙ root in
      let there = leads_back old e.target t.top (back_from_cycle old e.target on) (t.steps, t.at) in
      let stands : stands_in e.target (walk old t.top) ≡ true = leads_from_reaches old t.top e.target (there.0, there.2) in
      let same : walk new t.top ≡ walk old t.top = walk_alike new old t.top (alike_above e new old (change_back e old new change) t.top still off) in
      clash (is_on_cycle new e.target) (above_root new t.top e.target still (ap (stands_in e.target) same ∙ stands)) off

-- ---- no edit that changes the live edges leaves its target on cycles in both graphs

length_more : (p : Edge → Bool) (e : Edge) (xs ys : List Edge) → p e ≡ true → length (filter p (xs ++ e ∷ ys)) ≡ suc (length (filter p (xs ++ ys)))
length_more p e [] ys passes = ap (λ b. length (cond b (e ∷ filter p ys) (filter p ys))) passes
length_more p e (x ∷ xs) ys passes = by_test (p x) (length_more p e xs ys passes) where
  by_test : (b : Bool) → length (filter p (xs ++ e ∷ ys)) ≡ suc (length (filter p (xs ++ ys)))
      → length (cond b (x ∷ filter p (xs ++ e ∷ ys)) (filter p (xs ++ e ∷ ys))) ≡ suc (length (cond b (x ∷ filter p (xs ++ ys)) (filter p (xs ++ ys))))
  by_test true rest = omega (arith, rest)
  by_test false rest = rest

one_parent : (live : List Edge) (v : Vertex) → is_on_cycle live v ≡ true → length (parents_of v live) ≡ 1
one_parent live v on = by_parents (parents_of v live) refl where
  never : above live v ≡ None → ⊥
  never ends = never_none live v (walk_len live v - 1) (returns live v (back_from_cycle live v on)) 1 ends

  by_parents : (ps : List Edge) → parents_of v live ≡ ps → length ps ≡ 1
  by_parents [] are = absurd (never (ap only_source are))
  by_parents (p ∷ []) are = refl
  by_parents (p ∷ q ∷ ps) are = absurd (never (ap only_source are))

not_more : (e : Edge) (less more : List Edge) → HasOneMore e less more → is_on_cycle less e.target ≡ true → is_on_cycle more e.target ≡ true → ⊥
not_more e less more has on_less on_more =
    let a = one_parent less e.target on_less in
    let b = one_parent more e.target on_more in
    let c : length (parents_of e.target more) ≡ suc (length (parents_of e.target less)) =
    ap (λ es. length (parents_of e.target es)) has.with_it ∙ length_more (λ x. is_same_vertex x.target e.target) e has.before has.behind (same_vertex_itself e.target)
    ∙ ap (λ es. suc (length (parents_of e.target es))) (sym has.without) in
    omega (arith, a, b, c)

pub not_both : (e : Edge) (old new : List Edge) → Changes e old new → (old ≡ new → ⊥) → is_on_cycle old e.target ≡ true → is_on_cycle new e.target ≡ true → ⊥
not_both e old new (same is) differ on_old on_new = differ is
not_both e old new (comes has) differ on_old on_new = not_more e old new has on_old on_new
not_both e old new (goes has) differ on_old on_new = not_more e new old has on_new on_old

-- ---- a root that ends is that of the target's cycle

pub ended_root : (e : Edge) (old new : List Edge) → Changes e old new → (r : Vertex) → is_cycle_root old r ≡ true → is_cycle_root new r ≡ false → (is_on_cycle old e.target ≡ true) × (leads_to old e.target r ≡ true)
ended_root e old new change r root ended = by_test (stands_in e.target (walk old r)) refl where
  parts : (is_vertex_of r (above_last old (walk old r)) ≡ true) × (is_least r (walk old r) ≡ true)
  parts = and_parts (is_vertex_of r (above_last old (walk old r))) (is_least r (walk old r)) root

  by_test : (b : Bool) → stands_in e.target (walk old r) ≡ b → (is_on_cycle old e.target ≡ true) × (leads_to old e.target r ≡ true)
  by_test true stands =
      let back = leads_back old r e.target (back_from_cycle old r parts.0) (reaches_from_leads old r e.target stands) in
      (above_root old r e.target root stands, leads_from_reaches old e.target r (back.0, back.2))
  by_test false stands = absurd (clash (is_cycle_root new r) (sym (root_alike old new r alike) ∙ root) ended) where
    other : (x : Vertex) → stands_in x (walk old r) ≡ true → (b : Bool) → is_same_vertex e.target x ≡ b → is_same_vertex e.target x ≡ false
    other x there true one = absurd (clash (stands_in e.target (walk old r)) (ap (λ z. stands_in z (walk old r)) (same_vertex_exact e.target x one) ∙ there) stands)
    other x there false differs = differs

    alike : AlikeOn old new (walk old r)
    alike x there = above_stays e old new change x (other x there (is_same_vertex e.target x) refl)
