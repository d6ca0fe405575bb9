-- Which trees an edit concerns that makes or ends the root of a cycle: those of the root, of the edit's target and of its source.
use Rattle.std.proofs.Common.{◌≡◌, ◌⊎◌, inl, inr, ℕ, zero, suc, ◌-◌, ◌<◌, Bool, true, false, cond, List, [], ◌∷◌, ◌++◌, length, filter, refl, sym, ap, subst, ◌∙◌, arith}
use Rattle.std.specs.Prelude.{◌||◌, Option, Some, None}
use Rattle.std.specs.List.{AllByRecursion}
use Rattle.std.proofs.lemmas.Bool.{and_parts, or_right}
use Rattle.grove_edits.specs.declared.vertex.Vertex.{Vertex}
use Rattle.grove_edits.specs.declared.edge.Edge.{Edge}
use Rattle.grove_edits.specs.Edge.{IsWellFormed}
use Rattle.grove_edits.specs.Vertex.{is_same_vertex}
use Rattle.grove_edits.specs.Graph.{is_same_edge}
use Rattle.grove_edits.proofs.Vertices.{same_vertex_exact, same_vertex_itself}
use Rattle.grove_edits.proofs.Orders.{one_edge}
use Rattle.graph_words.specs.declared.class.Class.TheVariants.{Multi, Cycle, Inner}
use Rattle.graph_words.specs.Live.{holds_edge, parents_of}
use Rattle.graph_words.specs.Walk.{only_source, above, above_last, walk}
use Rattle.graph_words.specs.Class.{class, class_by, is_same_class, is_cycle_root, is_vertex_of, is_least}
use Rattle.graph_words.proofs.Up.{up, next_above, up-shift, walk_len}
use Rattle.graph_words.specs.Cycle.{is_on_cycle, leads_to}
use Rattle.graph_words.proofs.Cycles.{Reaches, reaches_from_leads, back_from_cycle, leads_back, returns, never_none, root_further, class_is_cycle}
use Rattle.kept_records.specs.Change.{HasOneMore, Changes, same, comes, goes, StandsIn, IsConcerned, is_target, is_root}
use Rattle.kept_records.proofs.Edits.{above_stays}
use Rattle.kept_records.proofs.Staying.{above_unless_multi}
use Rattle.mark_incremental.proofs.OneHead.{root_outer, one_head}
use Rattle.grove_sorts.proofs.Truths.{not_both}

same_source : (x y : Vertex) → Some x ≡ Some y → x ≡ y
same_source x y is = cc

-- ---- vertices on a cycle have one parent

pub on_above : (es : List Edge) (v : Vertex) → is_on_cycle es v ≡ true → (x : Vertex) × (above es v ≡ Some x)
on_above es v on = by (above es v) refl where
  by : (o : Option Vertex) → above es v ≡ o → (x : Vertex) × (above es v ≡ Some x)
  by None is = absurd (never_none es v (walk_len es v - 1) (returns es v (back_from_cycle es v on)) 1 is)
  by (Some x) is = (x, is)

root_on : (es : List Edge) (v : Vertex) → is_cycle_root es v ≡ true → is_on_cycle es v ≡ true
root_on es v root = (and_parts (is_vertex_of v (above_last es (walk es v))) (is_least v (walk es v)) root).0

pub root_by : (ps : List Edge) (b : Bool) (x : Vertex) → only_source ps ≡ Some x → (class_by ps b ≡ Inner → ⊥) → b ≡ true
root_by [] b x is outer = absurd cc
root_by (p ∷ []) true x is outer = refl
root_by (p ∷ []) false x is outer = absurd (outer refl)
root_by (p ∷ q ∷ ps) b x is outer = absurd cc

not_multi : (ps : List Edge) (b : Bool) (x : Vertex) → only_source ps ≡ Some x → class_by ps b ≡ Multi → ⊥
not_multi [] b x is multi = absurd cc
not_multi (p ∷ []) true x is multi = cc
not_multi (p ∷ []) false x is multi = cc
not_multi (p ∷ q ∷ ps) b x is multi = absurd cc

above_inner : (ps : List Edge) (b : Bool) → class_by ps b ≡ Inner → (x : Vertex) × (only_source ps ≡ Some x)
above_inner [] b is = absurd cc
above_inner (p ∷ []) b is = (p.source, refl)
above_inner (p ∷ q ∷ ps) b is = absurd cc

one_of : (ps : List Edge) (x : Vertex) → only_source ps ≡ Some x → length ps ≡ 1
one_of [] x is = absurd cc
one_of (p ∷ []) x is = refl
one_of (p ∷ q ∷ ps) x is = absurd cc

-- the one parent of a vertex is the source of each live edge to it
sole_source : (es : List Edge) (d : Edge) (x : Vertex) → holds_edge d es ≡ true → above es d.target ≡ Some x → above es d.target ≡ Some d.source
sole_source es d x held at = above_unless_multi es d held (not_multi (parents_of d.target es) (is_cycle_root es d.target) x at)

-- ---- the target has another number of parents

length_more : (p : Edge → Bool) (e : Edge) (xs ys : List Edge) → p e ≡ true → length (filter p (xs ++ e ∷ ys)) ≡ suc (length (filter p (xs ++ ys)))
length_more p e [] ys passes = ap (λ b. length (cond b (e ∷ filter p ys) (filter p ys))) passes
length_more p e (x ∷ xs) ys passes = by_test (p x) (length_more p e xs ys passes) where
  by_test : (b : Bool) → length (filter p (xs ++ e ∷ ys)) ≡ suc (length (filter p (xs ++ ys)))
      → length (cond b (x ∷ filter p (xs ++ e ∷ ys)) (filter p (xs ++ e ∷ ys))) ≡ suc (length (cond b (x ∷ filter p (xs ++ ys)) (filter p (xs ++ ys))))
  by_test true rest = omega (arith, rest)
  by_test false rest = rest

not_more : (e : Edge) (less more : List Edge) → HasOneMore e less more → (x y : Vertex) → above less e.target ≡ Some x → above more e.target ≡ Some y → ⊥
not_more e less more has x y in_less in_more =
    let a = one_of (parents_of e.target less) x in_less in
    let b = one_of (parents_of e.target more) y in_more in
    let c : length (parents_of e.target more) ≡ suc (length (parents_of e.target less)) =
    ap (λ es. length (parents_of e.target es)) has.with_it ∙ length_more (λ d. is_same_vertex d.target e.target) e has.before has.behind (same_vertex_itself e.target)
    ∙ ap (λ es. suc (length (parents_of e.target es))) (sym has.without) in
    omega (arith, a, b, c)

not_one_both : (e : Edge) (live there : List Edge) → Changes e live there → (live ≡ there → ⊥) → (x y : Vertex) → above live e.target ≡ Some x → above there e.target ≡ Some y → ⊥
not_one_both e live there (same is) differ x y a b = differ is
not_one_both e live there (comes has) differ x y a b = not_more e live there has x y a b
not_one_both e live there (goes has) differ x y a b = not_more e there live has y x b a

-- ---- an edge other than that of the edit stays

held_but : (d e : Edge) (xs ys : List Edge) → holds_edge d (xs ++ e ∷ ys) ≡ true → (d ≡ e) ⊎ (holds_edge d (xs ++ ys) ≡ true)
held_but d e [] ys held = by_test (is_same_edge e d) refl held where
  by_test : (b : Bool) → is_same_edge e d ≡ b → (b || holds_edge d ys) ≡ true → (d ≡ e) ⊎ (holds_edge d ys ≡ true)
  by_test true one rest = inl (sym (one_edge e d one))
  by_test false other rest = inr rest
held_but d e (x ∷ xs) ys held = by_test (is_same_edge x d) refl held (held_but d e xs ys) where
  by_rest : (b : Bool) → (d ≡ e) ⊎ (holds_edge d (xs ++ ys) ≡ true) → (d ≡ e) ⊎ ((b || holds_edge d (xs ++ ys)) ≡ true)
  by_rest b (inl one) = inl one
  by_rest b (inr rest) = inr (or_right b (holds_edge d (xs ++ ys)) rest)

  by_test : (b : Bool) → is_same_edge x d ≡ b → (b || holds_edge d (xs ++ e ∷ ys)) ≡ true → (holds_edge d (xs ++ e ∷ ys) ≡ true → (d ≡ e) ⊎ (holds_edge d (xs ++ ys) ≡ true))
      → (d ≡ e) ⊎ (holds_edge d ((x ∷ xs) ++ ys) ≡ true)
  by_test true one rest later = inr (ap (λ b. b || holds_edge d (xs ++ ys)) one)
  by_test false other rest later = by_rest (is_same_edge x d) (later rest)

held_with : (d e : Edge) (xs ys : List Edge) → holds_edge d (xs ++ ys) ≡ true → holds_edge d (xs ++ e ∷ ys) ≡ true
held_with d e [] ys held = or_right (is_same_edge e d) (holds_edge d ys) held
held_with d e (x ∷ xs) ys held = by_test (is_same_edge x d) held (held_with d e xs ys) where
  by_test : (b : Bool) → (b || holds_edge d (xs ++ ys)) ≡ true → (holds_edge d (xs ++ ys) ≡ true → holds_edge d (xs ++ e ∷ ys) ≡ true) → (b || holds_edge d (xs ++ e ∷ ys)) ≡ true
  by_test true rest later = refl
  by_test false rest later = later rest

stays_held : (d e : Edge) (live there : List Edge) → Changes e live there → holds_edge d live ≡ true → (d ≡ e) ⊎ (holds_edge d there ≡ true)
stays_held d e live there (same is) held = inr (ap (holds_edge d) (sym is) ∙ held)
stays_held d e live there (comes has) held = inr (ap (holds_edge d) has.with_it ∙ held_with d e has.before has.behind (ap (holds_edge d) (sym has.without) ∙ held))
stays_held d e live there (goes has) held = by (held_but d e has.before has.behind (ap (holds_edge d) (sym has.with_it) ∙ held)) where
  by : (d ≡ e) ⊎ (holds_edge d (has.before ++ has.behind) ≡ true) → (d ≡ e) ⊎ (holds_edge d there ≡ true)
  by (inl one) = inl one
  by (inr rest) = inr (ap (holds_edge d) has.without ∙ rest)

-- ---- the target is on a cycle in one of two graphs

-- on a cycle in the first alone, or in the second alone
abbrev pub IsOnOne : List Edge → List Edge → Vertex → Type 0
IsOnOne live there t = ((is_on_cycle live t ≡ true) × (is_on_cycle there t ≡ false)) ⊎ ((is_on_cycle live t ≡ false) × (is_on_cycle there t ≡ true))

moves : (es fs : List Edge) (t : Vertex) → is_on_cycle es t ≡ true → is_on_cycle fs t ≡ false → (class es t ≡ Inner → ⊥) → class es t ≡ class fs t → ⊥
moves es fs t on off outer one =
    let a = on_above es t on in
    let root : is_cycle_root es t ≡ true = root_by (parents_of t es) (is_cycle_root es t) a.0 a.1 outer in
    let too : is_cycle_root fs t ≡ true = sym (class_is_cycle fs t) ∙ ap (λ c. is_same_class c Cycle) (sym one) ∙ class_is_cycle es t ∙ root in
    not_both (is_on_cycle fs t) (root_on fs t too) off

up_none : (es : List Edge) (n : ℕ) → up es n None ≡ None
up_none es zero = refl
up_none es (suc n) = ap (next_above es) (up_none es n)

module _ (e : Edge) (live there : List Edge) (change : Changes e live there) (differ : live ≡ there → ⊥) (well : AllByRecursion IsWellFormed live) where
  -- a target that is on a cycle in the other graph alone heads a tree
  pub target_outer : is_on_cycle there e.target ≡ true → class live e.target ≡ Inner → ⊥
  target_outer on inner =
      let a = above_inner (parents_of e.target live) (is_cycle_root live e.target) inner in
      let b = on_above there e.target on in
      not_one_both e live there change differ a.0 b.0 a.1 b.1

  pub target_concerned : IsOnOne live there e.target → (class live e.target ≡ Inner → ⊥) → IsConcerned e live there live e.target
  target_concerned (inl (on, off)) outer = is_target refl (moves live there e.target on off outer)
  target_concerned (inr (off, on)) outer = is_target refl (λ one. moves there live e.target on off (λ inner. outer (one ∙ inner)) (sym one))

  -- the root of the target's cycle, where there is one
  module _ (r : Vertex) (rooted : is_on_cycle live e.target ≡ true → (is_cycle_root live r ≡ true) × (leads_to live e.target r ≡ true))
      (was : is_on_cycle there e.target ≡ true → (is_cycle_root there r ≡ true) × (leads_to there e.target r ≡ true)) (root_moves : is_cycle_root live r ≡ is_cycle_root there r → ⊥) where
    -- the head of the target's tree
    pub head_concerned : IsOnOne live there e.target → (head : Vertex) → StandsIn live head e.target → IsConcerned e live there live head
    head_concerned (inl (on, off)) head inside =
        let root = rooted on in
        let one : r ≡ head = one_head live well head e.target r inside (reaches_from_leads live e.target r root.1) (root_outer live r root.0) in
        subst (IsConcerned e live there live) one (is_root root_moves)
    head_concerned (inr (off, on)) head inside =
        let one : e.target ≡ head = one_head live well head e.target e.target inside (0, refl) (target_outer on) in
        subst (IsConcerned e live there live) one (target_concerned (inr (off, on)) (target_outer on))

    -- what leads to the target in the other graph leads to it in this one
    leads_here : (n : ℕ) (x : Vertex) → up there n (Some x) ≡ Some e.target → Reaches live x e.target
    leads_here zero x at = (0, at)
    leads_here (suc n) x at = by_test (is_same_vertex e.target x) refl (λ y. leads_here n y) where
      by_above : (o : Option Vertex) → above there x ≡ o → ((y : Vertex) → up there n (Some y) ≡ Some e.target → Reaches live y e.target) → is_same_vertex e.target x ≡ false → Reaches live x e.target
      by_above None is later other =
          let ends : None ≡ Some e.target = sym (up_none there n) ∙ ap (up there n) (sym is) ∙ up-shift there (Some x) n ∙ at in
          absurd cc
      by_above (Some y) is later other =
          let rest = later y (ap (up there n) (sym is) ∙ up-shift there (Some x) n ∙ at) in
          let here : above live x ≡ Some y = above_stays e live there change x other ∙ is in
          (suc rest.0, sym (up-shift live (Some x) rest.0) ∙ ap (up live rest.0) here ∙ rest.1)

      by_test : (b : Bool) → is_same_vertex e.target x ≡ b → ((y : Vertex) → up there n (Some y) ≡ Some e.target → Reaches live y e.target) → Reaches live x e.target
      by_test true one later = (0, ap Some (sym (same_vertex_exact e.target x one)))
      by_test false other later = by_above (above there x) refl later other

    -- the source of an edge to the target or to the root stands in the tree of the root or of the target, unless it is that of the edit
    pub parent_within : IsOnOne live there e.target → (d : Edge) → holds_edge d live ≡ true → (d.target ≡ e.target) ⊎ (d.target ≡ r) → (head : Vertex) → StandsIn live head d.source
        → (head ≡ r) ⊎ ((head ≡ e.target) ⊎ (d ≡ e))
    parent_within (inl (on, off)) d held to head inside = by to where
      root : (is_cycle_root live r ≡ true) × (leads_to live e.target r ≡ true)
      root = rooted on

      through : is_on_cycle live d.target ≡ true → Reaches live d.target r → (head ≡ r) ⊎ ((head ≡ e.target) ⊎ (d ≡ e))
      through on_it reaches =
          let a = on_above live d.target on_it in
          let here : above live d.target ≡ Some d.source = sole_source live d a.0 held a.1 in
          inl (sym (one_head live well head d.source r inside (root_further live d.target d.source r root.0 reaches (1, here)) (root_outer live r root.0)))

      by : (d.target ≡ e.target) ⊎ (d.target ≡ r) → (head ≡ r) ⊎ ((head ≡ e.target) ⊎ (d ≡ e))
      by (inl one) = through (ap (is_on_cycle live) one ∙ on) (subst (λ v. Reaches live v r) (sym one) (reaches_from_leads live e.target r root.1))
      by (inr one) = through (ap (is_on_cycle live) one ∙ root_on live r root.0) (0, ap Some one)
    parent_within (inr (off, on)) d held to head inside = by (stays_held d e live there change held) where
      root : (is_cycle_root there r ≡ true) × (leads_to there e.target r ≡ true)
      root = was on

      from_there : (n : ℕ) → 0 < n → up there n (Some d.target) ≡ Some e.target → above there d.target ≡ Some d.source → Reaches live d.source e.target
      from_there zero pos at up_one = absurd (omega (arith, pos))
      from_there (suc n) pos at up_one = leads_here n d.source (ap (up there n) (sym up_one) ∙ up-shift there (Some d.target) n ∙ at)

      through : holds_edge d there ≡ true → is_on_cycle there d.target ≡ true → Reaches there e.target d.target → (head ≡ r) ⊎ ((head ≡ e.target) ⊎ (d ≡ e))
      through kept on_it reaches =
          let a = on_above there d.target on_it in
          let way = leads_back there e.target d.target (back_from_cycle there e.target on) reaches in
          inr (inl (sym (one_head live well head d.source e.target inside (from_there way.0 way.1 way.2 (sole_source there d a.0 kept a.1)) (target_outer on))))

      to_it : holds_edge d there ≡ true → (d.target ≡ e.target) ⊎ (d.target ≡ r) → (head ≡ r) ⊎ ((head ≡ e.target) ⊎ (d ≡ e))
      to_it kept (inl one) = through kept (ap (is_on_cycle there) one ∙ on) (0, ap Some (sym one))
      to_it kept (inr one) = through kept (ap (is_on_cycle there) one ∙ root_on there r root.0) (subst (Reaches there e.target) (sym one) (reaches_from_leads there e.target r root.1))

      by : (d ≡ e) ⊎ (holds_edge d there ≡ true) → (head ≡ r) ⊎ ((head ≡ e.target) ⊎ (d ≡ e))
      by (inl one) = inr (inr one)
      by (inr kept) = to_it kept to
