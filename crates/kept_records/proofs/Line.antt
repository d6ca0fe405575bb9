-- The line of vertices from the source of an edge up to the head of its tree: where its target stands on it, and what stands off it.
use Rattle.std.proofs.Common.{◌≡◌, ◌⊎◌, inl, inr, Bool, true, false, List, [], ◌∷◌, ◌++◌, refl, sym, ap, subst, ◌∙◌, append_assoc}
use Rattle.std.specs.Prelude.{◌||◌, Some}
use Rattle.std.specs.List.{AllByRecursion}
use Rattle.std.proofs.lemmas.Bool.{or_left, or_right}
use Rattle.grove_edits.specs.declared.vertex.Vertex.{Vertex}
use Rattle.grove_edits.specs.declared.edge.Edge.{Edge}
use Rattle.grove_edits.specs.Edge.{IsWellFormed}
use Rattle.grove_edits.specs.Vertex.{is_same_vertex, stands_in}
use Rattle.grove_edits.proofs.Vertices.{same_vertex_exact, same_vertex_itself}
use Rattle.graph_words.specs.declared.class.Class.TheVariants.{Inner}
use Rattle.graph_words.specs.Live.{holds_edge, parents_of}
use Rattle.graph_words.specs.Walk.{only_source, above}
use Rattle.graph_words.specs.Class.{class}
use Rattle.graph_words.proofs.Chains.{IsChain, has_chain, chain_is_one}
use Rattle.graph_words.proofs.Returns.{some_same}
use Rattle.grove_terms.specs.Forest.{Forest, StandsUnder}
use Rattle.grove_terms.proofs.WellSorted.{held_first}
use Rattle.mark_step.specs.Expression.{Demanded}
use Rattle.kept_records.specs.Kept.{Stands}
use Rattle.kept_records.specs.Change.{Changes, CyclesStay}
use Rattle.kept_records.specs.Short.{SourceAloneSees, LeadsUp}
use Rattle.kept_records.proofs.Children.{all_held, held_in_filter, parents_lead, sole_parent}
use Rattle.kept_records.proofs.Standing.{below_inner, edge_of_child, source_of_child}
use Rattle.kept_records.proofs.Edits.{parents_stay, class_stays}
use Rattle.kept_records.proofs.Off as off
use Rattle.kept_records.proofs.Once.{longer}

-- ---- chains

-- the vertices above a vertex that stands somewhere are its chain
pub chain_of : (live : List Edge) (well : AllByRecursion IsWellFormed live) (us : List Vertex) (v : Vertex) (f : Forest) (d : Demanded) → Stands live us v f d → IsChain live v us
chain_of live well [] v f d s = s.0
chain_of live well (u ∷ us) v f d s =
    (s.3.edge, below_inner live u us v f d s, edge_of_child live well u us v f d s, source_of_child live well u us v f d s, chain_of live well us u s.0 s.1 s.2)

one_edge_of : (d e : Edge) → d ∷ [] ≡ e ∷ [] → d ≡ e
one_edge_of d e same = cc

-- a vertex of a list, with the chain behind it
pub record IsThere (live : List Edge) (u : Vertex) (xs : List Vertex) : Type 0 where
  pub before : List Vertex
  pub behind : List Vertex
  pub split : xs ≡ before ++ u ∷ behind
  pub chain : IsChain live u behind

pub find_on : (live : List Edge) (v : Vertex) (ws : List Vertex) → IsChain live v ws → (u : Vertex) → stands_in u (v ∷ ws) ≡ true → IsThere live u (v ∷ ws)
find_on live v [] is u stands = by_test (is_same_vertex v u) refl stands where
  by_test : (b : Bool) → is_same_vertex v u ≡ b → (b || false) ≡ true → IsThere live u (v ∷ [])
  by_test true same h = record { before = []; behind = []; split = ap (λ x. x ∷ []) (same_vertex_exact v u same); chain = subst (λ x. IsChain live x []) (same_vertex_exact v u same) is }
  by_test false other h = absurd cc
find_on live v (w ∷ ws) is u stands = by_test (is_same_vertex v u) refl stands (find_on live w ws is.4 u) where
  by_test : (b : Bool) → is_same_vertex v u ≡ b → (b || stands_in u (w ∷ ws)) ≡ true → (stands_in u (w ∷ ws) ≡ true → IsThere live u (w ∷ ws)) → IsThere live u (v ∷ w ∷ ws)
  by_test true same h later =
      record { before = []; behind = w ∷ ws; split = ap (λ x. x ∷ w ∷ ws) (same_vertex_exact v u same); chain = subst (λ x. IsChain live x (w ∷ ws)) (same_vertex_exact v u same) is }
  by_test false other h later =
      let r = later h in record { before = v ∷ r.before; behind = r.behind; split = ap (λ xs. v ∷ xs) r.split; chain = r.chain }

pub stands_behind : (xs : List Vertex) (u : Vertex) (ys : List Vertex) → stands_in u ys ≡ true → stands_in u (xs ++ ys) ≡ true
stands_behind [] u ys h = h
stands_behind (x ∷ xs) u ys h = or_right (is_same_vertex x u) (stands_in u (xs ++ ys)) (stands_behind xs u ys h)

pub stands_ahead : (xs : List Vertex) (u : Vertex) (ys : List Vertex) → stands_in u xs ≡ true → stands_in u (xs ++ ys) ≡ true
stands_ahead [] u ys h = absurd cc
stands_ahead (x ∷ xs) u ys h = by_test (is_same_vertex x u) h (stands_ahead xs u ys) where
  by_test : (b : Bool) → (b || stands_in u xs) ≡ true → (stands_in u xs ≡ true → stands_in u (xs ++ ys) ≡ true) → (b || stands_in u (xs ++ ys)) ≡ true
  by_test true h later = refl
  by_test false h later = later h

pub stands_split : (xs : List Vertex) (u : Vertex) (ys : List Vertex) → stands_in u (xs ++ ys) ≡ true → (stands_in u xs ≡ true) ⊎ (stands_in u ys ≡ true)
stands_split [] u ys h = inr h
stands_split (x ∷ xs) u ys h = by_test (is_same_vertex x u) h (stands_split xs u ys) where
  by_test : (b : Bool) → (b || stands_in u (xs ++ ys)) ≡ true → (stands_in u (xs ++ ys) ≡ true → (stands_in u xs ≡ true) ⊎ (stands_in u ys ≡ true)) → ((b || stands_in u xs) ≡ true) ⊎ (stands_in u ys ≡ true)
  by_test true h later = inl refl
  by_test false h later = later h

pub itself_first : (u : Vertex) (xs : List Vertex) → stands_in u (u ∷ xs) ≡ true
itself_first u xs = or_left (is_same_vertex u u) (stands_in u xs) (same_vertex_itself u)

pub find_above : (live : List Edge) (v : Vertex) (ws : List Vertex) → IsChain live v ws → (u : Vertex) → stands_in u ws ≡ true → IsThere live u ws
find_above live v [] is u stands = absurd cc
find_above live v (w ∷ ws) is u stands = find_on live w ws is.4 u stands

-- the only parent of an inner vertex, in its chain
record IsNext (d : Edge) (ws : List Vertex) : Type 0 where
  rest : List Vertex
  is : ws ≡ d.source ∷ rest

next_of : (live : List Edge) (d : Edge) → holds_edge d live ≡ true → class live d.target ≡ Inner → (ws : List Vertex) → IsChain live d.target ws → IsNext d ws
next_of live d held inner [] is = absurd (is inner)
next_of live d held inner (w ∷ ws) is =
    record { rest = ws; is = ap (λ x. x ∷ ws) (sym is.3 ∙ ap (λ (x : Edge). x.source) (one_edge_of is.0 d (sym is.2 ∙ sole_parent live d held inner))) }

-- an inner vertex has one live parent edge
record IsSole (live : List Edge) (v : Vertex) : Type 0 where
  edge : Edge
  held : holds_edge edge live ≡ true
  target : edge.target ≡ v
  chain : List Vertex
  is : IsChain live v (edge.source ∷ chain)
  above : IsChain live edge.source chain

sole_of : (live : List Edge) (v : Vertex) → class live v ≡ Inner → (ws : List Vertex) → IsChain live v ws → IsSole live v
sole_of live v inner [] is = absurd (is inner)
sole_of live v inner (w ∷ ws) is =
    let among : holds_edge is.0 (parents_of v live) ≡ true = ap (holds_edge is.0) is.2 ∙ held_first is.0 [] in
    record {
      edge = is.0;
      held = held_in_filter (λ x. is_same_vertex x.target v) is.0 live among;
      target = all_held (λ x. x.target ≡ v) (parents_of v live) (parents_lead v live) is.0 among;
      chain = ws;
      is = subst (λ x. IsChain live v (x ∷ ws)) (sym is.3) is;
      above = subst (λ x. IsChain live x ws) (sym is.3) is.4;
    }

-- ---- ways up

-- a way up is the beginning of a chain, and behind it stands what is above its top
pub record IsWay (live : List Edge) (v : Vertex) (ws way : List Vertex) (top : Vertex) : Type 0 where
  pub base : List Vertex
  pub chain : IsChain live top base
  pub split : v ∷ ws ≡ (v ∷ way) ++ base
  pub last : stands_in top (v ∷ way) ≡ true

pub way_of : (live : List Edge) (v : Vertex) (ws way : List Vertex) (top : Vertex) → IsChain live v ws → LeadsUp live v way top → IsWay live v ws way top
way_of live v ws [] top is leads =
    record { base = ws; chain = subst (λ x. IsChain live x ws) leads is; split = refl; last = or_left (is_same_vertex v top) false (ap (λ x. is_same_vertex x top) leads ∙ same_vertex_itself top) }
way_of live v [] (x ∷ way) top is leads = absurd (is leads.0)
way_of live v (w ∷ ws) (x ∷ way) top is leads =
    let up : above live v ≡ Some w = ap only_source is.2 ∙ ap Some is.3 in
    let one : w ≡ x = some_same w x (sym up ∙ leads.1) in
    let r = way_of live w ws way top is.4 (subst (λ z. LeadsUp live z way top) (sym one) leads.2) in
    record {
      base = r.base;
      chain = r.chain;
      split = ap (λ xs. v ∷ xs) (r.split ∙ ap (λ z. z ∷ (way ++ r.base)) one);
      last = or_right (is_same_vertex v top) (stands_in top (x ∷ way)) (ap (λ z. stands_in top (z ∷ way)) (sym one) ∙ r.last);
    }

-- ---- the line

module _ (e : Edge) (old new : List Edge) (change : Changes e old new) (stay : CyclesStay old new) where
  abbrev pub rises : List Vertex
  rises = (has_chain new e.source).above

  abbrev pub line : List Vertex
  line = e.source ∷ rises

  abbrev pub on_line : Vertex → Bool
  on_line v = stands_in v line

  pub source_on_line : on_line e.source ≡ true
  source_on_line = itself_first e.source rises

  line_at : (u : Vertex) → on_line u ≡ true → IsThere new u line
  line_at = find_on new e.source rises (has_chain new e.source).is

  -- with an inner vertex the one above it is on the line
  pub line_closed : (d : Edge) → holds_edge d new ≡ true → class new d.target ≡ Inner → on_line d.target ≡ true → on_line d.source ≡ true
  line_closed d held inner is =
      let r = line_at d.target is in
      let n = next_of new d held inner r.behind r.chain in
      ap (stands_in d.source) (r.split ∙ ap (λ ws. r.before ++ d.target ∷ ws) n.is)
      ∙ stands_behind r.before d.source (d.target ∷ d.source ∷ n.rest) (or_right (is_same_vertex d.target d.source) (stands_in d.source (d.source ∷ n.rest)) (itself_first d.source n.rest))

  abbrev pub FromSource : Type 0
  FromSource = (d : Edge) → (holds_edge d old ≡ true) ⊎ (holds_edge d new ≡ true) → d.target ≡ e.target → d.source ≡ e.source

  -- where the target stands below the source it is not above it
  pub not_above_new : FromSource → class new e.target ≡ Inner → on_line e.target ≡ false
  not_above_new from inner = by_test (on_line e.target) refl where
    refuted : on_line e.target ≡ true → ⊥
    refuted is =
        let r = line_at e.target is in
        let one = sole_of new e.target inner r.behind r.chain in
        let source : one.edge.source ≡ e.source = from one.edge (inr one.held) one.target in
        let behind : r.behind ≡ e.source ∷ one.chain = chain_is_one new e.target r.behind (one.edge.source ∷ one.chain) r.chain one.is ∙ ap (λ x. x ∷ one.chain) source in
        let chain : rises ≡ one.chain = chain_is_one new e.source rises one.chain (has_chain new e.source).is (subst (λ x. IsChain new x one.chain) source one.above) in
        longer line r.before e.target (r.split ∙ ap (λ ws. r.before ++ e.target ∷ ws) (behind ∙ ap (λ ws. e.source ∷ ws) (sym chain)))

    by_test : (b : Bool) → on_line e.target ≡ b → on_line e.target ≡ false
    by_test true is = absurd (refuted is)
    by_test false off = off

  -- the chain of a vertex up to the target is the same in both graphs
  record IsJoined (v : Vertex) (base : List Vertex) : Type 0 where
    chain : List Vertex
    is : IsChain old v chain
    before : List Vertex
    split : v ∷ chain ≡ before ++ e.target ∷ base

  joined : (v : Vertex) (ws : List Vertex) → IsChain new v ws → stands_in e.target (v ∷ ws) ≡ true → (base : List Vertex) → IsChain old e.target base → IsJoined v base
  joined v [] is stands base below = by_test (is_same_vertex v e.target) refl stands where
    by_test : (b : Bool) → is_same_vertex v e.target ≡ b → (b || false) ≡ true → IsJoined v base
    by_test true same h =
        record { chain = base; is = subst (λ x. IsChain old x base) (sym (same_vertex_exact v e.target same)) below; before = []; split = ap (λ x. x ∷ base) (same_vertex_exact v e.target same) }
    by_test false other h = absurd cc
  joined v (w ∷ ws) is stands base below = by_test (is_same_vertex v e.target) (is_same_vertex e.target v) refl refl stands (λ later. joined w ws is.4 later base below) where
    back : (a b : Bool) → is_same_vertex v e.target ≡ a → is_same_vertex e.target v ≡ b → a ≡ false → b ≡ false
    back a true is_a is_b off =
        let clash : true ≡ false = sym (same_vertex_itself v) ∙ ap (is_same_vertex v) (sym (same_vertex_exact e.target v is_b)) ∙ is_a ∙ off in cc
    back a false is_a is_b off = refl

    by_test : (a b : Bool) → is_same_vertex v e.target ≡ a → is_same_vertex e.target v ≡ b → (a || stands_in e.target (w ∷ ws)) ≡ true → (stands_in e.target (w ∷ ws) ≡ true → IsJoined w base) → IsJoined v base
    by_test true b same is_b h later =
        record { chain = base; is = subst (λ x. IsChain old x base) (sym (same_vertex_exact v e.target same)) below; before = []; split = ap (λ x. x ∷ base) (same_vertex_exact v e.target same) }
    by_test false b other is_b h later =
        let r = later h in
        let off : is_same_vertex e.target v ≡ false = is_b ∙ back false b other is_b refl in
        record {
          chain = w ∷ r.chain;
          is = (is.0, class_stays e old new change v off (stay v) ∙ is.1, parents_stay e old new change v off ∙ is.2, is.3, r.is);
          before = v ∷ r.before;
          split = ap (λ xs. v ∷ xs) r.split;
        }

  -- nor where it stood below it
  pub not_above_old : FromSource → class old e.target ≡ Inner → on_line e.target ≡ false
  not_above_old from inner = by_test (on_line e.target) refl where
    refuted : on_line e.target ≡ true → ⊥
    refuted is =
        let c = has_chain old e.target in
        let one = sole_of old e.target inner c.above c.is in
        let source : one.edge.source ≡ e.source = from one.edge (inl one.held) one.target in
        let chain : IsChain old e.target (e.source ∷ one.chain) = subst (λ x. IsChain old e.target (x ∷ one.chain)) source one.is in
        let above : IsChain old e.source one.chain = subst (λ x. IsChain old x one.chain) source one.above in
        let r = joined e.source rises (has_chain new e.source).is is (e.source ∷ one.chain) chain in
        let same : r.chain ≡ one.chain = chain_is_one old e.source r.chain one.chain r.is above in
        longer (e.source ∷ one.chain) r.before e.target (ap (λ xs. e.source ∷ xs) (sym same) ∙ r.split)

    by_test : (b : Bool) → on_line e.target ≡ b → on_line e.target ≡ false
    by_test true is = absurd (refuted is)
    by_test false off = off

  -- other vertices than the source see each vertex in the class that it had
  pub seen_by_others : SourceAloneSees e old new → (d : Edge) → (holds_edge d old ≡ true) ⊎ (holds_edge d new ≡ true) → (d.source ≡ e.source → ⊥) → class old d.target ≡ class new d.target
  seen_by_others sees d held other_source = by_test (is_same_vertex e.target d.target) refl sees where
    by_test : (b : Bool) → is_same_vertex e.target d.target ≡ b → SourceAloneSees e old new → class old d.target ≡ class new d.target
    by_test true same (inl unchanged) = ap (λ live. class live d.target) unchanged
    by_test true same (inr (inl shared)) =
        let one : e.target ≡ d.target = same_vertex_exact e.target d.target same in ap (class old) (sym one) ∙ shared.0 ∙ ap (class new) one
    by_test true same (inr (inr from)) = absurd (other_source (from d held (sym (same_vertex_exact e.target d.target same))))
    by_test false other sees = class_stays e old new change d.target other (stay d.target)

  pub off_no_source : (v : Vertex) → on_line v ≡ false → v ≡ e.source → ⊥
  off_no_source v off one = let clash : true ≡ false = sym source_on_line ∙ ap on_line (sym one) ∙ off in cc

  -- what stands under a vertex off the line stood under it before
  pub stood_under : SourceAloneSees e old new → (v : Vertex) (f : Forest) → on_line v ≡ false → StandsUnder new v f → StandsUnder old v f
  stood_under sees =
      off.stood_under e old new change on_line source_on_line line_closed
      (λ d held_old held_new is. seen_by_others sees d (inl held_old) (off_no_source d.source is))

  -- the vertices of the line stand below the same ones in both graphs
  pub record IsBelowAsBefore (v : Vertex) : Type 0 where
    pub inner : class new v ≡ Inner → class old v ≡ Inner
    pub parents : class new v ≡ Inner → parents_of v old ≡ parents_of v new
    pub heads : (class new v ≡ Inner → ⊥) → class old v ≡ Inner → ⊥

  pub line_stays : SourceAloneSees e old new → (v : Vertex) → on_line v ≡ true → IsBelowAsBefore v
  line_stays sees v on = by_test (is_same_vertex e.target v) refl sees where
    off_line : e.target ≡ v → on_line e.target ≡ false → ⊥
    off_line one off = let clash : true ≡ false = sym on ∙ ap on_line (sym one) ∙ off in cc

    by_test : (b : Bool) → is_same_vertex e.target v ≡ b → SourceAloneSees e old new → IsBelowAsBefore v
    by_test true same (inl unchanged) = record {
      inner = λ inner. ap (λ live. class live v) unchanged ∙ inner;
      parents = λ inner. ap (parents_of v) unchanged;
      heads = λ outer inner. outer (sym (ap (λ live. class live v) unchanged) ∙ inner);
    }
    by_test true same (inr (inl shared)) =
        let one = same_vertex_exact e.target v same in
        let outer : class new v ≡ Inner → ⊥ = λ inner. shared.1 (ap (class new) one ∙ inner) in
        record { inner = λ inner. absurd (outer inner); parents = λ inner. absurd (outer inner); heads = λ _ inner. shared.1 (sym shared.0 ∙ ap (class old) one ∙ inner) }
    by_test true same (inr (inr from)) =
        let one = same_vertex_exact e.target v same in
        record {
          inner = λ inner. absurd (off_line one (not_above_new from (ap (class new) one ∙ inner)));
          parents = λ inner. absurd (off_line one (not_above_new from (ap (class new) one ∙ inner)));
          heads = λ _ inner. off_line one (not_above_old from (ap (class old) one ∙ inner));
        }
    by_test false other sees =
        let stays : class old v ≡ class new v = class_stays e old new change v other (stay v) in
        record { inner = λ inner. stays ∙ inner; parents = λ inner. parents_stay e old new change v other; heads = λ outer inner. outer (sym stays ∙ inner) }

  -- ---- the way up from the source

  module _ (way : List Vertex) (top : Vertex) (leads : LeadsUp new e.source way top) where
    pub the_way : IsWay new e.source rises way top
    the_way = way_of new e.source rises way top (has_chain new e.source).is leads

    -- the vertices of the way, and those above its top, are on the line
    pub way_on_line : (v : Vertex) → stands_in v (e.source ∷ way) ≡ true → on_line v ≡ true
    way_on_line v h = ap (stands_in v) the_way.split ∙ stands_ahead (e.source ∷ way) v the_way.base h

    -- the top stands above each vertex of the way, or is it
    pub way_below : (v : Vertex) (us : List Vertex) → IsChain new v us → stands_in v (e.source ∷ way) ≡ true → stands_in top (v ∷ us) ≡ true
    way_below v us is there =
        let part = part_of_way e.source way leads v there in
        let r = way_of new v us part.0 top is part.1 in
        ap (stands_in top) r.split ∙ stands_ahead (v ∷ part.0) top r.base r.last
      where
        part_of_way : (x : Vertex) (ws : List Vertex) → LeadsUp new x ws top → (u : Vertex) → stands_in u (x ∷ ws) ≡ true → (some : List Vertex) × LeadsUp new u some top
        part_of_way x [] up u stands = by_test (is_same_vertex x u) refl stands where
          by_test : (b : Bool) → is_same_vertex x u ≡ b → (b || false) ≡ true → (some : List Vertex) × LeadsUp new u some top
          by_test true same h = ([], sym (same_vertex_exact x u same) ∙ up)
          by_test false other h = absurd cc
        part_of_way x (w ∷ ws) up u stands = by_test (is_same_vertex x u) refl stands (part_of_way w ws up.2 u) where
          by_test : (b : Bool) → is_same_vertex x u ≡ b → (b || stands_in u (w ∷ ws)) ≡ true → (stands_in u (w ∷ ws) ≡ true → (some : List Vertex) × LeadsUp new u some top)
              → (some : List Vertex) × LeadsUp new u some top
          by_test true same h later = (w ∷ ws, subst (λ z. LeadsUp new z (w ∷ ws) top) (same_vertex_exact x u same) up)
          by_test false other h later = later h

    pub above_top_on_line : (v : Vertex) → stands_in v the_way.base ≡ true → on_line v ≡ true
    above_top_on_line v h = ap (stands_in v) the_way.split ∙ stands_behind (e.source ∷ way) v the_way.base h

    -- what stands below the top and on the line is on the way
    pub below_on_way : (v : Vertex) (us : List Vertex) → IsChain new v us → stands_in top us ≡ true → on_line v ≡ true → stands_in v (e.source ∷ way) ≡ true
    below_on_way v us is below on = by_side (stands_split (e.source ∷ way) v the_way.base (ap (stands_in v) (sym the_way.split) ∙ on)) where
      refuted : stands_in v the_way.base ≡ true → ⊥
      refuted high =
          let a = find_above new v us is top below in
          let b = find_above new top the_way.base the_way.chain v high in
          let same : a.behind ≡ the_way.base = chain_is_one new top a.behind the_way.base a.chain the_way.chain in
          let round : b.behind ≡ us = chain_is_one new v b.behind us b.chain is in
          longer us (a.before ++ top ∷ b.before) v
          (a.split ∙ ap (λ ws. a.before ++ top ∷ ws) (same ∙ b.split ∙ ap (λ ws. b.before ++ v ∷ ws) round) ∙ sym (append_assoc a.before (top ∷ b.before) (v ∷ us)))

      by_side : (stands_in v (e.source ∷ way) ≡ true) ⊎ (stands_in v the_way.base ≡ true) → stands_in v (e.source ∷ way) ≡ true
      by_side (inl h) = h
      by_side (inr h) = absurd (refuted h)
