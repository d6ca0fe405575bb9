-- How the uses of vertices are counted.
use Rattle.std.proofs.Common.{◌≡◌, ℕ, zero, suc, ◌+◌, ◌<◌, ◌≤◌, Bool, true, false, cond, true≢false, List, [], ◌∷◌, ◌++◌, length, get_or, take, refl, sym, ap, subst, ◌∙◌, inl, inr, ◌⊎◌, arith}
use Rattle.std.specs.Prelude.{◌&&◌, ◌||◌, ◌==◌, ◌^◌, not}
use Rattle.std.specs.List.{AllByRecursion, IsDistinct, list_any}
use Rattle.std.proofs.lemmas.Bool.{eq-eqb, cases_lt}
use Rattle.std.proofs.lemmas.List.{length-append, length_push, map-append, take-append-le, take_all, get_or_append_left, get_or_push}
use Rattle.edge_lattice.specs.declared.state.State.{State}
use Rattle.edge_lattice.specs.declared.state.State.TheVariants.{Absent}
use Rattle.grove_edits.specs.declared.vertex.Vertex.{Vertex}
use Rattle.grove_edits.specs.declared.edge.Edge.{Edge}
use Rattle.grove_edits.specs.Vertex.{is_same_vertex, stands_in, root}
use Rattle.grove_edits.specs.Graph.{is_same_edge}
use Rattle.edge_numbers.specs.Numbered.{Numbered, edges_of, edge_at, state_at, vertex_at, no_edge, with_entry, IsEdgeNumber, IsNumberOfVertex, BeginsWith, HasEndsIn}
use Rattle.graph_words.specs.States.{Entries, is_present}
use Rattle.edge_lists.specs.Lists.{holds_number}
use Rattle.numbers_by_name.specs.ByName.{Lists, numbers_of}
use Rattle.live_graph.specs.ByName.{KeepsNames}
use Rattle.live_graph.specs.Around.{once, is_at, total, IsStateSet}
use Rattle.live_graph.specs.Uses.{use_weight, uses_at, AreUses, HasVertexNames}
use Rattle.live_graph.proofs.Numbers.{is_at-number, is_at-more, within_edges}
use Rattle.live_graph.proofs.Totals.{total-push, total-at, total-set, total-congr}

-- ---- the first vertices

-- what stands among the first has no later number
at_first : (vs : List Vertex) (m n : ℕ) (v : Vertex) → stands_in v (take m vs) ≡ true → m ≤ n → is_at vs v n ≡ false
at_first [] m n v stands le = refl
at_first (w ∷ ws) zero n v stands le = absurd cc
at_first (w ∷ ws) (suc m) zero v stands le = absurd (omega (arith, le))
at_first (w ∷ ws) (suc m) (suc n) v stands le = by_test (is_same_vertex w v) stands (λ later. at_first ws m n v later (omega (arith, le))) where
  by_test : (b : Bool) → (b || stands_in v (take m ws)) ≡ true → (stands_in v (take m ws) ≡ true → is_at ws v n ≡ false) → (not b && is_at ws v n) ≡ false
  by_test true _ _ = refl
  by_test false later rest = rest later

stands_more : (vs : List Vertex) (m n : ℕ) (v : Vertex) → m ≤ n → stands_in v (take m vs) ≡ true → stands_in v (take n vs) ≡ true
stands_more [] m n v le stands = absurd (none m stands) where
  none : (m : ℕ) → stands_in v (take m []) ≡ true → ⊥
  none zero h = absurd cc
  none (suc m) h = absurd cc
stands_more (w ∷ ws) zero n v le stands = absurd cc
stands_more (w ∷ ws) (suc m) zero v le stands = absurd (omega (arith, le))
stands_more (w ∷ ws) (suc m) (suc n) v le stands = by_test (is_same_vertex w v) stands (λ later. stands_more ws m n v (omega (arith, le)) later) where
  by_test : (b : Bool) → (b || stands_in v (take m ws)) ≡ true → (stands_in v (take m ws) ≡ true → stands_in v (take n ws) ≡ true) → (b || stands_in v (take n ws)) ≡ true
  by_test true _ _ = refl
  by_test false later rest = rest later

stands_whole : (vs : List Vertex) (m : ℕ) (v : Vertex) → stands_in v (take m vs) ≡ true → stands_in v vs ≡ true
stands_whole [] zero v stands = absurd cc
stands_whole [] (suc m) v stands = absurd cc
stands_whole (w ∷ ws) zero v stands = absurd cc
stands_whole (w ∷ ws) (suc m) v stands = by_test (is_same_vertex w v) stands (stands_whole ws m v) where
  by_test : (b : Bool) → (b || stands_in v (take m ws)) ≡ true → (stands_in v (take m ws) ≡ true → stands_in v ws ≡ true) → (b || stands_in v ws) ≡ true
  by_test true _ _ = refl
  by_test false later rest = rest later

-- the number of what stands among the first is one of theirs
first_number : (edges : Numbered) (m k : ℕ) (v : Vertex) → IsDistinct is_same_vertex edges.vertices → IsNumberOfVertex edges v k → stands_in v (take m edges.vertices) ≡ true → k < m
first_number edges m k v once number stands = by_order (cases_lt k m) where
  by_order : (k < m) ⊎ (m ≤ k) → k < m
  by_order (inl lt) = lt
  by_order (inr le) =
      absurd (true≢false (sym (is_at-number edges.vertices v k k once number.0 number.1 ∙ eq-eqb k k refl) ∙ at_first edges.vertices m k v stands le))

all_map : (P Q : Edge → Type 0) → ((e : Edge) → P e → Q e) → (es : List Edge) → AllByRecursion P es → AllByRecursion Q es
all_map P Q f [] all = tt
all_map P Q f (e ∷ es) all = (f e all.0, all_map P Q f es all.1)

all_push : (P : Edge → Type 0) (es : List Edge) (e : Edge) → AllByRecursion P es → P e → AllByRecursion P (es ++ e ∷ [])
all_push P [] e all one = (one, tt)
all_push P (x ∷ xs) e all one = (all.0, all_push P xs e all.1 one)

pub all_at : (P : Edge → Type 0) (es : List Edge) (n : ℕ) → n < length es → AllByRecursion P es → P (get_or es n no_edge)
all_at P [] n lt all = absurd (omega (arith, lt))
all_at P (x ∷ xs) zero lt all = all.0
all_at P (x ∷ xs) (suc n) lt all = all_at P xs n (omega (arith, lt)) all.1

-- ---- what is counted

and_none : (b : Bool) → once (b && false) ≡ 0
and_none true = refl
and_none false = refl

total_none : (weight : Edge → State → ℕ) (P : Edge → Type 0) → ((e : Edge) (s : State) → P e → weight e s ≡ 0) → (entries : Entries) → AllByRecursion P (edges_of entries) → total weight entries ≡ 0
total_none weight P none [] all = refl
total_none weight P none (x ∷ xs) all = omega (arith, none x.0 x.1 all.0, total_none weight P none xs all.1)

-- a vertex that is not among the first is the end of no edge
unused : (edges : Numbered) (m n : ℕ) → m ≤ n → AllByRecursion (HasEndsIn (take m edges.vertices)) (edges_of edges.entries) → uses_at edges n ≡ 0
unused edges m n le ends = total_none (use_weight edges.vertices n) (HasEndsIn (take m edges.vertices)) none edges.entries ends where
  none : (e : Edge) (s : State) → HasEndsIn (take m edges.vertices) e → use_weight edges.vertices n e s ≡ 0
  none e s has =
      let from : once (is_present s && is_at edges.vertices e.source n) ≡ 0 = ap (λ b. once (is_present s && b)) (at_first edges.vertices m n e.source has.0 le) ∙ and_none (is_present s) in
      let to : once (is_present s && is_at edges.vertices e.target n) ≡ 0 = ap (λ b. once (is_present s && b)) (at_first edges.vertices m n e.target has.1 le) ∙ and_none (is_present s) in
      omega (arith, from, to)

once_le : (b : Bool) → once b ≤ 1
once_le true = omega arith
once_le false = omega arith

total_le : (vs : List Vertex) (n : ℕ) (entries : Entries) → total (use_weight vs n) entries ≤ length entries + length entries
total_le vs n [] = omega arith
total_le vs n (x ∷ xs) = omega (arith, total_le vs n xs, once_le (is_present x.1 && is_at vs x.0.source n), once_le (is_present x.1 && is_at vs x.0.target n))

-- ---- one vertex more

pub uses_next : (edges : Numbered) (uses : List ℕ) → length uses < length edges.vertices → AreUses edges uses → AreUses edges (uses ++ 0 ∷ [])
uses_next edges uses next are = record {
  within = omega (arith, next, length_push uses 0);
  ends =
      subst (λ (m : ℕ). AllByRecursion (HasEndsIn (take m edges.vertices)) (edges_of edges.entries)) (sym (length_push uses 0))
      (all_map (HasEndsIn (take (length uses) edges.vertices)) (HasEndsIn (take (length uses + 1) edges.vertices))
      (λ e has. (stands_more edges.vertices (length uses) (length uses + 1) e.source (omega arith) has.0, stands_more edges.vertices (length uses) (length uses + 1) e.target (omega arith) has.1))
      (edges_of edges.entries) are.ends);
  exact = λ n lt. by_place n (omega (arith, lt, length_push uses 0)) (cases_lt n (length uses));
}
  where
    by_place : (n : ℕ) → n ≤ length uses → (n < length uses) ⊎ (length uses ≤ n) → get_or (uses ++ 0 ∷ []) n 0 ≡ uses_at edges n
    by_place n le (inl lt) = get_or_append_left uses (0 ∷ []) 0 n lt ∙ are.exact n lt
    by_place n le (inr last) = get_or_push uses 0 0 n (omega (arith, le, last)) ∙ sym (unused edges (length uses) n last are.ends)

pub names_next : (edges : Numbered) (count more : ℕ) (names after : Lists) → more ≡ count + 1 → HasVertexNames edges count names → KeepsNames names after
    → holds_number count (numbers_of after (vertex_at edges count).name) ≡ true → HasVertexNames edges more after
names_next edges count more names after is has keeps added n lt = by_place (cases_lt n count) where
  by_place : (n < count) ⊎ (count ≤ n) → holds_number n (numbers_of after (vertex_at edges n).name) ≡ true
  by_place (inl before) = keeps (vertex_at edges n).name n (has n before)
  by_place (inr last) =
      let same : n ≡ count = omega (arith, last, lt, is) in
      ap (λ (k : ℕ). holds_number k (numbers_of after (vertex_at edges k).name)) same ∙ added

-- ---- further vertices and edges

module _ (edges after : Numbered) (entries : after.entries ≡ edges.entries) (begins : BeginsWith after.vertices edges.vertices) where
  same_weight : (m n : ℕ) (e : Edge) (s : State) → HasEndsIn (take m edges.vertices) e → use_weight after.vertices n e s ≡ use_weight edges.vertices n e s
  same_weight m n e s has =
      let from : is_at after.vertices e.source n ≡ is_at edges.vertices e.source n =
      ap (λ vs. is_at vs e.source n) begins.1 ∙ is_at-more edges.vertices begins.0 e.source n (stands_whole edges.vertices m e.source has.0) in
      let to : is_at after.vertices e.target n ≡ is_at edges.vertices e.target n =
      ap (λ vs. is_at vs e.target n) begins.1 ∙ is_at-more edges.vertices begins.0 e.target n (stands_whole edges.vertices m e.target has.1) in
      λ j. once (is_present s && from j) + once (is_present s && to j)

  pub uses_vertices : (uses : List ℕ) → AreUses edges uses → AreUses after uses
  uses_vertices uses are = record {
    within = subst (λ vs. length uses ≤ length vs) (sym begins.1) (omega (arith, are.within, length-append edges.vertices begins.0));
    ends =
        subst (λ (es : Entries). AllByRecursion (HasEndsIn (take (length uses) after.vertices)) (edges_of es)) (sym entries)
        (subst (λ vs. AllByRecursion (HasEndsIn vs) (edges_of edges.entries)) (sym first) are.ends);
    exact = λ n lt.
        are.exact n lt
        ∙ sym (ap (total (use_weight after.vertices n)) entries
        ∙ total-congr (use_weight after.vertices n) (use_weight edges.vertices n) (HasEndsIn (take (length uses) edges.vertices)) (same_weight (length uses) n) edges.entries are.ends);
  }
    where
      first : take (length uses) after.vertices ≡ take (length uses) edges.vertices
      first = ap (take (length uses)) begins.1 ∙ take-append-le (length uses) edges.vertices begins.0 are.within

  pub names_vertices : (count : ℕ) (names : Lists) → count ≤ length edges.vertices → HasVertexNames edges count names → HasVertexNames after count names
  names_vertices count names within has n lt =
      let same : vertex_at after n ≡ vertex_at edges n = ap (λ vs. get_or vs n root) begins.1 ∙ get_or_append_left edges.vertices begins.0 root n (omega (arith, within, lt)) in
      ap (λ (v : Vertex). holds_number n (numbers_of names v.name)) same ∙ has n lt

-- one edge more, which is Absent
pub uses_entered : (edges after : Numbered) (uses : List ℕ) (e : Edge) → AreUses edges uses → length edges.vertices ≤ length uses → HasEndsIn edges.vertices e → BeginsWith after.vertices edges.vertices
    → after.entries ≡ with_entry e edges.entries → AreUses after uses
uses_entered edges after uses e are all has begins entered = by_test (list_any (is_same_edge e) (edges_of edges.entries)) entered where
  grown : Numbered
  grown = record { vertices = after.vertices; entries = edges.entries }

  by_test : (b : Bool) → after.entries ≡ cond b edges.entries (edges.entries ++ (e, Absent) ∷ []) → AreUses after uses
  by_test true same = uses_vertices edges after same begins uses are
  by_test false pushed =
      let before = uses_vertices edges grown refl begins uses are in
      let m = length uses in
      let first : take m after.vertices ≡ edges.vertices = ap (take m) begins.1 ∙ take-append-le m edges.vertices begins.0 are.within ∙ take_all m edges.vertices all in
      record {
        within = before.within;
        ends =
            subst (AllByRecursion (HasEndsIn (take m after.vertices))) (sym (ap edges_of pushed ∙ map-append (λ (entry : Edge × State). entry.0) edges.entries ((e, Absent) ∷ [])))
            (all_push (HasEndsIn (take m after.vertices)) (edges_of edges.entries) e before.ends (subst (λ vs. HasEndsIn vs e) (sym first) has));
        exact = λ n lt.
            let counted : uses_at after n ≡ uses_at grown n + 0 = ap (total (use_weight after.vertices n)) pushed ∙ total-push (use_weight after.vertices n) edges.entries e Absent in
            omega (arith, before.exact n lt, counted);
      }

-- ---- another state

pub names_set : (edges after : Numbered) (count more : ℕ) (names : Lists) → after.vertices ≡ edges.vertices → more ≡ count → HasVertexNames edges count names → HasVertexNames after more names
names_set edges after count more names same is has n lt =
    ap (λ vs. holds_number n (numbers_of names (get_or vs n root).name)) same ∙ has n (omega (arith, lt, is))

module _ (edges : Numbered) (number : ℕ) (is_number : IsEdgeNumber edges number) (once_vertices : IsDistinct is_same_vertex edges.vertices) (uses : List ℕ) (are : AreUses edges uses) (source target : ℕ)
    (from : IsNumberOfVertex edges (edge_at edges number).source source) (to : IsNumberOfVertex edges (edge_at edges number).target target) (fits : length edges.entries ≤ 2 ^ 32) where
  abbrev edge : Edge
  edge = edge_at edges number

  has_ends : HasEndsIn (take (length uses) edges.vertices) edge
  has_ends = all_at (HasEndsIn (take (length uses) edges.vertices)) (edges_of edges.entries) number (within_edges edges number is_number) are.ends

  pub source_counted : source < length uses
  source_counted = first_number edges (length uses) source edge.source once_vertices from has_ends.0

  pub target_counted : target < length uses
  target_counted = first_number edges (length uses) target edge.target once_vertices to has_ends.1

  pub weight_is : (n : ℕ) (s : State) → use_weight edges.vertices n edge s ≡ once (is_present s && (source == n)) + once (is_present s && (target == n))
  weight_is n s =
      λ j. once (is_present s && is_at-number edges.vertices edge.source source n once_vertices from.0 from.1 j)
      + once (is_present s && is_at-number edges.vertices edge.target target n once_vertices to.0 to.1 j)

  -- the edge counts in what is counted, and that fits
  pub counted_there : (n : ℕ) → n < length uses → once (is_present (state_at edges number) && (source == n)) + once (is_present (state_at edges number) && (target == n)) ≤ get_or uses n 0
  counted_there n lt =
      let here = total-at (use_weight edges.vertices n) edges.entries number is_number in
      omega (arith, here, are.exact n lt, weight_is n (state_at edges number))

  pub uses_fit : (n : ℕ) → n < length uses → get_or uses n 0 + 2 < 2 ^ 64
  uses_fit n lt = omega (arith, are.exact n lt, total_le edges.vertices n edges.entries, fits)

  pub uses_set : (state : State) (after : Numbered) (counts : List ℕ) → IsStateSet edges number state after → length counts ≡ length uses
      → ((n : ℕ) → get_or counts n 0 + (once (is_present (state_at edges number) && (source == n)) + once (is_present (state_at edges number) && (target == n)))
      ≡ get_or uses n 0 + (once (is_present state && (source == n)) + once (is_present state && (target == n))))
      → AreUses after counts
  uses_set state after counts set same recounted = record {
    within = subst (λ vs. length counts ≤ length vs) (sym set.vertices) (omega (arith, are.within, same));
    ends =
        subst (λ es. AllByRecursion (HasEndsIn (take (length counts) after.vertices)) es) (sym set.kept_edges)
        (subst (λ vs. AllByRecursion (HasEndsIn vs) (edges_of edges.entries)) (λ j. take (sym same j) (sym set.vertices j)) are.ends);
    exact = λ n lt.
        let vertices : uses_at after n ≡ total (use_weight edges.vertices n) after.entries = ap (λ vs. total (use_weight vs n) after.entries) set.vertices in
        let change = total-set (use_weight edges.vertices n) edges.entries after.entries number state is_number set.kept_edges set.states in
        omega (arith, vertices, change, weight_is n (state_at edges number), weight_is n state, recounted n, are.exact n (omega (arith, lt, same)));
  }
