-- The records that a walk down makes are those of vertices that had to be judged, each at its place.
use Rattle.std.proofs.Common.{◌≡◌, ◌⊎◌, inl, inr, Bool, true, false, cond, List, [], ◌∷◌, ◌++◌, refl, sym, ap, subst, ◌∙◌}
use Rattle.std.specs.Prelude.{◌||◌, Some}
use Rattle.std.specs.List.{AllByRecursion}
use Rattle.std.proofs.lemmas.Bool.{or_left, or_right}
use Rattle.grove_sorts.specs.declared.position.Position.{Position}
use Rattle.grove_edits.specs.declared.vertex.Vertex.{Vertex}
use Rattle.grove_edits.specs.declared.edge.Edge.{Edge}
use Rattle.grove_edits.specs.Edge.{IsWellFormed}
use Rattle.grove_edits.specs.Graph.{Graph}
use Rattle.graph_words.specs.declared.class.Class.TheVariants.{Inner}
use Rattle.grove_edits.specs.Vertex.{is_same_vertex, stands_in}
use Rattle.graph_words.specs.Class.{class}
use Rattle.graph_words.specs.Whole.{IsVertexOf, AreLive}
use Rattle.grove_edits.proofs.Vertices.{same_vertex_exact, same_vertex_itself}
use Rattle.grove_terms.specs.Forest.{Forest, none, multi_ref, cycle_ref, tree}
use Rattle.mark_step.specs.Expression.{Demanded}
use Rattle.kept_records.specs.Kept.{Kept, Records, alone, kept_of, expression_of, demanded_at, IsTreeIn, Stands}
use Rattle.kept_records.specs.Renewal.{HasToBeJudged, IsLeft, MakesUnder, MakesTree, MakesTrees, put}
use Rattle.kept_records.proofs.Children.{IsTreeOf, children_are_of}
use Rattle.kept_records.proofs.Standing.{ArePlaces, one_place, child_stands, stands_under}
use Rattle.kept_records.proofs.Scratch.{target_vertex}
use Rattle.kept_records.proofs.Names.{has_name, name_first, name_later, name_left, name_right}

abbrev pub IsPartOf : List (Vertex × Kept) → List (Vertex × Kept) → Type 0
IsPartOf some whole = (v : Vertex) → has_name v some ≡ true → has_name v whole ≡ true

module _ (on : Vertex → Bool) (new : List Edge) (records : Records) (h : Graph) (live_new : AreLive h new) (well_new : AllByRecursion IsWellFormed new) where
  -- a record that was made, among others: it is that of its vertex, which had to be judged; and of the trees under the vertex each is
  -- left as it is or has a record among them
  pub record IsMade (whole : List (Vertex × Kept)) (m : Vertex × Kept) : Type 0 where
    pub above : List Vertex
    pub forest : Forest
    pub demanded : Demanded
    pub stands : Stands new above m.0 forest demanded
    pub vertex : IsVertexOf h m.0
    pub is : m.1 ≡ kept_of m.0 forest demanded
    pub cause : HasToBeJudged on records m.0 demanded
    pub under : (x : Edge) (b : Forest) → IsTreeIn forest x b
        → IsLeft on records x.target (demanded_at (expression_of m.0 forest demanded) forest x.position) ⊎ (has_name x.target whole ≡ true)

  abbrev pub AreMade : List (Vertex × Kept) → List (Vertex × Kept) → Type 0
  AreMade whole ms = AllByRecursion (IsMade whole) ms

  pub made_append : (whole xs ys : List (Vertex × Kept)) → AreMade whole xs → AreMade whole ys → AreMade whole (xs ++ ys)
  made_append whole [] ys a b = b
  made_append whole (x ∷ xs) ys a b = (a.0, made_append whole xs ys a.1 b)

  -- what is made of some children of a vertex, and that each tree among them is left as it is or has a record
  pub record UnderMade (whole : List (Vertex × Kept)) (given : Position → Demanded) (some : Forest) (made : List (Vertex × Kept)) : Type 0 where
    pub all : AreMade whole made
    pub each : (x : Edge) (b : Forest) → IsTreeIn some x b → IsLeft on records x.target (given x.position) ⊎ (has_name x.target whole ≡ true)

  pub under_made : (us : List Vertex) (v : Vertex) (f : Forest) (d : Demanded) → Stands new us v f d → (whole : List (Vertex × Kept)) (some : Forest) → ((x : Edge) (b : Forest) → IsTreeIn some x b → IsTreeIn f x b)
      → (made : List (Vertex × Kept)) → IsPartOf made whole → MakesUnder on records (demanded_at (expression_of v f d) f) some made → UnderMade whole (demanded_at (expression_of v f d) f) some made
  under_made us v f d s whole none among made part makes = record { all = subst (AreMade whole) (sym makes) tt; each = λ x b is. absurd is }
  under_made us v f d s whole (multi_ref x rest) among made part makes =
      let r = under_made us v f d s whole rest among made part makes in record { all = r.all; each = r.each }
  under_made us v f d s whole (cycle_ref x rest) among made part makes =
      let r = under_made us v f d s whole rest among made part makes in record { all = r.all; each = r.each }
  under_made us v f d s whole (tree x below rest) among made part (inl makes) =
      let r = under_made us v f d s whole rest (λ y b is. among y b (inr is)) made part makes.1 in
      record { all = r.all; each = with_first makes.0 r.each } where
        with_first : IsLeft on records x.target (demanded_at (expression_of v f d) f x.position)
            → ((y : Edge) (b : Forest) → IsTreeIn rest y b → IsLeft on records y.target (demanded_at (expression_of v f d) f y.position) ⊎ (has_name y.target whole ≡ true))
            → (y : Edge) (b : Forest) → IsTreeIn (tree x below rest) y b → IsLeft on records y.target (demanded_at (expression_of v f d) f y.position) ⊎ (has_name y.target whole ≡ true)
        with_first left later y b (inl is) = inl (subst (λ (z : Edge). IsLeft on records z.target (demanded_at (expression_of v f d) f z.position)) is.0 left)
        with_first left later y b (inr is) = later y b is
  under_made us v f d s whole (tree x below rest) among made part (inr makes) =
      let there = child_stands new well_new v us f d s x below (among x below (inl (refl, refl))) in
      let given = demanded_at (expression_of v f d) f x.position in
      let m : Vertex × Kept = (x.target, kept_of x.target below given) in
      let inner = makes.1 in
      let later = makes.2 in
      let split : IsPartOf (inner ++ m ∷ later) whole = subst (λ ms. IsPartOf ms whole) makes.3 part in
      let deep = under_made (v ∷ us) x.target below given there whole below (λ y b is. is) inner (λ w h. split w (name_left w inner (m ∷ later) h)) makes.4 in
      let wide = under_made us v f d s whole rest (λ y b is. among y b (inr is)) later (λ w h. split w (name_right w inner (m ∷ later) (name_later w m later h))) makes.5 in
      let named : has_name x.target whole ≡ true = split x.target (name_right x.target inner (m ∷ later) (name_first x.target m later refl)) in
      let here : IsMade whole m = record {
        above = v ∷ us;
        forest = below;
        demanded = given;
        stands = there;
        vertex = vertex_below us v f d s x below (among x below (inl (refl, refl)));
        is = refl;
        cause = makes.0;
        under = deep.each;
      } in
      record { all = subst (AreMade whole) (sym makes.3) (made_append whole inner (m ∷ later) deep.all (here, wide.all)); each = with_first named wide.each } where
        vertex_below : (us : List Vertex) (v : Vertex) (f : Forest) (d : Demanded) → Stands new us v f d → (x : Edge) (b : Forest) → IsTreeIn f x b → IsVertexOf h x.target
        vertex_below us v f d s x b is =
            let under = stands_under new us v f d s in
            let of : IsTreeOf new v x = children_are_of new well_new v f under.edges x b is in
            target_vertex h new live_new well_new x of.held

        with_first : has_name x.target whole ≡ true
            → ((y : Edge) (b : Forest) → IsTreeIn rest y b → IsLeft on records y.target (demanded_at (expression_of v f d) f y.position) ⊎ (has_name y.target whole ≡ true))
            → (y : Edge) (b : Forest) → IsTreeIn (tree x below rest) y b → IsLeft on records y.target (demanded_at (expression_of v f d) f y.position) ⊎ (has_name y.target whole ≡ true)
        with_first named later y b (inl is) = inr (ap (λ (z : Edge). has_name z.target whole) (sym is.0) ∙ named)
        with_first named later y b (inr is) = later y b is

  -- ---- whole trees

  pub trees_made : (heads : List Vertex) → ((v : Vertex) → stands_in v heads ≡ true → (class new v ≡ Inner → ⊥) × (on v ≡ true) × IsVertexOf h v)
      → (whole made : List (Vertex × Kept)) → IsPartOf made whole → MakesTrees on new records heads made → AreMade whole made × ((v : Vertex) → stands_in v heads ≡ true → has_name v made ≡ true)
  trees_made [] are whole made part makes = (subst (AreMade whole) (sym makes) tt, λ v stands. absurd cc)
  trees_made (head ∷ heads) are whole made part makes =
      with_rest (trees_made heads (λ v stands. are v (or_right (is_same_vertex head v) (stands_in v heads) stands)) whole makes.1 (λ w h. split w (name_right w makes.0 makes.1 h)) makes.4) where
        split : IsPartOf (makes.0 ++ makes.1) whole
        split = subst (λ ms. IsPartOf ms whole) makes.2 part

        t : MakesTree on new records head makes.0
        t = makes.3

        m : Vertex × Kept
        m = (head, kept_of head t.forest alone)

        is_head : (class new head ≡ Inner → ⊥) × (on head ≡ true) × IsVertexOf h head
        is_head = are head (or_left (is_same_vertex head head) (stands_in head heads) (same_vertex_itself head))

        stands_there : Stands new [] head t.forest alone
        stands_there = (is_head.0, t.stands, refl)

        first_part : IsPartOf (t.inner ++ m ∷ []) whole
        first_part w h = split w (name_left w makes.0 makes.1 (ap (has_name w) t.made_are ∙ h))

        deep : UnderMade whole (demanded_at (expression_of head t.forest alone) t.forest) t.forest t.inner
        deep = under_made [] head t.forest alone stands_there whole t.forest (λ y b is. is) t.inner (λ w h. first_part w (name_left w t.inner (m ∷ []) h)) t.under

        here : IsMade whole m
        here = record {
          above = [];
          forest = t.forest;
          demanded = alone;
          stands = stands_there;
          vertex = is_head.2;
          is = refl;
          cause = inl is_head.1;
          under = deep.each;
        }

        first_made : AreMade whole makes.0
        first_made = subst (AreMade whole) (sym t.made_are) (made_append whole t.inner (m ∷ []) deep.all (here, tt))

        first_named : has_name head makes.0 ≡ true
        first_named = ap (has_name head) t.made_are ∙ name_right head t.inner (m ∷ []) (name_first head m [] refl)

        by_test : ((v : Vertex) → stands_in v heads ≡ true → has_name v makes.1 ≡ true) → (v : Vertex) → (b : Bool) → is_same_vertex head v ≡ b → (b || stands_in v heads) ≡ true → has_name v (makes.0 ++ makes.1) ≡ true
        by_test rest v true one stands = name_left v makes.0 makes.1 (ap (λ z. has_name z makes.0) (sym (same_vertex_exact head v one)) ∙ first_named)
        by_test rest v false other stands = name_right v makes.0 makes.1 (rest v stands)

        with_rest : AreMade whole makes.1 × ((v : Vertex) → stands_in v heads ≡ true → has_name v makes.1 ≡ true) → AreMade whole made × ((v : Vertex) → stands_in v (head ∷ heads) ≡ true → has_name v made ≡ true)
        with_rest rest = (
          subst (AreMade whole) (sym makes.2) (made_append whole makes.0 makes.1 first_made rest.0),
          λ v stands. ap (has_name v) makes.2 ∙ by_test rest.1 v (is_same_vertex head v) refl stands,
        )

  -- ---- the record of a vertex among those that were made

  pub record HasMade (whole : List (Vertex × Kept)) (ms : List (Vertex × Kept)) (v : Vertex) : Type 0 where
    pub m : Vertex × Kept
    pub made : IsMade whole m
    pub one : m.0 ≡ v
    pub puts : (rs : Records) → put ms rs v ≡ Some m.1

  pub find_made : (whole ms : List (Vertex × Kept)) → AreMade whole ms → (v : Vertex) → has_name v ms ≡ true → HasMade whole ms v
  find_made whole [] all v named = absurd cc
  find_made whole (x ∷ xs) all v named = by_test (is_same_vertex x.0 v) refl named (find_made whole xs all.1 v) where
    by_test : (b : Bool) → is_same_vertex x.0 v ≡ b → (b || has_name v xs) ≡ true → (has_name v xs ≡ true → HasMade whole xs v) → HasMade whole (x ∷ xs) v
    by_test true one h later = record { m = x; made = all.0; one = same_vertex_exact x.0 v one; puts = λ rs. ap (λ b. cond b (Some x.1) (put xs rs v)) one }
    by_test false other h later =
        let r = later h in record { m = r.m; made = r.made; one = r.one; puts = λ rs. ap (λ b. cond b (Some x.1) (put xs rs v)) other ∙ r.puts rs }

  pub put_outside : (ms : List (Vertex × Kept)) (rs : Records) (v : Vertex) → has_name v ms ≡ false → put ms rs v ≡ rs v
  put_outside [] rs v out = refl
  put_outside (x ∷ xs) rs v out = by_test (is_same_vertex x.0 v) refl out (put_outside xs rs v) where
    by_test : (b : Bool) → is_same_vertex x.0 v ≡ b → (b || has_name v xs) ≡ false → (has_name v xs ≡ false → put xs rs v ≡ rs v) → cond b (Some x.1) (put xs rs v) ≡ rs v
    by_test true one h later = absurd cc
    by_test false other h later = later h

  module _ (made : List (Vertex × Kept)) (all : AreMade made made) where
    -- a child of a vertex that has a record among these is left as it is, or has one too
    pub child_made : (u : Vertex) (us : List Vertex) (v : Vertex) (f : Forest) (d : Demanded) → Stands new (u ∷ us) v f d → has_name u made ≡ true → IsLeft on records v d ⊎ (has_name v made ≡ true)
    child_made u us v f d s into = at (find_made made made all u into) where
      at : HasMade made made u → IsLeft on records v d ⊎ (has_name v made ≡ true)
      at found =
          let r = found.made in
          let there : Stands new r.above u r.forest r.demanded = subst (λ w. Stands new r.above w r.forest r.demanded) found.one r.stands in
          let one : ArePlaces r.above r.forest r.demanded us s.0 s.1 = one_place new well_new r.above us u r.forest s.0 r.demanded s.1 there s.2 in
          moved (demanded_at (expression_of found.m.0 r.forest r.demanded) r.forest s.3.edge.position) (r.under s.3.edge f (subst (λ g. IsTreeIn g s.3.edge f) (sym one.forest) s.3.is_tree))
          (ap (λ w. demanded_at (expression_of w r.forest r.demanded) r.forest s.3.edge.position) found.one
          ∙ ap (λ g. demanded_at (expression_of u g r.demanded) g s.3.edge.position) one.forest
          ∙ ap (λ x. demanded_at (expression_of u s.0 x) s.0 s.3.edge.position) one.demanded ∙ sym s.3.demanded)
        where
          moved : (given : Demanded) → IsLeft on records s.3.edge.target given ⊎ (has_name s.3.edge.target made ≡ true) → given ≡ d → IsLeft on records v d ⊎ (has_name v made ≡ true)
          moved given (inl left) same = inl (subst (λ x. IsLeft on records v x) same (subst (λ w. IsLeft on records w given) s.3.target left))
          moved given (inr named) same = inr (ap (λ w. has_name w made) (sym s.3.target) ∙ named)

    -- and a vertex that has one has the record that marking says
    pub named_is : (us : List Vertex) (v : Vertex) (f : Forest) (d : Demanded) → Stands new us v f d → has_name v made ≡ true → put made records v ≡ Some (kept_of v f d)
    named_is us v f d s into =
        let found = find_made made made all v into in
        let r = found.made in
        let there : Stands new r.above v r.forest r.demanded = subst (λ w. Stands new r.above w r.forest r.demanded) found.one r.stands in
        let one : ArePlaces r.above r.forest r.demanded us f d = one_place new well_new r.above us v r.forest f r.demanded d there s in
        found.puts records ∙ ap Some (r.is ∙ ap (λ w. kept_of w r.forest r.demanded) found.one ∙ ap (λ g. kept_of v g r.demanded) one.forest ∙ ap (kept_of v f) one.demanded)
