-- What is around the vertices after one more edit.
use Rattle.std.proofs.Common.{◌≡◌, ℕ, zero, suc, ◌+◌, ◌<◌, Bool, true, false, cond, List, [], ◌∷◌, ◌++◌, length, get_or, set, take, slice_get, map, Some, replicate, refl, sym, ap, subst, ◌∙◌, arith}
use Rattle.std.specs.Prelude.{◌&&◌, Option}
use Rattle.std.specs.List.{IsDistinct, AllByRecursion}
use Rattle.std.proofs.lemmas.List.{append-nil, take_more, length-map, length-take-le}
use Rattle.std.proofs.lemmas.Option.{slice_get_within, get_or_from_slice_get}
use Rattle.std.proofs.Math.Seq.{take-append_seam}
use Rattle.std.proofs.Math.ListN.{length-set}
use Rattle.std.proofs.lemmas.Map.Keys.{IsDistinct-head, IsDistinct-tail}
use Rattle.grove_edits.specs.declared.vertex.Vertex.{Vertex}
use Rattle.grove_names.specs.declared.name.Name.{Name}
use Rattle.grove_sorts.specs.declared.position.Position.{Position}
use Rattle.grove_edits.specs.declared.edit.Edit.{Edit}
use Rattle.grove_edits.specs.declared.edit.EditKind.{EditKind}
use Rattle.grove_edits.specs.Edit.{edit_edge, edit_kind}
use Rattle.grove_edits.specs.Vertex.{is_same_vertex}
use Rattle.grove_edits.proofs.Vertices.{same_vertex_laws, same_vertex_itself}
use Rattle.graph_table.specs.declared.link.Link.{Link}
use Rattle.graph_table.specs.Table.{Table, is_insertion, vertex_at, vertex_or_root, edge_at, edge_or_none, kind_at, kind_or_insert, IsNumber, IsIndex}
use Rattle.graph_table.specs.Around.{Child, Ends, Neighbours, no_ends, no_neighbours, with_parent, first_indices, child, leads_from, leads_to, children_from, parents_from, neighbours, ends_at, with_last_at, with_parent_at, ends_noted, link_of}
use Rattle.graph_table.specs.Chain.{AreAround}
use Rattle.graph_table.proofs.Chains.{around_set, around_at, around_count, around_pushed, child_linked}

-- ---- what is around the vertices, changed at one

abbrev pub at : List Neighbours → ℕ → Neighbours
at around number = get_or around number no_neighbours

-- the vertex with a number has one more child
abbrev pub with_child_at : ℕ → Child → List Neighbours → List Neighbours
with_child_at number c around = set around number (record { children = (at around number).children ++ c ∷ []; parents = (at around number).parents })

-- the vertex with a number has one more parent
abbrev pub with_parent_to : ℕ → ℕ → List Neighbours → List Neighbours
with_parent_to number index around = set around number (record { children = (at around number).children; parents = with_parent (at around number).parents index })

-- what is around the vertices after an edit with an index, whose ends have these numbers
abbrev pub noted : ℕ → Edit → ℕ → ℕ → List Neighbours → List Neighbours
noted index edit source target around = cond (is_insertion (edit_kind edit)) (with_parent_to target index (with_child_at source (child index (edit_edge edit)) around)) around

-- ---- one more edit

children_append : (n m : ℕ) (v : Vertex) (edits : List Edit) (edit : Edit) → m ≡ n + length edits
    → children_from n v (edits ++ edit ∷ []) ≡ children_from n v edits ++ cond (leads_from v edit) (child m (edit_edge edit) ∷ []) []
children_append n m v [] edit is =
    let e : n ≡ m = omega (arith, is) in
    ap (λ i. cond (leads_from v edit) (child i (edit_edge edit) ∷ []) []) e
children_append n m v (x ∷ edits) edit is = by_test (leads_from v x) (children_append (suc n) m v edits edit (omega (arith, is))) where
  by_test : (b : Bool) → children_from (suc n) v (edits ++ edit ∷ []) ≡ children_from (suc n) v edits ++ cond (leads_from v edit) (child m (edit_edge edit) ∷ []) []
      → cond b (child n (edit_edge x) ∷ children_from (suc n) v (edits ++ edit ∷ [])) (children_from (suc n) v (edits ++ edit ∷ []))
      ≡ cond b (child n (edit_edge x) ∷ children_from (suc n) v edits) (children_from (suc n) v edits) ++ cond (leads_from v edit) (child m (edit_edge edit) ∷ []) []
  by_test true rest = ap (λ cs. child n (edit_edge x) ∷ cs) rest
  by_test false rest = rest

parents_append : (n m : ℕ) (v : Vertex) (edits : List Edit) (edit : Edit) → m ≡ n + length edits
    → parents_from n v (edits ++ edit ∷ []) ≡ parents_from n v edits ++ cond (leads_to v edit) (m ∷ []) []
parents_append n m v [] edit is =
    let e : n ≡ m = omega (arith, is) in
    ap (λ i. cond (leads_to v edit) (i ∷ []) []) e
parents_append n m v (x ∷ edits) edit is = by_test (leads_to v x) (parents_append (suc n) m v edits edit (omega (arith, is))) where
  by_test : (b : Bool) → parents_from (suc n) v (edits ++ edit ∷ []) ≡ parents_from (suc n) v edits ++ cond (leads_to v edit) (m ∷ []) []
      → cond b (n ∷ parents_from (suc n) v (edits ++ edit ∷ [])) (parents_from (suc n) v (edits ++ edit ∷ []))
      ≡ cond b (n ∷ parents_from (suc n) v edits) (parents_from (suc n) v edits) ++ cond (leads_to v edit) (m ∷ []) []
  by_test true rest = ap (λ is. n ∷ is) rest
  by_test false rest = rest

first_indices_push : (is : List ℕ) (i : ℕ) → first_indices (is ++ i ∷ []) ≡ with_parent (first_indices is) i
first_indices_push [] i = refl
first_indices_push (j ∷ []) i = refl
first_indices_push (j ∷ k ∷ is) i = refl

module _ (edits : List Edit) (edit : Edit) where
  abbrev source : Vertex
  source = (edit_edge edit).source

  abbrev target : Vertex
  target = (edit_edge edit).target

  abbrev index : ℕ
  index = length edits

  abbrev after : List Edit
  after = edits ++ edit ∷ []

  children_with : (v : Vertex) (b : Bool) → leads_from v edit ≡ b → children_from 0 v after ≡ children_from 0 v edits ++ cond b (child index (edit_edge edit) ∷ []) []
  children_with v b is = children_append 0 index v edits edit (omega arith) ∙ ap (λ t. children_from 0 v edits ++ cond t (child index (edit_edge edit) ∷ []) []) is

  children_same : (v : Vertex) → leads_from v edit ≡ false → children_from 0 v after ≡ children_from 0 v edits
  children_same v is = children_with v false is ∙ append-nil (children_from 0 v edits)

  parents_with : (v : Vertex) → leads_to v edit ≡ true → first_indices (parents_from 0 v after) ≡ with_parent (first_indices (parents_from 0 v edits)) index
  parents_with v is =
      ap first_indices (parents_append 0 index v edits edit (omega arith) ∙ ap (λ t. parents_from 0 v edits ++ cond t (index ∷ []) []) is)
      ∙ first_indices_push (parents_from 0 v edits) index

  parents_same : (v : Vertex) → leads_to v edit ≡ false → first_indices (parents_from 0 v after) ≡ first_indices (parents_from 0 v edits)
  parents_same v is =
      ap first_indices (parents_append 0 index v edits edit (omega arith) ∙ ap (λ t. parents_from 0 v edits ++ cond t (index ∷ []) []) is ∙ append-nil (parents_from 0 v edits))

  -- what is around a vertex once the edit is noted at its source alone
  abbrev halfway : Vertex → Neighbours
  halfway v = record { children = children_from 0 v after; parents = first_indices (parents_from 0 v edits) }

  pub same_after_deletion : is_insertion (edit_kind edit) ≡ false → (v : Vertex) → neighbours edits v ≡ neighbours after v
  same_after_deletion deletes v =
      let from : leads_from v edit ≡ false = ap (λ b. b && is_same_vertex source v) deletes in
      let to : leads_to v edit ≡ false = ap (λ b. b && is_same_vertex target v) deletes in
      λ j. record { children = sym (children_same v from) j; parents = sym (parents_same v to) j }

  halfway_other : is_insertion (edit_kind edit) ≡ true → (v : Vertex) → is_same_vertex source v ≡ false → halfway v ≡ neighbours edits v
  halfway_other inserts v other =
      let from : leads_from v edit ≡ false = ap (λ b. b && is_same_vertex source v) inserts ∙ other in
      ap (λ cs. record { children = cs; parents = first_indices (parents_from 0 v edits) }) (children_same v from)

  halfway_source : is_insertion (edit_kind edit) ≡ true → record { children = (neighbours edits source).children ++ child index (edit_edge edit) ∷ []; parents = (neighbours edits source).parents } ≡ halfway source
  halfway_source inserts =
      let from : leads_from source edit ≡ true = ap (λ b. b && is_same_vertex source source) inserts ∙ same_vertex_itself source in
      ap (λ cs. record { children = cs; parents = first_indices (parents_from 0 source edits) }) (sym (children_with source true from))

  after_other : is_insertion (edit_kind edit) ≡ true → (v : Vertex) → is_same_vertex target v ≡ false → neighbours after v ≡ halfway v
  after_other inserts v other =
      let to : leads_to v edit ≡ false = ap (λ b. b && is_same_vertex target v) inserts ∙ other in
      ap (λ ps. record { children = children_from 0 v after; parents = ps }) (parents_same v to)

  after_target : is_insertion (edit_kind edit) ≡ true → record { children = (halfway target).children; parents = with_parent (halfway target).parents index } ≡ neighbours after target
  after_target inserts =
      let to : leads_to target edit ≡ true = ap (λ b. b && is_same_vertex target target) inserts ∙ same_vertex_itself target in
      ap (λ ps. record { children = children_from 0 target after; parents = ps }) (sym (parents_with target to))

-- ---- a list by the vertices, changed at one

all_other : (f g : Vertex → Neighbours) (v : Vertex) → ((w : Vertex) → is_same_vertex v w ≡ false → g w ≡ f w) → (vs : List Vertex) → AllByRecursion (λ w. is_same_vertex v w ≡ false) vs → map f vs ≡ map g vs
all_other f g v same [] apart = refl
all_other f g v same (w ∷ vs) apart = λ j. sym (same w apart.0) j ∷ all_other f g v same vs apart.1 j

holds_at : (P : Vertex → Type 0) (vs : List Vertex) (k : ℕ) (v : Vertex) → AllByRecursion P vs → slice_get vs k ≡ Some v → P v
holds_at P [] k v all is = absurd cc
holds_at P (x ∷ vs) zero v all is = let one : x ≡ v = cc in subst P one all.0
holds_at P (x ∷ vs) (suc k) v all is = holds_at P vs k v all.1 is

changed_at : (f g : Vertex → Neighbours) (vs : List Vertex) (k : ℕ) (v : Vertex) (y : Neighbours) → IsDistinct is_same_vertex vs → slice_get vs k ≡ Some v → y ≡ g v
    → ((w : Vertex) → is_same_vertex v w ≡ false → g w ≡ f w) → set (map f vs) k y ≡ map g vs
changed_at f g [] k v y once is new same = absurd cc
changed_at f g (x ∷ vs) zero v y once is new same =
    let one : x ≡ v = cc in
    let here : y ≡ g x = new ∙ ap g (sym one) in
    let later : map f vs ≡ map g vs = all_other f g x (λ w other. same w (ap (λ z. is_same_vertex z w) (sym one) ∙ other)) vs (IsDistinct-head is_same_vertex x vs once) in
    λ j. here j ∷ later j
changed_at f g (x ∷ vs) (suc k) v y once is new same =
    let apart : is_same_vertex x v ≡ false = holds_at (λ w. is_same_vertex x w ≡ false) vs k v (IsDistinct-head is_same_vertex x vs once) is in
    let here : f x ≡ g x = sym (same x (same_vertex_laws.symm v x ∙ apart)) in
    let later = changed_at f g vs k v y (IsDistinct-tail is_same_vertex x vs once) is new same in
    λ j. here j ∷ later j

pub read_number : (f : Vertex → Neighbours) (vs : List Vertex) (k : ℕ) (v : Vertex) (d : Neighbours) → slice_get vs k ≡ Some v → get_or (map f vs) k d ≡ f v
read_number f [] k v d is = absurd cc
read_number f (x ∷ vs) zero v d is = let one : x ≡ v = cc in ap f one
read_number f (x ∷ vs) (suc k) v d is = read_number f vs k v d is

at_number : (f : Vertex → Neighbours) (vs : List Vertex) (k : ℕ) (v : Vertex) → slice_get vs k ≡ Some v → at (map f vs) k ≡ f v
at_number f vs k v is = read_number f vs k v no_neighbours is

module _ (edits : List Edit) (edit : Edit) (vs : List Vertex) (s t : ℕ) (once : IsDistinct is_same_vertex vs)
    (at_source : slice_get vs s ≡ Some (edit_edge edit).source) (at_target : slice_get vs t ≡ Some (edit_edge edit).target) where
  noted_source : is_insertion (edit_kind edit) ≡ true → with_child_at s (child (length edits) (edit_edge edit)) (map (neighbours edits) vs) ≡ map (halfway edits edit) vs
  noted_source inserts =
      let found = at_number (neighbours edits) vs s (edit_edge edit).source at_source in
      changed_at (neighbours edits) (halfway edits edit) vs s (edit_edge edit).source _ once at_source
      (ap (λ (n : Neighbours). record { children = n.children ++ child (length edits) (edit_edge edit) ∷ []; parents = n.parents }) found ∙ halfway_source edits edit inserts)
      (halfway_other edits edit inserts)

  noted_target : is_insertion (edit_kind edit) ≡ true → with_parent_to t (length edits) (map (halfway edits edit) vs) ≡ map (neighbours (edits ++ edit ∷ [])) vs
  noted_target inserts =
      let found = at_number (halfway edits edit) vs t (edit_edge edit).target at_target in
      changed_at (halfway edits edit) (neighbours (edits ++ edit ∷ [])) vs t (edit_edge edit).target _ once at_target
      (ap (λ (n : Neighbours). record { children = n.children; parents = with_parent n.parents (length edits) }) found ∙ after_target edits edit inserts)
      (after_other edits edit inserts)

  noted_is : noted (length edits) edit s t (map (neighbours edits) vs) ≡ map (neighbours (edits ++ edit ∷ [])) vs
  noted_is = by_kind (is_insertion (edit_kind edit)) refl where
    by_kind : (b : Bool) → is_insertion (edit_kind edit) ≡ b
        → cond b (with_parent_to t (length edits) (with_child_at s (child (length edits) (edit_edge edit)) (map (neighbours edits) vs))) (map (neighbours edits) vs) ≡ map (neighbours (edits ++ edit ∷ [])) vs
    by_kind true inserts = ap (with_parent_to t (length edits)) (noted_source inserts) ∙ noted_target inserts
    by_kind false deletes = λ j. map (λ v. same_after_deletion edits edit deletes v j) vs

-- the same of what the code's loop keeps
module _ (edits : List Edit) (edit : Edit) (vs : List Vertex) (i s t : ℕ) (around new : List Neighbours) (once : IsDistinct is_same_vertex vs)
    (within : i < length edits) (read : edit ≡ get_or edits i edit)
    (at_source : slice_get vs s ≡ Some (edit_edge edit).source) (at_target : slice_get vs t ≡ Some (edit_edge edit).target) where
  pub noted_more : around ≡ map (neighbours (take i edits)) vs → new ≡ noted i edit s t around → new ≡ map (neighbours (take (i + 1) edits)) vs
  noted_more before is =
      let count : i ≡ length (take i edits) = sym (length-take-le i edits (omega (arith, within))) in
      let more : take i edits ++ edit ∷ [] ≡ take (i + 1) edits = ap (λ e. take i edits ++ e ∷ []) read ∙ sym (take_more edits i edit within) in
      is
      ∙ ap (noted i edit s t) before
      ∙ ap (λ n. noted n edit s t (map (neighbours (take i edits)) vs)) count
      ∙ noted_is (take i edits) edit vs s t once at_source at_target
      ∙ ap (λ es. map (neighbours es) vs) more

-- the same of what the code keeps
module _ (edits : List Edit) (edit : Edit) (vs : List Vertex) (i s t : ℕ) (links new_links : List Link) (es new : List Ends) (once : IsDistinct is_same_vertex vs)
    (within : i < length edits) (read : edit ≡ get_or edits i edit)
    (at_source : slice_get vs s ≡ Some (edit_edge edit).source) (at_target : slice_get vs t ≡ Some (edit_edge edit).target)
    (count : length links ≡ i) (kept : AreAround links es (map (neighbours (take i edits)) vs)) where
  abbrev before : List Neighbours
  before = map (neighbours (take i edits)) vs

  abbrev linked : List Link
  linked = links ++ link_of (edit_edge edit).name (edit_edge edit).position s t es ∷ []

  as_many : length es ≡ length vs
  as_many = around_count links es before kept ∙ length-map vs (neighbours (take i edits))

  source_set : AreAround linked (with_last_at s i es) (with_child_at s (child i (edit_edge edit)) before)
  source_set =
      around_set linked es before s (record { last = i + 1; parents = (ends_at es s).parents }) (record { children = (at before s).children ++ child i (edit_edge edit) ∷ []; parents = (at before s).parents })
      (around_pushed links (link_of (edit_edge edit).name (edit_edge edit).position s t es) es before kept)
      (child_linked links (ends_at es s) (at before s) (edit_edge edit).name (edit_edge edit).position t i count
      (around_at links es before s no_ends no_neighbours kept (omega (arith, as_many, slice_get_within vs s _ at_source))))

  both_set : AreAround linked (with_parent_at t i (with_last_at s i es)) (with_parent_to t i (with_child_at s (child i (edit_edge edit)) before))
  both_set =
      let first = with_last_at s i es in
      let second = with_child_at s (child i (edit_edge edit)) before in
      let inside : t < length first = omega (arith, as_many, slice_get_within vs t _ at_target, length-set es s (record { last = i + 1; parents = (ends_at es s).parents })) in
      let here = around_at linked first second t no_ends no_neighbours source_set inside in
      around_set linked first second t (record { last = (ends_at first t).last; parents = with_parent (ends_at first t).parents i })
      (record { children = (at second t).children; parents = with_parent (at second t).parents i }) source_set (here.0, ap (λ p. with_parent p i) here.1)

  kept_noted : AreAround linked (ends_noted i (edit_kind edit) s t es) (noted i edit s t before)
  kept_noted = by_kind (is_insertion (edit_kind edit)) where
    by_kind : (b : Bool) → AreAround linked (cond b (with_parent_at t i (with_last_at s i es)) es) (cond b (with_parent_to t i (with_child_at s (child i (edit_edge edit)) before)) before)
    by_kind true = both_set
    by_kind false = around_pushed links (link_of (edit_edge edit).name (edit_edge edit).position s t es) es before kept

  pub kept_more : new_links ≡ linked → new ≡ ends_noted i (edit_kind edit) s t es → AreAround new_links new (map (neighbours (take (i + 1) edits)) vs)
  kept_more links_are are =
      subst (λ ls. AreAround ls new (map (neighbours (take (i + 1) edits)) vs)) (sym links_are)
      (subst (λ xs. AreAround linked xs (map (neighbours (take (i + 1) edits)) vs)) (sym are)
      (subst (AreAround linked (ends_noted i (edit_kind edit) s t es)) (noted_more edits edit vs i s t before (noted i edit s t before) once within read at_source at_target refl refl) kept_noted))

  -- a slice that is written back whole
  pub whole : (len : ℕ) (rest : List Ends) → len ≡ length es → AreAround new_links new (map (neighbours (take (i + 1) edits)) vs)
      → AreAround new_links (take len (new ++ rest)) (map (neighbours (take (i + 1) edits)) vs)
  whole len rest is after_is =
      let same : length new ≡ length vs = around_count new_links new (map (neighbours (take (i + 1) edits)) vs) after_is ∙ length-map vs (neighbours (take (i + 1) edits)) in
      let all : len ≡ length new = is ∙ as_many ∙ sym same in
      subst (λ xs. AreAround new_links xs (map (neighbours (take (i + 1) edits)) vs)) (sym (ap (λ n. take n (new ++ rest)) all ∙ take-append_seam new rest)) after_is

-- what is read at an index
pub some_at : {X : Type 0} (xs : List X) (i : ℕ) → i < length xs → (x : X) × (slice_get xs i ≡ Some x)
some_at [] i within = absurd (omega (arith, within))
some_at (x ∷ xs) zero within = (x, refl)
some_at (x ∷ xs) (suc i) within = some_at xs i (omega (arith, within))

-- the vertex with a number
number_read : (table : Table) (n : ℕ) (v : Vertex) → IsNumber table n → vertex_at table n ≡ v → slice_get table.vertices n ≡ Some v
number_read table n v within is =
    let found = some_at table.vertices n within in
    found.1 ∙ ap (λ (u : Vertex). Some u) (sym (ap vertex_or_root found.1) ∙ is)

pub number_within : (f : Vertex → Neighbours) (links : List Link) (table : Table) (es : List Ends) (n : ℕ) → IsNumber table n → AreAround links es (map f table.vertices) → n < length es
number_within f links table es n within are = omega (arith, within, around_count links es (map f table.vertices) are, length-map table.vertices f)

-- one more edit of a table, as its parts are read
module _ (table : Table) (i s t : ℕ) (kind : EditKind) (name : Name) (position : Position) (links new_links : List Link) (es new : List Ends) where
  pub gathered_more : IsDistinct is_same_vertex table.vertices → IsIndex table i → IsNumber table s → vertex_at table s ≡ (edge_at table i).source → IsNumber table t → vertex_at table t ≡ (edge_at table i).target
      → name ≡ (edge_at table i).name → position ≡ (edge_at table i).position → kind ≡ kind_at table i → length links ≡ i → AreAround links es (map (neighbours (take i table.edits)) table.vertices)
      → new_links ≡ links ++ link_of name position s t es ∷ [] → new ≡ ends_noted i kind s t es → (len : ℕ) (rest : List Ends) → len ≡ length es
      → AreAround new_links (take len (new ++ rest)) (map (neighbours (take (i + 1) table.edits)) table.vertices)
  gathered_more once within of_s source_is of_t target_is name_is position_is kind_is count kept linked noted_now len rest lengths =
      let found = some_at table.edits i within in
      let edit = found.0 in
      let read : edit ≡ get_or table.edits i edit = sym (get_or_from_slice_get table.edits i edit edit found.1) in
      let at_source = number_read table s (edit_edge edit).source of_s (source_is ∙ ap (λ (o : Option Edit). (edge_or_none o).source) found.1) in
      let at_target = number_read table t (edit_edge edit).target of_t (target_is ∙ ap (λ (o : Option Edit). (edge_or_none o).target) found.1) in
      let same_name = name_is ∙ ap (λ (o : Option Edit). (edge_or_none o).name) found.1 in
      let same_position = position_is ∙ ap (λ (o : Option Edit). (edge_or_none o).position) found.1 in
      let link_is = linked ∙ (λ j. links ++ link_of (same_name j) (same_position j) s t es ∷ []) in
      let ends_are = noted_now ∙ ap (λ (k : EditKind). ends_noted i k s t es) (kind_is ∙ ap kind_or_insert found.1) in
      let more = kept_more table.edits edit table.vertices i s t links new_links es new once within read at_source at_target count kept link_is ends_are in
      whole table.edits edit table.vertices i s t links new_links es new once within read at_source at_target count kept len rest lengths more

pub nothing_noted : (vs : List Vertex) → replicate (length vs) no_neighbours ≡ map (neighbours []) vs
nothing_noted [] = refl
nothing_noted (v ∷ vs) = ap (λ ns. no_neighbours ∷ ns) (nothing_noted vs)
