-- What a table that is read tells of the live edges.
use Rattle.std.proofs.Common.{◌≡◌, ℕ, suc, ◌+◌, ◌<◌, Bool, true, false, cond, List, [], ◌∷◌, length, get_or, slice_get, map, reverse, refl, sym, ap, subst, ◌∙◌, arith}
use Rattle.std.specs.Prelude.{◌&&◌}
use Rattle.std.specs.List.{AllByRecursion}
use Rattle.std.proofs.lemmas.List.{length-map}
use Rattle.grove_sorts.specs.declared.position.Position.{Position}
use Rattle.grove_edits.specs.declared.vertex.Vertex.{Vertex}
use Rattle.grove_edits.specs.declared.edge.Edge.{Edge}
use Rattle.grove_edits.specs.declared.edit.Edit.{Edit}
use Rattle.grove_edits.specs.Edit.{edit_edge, edit_kind}
use Rattle.graph_words.specs.Few.{first_two}
use Rattle.graph_words.specs.Live.{parents_of, children_of}
use Rattle.grove_edits.specs.Vertex.{is_same_vertex}
use Rattle.grove_sorts.specs.Position.{is_same_position}
use Rattle.graph_table.specs.declared.link.Link.{Link}
use Rattle.graph_table.specs.Table.{Table, inserted, live, is_insertion, edge_at, edge_or_none, vertex_at, vertex_or_root, few_at, IsNumber, IsIndex}
use Rattle.graph_table.specs.Chain.{IsChain, IsChained, IsAround, AreAround}
use Rattle.graph_table.specs.Around.{Child, Ends, no_neighbours, first_indices, child, indices_at, leads_from, children_from, parents_from, neighbours}
use Rattle.graph_table.specs.declared.parents.Parents.{Parents}
use Rattle.graph_table.specs.ParentIndices.{AreIndices}
use Rattle.graph_table.proofs.ParentIndices.{are_indices}
use Rattle.graph_table.proofs.Gathered.{some_at, read_number}
use Rattle.graph_table.proofs.Chains.{around_at, around_count, indices_back}

around_read : (table : Table) (links : List Link) (around : List Ends) → AreAround links around (map (neighbours table.edits) table.vertices) → (n : ℕ) → IsNumber table n
    → (here : Ends) → here ≡ get_or around n here → IsAround links here (neighbours table.edits (vertex_at table n))
around_read table links around are n within here read =
    let found = some_at table.vertices n within in
    let count = around_count links around (map (neighbours table.edits) table.vertices) are ∙ length-map table.vertices (neighbours table.edits) in
    let told = around_at links around (map (neighbours table.edits) table.vertices) n here no_neighbours are (omega (arith, count, within)) in
    let is : get_or (map (neighbours table.edits) table.vertices) n no_neighbours ≡ neighbours table.edits (vertex_at table n) =
    read_number (neighbours table.edits) table.vertices n found.0 no_neighbours found.1 ∙ sym (ap (λ o. neighbours table.edits (vertex_or_root o)) found.1) in
    subst (λ e. IsAround links e (neighbours table.edits (vertex_at table n))) (sym read) (subst (IsAround links (get_or around n here)) is told)

-- ---- edges by index

-- the edits are those of the table from an index on
abbrev Begins : Table → ℕ → List Edit → Type 0
Begins table n edits = (i : ℕ) → slice_get table.edits (n + i) ≡ slice_get edits i

begins_next : (table : Table) (n : ℕ) (edit : Edit) (edits : List Edit) → Begins table n (edit ∷ edits) → Begins table (suc n) edits
begins_next table n edit edits begins i =
    let e : suc n + i ≡ n + suc i = omega arith in
    ap (slice_get table.edits) e ∙ begins (suc i)

begins_here : (table : Table) (n : ℕ) (edit : Edit) (edits : List Edit) → Begins table n (edit ∷ edits) → edge_at table n ≡ edit_edge edit
begins_here table n edit edits begins =
    let e : n ≡ n + 0 = omega arith in
    ap edge_or_none (ap (slice_get table.edits) e ∙ begins 0)

begins_all : (table : Table) → Begins table 0 table.edits
begins_all table i =
    let e : 0 + i ≡ i = omega arith in
    ap (slice_get table.edits) e

next_to : (table : Table) (v : Vertex) (n : ℕ) (edge : Edge) (rest : List ℕ) (more : List Edge) → edge_at table n ≡ edge → map (edge_at table) rest ≡ parents_of v more
    → (i t : Bool) → is_same_vertex edge.target v ≡ t → map (edge_at table) (cond (i && t) (n ∷ rest) rest) ≡ parents_of v (cond i (edge ∷ more) more)
next_to table v n edge rest more here same true true test = (λ j. here j ∷ same j) ∙ sym (ap (λ b. cond b (edge ∷ parents_of v more) (parents_of v more)) test)
next_to table v n edge rest more here same true false test = same ∙ sym (ap (λ b. cond b (edge ∷ parents_of v more) (parents_of v more)) test)
next_to table v n edge rest more here same false t test = same

edges_to : (table : Table) (v : Vertex) (n : ℕ) (edits : List Edit) → Begins table n edits → map (edge_at table) (parents_from n v edits) ≡ parents_of v (inserted edits)
edges_to table v n [] begins = refl
edges_to table v n (x ∷ edits) begins =
    next_to table v n (edit_edge x) (parents_from (suc n) v edits) (inserted edits) (begins_here table n x edits begins)
    (edges_to table v (suc n) edits (begins_next table n x edits begins))
    (is_insertion (edit_kind x)) (is_same_vertex (edit_edge x).target v) refl

few_first : (table : Table) (is : List ℕ) → few_at table (first_indices is) ≡ first_two (map (edge_at table) is)
few_first table [] = refl
few_first table (i ∷ []) = refl
few_first table (i ∷ j ∷ is) = refl

pub few_read : (table : Table) (v : Vertex) → few_at table (neighbours table.edits v).parents ≡ first_two (parents_of v (live table))
few_read table v = few_first table (parents_from 0 v table.edits) ∙ ap first_two (edges_to table v 0 table.edits (begins_all table))

next_from : (table : Table) (v : Vertex) (p : Position) (n : ℕ) (edge : Edge) (rest : List Child) (more : List Edge) → edge_at table n ≡ edge
    → map (edge_at table) (indices_at p rest) ≡ children_of v p more
    → (i s q : Bool) → is_same_vertex edge.source v ≡ s → is_same_position edge.position p ≡ q
    → map (edge_at table) (indices_at p (cond (i && s) (child n edge ∷ rest) rest)) ≡ children_of v p (cond i (edge ∷ more) more)
next_from table v p n edge rest more here same true true true source place =
    ap (λ b. map (edge_at table) (cond b (n ∷ indices_at p rest) (indices_at p rest))) place
    ∙ (λ j. here j ∷ same j)
    ∙ sym (λ j. cond (source j && place j) (edge ∷ children_of v p more) (children_of v p more))
next_from table v p n edge rest more here same true true false source place =
    ap (λ b. map (edge_at table) (cond b (n ∷ indices_at p rest) (indices_at p rest))) place
    ∙ same
    ∙ sym (λ j. cond (source j && place j) (edge ∷ children_of v p more) (children_of v p more))
next_from table v p n edge rest more here same true false q source place =
    same ∙ sym (ap (λ b. cond (b && is_same_position edge.position p) (edge ∷ children_of v p more) (children_of v p more)) source)
next_from table v p n edge rest more here same false s q source place = same

edges_from : (table : Table) (v : Vertex) (p : Position) (n : ℕ) (edits : List Edit) → Begins table n edits
    → map (edge_at table) (indices_at p (children_from n v edits)) ≡ children_of v p (inserted edits)
edges_from table v p n [] begins = refl
edges_from table v p n (x ∷ edits) begins =
    next_from table v p n (edit_edge x) (children_from (suc n) v edits) (inserted edits) (begins_here table n x edits begins)
    (edges_from table v p (suc n) edits (begins_next table n x edits begins))
    (is_insertion (edit_kind x)) (is_same_vertex (edit_edge x).source v) (is_same_position (edit_edge x).position p) refl refl

children_read : (table : Table) (v : Vertex) (p : Position) → map (edge_at table) (indices_at p (neighbours table.edits v).children) ≡ children_of v p (live table)
children_read table v p = edges_from table v p 0 table.edits (begins_all table)

next_within : (m : ℕ) (p : Position) (n : ℕ) (edge : Edge) (rest : List Child) → n < m → AllByRecursion (λ i. i < m) (indices_at p rest)
    → (b q : Bool) → is_same_position edge.position p ≡ q → AllByRecursion (λ i. i < m) (indices_at p (cond b (child n edge ∷ rest) rest))
next_within m p n edge rest lt all true true place =
    subst (λ t. AllByRecursion (λ i. i < m) (cond t (n ∷ indices_at p rest) (indices_at p rest))) (sym place) (lt, all)
next_within m p n edge rest lt all true false place = subst (λ t. AllByRecursion (λ i. i < m) (cond t (n ∷ indices_at p rest) (indices_at p rest))) (sym place) all
next_within m p n edge rest lt all false q place = all

all_within : (m : ℕ) (v : Vertex) (p : Position) (n : ℕ) (edits : List Edit) → n + length edits ≡ m → AllByRecursion (λ i. i < m) (indices_at p (children_from n v edits))
all_within m v p n [] count = tt
all_within m v p n (x ∷ edits) count =
    next_within m p n (edit_edge x) (children_from (suc n) v edits) (omega (arith, count)) (all_within m v p (suc n) edits (omega (arith, count)))
    (leads_from v x) (is_same_position (edit_edge x).position p) refl

children_within : (table : Table) (v : Vertex) (p : Position) → AllByRecursion (IsIndex table) (indices_at p (neighbours table.edits v).children)
children_within table v p = all_within (length table.edits) v p 0 table.edits (omega arith)

-- ---- what is kept of the vertex with a number

module _ (table : Table) (links : List Link) (around : List Ends) (kept : AreAround links around (map (neighbours table.edits) table.vertices)) (n : ℕ) (within : IsNumber table n)
    (here : Ends) (read : here ≡ get_or around n here) where
  pub is_around : IsAround links here (neighbours table.edits (vertex_at table n))
  is_around = around_read table links around kept n within here read

  pub parents_told : few_at table here.parents ≡ first_two (parents_of (vertex_at table n) (live table))
  parents_told = ap (few_at table) is_around.1 ∙ few_read table (vertex_at table n)

  pub chained : IsChained links here.last
  chained = (reverse (neighbours table.edits (vertex_at table n)).children, is_around.0)

  pub indices_told : (p : Position) (out : List ℕ) → ((children : List Child) → IsChain links here.last children → out ≡ reverse (indices_at p children)) → out ≡ indices_at p (neighbours table.edits (vertex_at table n)).children
  indices_told p out told = told (reverse (neighbours table.edits (vertex_at table n)).children) is_around.0 ∙ indices_back p (neighbours table.edits (vertex_at table n)).children

  pub children_told : (p : Position) (out : List ℕ) → ((children : List Child) → IsChain links here.last children → out ≡ reverse (indices_at p children))
      → map (edge_at table) out ≡ children_of (vertex_at table n) p (live table)
  children_told p out told = ap (map (edge_at table)) (indices_told p out told) ∙ children_read table (vertex_at table n) p

  pub children_indexed : (p : Position) (out : List ℕ) → ((children : List Child) → IsChain links here.last children → out ≡ reverse (indices_at p children)) → AllByRecursion (IsIndex table) out
  children_indexed p out told = subst (AllByRecursion (IsIndex table)) (sym (indices_told p out told)) (children_within table (vertex_at table n) p)

pub indices_kept : (table : Table) (links : List Link) (around : List Ends) → AreAround links around (map (neighbours table.edits) table.vertices) → (n : ℕ) (x : Ends) (p : Parents) → IsNumber table n
    → x ≡ get_or around n x → p ≡ x.parents → AreIndices table p
indices_kept table links around kept n x p within at told =
    subst (AreIndices table) (sym (told ∙ (is_around table links around kept n within x at).1)) (are_indices table (vertex_at table n))

pub number_inside : (table : Table) (links : List Link) (around : List Ends) → AreAround links around (map (neighbours table.edits) table.vertices) → (n : ℕ) → IsNumber table n → n < length around
number_inside table links around kept n within =
    omega (arith, around_count links around (map (neighbours table.edits) table.vertices) kept, length-map table.vertices (neighbours table.edits), within)

-- what is kept of a table that its view shows
pub kept_in_view : (table graph : Table) (links : List Link) (around : List Ends) → table ≡ graph
    → AreAround links around (map (neighbours table.edits) table.vertices) → AreAround links around (map (neighbours graph.edits) graph.vertices)
kept_in_view table graph links around view kept = subst (λ (t : Table). AreAround links around (map (neighbours t.edits) t.vertices)) view kept
