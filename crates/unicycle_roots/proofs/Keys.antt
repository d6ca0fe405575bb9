-- What the code's maps and sets of vertices find.
use Rattle.std.proofs.Common.{◌≡◌, ℕ, Bool, true, false, cond, List, [], ◌∷◌, Some, refl, sym, ap, ◌∙◌}
use Rattle.std.specs.Prelude.{◌||◌}
use Rattle.std.specs.List.{list_any}
use Rattle.std.specs.Map.{lookup}
use Rattle.std.specs.BTreeMap.{is_at}
use Rattle.grove_edits.specs.declared.vertex.Vertex.{Vertex}
use Rattle.grove_edits.specs.contracts.vertex.VertexOrd.TheImpl as vertex_impl
use Rattle.grove_edits.proofs.Vertices.{same_vertex_laws, order_is_same_vertex}
use Rattle.grove_edits.specs.Vertex.{is_same_vertex, stands_in}
use Rattle.graph_words.specs.Met.{met_by}

-- the code's look-up finds the number of a vertex
pub lookup_is_met_by : (met : List (Vertex × ℕ)) (v : Vertex) → lookup (is_at (vertex_impl.ghosts.cmp v)) met ≡ met_by met v
lookup_is_met_by [] v = refl
lookup_is_met_by (e ∷ es) v =
    ap (λ b. cond b (Some e.1) (lookup (is_at (vertex_impl.ghosts.cmp v)) es)) (order_is_same_vertex v e.0) ∙ ap (cond (is_same_vertex v e.0) (Some e.1)) (lookup_is_met_by es v)

-- the code's set has a vertex where it stands among the keys
pub any_is_stands_in : (keys : List Vertex) (v : Vertex) → list_any (is_at (vertex_impl.ghosts.cmp v)) keys ≡ stands_in v keys
any_is_stands_in [] v = refl
any_is_stands_in (k ∷ ks) v =
    let here : is_at (vertex_impl.ghosts.cmp v) k ≡ is_same_vertex k v = order_is_same_vertex v k ∙ same_vertex_laws.symm v k in
    ap (λ b. b || list_any (is_at (vertex_impl.ghosts.cmp v)) ks) here ∙ ap (λ b. is_same_vertex k v || b) (any_is_stands_in ks v)

true_or : (b c : Bool) → cond b true c ≡ (b || c)
true_or true c = refl
true_or false c = refl

-- what an insertion says of the numbers
pub numbers_from_insert : (v q : Vertex) (number : ℕ) (before after : List (Vertex × ℕ))
    → lookup (is_at (vertex_impl.ghosts.cmp q)) after ≡ cond (is_at (vertex_impl.ghosts.cmp v) q) (Some number) (lookup (is_at (vertex_impl.ghosts.cmp q)) before)
    → met_by after q ≡ cond (is_same_vertex v q) (Some number) (met_by before q)
numbers_from_insert v q number before after changed =
    sym (lookup_is_met_by after q)
    ∙ changed
    ∙ ap (λ b. cond b (Some number) (lookup (is_at (vertex_impl.ghosts.cmp q)) before)) (order_is_same_vertex v q)
    ∙ ap (cond (is_same_vertex v q) (Some number)) (lookup_is_met_by before q)

-- what an insertion says of the vertices that stand in a set
pub keys_from_insert : (v q : Vertex) (before after : List Vertex)
    → list_any (is_at (vertex_impl.ghosts.cmp q)) after ≡ cond (is_at (vertex_impl.ghosts.cmp v) q) true (list_any (is_at (vertex_impl.ghosts.cmp q)) before)
    → stands_in q after ≡ (is_same_vertex v q || stands_in q before)
keys_from_insert v q before after changed =
    sym (any_is_stands_in after q)
    ∙ changed
    ∙ ap (λ b. cond b true (list_any (is_at (vertex_impl.ghosts.cmp q)) before)) (order_is_same_vertex v q)
    ∙ ap (cond (is_same_vertex v q) true) (any_is_stands_in before q)
    ∙ true_or (is_same_vertex v q) (stands_in q before)
