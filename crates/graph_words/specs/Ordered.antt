-- Lists of edges in edge order, with one more edge, and with one fewer.
use Rattle.std.specs.Prelude.{not, List, [], ◌∷◌, filter}
use Rattle.std.specs.declared.cmp.Ordering.{Ordering}
use Rattle.std.specs.declared.cmp.Ordering.TheVariants.{Less, Equal, Greater}
use Rattle.grove_edits.specs.declared.edge.Edge.{Edge}
use Rattle.grove_edits.specs.Edge.{edge_cmp}
use Rattle.grove_edits.specs.Graph.{is_same_edge}

abbrev pub put_before : Ordering → Edge → Edge → List Edge → List Edge → List Edge
put_before Less e x xs put = e ∷ x ∷ xs
put_before Equal e x xs put = x ∷ xs
put_before Greater e x xs put = x ∷ put

-- the list with the edge at its place
abbrev pub with_edge : Edge → List Edge → List Edge
with_edge e [] = e ∷ []
with_edge e (x ∷ xs) = put_before (edge_cmp e x) e x xs (with_edge e xs)

-- the list without the edge
abbrev pub without_edge : Edge → List Edge → List Edge
without_edge e xs = filter (λ x. not (is_same_edge x e)) xs

abbrev pub with_edges : List Edge → List Edge → List Edge
with_edges [] xs = xs
with_edges (e ∷ es) xs = with_edge e (with_edges es xs)
