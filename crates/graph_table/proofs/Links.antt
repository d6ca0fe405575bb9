-- The links of a table: one for each edit, which tells its edge.
use Rattle.std.proofs.Common.{◌≡◌, ℕ, zero, suc, ◌<◌, List, [], ◌∷◌, ◌++◌, length, slice_get, slice_index_or, Some, sym, ap, subst, ◌∙◌, arith}
use Rattle.std.proofs.lemmas.Option.{slice_get_within}
use Rattle.graph_table.specs.declared.link.Link.{Link}
use Rattle.graph_table.specs.Table.{Table}
use Rattle.graph_table.specs.Parts.{AreLinks, TellsEdge, TellEdges}
use Rattle.graph_table.proofs.Chains.{link_read}
use Rattle.graph_table.proofs.Gathered.{some_at}

-- what holds of each link and its index holds with one more
pushed : (P : ℕ → Link → Type 0) (links : List Link) (l : Link) → ((k : ℕ) (link : Link) → slice_get links k ≡ Some link → P k link) → P (length links) l
    → (k : ℕ) (link : Link) → slice_get (links ++ l ∷ []) k ≡ Some link → P k link
pushed P [] l each last zero link is = let one : l ≡ link = cc in subst (P 0) one last
pushed P [] l each last (suc k) link is = absurd cc
pushed P (x ∷ links) l each last zero link is = each zero link is
pushed P (x ∷ links) l each last (suc k) link is = pushed (λ n. P (suc n)) links l (λ n. each (suc n)) last k link is

pub no_edges : (table : Table) (links : List Link) → links ≡ [] → TellEdges table links
no_edges table links none k link there = absurd (omega (arith, slice_get_within links k link there, ap length none))

-- one more link
pub edges_more : (table : Table) (links more : List Link) (l : Link) (i : ℕ) → length links ≡ i → more ≡ links ++ l ∷ [] → TellsEdge table i l
    → TellEdges table links → TellEdges table more
edges_more table links more l i count is tells so_far k link there =
    pushed (TellsEdge table) links l so_far (subst (λ n. TellsEdge table n l) (sym count) tells) k link (ap (λ (ls : List Link). slice_get ls k) (sym is) ∙ there)

-- a link tells the edge at its index
pub edge_told : (table view : Table) (links : List Link) (index : ℕ) (link : Link) → table ≡ view → AreLinks table links → index < length view.edits
    → link ≡ slice_index_or links index link → TellsEdge view index link
edge_told table view links index link is are within read =
    let inside : index < length table.edits = subst (λ (v : Table). index < length v.edits) (sym is) within in
    let found = some_at links index (omega (arith, inside, are.count)) in
    let same : link ≡ found.0 = read ∙ link_read links index found.0 link found.1 in
    subst (λ v. TellsEdge v index link) is (subst (TellsEdge table index) (sym same) (are.edges index found.0 found.1))
