-- Trees whose nodes are told one by one are marked.
use Rattle.std.proofs.Common.{◌≡◌, List, [], ◌∷◌, ◌++◌, length, Some, sym, ap, subst, ◌∙◌, append_assoc}
use Rattle.std.specs.Prelude.{slice_get}
use Rattle.std.specs.List.{AllByRecursion}
use Rattle.grove_edits.specs.declared.edge.Edge.{Edge}
use Rattle.grove_edits.specs.Edge.{IsWellFormed}
use Rattle.grove_edits.specs.Graph.{graph}
use Rattle.graph_words.specs.Whole.{AreLive}
use Rattle.grove_terms.specs.declared.node.Node.{Node}
use Rattle.grove_terms.specs.declared.node.LentNode.{LentNode}
use Rattle.grove_terms.specs.Lent.{node_of}
use Rattle.grove_terms.specs.Forest.{IsWellSorted}
use Rattle.grove_terms.proofs.OneGrove.{one_live}
use Rattle.grove_terms.proofs.WellSorted.{live_well_formed, stands_sorted}
use Rattle.type_core.specs.Typ.{Typ}
use Rattle.marking.specs.declared.added.Added.{Added}
use Rattle.marking.specs.Added.{with_added, marked_nodes}
use Rattle.marking.specs.Marking.{MarkedNode, marked_tree}
use Rattle.marking.specs.ByRows.{IsMarkedAlone}
use Rattle.marking.specs.Grove.{IsMarkedTree}
use Rattle.marking.specs.Reading.{meant, meant_nodes}
use Rattle.marking.specs.Numbers.{IsAddedOf, AreAddedOf}
use Rattle.marking.proofs.ByRows.{alone_right}
use Rattle.kept_records.specs.Kept.{Records, AreKept}
use Rattle.mark_incremental.specs.Standing.{KeptMarks, records_in}
use Rattle.kept_printer.specs.Above.{Above, up_to, node_told, above_after, nodes_told}
use Rattle.kept_printer.specs.Printed.{IsTreeOfMarks}
use Rattle.kept_printer.proofs.Told.{tree_told}

-- what is added to one more node
pub marked_more : (types : List Typ) (ns : List LentNode) (added : List Added) (n : LentNode) (a : Added) → slice_get ns (length added) ≡ Some n
    → meant_nodes types (marked_nodes ns (added ++ a ∷ [])) ≡ meant_nodes types (marked_nodes ns added) ++ meant types (with_added n a) ∷ []
marked_more types [] [] n a here = absurd cc
marked_more types [] (b ∷ added) n a here = absurd cc
marked_more types (m ∷ ns) [] n a here = let same : m ≡ n = cc in ap (λ (k : LentNode). meant types (with_added k a) ∷ []) same
marked_more types (m ∷ ns) (b ∷ added) n a here = ap (λ ms. meant types (with_added m b) ∷ ms) (marked_more types ns added n a here)

pub added_more : (types : List Typ) (added : List Added) (a : Added) → AreAddedOf types added → IsAddedOf types a → AreAddedOf types (added ++ a ∷ [])
added_more types [] a all is = (is, tt)
added_more types (b ∷ added) a all is = (all.0, added_more types added a all.1 is)

-- one more node is told
pub told_more : (types : List Typ) (records : Records) (ns : List LentNode) (added : List Added) (above then : List Above) (left rest : List Node) (n : LentNode) (a : Added) (whole : List MarkedNode)
    → slice_get ns (length added) ≡ Some n → left ≡ node_of n ∷ rest → meant types (with_added n a) ≡ node_told records (up_to (node_of n).depth above) (node_of n)
    → then ≡ above_after (meant types (with_added n a)) (up_to (node_of n).depth above) → meant_nodes types (marked_nodes ns added) ++ nodes_told records above left ≡ whole
    → meant_nodes types (marked_nodes ns (added ++ a ∷ [])) ++ nodes_told records then rest ≡ whole
told_more types records ns added above then left rest n a whole next is_left told is_then so_far =
    let m : MarkedNode = meant types (with_added n a) in
    let before : List MarkedNode = meant_nodes types (marked_nodes ns added) in
    let at : List Above = up_to (node_of n).depth above in
    let step : m ∷ nodes_told records then rest ≡ nodes_told records above left =
    ap (λ (xs : List Above). m ∷ nodes_told records xs rest) is_then ∙ ap (λ (k : MarkedNode). k ∷ nodes_told records (above_after k at) rest) told ∙ ap (nodes_told records above) (sym is_left) in
    ap (λ (ms : List MarkedNode). ms ++ nodes_told records then rest) (marked_more types ns added n a next)
    ∙ (append_assoc before (m ∷ []) (nodes_told records then rest) ∙ (ap (λ (ms : List MarkedNode). before ++ ms) step ∙ so_far))

-- a tree told so is marked
pub told_is_marked : (marks : KeptMarks) (nodes : List Node) (ms : List MarkedNode) → IsTreeOfMarks marks nodes → ms ≡ nodes_told (records_in marks) [] nodes → IsMarkedTree nodes ms
told_is_marked marks nodes ms is told =
    let g = is.graph in
    let forest = is.tree.forest in
    let edits = is.stand.edits in
    let live : List Edge = is.live in
    let same : is.stand.live ≡ live = one_live g is.stand.live live is.stand.are_live is.are_live in
    let of_edits : AreLive (graph edits) live = record {
      in_order = is.are_live.in_order;
      each = λ e h. is.are_live.each e (is.stand.made e ∙ h);
      no_other = λ e h. sym (is.stand.made e) ∙ is.are_live.no_other e h;
    } in
    let well : AllByRecursion IsWellFormed live = live_well_formed edits live of_edits in
    let sorted : IsWellSorted is.head forest = stands_sorted live is.head forest well is.tree.stands in
    let marked : ms ≡ marked_tree is.head forest =
    told ∙ ap (nodes_told (records_in marks) []) is.tree.listed
    ∙ tree_told g live is.are_live well (records_in marks) (subst (λ (l : List Edge). AreKept g l (records_in marks)) same is.stand.kept) is.head forest is.vertex is.outer is.tree.stands in
    record {
      head = is.head;
      forest = forest;
      well_sorted = sorted;
      listed = is.tree.listed;
      marks = subst (IsMarkedAlone is.head forest) (sym marked) (alone_right is.head forest sorted);
    }
