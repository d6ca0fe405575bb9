-- Edges that stand at places are live and well formed.
use Rattle.std.proofs.Common.{◌≡◌, ◌≢◌, true, List, [], ◌∷◌, get_or, filter, refl, sym, ap, ◌∙◌}
use Rattle.std.specs.Prelude.{◌&&◌, Option, None, Some}
use Rattle.std.specs.List.{All}
use Rattle.edge_lattice.specs.declared.state.State.TheVariants.{Absent, Live}
use Rattle.grove_names.specs.declared.name.Name.{Name}
use Rattle.grove_sorts.specs.declared.sort.Sort.{Sort}
use Rattle.grove_sorts.specs.declared.position.Position.{Position}
use Rattle.grove_sorts.proofs.Orders.{one_position}
use Rattle.grove_sorts.proofs.Rows.{places_found}
use Rattle.grove_edits.specs.declared.vertex.Vertex.{Vertex}
use Rattle.grove_edits.specs.declared.edge.Edge.{Edge}
use Rattle.grove_sorts.specs.declared.ctor.Ctor.{Ctor}
use Rattle.grove_sorts.specs.Ctor.{sort_at, sort_of_ctor, positions}
use Rattle.grove_edits.specs.Edge.{IsWellFormed}
use Rattle.grove_edits.specs.Graph.{Graph}
use Rattle.graph_words.specs.Live.{IsInEdgeOrder, holds_edge, children_of}
use Rattle.grove_edits.specs.Vertex.{is_same_vertex}
use Rattle.grove_sorts.specs.Position.{is_same_position}
use Rattle.grove_edits.proofs.Vertices.{same_vertex_exact}
use Rattle.grove_edits.proofs.WellFormed.{one_answer}
use Rattle.graph_words.specs.Whole.{AreLive}
use Rattle.graph_words.proofs.Ordered.{holds-filter, in_order-filter, same_lists}
use Rattle.grove_edits.specs.declared.act_fault.ActFault.{ActFault}
use Rattle.user_actions.specs.Faults.{first_some}
use Rattle.user_actions.specs.Checks.{other_sort, else_edges}
use Rattle.user_actions.specs.Carried.{carried}
use Rattle.user_actions.specs.Good.{AreWellFormed, AreOpening}
use Rattle.user_actions.specs.Lists.{GraphLists, AreListsOf}
use Rattle.user_actions.specs.Names.{is_same_name, edges_named}
use Rattle.graph_words.specs.Named.{AreNamed}
use Rattle.graph_words.specs.States.{is_live}
use Rattle.graph_words.proofs.Truths.{live_from_test}
use Rattle.user_actions.specs.NamedEdges.{is_live_in}
use Rattle.user_actions.proofs.GoodEdges.{parts_of}
use Rattle.user_actions.proofs.OnePlace.{entry_found, carried_is}
use Rattle.grove_sorts.proofs.Truths.{both_true, and_true, same_tests}
use Rattle.user_actions.proofs.Truths.{same_name_exact, same_name_itself}
use Rattle.user_actions.proofs.Openings.{held_at}
use Rattle.user_actions.proofs.PlainGraphs.{is_at}

pub live_well : (g : Graph) (live : List Edge) → AreWellFormed g → AreLive g live → (e : Edge) → holds_edge e live ≡ true → IsWellFormed e
live_well g live well is e held = well e (λ absent. let lives = is.no_other e held in let both : Live ≡ Absent = sym lives ∙ absent in cc)

pub all_well : (edges : List Edge) → ((e : Edge) → holds_edge e edges ≡ true → IsWellFormed e) → All IsWellFormed edges
all_well edges each k d lt = each (get_or edges k d) (held_at edges k d lt)

pub children_live : (live edges : List Edge) (v : Vertex) (p : Position) → edges ≡ children_of v p live → (e : Edge) → holds_edge e edges ≡ true → holds_edge e live ≡ true
children_live live edges v p at e held = (both_true (is_at v p e) (holds_edge e live) (sym (holds-filter (is_at v p) e live) ∙ ap (holds_edge e) (sym at) ∙ held)).1

pub children_well : (g : Graph) (live edges : List Edge) (v : Vertex) (p : Position) → AreWellFormed g → AreLive g live → edges ≡ children_of v p live → All IsWellFormed edges
children_well g live edges v p well is at = all_well edges (λ e held. live_well g live well is e (children_live live edges v p at e held))

pub no_sort : (o : Option Sort) → other_sort o None ≡ None
no_sort None = refl
no_sort (Some s) = refl

-- the fault of two rows is that of all rows that begin with them
pub two_tell : (a b : Option ActFault) (rest : List (Option ActFault)) (fault : ActFault) → first_some (a ∷ b ∷ []) ≡ Some fault → first_some (a ∷ b ∷ rest) ≡ Some fault
two_tell None None rest fault h = absurd cc
two_tell None (Some f) rest fault h = h
two_tell (Some f) b rest fault h = h

pub two_none : (a b : Option ActFault) → first_some (a ∷ b ∷ []) ≡ None → (a ≡ None) × (b ≡ None)
two_none None None h = (refl, refl)
two_none None (Some f) h = absurd cc
two_none (Some f) b h = absurd cc

-- ---- live edges with a name

pub named_live_is : (g : Graph) (lists : GraphLists) → AreListsOf g lists → (name : Name) (ns mv : List Edge) → AreNamed g name ns → mv ≡ filter (is_live_in g) ns → mv ≡ edges_named name lists.live
named_live_is g lists of name ns mv named is =
    is ∙ same_lists (filter (is_live_in g) ns) (edges_named name lists.live) (in_order-filter (is_live_in g) ns named.in_order) (in_order-filter (λ c. is_same_name c.name name) lists.live of.live.in_order)
    (λ e. holds-filter (is_live_in g) e ns ∙ same_tests (is_live_in g e && holds_edge e ns) (is_same_name e.name name && holds_edge e lists.live) (to e) (from e)
    ∙ sym (holds-filter (λ c. is_same_name c.name name) e lists.live))
  where
    to : (e : Edge) → (is_live_in g e && holds_edge e ns) ≡ true → (is_same_name e.name name && holds_edge e lists.live) ≡ true
    to e h =
        let parts = both_true (is_live_in g e) (holds_edge e ns) h in
        and_true (is_same_name e.name name) (holds_edge e lists.live) (ap (λ n. is_same_name n name) (named.no_other e parts.1).0 ∙ same_name_itself name) (of.live.each e (live_from_test (g e) parts.0))

    from : (e : Edge) → (is_same_name e.name name && holds_edge e lists.live) ≡ true → (is_live_in g e && holds_edge e ns) ≡ true
    from e h =
        let parts = both_true (is_same_name e.name name) (holds_edge e lists.live) h in
        let live = of.live.no_other e parts.1 in
        and_true (is_live_in g e) (holds_edge e ns) (ap is_live live) (named.each e (same_name_exact e.name name parts.0) (λ absent. let both : Live ≡ Absent = sym live ∙ absent in cc))

pub live_is_known : (g : Graph) (name : Name) (ns mv : List Edge) → AreNamed g name ns → mv ≡ filter (is_live_in g) ns → (e : Edge) → holds_edge e mv ≡ true → g e ≢ Absent
live_is_known g name ns mv named is e held =
    (named.no_other e (both_true (is_live_in g e) (holds_edge e ns) (sym (holds-filter (is_live_in g) e ns) ∙ ap (holds_edge e) (sym is) ∙ held)).1).1

-- what stands at a place has the sort that is wanted there
pub child_sort : (g : Graph) (live edges : List Edge) (v : Vertex) (p : Position) → AreWellFormed g → AreLive g live → edges ≡ children_of v p live → (e : Edge) → holds_edge e edges ≡ true → (wanted : Sort) → sort_at v.ctor p ≡ Some wanted
    → wanted ≡ sort_of_ctor e.target.ctor
child_sort g live edges v p well is at e held wanted sort =
    let parts = both_true (is_at v p e) (holds_edge e live) (sym (holds-filter (is_at v p) e live) ∙ ap (holds_edge e) (sym at) ∙ held) in
    let here = both_true (is_same_vertex e.source v) (is_same_position e.position p) parts.0 in
    let source : e.source ≡ v = same_vertex_exact e.source v here.0 in
    let position : e.position ≡ p = one_position e.position p here.1 in
    let own = (parts_of e (live_well g live well is e parts.1)).sort in
    let moved : sort_at v.ctor p ≡ Some (sort_of_ctor e.target.ctor) = ap (λ (w : Vertex). sort_at w.ctor p) (sym source) ∙ ap (sort_at e.source.ctor) (sym position) ∙ own in
    let both : Some wanted ≡ Some (sort_of_ctor e.target.ctor) = sym sort ∙ moved in
    cc

-- the same with rows between that tell nothing, and one that computes to the second
pub four_tell : (a b row : Option ActFault) → row ≡ b → (rest : List (Option ActFault)) (fault : ActFault) → first_some (a ∷ b ∷ []) ≡ Some fault → first_some (a ∷ None ∷ None ∷ row ∷ rest) ≡ Some fault
four_tell None None row is rest fault h = absurd cc
four_tell None (Some f) row is rest fault h = ap (λ o. first_some (o ∷ rest)) is ∙ h
four_tell (Some f) b row is rest fault h = h

-- an edge that is carried over is well formed, and the constructor that takes it over has its position for the sort of its target
pub carried_stands : (g : Graph) (live : List Edge) → AreWellFormed g → AreLive g live → (ctor : Ctor) (e c : Edge) → holds_edge c (carried ctor e live) ≡ true → IsWellFormed c × (sort_at ctor c.position ≡ Some (sort_of_ctor c.target.ctor))
carried_stands g live well are ctor e c held =
    let is = carried_is (positions e.target.ctor) ctor e.target e live c held in
    let good = live_well g live well are c is.live_edge in
    let parts = both_true (is_same_vertex c.source e.target) (is_same_position c.position is.entry.0) is.here in
    let source : c.source ≡ e.target = same_vertex_exact c.source e.target parts.0 in
    let position : c.position ≡ is.entry.0 = one_position c.position is.entry.0 parts.1 in
    let own = (parts_of c good).sort in
    let listed : sort_at e.target.ctor is.entry.0 ≡ Some is.entry.1 = entry_found e.target.ctor is.entry (positions e.target.ctor) is.listed (places_found e.target.ctor) in
    let moved : sort_at e.target.ctor is.entry.0 ≡ Some (sort_of_ctor c.target.ctor) = ap (λ (w : Vertex). sort_at w.ctor is.entry.0) (sym source) ∙ ap (sort_at c.source.ctor) (sym position) ∙ own in
    let same : Some is.entry.1 ≡ Some (sort_of_ctor c.target.ctor) = sym listed ∙ moved in
    (good, ap (sort_at ctor) position ∙ one_answer (sort_at ctor is.entry.0) is.entry.1 is.sorted ∙ same)

-- ---- the edges that a cut deletes

pub named_present_is : (g : Graph) (lists : GraphLists) → AreListsOf g lists → (name : Name) (ns : List Edge) → AreNamed g name ns → ns ≡ edges_named name lists.present
named_present_is g lists of name ns named =
    same_lists ns (edges_named name lists.present) named.in_order (in_order-filter (λ c. is_same_name c.name name) lists.present of.present.in_order)
    (λ e. same_tests (holds_edge e ns) (is_same_name e.name name && holds_edge e lists.present) (to e) (from e) ∙ sym (holds-filter (λ c. is_same_name c.name name) e lists.present))
  where
    to : (e : Edge) → holds_edge e ns ≡ true → (is_same_name e.name name && holds_edge e lists.present) ≡ true
    to e h =
        let facts = named.no_other e h in
        and_true (is_same_name e.name name) (holds_edge e lists.present) (ap (λ n. is_same_name n name) facts.0 ∙ same_name_itself name) (of.present.each e facts.1)

    from : (e : Edge) → (is_same_name e.name name && holds_edge e lists.present) ≡ true → holds_edge e ns ≡ true
    from e h =
        let parts = both_true (is_same_name e.name name) (holds_edge e lists.present) h in
        named.each e (same_name_exact e.name name parts.0) (of.present.no_other e parts.1)

pub opened_is : (g : Graph) (opening : List Edge) → AreOpening g opening → IsInEdgeOrder opening → (name : Name) (ns : List Edge) → AreNamed g name ns → filter (λ e. holds_edge e opening) ns ≡ edges_named name opening
opened_is g opening opened order name ns named =
    same_lists (filter (λ e. holds_edge e opening) ns) (edges_named name opening) (in_order-filter (λ e. holds_edge e opening) ns named.in_order) (in_order-filter (λ c. is_same_name c.name name) opening order)
    (λ e. holds-filter (λ x. holds_edge x opening) e ns ∙ same_tests (holds_edge e opening && holds_edge e ns) (is_same_name e.name name && holds_edge e opening) (to e) (from e)
    ∙ sym (holds-filter (λ c. is_same_name c.name name) e opening))
  where
    to : (e : Edge) → (holds_edge e opening && holds_edge e ns) ≡ true → (is_same_name e.name name && holds_edge e opening) ≡ true
    to e h =
        let parts = both_true (holds_edge e opening) (holds_edge e ns) h in
        and_true (is_same_name e.name name) (holds_edge e opening) (ap (λ n. is_same_name n name) (named.no_other e parts.1).0 ∙ same_name_itself name) parts.0

    from : (e : Edge) → (is_same_name e.name name && holds_edge e opening) ≡ true → (holds_edge e opening && holds_edge e ns) ≡ true
    from e h =
        let parts = both_true (is_same_name e.name name) (holds_edge e opening) h in
        and_true (holds_edge e opening) (holds_edge e ns) parts.1 (named.each e (same_name_exact e.name name parts.0) (opened e parts.1))

pub cut_known : (g : Graph) (opening : List Edge) (name : Name) (ns os : List Edge) → AreNamed g name ns → os ≡ filter (λ e. holds_edge e opening) ns → (e : Edge) → holds_edge e (else_edges os ns) ≡ true → g e ≢ Absent
cut_known g opening name ns [] named is e held = (named.no_other e held).1
cut_known g opening name ns (o ∷ os) named is e held =
    (named.no_other e (both_true (holds_edge e opening) (holds_edge e ns) (sym (holds-filter (λ x. holds_edge x opening) e ns) ∙ ap (holds_edge e) (sym is) ∙ held)).1).1
