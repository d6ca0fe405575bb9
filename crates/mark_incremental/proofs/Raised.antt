-- A graph in which one edge is raised, or put back.
use Rattle.std.proofs.Common.{◌≡◌, ◌<◌, Bool, true, false, cond, [], ◌∷◌, refl, sym, ap, ◌∙◌, arith}
use Rattle.std.specs.Prelude.{if◌then◌else◌, List}
use Rattle.edge_lattice.specs.declared.state.State.{State}
use Rattle.edge_lattice.specs.declared.state.State.TheVariants.{Absent, Live, Deleted}
use Rattle.edge_lattice.specs.State.{rank, state_join, IsAtMost}
use Rattle.grove_edits.specs.declared.edge.Edge.{Edge}
use Rattle.grove_edits.specs.declared.edit.Edit.{Edit}
use Rattle.grove_edits.specs.declared.edit.EditKind.{EditKind}
use Rattle.grove_edits.specs.declared.edit.EditKind.TheVariants.{Insert, Delete}
use Rattle.grove_edits.specs.Edit.{edit_edge, edit_kind}
use Rattle.grove_edits.specs.Graph.{Graph, graph, graph_join, is_same_edge, IsSame, state_of}
use Rattle.grove_edits.proofs.Orders.{one_edge}
use Rattle.grove_terms.proofs.InLive.{same_edge_itself}
use Rattle.graph_words.specs.declared.change.Change.TheVariants.{Same, Raised}
use Rattle.graph_words.specs.Change.{IsChange}
use Rattle.graph_words.specs.States.{with_state}

join-absent : (s : State) → state_join s (state_join Absent Absent) ≡ s
join-absent Absent = refl
join-absent Live = refl
join-absent Deleted = refl

join-asked : (s : State) (k : EditKind) → state_join s (state_join (state_of k) Absent) ≡ state_join s (state_of k)
join-asked Absent Insert = refl
join-asked Absent Delete = refl
join-asked Live Insert = refl
join-asked Live Delete = refl
join-asked Deleted Insert = refl
join-asked Deleted Delete = refl

join-less : (s : State) (k : EditKind) → rank s < rank (state_of k) → state_join s (state_of k) ≡ state_of k
join-less Absent Insert less = refl
join-less Absent Delete less = refl
join-less Live Insert less = absurd (omega arith)
join-less Live Delete less = refl
join-less Deleted Insert less = absurd (omega arith)
join-less Deleted Delete less = absurd (omega arith)

-- ---- an edit is raised

module _ (edit : Edit) (g h : Graph) (joined : IsSame h (graph_join g (graph (edit ∷ [])))) where
  abbrev e : Edge
  e = edit_edge edit

  abbrev k : EditKind
  k = edit_kind edit

  pub elsewhere : (x : Edge) → is_same_edge e x ≡ false → h x ≡ g x
  elsewhere x other = joined x ∙ ap (λ b. state_join (g x) (state_join (cond b (state_of k) Absent) Absent)) other ∙ join-absent (g x)

  pub there : h e ≡ state_join (g e) (state_of k)
  there = joined e ∙ ap (λ b. state_join (g e) (state_join (cond b (state_of k) Absent) Absent)) (same_edge_itself e) ∙ join-asked (g e) k

  pub raised_state : (old : State) → IsChange (g e) (state_of k) (Raised old) → h e ≡ state_of k
  raised_state old change = there ∙ join-less (g e) k change.1

  -- the state stays where it already was as much
  pub same_graph_from : IsChange (g e) (state_of k) Same → IsSame h g
  same_graph_from most x = by (is_same_edge e x) refl where
    join-most : (s t : State) → IsAtMost t s → state_join s t ≡ s
    join-most Absent Absent most = refl
    join-most Absent Live most = absurd (omega arith)
    join-most Absent Deleted most = absurd (omega arith)
    join-most Live Absent most = refl
    join-most Live Live most = refl
    join-most Live Deleted most = absurd (omega arith)
    join-most Deleted Absent most = refl
    join-most Deleted Live most = refl
    join-most Deleted Deleted most = refl

    by : (b : Bool) → is_same_edge e x ≡ b → h x ≡ g x
    by true same = ap h (sym (one_edge e x same)) ∙ there ∙ join-most (g e) (state_of k) most ∙ ap g (one_edge e x same)
    by false other = elsewhere x other

  -- with the old state put back it is the graph before
  pub put_back_same : (old : State) → IsChange (g (edit_edge edit)) (state_of (edit_kind edit)) (Raised old) → IsSame (with_state (edit_edge edit) old h) g
  put_back_same old change x = by (is_same_edge e x) refl where
    by : (b : Bool) → is_same_edge e x ≡ b → with_state e old h x ≡ g x
    by true same = ap (λ b. cond b old (h x)) same ∙ change.0 ∙ ap g (one_edge e x same)
    by false other = ap (λ b. cond b old (h x)) other ∙ elsewhere x other

-- ---- the graph of edits after one more

join-swapped : (s t : State) → state_join s (state_join t Absent) ≡ state_join t s
join-swapped Absent Absent = refl
join-swapped Absent Live = refl
join-swapped Absent Deleted = refl
join-swapped Live Absent = refl
join-swapped Live Live = refl
join-swapped Live Deleted = refl
join-swapped Deleted Absent = refl
join-swapped Deleted Live = refl
join-swapped Deleted Deleted = refl

pub raised_graph : (edits : List Edit) (edit : Edit) (g h : Graph) → IsSame g (graph edits) → IsSame h (graph_join g (graph (edit ∷ []))) → IsSame h (graph (edit ∷ edits))
raised_graph edits edit g h same joined x =
    joined x ∙ join-swapped (g x) (if is_same_edge (edit_edge edit) x then state_of (edit_kind edit) else Absent)
    ∙ ap (state_join (if is_same_edge (edit_edge edit) x then state_of (edit_kind edit) else Absent)) (same x)
