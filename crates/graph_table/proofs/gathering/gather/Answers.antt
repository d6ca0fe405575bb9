use Rattle.std.proofs.Common.{[], ◌∷◌, ◌++◌, ◌<◌, ◌∙◌, ap, length, replicate, sym, subst, map, arith}
use Rattle.std.proofs.lemmas.List.{length_push}
use Rattle.graph_table.specs.declared.link.Link.{Link}
use Rattle.graph_table.specs.Around.{no_ends, neighbours, ends_noted, link_of}
use Rattle.graph_table.specs.Chain.{AreAround}
use Rattle.graph_table.specs.Parts.{TellsEdge}
use Rattle.graph_table.proofs.Chains.{nothing_around}
use Rattle.graph_table.proofs.Gathered.{nothing_noted, gathered_more, number_within}
use Rattle.graph_table.proofs.Links.{no_edges, edges_more}
use Rattle.graph_table.proofs.gathering.gather.Goals as goal

pub loop-index-init : goal.loop-index-init
loop-index-init c =
    let vs = c.args.table.now.vertices in
    let empty = c.in_ok-links.ensures.items in
    let count = c.in_ok-around.ensures ∙ ap (λ n. replicate n no_ends) c.vertex_count.ensures.count in
    record {
      count = ap length empty;
      edges = no_edges c.args.table.now c.in_ok-links.links.items empty;
      kept = subst (λ es. AreAround c.in_ok-links.links.items es (map (neighbours []) vs)) (sym count)
          (subst (AreAround c.in_ok-links.links.items (replicate (length vs) no_ends)) (nothing_noted vs) (nothing_around c.in_ok-links.links.items (length vs)));
    }

pub link-requires : goal.link-requires
link-requires c =
    let within = number_within _ c.loop-index.links.items c.args.table.now c.loop-index.around.items c.source-source.result c.source-source.ensures.number c.loop-index.invariant.kept in
    omega (arith, within, ap length c.deref.ensures.value)

pub note-requires-clause-source : goal.note-requires-clause-source
note-requires-clause-source c =
    let within = number_within _ c.loop-index.links.items c.args.table.now c.loop-index.around.items c.source-source.result c.source-source.ensures.number c.loop-index.invariant.kept in
    omega (arith, within, ap length c.deref_mut.ensures.value)

pub note-requires-clause-target : goal.note-requires-clause-target
note-requires-clause-target c =
    let within = number_within _ c.loop-index.links.items c.args.table.now c.loop-index.around.items c.target-target.result c.target-target.ensures.number c.loop-index.invariant.kept in
    omega (arith, within, ap length c.deref_mut.ensures.value)

pub loop-index-preserved : goal.loop-index-preserved
loop-index-preserved c =
    let table = c.args.table.now in
    let i = c.loop-index.index in
    let s = c.source-source.result in
    let t = c.target-target.result in
    let links = c.loop-index.links.items in
    let es = c.loop-index.around.items in
    let linked = c.in_ok-push.ensures.items ∙ ap (λ (l : Link). links ++ l ∷ []) (c.in_ok-next.ensures ∙ ap (link_of c.name.result c.position.result s t) c.deref.ensures.value) in
    let within : i < length table.edits = omega (arith, c.loop-index-test.true, c.len-index-end.ensures) in
    let noted = c.note.ensures ∙ ap (ends_noted i c.kind.result s t) c.deref_mut.ensures.value in
    let tells : TellsEdge table i c.in_ok-next.next =
    subst (TellsEdge table i) (sym c.in_ok-next.ensures)
    (record { name = c.name.ensures; position = c.position.ensures; target = (c.target-target.ensures.number, c.target-target.ensures.target) }) in
    record {
      count = omega (arith, c.loop-index.invariant.count, ap length c.in_ok-push.ensures.items, length_push links c.in_ok-next.next);
      edges = edges_more table links c.push.new.self.items c.in_ok-next.next i c.loop-index.invariant.count c.in_ok-push.ensures.items tells c.loop-index.invariant.edges;
      kept = gathered_more table i s t c.kind.result c.name.result c.position.result links c.push.new.self.items es c.note.new.around c.vertex_count.ensures.vertices.once within
          c.source-source.ensures.number c.source-source.ensures.source c.target-target.ensures.number c.target-target.ensures.target c.name.ensures c.position.ensures c.kind.ensures
          c.loop-index.invariant.count c.loop-index.invariant.kept linked noted c.loop-index.around.len _ c.loop-index.around.ok.0;
    }
