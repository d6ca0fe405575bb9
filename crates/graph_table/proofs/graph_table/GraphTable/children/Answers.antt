use Rattle.std.proofs.Common.{arith, ◌≡◌, ℕ, sym, subst, List, reverse}
use Rattle.std.proofs.lemmas.Result.{on_ok_weaker}
use Rattle.graph_table.specs.declared.link.Link.{Link}
use Rattle.graph_table.specs.Around.{Child, indices_at}
use Rattle.graph_table.specs.Chain.{IsChain, IsChained}
use Rattle.graph_table.proofs.Lives.{live_in_view}
use Rattle.graph_table.proofs.Readings.{children_told, children_indexed, chained, number_inside, kept_in_view}
use Rattle.graph_table.proofs.graph_table.GraphTable.children.Goals as goal

-- what is said of the links and of the last child as they were passed is so of those that are kept
told_of : (links lent : List Link) (last read : ℕ) (P : List Link → ℕ → Type 0) → lent ≡ links → last ≡ read → P lent last → P links read
told_of links lent last read P one two told = subst (P links) two (subst (λ ls. P ls last) one told)

pub index-requires : goal.index-requires
index-requires c =
    let inside = c.self.inside in
    let kept = kept_in_view inside.table c.args.self.now inside.links.items inside.around.items c.self.view_is c.self.invariant.kept in
    omega (arith, number_inside c.args.self.now inside.links.items inside.around.items kept c.args.number c.requires, inside.around.ok.0)

pub children_at-requires : goal.children_at-requires
children_at-requires c =
    let inside = c.self.inside in
    let kept = kept_in_view inside.table c.args.self.now inside.links.items inside.around.items c.self.view_is c.self.invariant.kept in
    let here = chained c.args.self.now inside.links.items inside.around.items kept c.args.number c.requires c.index.result.now c.index.ensures in
    told_of c.deref.result.now inside.links.items c.index.result.now.last c.last.result IsChained (sym c.deref.ensures.value) (sym c.last.ensures) here

pub returns-clause-edges : goal.returns-clause-edges
returns-clause-edges c =
    let inside = c.self.inside in
    let table = c.args.self.now in
    let kept = kept_in_view inside.table table inside.links.items inside.around.items c.self.view_is c.self.invariant.kept in
    on_ok_weaker c.children_at.result
    (λ told. children_told table inside.links.items inside.around.items kept c.args.number c.requires c.index.result.now c.index.ensures c.args.position c.children_at.new.out.items
    (told_of inside.links.items c.deref.result.now c.last.result c.index.result.now.last
    (λ links last. (children : List Child) → IsChain links last children → c.children_at.new.out.items ≡ reverse (indices_at c.args.position children)) c.deref.ensures.value c.last.ensures told))
    c.children_at.ensures.indices

pub returns-clause-indices : goal.returns-clause-indices
returns-clause-indices c =
    let inside = c.self.inside in
    let table = c.args.self.now in
    let kept = kept_in_view inside.table table inside.links.items inside.around.items c.self.view_is c.self.invariant.kept in
    on_ok_weaker c.children_at.result
    (λ told. children_indexed table inside.links.items inside.around.items kept c.args.number c.requires c.index.result.now c.index.ensures c.args.position c.children_at.new.out.items
    (told_of inside.links.items c.deref.result.now c.last.result c.index.result.now.last
    (λ links last. (children : List Child) → IsChain links last children → c.children_at.new.out.items ≡ reverse (indices_at c.args.position children)) c.deref.ensures.value c.last.ensures told))
    c.children_at.ensures.indices

pub returns-clause-live : goal.returns-clause-live
returns-clause-live c = live_in_view c.self.inside.table c.args.self.now c.self.view_is c.self.invariant.in_order
