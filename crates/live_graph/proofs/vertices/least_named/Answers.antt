use Rattle.std.proofs.Common.{◌+◌, ℕ, Bool, false, get_or, take, sym, ap, ◌∙◌, arith}
use Rattle.std.specs.Prelude.{◌&&◌, ◌||◌}
use Rattle.std.specs.List.{list_any}
use Rattle.grove_edits.specs.declared.vertex.Vertex.{Vertex}
use Rattle.std.proofs.lemmas.List.{take_all}
use Rattle.std.proofs.lemmas.List.Folds.{list_any_more}
use Rattle.grove_edits.specs.Vertex.{is_same_vertex, root}
use Rattle.numbers_by_name.specs.ByName.{is_same_name}
use Rattle.live_graph.specs.Uses.{is_named_vertex}
use Rattle.live_graph.proofs.Ends.{or_assoc}
use Rattle.grove_sorts.proofs.Truths.{or_false}
use Rattle.live_graph.proofs.LeastTwo.{least_two_alike}
use Rattle.live_graph.proofs.vertices.least_named.Goals as goal

pub loop-number-init : goal.loop-number-init
loop-number-init c =
    least_two_alike (λ v. is_same_name root.name c.args.name && is_same_vertex root v) (λ v. (is_same_name root.name c.args.name && is_same_vertex root v) || false)
    (λ v. sym (or_false (is_same_name root.name c.args.name && is_same_vertex root v))) c.root_named-found.result c.root_named-found.ensures

pub loop-number-preserved : goal.loop-number-preserved
loop-number-preserved c =
    let p : Vertex → ℕ → Bool = λ v. is_named_vertex c.args.edges.now c.args.uses.now c.args.name v in
    let i = c.loop-number.number-index in
    let ns = c.args.numbers.now in
    let r : Vertex → Bool = λ v. is_same_name root.name c.args.name && is_same_vertex root v in
    least_two_alike (λ v. (r v || list_any (p v) (take i ns)) || p v (get_or ns i 0)) (λ v. r v || list_any (p v) (take (i + 1) ns))
    (λ v. or_assoc (r v) (list_any (p v) (take i ns)) (p v (get_or ns i 0)) ∙ ap (λ b. r v || b) (sym (list_any_more (p v) ns i 0 c.loop-number-test.true)))
    c.with_number-found.result (c.with_number-found.ensures (λ v. r v || list_any (p v) (take i ns)) c.loop-number.invariant)

pub returns : goal.returns
returns c =
    let p : Vertex → ℕ → Bool = λ v. is_named_vertex c.args.edges.now c.args.uses.now c.args.name v in
    let i = c.loop-number.number-index in
    let ns = c.args.numbers.now in
    let r : Vertex → Bool = λ v. is_same_name root.name c.args.name && is_same_vertex root v in
    least_two_alike (λ v. r v || list_any (p v) (take i ns)) (λ v. r v || list_any (p v) ns)
    (λ v. ap (λ ms. r v || list_any (p v) ms) (take_all i ns (omega arith)))
    c.loop-number.found c.loop-number.invariant
