use Rattle.std.proofs.Common.{◌≡◌, ℕ, ◌+◌, ◌-◌, ◌*◌, ◌<◌, ◌≤◌, List, ◌∷◌, [], ◌++◌, length, drop, reverse, Some, sym, ap, subst, ◌∙◌, arith}
use Rattle.std.specs.List.{AllByRecursion}
use Rattle.std.proofs.lemmas.List.{reverse-append, length-set}
use Rattle.std.proofs.lemmas.Option.{slice_get-get_or}
use Rattle.grove_terms.specs.declared.node.LentNode.{LentNode}
use Rattle.grove_terms.specs.Lent.{node_of, nodes_of}
use Rattle.type_infer.specs.declared.rows.Places.{Places}
use Rattle.type_infer.specs.TreeEquations.{first_variable}
use Rattle.type_infer.specs.Rows.{place_list, ArePlacesOf}
use Rattle.type_infer.specs.Walking.{heads, five, places_under}
use Rattle.type_infer.proofs.Findings.{AllByRecursion-append}
use Rattle.type_infer.proofs.RowLemmas.{row_set}
use Rattle.type_infer.proofs.StepLemmas.{heads_here}
use Rattle.type_infer.proofs.positions.rows.Goals as goal

pub loop-line-preserved : goal.loop-line-preserved
loop-line-preserved c =
    let nodes = c.args.nodes.now in
    let line : ℕ = c.loop-line.line - 1 in
    let inv = c.loop-line.invariant in
    let left = c.take_off.new.firsts.items in
    let some : 0 < c.loop-line.line = c.loop-line-test.true in
    let next : line + 1 ≡ c.loop-line.line = omega arith in
    let short : line < length nodes = (let l = inv.line in omega arith) in
    let here = heads_here nodes c.index-nodes-line.result line (slice_get-get_or nodes line c.index-nodes-line.result short ∙ ap (λ (n : LentNode). Some n) (sym c.index-nodes-line.is)) in
    let firsts : reverse c.loop-line.firsts.items ≡ heads (drop (line + 1) (nodes_of nodes)) (line + 1) = inv.firsts ∙ ap (λ k. heads (drop k (nodes_of nodes)) k) (sym next) in
    let rest : reverse left ≡ drop (places_under (node_of c.index-nodes-line.result).what) (heads (drop (line + 1) (nodes_of nodes)) (line + 1)) =
    c.take_off.ensures.rest ∙ ap (λ k. drop k (reverse c.loop-line.firsts.items)) c.places_under.ensures ∙ ap (λ vs. drop (places_under (node_of c.index-nodes-line.result).what) vs) firsts in
    let within : line < length c.loop-line.rows.items = (let e = inv.count in let l = inv.line in omega arith) in
    record {
      count = length-set c.loop-line.rows.items line c.places_of.result ∙ inv.count;
      line = omega (arith, short);
      firsts = ap reverse c.in_ok-push.ensures.items ∙ reverse-append left (first_variable line ∷ []) ∙ ap (λ (vs : List ℕ). first_variable line ∷ vs) rest ∙ sym here;
      small = subst (AllByRecursion (λ v. v < 3 * length nodes)) (sym c.in_ok-push.ensures.items)
          (AllByRecursion-append (λ v. v < 3 * length nodes) left (first_variable line ∷ []) (c.take_off.ensures.within (3 * length nodes) inv.small) (omega (arith, short), tt));
      places = row_set (λ i r. place_list r ≡ five (heads (drop (i + 1) (nodes_of nodes)) (i + 1))) c.loop-line.rows.items line (length nodes) c.loop-line.line c.places_of.result within next
          (c.places_of.ensures.places ∙ ap five (ap reverse c.deref.ensures.value ∙ firsts)) inv.places;
      within = row_set (λ i r. ArePlacesOf (3 * length nodes) r) c.loop-line.rows.items line (length nodes) c.loop-line.line c.places_of.result within next
          (c.places_of.ensures.within (3 * length nodes) (omega (arith, short)) (subst (AllByRecursion (λ v. v < 3 * length nodes)) (sym c.deref.ensures.value) inv.small)) inv.within;
    }
