-- Records are ordered as the edits that they stand for.
use Rattle.std.proofs.Common.{◌≡◌, ℕ, List, refl, sym, ap, ◌∙◌}
use Rattle.std.specs.declared.cmp.Ordering.{Ordering}
use Rattle.std.specs.declared.cmp.Ordering.TheVariants.{Less, Equal, Greater}
use Rattle.std.specs.Ordering.{is_lt, nat_cmp, ordering_then}
use Rattle.std.specs.Cmp.{IsTotalOrder, IsStrictWeakOrder}
use Rattle.std.proofs.lemmas.Cmp.{on_total, then_total, nat_cmp_total}
use Rattle.std.proofs.lemmas.List.Sorted.{ranks_by}
use Rattle.grove_sorts.specs.Position.{position_cmp}
use Rattle.grove_sorts.specs.contracts.position.PositionOrd.TheImpl as position_impl
use Rattle.grove_sorts.proofs.Orders.{cmp_is_position_cmp}
use Rattle.grove_names.specs.Name.{name_cmp}
use Rattle.grove_edits.specs.declared.vertex.Vertex.{Vertex}
use Rattle.grove_edits.specs.declared.edit.EditKind.{EditKind}
use Rattle.grove_edits.specs.declared.edit.EditKind.TheVariants.{Insert, Delete}
use Rattle.grove_edits.specs.contracts.edit.EditKindOrd.TheImpl as kind_impl
use Rattle.grove_edits.specs.Edit.{kind_number}
use Rattle.grove_edits.specs.Vertex.{vertex_cmp}
use Rattle.grove_edits.proofs.Orders.{edge_cmp_total}
use Rattle.grove_edits.proofs.Vertices.{vertex_cmp_itself}
use Rattle.edit_table.specs.declared.record.Record.{Record}
use Rattle.edit_table.specs.Records.{edge_of, numbered, record_cmp}

record_cmp_total : (vs : List Vertex) → IsTotalOrder (record_cmp vs)
record_cmp_total vs = then_total (on_total (edge_of vs) edge_cmp_total) (on_total (λ (r : Record). kind_number r.kind) nat_cmp_total)

pub records_rank : (vs : List Vertex) → IsStrictWeakOrder (λ x y. is_lt (record_cmp vs x y))
records_rank vs = ranks_by (record_cmp_total vs) (λ r. r)

-- numbers that are the same are those of one vertex
pub same_number : (vs : List Vertex) (a b : ℕ) → a ≡ b → Equal ≡ vertex_cmp (numbered vs a) (numbered vs b)
same_number vs a b same = sym (vertex_cmp_itself (numbered vs a)) ∙ ap (λ n. vertex_cmp (numbered vs a) (numbered vs n)) same

kind_cmp : (k l : EditKind) → kind_impl.ghosts.cmp k l ≡ nat_cmp (kind_number k) (kind_number l)
kind_cmp Insert Insert = refl
kind_cmp Insert Delete = refl
kind_cmp Delete Insert = refl
kind_cmp Delete Delete = refl

in_turn : (s p t k : Ordering) → ordering_then (ordering_then (ordering_then s p) t) k ≡ ordering_then (ordering_then s (ordering_then p t)) k
in_turn Less p t k = refl
in_turn Equal p t k = refl
in_turn Greater p t k = refl

-- the order of records that share a name, in the turns in which the code takes their parts
pub namesakes : (vs : List Vertex) (a b : Record) (s p t k first second all : Ordering) → name_cmp a.name b.name ≡ Equal
    → s ≡ vertex_cmp (numbered vs a.source) (numbered vs b.source) → p ≡ position_impl.ghosts.cmp a.position b.position
    → t ≡ vertex_cmp (numbered vs a.target) (numbered vs b.target) → k ≡ kind_impl.ghosts.cmp a.kind b.kind
    → first ≡ ordering_then s p → second ≡ ordering_then first t → all ≡ ordering_then second k → all ≡ record_cmp vs a b
namesakes vs a b s p t k first second all name source position target kind one two three =
    let positions : p ≡ position_cmp a.position b.position = position ∙ cmp_is_position_cmp a.position b.position in
    let kinds : k ≡ nat_cmp (kind_number a.kind) (kind_number b.kind) = kind ∙ kind_cmp a.kind b.kind in
    three ∙ ap (λ o. ordering_then o k) (two ∙ ap (λ o. ordering_then o t) one) ∙ in_turn s p t k
    ∙ (λ j. ordering_then (ordering_then (source j) (ordering_then (positions j) (target j))) (kinds j))
    ∙ ap (λ n. ordering_then (ordering_then n (ordering_then (vertex_cmp (numbered vs a.source) (numbered vs b.source)) (ordering_then (position_cmp a.position b.position) (vertex_cmp (numbered vs a.target) (numbered vs b.target))))) (nat_cmp (kind_number a.kind) (kind_number b.kind))) (sym name)
