-- What a table that is read tells of its edits and vertices.
use Rattle.std.proofs.Common.{◌≡◌, ℕ, ◌<◌, ◌^◌, List, length, get_or, slice_get, Some, sym, ap, subst, ◌∙◌, arith}
use Rattle.std.specs.Prelude.{option_map}
use Rattle.std.proofs.lemmas.List.{length-map}
use Rattle.std.proofs.lemmas.Option.{slice_get-map}
use Rattle.grove_sorts.specs.declared.ctor.Ctor.{Ctor}
use Rattle.grove_edits.specs.declared.edge.Edge.{Edge}
use Rattle.grove_edits.specs.Vertex.{root}
use Rattle.edit_table.specs.declared.vertex_key.VertexKey.{VertexKey}
use Rattle.edit_table.specs.declared.record.Record.{Record}
use Rattle.edit_table.specs.Keys.{vertex_of, vertices_of}
use Rattle.edit_table.specs.Records.{edge_of, edit_of, edits_of, numbered, table_of, AreRecords, IsRecord}
use Rattle.edit_table.specs.Table.{Table, edge_at, edge_or_none, kind_at, kind_or_insert, vertex_at, vertex_or_root, IsIndex, IsNumber}
use Rattle.edit_table.proofs.Lists.{all_at, stands_within}
use Rattle.edit_table.proofs.Made.{made-edge, made-kind}

module _ (ctors : List Ctor) (keys : List VertexKey) (records : List Record) (t : Table) (is : table_of ctors keys records ≡ t) (are : AreRecords ctors keys records) where
  pub index_within : (i : ℕ) → IsIndex t i → i < length records
  index_within i within =
      let inside : i < length (edits_of (vertices_of ctors keys) records) = subst (λ s. IsIndex s i) (sym is) within in
      omega (arith, inside, length-map records (edit_of (vertices_of ctors keys)))

  pub index_fits : (i : ℕ) → IsIndex t i → i < 2 ^ 32
  index_fits i within = omega (arith, index_within i within, are.few)

  pub number_fits : (n : ℕ) → IsNumber t n → n < 2 ^ 32
  number_fits n within =
      let inside : n < length (vertices_of ctors keys) = subst (λ s. IsNumber s n) (sym is) within in
      omega (arith, inside, length-map keys (vertex_of ctors), are.keys_are.few)

  module _ (i : ℕ) (r : Record) (within : IsIndex t i) (read : r ≡ get_or records i r) where
    at : slice_get records i ≡ Some r
    at = stands_within records i r (index_within i within) ∙ ap (λ (x : Record). Some x) (sym read)

    is_record : IsRecord (vertices_of ctors keys) r
    is_record = all_at (IsRecord (vertices_of ctors keys)) records i r are.records_are.each at

    edit_at : slice_get (edits_of (vertices_of ctors keys) records) i ≡ Some (edit_of (vertices_of ctors keys) r)
    edit_at = slice_get-map (edit_of (vertices_of ctors keys)) records i ∙ ap (option_map (edit_of (vertices_of ctors keys))) at

    pub edge_read : edge_of (vertices_of ctors keys) r ≡ edge_at t i
    edge_read = sym (made-edge r.kind (edge_of (vertices_of ctors keys) r) is_record.good) ∙ ap edge_or_none (sym edit_at) ∙ ap (λ s. edge_at s i) is

    pub kind_read : r.kind ≡ kind_at t i
    kind_read = sym (made-kind r.kind (edge_of (vertices_of ctors keys) r) is_record.good) ∙ ap kind_or_insert (sym edit_at) ∙ ap (λ s. kind_at s i) is

    number_read : (n : ℕ) → n < length (vertices_of ctors keys) → vertex_at t n ≡ numbered (vertices_of ctors keys) n
    number_read n inside = sym (ap (λ s. vertex_at s n) is) ∙ ap vertex_or_root (stands_within (vertices_of ctors keys) n root inside)

    pub source_read : vertex_at t r.source ≡ (edge_at t i).source
    source_read = number_read r.source is_record.source_is ∙ ap (λ (e : Edge). e.source) edge_read

    pub target_read : vertex_at t r.target ≡ (edge_at t i).target
    target_read = number_read r.target is_record.target_is ∙ ap (λ (e : Edge). e.target) edge_read
