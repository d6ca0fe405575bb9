-- The table whose records were sorted, and of each edge the last was kept.
use Rattle.std.proofs.Common.{◌≤◌, List, length, arith}
use Rattle.std.specs.List.Sorted.{IsPermutation, IsSorted}
use Rattle.std.proofs.lemmas.List.Sorted.{IsPermutation-map, length_permutation}
use Rattle.grove_sorts.specs.declared.ctor.Ctor.{Ctor}
use Rattle.grove_edits.specs.declared.vertex.Vertex.{Vertex}
use Rattle.grove_edits.specs.Graph.{graph, IsCanonical}
use Rattle.grove_edits.proofs.Unique.{canonical_moved}
use Rattle.edit_table.specs.declared.vertex_key.VertexKey.{VertexKey}
use Rattle.edit_table.specs.declared.record.Record.{Record}
use Rattle.edit_table.specs.Keys.{vertices_of}
use Rattle.edit_table.specs.Records.{edit_of, edits_of, record_cmp, AreInOrder, AreOf, AreRecords}
use Rattle.edit_table.proofs.Ends.{ends_moved}
use Rattle.edit_table.proofs.KeptRecords.{records_moved}

module _ (ctors : List Ctor) (keys : List VertexKey) (old sorted new : List Record) (are : AreRecords ctors keys old) (moved : IsPermutation old sorted)
    (ascends : IsSorted (record_cmp (vertices_of ctors keys)) sorted)
    (canonical : (vs : List Vertex) → AreInOrder vs sorted → IsCanonical (graph (edits_of vs sorted)) (edits_of vs new))
    (records : (vs : List Vertex) → AreInOrder vs sorted → AreOf vs new) (fewer : length new ≤ length sorted) where
  in_order : AreInOrder (vertices_of ctors keys) sorted
  in_order = (records_moved (vertices_of ctors keys) old sorted moved are.records_are, ascends)

  pub is_canonical : IsCanonical (graph (edits_of (vertices_of ctors keys) old)) (edits_of (vertices_of ctors keys) new)
  is_canonical =
      canonical_moved (edits_of (vertices_of ctors keys) old) (edits_of (vertices_of ctors keys) sorted) (edits_of (vertices_of ctors keys) new)
      (IsPermutation-map (edit_of (vertices_of ctors keys)) old sorted moved) (canonical (vertices_of ctors keys) in_order)

  pub canonical_records : AreRecords ctors keys new
  canonical_records = record {
    keys_are = are.keys_are;
    records_are = records (vertices_of ctors keys) in_order;
    few = omega (arith, fewer, length_permutation old sorted moved, are.few);
    ends = ends_moved (edits_of (vertices_of ctors keys) old) (edits_of (vertices_of ctors keys) new) (vertices_of ctors keys) is_canonical.same are.ends;
  }
