use Rattle.std.proofs.Common.{◌≡◌, ◌<◌, ◌^◌, ◌∷◌, [], Some, length, slice_get, ap, ◌∙◌, arith}
use Rattle.std.proofs.lemmas.List.{length-append}
use Rattle.grove_edits.specs.declared.vertex.Vertex.{Vertex}
use Rattle.grove_edits.specs.Edit.{edit_edge}
use Rattle.grove_edits.specs.SpelledEdge.{spelled_vertex}
use Rattle.grove_edits.specs.SpelledEdit.{spelled_edit}
use Rattle.edit_table.specs.declared.record.Record.{Record}
use Rattle.edit_table.specs.Keys.{vertices_of, with_vertex}
use Rattle.edit_table.proofs.Lists.{begins_further, begins_inserted, still_stands_at, begins_alike}
use Rattle.edit_table.proofs.KeyEq.{key_eq}
use Rattle.edit_table.proofs.Keys.{plain_key_is, keys_after, vertex_numbered, vertices_after, IsKeyOf}
use Rattle.edit_table.proofs.Ends.{begins_with_before}
use Rattle.edit_table.proofs.Records.{pushed_edits, pushed_records, IsRecordOf}
use Rattle.edit_table.proofs.numbering.push_record.Goals as goal

abbrev source : goal.After-target_number-arg-3-1 → Vertex
source c = (edit_edge (spelled_edit c.args.edit.now)).source

key_is : (c : goal.After-target_number-arg-3-1) → IsKeyOf c.args.ctors.now.keys c.source_key.result (source c)
key_is c = plain_key_is c.args.ctors.now.keys c.source_key.result (source c) c.requires.keys_are.ctors_are c.source_key.ensures

pub target_number-requires : goal.target_number-requires
target_number-requires c =
    let found = c.in_ok-source.ensures in
    keys_after c.args.ctors.now.keys c.requires.keys_are.ctors_are c.source_key.result (source c) (key_is c) c.args.keys.now.keys c.source_number.new.keys.keys found.keys found.few c.requires.keys_are

pub returns-then-len-clause-keys_stay : goal.returns-then-len-clause-keys_stay
returns-then-len-clause-keys_stay c =
    begins_further c.target_number.new.keys.keys c.source_number.new.keys.keys c.args.keys.now.keys c.in_ok-target.ensures.keys_stay
    (begins_inserted key_eq c.source_number.new.keys.keys c.args.keys.now.keys c.source_key.result c.in_ok-source.ensures.keys)

pub returns-in_err-push-clause-keys_stay : goal.returns-in_err-push-clause-keys_stay
returns-in_err-push-clause-keys_stay c =
    begins_further c.target_number.new.keys.keys c.source_number.new.keys.keys c.args.keys.now.keys c.in_ok-target.ensures.keys_stay
    (begins_inserted key_eq c.source_number.new.keys.keys c.args.keys.now.keys c.source_key.result c.in_ok-source.ensures.keys)

abbrev pushed : goal.In_ok-push → Record
pushed c = record { name = c.name.result; source = c.in_ok-source.source; target = c.in_ok-target.target; position = c.position.result; kind = c.kind.result }

abbrev source_then : goal.In_ok-push → Vertex
source_then c = (edit_edge (spelled_edit c.args.edit.now)).source

key_is_then : (c : goal.In_ok-push) → IsKeyOf c.args.ctors.now.keys c.source_key.result (source_then c)
key_is_then c = plain_key_is c.args.ctors.now.keys c.source_key.result (source_then c) c.requires.keys_are.ctors_are c.source_key.ensures

source_vertices_then : (c : goal.In_ok-push) → vertices_of c.args.ctors.now.keys c.source_number.new.keys.keys ≡ with_vertex (source_then c) (vertices_of c.args.ctors.now.keys c.args.keys.now.keys)
source_vertices_then c =
    ap (vertices_of c.args.ctors.now.keys) c.in_ok-source.ensures.keys
    ∙ vertices_after c.args.ctors.now.keys c.requires.keys_are.ctors_are c.source_key.result (source_then c) (key_is_then c) c.args.keys.now.keys c.requires.keys_are

grown : (c : goal.In_ok-push) → vertices_of c.target_number.new.ctors.keys c.target_number.new.keys.keys
    ≡ with_vertex (edit_edge (spelled_edit c.args.edit.now)).target (with_vertex (edit_edge (spelled_edit c.args.edit.now)).source (vertices_of c.args.ctors.now.keys c.args.keys.now.keys))
grown c =
    c.in_ok-target.ensures.vertices ∙ ap (λ v. with_vertex v (vertices_of c.args.ctors.now.keys c.source_number.new.keys.keys)) c.target.ensures
    ∙ ap (with_vertex (edit_edge (spelled_edit c.args.edit.now)).target) (source_vertices_then c)

source_at : (c : goal.In_ok-push) → slice_get (vertices_of c.target_number.new.ctors.keys c.target_number.new.keys.keys) c.in_ok-source.source ≡ Some (edit_edge (spelled_edit c.args.edit.now)).source
source_at c =
    let between = vertices_of c.args.ctors.now.keys c.source_number.new.keys.keys in
    let ws = vertices_of c.target_number.new.ctors.keys c.target_number.new.keys.keys in
    still_stands_at ws between c.in_ok-source.source (source_then c)
    (begins_further ws (with_vertex (spelled_vertex c.target.result) between) between (begins_alike ws (with_vertex (spelled_vertex c.target.result) between) c.in_ok-target.ensures.vertices) (begins_with_before (spelled_vertex c.target.result) between))
    (vertex_numbered c.args.ctors.now.keys c.requires.keys_are.ctors_are c.source_key.result (source_then c) (key_is_then c) c.source_number.new.keys.keys c.in_ok-source.source c.in_ok-source.ensures.number)

is_record : (c : goal.In_ok-push) → IsRecordOf (vertices_of c.target_number.new.ctors.keys c.target_number.new.keys.keys) (pushed c) (spelled_edit c.args.edit.now)
is_record c = record {
  name = c.name.ensures;
  source = source_at c;
  position = c.position.ensures;
  target = c.in_ok-target.ensures.number ∙ ap (λ (v : Vertex). Some v) c.target.ensures;
  kind = c.kind.ensures;
}

pub returns-clause-records : goal.returns-clause-records
returns-clause-records c =
    let long = ap length c.in_ok-push.ensures.items in
    let few : length c.push.new.self.items < 2 ^ 32 = omega (arith, long, length-append c.args.records.now.items (pushed c ∷ []), c.if-len.false, c.len.ensures) in
    pushed_records c.args.ctors.now.keys c.target_number.new.ctors.keys c.args.keys.now.keys c.target_number.new.keys.keys c.args.records.now.items c.push.new.self.items (pushed c) (spelled_edit c.args.edit.now)
    c.requires c.in_ok-target.ensures.keys (grown c) (is_record c) c.in_ok-push.ensures.items few

pub returns-clause-edits : goal.returns-clause-edits
returns-clause-edits c =
    pushed_edits c.args.ctors.now.keys c.target_number.new.ctors.keys c.args.keys.now.keys c.target_number.new.keys.keys c.args.records.now.items c.push.new.self.items (pushed c) (spelled_edit c.args.edit.now)
    c.requires c.in_ok-target.ensures.keys (grown c) (is_record c) c.in_ok-push.ensures.items

pub returns-clause-keys_stay : goal.returns-clause-keys_stay
returns-clause-keys_stay c =
    begins_further c.target_number.new.keys.keys c.source_number.new.keys.keys c.args.keys.now.keys c.in_ok-target.ensures.keys_stay
    (begins_inserted key_eq c.source_number.new.keys.keys c.args.keys.now.keys c.source_key.result c.in_ok-source.ensures.keys)
