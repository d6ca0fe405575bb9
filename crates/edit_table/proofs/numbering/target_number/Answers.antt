use Rattle.std.proofs.Common.{refl, ap, ◌∙◌}
use Rattle.std.proofs.lemmas.Result.{on_ok_weaker}
use Rattle.grove_edits.specs.SpelledEdge.{spelled_vertex}
use Rattle.edit_table.specs.declared.vertex_key.VertexKey.{VertexKey}
use Rattle.edit_table.specs.Keys.{vertices_of, with_vertex, AreKeys}
use Rattle.edit_table.proofs.Keys.{same_vertices, keys_stay, vertices_after, keys_after, on_ok_both}
use Rattle.edit_table.proofs.numbering.target_number.Goals as goal

-- the keys before, with the constructors that were met since
before : (c : goal.After-key_number) → AreKeys c.ctor_key.new.ctors.keys c.args.keys.now.keys
before c = keys_stay c.ctor_key.new.ctors.keys c.args.ctors.now.keys c.in_ok-ctor.ensures.stay c.args.keys.now.keys c.in_ok-ctor.ensures.ctors c.requires

abbrev key : goal.After-key_number → VertexKey
key c = record { name = (spelled_vertex c.args.vertex.now).name; ctor = c.in_ok-ctor.ctor }

pub returns-clause-vertices : goal.returns-clause-vertices
returns-clause-vertices c =
    let ctors = c.ctor_key.new.ctors.keys in
    on_ok_weaker c.key_number.result
    (λ is. ap (vertices_of ctors) is
    ∙ vertices_after ctors c.in_ok-ctor.ensures.ctors (key c) (spelled_vertex c.args.vertex.now) (refl, c.in_ok-ctor.ensures.key) c.args.keys.now.keys (before c)
    ∙ ap (with_vertex (spelled_vertex c.args.vertex.now)) (same_vertices ctors c.args.ctors.now.keys c.in_ok-ctor.ensures.stay c.args.keys.now.keys c.requires))
    c.key_number.ensures.keys

pub returns-clause-keys : goal.returns-clause-keys
returns-clause-keys c =
    let ctors = c.ctor_key.new.ctors.keys in
    on_ok_both c.key_number.result
    (keys_after ctors c.in_ok-ctor.ensures.ctors (key c) (spelled_vertex c.args.vertex.now) (refl, c.in_ok-ctor.ensures.key) c.args.keys.now.keys c.key_number.new.keys.keys)
    c.key_number.ensures.keys c.key_number.ensures.few (before c)
