-- The edits that records stand for, as vertices and records are added.
use Rattle.std.proofs.Common.{◌≡◌, ℕ, ◌<◌, ◌^◌, true, List, [], ◌∷◌, ◌++◌, length, slice_get, Some, refl, sym, ap, subst, ◌∙◌, arith}
use Rattle.std.specs.Prelude.{Result, Ok, Err, OnErr}
use Rattle.std.specs.Result.{is_err}
use Rattle.std.specs.List.{AllByRecursion, IsDistinct}
use Rattle.indexmap.specs.IndexSet.{insert_key}
use Rattle.grove_sorts.specs.declared.ctor.Ctor.TheVariants.{Root}
use Rattle.std.proofs.lemmas.List.{length-append, map-append}
use Rattle.grove_sorts.specs.declared.ctor.Ctor.{Ctor}
use Rattle.grove_edits.specs.declared.vertex.Vertex.{Vertex}
use Rattle.grove_edits.specs.declared.edit.Edit.{Edit}
use Rattle.grove_edits.specs.declared.edit.EditKind.{EditKind}
use Rattle.grove_edits.specs.Edit.{edit_edge, edit_kind}
use Rattle.grove_edits.specs.Vertex.{root, is_same_vertex}
use Rattle.grove_edits.proofs.Orders.{edge_from_fields}
use Rattle.edit_table.specs.declared.vertex_key.VertexKey.{VertexKey}
use Rattle.edit_table.specs.declared.record.Record.{Record}
use Rattle.edit_table.specs.Made.{is_good, made}
use Rattle.edit_table.specs.Keys.{vertices_of, with_vertex, AreCtors, AreKeys, BeginsWith, root_key}
use Rattle.edit_table.specs.Records.{edge_of, edit_of, edits_of, table_of, AreOf, AreRecords, IsRecord}
use Rattle.edit_table.specs.Table.{AreEnds}
use Rattle.edit_table.proofs.Lists.{all_pushed, begins_alike, begins_further, read_at, read_stays, within_from}
use Rattle.edit_table.proofs.Keys.{keys_stay, same_vertices}
use Rattle.edit_table.proofs.Ctors.{root_stands}
use Rattle.edit_table.proofs.KeyEq.{key_eq}
use Rattle.edit_table.proofs.Ends.{begins_with_before, ends_after, ends_of_none}
use Rattle.edit_table.proofs.Made.{edit_is_good, made_again}

-- ---- more vertices

module _ (ws vs : List Vertex) (begins : BeginsWith ws vs) where
  longer : (n : ℕ) → n < length vs → n < length ws
  longer n within =
      let long : length ws ≡ length (vs ++ begins.0) = ap length begins.1 in
      omega (arith, long, length-append vs begins.0, within)

  edge_stays : (r : Record) → IsRecord vs r → edge_of ws r ≡ edge_of vs r
  edge_stays r is =
      edge_from_fields (edge_of ws r) (edge_of vs r) refl (read_stays ws vs r.source root begins is.source_is) refl (read_stays ws vs r.target root begins is.target_is)

  record_stays : (r : Record) → IsRecord vs r → IsRecord ws r
  record_stays r is = record { source_is = longer r.source is.source_is; target_is = longer r.target is.target_is; good = ap is_good (edge_stays r is) ∙ is.good }

  pub records_stay : (rs : List Record) → AllByRecursion (IsRecord vs) rs → AllByRecursion (IsRecord ws) rs
  records_stay [] are = tt
  records_stay (r ∷ rs) are = (record_stays r are.0, records_stay rs are.1)

  pub edits_stay : (rs : List Record) → AllByRecursion (IsRecord vs) rs → edits_of ws rs ≡ edits_of vs rs
  edits_stay [] are = refl
  edits_stay (r ∷ rs) are =
      let here : edit_of ws r ≡ edit_of vs r = ap (made r.kind) (edge_stays r are.0) in
      let rest = edits_stay rs are.1 in
      λ j. here j ∷ rest j

-- ---- one record more

-- the record is that of an edit, by the vertices with its numbers
pub record IsRecordOf (vs : List Vertex) (r : Record) (edit : Edit) : Type 0 where
  pub name : r.name ≡ (edit_edge edit).name
  pub source : slice_get vs r.source ≡ Some (edit_edge edit).source
  pub position : r.position ≡ (edit_edge edit).position
  pub target : slice_get vs r.target ≡ Some (edit_edge edit).target
  pub kind : r.kind ≡ edit_kind edit

module _ (vs : List Vertex) (r : Record) (edit : Edit) (is : IsRecordOf vs r edit) where
  edge_is : edge_of vs r ≡ edit_edge edit
  edge_is = edge_from_fields (edge_of vs r) (edit_edge edit) is.name (read_at vs r.source root (edit_edge edit).source is.source) is.position
      (read_at vs r.target root (edit_edge edit).target is.target)

  edit_is : edit_of vs r ≡ edit
  edit_is = ap (λ (k : EditKind). made k (edge_of vs r)) is.kind ∙ ap (made (edit_kind edit)) edge_is ∙ made_again edit

  record_is : IsRecord vs r
  record_is = record {
    source_is = within_from vs r.source (edit_edge edit).source is.source;
    target_is = within_from vs r.target (edit_edge edit).target is.target;
    good = ap is_good edge_is ∙ edit_is_good edit;
  }

module _ (ctors met : List Ctor) (keys more : List VertexKey) (records pushed : List Record) (r : Record) (edit : Edit)
    (are : AreRecords ctors keys records) (keys_are : AreKeys met more)
    (grown : vertices_of met more ≡ with_vertex (edit_edge edit).target (with_vertex (edit_edge edit).source (vertices_of ctors keys)))
    (is : IsRecordOf (vertices_of met more) r edit) (pushed_is : pushed ≡ records ++ r ∷ []) where
  begins : BeginsWith (vertices_of met more) (vertices_of ctors keys)
  begins = begins_further (vertices_of met more) between (vertices_of ctors keys)
      (begins_further (vertices_of met more) (with_vertex (edit_edge edit).target between) between (begins_alike (vertices_of met more) (with_vertex (edit_edge edit).target between) grown)
      (begins_with_before (edit_edge edit).target between))
      (begins_with_before (edit_edge edit).source (vertices_of ctors keys)) where
        between : List Vertex
        between = with_vertex (edit_edge edit).source (vertices_of ctors keys)

  pub pushed_edits : edits_of (vertices_of met more) pushed ≡ edits_of (vertices_of ctors keys) records ++ edit ∷ []
  pushed_edits =
      ap (edits_of (vertices_of met more)) pushed_is ∙ map-append (edit_of (vertices_of met more)) records (r ∷ [])
      ∙ ap (λ (x : Edit). edits_of (vertices_of met more) records ++ x ∷ []) (edit_is (vertices_of met more) r edit is)
      ∙ ap (λ xs. xs ++ edit ∷ []) (edits_stay (vertices_of met more) (vertices_of ctors keys) begins records are.records_are.each)

  pub pushed_records : length pushed < 2 ^ 32 → AreRecords met more pushed
  pushed_records few = record {
    keys_are = keys_are;
    records_are = record {
      once = keys_are.once;
      each = subst (AllByRecursion (IsRecord (vertices_of met more))) (sym pushed_is)
          (all_pushed (IsRecord (vertices_of met more)) records r (records_stay (vertices_of met more) (vertices_of ctors keys) begins records are.records_are.each)
          (record_is (vertices_of met more) r edit is));
    };
    few = few;
    ends = subst (λ es. AreEnds es (vertices_of met more)) (sym pushed_edits)
        (ends_after (edits_of (vertices_of ctors keys) records) edit (vertices_of ctors keys) (vertices_of met more) grown keys_are.once are.ends);
  }

-- ---- what a push that found no memory left

module _ (ctors met : List Ctor) (keys more : List VertexKey) (records : List Record) (met_are : AreCtors met) (begins : BeginsWith met ctors) (begin : BeginsWith more keys)
    (are : AreRecords ctors keys records) where
  same_table : table_of met keys records ≡ table_of ctors keys records
  same_table = ap (λ (vs : List Vertex). record { edits = edits_of vs records; vertices = vs }) (same_vertices met ctors begins keys are.keys_are)

  records_alike : AreRecords met keys records
  records_alike = record {
    keys_are = keys_stay met ctors begins keys met_are are.keys_are;
    records_are = subst (λ vs. AreOf vs records) (sym (same_vertices met ctors begins keys are.keys_are)) are.records_are;
    few = are.few;
    ends = subst (λ vs. AreEnds (edits_of vs records) vs) (sym (same_vertices met ctors begins keys are.keys_are)) are.ends;
  }

  pub table_back : (rest : List VertexKey) (same : List Record) → rest ≡ keys → same ≡ records → table_of met rest same ≡ table_of ctors keys records
  table_back rest same rest_is same_is = ap (λ ks. table_of met ks same) rest_is ∙ ap (table_of met keys) same_is ∙ same_table

  pub records_back : (rest : List VertexKey) (same : List Record) → rest ≡ keys → same ≡ records → AreRecords met rest same
  records_back rest same rest_is same_is = subst (λ ks. AreRecords met ks same) (sym rest_is) (subst (AreRecords met keys) (sym same_is) records_alike)

pub if_err : {X E : Type 0} (r : Result X E) {P : Type 0} → is_err r ≡ true → OnErr r P → P
if_err (Ok x) failed p = absurd cc
if_err (Err e) failed p = p

-- ---- no records

module _ (ctors : List Ctor) (none keys : List VertexKey) (records : List Record) (are : AreCtors ctors) (empty : none ≡ []) (one : keys ≡ insert_key key_eq none root_key) (no_records : records ≡ []) where
  key_alone : keys ≡ root_key ∷ []
  key_alone = one ∙ ap (λ ks. insert_key key_eq ks root_key) empty

  root_is : vertices_of ctors (root_key ∷ []) ≡ root ∷ []
  root_is = ap (λ (c : Ctor). record { name = record { author = 0; counter = 0 }; ctor = c } ∷ []) (read_at ctors 0 Root Root (root_stands ctors are))

  pub root_alone : vertices_of ctors keys ≡ root ∷ []
  root_alone = ap (vertices_of ctors) key_alone ∙ root_is

  alone : AreRecords ctors (root_key ∷ []) []
  alone = record {
    keys_are = record {
      ctors_are = are;
      have_ctors = (within_from ctors 0 Root (root_stands ctors are), tt);
      once = subst (IsDistinct is_same_vertex) (sym root_is) ends_of_none.once;
      few = omega arith;
      first = refl;
    };
    records_are = record { once = subst (IsDistinct is_same_vertex) (sym root_is) ends_of_none.once; each = tt };
    few = omega arith;
    ends = subst (AreEnds []) (sym root_is) ends_of_none;
  }

  pub first_records : AreRecords ctors keys records
  first_records = subst (λ ks. AreRecords ctors ks records) (sym key_alone) (subst (AreRecords ctors (root_key ∷ [])) (sym no_records) alone)
