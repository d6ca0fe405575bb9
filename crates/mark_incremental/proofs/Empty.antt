-- The marks of the empty graph: the record of its root.
use Rattle.std.proofs.Common.{◌≡◌, inl, inr, Bool, true, false, cond, List, [], Some, None, IfSome, is_some, refl, sym, ap, subst, ◌∙◌, arith}
use Rattle.std.specs.Option.{option_map}
use Rattle.edge_lattice.specs.declared.state.State.TheVariants.{Absent, Live}
use Rattle.grove_edits.specs.declared.vertex.Vertex.{Vertex}
use Rattle.grove_edits.specs.Vertex.{is_same_vertex, root}
use Rattle.grove_edits.specs.Graph.{Graph}
use Rattle.grove_edits.proofs.Vertices.{same_vertex_exact, same_vertex_itself}
use Rattle.graph_words.specs.declared.class.Class.TheVariants.{NoParent, Inner}
use Rattle.graph_words.specs.Class.{class}
use Rattle.graph_words.specs.Whole.{IsVertexOf}
use Rattle.grove_terms.specs.Forest.{none}
use Rattle.type_core.specs.Typ.{Typ}
use Rattle.ctx_table.specs.declared.ctx_id.CtxId.{CtxId}
use Rattle.ctx_table.specs.Context.{Context}
use Rattle.ctx_table.specs.CtxTable.{context_at, IsContextOf}
use Rattle.mark_step.specs.declared.node.Mark.TheVariants as mark
use Rattle.mark_step.specs.Scope.{scope_of, IsTyped}
use Rattle.kept_records.specs.Kept.{Kept, IsKeptOf, alone, kept_plain}
use Rattle.mark_store.specs.declared.record.Record.{Record}
use Rattle.mark_store.specs.Places.{Places, value_at}
use Rattle.mark_incremental.specs.Reading.{kept_by, IsRecordOf, records_at, AreRecordsOf}
use Rattle.mark_incremental.specs.Standing.{StandFor}

abbrev nothing_there : Graph
nothing_there e = Absent

-- the record of a vertex that is no expression and has no type
abbrev pub plain_record : CtxId → Record
plain_record id = record { ctx = id; mode = None; typ = None; mark = mark.None }

module _ (types : List Typ) (ctxs : List Context) (places : Places Record) (id : CtxId) (empty : context_at ctxs id ≡ []) (number : IsContextOf ctxs id)
    (values : (v : Vertex) → value_at places v ≡ cond (is_same_vertex root v) (Some (plain_record id)) None) where
  is_plain : kept_by types ctxs (plain_record id) ≡ kept_plain
  is_plain = ap (λ (c : Context). let k : Kept = record { scope = scope_of types c; wanted = None; typ = None; mark = mark.None } in k) empty

  at_root : records_at types ctxs places root ≡ Some kept_plain
  at_root = ap (option_map (kept_by types ctxs)) (values root ∙ ap (λ b. cond b (Some (plain_record id)) None) (same_vertex_itself root)) ∙ ap Some is_plain

  of_root : IsKeptOf [] root kept_plain
  of_root = record { above = []; forest = none; demanded = alone; stands = (outer, record { edges = refl; children = tt }, refl); is = refl } where
    outer : class [] root ≡ Inner → ⊥
    outer inner = let clash : NoParent ≡ Inner = inner in cc

  each : (v : Vertex) → IsVertexOf nothing_there v → (kept : Kept) × (records_at types ctxs places v ≡ Some kept) × IsKeptOf [] v kept
  each v (inl is) = subst (λ (x : Vertex). (kept : Kept) × (records_at types ctxs places x ≡ Some kept) × IsKeptOf [] x kept) (sym is) (kept_plain, at_root, of_root)
  each v (inr (e, present, ends)) = absurd (present refl)

  no_other : (v : Vertex) → (IsVertexOf nothing_there v → ⊥) → records_at types ctxs places v ≡ None
  no_other v never = by (is_same_vertex root v) refl where
    by : (b : Bool) → is_same_vertex root v ≡ b → records_at types ctxs places v ≡ None
    by true one = absurd (never (inl (sym (same_vertex_exact root v one))))
    by false other = ap (option_map (kept_by types ctxs)) (values v ∙ ap (λ b. cond b (Some (plain_record id)) None) other)

  pub root_numbers : AreRecordsOf types ctxs places
  root_numbers v = subst (λ o. IfSome o (IsRecordOf types ctxs)) (sym (values v)) (by (is_same_vertex root v)) where
    nothing_bound : IsTyped types (context_at ctxs id)
    nothing_bound = subst (IsTyped types) (sym empty) (λ k d lt. absurd (omega arith))

    by : (b : Bool) → IfSome (cond b (Some (plain_record id)) None) (IsRecordOf types ctxs)
    by true = record { ctx = record { context = number; typed = nothing_bound }; mode = tt; typ = tt }
    by false = tt

  pub empty_stands : (roots : Places Bool) → ((v : Vertex) → value_at roots v ≡ None) → StandFor nothing_there (record { types = types; contexts = ctxs; records = places; roots = roots })
  empty_stands roots nothing_held = record {
    edits = [];
    made = λ e. refl;
    live = [];
    are_live = record { in_order = tt; each = λ e lives. absurd (let clash : Absent ≡ Live = lives in cc); no_other = λ e held. absurd (let clash : false ≡ true = held in cc) };
    kept = record { each = each; no_other = no_other };
    rooted = λ v. ap is_some (nothing_held v);
    numbers = root_numbers;
  }
