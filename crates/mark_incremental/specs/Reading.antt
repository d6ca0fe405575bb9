-- What the records of a store stand for over the tables of types and of contexts.
use Rattle.std.specs.Prelude.{List, IfSome, unwrap_or}
use Rattle.std.specs.Option.{option_map}
use Rattle.grove_edits.specs.declared.vertex.Vertex.{Vertex}
use Rattle.type_core.specs.Typ.{Typ}
use Rattle.ctx_table.specs.Context.{Context}
use Rattle.mark_step.specs.declared.node.Demand.{Demand}
use Rattle.mark_step.specs.declared.node.Mode.TheVariants.{Syn}
use Rattle.kept_records.specs.Kept.{Kept, Records}
use Rattle.kept_records.specs.Numbers.{kept_at, AreOf}
use Rattle.mark_store.specs.declared.record.Record.{Record}
use Rattle.mark_store.specs.Places.{Places, value_at}

-- what a record stands for
abbrev pub kept_by : List Typ → List Context → Record → Kept
kept_by types ctxs r = kept_at types ctxs r.ctx r.mode r.typ r.mark

-- its numbers are of the tables
abbrev pub IsRecordOf : List Typ → List Context → Record → Type 0
IsRecordOf types ctxs r = AreOf types ctxs r.ctx r.mode r.typ

-- what the records of a map stand for
abbrev pub records_at : List Typ → List Context → Places Record → Records
records_at types ctxs places v = option_map (kept_by types ctxs) (value_at places v)

-- their numbers are of the tables
abbrev pub AreRecordsOf : List Typ → List Context → Places Record → Type 0
AreRecordsOf types ctxs places = (v : Vertex) → IfSome (value_at places v) (IsRecordOf types ctxs)

-- what was demanded of the vertex of a record
abbrev pub demand_of : Record → Demand
demand_of r = record { ctx = r.ctx; mode = unwrap_or r.mode Syn }
