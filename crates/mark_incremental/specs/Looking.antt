-- Inner model, which no public contract cites: what is found of the child of a vertex, before it is judged again or left as it is.
use Rattle.std.specs.Prelude.{◌≡◌, ◌⊎◌, Bool, ◌||◌, true, false, List, Option, None, Some, unwrap_or}
use Rattle.grove_sorts.specs.declared.sort.Sort.{Sort}
use Rattle.grove_sorts.specs.declared.sort.Sort.TheVariants.{Top, Exp, Pat, Typ as TypeSort}
use Rattle.grove_sorts.specs.declared.ctor.Ctor.{Ctor}
use Rattle.grove_sorts.specs.Ctor.{sort_of_ctor}
use Rattle.grove_edits.specs.declared.vertex.Vertex.{Vertex}
use Rattle.grove_edits.specs.declared.edge.Edge.{Edge}
use Rattle.graph_words.specs.declared.class.Class.TheVariants.{Inner}
use Rattle.graph_words.specs.Class.{class, is_cycle_root}
use Rattle.type_core.specs.Typ.{Typ, Unknown}
use Rattle.ctx_table.specs.Context.{Context}
use Rattle.mark_step.specs.declared.node.Demand.{Demand}
use Rattle.mark_step.specs.Node.{demanded_at}
use Rattle.marking.specs.Types.{pattern_name}
use Rattle.judging.specs.declared.frame.Given.{Given}
use Rattle.judging.specs.Frames.{given_at}
use Rattle.judging.specs.Machine as machine
use Rattle.kept_records.specs.Kept.{Kept}
use Rattle.mark_store.specs.declared.record.Record.{Record}
use Rattle.mark_store.specs.Places.{Places, value_at, holds}
use Rattle.mark_incremental.specs.Reading.{kept_by, demand_of}

-- the set has exactly the roots of the cycles of a graph with these live edges
abbrev pub AreRoots : List Edge → Places Bool → Type 0
AreRoots live roots = (v : Vertex) → holds roots v ≡ is_cycle_root live v

-- the vertices that are judged again whatever is demanded of them: all, or those of a set
abbrev pub on : Bool → Places Bool → Vertex → Bool
on all places v = all || holds places v

-- what a vertex gives, by its record
abbrev pub given_in : Sort → Ctor → Option Typ → machine.Given
given_in Pat c t = machine.of_name (pattern_name c)
given_in Exp c t = machine.of_type (unwrap_or t Unknown)
given_in TypeSort c t = machine.of_type (unwrap_or t Unknown)
given_in Top c t = machine.of_type (unwrap_or t Unknown)

abbrev pub given_by_kept : Vertex → Kept → machine.Given
given_by_kept v kept = given_in (sort_of_ctor v.ctor) v.ctor kept.typ

-- of an expression is demanded what its record says
abbrev pub IsDemandedStill : List Typ → List Context → Vertex → Record → Demand → Type 0
IsDemandedStill types ctxs v r d = sort_of_ctor v.ctor ≡ Exp → demanded_at types ctxs (demand_of r) ≡ demanded_at types ctxs d

-- a child that is a tree is left as it is, and gives this
pub record IsLeftAs (types : List Typ) (ctxs : List Context) (places : Places Record) (judged : Vertex → Bool) (d : Demand) (v : Vertex) (g : Given) : Type 0 where
  pub off : judged v ≡ false
  pub kept : Record
  pub found : value_at places v ≡ Some kept
  pub still : IsDemandedStill types ctxs v kept d
  pub gives : given_at types g ≡ given_by_kept v (kept_by types ctxs kept)

-- a child that is a tree has to be judged again, or has no record
pub data HasToBeJudged (types : List Typ) (ctxs : List Context) (places : Places Record) (judged : Vertex → Bool) (d : Demand) (v : Vertex) : Type 0 where
  in_set : judged v ≡ true → HasToBeJudged types ctxs places judged d v
  unknown : value_at places v ≡ None → HasToBeJudged types ctxs places judged d v
  demanded : (r : Record) → value_at places v ≡ Some r → sort_of_ctor v.ctor ≡ Exp → (demanded_at types ctxs (demand_of r) ≡ demanded_at types ctxs d → ⊥)
      → HasToBeJudged types ctxs places judged d v

-- what is found of a child: what it gives, or none where it has to be judged again
abbrev pub IsFound : List Edge → List Typ → List Context → Places Record → (Vertex → Bool) → Demand → Vertex → Option Given → Type 0
IsFound live types ctxs places judged d v None = (class live v ≡ Inner) × HasToBeJudged types ctxs places judged d v
IsFound live types ctxs places judged d v (Some g) =
    ((class live v ≡ Inner → ⊥) × (given_at types g ≡ machine.nothing)) ⊎ ((class live v ≡ Inner) × IsLeftAs types ctxs places judged d v g)
