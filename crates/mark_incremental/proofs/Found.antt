-- What is found of the child of a vertex.
use Rattle.std.proofs.Common.{◌≡◌, Bool, true, false, not, List, [], ◌∷◌, Option, Some, None, IfSome, refl, sym, ap, subst, ◌∙◌}
use Rattle.grove_sorts.specs.declared.sort.Sort.{Sort}
use Rattle.grove_sorts.specs.declared.sort.Sort.TheVariants.{Top, Exp, Pat, Typ as TypeSort}
use Rattle.grove_sorts.specs.contracts.sort.SortPartialEq.TheImpl as sort_eq
use Rattle.grove_edits.specs.declared.vertex.Vertex.{Vertex}
use Rattle.grove_edits.specs.declared.edge.Edge.{Edge}
use Rattle.graph_words.specs.declared.class.Class.{Class}
use Rattle.graph_words.specs.declared.class.Class.TheVariants.{NoParent, Multi, Cycle, Inner}
use Rattle.graph_words.specs.declared.few.Few.TheVariants.{Zero, One, More}
use Rattle.graph_words.specs.Few.{first_two}
use Rattle.graph_words.specs.Live.{parents_of}
use Rattle.graph_words.specs.Class.{class_by, class, is_same_class, is_cycle_root}
use Rattle.type_core.specs.Typ.{Typ}
use Rattle.type_core.specs.TypeTable as type_table
use Rattle.ctx_table.specs.Context.{Context}
use Rattle.ctx_table.specs.CtxTable as context_table
use Rattle.mark_step.specs.declared.node.Demand.{Demand}
use Rattle.mark_step.specs.declared.node.Mode.{Mode}
use Rattle.mark_step.specs.declared.node.Mode.TheVariants.{Syn}
use Rattle.mark_step.specs.Node.{demanded_at, IsModeOf, IsDemandOf}
use Rattle.std.specs.Prelude.{unwrap_or}
use Rattle.kept_records.specs.Local.{is_inner}
use Rattle.kept_records.proofs.Numbers.{one_demand}
use Rattle.mark_store.specs.declared.record.Record.{Record}
use Rattle.mark_store.specs.Places.{Places, value_at, holds}
use Rattle.mark_incremental.specs.Reading.{IsRecordOf, AreRecordsOf, demand_of}
use Rattle.mark_incremental.specs.Looking.{AreRoots}

-- ---- whether a vertex stands in the tree of another, by its parents

none_inner : (es : List Edge) (b : Bool) → first_two es ≡ Zero → is_same_class (class_by es b) Inner ≡ false
none_inner [] b is = refl
none_inner (e ∷ []) b is = absurd cc
none_inner (e ∷ f ∷ es) b is = absurd cc

one_inner : (es : List Edge) (b : Bool) (d : Edge) → first_two es ≡ One d → is_same_class (class_by es b) Inner ≡ not b
one_inner [] b d is = absurd cc
one_inner (e ∷ []) true d is = refl
one_inner (e ∷ []) false d is = refl
one_inner (e ∷ f ∷ es) b d is = absurd cc

more_inner : (es : List Edge) (b : Bool) (c d : Edge) → first_two es ≡ More c d → is_same_class (class_by es b) Inner ≡ false
more_inner [] b c d is = absurd cc
more_inner (e ∷ []) b c d is = absurd cc
more_inner (e ∷ f ∷ es) b c d is = refl

pub zero_outer : (live : List Edge) (v : Vertex) → Zero ≡ first_two (parents_of v live) → false ≡ is_inner live v
zero_outer live v is = sym (none_inner (parents_of v live) (is_cycle_root live v) (sym is))

pub more_outer : (live : List Edge) (v : Vertex) (c d : Edge) → More c d ≡ first_two (parents_of v live) → false ≡ is_inner live v
more_outer live v c d is = sym (more_inner (parents_of v live) (is_cycle_root live v) c d (sym is))

pub one_by_root : (live : List Edge) (roots : Places Bool) → AreRoots live roots → (v : Vertex) (d : Edge) → One d ≡ first_two (parents_of v live) → not (holds roots v) ≡ is_inner live v
one_by_root live roots are v d is = ap not (are v) ∙ sym (one_inner (parents_of v live) (is_cycle_root live v) d (sym is))

inner_class : (c : Class) → is_same_class c Inner ≡ true → c ≡ Inner
inner_class NoParent is = absurd cc
inner_class Multi is = absurd cc
inner_class Cycle is = absurd cc
inner_class Inner is = refl

outer_class : (c : Class) → is_same_class c Inner ≡ false → c ≡ Inner → ⊥
outer_class NoParent is same = cc
outer_class Multi is same = cc
outer_class Cycle is same = cc
outer_class Inner is same = cc

pub is_inner-class : (live : List Edge) (v : Vertex) → is_inner live v ≡ true → class live v ≡ Inner
is_inner-class live v is = inner_class (class live v) is

pub not_inner-class : (live : List Edge) (v : Vertex) → is_inner live v ≡ false → class live v ≡ Inner → ⊥
not_inner-class live v is = outer_class (class live v) is

-- ---- what is demanded, and what the record says

pub record_is : (types : List Typ) (ctxs : List Context) (places : Places Record) (v : Vertex) (r : Record) → AreRecordsOf types ctxs places → value_at places v ≡ Some r → IsRecordOf types ctxs r
record_is types ctxs places v r are is = subst (λ (o : Option Record). IfSome o (IsRecordOf types ctxs)) is (are v)

pub demand_numbers : (types : List Typ) (ctxs : List Context) (r : Record) → IsRecordOf types ctxs r → IsDemandOf types ctxs (demand_of r)
demand_numbers types ctxs r is = record { ctx = is.ctx; mode = by r.mode is.mode } where
  by : (m : Option Mode) → IfSome m (IsModeOf types) → IsModeOf types (unwrap_or m Syn)
  by None of = tt
  by (Some m) of = of

-- other numbers stand for another demand
pub other_demand : (table : List Typ) (ctxs : List Context) → type_table.AreDistinct table → context_table.AreDistinct ctxs → (r : Record) (d : Demand) → IsRecordOf table ctxs r → IsDemandOf table ctxs d
    → (demand_of r ≡ d → ⊥) → demanded_at table ctxs (demand_of r) ≡ demanded_at table ctxs d → ⊥
other_demand table ctxs distinct distinct_ctxs r d of_r of_d other same = other (one_demand table distinct ctxs distinct_ctxs (demand_of r) d (demand_numbers table ctxs r of_r) of_d same)

-- the test finds the sort of expressions
pub exp_found : (s : Sort) → true ≡ sort_eq.eq-value.it s Exp → s ≡ Exp
exp_found Exp e = refl
exp_found Top e = absurd cc
exp_found Pat e = absurd cc
exp_found TypeSort e = absurd cc
