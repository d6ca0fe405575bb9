-- What a well-formed edge has: good vertices, a position of its source, and a target of the sort that the position wants.
use Rattle.std.proofs.Common.{◌≡◌, Bool, true, false, cond, Option, Some, None, is_none, refl, sym, ap, subst}
use Rattle.grove_sorts.specs.declared.sort.Sort.{Sort}
use Rattle.grove_sorts.specs.declared.sort.Sort.TheVariants.{Top, Exp, Pat, Typ}
use Rattle.grove_sorts.specs.declared.ctor.Ctor.{Ctor}
use Rattle.grove_sorts.specs.Ctor.{sort_of_ctor, sort_at}
use Rattle.grove_sorts.specs.Plain.{plain_of}
use Rattle.grove_sorts.proofs.Plains.{has_plain}
use Rattle.grove_edits.specs.declared.edge.Edge.{Edge}
use Rattle.grove_edits.specs.declared.edge.EdgeFault.{EdgeFault}
use Rattle.grove_edits.specs.declared.edit.Edit.{Edit}
use Rattle.grove_edits.specs.declared.edit.EditKind.{EditKind}
use Rattle.grove_edits.specs.Edge.{IsWellFormed, EdgeInRange, edge_fault, edge_from, has_good_vertices, has_position, has_sort, is_sort}
use Rattle.grove_edits.specs.Edit.{edit_edge}

-- the three tests of an edge that has none of three faults, whatever these are
all_pass : (first second third : EdgeFault) (good placed sorted : Bool) → is_none (cond good (cond placed (cond sorted None (Some third)) (Some second)) (Some first)) ≡ true
    → (good ≡ true) × (placed ≡ true) × (sorted ≡ true)
all_pass first second third true true true h = (refl, refl, refl)
all_pass first second third true true false h = absurd cc
all_pass first second third true false sorted h = absurd cc
all_pass first second third false placed sorted h = absurd cc

-- a well-formed edge passes the three tests
tests_pass : (e : Edge) → IsWellFormed e → (has_good_vertices e ≡ true) × (has_position e ≡ true) × (has_sort e ≡ true)
tests_pass e well = all_pass _ _ _ (has_good_vertices e) (has_position e) (has_sort e) well

pub good_vertices : (e : Edge) → IsWellFormed e → has_good_vertices e ≡ true
good_vertices e well = (tests_pass e well).0

-- an edge that passes the three tests has no fault
pub no_fault : (e : Edge) → has_good_vertices e ≡ true → has_position e ≡ true → has_sort e ≡ true → edge_fault e ≡ None
no_fault e good placed sorted = rw (good, placed, sorted) refl

-- sorts that the test finds the same are one
pub one_sort : (s t : Sort) → is_sort (Some s) t ≡ true → t ≡ s
one_sort Top Top h = refl
one_sort Exp Exp h = refl
one_sort Pat Pat h = refl
one_sort Typ Typ h = refl
one_sort _ _ h = absurd cc

-- a sort that is found where another is asked for is that one
pub one_answer : (found : Option Sort) (t : Sort) → is_sort found t ≡ true → found ≡ Some t
one_answer None t h = absurd cc
one_answer (Some s) t h = ap Some (sym (one_sort s t h))

-- the position of a well-formed edge wants children of its target's sort
pub place_fits : (e : Edge) → IsWellFormed e → sort_at e.source.ctor e.position ≡ Some (sort_of_ctor e.target.ctor)
place_fits e well =
    one_answer (sort_at e.source.ctor e.position) (sort_of_ctor e.target.ctor) (tests_pass e well).2

-- a well-formed edge is the edge of its parts
pub remade : (e : Edge) → IsWellFormed e → edge_from e.name e.source.name (plain_of e.source.ctor) e.position e.target ≡ e
remade e well =
    ap (λ (c : Ctor). record { name = e.name; source = record { name = e.source.name; ctor = c }; position = e.position; target = e.target })
    (has_plain e.source.ctor e.position (tests_pass e well).1)

-- the edit of a kind of an edge that has one
abbrev pub edit_made : EditKind → (e : Edge) → IsWellFormed e → EdgeInRange e → Edit
edit_made kind e well within = record {
  name = e.name;
  source = e.source.name;
  branch = plain_of e.source.ctor;
  position = e.position;
  target = e.target;
  kind = kind;
  well_formed = subst IsWellFormed (sym (remade e well)) well;
  in_range = subst EdgeInRange (sym (remade e well)) within;
}

pub edge_made : (kind : EditKind) (e : Edge) (well : IsWellFormed e) (within : EdgeInRange e) → edit_edge (edit_made kind e well within) ≡ e
edge_made kind e well within = remade e well
