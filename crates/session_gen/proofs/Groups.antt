-- The edges of groups are well formed, and their lines are those of the groups.
use Rattle.std.proofs.Common.{◌≡◌, ℕ, ◌+◌, ◌*◌, ◌%◌, ◌≤◌, List, [], ◌∷◌, length, nat_le, Bool, true, false, not, ◌&&◌, nat_lt, Option, None, Some, IsTrue, is_some, refl, sym, ap, ◌∙◌, arith}
use Rattle.std.specs.Prelude.{if◌then◌else◌, Result, Ok, Err, IsOk, IfErr}
use Rattle.std.proofs.lemmas.Bool.{false≢true}
use Rattle.std.proofs.lemmas.Bool.Decides.{nat_tests}
use Rattle.grove_sorts.specs.declared.sort.Sort.{Sort}
use Rattle.grove_sorts.specs.declared.ident.Ident.{Ident}
use Rattle.grove_sorts.specs.declared.ctor.Ctor.{Ctor}
use Rattle.grove_sorts.specs.declared.ctor.Ctor.TheVariants.{Var, PVar}
use Rattle.grove_sorts.specs.declared.position.Position.{Position}
use Rattle.grove_sorts.specs.declared.version.Version.TheVariants.{One}
use Rattle.grove_sorts.specs.Ctor.{sort_at, sort_of_ctor}
use Rattle.grove_sorts.specs.Ident.{ident_bytes}
use Rattle.grove_sorts.specs.Version.{IsCtorOf}
use Rattle.grove_sorts.proofs.Truths.{both_true, not_true, and_true}
use Rattle.grove_edits.specs.declared.edge.Edge.{Edge}
use Rattle.grove_edits.specs.declared.edge.EdgeFault.{EdgeFault}
use Rattle.grove_edits.specs.declared.edit.Edit.{Edit}
use Rattle.grove_edits.specs.declared.edit.EditKind.{EditKind}
use Rattle.grove_edits.specs.Edge.{is_sort, edge_fault}
use Rattle.grove_edits.specs.Edit.{edit_edge, edit_kind}
use Rattle.grove_edits.specs.Vertex.{is_root, is_vertex}
use Rattle.grove_edits.proofs.WellFormed.{no_fault}
use Rattle.edit_text.specs.Line.{form}
use Rattle.session_gen.specs.Group.{vertex_in, edge_in, fits}

is_positive : (n : ℕ) → 1 ≤ n → nat_lt 0 n ≡ true
is_positive n some = grind (arith, nat_tests)

named_well : (group counter : ℕ) → 1 ≤ counter → (nat_lt 0 (1 + group % 3) && nat_lt 0 (20 * group + counter)) ≡ true
named_well group counter some =
    and_true (nat_lt 0 (1 + group % 3)) (nat_lt 0 (20 * group + counter)) (is_positive (1 + group % 3) (omega arith)) (is_positive (20 * group + counter) (omega arith))

choose : (root : Bool) (a b : Bool) → root ≡ false → b ≡ true → (if root then a else b) ≡ true
choose true a b h k = absurd cc
choose false a b h k = k

vertex_good : (group i : ℕ) (ctor : Ctor) → 1 ≤ i → is_root ctor ≡ false → is_vertex (vertex_in group i ctor) ≡ true
vertex_good group i ctor some not_root =
    choose (is_root ctor) _ (nat_lt 0 (1 + group % 3) && nat_lt 0 (20 * group + i)) not_root (named_well group i some)

is_some_sort : (found : Option Sort) (sort : Sort) → is_sort found sort ≡ true → is_some found ≡ true
is_some_sort (Some s) sort h = refl
is_some_sort None sort h = absurd (false≢true h)

-- an edge of a group has no fault where its ends fit
pub edge_good : (group number source target : ℕ) (k l : Ctor) (p : Position) → 1 ≤ source → 1 ≤ target → IsTrue (fits k p l) → edge_fault (edge_in group number source k p target l) ≡ None
edge_good group number source target k l p some_source some_target h =
    let parts = both_true (not (is_root k) && not (is_root l)) (is_sort (sort_at k p) (sort_of_ctor l)) h in
    let roots = both_true (not (is_root k)) (not (is_root l)) parts.0 in
    let of_source = vertex_good group source k some_source (not_true (is_root k) roots.0) in
    let of_target = vertex_good group target l some_target (not_true (is_root l) roots.1) in
    let vertices = and_true (nat_lt 0 (1 + group % 3) && nat_lt 0 (20 * group + (10 + number)) && is_vertex (vertex_in group source k)) (is_vertex (vertex_in group target l))
    (and_true (nat_lt 0 (1 + group % 3) && nat_lt 0 (20 * group + (10 + number))) (is_vertex (vertex_in group source k)) (named_well group (10 + number) (omega arith)) of_source) of_target in
    no_fault (edge_in group number source k p target l) vertices (is_some_sort (sort_at k p) (sort_of_ctor l) parts.1) parts.1

-- where an edge has no fault there is an edit of it
pub is_edit : (r : Result Edit EdgeFault) (edge : Edge) → IfErr r (λ fault. edge_fault edge ≡ Some fault) → edge_fault edge ≡ None → IsOk r
is_edit (Ok edit) edge h none = refl
is_edit (Err fault) edge h none = let e : None ≡ Some fault = sym none ∙ h in absurd cc

-- the line of an edit is that of its kind and edge
pub line_is : (edit : Edit) (kind : EditKind) (edge : Edge) (line : List ℕ) → edit_kind edit ≡ kind → edit_edge edit ≡ edge → form kind edge ≡ line → form (edit_kind edit) (edit_edge edit) ≡ line
line_is edit kind edge line of_kind of_edge is =
    ap (λ (k : EditKind). form k (edit_edge edit)) of_kind ∙ ap (λ (e : Edge). form kind e) of_edge ∙ is

-- identifiers of one letter
pub var_of_one : (x : Ident) (c : ℕ) → ident_bytes x ≡ c ∷ [] → IsCtorOf One (Var x)
var_of_one x c is = ap (λ (bytes : List ℕ). nat_le (length bytes) 32) is

pub pvar_of_one : (x : Ident) (c : ℕ) → ident_bytes x ≡ c ∷ [] → IsCtorOf One (PVar x)
pvar_of_one x c is = ap (λ (bytes : List ℕ). nat_le (length bytes) 32) is
