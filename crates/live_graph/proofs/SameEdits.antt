-- The test of edits tells whether they are one.
use Rattle.std.proofs.Common.{◌≡◌, true, Decides, refl, sym, ap, subst, ◌∙◌}
use Rattle.std.specs.declared.cmp.Ordering.{Ordering}
use Rattle.std.specs.declared.cmp.Ordering.TheVariants.{Less, Equal, Greater}
use Rattle.std.specs.Ordering.{ordering_then, is_eq, nat_cmp}
use Rattle.std.specs.Cmp.{IsTotalOrder}
use Rattle.std.proofs.lemmas.Cmp.{on_total, then_total, nat_cmp_total, tied_itself}
use Rattle.grove_sorts.proofs.Orders.{equal_from_test}
use Rattle.grove_edits.specs.declared.edit.Edit.{Edit}
use Rattle.grove_edits.specs.declared.edit.EditKind.{EditKind}
use Rattle.grove_edits.specs.declared.edit.EditKind.TheVariants.{Insert, Delete}
use Rattle.grove_edits.specs.contracts.edit.EditOrd.TheImpl.Laws.{matches_eq-law}
use Rattle.grove_edits.specs.contracts.edit.EditPartialEq.TheImpl as edit_eq
use Rattle.grove_edits.specs.Edge.{edge_cmp}
use Rattle.grove_edits.specs.Edit.{edit_edge, edit_kind, edit_cmp, kind_number}
use Rattle.grove_edits.proofs.Orders.{edge_cmp_total, edge_cmp_exact, cmp_is_edit_cmp}
use Rattle.grove_edits.proofs.Unique.{edit_from_fields}

edit_cmp_total : IsTotalOrder edit_cmp
edit_cmp_total = then_total (on_total edit_edge edge_cmp_total) (on_total (λ e. kind_number (edit_kind e)) nat_cmp_total)

one_kind : (k l : EditKind) → nat_cmp (kind_number k) (kind_number l) ≡ Equal → k ≡ l
one_kind Insert Insert h = refl
one_kind Insert Delete h = absurd cc
one_kind Delete Insert h = absurd cc
one_kind Delete Delete h = refl

both_equal : (o p : Ordering) → ordering_then o p ≡ Equal → (o ≡ Equal) × (p ≡ Equal)
both_equal Less p h = absurd cc
both_equal Equal p h = (refl, h)
both_equal Greater p h = absurd cc

edit_cmp_exact : (a b : Edit) → edit_cmp a b ≡ Equal → a ≡ b
edit_cmp_exact a b h =
    let parts = both_equal (edge_cmp (edit_edge a) (edit_edge b)) (nat_cmp (kind_number (edit_kind a)) (kind_number (edit_kind b))) h in
    edit_from_fields a b (one_kind (edit_kind a) (edit_kind b) parts.1) (edge_cmp_exact (edit_edge a) (edit_edge b) parts.0)

test_is : (a b : Edit) → edit_eq.eq-value.it a b ≡ is_eq (edit_cmp a b)
test_is a b = matches_eq-law a b ∙ ap is_eq (cmp_is_edit_cmp a b)

pub Decides-edit : (a b : Edit) → Decides (edit_eq.eq-value.it a b) (a ≡ b)
Decides-edit a b = (
  λ same. edit_cmp_exact a b (equal_from_test (edit_cmp a b) (sym (test_is a b) ∙ same)),
  λ one. test_is a b ∙ subst (λ (x : Edit). is_eq (edit_cmp a x) ≡ true) one (ap is_eq (tied_itself edit_cmp_total a)),
)
