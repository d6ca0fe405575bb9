use Rattle.std.proofs.Common.{◌≡◌, Bool, true, false, refl, sym}
use Rattle.grove_names.specs.declared.name.Name.{Name}
use Rattle.grove_edits.specs.Graph.{Graph}
use Rattle.std.specs.Prelude.{List}
use Rattle.edit_ranges.specs.declared.told.Told.{Told}
use Rattle.edit_ranges.specs.declared.told.Told.TheVariants.{Named, Deleted}
use Rattle.edit_ranges.specs.declared.name_range.NameRange.{NameRange}
use Rattle.edit_ranges.specs.Ranges.{tell}
use Rattle.edit_ranges.specs.Summary.{IsSummaryOf}
use Rattle.edit_ranges.proofs.OneList.{one_list}
use Rattle.edit_ranges.proofs.laws.a_graph_has_one_summary.Goals as goal

-- tests that hold under the same fact are one
same_test : (a b : Bool) → (a ≡ true → b ≡ true) → (b ≡ true → a ≡ true) → a ≡ b
same_test true b one two = sym (one refl)
same_test false true one two = two refl
same_test false false one two = refl

same_told : (g : Graph) (a b : List NameRange) → IsSummaryOf g a → IsSummaryOf g b → (t : Told) (n : Name) → tell a t n ≡ tell b t n
same_told g a b of_a of_b Named n = same_test (tell a Named n) (tell b Named n) (λ h. (of_b.named n).1 ((of_a.named n).0 h)) (λ h. (of_a.named n).1 ((of_b.named n).0 h))
same_told g a b of_a of_b Deleted n = same_test (tell a Deleted n) (tell b Deleted n) (λ h. (of_b.deleted n).1 ((of_a.deleted n).0 h)) (λ h. (of_a.deleted n).1 ((of_b.deleted n).0 h))

pub returns : goal.returns
returns c = record { one = λ g a b of_a of_b. one_list a b of_a.in_order of_b.in_order (same_told g a b of_a of_b) }
