use Rattle.std.proofs.Common.{[], length, ap, sym, ◌∙◌, refl, arith}
use Rattle.std.proofs.lemmas.Bool.Decides.{nat_tests}
use Rattle.std.proofs.lemmas.List.{append-nil}
use Rattle.grove_names.specs.Name.{name_text}
use Rattle.grove_names.proofs.text.read_name.Goals as goal

pub returns-else-is_empty-clause-not_a_name : goal.returns-else-is_empty-clause-not_a_name
returns-else-is_empty-clause-not_a_name c = (
  λ _ name in_range same.
      let one = c.in-Some.ensures.only name [] in_range refl (same ∙ sym (append-nil (name_text name))) in
      grind (arith, nat_tests, ap length one.1),
  λ _. refl,
)
