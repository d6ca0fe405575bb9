use Rattle.std.proofs.Common.{◌≡◌, refl}
use Rattle.grove_sorts.specs.declared.plain.Plain.{Plain}
use Rattle.grove_sorts.specs.declared.plain.Plain.TheVariants.{Root}
use Rattle.grove_sorts.specs.contracts.plain.Plain.{the_type}
use Rattle.grove_sorts.specs.Plain.{plain_number}
use Rattle.grove_sorts.proofs.plain.Plain.number.Goals as goal

tag_is : (p : Plain) → denote.Enum.Declared.tag_of the_type p ≡ plain_number p
unfolding plain_number
tag_is Root = refl
tag_is _ = refl

pub returns : goal.returns
returns c = tag_is c.args.self
