-- The texts of sorts, and their numbers.
-- The promise of the commands rests on these definitions.
use Rattle.std.specs.Prelude.{ℕ, List, codes}
use Rattle.grove_sorts.specs.declared.sort.Sort.{Sort}
use Rattle.grove_sorts.specs.declared.sort.Sort.TheVariants.{Top, Exp, Pat, Typ}

abbrev pub sort_text : Sort → List ℕ
sort_text Top = codes "top"
sort_text Exp = codes "exp"
sort_text Pat = codes "pat"
sort_text Typ = codes "typ"

abbrev pub sort_number : Sort → ℕ
sort_number Top = 0
sort_number Exp = 1
sort_number Pat = 2
sort_number Typ = 3
