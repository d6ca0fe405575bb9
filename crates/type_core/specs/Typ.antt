-- Types as finite trees: consistency, meet, precision, matched forms and text.
-- The promise of the commands rests on these definitions.
use Rattle.std.specs.Prelude.{ℕ, ◌-◌, ◌==◌, Bool, true, false, ◌&&◌, if◌then◌else◌, List, ◌++◌, Option, None, Some, codes}
use Rattle.type_core.specs.declared.former.Former.{Former}
use Rattle.type_core.specs.declared.former.Former.TheVariants.{Arrow, Product, Sum}

pub data Typ : Type 0 where
  Unknown : Typ
  Num : Typ
  Boolean : Typ
  Pair : (former : Former) (first second : Typ) → Typ

-- a type without parts
abbrev pub IsAtom : Typ → Type 0
IsAtom (Pair f a b) = ⊥
IsAtom _ = Unit {0}

abbrev pub is_same_former : Former → Former → Bool
is_same_former Arrow Arrow = true
is_same_former Product Product = true
is_same_former Sum Sum = true
is_same_former _ _ = false

-- the unknown type is consistent with every type, a base type with itself, and two types of one form where both parts are
abbrev pub is_consistent : Typ → Typ → Bool
is_consistent Unknown t = true
is_consistent s Unknown = true
is_consistent Num Num = true
is_consistent Boolean Boolean = true
is_consistent (Pair f a b) (Pair g c d) = is_same_former f g && is_consistent a c && is_consistent b d
is_consistent _ _ = false

-- the two parts of a type of this form; the unknown type counts as the form of two unknown types
abbrev pub matched_parts : Former → Typ → Option (Typ × Typ)
matched_parts f Unknown = Some (Unknown, Unknown)
matched_parts f (Pair g a b) = if is_same_former f g then Some (a, b) else None
matched_parts f _ = None

-- the type of this form from two parts, where both are there
abbrev pub pair_both : Former → Option Typ → Option Typ → Option Typ
pair_both f (Some a) (Some b) = Some (Pair f a b)
pair_both f _ _ = None

-- the meet of consistent types: what is known in either
abbrev pub meet : Typ → Typ → Option Typ
meet Unknown t = Some t
meet s Unknown = Some s
meet Num Num = Some Num
meet Boolean Boolean = Some Boolean
meet (Pair f a b) (Pair g c d) = if is_same_former f g then pair_both f (meet a c) (meet b d) else None
meet _ _ = None

-- s is at least as precise as t: it is t, with types in place of some of its unknown parts
abbrev pub is_below : Typ → Typ → Bool
is_below s Unknown = true
is_below Num Num = true
is_below Boolean Boolean = true
is_below (Pair f a b) (Pair g c d) = is_same_former f g && is_below a c && is_below b d
is_below _ _ = false

-- the sign between the parts
abbrev pub sign : Former → List ℕ
sign Arrow = codes "->"
sign Product = codes "*"
sign Sum = codes "+"

-- the text of a type down to so many levels of parts: below them it is `..`
abbrev pub type_text : ℕ → Typ → List ℕ
type_text levels Unknown = codes "?"
type_text levels Num = codes "num"
type_text levels Boolean = codes "bool"
type_text levels (Pair f a b) =
    if levels == 0 then codes ".."
    else codes "(" ++ type_text (levels - 1) a ++ sign f ++ type_text (levels - 1) b ++ codes ")"
