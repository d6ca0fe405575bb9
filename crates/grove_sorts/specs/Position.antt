-- The table of positions: their words and their order.
-- The promise of the commands rests on these definitions.
use Rattle.std.specs.Prelude.{ℕ, Bool, List, codes}
use Rattle.std.specs.declared.cmp.Ordering.{Ordering}
use Rattle.std.specs.Ordering.{nat_cmp, is_eq}
use Rattle.grove_sorts.specs.declared.position.Position.{Position}
use Rattle.grove_sorts.specs.declared.position.Position.TheVariants.{Main, Param, Annot, Def, Body, Fun, Arg, Left, Right, Test, WhenTrue, WhenFalse, First, Second, Operand, Dom, Cod, On, LeftParam, LeftBody, RightParam, RightBody}

abbrev pub position_text : Position → List ℕ
position_text Main = codes "main"
position_text Param = codes "param"
position_text Annot = codes "type"
position_text Def = codes "def"
position_text Body = codes "body"
position_text Fun = codes "fun"
position_text Arg = codes "arg"
position_text Left = codes "left"
position_text Right = codes "right"
position_text Test = codes "cond"
position_text WhenTrue = codes "then"
position_text WhenFalse = codes "else"
position_text First = codes "first"
position_text Second = codes "second"
position_text Operand = codes "of"
position_text Dom = codes "from"
position_text Cod = codes "to"
position_text On = codes "on"
position_text LeftParam = codes "lparam"
position_text LeftBody = codes "lbody"
position_text RightParam = codes "rparam"
position_text RightBody = codes "rbody"

-- positions are ordered as they stand in the table
abbrev pub position_number : Position → ℕ
position_number Main = 0
position_number Param = 1
position_number Annot = 2
position_number Def = 3
position_number Body = 4
position_number Fun = 5
position_number Arg = 6
position_number Left = 7
position_number Right = 8
position_number Test = 9
position_number WhenTrue = 10
position_number WhenFalse = 11
position_number First = 12
position_number Second = 13
position_number Operand = 14
position_number Dom = 15
position_number Cod = 16
position_number On = 17
position_number LeftParam = 18
position_number LeftBody = 19
position_number RightParam = 20
position_number RightBody = 21

abbrev pub position_cmp : Position → Position → Ordering
position_cmp a b = nat_cmp (position_number a) (position_number b)

abbrev pub is_same_position : Position → Position → Bool
is_same_position p q = is_eq (position_cmp p q)
