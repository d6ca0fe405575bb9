-- The table of constructors: one row for each. All that is said of a constructor beside its rule of typing is read off its row.
-- The promise of the commands rests on these definitions.
use Rattle.std.specs.Prelude.{ℕ, List, [], ◌∷◌, Option, Some, None, codes}
use Rattle.grove_sorts.specs.declared.version.Version.{Version}
use Rattle.grove_sorts.specs.declared.version.Version.TheVariants.{One, Two}
use Rattle.grove_sorts.specs.declared.sort.Sort.{Sort}
use Rattle.grove_sorts.specs.declared.sort.Sort.TheVariants.{Top, Exp, Pat, Typ}
use Rattle.grove_sorts.specs.declared.position.Position.{Position}
use Rattle.grove_sorts.specs.declared.position.Position.TheVariants.{Main, Param, Annot, Def, Body, Fun, Arg, Left, Right, Test, WhenTrue, WhenFalse, First, Second, Operand, Dom, Cod, On, LeftParam, LeftBody, RightParam, RightBody}
use Rattle.grove_sorts.specs.declared.ctor.Ctor.{Ctor}
use Rattle.grove_sorts.specs.declared.ctor.Ctor.TheVariants as ctor

-- the positions at which an expression finds the name that it binds, the type that it ascribes to it, and a second name
pub record Binds : Type 0 where
  pub name : Option Position
  pub typ : Option Position
  pub second : Option Position

-- what type a constructor of types makes of those at its first two positions
pub data Makes : Type 0 where
  makes_none : Makes
  makes_number : Makes
  makes_truth : Makes
  makes_function : Makes
  makes_product : Makes
  makes_sum : Makes

-- what the table says of a constructor
pub record Row : Type 0 where
  -- by which constructors are ordered
  pub number : ℕ
  -- with which its text begins
  pub word : List ℕ
  -- the first version that has it
  pub first : Version
  pub sort : Sort
  -- in table order, each with the sort of its children
  pub positions : List (Position × Sort)
  pub binds : Binds
  pub makes : Makes

abbrev binds_nothing : Binds
binds_nothing = record { name = None; typ = None; second = None }

abbrev binds_one : Position → Binds
binds_one p = record { name = Some p; typ = None; second = None }

abbrev of_sort : Sort → ℕ → Version → List ℕ → List (Position × Sort) → Row
of_sort sort n version word positions = record { number = n; word = word; first = version; sort = sort; positions = positions; binds = binds_nothing; makes = makes_none }

abbrev expression : ℕ → Version → List ℕ → List (Position × Sort) → Row
expression n version word positions = of_sort Exp n version word positions

abbrev binder : ℕ → Version → List ℕ → List (Position × Sort) → Binds → Row
binder n version word positions binds = record (expression n version word positions) { binds = binds }

abbrev of_types : Makes → ℕ → Version → List ℕ → List (Position × Sort) → Row
of_types makes n version word positions = record (of_sort Typ n version word positions) { makes = makes }

abbrev pub row : Ctor → Row
row ctor.Root = of_sort Top 0 One (codes "root") ((Main, Exp) ∷ [])
row (ctor.Var x) = expression 1 One (codes "var:") []
row ctor.Lam = binder 2 One (codes "lam") ((Param, Pat) ∷ (Annot, Typ) ∷ (Body, Exp) ∷ []) (record { name = Some Param; typ = Some Annot; second = None })
row ctor.Ap = expression 3 One (codes "ap") ((Fun, Exp) ∷ (Arg, Exp) ∷ [])
row (ctor.Num n) = expression 4 One (codes "num:") []
row ctor.Plus = expression 5 One (codes "plus") ((Left, Exp) ∷ (Right, Exp) ∷ [])
row ctor.LitTrue = expression 6 One (codes "true") []
row ctor.LitFalse = expression 7 One (codes "false") []
row ctor.Choose = expression 8 One (codes "if") ((Test, Exp) ∷ (WhenTrue, Exp) ∷ (WhenFalse, Exp) ∷ [])
row ctor.Pair = expression 9 One (codes "pair") ((First, Exp) ∷ (Second, Exp) ∷ [])
row ctor.Fst = expression 10 One (codes "fst") ((Operand, Exp) ∷ [])
row ctor.Snd = expression 11 One (codes "snd") ((Operand, Exp) ∷ [])
row (ctor.PVar x) = of_sort Pat 12 One (codes "pvar:") []
row ctor.TNum = of_types makes_number 13 One (codes "tnum") []
row ctor.TBool = of_types makes_truth 14 One (codes "tbool") []
row ctor.TArrow = of_types makes_function 15 One (codes "tarrow") ((Dom, Typ) ∷ (Cod, Typ) ∷ [])
row ctor.TProd = of_types makes_product 16 One (codes "tprod") ((Left, Typ) ∷ (Right, Typ) ∷ [])
row ctor.Let = binder 17 Two (codes "let") ((Param, Pat) ∷ (Def, Exp) ∷ (Body, Exp) ∷ []) (binds_one Param)
row ctor.Inl = expression 18 Two (codes "inl") ((Operand, Exp) ∷ [])
row ctor.Inr = expression 19 Two (codes "inr") ((Operand, Exp) ∷ [])
row ctor.Case =
    binder 20 Two (codes "case") ((On, Exp) ∷ (LeftParam, Pat) ∷ (LeftBody, Exp) ∷ (RightParam, Pat) ∷ (RightBody, Exp) ∷ [])
    (record { name = Some LeftParam; typ = None; second = Some RightParam })
row ctor.TSum = of_types makes_sum 21 Two (codes "tsum") ((Left, Typ) ∷ (Right, Typ) ∷ [])
