-- The rules over whole trees: what type a child has, judged so, where each expression follows a row of the tables.
-- The promise of the commands rests on these definitions.
use Rattle.std.specs.Prelude.{◌≡◌, ℕ, zero, suc, Bool, true, false, List, [], ◌∷◌}
use Rattle.grove_sorts.specs.declared.position.Position.{Position}
use Rattle.grove_sorts.specs.declared.sort.Sort.{Sort}
use Rattle.grove_sorts.specs.Ctor.{positions}
use Rattle.grove_sorts.specs.Position.{is_same_position}
use Rattle.grove_terms.specs.Forest.{Forest, none, multi_ref, cycle_ref, tree}
use Rattle.grove_terms.specs.Nodes.{count_at}
use Rattle.type_core.specs.Typ.{Typ, Unknown}
use Rattle.mark_step.specs.Expression.{Expression, Demanded, Marked}
use Rattle.mark_step.specs.Rows.{Judgement, Follows, is_exp}
use Rattle.marking.specs.Marking.{expression}

-- an only child has the type by its rule; where there is none, or a conflict, the type is unknown
abbrev pub OfSole : ℕ → Type 0 → Typ → Type 0
OfSole zero Rule t = t ≡ Unknown
OfSole (suc zero) Rule t = Rule
OfSole (suc (suc _)) Rule t = t ≡ Unknown

-- the first where the test holds, and else the second
abbrev pub Whether : Bool → Type 0 → Type 0 → Type 0
Whether true Then Else = Then
Whether false Then Else = Else

abbrev pub demanded_of : Judgement → Demanded
demanded_of j = record { scope = j.scope; wanted = j.wanted }

abbrev pub FirstIsJudged : (Demanded → Typ → Type 0) → (List Judgement → Type 0) → List Judgement → Type 0
FirstIsJudged First Rest [] = ⊥
FirstIsJudged First Rest (j ∷ js) = First (demanded_of j) j.typ × Rest js

-- the judgements are those of the expressions at some positions, in order
abbrev pub AreJudged : (Position → Demanded → Typ → Type 0) → List (Position × Sort) → List Judgement → Type 0
AreJudged Has [] js = js ≡ []
AreJudged Has (p ∷ ps) js = Whether (is_exp p.1) (FirstIsJudged (Has p.0) (AreJudged Has ps) js) (AreJudged Has ps js)

-- a row of the tables gives the expression this type, its children being judged so
pub record HasByRule (e : Expression) (Has : Position → Demanded → Typ → Type 0) (t : Typ) : Type 0 where
  pub judgements : List Judgement
  pub marked : Marked
  pub row : Follows e judgements marked
  pub children : AreJudged Has (positions e.ctor) judgements
  pub typ : t ≡ marked.typ

-- the tree that is a child at a position has the type, judged so; a reference has the unknown type
abbrev pub ChildHas : Forest → Position → Demanded → Typ → Type 0
ChildHas none p d t = t ≡ Unknown
ChildHas (multi_ref e rest) p d t = ChildHas rest p d t
ChildHas (cycle_ref e rest) p d t = ChildHas rest p d t
ChildHas (tree e below rest) p d t =
    Whether (is_same_position e.position p)
    (HasByRule (expression e.target.ctor d.scope d.wanted below) (λ q demanded u. OfSole (count_at below q) (ChildHas below q demanded u) u) t)
    (ChildHas rest p d t)
