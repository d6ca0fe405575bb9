-- The trees that are typed.
-- The promise of the commands rests on these definitions.
use Rattle.std.specs.Prelude.{◌≡◌, ◌⊎◌, ℕ, zero, suc, List, [], ◌∷◌}
use Rattle.grove_sorts.specs.declared.ctor.Ctor.{Ctor}
use Rattle.grove_sorts.specs.declared.position.Position.{Position}
use Rattle.grove_sorts.specs.declared.position.Position.TheVariants.{Main}
use Rattle.grove_sorts.specs.declared.sort.Sort.{Sort}
use Rattle.grove_sorts.specs.declared.sort.Sort.TheVariants.{Top, Exp, Pat, Typ as TypeSort}
use Rattle.grove_sorts.specs.Ctor.{positions, sort_of_ctor}
use Rattle.grove_edits.specs.declared.vertex.Vertex.{Vertex}
use Rattle.grove_sorts.specs.Position.{is_same_position}
use Rattle.grove_terms.specs.declared.node.Node.{Node}
use Rattle.grove_terms.specs.Forest.{Forest, none, multi_ref, cycle_ref, tree, IsWellSorted}
use Rattle.grove_terms.specs.Nodes.{count_at, tree_nodes}
use Rattle.type_core.specs.Typ.{Typ, Unknown}
use Rattle.mark_step.specs.Expression.{Synthesise, Expression, Demanded}
use Rattle.mark_step.specs.Rows.{Judgement}
use Rattle.marking.specs.Marking.{expression, by_itself, synthesised_in}
use Rattle.marking.specs.Rules.{Whether, AreJudged}
use Rattle.plain_typing.specs.Rules.{HasType}

-- a rule gives the expression this type, and what stands at its positions is typed so
pub record HasTypeByRule (e : Expression) (PlaceHas : Position → Demanded → Typ → Type 0) (t : Typ) : Type 0 where
  pub judgements : List Judgement
  pub rule : HasType e judgements t
  pub children : AreJudged PlaceHas (positions e.ctor) judgements

-- What stands at a position, judged so, has this type: nothing has the unknown type, an only child has its own, and a conflict has the
-- unknown type where each child synthesises some.
abbrev pub PlaceHasType : ℕ → (Demanded → (Typ → Type 0) → Type 0) → Demanded → Typ → Type 0
PlaceHasType zero EachHas d t = t ≡ Unknown
PlaceHasType (suc zero) EachHas d t = EachHas d (λ u. u ≡ t)
PlaceHasType (suc (suc _)) EachHas d t = (t ≡ Unknown) × EachHas (synthesised_in d) (λ u. Unit {0})

-- each child at a position, judged so, has a type, and one like that; a reference has the unknown type
abbrev pub EachHasType : Forest → Position → Demanded → (Typ → Type 0) → Type 0
EachHasType none p d Like = Unit {0}
EachHasType (multi_ref e rest) p d Like = Whether (is_same_position e.position p) (Like Unknown) (Unit {0}) × EachHasType rest p d Like
EachHasType (cycle_ref e rest) p d Like = Whether (is_same_position e.position p) (Like Unknown) (Unit {0}) × EachHasType rest p d Like
EachHasType (tree e below rest) p d Like =
    Whether (is_same_position e.position p)
    ((t : Typ) × Like t × HasTypeByRule (expression e.target.ctor d.scope d.wanted below) (λ q demanded u. PlaceHasType (count_at below q) (EachHasType below q) demanded u) t)
    (Unit {0})
    × EachHasType rest p d Like

-- what stands at a position of a vertex with these children, judged so, has this type
abbrev pub HasTypeAt : Forest → Position → Demanded → Typ → Type 0
HasTypeAt f p d t = PlaceHasType (count_at f p) (EachHasType f p) d t

-- an expression has a type by itself, the root of the program is typed where each child at its one position has a type, and patterns and
-- types are typed
abbrev pub IsTypedOfSort : Sort → Ctor → Forest → Type 0
IsTypedOfSort Exp ctor f = (t : Typ) × HasTypeByRule (by_itself ctor f) (HasTypeAt f) t
IsTypedOfSort Top ctor f = EachHasType f Main (record { scope = []; wanted = Synthesise }) (λ t. Unit {0})
IsTypedOfSort Pat ctor f = Unit {0}
IsTypedOfSort TypeSort ctor f = Unit {0}

-- the tree with this head is typed
abbrev pub IsTyped : Vertex → Forest → Type 0
IsTyped v f = IsTypedOfSort (sort_of_ctor v.ctor) v.ctor f

-- the nodes are those of a well-sorted tree that is typed
pub record IsTypedTree (nodes : List Node) : Type 0 where
  pub head : Vertex
  pub forest : Forest
  pub well_sorted : IsWellSorted head forest
  pub listed : nodes ≡ tree_nodes head forest
  pub typed : IsTyped head forest

-- so many of these trees are typed
abbrev pub AreTyped : List (List Node) → ℕ → Type 0
AreTyped [] count = count ≡ 0
AreTyped (t ∷ ts) count = (IsTypedTree t × (others : ℕ) × (count ≡ suc others) × AreTyped ts others) ⊎ ((IsTypedTree t → ⊥) × AreTyped ts count)
