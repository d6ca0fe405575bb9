-- What the items of a generated session are.
use Rattle.std.specs.Prelude.{◌≡◌, ℕ, ◌<◌, Bool, List, [], ◌∷◌, map, codes}
use Rattle.std.specs.List.{flat_map, AllByRecursion}
use Rattle.grove_sorts.specs.declared.ident.Ident.{Ident}
use Rattle.grove_sorts.specs.declared.version.Version.TheVariants.{One}
use Rattle.grove_sorts.specs.Ident.{ident_bytes}
use Rattle.grove_edits.specs.Edge.{IsEdgeOf}
use Rattle.grove_edits.specs.Edit.{edit_edge}
use Rattle.grove_sorts.specs.declared.position.Position.TheVariants.{Main}
use Rattle.grove_sorts.specs.declared.ctor.Ctor.TheVariants.{Num}
use Rattle.grove_edits.specs.declared.action.Action.TheVariants.{Construct}
use Rattle.session_script.specs.declared.author.Declared.{Declared}
use Rattle.session_script.specs.declared.line.Line.{Line}
use Rattle.session_script.specs.declared.line.Line.TheVariants as line
use Rattle.session_script.specs.declared.item.Item.{Item}
use Rattle.session_script.specs.declared.item.Item.TheVariants as item
use Rattle.session_script.specs.Session.{item_lines}
use Rattle.session_gen.specs.Generated.{load_lines}

-- the replicas have the names of the generated session
abbrev pub AreNamed : List Ident → Type 0
AreNamed replicas = map ident_bytes replicas ≡ codes "a" ∷ codes "b" ∷ codes "c" ∷ []

-- a load at one of three replicas, of an edit of version one
abbrev pub IsLoad : Item → Type 0
IsLoad (item.Load replica edit) = (replica < 3) × IsEdgeOf One (edit_edge edit)
IsLoad _ = ⊥

-- the items are so many loads, in order
pub record AreLoads (count : ℕ) (items : List Item) : Type 0 where
  pub lines : (replicas : List Ident) → AreNamed replicas → flat_map (item_lines replicas) items ≡ load_lines count
  pub each : AllByRecursion IsLoad items

abbrev pub declared : List Declared
declared = record { author = 4; replica = 0 } ∷ record { author = 5; replica = 1 } ∷ record { author = 6; replica = 2 } ∷ []

-- an author's line of the first block
abbrev pub act_of : ℕ → Line
act_of author = line.Author author (Construct (record { name = record { author = 0; counter = 0 }; position = Main }) (Num 1))

abbrev pub acting : List Line
acting = act_of 4 ∷ act_of 5 ∷ act_of 6 ∷ []

-- a `send` line of the other blocks
abbrev pub send_of : ℕ → ℕ → Bool → Bool → Line
send_of from to reverse twice =
    line.Send (record { from = from; to = to; skip = 0; take = 1000000; reverse = reverse; twice = twice; cut = 4096 })

abbrev pub sending : Bool → Bool → List Line
sending reverse twice = send_of 0 1 reverse twice ∷ send_of 1 2 reverse twice ∷ send_of 2 0 reverse twice ∷ []
