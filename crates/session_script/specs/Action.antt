-- The lines of authors.
-- The promise of the commands rests on these definitions.
use Rattle.std.specs.Prelude.{ℕ, ◌<◌, ◌≤◌, ◌^◌, List, [], ◌∷◌, ◌++◌, codes, decimal}
use Rattle.grove_names.specs.Name.{name_text, InRange as NameInRange}
use Rattle.grove_sorts.specs.Ctor.{ctor_text, InRange as CtorInRange}
use Rattle.grove_sorts.specs.Position.{position_text}
use Rattle.grove_sorts.specs.declared.version.Version.{Version}
use Rattle.grove_sorts.specs.Version.{IsCtorOf, IsPositionOf}
use Rattle.edit_text.specs.Line.{spaced}
use Rattle.grove_edits.specs.declared.action.Action.{Action}
use Rattle.grove_edits.specs.declared.action.Action.TheVariants.{Construct, Wrap, Become, Delete, Cut, Relocate, Restore}

-- a word, and what it is done with and where
abbrev pub action_parts : Action → List (List ℕ)
action_parts (Construct place ctor) = codes "construct" ∷ name_text place.name ∷ position_text place.position ∷ ctor_text ctor ∷ []
action_parts (Wrap place ctor) = codes "wrap" ∷ name_text place.name ∷ position_text place.position ∷ ctor_text ctor ∷ []
action_parts (Become place ctor) = codes "become" ∷ name_text place.name ∷ position_text place.position ∷ ctor_text ctor ∷ []
action_parts (Delete place) = codes "delete" ∷ name_text place.name ∷ position_text place.position ∷ []
action_parts (Cut edge) = codes "cut" ∷ name_text edge ∷ []
action_parts (Relocate edge place) = codes "relocate" ∷ name_text edge ∷ name_text place.name ∷ position_text place.position ∷ []
action_parts (Restore vertex place) = codes "restore" ∷ name_text vertex ∷ name_text place.name ∷ position_text place.position ∷ []

-- an author's line without its LF: the author's number, a space, and the parts of the action
abbrev pub action_line : ℕ → Action → List ℕ
action_line author action = decimal author ++ 32 ∷ spaced (action_parts action)

-- an author has a number from 1
abbrev pub IsAuthor : ℕ → Type 0
IsAuthor author = (1 ≤ author) × (author < 2 ^ 32)

-- the numbers lie in their ranges, as those of every action of the program do
abbrev pub ActionInRange : Action → Type 0
ActionInRange (Construct place ctor) = NameInRange place.name × CtorInRange ctor
ActionInRange (Wrap place ctor) = NameInRange place.name × CtorInRange ctor
ActionInRange (Become place ctor) = NameInRange place.name × CtorInRange ctor
ActionInRange (Delete place) = NameInRange place.name
ActionInRange (Cut edge) = NameInRange edge
ActionInRange (Relocate edge place) = NameInRange edge × NameInRange place.name
ActionInRange (Restore vertex place) = NameInRange vertex × NameInRange place.name

-- the version knows all that an action names
abbrev pub IsActionOf : Version → Action → Type 0
IsActionOf version (Construct place ctor) = IsPositionOf version place.position × IsCtorOf version ctor
IsActionOf version (Wrap place ctor) = IsPositionOf version place.position × IsCtorOf version ctor
IsActionOf version (Become place ctor) = IsPositionOf version place.position × IsCtorOf version ctor
IsActionOf version (Delete place) = IsPositionOf version place.position
IsActionOf version (Cut edge) = Unit {0}
IsActionOf version (Relocate edge place) = IsPositionOf version place.position
IsActionOf version (Restore vertex place) = IsPositionOf version place.position

-- an action that names no constructor
abbrev pub HasNoCtor : Action → Type 0
HasNoCtor (Construct place ctor) = ⊥
HasNoCtor (Wrap place ctor) = ⊥
HasNoCtor (Become place ctor) = ⊥
HasNoCtor _ = Unit {0}
