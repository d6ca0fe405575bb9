-- Deeds that are known stay so.
use Rattle.std.proofs.Common.{ℕ, suc, List, [], ◌∷◌, ◌++◌, take, drop}
use Rattle.std.specs.Prelude.{remove, ◌==◌, not}
use Rattle.std.specs.List.{All}
use Rattle.std.proofs.lemmas.List.Elements.{All-nil, All-cons, All-append, All-take, All-drop, All-filter}
use Rattle.grove_undo.specs.declared.change.Change.{Change}
use Rattle.grove_undo.specs.Change.{IsOfEdits}
use Rattle.grove_editor.specs.declared.deed.Deed.{Deed}
use Rattle.grove_editor.specs.Deeds.{deed_by, by_others, IsKnown}

pub known_none : All IsKnown []
known_none = All-nil IsKnown

pub known_more : (deeds : List Deed) (author : ℕ) (change : Change) → All IsKnown deeds → IsOfEdits change → All IsKnown (deeds ++ deed_by author change ∷ [])
known_more deeds author change known is = All-append IsKnown deeds (deed_by author change ∷ []) known (All-cons IsKnown (deed_by author change) [] is (All-nil IsKnown))

pub known_less : (deeds : List Deed) (index : ℕ) → All IsKnown deeds → All IsKnown (remove deeds index)
known_less deeds index known = All-append IsKnown (take index deeds) (drop (suc index) deeds) (All-take IsKnown index deeds known) (All-drop IsKnown (suc index) deeds known)

pub known_others : (author : ℕ) (deeds : List Deed) → All IsKnown deeds → All IsKnown (by_others author deeds)
known_others author deeds known = All-filter (λ (deed : Deed). not (deed.author == author)) IsKnown deeds known
