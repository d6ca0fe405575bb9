-- What authors did, in order.
use Rattle.std.specs.Prelude.{◌≡◌, ◌≢◌, ℕ, ◌<◌, ◌==◌, not, List, filter, Some, slice_get}
use Rattle.grove_undo.specs.declared.change.Change.{Change}
use Rattle.grove_undo.specs.Change.{IsOfEdits}
use Rattle.grove_editor.specs.declared.deed.Deed.{Deed}

abbrev pub deed_by : ℕ → Change → Deed
deed_by author change = record { author = author; change = change }

-- it is what some edits changed
abbrev pub IsKnown : Deed → Type 0
IsKnown deed = IsOfEdits deed.change

-- none of the deeds is by the author
abbrev pub HasNoneBy : ℕ → List Deed → Type 0
HasNoneBy author deeds = (k : ℕ) (deed : Deed) → slice_get deeds k ≡ Some deed → deed.author ≢ author

-- the author's last deed stands at the index
pub record IsLastBy (author : ℕ) (deeds : List Deed) (index : ℕ) : Type 0 where
  pub deed : Deed
  pub stands : slice_get deeds index ≡ Some deed
  pub by_author : deed.author ≡ author
  pub last : (k : ℕ) (later : Deed) → index < k → slice_get deeds k ≡ Some later → later.author ≢ author

abbrev pub by_others : ℕ → List Deed → List Deed
by_others author deeds = filter (λ deed. not (deed.author == author)) deeds
