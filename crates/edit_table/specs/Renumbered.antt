-- Inner model, which no public contract cites: numbers of vertices that are given anew, in the order in which records meet them.
use Rattle.std.specs.Prelude.{◌≡◌, ◌≢◌, ℕ, Bool, ◌-◌, ◌<◌, ◌^◌, List, Some, length, slice_get}
use Rattle.indexmap.specs.IndexSet.{insert_key}
use Rattle.edit_table.specs.declared.record.Record.{Record}
use Rattle.edit_table.specs.declared.vertex_key.VertexKey.{VertexKey}

-- no vertex has this number
abbrev pub no_number : ℕ
no_number = 2 ^ 32 - 1

-- no key has two numbers
abbrev pub DifferInNumber : List VertexKey → Type 0
DifferInNumber keys = (m n : ℕ) (k : VertexKey) → slice_get keys m ≡ Some k → slice_get keys n ≡ Some k → m ≡ n

-- each old number of a key that was met has the new one beside it, and each other none
pub record AreRenumbered (keys : List VertexKey) (numbers : List ℕ) (met : List VertexKey) : Type 0 where
  pub long : length numbers ≡ length keys
  pub there : (n m : ℕ) → slice_get numbers n ≡ Some m → m ≢ no_number → slice_get met m ≡ slice_get keys n
  pub back : (m : ℕ) (k : VertexKey) → slice_get met m ≡ Some k → (n : ℕ) × (slice_get numbers n ≡ Some m) × (slice_get keys n ≡ Some k)
  pub few : length met < 2 ^ 32

-- the record has new numbers for its ends, by the keys that were met before and after, and the rest of the old one
pub record HasNewEnds (eq : VertexKey → VertexKey → Bool) (keys before after : List VertexKey) (old new : Record) : Type 0 where
  pub between : List VertexKey
  pub few : length between < 2 ^ 32
  pub name : new.name ≡ old.name
  pub position : new.position ≡ old.position
  pub kind : new.kind ≡ old.kind
  pub source_met : (key : VertexKey) → slice_get keys old.source ≡ Some key → between ≡ insert_key eq before key
  pub source : slice_get between new.source ≡ slice_get keys old.source
  pub target_met : (key : VertexKey) → slice_get keys old.target ≡ Some key → after ≡ insert_key eq between key
  pub target : slice_get after new.target ≡ slice_get keys old.target
