-- What the reading of a session keeps.
use Rattle.std.specs.Prelude.{◌≡◌, ℕ, ◌<◌, ◌≤◌, List, [], ◌∷◌, ◌++◌, Some, slice_get}
use Rattle.grove_sorts.specs.declared.ident.Ident.{Ident}
use Rattle.session_script.specs.declared.author.Declared.{Declared}
use Rattle.session_script.specs.declared.item.Block as blocks
use Rattle.session_script.specs.declared.item.Item.{Item}
use Rattle.session_script.specs.declared.item.Item.TheVariants as item
use Rattle.session_script.specs.declared.line.Line.{Line}
use Rattle.session_script.specs.declared.line.Line.TheVariants as line
use Rattle.session_script.specs.declared.line.SendLine.{SendLine}
use Rattle.session_script.specs.declared.phase.Phase.TheVariants.{Items}
use Rattle.session_script.specs.declared.reading.Reading.{Reading}
use Rattle.session_script.specs.declared.statement.SendText.{SendText}
use Rattle.session_script.specs.declared.statement.Statement.{Statement}
use Rattle.session_script.specs.declared.statement.Statement.TheVariants.{Author, Load, End, Act, Send, Show}
use Rattle.session_script.specs.Session.{author_numbers}
use Rattle.session_script.specs.View.{View, view_at}

-- the view of the statements that were read
abbrev pub view_of : Reading → View
view_of r = view_at r.version r.phase r.replicas (author_numbers r.authors) r.blocks r.ends r.sends r.shows

-- a block is open only among items
pub record IsOrdered (r : Reading) : Type 0 where
  pub opened : r.ends < r.blocks → r.phase ≡ Items
  pub ended : r.ends ≤ r.blocks

-- a `send` line with the numbers of its replicas
abbrev pub numbered : ℕ → ℕ → SendText → SendLine
numbered from to send = record { from = from; to = to; skip = send.skip; take = send.take; reverse = send.reverse; twice = send.twice; cut = send.cut }

-- the authors after a statement, of those before it
abbrev pub AuthorsAfter : List Ident → List Declared → Statement → List Declared → Type 0
AuthorsAfter replicas old (Author author replica) new =
    (number : ℕ) × (slice_get replicas number ≡ Some replica) × (new ≡ old ++ record { author = author; replica = number } ∷ [])
AuthorsAfter replicas old _ new = new ≡ old

-- the items after it, where lines stand in a block that is open
abbrev pub ItemsAfter : List Ident → List Item → List Line → Statement → List Item → Type 0
ItemsAfter replicas old lines (Load replica edit) new = (number : ℕ) × (slice_get replicas number ≡ Some replica) × (new ≡ old ++ item.Load number edit ∷ [])
ItemsAfter replicas old lines End new = (block : blocks.Block) × (block.lines ≡ lines) × (new ≡ old ++ item.Block block ∷ [])
ItemsAfter replicas old lines Show new = new ≡ old ++ item.Show ∷ []
ItemsAfter replicas old lines _ new = new ≡ old

-- those lines after it
abbrev pub LinesAfter : List Ident → List Line → Statement → List Line → Type 0
LinesAfter replicas old (Act author action) new = new ≡ old ++ line.Author author action ∷ []
LinesAfter replicas old (Send send) new =
    (from : ℕ) × (to : ℕ) × (slice_get replicas from ≡ Some send.from) × (slice_get replicas to ≡ Some send.to) × (new ≡ old ++ line.Send (numbered from to send) ∷ [])
LinesAfter replicas old End new = new ≡ []
LinesAfter replicas old _ new = new ≡ old
