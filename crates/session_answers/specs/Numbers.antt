-- The numbers of authors' lines. Each line of an author has a number among all lines of the author in the session, counted from 1.
use Rattle.std.specs.Prelude.{◌≡◌, ℕ, ◌+◌, List, [], ◌∷◌, ◌++◌, map}
use Rattle.std.specs.List.{count_by, sum_by}
use Rattle.session_script.specs.declared.author.Declared.{Declared}
use Rattle.session_script.specs.declared.item.Block.{Block}
use Rattle.session_script.specs.declared.item.Item.{Item}
use Rattle.session_script.specs.declared.item.Item.TheVariants as item
use Rattle.session_script.specs.declared.line.Line.{Line}
use Rattle.session_script.specs.declared.session.Session.{Session}
use Rattle.session_run.specs.Asked.{IsLineNumber}
use Rattle.session_run.specs.Boards.{is_line_of}

-- how many lines of an author an item has
abbrev pub lines_by : ℕ → Item → ℕ
lines_by author (item.Block block) = count_by (is_line_of author) block.lines
lines_by author _ = 0

-- the number of an author's next line behind these items
abbrev pub next_number : List Item → ℕ → ℕ
next_number before author = sum_by (lines_by author) before + 1

-- the number is that of a line of the author in the session
pub record IsNumberInSession (session : Session) (author number : ℕ) : Type 0 where
  pub before : List Item
  pub block : Block
  pub after : List Item
  pub is_block : session.items ≡ before ++ item.Block block ∷ after
  pub is_line : IsLineNumber author (next_number before author) block.lines number

-- those of the declared authors, in order
abbrev pub next_numbers : List Item → List Declared → List ℕ
next_numbers before authors = map (λ declared. next_number before declared.author) authors

-- the numbers of the authors' next lines behind some lines more
abbrev pub numbers_behind : List Line → List Declared → List ℕ → List ℕ
numbers_behind lines [] numbers = []
numbers_behind lines (declared ∷ authors) [] = []
numbers_behind lines (declared ∷ authors) (number ∷ numbers) = (number + count_by (is_line_of declared.author) lines) ∷ numbers_behind lines authors numbers
