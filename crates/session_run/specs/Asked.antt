-- For which calls a block asks its gate.
use Rattle.std.specs.Prelude.{◌≡◌, ℕ, ◌+◌, List, take, slice_get, Some}
use Rattle.std.specs.List.{count_by}
use Rattle.grove_edits.specs.declared.action.Action.{Action}
use Rattle.session_script.specs.declared.author.Declared.{Declared}
use Rattle.session_script.specs.declared.line.Line.{Line}
use Rattle.session_script.specs.declared.line.Line.TheVariants as line
use Rattle.session_run.specs.Boards.{is_line_of}

-- a line of the author has this number, where the author's first line of the block has the first one: as many more as lines of the author
-- stand before it
pub record IsLineNumber (author first : ℕ) (lines : List Line) (number : ℕ) : Type 0 where
  pub index : ℕ
  pub action : Action
  pub is_line : slice_get lines index ≡ Some (line.Author author action)
  pub counted : number ≡ first + count_by (is_line_of author) (take index lines)

-- the number is that of a line of a declared author, whose first line of the block has the number in the author's place
pub record IsNumberIn (authors : List Declared) (firsts : List ℕ) (lines : List Line) (author number : ℕ) : Type 0 where
  pub place : ℕ
  pub declared : Declared
  pub first : ℕ
  pub is_declared : slice_get authors place ≡ Some declared
  pub is_author : author ≡ declared.author
  pub is_first : slice_get firsts place ≡ Some first
  pub is_line : IsLineNumber author first lines number
