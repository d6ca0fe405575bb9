-- The text of `undo`: a line, and the print text behind what it tells.
use Rattle.std.specs.Prelude.{◌≡◌, ◌≢◌, ◌⊎◌, ℕ, List, [], ◌∷◌, ◌++◌, length, Option, Some, None, codes, decimal}
use Rattle.grove_names.specs.Name.{name_text}
use Rattle.grove_edits.specs.declared.edge.Edge.{Edge}
use Rattle.grove_edits.specs.declared.edit.Edit.{Edit}
use Rattle.grove_edits.specs.Graph.{Graph, graph}
use Rattle.graph_words.specs.Whole.{AreLive}
use Rattle.grove_undo.specs.declared.change.Change.{Change}
use Rattle.grove_undo.specs.declared.undo_fault.UndoFault.{UndoFault}
use Rattle.grove_undo.specs.declared.undo_fault.UndoFault.TheVariants.{Touched, NamesSpent, NoMemory}
use Rattle.grove_undo.specs.Change.{IsChangeOf}
use Rattle.grove_undo.specs.Undoing.{IsUndoing, IsUndoFault}
use Rattle.grove_answers.specs.Texts.{IsPrintText}
use Rattle.session_script.specs.declared.session.Session.{Session}
use Rattle.replica_core.specs.Content.{with_taken}
use Rattle.undo_answers.specs.Course.{Course, Done, course_of}

-- the number of a fault, its word, and what it shows
abbrev pub touched_text : Edge → List ℕ
touched_text edge = codes "1 touched " ++ name_text edge.name

abbrev pub spent_text : ℕ → List ℕ
spent_text greatest = codes "2 names-spent " ++ decimal greatest

abbrev pub fault_text : UndoFault → List ℕ
fault_text (Touched edge) = touched_text edge
fault_text (NamesSpent greatest) = spent_text greatest
fault_text NoMemory = []

abbrev pub nothing_line : List ℕ
nothing_line = codes "nothing" ++ 10 ∷ []

abbrev pub undone_line : ℕ → List ℕ
undone_line count = codes "undone " ++ (decimal count ++ 10 ∷ [])

abbrev pub refused_line : UndoFault → List ℕ
refused_line fault = codes "refused " ++ (fault_text fault ++ 10 ∷ [])

-- the edits undo the change in a graph, and the line tells how many they are
pub record IsUndone (now : Graph) (author : ℕ) (change : Change) (undoing : List Edit) (line : List ℕ) : Type 0 where
  pub live : List Edge
  pub are_live : AreLive now live
  pub is : IsUndoing now live author change undoing
  pub told : line ≡ undone_line (length undoing)

-- there are no edits, and the line tells why not
pub record IsRefused (now : Graph) (author : ℕ) (change : Change) (undoing : List Edit) (line : List ℕ) : Type 0 where
  pub live : List Edge
  pub are_live : AreLive now live
  pub fault : UndoFault
  pub known : fault ≢ NoMemory
  pub is : IsUndoFault now live author change fault
  pub none : undoing ≡ []
  pub told : line ≡ refused_line fault

-- it is undone, or is refused
abbrev pub Answers : Graph → ℕ → Change → List Edit → List ℕ → Type 0
Answers now author change undoing line = IsUndone now author change undoing line ⊎ IsRefused now author change undoing line

-- what some edits changed in one graph is undone in another, or is refused
pub record IsAnswerTo (before : Graph) (edits : List Edit) (now : Graph) (author : ℕ) (undoing : List Edit) (line : List ℕ) : Type 0 where
  pub change : Change
  pub is_change : IsChangeOf before edits change
  pub answered : Answers now author change undoing line

-- the author's last action that was not refused is undone, where there is one
abbrev pub IsAnswer : Option Done → Graph → ℕ → List Edit → List ℕ → Type 0
IsAnswer None now author undoing line = (undoing ≡ []) × (line ≡ nothing_line)
IsAnswer (Some done) now author undoing line = IsAnswerTo (graph done.before) done.edits now author undoing line

-- the answer behind a course, and the print text of the graph with the edits of undoing
pub record IsTextOf (course : Course) (author : ℕ) (text : List ℕ) : Type 0 where
  pub undoing : List Edit
  pub line : List ℕ
  pub print : List ℕ
  pub answer : IsAnswer course.last (graph course.content.edits) author undoing line
  pub printed : IsPrintText (graph (with_taken undoing course.content).edits) print
  pub written : text ≡ line ++ print

abbrev pub IsUndoText : Session → ℕ → List ℕ → Type 0
IsUndoText session author text = IsTextOf (course_of author session) author text
