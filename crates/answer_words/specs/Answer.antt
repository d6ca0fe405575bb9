-- What is written of an answer.
-- The promise of the commands rests on these definitions.
use Rattle.std.specs.Prelude.{ℕ, List, [], ◌∷◌, codes, decimal}
use Rattle.grove_names.specs.Name.{name_text}
use Rattle.grove_sorts.specs.Ctor.{ctor_text}
use Rattle.grove_sorts.specs.Position.{position_text}
use Rattle.grove_sorts.specs.Sort.{sort_text}
use Rattle.edit_text.specs.Line.{spaced}
use Rattle.grove_edits.specs.declared.act_fault.ActFault.{ActFault}
use Rattle.grove_edits.specs.declared.act_fault.ActFault.TheVariants.{NoVertex, AmbiguousVertex, NoPosition, WrongSort, Occupied, Empty, CannotWrap, NoEdge, AmbiguousEdge, IntoItself, NotLoose, NamesSpent}
use Rattle.grove_edits.specs.declared.answer.Answer.{Answer}
use Rattle.grove_edits.specs.declared.answer.Answer.TheVariants.{Made, Moved, Done, Taken, Refused}

-- the number of a fault, its word, and what it shows
abbrev pub fault_parts : ActFault → List (List ℕ)
fault_parts (NoVertex name) = codes "1" ∷ codes "no-vertex" ∷ name_text name ∷ []
fault_parts (AmbiguousVertex first second) =
    codes "2" ∷ codes "ambiguous-vertex" ∷ name_text first.name ∷ ctor_text first.ctor ∷ name_text second.name ∷ ctor_text second.ctor ∷ []
fault_parts (NoPosition vertex) = codes "3" ∷ codes "no-position" ∷ name_text vertex.name ∷ ctor_text vertex.ctor ∷ []
fault_parts (WrongSort wanted found) = codes "4" ∷ codes "wrong-sort" ∷ sort_text wanted ∷ sort_text found ∷ []
fault_parts (Occupied edge) = codes "5" ∷ codes "occupied" ∷ name_text edge.name ∷ []
fault_parts (Empty place) = codes "6" ∷ codes "empty" ∷ name_text place.name ∷ position_text place.position ∷ []
fault_parts (CannotWrap ctor) = codes "7" ∷ codes "cannot-wrap" ∷ ctor_text ctor ∷ []
fault_parts (NoEdge name) = codes "8" ∷ codes "no-edge" ∷ name_text name ∷ []
fault_parts (AmbiguousEdge first second) = codes "9" ∷ codes "ambiguous-edge" ∷ name_text first.name ∷ name_text second.name ∷ []
fault_parts (IntoItself vertex) = codes "10" ∷ codes "into-itself" ∷ name_text vertex.name ∷ []
fault_parts (NotLoose edge) = codes "11" ∷ codes "not-loose" ∷ name_text edge.name ∷ []
fault_parts (NamesSpent greatest) = codes "12" ∷ codes "names-spent" ∷ decimal greatest ∷ []

-- the word of an answer, and what it shows
abbrev pub answer_parts : Answer → List (List ℕ)
answer_parts (Made vertex) = codes "made" ∷ name_text vertex ∷ []
answer_parts (Moved edge) = codes "moved" ∷ name_text edge ∷ []
answer_parts Done = codes "done" ∷ []
answer_parts (Taken edits) = codes "edits" ∷ decimal edits ∷ []
answer_parts (Refused fault) = codes "refused" ∷ fault_parts fault

-- its words, with a space between each two
abbrev pub answer_text : Answer → List ℕ
answer_text answer = spaced (answer_parts answer)
