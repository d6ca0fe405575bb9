-- The answer in the words of the course.
use Rattle.std.proofs.Common.{◌≡◌, ◌≢◌, ◌≤◌, ◌⊎◌, inl, inr, ℕ, List, [], ◌++◌, length, take, refl, sym, ap, subst, ◌∙◌}
use Rattle.std.proofs.Math.Path.{fun_ext}
use Rattle.std.specs.Prelude.{Option, Some, None, Result, Ok, Err, IfOk, OnOk}
use Rattle.edge_lattice.proofs.States.{Absent-state_join}
use Rattle.grove_edits.specs.declared.edge.Edge.{Edge}
use Rattle.grove_edits.specs.declared.edit.Edit.{Edit}
use Rattle.grove_edits.specs.Graph.{Graph, graph, IsSame}
use Rattle.grove_undo.specs.declared.change.Change.{Change}
use Rattle.graph_words.specs.Whole.{AreLive}
use Rattle.grove_undo.specs.declared.undo_fault.UndoFault.{UndoFault}
use Rattle.grove_undo.specs.declared.undo_fault.UndoFault.TheVariants.{NoMemory as no_memory}
use Rattle.grove_undo.specs.Change.{IsChangeOf}
use Rattle.grove_undo.specs.Undoing.{IsUndoing, IsUndoFault}
use Rattle.replica_core.specs.Canonical.{with_edits}
use Rattle.replica_core.proofs.WithEdits.{graph-with_edits}
use Rattle.text_parts.specs.declared.no_memory.NoMemory.{NoMemory}
use Rattle.undo_answers.specs.declared.course.Acted.{Acted}
use Rattle.undo_answers.specs.declared.course.Course.{Course as Kept}
use Rattle.undo_answers.specs.Course.{Course, Done}
use Rattle.undo_answers.specs.UndoText.{Answers, IsAnswer, IsAnswerTo, nothing_line, undone_line, refused_line}
use Rattle.undo_answers.specs.Kept.{AnswersLast, IsLast, IsWithin}

-- graphs that are the same are one
pub one_graph : (g h : Graph) → IsSame g h → g ≡ h
one_graph g h same = fun_ext same

-- edits, and the canonical list of their graph
graph-taken : (edits : List Edit) → graph (with_edits edits []) ≡ graph edits
graph-taken edits = fun_ext (λ e. graph-with_edits edits [] e ∙ Absent-state_join (graph edits e))

-- edits that undo a change, and their line
pub undone_answers : (r : Result (List Edit) NoMemory) (now : Graph) (live : List Edge) (author : ℕ) (change : Change) (edits : List Edit) (old new : List ℕ) → AreLive now live → IsUndoing now live author change edits
    → OnOk r (new ≡ old ++ undone_line (length edits)) → IfOk r (λ same. same ≡ edits) → IfOk r (λ undoing. (line : List ℕ) × (new ≡ old ++ line) × Answers now author change undoing line)
undone_answers (Err e) now live author change edits old new are is line same = tt
undone_answers (Ok undoing) now live author change edits old new are is line same = (
  undone_line (length edits),
  line,
  inl (record { live = live; are_live = are; is = subst (IsUndoing now live author change) (sym same) is; told = ap (λ (es : List Edit). undone_line (length es)) (sym same) }),
)

-- and why it is refused
pub refused_answers : (r : Result (List Edit) NoMemory) (now : Graph) (live : List Edge) (author : ℕ) (change : Change) (fault : UndoFault) (old new : List ℕ) → AreLive now live → IsUndoFault now live author change fault
    → OnOk r (new ≡ old ++ refused_line fault) → OnOk r (fault ≢ no_memory) → IfOk r (λ edits. edits ≡ []) → IfOk r (λ undoing. (line : List ℕ) × (new ≡ old ++ line) × Answers now author change undoing line)
refused_answers (Err e) now live author change fault old new are is line known none = tt
refused_answers (Ok undoing) now live author change fault old new are is line known none = (
  refused_line fault,
  line,
  inr (record { live = live; are_live = are; fault = fault; known = known; is = is; none = none; told = refl }),
)

-- the same of the same graph
pub answers_along : (r : Result (List Edit) NoMemory) (in_graph now : Graph) (author : ℕ) (change : Change) (old new : List ℕ) → IsSame in_graph now
    → IfOk r (λ undoing. (line : List ℕ) × (new ≡ old ++ line) × Answers in_graph author change undoing line)
    → IfOk r (λ undoing. (line : List ℕ) × (new ≡ old ++ line) × Answers now author change undoing line)
answers_along (Err e) in_graph now author change old new same is = tt
answers_along (Ok undoing) in_graph now author change old new same is = (is.0, is.1, subst (λ (g : Graph). Answers g author change undoing is.0) (one_graph in_graph now same) is.2)

-- and of the change of some edits
pub answer_whole : (r : Result (List Edit) NoMemory) (before : Graph) (edits : List Edit) (now : Graph) (author : ℕ) (change : Change) (old new : List ℕ) → IsChangeOf before edits change
    → IfOk r (λ undoing. (line : List ℕ) × (new ≡ old ++ line) × Answers now author change undoing line)
    → IfOk r (λ undoing. (line : List ℕ) × (new ≡ old ++ line) × IsAnswerTo before edits now author undoing line)
answer_whole (Err e) before edits now author change old new of is = tt
answer_whole (Ok undoing) before edits now author change old new of is = (is.0, is.1, record { change = change; is_change = of; answered = is.2 })

-- the answer where there is no such action
pub nothing_last : (r : Result (List Edit) NoMemory) (taken : List Edit) (last : Option Acted) (author : ℕ) (old new : List ℕ) → last ≡ None → OnOk r (new ≡ old ++ nothing_line) → IfOk r (λ edits. edits ≡ [])
    → IfOk r (λ undoing. (line : List ℕ) × (new ≡ old ++ line) × AnswersLast taken last author undoing line)
nothing_last (Err e) taken last author old new is line none = tt
nothing_last (Ok undoing) taken last author old new is line none =
    subst (λ (l : Option Acted). (line : List ℕ) × (new ≡ old ++ line) × AnswersLast taken l author undoing line) (sym is) (nothing_line, line, (none, refl))

-- and where there is one
pub some_last : (r : Result (List Edit) NoMemory) (taken slice : List Edit) (last : Option Acted) (acted : Acted) (author : ℕ) (old new : List ℕ) → last ≡ Some acted → slice ≡ taken
    → IfOk r (λ undoing. (line : List ℕ) × (new ≡ old ++ line) × IsAnswerTo (graph (take acted.before slice)) acted.edits (graph slice) author undoing line)
    → IfOk r (λ undoing. (line : List ℕ) × (new ≡ old ++ line) × AnswersLast taken last author undoing line)
some_last (Err e) taken slice last acted author old new is same answered = tt
some_last (Ok undoing) taken slice last acted author old new is same answered = (
  answered.0,
  answered.1,
  subst (λ (l : Option Acted). AnswersLast taken l author undoing answered.0) (sym is)
      (subst (λ (es : List Edit). IsAnswerTo (graph (take acted.before es)) acted.edits (graph es) author undoing answered.0) same answered.2),
)

pub within_some : (taken slice : List Edit) (last : Option Acted) (acted : Acted) → last ≡ Some acted → slice ≡ taken → IsWithin taken last → acted.before ≤ length slice
within_some taken slice last acted is same within =
    let here : acted.before ≤ length taken = subst (λ (l : Option Acted). IsWithin taken l) is within in
    subst (λ (es : List Edit). acted.before ≤ length es) (sym same) here

-- what is answered in the words of what is kept, in those of the course
pub answer_is : (taken : List Edit) (last : Option Acted) (done : Option Done) (content : List Edit) (author : ℕ) (undoing : List Edit) (line : List ℕ) → content ≡ with_edits taken [] → IsLast taken last done
    → AnswersLast taken last author undoing line → IsAnswer done (graph content) author undoing line
answer_is taken None None content author undoing line are is answer = answer
answer_is taken None (Some done) content author undoing line are is answer = absurd is
answer_is taken (Some acted) None content author undoing line are is answer = absurd is
answer_is taken (Some acted) (Some done) content author undoing line are is answer =
    let before : graph (take acted.before taken) ≡ graph done.before = sym (graph-taken (take acted.before taken)) ∙ ap graph (sym is.1) in
    let now : graph taken ≡ graph content = sym (graph-taken taken) ∙ ap graph (sym are) in
    subst (λ (g : Graph). IsAnswerTo g done.edits (graph content) author undoing line) before
    (subst (λ (es : List Edit). IsAnswerTo (graph (take acted.before taken)) es (graph content) author undoing line) (sym is.2)
    (subst (λ (g : Graph). IsAnswerTo (graph (take acted.before taken)) acted.edits g author undoing line) now answer))
