-- The plans of some actions on small graphs, worked by hand.
use Rattle.std.specs.Prelude.{◌≡◌, ℕ, List, [], ◌∷◌, refl}
use Rattle.grove_names.specs.declared.name.Name.{Name}
use Rattle.grove_sorts.specs.declared.sort.Sort.TheVariants.{Exp, Typ}
use Rattle.grove_sorts.specs.declared.position.Position.{Position}
use Rattle.grove_sorts.specs.declared.position.Position.TheVariants.{Main, Left, First, Second, Operand, Fun, Arg}
use Rattle.grove_sorts.specs.declared.ctor.Ctor.{Ctor}
use Rattle.grove_sorts.specs.declared.ctor.Ctor.TheVariants.{Num, Plus, Ap, Pair, Fst, Snd, LitTrue, TNum}
use Rattle.grove_edits.specs.declared.vertex.Vertex.{Vertex}
use Rattle.grove_edits.specs.declared.edge.Edge.{Edge}
use Rattle.grove_edits.specs.Vertex.{root}
use Rattle.grove_edits.specs.declared.action.Place.{Place}
use Rattle.grove_edits.specs.declared.action.Action.{Action}
use Rattle.grove_edits.specs.declared.action.Action.TheVariants.{Construct, Wrap, Become, Delete, Cut, Relocate, Restore}
use Rattle.grove_edits.specs.declared.act_fault.ActFault.{ActFault}
use Rattle.grove_edits.specs.declared.act_fault.ActFault.TheVariants.{NoVertex, AmbiguousVertex, NoPosition, WrongSort, Occupied, Empty, CannotWrap, NoEdge, AmbiguousEdge, IntoItself, NotLoose, NamesSpent}
use Rattle.grove_edits.specs.declared.answer.Answer.TheVariants.{Made, Done, Refused}
use Rattle.user_actions.specs.Lists.{GraphLists}
use Rattle.user_actions.specs.PlainEdits.{deletion, insertion}
use Rattle.user_actions.specs.Plan.{Planned, plan}

abbrev name : ℕ → ℕ → Name
name author counter = record { author = author; counter = counter }

abbrev vertex : ℕ → ℕ → Ctor → Vertex
vertex author counter ctor = record { name = name author counter; ctor = ctor }

abbrev edge : ℕ → ℕ → Vertex → Position → Vertex → Edge
edge author counter source position target = record { name = name author counter; source = source; position = position; target = target }

abbrev place : ℕ → ℕ → Position → Place
place author counter position = record { name = name author counter; position = position }

abbrev refusal : ActFault → Planned
refusal fault = record { edits = []; answer = Refused fault }

-- ---- the greatest counter is spent for one author, and not for another

abbrev plus : Vertex
plus = vertex 1 1 Plus

abbrev spent : Edge
spent = edge 1 18446744073709551615 root Main plus

abbrev one_plus : GraphLists
one_plus = record { vertices = root ∷ plus ∷ []; present = spent ∷ []; live = spent ∷ [] }

names_are_spent : plan one_plus (spent ∷ []) 1 (Construct (place 1 1 Left) (Num 1)) ≡ refusal (NamesSpent 18446744073709551615)
names_are_spent = refl

two_is_made : plan one_plus (spent ∷ []) 2 (Construct (place 1 1 Left) (Num 2)) ≡ record { edits = insertion (name 2 2) plus Left (vertex 2 1 (Num 2)) ∷ []; answer = Made (name 2 1) }
two_is_made = refl

-- ---- a vertex does not move below itself

abbrev fst : Vertex
fst = vertex 1 1 Fst

abbrev snd : Vertex
snd = vertex 1 3 Snd

abbrev nested : GraphLists
nested = let edges : List Edge = edge 1 2 root Main fst ∷ edge 1 4 fst Operand snd ∷ [] in record { vertices = root ∷ fst ∷ snd ∷ []; present = edges; live = edges }

not_into_itself : plan nested [] 1 (Relocate (name 1 2) (place 1 3 Operand)) ≡ refusal (IntoItself fst)
not_into_itself = refl

-- ---- a conflict is wrapped

abbrev seven : Vertex
seven = vertex 1 1 (Num 7)

abbrev truth : Vertex
truth = vertex 2 1 LitTrue

abbrev to_seven : Edge
to_seven = edge 1 2 root Main seven

abbrev to_truth : Edge
to_truth = edge 2 2 root Main truth

abbrev conflict : GraphLists
conflict = let edges : List Edge = to_seven ∷ to_truth ∷ [] in record { vertices = root ∷ seven ∷ truth ∷ []; present = edges; live = edges }

a_number_does_not_wrap : plan conflict [] 3 (Wrap (place 0 0 Main) (Num 3)) ≡ refusal (CannotWrap (Num 3))
a_number_does_not_wrap = refl

a_conflict_is_wrapped : plan conflict [] 3 (Wrap (place 0 0 Main) Plus)
    ≡ record {
      edits =
          deletion to_seven ∷ deletion to_truth ∷ insertion (name 3 2) root Main (vertex 3 1 Plus)
          ∷ insertion (name 3 3) (vertex 3 1 Plus) Left seven ∷ insertion (name 3 4) (vertex 3 1 Plus) Left truth ∷ [];
      answer = Made (name 3 1);
    }
a_conflict_is_wrapped = refl

-- ---- one vertex is wrapped

abbrev other_seven : Vertex
other_seven = vertex 2 1 (Num 7)

abbrev to_other_seven : Edge
to_other_seven = edge 2 2 root Main other_seven

abbrev alone : GraphLists
alone = record { vertices = root ∷ other_seven ∷ []; present = to_other_seven ∷ []; live = to_other_seven ∷ [] }

one_is_wrapped : plan alone [] 1 (Wrap (place 0 0 Main) Plus)
    ≡ record {
      edits =
          deletion to_other_seven ∷ insertion (name 1 2) root Main (vertex 1 1 Plus)
          ∷ insertion (name 1 3) (vertex 1 1 Plus) Left other_seven ∷ [];
      answer = Made (name 1 1);
    }
one_is_wrapped = refl

-- ---- an edge of the opening graph is cut, also where it was deleted since

abbrev third : Edge
third = edge 3 2 root Main (vertex 3 1 (Num 7))

abbrev uncut : GraphLists
uncut = record { vertices = root ∷ vertex 3 1 (Num 7) ∷ []; present = third ∷ []; live = third ∷ [] }

abbrev cut_before : GraphLists
cut_before = record { vertices = root ∷ vertex 3 1 (Num 7) ∷ []; present = third ∷ []; live = [] }

is_cut : plan uncut (third ∷ []) 1 (Cut (name 3 2)) ≡ record { edits = deletion third ∷ []; answer = Done }
is_cut = refl

is_cut_again : plan cut_before (third ∷ []) 2 (Cut (name 3 2)) ≡ record { edits = deletion third ∷ []; answer = Done }
is_cut_again = refl

-- an edge that was deleted before the block opened is cut too
is_cut_anyway : plan cut_before [] 2 (Cut (name 3 2)) ≡ record { edits = deletion third ∷ []; answer = Done }
is_cut_anyway = refl

-- ---- faults

abbrev pair : Vertex
pair = vertex 1 1 Pair

abbrev left : Vertex
left = vertex 1 3 (Num 7)

abbrev to_left : Edge
to_left = edge 1 4 pair First left

abbrev to_right : Edge
to_right = edge 2 2 pair First truth

abbrev pairs : GraphLists
pairs = let edges : List Edge = edge 1 2 root Main pair ∷ to_left ∷ to_right ∷ [] in record { vertices = root ∷ pair ∷ left ∷ truth ∷ []; present = edges; live = edges }

abbrev answers : Action → ActFault → Type 0
answers action fault = plan pairs pairs.present 3 action ≡ refusal fault

no_such_vertex : answers (Construct (place 9 9 Left) (Num 1)) (NoVertex (name 9 9))
no_such_vertex = refl

no_such_position : answers (Construct (place 1 3 Left) (Num 1)) (NoPosition left)
no_such_position = refl

another_sort : answers (Construct (place 0 0 Main) TNum) (WrongSort Exp Typ)
another_sort = refl

is_occupied : answers (Construct (place 0 0 Main) (Num 1)) (Occupied (edge 1 2 root Main pair))
is_occupied = refl

is_empty : answers (Delete (place 1 1 Second)) (Empty (place 1 1 Second))
is_empty = refl

no_such_edge : answers (Cut (name 8 8)) (NoEdge (name 8 8))
no_such_edge = refl

two_such_edges : answers (Become (place 1 1 First) (Num 9)) (AmbiguousEdge to_left to_right)
two_such_edges = refl

is_not_loose : answers (Restore (name 1 3) (place 1 1 Second)) (NotLoose to_left)
is_not_loose = refl

-- ---- two vertices with one name

abbrev applied : Vertex
applied = vertex 1 1 Ap

abbrev two_of_a_name : GraphLists
two_of_a_name =
    let edges : List Edge = edge 1 2 root Main applied ∷ edge 1 3 applied Fun (vertex 2 1 (Num 1)) ∷ edge 1 4 applied Arg (vertex 2 1 (Num 2)) ∷ [] in
    record { vertices = root ∷ applied ∷ vertex 2 1 (Num 1) ∷ vertex 2 1 (Num 2) ∷ []; present = edges; live = edges }

two_such_vertices : plan two_of_a_name [] 3 (Construct (place 2 1 Left) (Num 5)) ≡ refusal (AmbiguousVertex (vertex 2 1 (Num 1)) (vertex 2 1 (Num 2)))
two_such_vertices = refl

-- ---- a child at a position that both constructors have goes along, and another stays

abbrev chosen : Vertex
chosen = vertex 1 1 Plus

abbrev to_chosen : Edge
to_chosen = edge 1 2 root Main chosen

abbrev on_the_left : Edge
on_the_left = edge 1 4 chosen Left left

abbrev sums : GraphLists
sums = let edges : List Edge = to_chosen ∷ on_the_left ∷ [] in record { vertices = root ∷ chosen ∷ left ∷ []; present = edges; live = edges }

a_child_goes_along : plan sums [] 2 (Become (place 0 0 Main) Plus)
    ≡ record {
      edits =
          deletion to_chosen ∷ insertion (name 2 2) root Main (vertex 2 1 Plus) ∷ deletion on_the_left
          ∷ insertion (name 2 3) (vertex 2 1 Plus) Left left ∷ [];
      answer = Made (name 2 1);
    }
a_child_goes_along = refl

a_child_stays : plan sums [] 2 (Become (place 0 0 Main) Pair)
    ≡ record { edits = deletion to_chosen ∷ insertion (name 2 2) root Main (vertex 2 1 Pair) ∷ []; answer = Made (name 2 1) }
a_child_stays = refl
