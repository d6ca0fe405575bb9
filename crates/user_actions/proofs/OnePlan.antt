-- A graph and an action have at most one plan, and a refusal has no edits.
use Rattle.std.proofs.Common.{◌≡◌, inl, inr, ℕ, List, [], ◌∷◌, map, refl, sym, ap, ◌∙◌}
use Rattle.std.specs.Prelude.{Option, None, Some}
use Rattle.grove_edits.specs.declared.edge.Edge.{Edge}
use Rattle.grove_edits.specs.declared.vertex.Vertex.{Vertex}
use Rattle.grove_edits.specs.declared.edit.Edit.{Edit}
use Rattle.grove_edits.specs.Graph.{Graph, IsSame}
use Rattle.grove_edits.proofs.Unique.{edit_from_fields}
use Rattle.graph_words.specs.Live.{IsInEdgeOrder, holds_edge}
use Rattle.graph_words.specs.Whole.{IsVertexOf}
use Rattle.graph_words.proofs.Ordered.{same_lists}
use Rattle.grove_terms.proofs.OneGrove.{one_live, one_vertices}
use Rattle.grove_edits.specs.declared.action.Action.{Action}
use Rattle.grove_edits.specs.declared.action.Action.TheVariants.{Construct}
use Rattle.grove_edits.specs.declared.act_fault.ActFault.{ActFault}
use Rattle.grove_edits.specs.declared.answer.Answer.{Answer}
use Rattle.grove_edits.specs.declared.answer.Answer.TheVariants.{Refused}
use Rattle.user_actions.specs.Lists.{GraphLists, AreListsOf, ArePresent}
use Rattle.user_actions.specs.Faults.{first_fault}
use Rattle.user_actions.specs.PlainEdits.{PlainEdit, plain}
use Rattle.user_actions.specs.Plan.{Planned, plan, unless_refused, IsPlan, IsMade}
use Rattle.user_actions.specs.Actions.{edits_of, answer_of}
use Rattle.grove_sorts.proofs.Truths.{same_tests}

pub one_present : (g : Graph) (a b : List Edge) → ArePresent g a → ArePresent g b → a ≡ b
one_present g a b of_a of_b =
    same_lists a b of_a.in_order of_b.in_order
    (λ e. same_tests (holds_edge e a) (holds_edge e b) (λ h. of_b.each e (of_a.no_other e h)) (λ h. of_a.each e (of_b.no_other e h)))

pub one_lists : (g : Graph) (a b : GraphLists) → AreListsOf g a → AreListsOf g b → a ≡ b
one_lists g a b of_a of_b =
    ap (λ (vs : List Vertex). let lists : GraphLists = record { vertices = vs; present = a.present; live = a.live } in lists) (one_vertices g a.vertices b.vertices of_a.vertices of_b.vertices)
    ∙ ap (λ (es : List Edge). let lists : GraphLists = record { vertices = b.vertices; present = es; live = a.live } in lists) (one_present g a.present b.present of_a.present of_b.present)
    ∙ ap (λ (es : List Edge). let lists : GraphLists = record { vertices = b.vertices; present = b.present; live = es } in lists) (one_live g a.live b.live of_a.live of_b.live)

first_same : (p q : PlainEdit) (ps qs : List PlainEdit) → p ∷ ps ≡ q ∷ qs → (p ≡ q) × (ps ≡ qs)
first_same p q ps qs h = (cc, cc)

pub same_edits : (xs ys : List Edit) → map plain xs ≡ map plain ys → xs ≡ ys
same_edits [] [] h = refl
same_edits [] (y ∷ ys) h = absurd cc
same_edits (x ∷ xs) [] h = absurd cc
same_edits (x ∷ xs) (y ∷ ys) h =
    let parts = first_same (plain x) (plain y) (map plain xs) (map plain ys) h in
    let one : x ≡ y = edit_from_fields x y (ap (λ (p : PlainEdit). p.0) parts.0) (ap (λ (p : PlainEdit). p.1) parts.0) in
    ap (λ z. z ∷ xs) one ∙ ap (λ zs. y ∷ zs) (same_edits xs ys parts.1)

pub one_plan : (g : Graph) (opening : List Edge) (author : ℕ) (action : Action) (a b : List Edit) (x y : Answer) → IsPlan g opening author action a x → IsPlan g opening author action b y → (a ≡ b) × (x ≡ y)
one_plan g opening author action a b x y of_a of_b =
    let same : plan of_a.lists opening author action ≡ plan of_b.lists opening author action = ap (λ lists. plan lists opening author action) (one_lists g of_a.lists of_b.lists of_a.are_lists of_b.are_lists) in (
      same_edits a b (of_a.edits_are ∙ ap (λ (p : Planned). p.edits) same ∙ sym of_b.edits_are),
      of_a.answer_is ∙ ap (λ (p : Planned). p.answer) same ∙ sym of_b.answer_is,
    )

-- the answer of an action that is not refused is no refusal
not_refusal : (lists : GraphLists) (author : ℕ) (action : Action) (fault : ActFault) → answer_of lists author action ≡ Refused fault → ⊥
not_refusal lists author (Construct place ctor) fault h = cc
not_refusal lists author _ fault h = cc

no_edits : (edits : List Edit) → map plain edits ≡ [] → edits ≡ []
no_edits [] h = refl
no_edits (edit ∷ edits) h = absurd cc

pub refusal_has_none : (g : Graph) (opening : List Edge) (author : ℕ) (action : Action) (edits : List Edit) (fault : ActFault) → IsPlan g opening author action edits (Refused fault) → edits ≡ []
refusal_has_none g opening author action edits fault of = by_fault (first_fault of.lists opening author action) refl where
  whole : Planned
  whole = record { edits = edits_of of.lists opening author action; answer = answer_of of.lists author action }

  by_fault : (o : Option ActFault) → first_fault of.lists opening author action ≡ o → edits ≡ []
  by_fault (Some other) is = no_edits edits (of.edits_are ∙ ap (λ f. (unless_refused f whole).edits) is)
  by_fault None is = absurd (not_refusal of.lists author action fault (sym (of.answer_is ∙ ap (λ f. (unless_refused f whole).answer) is)))

-- a refusal tells the first fault that applies
some_fault : (a b : ActFault) → Refused a ≡ Refused b → a ≡ b
some_fault a b h = cc

pub refusal_is_first : (g : Graph) (opening : List Edge) (author : ℕ) (action : Action) (edits : List Edit) (fault : ActFault) (of : IsPlan g opening author action edits (Refused fault))
    → first_fault of.lists opening author action ≡ Some fault
refusal_is_first g opening author action edits fault of = by_fault (first_fault of.lists opening author action) refl where
  whole : Planned
  whole = record { edits = edits_of of.lists opening author action; answer = answer_of of.lists author action }

  by_fault : (o : Option ActFault) → first_fault of.lists opening author action ≡ o → first_fault of.lists opening author action ≡ Some fault
  by_fault (Some other) is = is ∙ ap Some (sym (some_fault fault other (of.answer_is ∙ ap (λ f. (unless_refused f whole).answer) is)))
  by_fault None is = absurd (not_refusal of.lists author action fault (sym (of.answer_is ∙ ap (λ f. (unless_refused f whole).answer) is)))

-- ---- what the lists of a graph tell is the plan on it

pub plan_from_made : (g : Graph) (lists : GraphLists) (opening : List Edge) (author : ℕ) (action : Action) (edits : List Edit) (answer : Answer) → IsInEdgeOrder opening → AreListsOf g lists
    → IsMade lists opening author action edits answer → IsPlan g opening author action edits answer
plan_from_made g lists opening author action edits answer order of is =
    let whole : Planned = record { edits = edits_of lists opening author action; answer = answer_of lists author action } in
    record {
      opening_in_order = order;
      lists = lists;
      are_lists = of;
      edits_are = is.edits_are ∙ sym (ap (λ f. (unless_refused f whole).edits) is.no_fault);
      answer_is = is.answer_is ∙ sym (ap (λ f. (unless_refused f whole).answer) is.no_fault);
    }

pub plan_from_fault : (g : Graph) (lists : GraphLists) (opening : List Edge) (author : ℕ) (action : Action) (fault : ActFault) → IsInEdgeOrder opening → AreListsOf g lists
    → first_fault lists opening author action ≡ Some fault → IsPlan g opening author action [] (Refused fault)
plan_from_fault g lists opening author action fault order of is =
    let whole : Planned = record { edits = edits_of lists opening author action; answer = answer_of lists author action } in
    record {
      opening_in_order = order;
      lists = lists;
      are_lists = of;
      edits_are = sym (ap (λ f. (unless_refused f whole).edits) is);
      answer_is = sym (ap (λ f. (unless_refused f whole).answer) is);
    }

-- ---- graphs with the same states have the same plans

lists_along : (g h : Graph) (lists : GraphLists) → IsSame g h → AreListsOf g lists → AreListsOf h lists
lists_along g h lists same of = record {
  vertices = record {
    in_order = of.vertices.in_order;
    each = λ v is. of.vertices.each v (vertex_along h g v (λ e. sym (same e)) is);
    no_other = λ v stands. vertex_along g h v same (of.vertices.no_other v stands);
  };
  present = record {
    in_order = of.present.in_order;
    each = λ e some. of.present.each e (λ absent. some (sym (same e) ∙ absent));
    no_other = λ e held absent. of.present.no_other e held (same e ∙ absent);
  };
  live = record {
    in_order = of.live.in_order;
    each = λ e is. of.live.each e (same e ∙ is);
    no_other = λ e held. sym (same e) ∙ of.live.no_other e held;
  };
} where
  vertex_along : (a b : Graph) (v : Vertex) → IsSame a b → IsVertexOf a v → IsVertexOf b v
  vertex_along a b v alike (inl is) = inl is
  vertex_along a b v alike (inr end) = inr (end.0, λ absent. end.1 (alike end.0 ∙ absent), end.2)

pub plan_along : (g h : Graph) (opening : List Edge) (author : ℕ) (action : Action) (edits : List Edit) (answer : Answer) → IsSame g h → IsPlan g opening author action edits answer → IsPlan h opening author action edits answer
plan_along g h opening author action edits answer same is = record {
  opening_in_order = is.opening_in_order;
  lists = is.lists;
  are_lists = lists_along g h is.lists same is.are_lists;
  edits_are = is.edits_are;
  answer_is = is.answer_is;
}
