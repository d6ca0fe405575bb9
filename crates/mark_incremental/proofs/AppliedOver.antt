-- What an edit did to a graph and marks that are as others were.
use Rattle.std.proofs.Common.{ℕ, [], ◌∷◌, sym, ap, subst, ◌∙◌}
use Rattle.std.specs.Prelude.{Result, Ok, Err, IfOk, OnOk, OnErr}
use Rattle.edge_lattice.specs.State.{state_join}
use Rattle.grove_edits.specs.declared.edit.Edit.{Edit}
use Rattle.grove_edits.specs.Edit.{edit_edge, edit_kind}
use Rattle.grove_edits.specs.Graph.{Graph, graph, graph_join, IsSame, state_of}
use Rattle.graph_words.specs.Change.{IsChange}
use Rattle.graph_words.specs.States.{Entries, state_in}
use Rattle.judging.proofs.Kept.{types-then, contexts-then}
use Rattle.kept_records.specs.Size.{IsSize}
use Rattle.kept_records.proofs.OneSize.{size_along}
use Rattle.mark_incremental.specs.declared.applying.Applied.{Applied}
use Rattle.mark_incremental.specs.Standing.{KeptMarks, StandFor}
use Rattle.mark_incremental.specs.Applying.{HaveGrown, WasApplied}

-- ---- results

pub if_ok_on : {T E : Type 0} (r : Result T E) (P : T → Type 0) (Q : Type 0) → ((t : T) → P t → Q) → IfOk r P → OnOk r Q
if_ok_on (Ok t) P Q gives is = gives t is
if_ok_on (Err e) P Q gives is = tt

pub on_err_so : {T E : Type 0} (r : Result T E) (P Q : Type 0) → (P → Q) → OnErr r P → OnErr r Q
on_err_so (Ok t) P Q gives is = tt
on_err_so (Err e) P Q gives is = gives is

pub either_way : {T E : Type 0} (r : Result T E) (P : T → Type 0) (Q R : Type 0) → ((t : T) → P t → R) → (Q → R) → IfOk r P → OnErr r Q → R
either_way (Ok t) P Q R one other ok err = one t ok
either_way (Err e) P Q R one other ok err = other err

-- ---- graphs and marks

pub grown_then : (a b c : KeptMarks) → HaveGrown a b → HaveGrown b c → HaveGrown a c
grown_then a b c one two = record {
  types = types-then a.types b.types c.types one.types two.types;
  contexts = contexts-then a.contexts b.contexts c.contexts one.contexts two.contexts;
  records = λ v. two.records v ∙ one.records v;
  roots = λ v. two.roots v ∙ one.roots v;
}

pub joined_over : (edit : Edit) (g same_as h : Graph) → IsSame same_as g → IsSame h (graph_join same_as (graph (edit ∷ []))) → IsSame h (graph_join g (graph (edit ∷ [])))
joined_over edit g same_as h same joined e = joined e ∙ ap (λ s. state_join s (graph (edit ∷ []) e)) (same e)

pub applied_over : (edit : Edit) (applied : Applied) (store same_as after : Entries) (marks grown marks_after : KeptMarks) → IsSame (state_in same_as) (state_in store) → HaveGrown marks grown → StandFor (state_in store) marks
    → WasApplied edit applied same_as grown after marks_after → WasApplied edit applied store marks after marks_after
applied_over edit applied store same_as after marks grown marks_after same have stands was = record {
  raised = record {
    joined = joined_over edit (state_in store) (state_in same_as) (state_in after) same was.raised.joined;
    change_is = subst (λ s. IsChange s (state_of (edit_kind edit)) applied.change) (same (edit_edge edit)) was.raised.change_is;
  };
  stood = stands;
  renewed = record {
    records = λ v. was.renewed.records v ∙ have.records v;
    roots = λ v. was.renewed.roots v ∙ have.roots v;
    types = types-then marks.types grown.types marks_after.types have.types was.renewed.types;
    contexts = contexts-then marks.contexts grown.contexts marks_after.contexts have.contexts was.renewed.contexts;
  };
}

pub size_over : (edit : Edit) (g same_as : Graph) (n : ℕ) → IsSame same_as g → IsSize (edit_edge edit) g (graph_join g (graph (edit ∷ []))) n → IsSize (edit_edge edit) same_as (graph_join same_as (graph (edit ∷ []))) n
size_over edit g same_as n same size =
    size_along (edit_edge edit) g (graph_join g (graph (edit ∷ []))) same_as (graph_join same_as (graph (edit ∷ []))) n (λ e. sym (same e)) (λ e. ap (λ s. state_join s (graph (edit ∷ []) e)) (sym (same e))) size
