-- What calls make of the state of an editor.
use Rattle.std.proofs.Common.{◌≡◌, ◌≢◌, ℕ, List, [], ◌∷◌, ◌++◌, length, refl, sym, ap, subst, ◌∙◌}
use Rattle.std.specs.List.{All}
use Rattle.grove_edits.specs.declared.vertex.Vertex.{Vertex}
use Rattle.grove_edits.specs.declared.edit.Edit.{Edit}
use Rattle.grove_edits.specs.declared.action.Action.{Action}
use Rattle.grove_edits.specs.declared.act_fault.ActFault.{ActFault}
use Rattle.grove_edits.specs.declared.answer.Answer.{Answer}
use Rattle.grove_edits.specs.declared.answer.Answer.TheVariants.{Taken, Refused}
use Rattle.grove_edits.specs.Graph.{graph}
use Rattle.mark_incremental.specs.Changed.{AreChangedMarks}
use Rattle.replica_core.specs.Canonical.{with_edits}
use Rattle.replica_core.specs.Content.{Content, IsContent, with_taken}
use Rattle.replica_core.proofs.Contents.{content_taken}
use Rattle.user_actions.specs.Plan.{IsPlan}
use Rattle.user_actions.proofs.OnePlan.{refusal_has_none}
use Rattle.grove_editor.specs.declared.deed.Deed.{Deed}
use Rattle.grove_editor.specs.declared.news.News.{News}
use Rattle.grove_editor.specs.declared.reply.Reply.{Reply}
use Rattle.grove_editor.specs.declared.reply.Reply.TheVariants.{Answered}
use Rattle.grove_editor.specs.Acted.{HasActed, HasDone, act_refused, act_made}
use Rattle.grove_editor.specs.Deeds.{deed_by, by_others, IsKnown}
use Rattle.grove_editor.specs.Kept.{IsKept, state_of}
use Rattle.grove_editor.specs.State.{State, replied}
use Rattle.grove_editor.specs.Taken.{HasTaken}
use Rattle.grove_editor.proofs.Known.{known_more, known_others}
use Rattle.grove_editor.proofs.OwnBlocks.{own_plan}

-- ---- the state by its parts

abbrev state : List Edit → List ℕ → List Deed → List Deed → Reply → List Edit → List Vertex → State
state edits fed done undone reply made changed = record { edits = edits; fed = fed; done = done; undone = undone; reply = reply; made = made; changed = changed }

pub with_parts : (fed : List ℕ) (e f : List Edit) (d g : List Deed) (u v : List Deed) (r s : Reply) (m n : List Edit) (c h : List Vertex)
    → e ≡ f → d ≡ g → u ≡ v → r ≡ s → m ≡ n → c ≡ h → state e fed d u r m c ≡ state f fed g v s n h
with_parts fed e f d g u v r s m n c h edits done undone reply made changed =
    ap (λ (x : List Edit). state x fed d u r m c) edits
    ∙ ap (λ (x : List Deed). state f fed x u r m c) done
    ∙ ap (λ (x : List Deed). state f fed g x r m c) undone
    ∙ ap (λ (x : Reply). state f fed g v x m c) reply
    ∙ ap (λ (x : List Edit). state f fed g v s x c) made
    ∙ ap (λ (x : List Vertex). state f fed g v s n x) changed

-- ---- what is kept

pub kept_along : (content after : Content) (done undone : List Deed) → after ≡ content → IsKept content done undone → IsKept after done undone
kept_along content after done undone same kept = subst (λ (c : Content). IsKept c done undone) (sym same) kept

pub kept_taken : (content after : Content) (edits : List Edit) (done undone more less : List Deed) → after ≡ with_taken edits content → IsKept content done undone
    → All IsKnown more → All IsKnown less → IsKept after more less
kept_taken content after edits done undone more less is kept of_more of_less = record {
  is_content = subst IsContent (sym is) (content_taken content edits kept.is_content);
  no_opening = ap (λ (c : Content). c.opening) is ∙ kept.no_opening;
  done_known = of_more;
  undone_known = of_less;
}

-- ---- calls

module _ (content : Content) (fed : List ℕ) (done undone : List Deed) (news : News) (old : State) (view : state_of content fed done undone news ≡ old) where
  -- a call that found no memory
  pub same_state : (after : Content) → after ≡ content → state_of after fed done undone news ≡ old
  same_state after same = ap (λ (c : Content). state_of c fed done undone news) same ∙ view

  pub replied_state : (told : News) (reply : Reply) → told.reply ≡ reply → told.made ≡ [] → told.changed.items ≡ [] → state_of content fed done undone told ≡ replied reply old
  replied_state told reply is none same =
      with_parts fed content.edits content.edits done done undone undone told.reply reply told.made [] told.changed.items [] refl refl refl is none same ∙ ap (replied reply) view

  pub taken_state : (after : Content) (edits : List Edit) (told : News) → after ≡ with_taken edits content → AreChangedMarks (graph content.edits) (graph after.edits) told.changed.items
      → told.reply ≡ Answered (Taken (length edits)) → told.made ≡ [] → HasTaken edits old (state_of after fed done undone told)
  taken_state after edits told is changed reply none =
      let same : after.edits ≡ with_edits edits content.edits = ap (λ (c : Content). c.edits) is in
      subst (λ (s : State). HasTaken edits s (state_of after fed done undone told)) view (record {
        changed = told.changed.items;
        are_changed = subst (λ (es : List Edit). AreChangedMarks (graph content.edits) (graph es) told.changed.items) same changed;
        taken =
            with_parts fed after.edits (with_edits edits content.edits) done done undone undone told.reply (Answered (Taken (length edits))) told.made [] told.changed.items told.changed.items same refl refl
            reply none refl;
      })

  module _ (kept : IsKept content done undone) (author : ℕ) (action : Action) where
    pub refused_state : (edits : List Edit) (fault : ActFault) (told : News) → IsPlan (graph content.edits) content.opening author action edits (Refused fault)
        → told.reply ≡ Answered (Refused fault) → told.made ≡ [] → told.changed.items ≡ [] → HasActed author action old (state_of content fed done undone told)
    refused_state edits fault told plan reply none same =
        let no_edits : edits ≡ [] = refusal_has_none (graph content.edits) content.opening author action edits fault plan in
        subst (λ (s : State). HasActed author action s (state_of content fed done undone told)) view
        (act_refused fault
        (own_plan content author action [] (Refused fault) kept.is_content kept.no_opening
        (subst (λ (es : List Edit). IsPlan (graph content.edits) content.opening author action es (Refused fault)) no_edits plan))
        (with_parts fed content.edits content.edits done done undone undone told.reply (Answered (Refused fault)) told.made [] told.changed.items [] refl refl refl reply none same))

    pub made_state : (after : Content) (more less : List Deed) (edits : List Edit) (answer : Answer) (told : News) → IsPlan (graph content.edits) content.opening author action edits answer
        → ((fault : ActFault) → answer ≢ Refused fault) → HasDone author edits content after done more told.changed.items → less ≡ by_others author undone → told.reply ≡ Answered answer
        → told.made ≡ edits → HasActed author action old (state_of after fed more less told)
    made_state after more less edits answer told plan not_refused did less_is reply own =
        let same : after.edits ≡ with_edits edits content.edits = ap (λ (c : Content). c.edits) did.taken in
        subst (λ (s : State). HasActed author action s (state_of after fed more less told)) view
        (act_made edits answer did.change told.changed.items (own_plan content author action edits answer kept.is_content kept.no_opening plan) not_refused did.is_change
        (subst (λ (es : List Edit). AreChangedMarks (graph content.edits) (graph es) told.changed.items) same did.are_changed)
        (with_parts fed after.edits (with_edits edits content.edits) more (done ++ deed_by author did.change ∷ []) less (by_others author undone) told.reply (Answered answer) told.made edits
        told.changed.items told.changed.items same did.noted less_is reply own refl))

    pub made_kept : (after : Content) (more less : List Deed) (edits : List Edit) (changed : List Vertex) → HasDone author edits content after done more changed → less ≡ by_others author undone → IsKept after more less
    made_kept after more less edits changed did less_is =
        kept_taken content after edits done undone more less did.taken kept
        (subst (All IsKnown) (sym did.noted) (known_more done author did.change kept.done_known (record { before = content.edits; edits = edits; is = did.is_change })))
        (subst (All IsKnown) (sym less_is) (known_others author undone kept.undone_known))
