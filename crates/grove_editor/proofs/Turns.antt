-- What undoing and redoing make of the state of an editor.
use Rattle.std.proofs.Common.{◌≡◌, ℕ, List, [], ◌∷◌, ◌++◌, length, sym, ap, subst, ◌∙◌}
use Rattle.std.specs.Prelude.{remove}
use Rattle.std.specs.List.{All}
use Rattle.grove_edits.specs.declared.edit.Edit.{Edit}
use Rattle.grove_edits.specs.Graph.{graph}
use Rattle.mark_incremental.specs.Changed.{AreChangedMarks}
use Rattle.replica_core.specs.Canonical.{with_edits}
use Rattle.replica_core.specs.Content.{Content, IsContent}
use Rattle.grove_undo.specs.declared.change.Change.{Change}
use Rattle.grove_undo.specs.Change.{IsOfEdits}
use Rattle.grove_editor.specs.declared.deed.Deed.{Deed}
use Rattle.grove_editor.specs.declared.news.News.{News}
use Rattle.grove_editor.specs.declared.reply.Reply.TheVariants.{Undone, Redone, NothingToTurn, NotTurned}
use Rattle.grove_editor.specs.declared.turn.Turn.TheVariants.{Undo, Redo}
use Rattle.grove_editor.specs.declared.turning.Turned.{Turned}
use Rattle.grove_editor.specs.declared.turning.Turned.TheVariants.{Nothing, Refused, Made}
use Rattle.grove_editor.specs.Deeds.{deed_by, IsKnown}
use Rattle.grove_editor.specs.Kept.{IsKept, state_of}
use Rattle.grove_editor.specs.News.{IsNewsOf}
use Rattle.grove_editor.specs.State.{State}
use Rattle.grove_editor.specs.Turned.{HasTurned, IsUndoneBy, HasUndone, nothing_done, not_undone, undone, HasRedone, nothing_undone, not_redone, redone}
use Rattle.grove_editor.proofs.Known.{known_more, known_less}
use Rattle.grove_editor.proofs.States.{with_parts, kept_taken}

-- ---- what is kept

pub known_undone : (list edits : List Edit) (author : ℕ) (change back : Change) → IsUndoneBy (graph list) author change edits back → IsOfEdits back
known_undone list edits author change back is = record { before = list; edits = edits; is = is.is_change }

-- both lists of deeds, whichever of them was turned
kept_as : (content after : Content) (deeds left others more : List Deed) → after ≡ content → left ≡ deeds → more ≡ others → IsContent content → content.opening ≡ [] → All IsKnown deeds
    → All IsKnown others → IsKept after left more
kept_as content after deeds left others more same same_left same_more of none known of_others = record {
  is_content = subst IsContent (sym same) of;
  no_opening = ap (λ (c : Content). c.opening) same ∙ none;
  done_known = subst (All IsKnown) (sym same_left) known;
  undone_known = subst (All IsKnown) (sym same_more) of_others;
}

pub kept_turned : (author : ℕ) (content after : Content) (deeds left others more : List Deed) (turned : Turned) → HasTurned author content after deeds left others more turned → IsContent content
    → content.opening ≡ [] → All IsKnown deeds → All IsKnown others → IsKept after left more
kept_turned author content after deeds left others more Nothing is of none known known_others =
    kept_as content after deeds left others more is.1 is.2 is.3 of none known known_others
kept_turned author content after deeds left others more (Refused fault) is of none known known_others =
    kept_as content after deeds left others more is.4 is.5 is.6 of none known known_others
kept_turned author content after deeds left others more (Made edits changed) is of none known known_others =
    kept_taken content after edits deeds others left more is.5 (record { is_content = of; no_opening = none; done_known = known; undone_known = known_others })
    (subst (All IsKnown) (sym is.6) (known_less deeds is.0 known))
    (subst (All IsKnown) (sym is.7) (known_more others author is.2 known_others (known_undone content.edits edits author is.1.deed.change is.2 is.3)))

pub kept_swapped : (content : Content) (a b : List Deed) → IsKept content a b → IsKept content b a
kept_swapped content a b kept = record { is_content = kept.is_content; no_opening = kept.no_opening; done_known = kept.undone_known; undone_known = kept.done_known }

-- ---- the state

module _ (content after : Content) (fed : List ℕ) (news : News) (author : ℕ) where
  undone_at : (done left others more : List Deed) (turned : Turned) (told : News) → HasTurned author content after done left others more turned → IsNewsOf Undo turned told
      → HasUndone author (state_of content fed done others news) (state_of after fed left more told)
  undone_at done left others more Nothing told is of =
      nothing_done is.0
      (with_parts fed after.edits content.edits left done more others told.reply NothingToTurn told.made [] told.changed.items [] (ap (λ (c : Content). c.edits) is.1) is.2 is.3 of.0 of.1 of.2)
  undone_at done left others more (Refused fault) told is of =
      not_undone is.0 is.1 fault is.2 is.3
      (with_parts fed after.edits content.edits left done more others told.reply (NotTurned fault) told.made [] told.changed.items [] (ap (λ (c : Content). c.edits) is.4) is.5 is.6 of.0 of.1 of.2)
  undone_at done left others more (Made edits changed) told is of =
      let same : after.edits ≡ with_edits edits content.edits = ap (λ (c : Content). c.edits) is.5 in
      undone is.0 is.1 edits is.2 changed.items is.3 (subst (λ (es : List Edit). AreChangedMarks (graph content.edits) (graph es) changed.items) same is.4)
      (with_parts fed after.edits (with_edits edits content.edits) left (remove done is.0) more (others ++ deed_by author is.2 ∷ []) told.reply (Undone (length edits)) told.made edits
      told.changed.items changed.items same is.6 is.7 of.0 of.1 of.2)

  redone_at : (done left others more : List Deed) (turned : Turned) (told : News) → HasTurned author content after others left done more turned → IsNewsOf Redo turned told
      → HasRedone author (state_of content fed done others news) (state_of after fed more left told)
  redone_at done left others more Nothing told is of =
      nothing_undone is.0
      (with_parts fed after.edits content.edits more done left others told.reply NothingToTurn told.made [] told.changed.items [] (ap (λ (c : Content). c.edits) is.1) is.3 is.2 of.0 of.1 of.2)
  redone_at done left others more (Refused fault) told is of =
      not_redone is.0 is.1 fault is.2 is.3
      (with_parts fed after.edits content.edits more done left others told.reply (NotTurned fault) told.made [] told.changed.items [] (ap (λ (c : Content). c.edits) is.4) is.6 is.5 of.0 of.1 of.2)
  redone_at done left others more (Made edits changed) told is of =
      let same : after.edits ≡ with_edits edits content.edits = ap (λ (c : Content). c.edits) is.5 in
      redone is.0 is.1 edits is.2 changed.items is.3 (subst (λ (es : List Edit). AreChangedMarks (graph content.edits) (graph es) changed.items) same is.4)
      (with_parts fed after.edits (with_edits edits content.edits) more (done ++ deed_by author is.2 ∷ []) left (remove others is.0) told.reply (Redone (length edits)) told.made edits
      told.changed.items changed.items same is.7 is.6 of.0 of.1 of.2)

  module _ (done left others more : List Deed) (old : State) (turned : Turned) (told : News) where
    pub undone_state : state_of content fed done others news ≡ old → HasTurned author content after done left others more turned → IsNewsOf Undo turned told
        → HasUndone author old (state_of after fed left more told)
    undone_state view is of = subst (λ (s : State). HasUndone author s (state_of after fed left more told)) view (undone_at done left others more turned told is of)

    -- the first list is that of what was undone
    pub redone_state : state_of content fed others done news ≡ old → HasTurned author content after done left others more turned → IsNewsOf Redo turned told
        → HasRedone author old (state_of after fed more left told)
    redone_state view is of = subst (λ (s : State). HasRedone author s (state_of after fed more left told)) view (redone_at others left done more turned told is of)
