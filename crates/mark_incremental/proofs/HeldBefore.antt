-- What vertices were before some edits, held vertex by vertex and receipt by receipt, the last one first.
use Rattle.std.proofs.Common.{◌≡◌, Bool, true, false, cond, List, [], ◌∷◌, ◌++◌, Option, Some, None, refl, sym, ap, subst, ◌∙◌}
use Rattle.std.specs.Prelude.{reverse, unwrap_or}
use Rattle.grove_sorts.proofs.Truths.{neither}
use Rattle.grove_edits.specs.declared.vertex.Vertex.{Vertex}
use Rattle.grove_edits.specs.Vertex.{is_same_vertex, stands_in}
use Rattle.type_core.specs.TypeTable.{KeepsTypes}
use Rattle.ctx_table.specs.CtxTable.{KeepsContexts}
use Rattle.judging.proofs.Kept.{types-then, contexts-then}
use Rattle.mark_store.specs.declared.record.Record.{Record}
use Rattle.mark_store.specs.Places.{Places, value_at, holds}
use Rattle.mark_incremental.specs.declared.applying_all.Receipt.{Receipt}
use Rattle.mark_incremental.specs.declared.changed.Before.{Before}
use Rattle.mark_incremental.specs.Reading.{AreRecordsOf}
use Rattle.mark_incremental.specs.Standing.{KeptMarks, kept_in}
use Rattle.mark_incremental.specs.Applying.{put_back_in, roots_back}
use Rattle.mark_incremental.specs.Receipts.{Held, HaveLed}
use Rattle.mark_incremental.specs.Before.{record_before, root_before, WereBefore}
use Rattle.mark_incremental.proofs.Lists.{stands_push}
use Rattle.mark_incremental.proofs.Receipts.{back_along, roots_along, first_led}

-- ---- one more is held

module _ {X : Type 0} (places after : Places X) (w : Vertex) (x : X) (put : (v : Vertex) → value_at after v ≡ cond (is_same_vertex w v) (Some x) (value_at places v)) where
  pub one_held : (found : Vertex → X) (v : Vertex) → unwrap_or (value_at after v) (found v) ≡ cond (is_same_vertex w v) x (unwrap_or (value_at places v) (found v))
  one_held found v = ap (λ o. unwrap_or o (found v)) (put v) ∙ by (is_same_vertex w v) where
    by : (b : Bool) → unwrap_or (cond b (Some x) (value_at places v)) (found v) ≡ cond b x (unwrap_or (value_at places v) (found v))
    by true = refl
    by false = refl

  pub none_unlisted : (vs : List Vertex) → ((v : Vertex) → stands_in v vs ≡ false → value_at places v ≡ None) → (v : Vertex) → stands_in v (vs ++ w ∷ []) ≡ false → value_at after v ≡ None
  none_unlisted vs none v off =
      let parts = neither (is_same_vertex w v) (stands_in v vs) (sym (stands_push v w vs) ∙ off) in
      put v ∙ ap (λ b. cond b (Some x) (value_at places v)) parts.0 ∙ none v parts.1

pub still_unlisted : {X : Type 0} (places : Places X) (w : Vertex) (vs : List Vertex) → ((v : Vertex) → stands_in v vs ≡ false → value_at places v ≡ None) → (v : Vertex) → stands_in v (vs ++ w ∷ []) ≡ false → value_at places v ≡ None
still_unlisted places w vs none v off = none v (neither (is_same_vertex w v) (stands_in v vs) (sym (stands_push v w vs) ∙ off)).1

-- ---- receipts

-- with what is held the marks are what they were between two of the edits
pub record AreHeldUntil (between now : KeptMarks) (before : Before) : Type 0 where
  pub records : (v : Vertex) → record_before before.records (kept_in now) v ≡ kept_in between v
  pub roots : (v : Vertex) → root_before before.roots (holds now.roots) v ≡ holds between.roots v

-- the edits of receipts that are left led to such marks
pub record IsHeldSoFar (left : List Receipt) (was : Held) (now : KeptMarks) (before : Before) : Type 0 where
  pub between : Held
  pub led : HaveLed (reverse left) was between
  pub held : AreHeldUntil between.marks now before

-- where none is held, the marks are those there are
pub first_held : (left : List Receipt) (was now : Held) (before : Before) → HaveLed (reverse left) was now
    → ((found : Vertex → Option Record) (v : Vertex) → record_before before.records found v ≡ found v) → ((found : Vertex → Bool) (v : Vertex) → root_before before.roots found v ≡ found v)
    → IsHeldSoFar left was now.marks before
first_held left was now before led records roots = record { between = now; led = led; held = record { records = records (kept_in now.marks); roots = roots (holds now.marks.roots) } }

pub one_receipt : (left earlier : List Receipt) (last : Receipt) (was : Held) (now : KeptMarks) (before after : Before) → left ≡ earlier ++ last ∷ []
    → ((found : Vertex → Option Record) (v : Vertex) → record_before after.records found v ≡ put_back_in last.applied.old.records.items (record_before before.records found) v)
    → ((found : Vertex → Bool) (v : Vertex) → root_before after.roots found v ≡ roots_back last.applied.old.root (root_before before.roots found) v)
    → IsHeldSoFar left was now before → IsHeldSoFar earlier was now after
one_receipt left earlier last was now before after split records roots so_far =
    let led = first_led left earlier last was so_far.between split so_far.led in
    record {
      between = led.0;
      led = led.1;
      held = record {
        records = λ v.
            records (kept_in now) v ∙ back_along last.applied.old.records.items (kept_in so_far.between.marks) (record_before before.records (kept_in now)) so_far.held.records v
            ∙ led.2.was.renewed.records v;
        roots = λ v.
            roots (holds now.roots) v ∙ roots_along last.applied.old.root (holds so_far.between.marks.roots) (root_before before.roots (holds now.roots)) so_far.held.roots v
            ∙ led.2.was.renewed.roots v;
      };
    }

types_led : (rs : List Receipt) (before after : Held) → HaveLed rs before after → KeepsTypes before.marks.types after.marks.types
types_led [] before after led = led.marks.types
types_led (r ∷ rs) before after led = types-then before.marks.types led.0.marks.types after.marks.types (types_led rs before led.0 led.1) led.2.was.renewed.types

contexts_led : (rs : List Receipt) (before after : Held) → HaveLed rs before after → KeepsContexts before.marks.contexts after.marks.contexts
contexts_led [] before after led = led.marks.contexts
contexts_led (r ∷ rs) before after led = contexts-then before.marks.contexts led.0.marks.contexts after.marks.contexts (contexts_led rs before led.0 led.1) led.2.was.renewed.contexts

-- all receipts are held, so the marks before the first are told
pub all_held : (receipts left : List Receipt) (was now : Held) (before : Before) → left ≡ [] → HaveLed (reverse receipts) was now → AreRecordsOf was.marks.types was.marks.contexts was.marks.records
    → IsHeldSoFar left was now.marks before → WereBefore was.marks now.marks before
all_held receipts left was now before none led numbers so_far =
    let first : HaveLed [] was so_far.between = subst (λ (rs : List Receipt). HaveLed (reverse rs) was so_far.between) none so_far.led in
    record {
      records = λ v. so_far.held.records v ∙ first.marks.records v;
      roots = λ v. so_far.held.roots v ∙ first.marks.roots v;
      types = types_led (reverse receipts) was now led;
      contexts = contexts_led (reverse receipts) was now led;
      numbers = numbers;
    }
