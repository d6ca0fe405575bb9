-- Edits that were applied one after the other, and are taken back.
use Rattle.std.proofs.Common.{◌≡◌, Bool, List, [], ◌∷◌, ◌++◌, Option, Some, None, IfSome, refl, sym, ap, subst, ◌∙◌}
use Rattle.std.specs.Prelude.{reverse}
use Rattle.std.proofs.lemmas.List.{reverse-append}
use Rattle.grove_edits.specs.declared.vertex.Vertex.{Vertex}
use Rattle.grove_edits.specs.declared.edit.Edit.{Edit}
use Rattle.grove_edits.specs.Edit.{edit_edge}
use Rattle.grove_edits.specs.Graph.{IsSame}
use Rattle.graph_words.specs.States.{state_in, KeepsRoom}
use Rattle.type_core.specs.Typ.{Typ}
use Rattle.ctx_table.specs.Context.{Context}
use Rattle.type_core.specs.TypeTable.{KeepsTypes}
use Rattle.ctx_table.specs.CtxTable.{KeepsContexts}
use Rattle.judging.proofs.Kept.{types-then, contexts-then}
use Rattle.live_graph.specs.NumberOf.{KeepsNumbersOf}
use Rattle.mark_store.specs.declared.record.Record.{Record}
use Rattle.mark_store.specs.Places.{HasRoom, holds}
use Rattle.mark_incremental.specs.declared.applying.Applied.{Applied}
use Rattle.mark_incremental.specs.declared.applying_all.Receipt.{Receipt}
use Rattle.mark_incremental.specs.Reading.{IsRecordOf}
use Rattle.mark_incremental.specs.Standing.{KeptMarks, kept_in}
use Rattle.mark_incremental.specs.Applying.{HaveGrown, KeepMarksRoom, put_back_in, roots_back}
use Rattle.mark_incremental.specs.Receipts.{Held, IsAsBefore, HasLed, HaveLed}
use Rattle.mark_incremental.proofs.Growth.{record_kept}
use Rattle.mark_incremental.proofs.Edited.{nothing_grown}
use Rattle.mark_incremental.proofs.Lists.{all_gives}

-- ---- what is put back over marks that have grown

pub back_along : (old : List (Vertex × Option Record)) (found later : Vertex → Option Record) → ((v : Vertex) → later v ≡ found v) → (v : Vertex) → put_back_in old later v ≡ put_back_in old found v
back_along old found later same v = ap (λ (f : Vertex → Option Record). put_back_in old f v) (λ j u. same u j)

pub roots_along : (root : Option (Vertex × Bool)) (found later : Vertex → Bool) → ((v : Vertex) → later v ≡ found v) → (v : Vertex) → roots_back root later v ≡ roots_back root found v
roots_along root found later same v = ap (λ (f : Vertex → Bool). roots_back root f v) (λ j u. same u j)

pub grown_then : (first second third : KeptMarks) → HaveGrown first second → HaveGrown second third → HaveGrown first third
grown_then first second third one other = record {
  types = types-then first.types second.types third.types one.types other.types;
  contexts = contexts-then first.contexts second.contexts third.contexts one.contexts other.contexts;
  records = λ v. other.records v ∙ one.records v;
  roots = λ v. other.roots v ∙ one.roots v;
}

pub room_then : (first second third : KeptMarks) → KeepMarksRoom first second → KeepMarksRoom second third → KeepMarksRoom first third
room_then first second third one other = record {
  records = λ v has. other.records v (one.records v has);
  roots = λ v has. other.roots v (one.roots v has);
}

pub room_itself : (marks : KeptMarks) → KeepMarksRoom marks marks
room_itself marks = record { records = λ v has. has; roots = λ v has. has }

-- ---- all is as before

pub as_itself : (h : Held) → IsAsBefore h h
as_itself h = record {
  graph = λ e. refl;
  marks = nothing_grown h.marks;
  room = λ e has. has;
  marks_room = room_itself h.marks;
  numbers = λ e n is. is;
}

pub as_then : (first second third : Held) → IsAsBefore first second → IsAsBefore second third → IsAsBefore first third
as_then first second third one other = record {
  graph = λ e. other.graph e ∙ one.graph e;
  marks = grown_then first.marks second.marks third.marks one.marks other.marks;
  room = λ e has. other.room e (one.room e has);
  marks_room = room_then first.marks second.marks third.marks one.marks_room other.marks_room;
  numbers = λ e n is. other.numbers e n (one.numbers e n is);
}

-- ---- one edit

number_along : (types grown : List Typ) (ctxs grown_ctxs : List Context) → KeepsTypes types grown → KeepsContexts ctxs grown_ctxs → (o : Option Record) → IfSome o (IsRecordOf types ctxs) → IfSome o (IsRecordOf grown grown_ctxs)
number_along types grown ctxs grown_ctxs keeps keepsc None is = tt
number_along types grown ctxs grown_ctxs keeps keepsc (Some r) is = record_kept types grown ctxs grown_ctxs keeps keepsc r is

root_along : (before after : KeptMarks) → KeepMarksRoom before after → (root : Option (Vertex × Bool)) → IfSome root (λ m. HasRoom before.roots m.0) → IfSome root (λ m. HasRoom after.roots m.0)
root_along before after keeps None is = tt
root_along before after keeps (Some m) is = keeps.roots m.0 is

-- an edit can be taken back where all is as its application left it
pub led_on : (edit : Edit) (applied : Applied) (before after later : Held) → HasLed edit applied before after → IsAsBefore after later → HasLed edit applied before later
led_on edit applied before after later led stays = record {
  was = record {
    raised = record { joined = λ e. stays.graph e ∙ led.was.raised.joined e; change_is = led.was.raised.change_is };
    stood = led.was.stood;
    renewed = record {
      records = λ v. back_along applied.old.records.items (kept_in after.marks) (kept_in later.marks) stays.marks.records v ∙ led.was.renewed.records v;
      roots = λ v. roots_along applied.old.root (holds after.marks.roots) (holds later.marks.roots) stays.marks.roots v ∙ led.was.renewed.roots v;
      types = types-then before.marks.types after.marks.types later.marks.types led.was.renewed.types stays.marks.types;
      contexts = contexts-then before.marks.contexts after.marks.contexts later.marks.contexts led.was.renewed.contexts stays.marks.contexts;
    };
  };
  can = record {
    room = stays.room (edit_edge edit) led.can.room;
    renewed = record {
      records =
          all_gives (λ m. HasRoom after.marks.records m.0) (λ m. HasRoom later.marks.records m.0) applied.old.records.items (λ m. stays.marks_room.records m.0) led.can.renewed.records;
      numbers =
          all_gives (λ m. IfSome m.1 (IsRecordOf after.marks.types after.marks.contexts)) (λ m. IfSome m.1 (IsRecordOf later.marks.types later.marks.contexts)) applied.old.records.items
          (λ m. number_along after.marks.types later.marks.types after.marks.contexts later.marks.contexts stays.marks.types stays.marks.contexts m.1) led.can.renewed.numbers;
      root = root_along after.marks later.marks stays.marks_room applied.old.root led.can.renewed.root;
    };
  };
  room = λ e has. stays.room e (led.room e has);
  marks_room = room_then before.marks after.marks later.marks led.marks_room stays.marks_room;
  numbers = λ e n is. stays.numbers e n (led.numbers e n is);
}

-- an edit that is taken back leaves all as before
pub taken_back : (edit : Edit) (applied : Applied) (before after later : Held) → HasLed edit applied before after → IsSame (state_in later.entries) (state_in before.entries) → HaveGrown before.marks later.marks → KeepsRoom after.entries later.entries
    → KeepMarksRoom after.marks later.marks → KeepsNumbersOf after.entries later.entries → IsAsBefore before later
taken_back edit applied before after later led same grown keeps keeps_marks numbers = record {
  graph = same;
  marks = grown;
  room = λ e has. keeps e (led.room e has);
  marks_room = room_then before.marks after.marks later.marks led.marks_room keeps_marks;
  numbers = λ e n is. numbers e n (led.numbers e n is);
}

-- ---- edits one after the other

pub have_led_on : (rs : List Receipt) (before after later : Held) → HaveLed rs before after → IsAsBefore after later → HaveLed rs before later
have_led_on [] before after later led stays = as_then before after later led stays
have_led_on (r ∷ rs) before after later led stays = (led.0, led.1, led_on r.edit.now r.applied led.0 after later led.2 stays)

-- the room in the graph and in the maps stays, and so do numbers
pub entries_room : (rs : List Receipt) (before after : Held) → HaveLed rs before after → KeepsRoom before.entries after.entries
entries_room [] before after led = led.room
entries_room (r ∷ rs) before after led = λ e has. led.2.room e (entries_room rs before led.0 led.1 e has)

pub marks_room : (rs : List Receipt) (before after : Held) → HaveLed rs before after → KeepMarksRoom before.marks after.marks
marks_room [] before after led = led.marks_room
marks_room (r ∷ rs) before after led = room_then before.marks led.0.marks after.marks (marks_room rs before led.0 led.1) led.2.marks_room

pub numbers_stay : (rs : List Receipt) (before after : Held) → HaveLed rs before after → KeepsNumbersOf before.entries after.entries
numbers_stay [] before after led = led.numbers
numbers_stay (r ∷ rs) before after led = λ e n is. led.2.numbers e n (numbers_stay rs before led.0 led.1 e n is)

-- one more edit stands first
pub last_first : (all left : List Receipt) (last : Receipt) → all ≡ left ++ last ∷ [] → reverse all ≡ last ∷ reverse left
last_first all left last split = ap reverse split ∙ reverse-append left (last ∷ [])

pub first_led : (all left : List Receipt) (last : Receipt) (before after : Held) → all ≡ left ++ last ∷ [] → HaveLed (reverse all) before after → HaveLed (last ∷ reverse left) before after
first_led all left last before after split = subst (λ (rs : List Receipt). HaveLed rs before after) (last_first all left last split)

pub last_led : (left all : List Receipt) (last : Receipt) (before after : Held) → all ≡ left ++ last ∷ [] → HaveLed (last ∷ reverse left) before after → HaveLed (reverse all) before after
last_led left all last before after split = subst (λ (rs : List Receipt). HaveLed rs before after) (sym (last_first all left last split))

pub none_led : (rs : List Receipt) → rs ≡ [] → (held : Held) → HaveLed (reverse rs) held held
none_led rs none held = subst (λ (rs : List Receipt). HaveLed (reverse rs) held held) (sym none) (as_itself held)

-- an edit that was not applied left all as before
pub as_failed : (before after : Held) → IsSame (state_in after.entries) (state_in before.entries) → HaveGrown before.marks after.marks → KeepsRoom before.entries after.entries → KeepMarksRoom before.marks after.marks
    → KeepsNumbersOf before.entries after.entries → IsAsBefore before after
as_failed before after same grown keeps keeps_marks numbers = record {
  graph = same;
  marks = grown;
  room = keeps;
  marks_room = keeps_marks;
  numbers = numbers;
}
