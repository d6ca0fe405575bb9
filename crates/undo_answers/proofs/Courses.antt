-- How a course is kept from line to line.
use Rattle.std.proofs.Common.{◌≡◌, ℕ, ◌+◌, ◌<◌, ◌≤◌, Bool, true, false, cond, List, [], ◌∷◌, ◌++◌, length, get_or, take, refl, sym, ap, subst, ◌∙◌, arith, length-append}
use Rattle.std.specs.Prelude.{◌&&◌, not, ◌==◌, Option, Some, None}
use Rattle.std.proofs.lemmas.List.{take-append-le, take_all, take_more}
use Rattle.grove_edits.specs.declared.edit.Edit.{Edit}
use Rattle.grove_edits.specs.declared.action.Action.{Action}
use Rattle.grove_edits.specs.declared.actor.Actor.TheVariants.{Author}
use Rattle.grove_edits.specs.declared.answer.Answer.{Answer}
use Rattle.grove_edits.specs.declared.command.Command.TheVariants.{Act}
use Rattle.session_script.specs.declared.line.Line.{Line}
use Rattle.session_script.specs.declared.item.Item.{Item}
use Rattle.replica_core.specs.Canonical.{with_edits}
use Rattle.replica_core.specs.Content.{Content, no_edits, with_taken, with_block}
use Rattle.replica_core.specs.Step.{effect, reply}
use Rattle.replica_core.proofs.WithEdits.{with_edits-append}
use Rattle.undo_answers.specs.declared.course.Acted.{Acted}
use Rattle.undo_answers.specs.declared.course.Course.{Course as Kept}
use Rattle.undo_answers.specs.Course.{Course, Done, at_start, is_refused, after_action, after_line, after_lines, after_item, after_items, loaded, opened}
use Rattle.undo_answers.specs.Kept.{IsLast, IsWithin, StandsFor}

-- ---- lines and items in turn

lines-append : (author : ℕ) (a b : List Line) (c : Course) → after_lines author (a ++ b) c ≡ after_lines author b (after_lines author a c)
lines-append author [] b c = refl
lines-append author (l ∷ ls) b c = lines-append author ls b (after_line author l c)

items-append : (author : ℕ) (a b : List Item) (c : Course) → after_items author (a ++ b) c ≡ after_items author b (after_items author a c)
items-append author [] b c = refl
items-append author (x ∷ xs) b c = items-append author xs b (after_item author x c)

pub line_next : (author : ℕ) (lines : List Line) (i : ℕ) (line : Line) (kept : Kept) (before : Course) → i < length lines → line ≡ get_or lines i line
    → StandsFor kept (after_line author line (after_lines author (take i lines) before)) → StandsFor kept (after_lines author (take (i + 1) lines) before)
line_next author lines i line kept before lt is stands =
    let more : take (i + 1) lines ≡ take i lines ++ line ∷ [] = take_more lines i line lt ∙ ap (λ (x : Line). take i lines ++ x ∷ []) (sym is) in
    subst (StandsFor kept) (sym (ap (λ (xs : List Line). after_lines author xs before) more ∙ lines-append author (take i lines) (line ∷ []) before)) stands

pub lines_end : (author : ℕ) (lines : List Line) (i : ℕ) (kept : Kept) (before : Course) → length lines ≤ i → StandsFor kept (after_lines author (take i lines) before)
    → StandsFor kept (after_lines author lines before)
lines_end author lines i kept before all stands = subst (λ (xs : List Line). StandsFor kept (after_lines author xs before)) (take_all i lines all) stands

pub item_next : (author : ℕ) (items : List Item) (i : ℕ) (item : Item) (kept : Kept) (before : Course) → i < length items → item ≡ get_or items i item
    → StandsFor kept (after_item author item (after_items author (take i items) before)) → StandsFor kept (after_items author (take (i + 1) items) before)
item_next author items i item kept before lt is stands =
    let more : take (i + 1) items ≡ take i items ++ item ∷ [] = take_more items i item lt ∙ ap (λ (x : Item). take i items ++ x ∷ []) (sym is) in
    subst (StandsFor kept) (sym (ap (λ (xs : List Item). after_items author xs before) more ∙ items-append author (take i items) (item ∷ []) before)) stands

pub items_end : (author : ℕ) (items : List Item) (i : ℕ) (kept : Kept) (before : Course) → length items ≤ i → StandsFor kept (after_items author (take i items) before)
    → StandsFor kept (after_items author items before)
items_end author items i kept before all stands = subst (λ (xs : List Item). StandsFor kept (after_items author xs before)) (take_all i items all) stands

-- ---- what is kept

pub stands_first : (kept : Kept) → kept.replica ≡ no_edits → kept.taken ≡ [] → kept.last ≡ None → StandsFor kept at_start
stands_first kept empty none_taken none_last = record {
  content = empty;
  taken = ap (λ (es : List Edit). with_edits es []) (sym none_taken);
  last = subst (λ (last : Option Acted). IsLast kept.taken last None) (sym none_last) tt;
}

last_stays : (taken more : List Edit) (last : Option Acted) (done : Option Done) → IsLast taken last done → IsLast (taken ++ more) last done
last_stays taken more None None is = tt
last_stays taken more None (Some done) is = is
last_stays taken more (Some acted) None is = is
last_stays taken more (Some acted) (Some done) is = (
  omega (arith, is.0, length-append taken more),
  is.1 ∙ ap (λ (es : List Edit). with_edits es []) (sym (take-append-le acted.before taken more is.0)),
  is.2,
)

-- edits are taken
pub stands_taken : (old new : Kept) (more : List Edit) (course : Course) → StandsFor old course → new.replica ≡ with_taken more old.replica → new.taken ≡ old.taken ++ more
    → new.last ≡ old.last → StandsFor new (record course { content = with_taken more course.content })
stands_taken old new more course stands replica taken last = record {
  content = replica ∙ ap (with_taken more) stands.content;
  taken = ap (with_edits more) stands.taken ∙ sym (with_edits-append old.taken more []) ∙ ap (λ (es : List Edit). with_edits es []) (sym taken);
  last =
      subst (λ (es : List Edit). IsLast es new.last course.last) (sym taken)
      (subst (λ (l : Option Acted). IsLast (old.taken ++ more) l course.last) (sym last) (last_stays old.taken more old.last course.last stands.last));
}

-- a block opens
pub stands_opened : (old new : Kept) (course : Course) → StandsFor old course → new.replica ≡ with_block old.replica → new.taken ≡ old.taken → new.last ≡ old.last → StandsFor new (opened course)
stands_opened old new course stands replica taken last = record {
  content = replica ∙ ap with_block stands.content;
  taken = stands.taken ∙ ap (λ (es : List Edit). with_edits es []) (sym taken);
  last =
      subst (λ (es : List Edit). IsLast es new.last course.last) (sym taken)
      (subst (λ (l : Option Acted). IsLast old.taken l course.last) (sym last) stands.last);
}

-- an action's edits are taken, and it is the last of the author that was not refused where it counts
pub stands_acted : (old new : Kept) (author by : ℕ) (action : Action) (edits : List Edit) (course : Course) → StandsFor old course
    → edits ≡ effect old.replica (Author by) (Act action) → new.replica ≡ with_taken edits old.replica → new.taken ≡ old.taken ++ edits
    → ((by == author) && not (is_refused (reply old.replica (Author by) (Act action)))) ≡ true → new.last ≡ Some (record { before = length old.taken; edits = edits })
    → StandsFor new (after_action author by action course)
stands_acted old new author by action edits course stands are replica taken counts last =
    let own : edits ≡ effect course.content (Author by) (Act action) = are ∙ ap (λ (c : Content). effect c (Author by) (Act action)) stands.content in
    let test : ((by == author) && not (is_refused (reply course.content (Author by) (Act action)))) ≡ true =
    sym (ap (λ (c : Content). (by == author) && not (is_refused (reply c (Author by) (Act action)))) stands.content) ∙ counts in
    let here : IsLast (old.taken ++ edits) (Some (record { before = length old.taken; edits = edits })) (Some (record { before = course.content.edits; edits = effect course.content (Author by) (Act action) })) = (
      omega (arith, length-append old.taken edits),
      stands.taken ∙ ap (λ (es : List Edit). with_edits es []) (sym (take-append-le (length old.taken) old.taken edits (omega arith) ∙ take_all (length old.taken) old.taken (omega arith))),
      sym own,
    ) in
    record {
      content = replica ∙ ap (with_taken edits) stands.content ∙ ap (λ (es : List Edit). with_taken es course.content) own;
      taken =
          ap (λ (es : List Edit). with_edits es course.content.edits) (sym own) ∙ ap (with_edits edits) stands.taken ∙ sym (with_edits-append old.taken edits [])
          ∙ ap (λ (es : List Edit). with_edits es []) (sym taken);
      last =
          subst (λ (es : List Edit). IsLast es new.last (after_action author by action course).last) (sym taken)
          (subst (λ (l : Option Acted). IsLast (old.taken ++ edits) l (after_action author by action course).last) (sym last)
          (subst (λ (b : Bool). IsLast (old.taken ++ edits) (Some (record { before = length old.taken; edits = edits }))
          (cond b (Some (record { before = course.content.edits; edits = effect course.content (Author by) (Act action) })) course.last)) (sym test) here));
    }

-- and else the last one stays
pub stands_passed : (old new : Kept) (author by : ℕ) (action : Action) (edits : List Edit) (course : Course) → StandsFor old course
    → edits ≡ effect old.replica (Author by) (Act action) → new.replica ≡ with_taken edits old.replica → new.taken ≡ old.taken ++ edits
    → ((by == author) && not (is_refused (reply old.replica (Author by) (Act action)))) ≡ false → new.last ≡ old.last → StandsFor new (after_action author by action course)
stands_passed old new author by action edits course stands are replica taken counts last =
    let own : edits ≡ effect course.content (Author by) (Act action) = are ∙ ap (λ (c : Content). effect c (Author by) (Act action)) stands.content in
    let test : ((by == author) && not (is_refused (reply course.content (Author by) (Act action)))) ≡ false =
    sym (ap (λ (c : Content). (by == author) && not (is_refused (reply c (Author by) (Act action)))) stands.content) ∙ counts in
    let more = stands_taken old new edits course stands replica taken last in
    record {
      content = more.content ∙ ap (λ (es : List Edit). with_taken es course.content) own;
      taken = ap (λ (es : List Edit). with_edits es course.content.edits) (sym own) ∙ more.taken;
      last = subst (λ (b : Bool). IsLast new.taken new.last (cond b (Some (record { before = course.content.edits; edits = effect course.content (Author by) (Act action) })) course.last)) (sym test) more.last;
    }

pub within_last : (taken : List Edit) (last : Option Acted) (done : Option Done) → IsLast taken last done → IsWithin taken last
within_last taken None _ is = tt
within_last taken (Some acted) None is = absurd is
within_last taken (Some acted) (Some done) is = is.0
