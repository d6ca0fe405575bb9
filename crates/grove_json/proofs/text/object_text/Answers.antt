use Rattle.std.proofs.Common.{refl, ap, ◌∙◌}
use Rattle.json.specs.Print.{escape_byte}
use Rattle.grove_json.specs.TreeTexts.{Texts}
use Rattle.grove_json.proofs.Texts.{object_written}
use Rattle.grove_json.proofs.text.object_text.Goals as goal

pub returns : goal.returns
unfolding escape_byte
returns c = λ trees none multi cycle.
    object_written c.new-text.result.items c.extend_from_slice.new.self.items c.append_array.new.out.items c.extend_from_slice-2.new.self.items c.append_array-2.new.out.items c.extend_from_slice-3.new.self.items
    c.append_array-3.new.out.items c.extend_from_slice-4.new.self.items _ _ _ _ trees c.new-text.ensures.items c.in_ok-extend_from_slice.ensures.items
    (c.in_ok-append_array.ensures trees.cycle (c.deref.ensures.value ∙ ap (λ (t : Texts). t.cycle) c.texts.view_is ∙ cycle)) c.in_ok-extend_from_slice-2.ensures.items
    (c.in_ok-append_array-2.ensures trees.multi (c.deref-2.ensures.value ∙ ap (λ (t : Texts). t.multi) c.texts.view_is ∙ multi)) c.in_ok-extend_from_slice-3.ensures.items
    (c.in_ok-append_array-3.ensures trees.none (c.deref-3.ensures.value ∙ ap (λ (t : Texts). t.none) c.texts.view_is ∙ none)) c.in_ok-extend_from_slice-4.ensures.items refl refl refl refl
