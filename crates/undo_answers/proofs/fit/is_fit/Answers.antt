use Rattle.std.proofs.Common.{◌≡◌, ◌&&◌, not, ℕ, Bool, true, List, length, sym, ap, ◌∙◌}
use Rattle.std.specs.Prelude.{◌==◌}
use Rattle.std.specs.List.{list_any}
use Rattle.session_script.specs.declared.item.Item.{Item}
use Rattle.undo_answers.specs.Fit.{has_send}
use Rattle.undo_answers.proofs.fit.is_fit.Goals as goal

pub returns-then-len-eq1 : goal.returns-then-len-eq1
returns-then-len-eq1 c =
    let session = c.args.session.now in
    let one : (length session.replicas == 1) ≡ true = ap (λ (n : ℕ). n == 1) (sym c.len.ensures ∙ c.if-len-eq1.true) in
    ap not (c.has_send_item.ensures ∙ ap (λ (items : List Item). list_any has_send items) c.as_slice.ensures) ∙ ap (λ (b : Bool). b && not (list_any has_send session.items)) (sym one)
