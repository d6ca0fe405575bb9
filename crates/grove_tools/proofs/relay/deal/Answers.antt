use Rattle.std.proofs.Common.{◌≡◌, ℕ, ◌+◌, ◌≤◌, List, length, sym, ap, ◌∙◌, subst, rules, Some}
use Rattle.std.specs.Prelude.{vec_capacity, slice_get}
use Rattle.grove_edits.specs.declared.edit.Edit.{Edit}
use Rattle.grove_tools.specs.Relay.{dealt_to}
use Rattle.grove_tools.proofs.Dealing.{dealt_one_more}
use Rattle.grove_tools.proofs.relay.deal.Goals as goal

pub loop-sender-preserved : goal.loop-sender-preserved
loop-sender-preserved c =
    let before = c.loop-sender.invariant in
    let senders = c.args.senders in
    let edits = c.args.edits.now in
    let last = c.in_ok-edits_of.field-0 in
    let many : length c.push_reserved.new.self.items ≡ c.loop-sender.sender + 1 = search rules in
    let room : senders ≤ vec_capacity c.push_reserved.new.self = search rules in
    let its : last ≡ dealt_to senders c.loop-sender.sender 0 edits = c.in_ok-edits_of.ensures ∙ ap (λ (es : List Edit). dealt_to senders c.loop-sender.sender 0 es) c.as_slice.ensures in
    let own : last ≡ dealt_to senders (length c.loop-sender.lists.items) 0 edits = its ∙ ap (λ (s : ℕ). dealt_to senders s 0 edits) (sym before.many) in
    record {
      many = many;
      room = room;
      each = subst (λ (ls : List (List Edit)). (sender : ℕ) (list : List Edit) → slice_get ls sender ≡ Some list → list ≡ dealt_to senders sender 0 edits) (sym c.push_reserved.ensures.items)
          (dealt_one_more senders edits c.loop-sender.lists.items last before.each own);
    }
