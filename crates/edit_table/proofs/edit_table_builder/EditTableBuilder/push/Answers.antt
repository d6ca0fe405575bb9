use Rattle.std.proofs.Common.{◌≡◌, ◌∷◌, [], length, ap, ◌∙◌, take, arith}
use Rattle.edit_table.proofs.Lists.{taken_back}
use Rattle.edit_table.proofs.Growing.{growing_back, is_growing_back}
use Rattle.grove_sorts.proofs.Truths.{after_error}
use Rattle.edit_table.proofs.edit_table_builder.EditTableBuilder.push.Goals as goal

-- what was there before
keys_back : (c : goal.After-truncate-then-is_err-2) → c.truncate.new.self.keys ≡ c.self.inside.keys.keys
keys_back c =
    c.truncate.ensures.keys ∙ ap (λ n. take n c.push_records-pushed.new.keys.keys) c.len-keys.ensures.len
    ∙ taken_back c.push_records-pushed.new.keys.keys c.self.inside.keys.keys c.push_records-pushed.ensures.keys_stay

records_counted : (c : goal.After-truncate-then-is_err-2) → c.len-records.result ≡ length c.self.inside.records.items
records_counted c = omega (arith, c.len-records.ensures, c.self.inside.records.ok.0)

records_back : (c : goal.After-truncate-then-is_err-2) → c.truncate-then-is_err.new.self.items ≡ c.self.inside.records.items
records_back c =
    c.truncate-then-is_err.ensures.items ∙ ap (λ n. take n c.push_records-pushed.new.records.items) (records_counted c)
    ∙ taken_back c.push_records-pushed.new.records.items c.self.inside.records.items c.push_records-pushed.ensures.records_stay

waiting_counted : (c : goal.After-truncate-then-is_err-2) → c.len-waiting.result ≡ length c.self.inside.waiting.items
waiting_counted c = omega (arith, c.len-waiting.ensures, c.self.inside.waiting.ok.0)

waiting_back : (c : goal.After-truncate-then-is_err-2) → c.truncate-then-is_err-2.new.self.items ≡ c.self.inside.waiting.items
waiting_back c =
    c.truncate-then-is_err-2.ensures.items ∙ ap (λ n. take n c.push.new.self.items) (waiting_counted c)
    ∙ taken_back c.push.new.self.items c.self.inside.waiting.items (c.args.edit.now ∷ [], c.in_ok-push.ensures.items)

pub invariant_of-self-then-is_err : goal.invariant_of-self-then-is_err
invariant_of-self-then-is_err c =
    is_growing_back c.self.inside.ctors.keys c.push_records-pushed.new.ctors.keys c.self.inside.keys.keys c.push_records-pushed.new.keys.keys c.truncate.new.self.keys c.self.inside.records.items
    c.truncate-then-is_err.new.self.items c.self.inside.waiting.items c.truncate-then-is_err-2.new.self.items c.push_records-pushed.ensures.ctors c.push_records-pushed.ensures.ctors_stay
    c.push_records-pushed.ensures.keys_stay c.self.invariant (keys_back c) (records_back c) (waiting_back c)

pub returns-then-is_err-clause-unchanged : goal.returns-then-is_err-clause-unchanged
returns-then-is_err-clause-unchanged c =
    after_error c.push_records-pushed.result
    (growing_back c.self.inside.ctors.keys c.push_records-pushed.new.ctors.keys c.self.inside.keys.keys c.push_records-pushed.new.keys.keys c.truncate.new.self.keys c.self.inside.records.items
    c.truncate-then-is_err.new.self.items c.self.inside.waiting.items c.truncate-then-is_err-2.new.self.items c.push_records-pushed.ensures.ctors c.push_records-pushed.ensures.ctors_stay
    c.push_records-pushed.ensures.keys_stay c.self.invariant (keys_back c) (records_back c) (waiting_back c) ∙ c.self.view_is)
