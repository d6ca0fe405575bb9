-- One more receipt is held.
use Rattle.std.proofs.Common.{◌≡◌, ◌+◌, ◌-◌, ◌∷◌, [], ◌++◌, List, get_or, length, take, sym, ap, subst, ◌∙◌, arith}
use Rattle.std.specs.Prelude.{reverse}
use Rattle.std.proofs.lemmas.List.{take_all, take_more}
use Rattle.mark_incremental.specs.declared.applying_all.Receipt.{Receipt}
use Rattle.mark_incremental.specs.Receipts.{held, HaveLed}
use Rattle.mark_incremental.proofs.HeldBefore.{first_held, one_receipt, all_held}
use Rattle.mark_incremental.proofs.marks.Marks.before_all.Goals as goal

pub loop-left-init : goal.loop-left-init
loop-left-init c = record {
  within = omega arith;
  listed = c.with_seed-before.ensures.listed;
  so_far = λ was entries led.
      first_held (take (length c.args.receipts.now) c.args.receipts.now) was (held entries c.args.self.now) c.with_seed-before.result
      (subst (λ (rs : List Receipt). HaveLed (reverse rs) was (held entries c.args.self.now)) (sym (take_all (length c.args.receipts.now) c.args.receipts.now (omega arith))) led)
      c.with_seed-before.ensures.records c.with_seed-before.ensures.roots;
}

pub loop-left-preserved : goal.loop-left-preserved
loop-left-preserved c =
    let i = c.loop-left.left - 1 in
    let item = get_or c.args.receipts.now i c.index-receipts-left.result in
    let within = c.loop-left.invariant.within in
    let some = c.loop-left-test.true in
    let next : c.loop-left.left ≡ i + 1 = omega (arith, some) in
    let split : take c.loop-left.left c.args.receipts.now ≡ take i c.args.receipts.now ++ item ∷ [] =
    ap (λ n. take n c.args.receipts.now) next ∙ take_more c.args.receipts.now i c.index-receipts-left.result (omega (arith, within, some)) in
    record {
      within = omega (arith, within);
      listed = c.in_ok-hold_old.ensures.listed;
      so_far = λ was entries led.
          one_receipt (take c.loop-left.left c.args.receipts.now) (take i c.args.receipts.now) item was c.args.self.now c.loop-left.before c.hold_old.new.before split c.in_ok-hold_old.ensures.records
          c.in_ok-hold_old.ensures.roots (c.loop-left.invariant.so_far was entries led);
    }

pub returns-clause-were : goal.returns-clause-were
returns-clause-were c was entries led numbers =
    let test = c.loop-left-test.false in
    let none : c.loop-left.left ≡ 0 = omega (arith, test) in
    all_held c.args.receipts.now (take c.loop-left.left c.args.receipts.now) was (held entries c.args.self.now) c.loop-left.before (ap (λ n. take n c.args.receipts.now) none) led numbers
    (c.loop-left.invariant.so_far was entries led)
