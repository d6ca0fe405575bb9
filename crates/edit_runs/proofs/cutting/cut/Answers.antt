use Rattle.std.proofs.Common.{◌≡◌, ◌+◌, ◌≤◌, List, [], ◌∷◌, ◌++◌, map, length, sym, ap, ap₂, ◌∙◌, subst, arith}
use Rattle.std.specs.Prelude.{slice_range}
use Rattle.std.specs.List.{AllByRecursion}
use Rattle.grove_edits.specs.declared.edit.Edit.{Edit}
use Rattle.edit_runs.specs.Stretch.{edits_in}
use Rattle.edit_runs.specs.Runs.{joined, IsShort}
use Rattle.edit_runs.proofs.Runs.{joined-push, map-push, short_push, take-range, range-length}
use Rattle.edit_runs.proofs.cutting.cut.Goals as goal

pub loop-from-preserved : goal.loop-from-preserved
loop-from-preserved c =
    let before = c.loop-from.invariant in
    let list = c.args.list.now in
    let from = c.loop-from.from in
    let to = from + c.min.result in
    let runs = c.loop-from.runs in
    let stretch = c.of.result in
    let within : to ≤ length list = omega (arith, c.min.ensures, c.len-in-loop-from-2.ensures, before.within) in
    let more : map edits_in c.push.new.self ≡ map edits_in runs ++ edits_in stretch ∷ [] = ap (map edits_in) c.in_ok-push.ensures.appended ∙ map-push edits_in runs stretch in
    let long = range-length list from to (omega arith) within in
    let own : length (edits_in stretch) ≡ length (slice_range list from to) = ap (λ (es : List Edit). length es) c.of.ensures in
    record {
      within = within;
      whole = ap joined more ∙ joined-push (map edits_in runs) (edits_in stretch) ∙ ap₂ (λ (a b : List Edit). a ++ b) before.whole c.of.ensures ∙ take-range list from to (omega arith);
      short = subst (AllByRecursion IsShort) (sym more)
          (short_push (map edits_in runs) (edits_in stretch) before.short (omega (arith, c.min.ensures, c.len-in-loop-from-2.ensures, c.loop-from-test.true, c.len-in-loop-from.ensures), omega (arith, c.min.ensures)));
    }
