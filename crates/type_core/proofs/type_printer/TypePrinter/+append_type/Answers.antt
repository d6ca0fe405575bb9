use Rattle.std.proofs.Common.{◌≡◌, sym, subst, rules}
use Rattle.type_core.specs.TypeTexts.{Lengthens}
use Rattle.type_core.proofs.TypeTextLemmas.{Lengthens-same, Lengthens-more, Lengthens-trans}
use Rattle.type_core.proofs.type_printer.TypePrinter.+append_type.Goals as goal
use Rattle.type_core.proofs.type_printer.TypePrinter.+append_type.Goals.{else-levels-eq-KEPT_LEVELS-via-then-levels-eq-KEPT_LEVELS+in_ok-append_kept-in-Pair-2+else-branch, else-levels-eq-KEPT_LEVELS-via-else-levels-eq-KEPT_LEVELS}

pub returns-in_err-append_type-in-Pair-2-clause-longer :
    goal.returns-in_err-append_type-in-Pair-2-clause-longer
returns-in_err-append_type-in-Pair-2-clause-longer t c =
    let same : c.else-levels-eq-KEPT_LEVELS.out.items ≡ c.args.out.now.items =
    elim c.else-levels-eq-KEPT_LEVELS.branch [
      | else-levels-eq-KEPT_LEVELS-via-then-levels-eq-KEPT_LEVELS+in_ok-append_kept-in-Pair-2+else-branch w ↦ search rules
      | else-levels-eq-KEPT_LEVELS-via-else-levels-eq-KEPT_LEVELS w ↦ search rules
    ] in
    let bracket = Lengthens-more c.args.out.now.items _ _ _ (Lengthens-same _ _ same) c.in_ok-push-in-Pair-2.ensures.items in
    Lengthens-trans c.args.out.now.items _ _ bracket c.in_err-append_type-in-Pair-2.ensures.longer

pub returns-in_err-write_short-in-Pair-2-clause-longer :
    goal.returns-in_err-write_short-in-Pair-2-clause-longer
returns-in_err-write_short-in-Pair-2-clause-longer t c =
    let same : c.else-levels-eq-KEPT_LEVELS.out.items ≡ c.args.out.now.items =
    elim c.else-levels-eq-KEPT_LEVELS.branch [
      | else-levels-eq-KEPT_LEVELS-via-then-levels-eq-KEPT_LEVELS+in_ok-append_kept-in-Pair-2+else-branch w ↦ search rules
      | else-levels-eq-KEPT_LEVELS-via-else-levels-eq-KEPT_LEVELS w ↦ search rules
    ] in
    let bracket = Lengthens-more c.args.out.now.items _ _ _ (Lengthens-same _ _ same) c.in_ok-push-in-Pair-2.ensures.items in
    let first = Lengthens-more c.args.out.now.items _ _ _ bracket c.in_ok-append_type-in-Pair-2.ensures.written in
    subst (Lengthens c.args.out.now.items) (sym c.in_err-write_short-in-Pair-2.ensures.unchanged) first

pub returns-in_err-append_type-in-Pair-2-2-clause-longer :
    goal.returns-in_err-append_type-in-Pair-2-2-clause-longer
returns-in_err-append_type-in-Pair-2-2-clause-longer t c =
    let same : c.else-levels-eq-KEPT_LEVELS.out.items ≡ c.args.out.now.items =
    elim c.else-levels-eq-KEPT_LEVELS.branch [
      | else-levels-eq-KEPT_LEVELS-via-then-levels-eq-KEPT_LEVELS+in_ok-append_kept-in-Pair-2+else-branch w ↦ search rules
      | else-levels-eq-KEPT_LEVELS-via-else-levels-eq-KEPT_LEVELS w ↦ search rules
    ] in
    let bracket = Lengthens-more c.args.out.now.items _ _ _ (Lengthens-same _ _ same) c.in_ok-push-in-Pair-2.ensures.items in
    let first = Lengthens-more c.args.out.now.items _ _ _ bracket c.in_ok-append_type-in-Pair-2.ensures.written in
    let signed = Lengthens-more c.args.out.now.items _ _ _ first c.in_ok-write_short-in-Pair-2.ensures.appended in
    Lengthens-trans c.args.out.now.items _ _ signed c.in_err-append_type-in-Pair-2-2.ensures.longer
