-- No run ends as unfit, and so each ending has a status.
use Rattle.std.specs.declared.alloc.Global.{Global}
use Rattle.std.proofs.Common.{◌≡◌, ◌≢◌, ℕ, List, sym, subst}
use Rattle.std.specs.Prelude.{String}
use Rattle.replica_core.specs.Content.{Content}
use Rattle.session_report.specs.Taken.{Journals}
use Rattle.grove_calls.specs.declared.ending.Ending.{Ending}
use Rattle.grove_calls.specs.declared.ending.Ending.TheVariants.{Unfit}
use Rattle.grove_calls.specs.Served.{Outside, Meets, IsServed}
use Rattle.grove_top.specs.declared.outcome.Status.{Status}
use Rattle.grove_top.specs.Due.{top_rules}
use Rattle.grove_top.specs.EndingOf.{ending_of}
use Rattle.grove_top.proofs.OneDue.{no_unfit}

pub never_unfit : (words : List (String Global)) (before after : Outside) (journals : Journals Content) (ending : Ending) → Meets top_rules words before after journals ending → ending ≢ Unfit
never_unfit words before after journals ending meets same =
    let unfit : Meets top_rules words before after journals Unfit = subst (Meets top_rules words before after journals) same meets in
    let due = unfit.answers.is_due in
    no_unfit due.0 unfit.answers.text due.2.2

-- A call that was served with an ending was served with the status of that ending.
pub served_as : (words : List (String Global)) (before after : Outside) (never_fails unchanged : Type 0) (never_fails_for : ℕ → Type 0) (journals : Journals Content) (ending : Ending) (status : Status) → ending_of status ≡ ending
    → IsServed top_rules words before after never_fails unchanged never_fails_for journals ending → IsServed top_rules words before after never_fails unchanged never_fails_for journals (ending_of status)
served_as words before after never_fails unchanged never_fails_for journals ending status same served =
    subst (IsServed top_rules words before after never_fails unchanged never_fails_for journals) (sym same) served
