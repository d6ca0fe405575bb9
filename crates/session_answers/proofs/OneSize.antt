-- A size has one summary.
use Rattle.std.proofs.Common.{◌≡◌, ℕ, ◌≤◌, List, subst, arith}
use Rattle.session_script.specs.declared.session.Session.{Session}
use Rattle.session_script.specs.Session.{Spells}
use Rattle.session_script.proofs.OneSession.{one_session}
use Rattle.replica_core.specs.Content.{Content}
use Rattle.session_report.specs.Taken.{Journals}
use Rattle.session_report.specs.Legal.{AreLegal}
use Rattle.session_report.specs.Summary.{IsSummary}
use Rattle.session_report.proofs.OneSummary.{one_summary_alike}
use Rattle.session_gen.specs.Generated.{generated_text}
use Rattle.session_gen.proofs.Values.{has_parts}
use Rattle.session_answers.proofs.OneCourse.{one_course}
use Rattle.session_answers.proofs.GeneratedAlone.{generated_alone}

one_summary_here : (loads : ℕ) (session : Session) (journals others : Journals Content) (x y : List ℕ) → loads ≤ 200000 → Spells (generated_text loads) session
    → AreLegal session journals → AreLegal session others → IsSummary session journals x → IsSummary session others y → x ≡ y
one_summary_here loads session journals others x y few spelled legal also a b =
    let alone = generated_alone loads session (has_parts loads session few spelled) in
    let alike = one_course session journals others spelled.is_session alone legal also in
    one_summary_alike session journals others x y (record { first = alike 0 (omega (arith, spelled.is_session.some_replica)); each = alike }) a b

pub one_summary_of_size : (loads : ℕ) (a b : Session) (journals others : Journals Content) (x y : List ℕ) → loads ≤ 200000 → Spells (generated_text loads) a → Spells (generated_text loads) b
    → AreLegal a journals → AreLegal b others → IsSummary a journals x → IsSummary b others y → x ≡ y
one_summary_of_size loads a b journals others x y few of_a of_b legal also is_x is_y =
    let same : a ≡ b = one_session (generated_text loads) a b of_a of_b in
    one_summary_here loads b journals others x y few of_b (subst (λ (s : Session). AreLegal s journals) same legal) also (subst (λ (s : Session). IsSummary s journals x) same is_x) is_y
