use Rattle.std.proofs.Common.{sym, ◌∙◌}
use Rattle.undo_answers.specs.Fit.{IsFit}
use Rattle.grove_tools.specs.Undo.{SpellsFit}
use Rattle.grove_tools.proofs.undoing.form_undo.Goals as goal

pub returns-then-not-is_fit-clause-refused : goal.returns-then-not-is_fit-clause-refused
returns-then-not-is_fit-clause-refused c =
    record { session = c.in_ok-session.session; spelled = c.in_ok-session.ensures.spelled; unfit = sym c.is_fit.ensures ∙ c.if-not-is_fit.true }

pub returns-clause-answered : goal.returns-clause-answered
returns-clause-answered c = (
  record {
    session = record { session = c.in_ok-session.session; spelled = c.in_ok-session.ensures.spelled; fit = sym c.is_fit.ensures ∙ c.if-not-is_fit.false };
    undone = c.in_ok-undone.ensures.text;
  },
  c.in_ok-undone.ensures.handed,
)
