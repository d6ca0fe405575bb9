use Rattle.mark_step.proofs.children.child_mode.Goals as goal

pub returns-in-Let-clause-number : goal.returns-in-Let-clause-number
returns-in-Let-clause-number c = c.mode_in_let.ensures.number c.args.types.now c.requires.mode

pub returns-in-Case-clause-number : goal.returns-in-Case-clause-number
returns-in-Case-clause-number c = c.mode_in_case.ensures.number c.args.types.now c.requires.mode
