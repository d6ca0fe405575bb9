use Rattle.std.proofs.Common.{refl, ap, ◌∙◌}
use Rattle.std.specs.Prelude.{replicate}
use Rattle.replica_core.specs.Content.{no_edits}
use Rattle.session_answers.proofs.Behind.{begin_behind}
use Rattle.session_answers.proofs.running.Running.new.Goals as goal

pub returns : goal.returns
returns c =
    begin_behind c.args.session.now _ (c.in_ok-empty_replicas.ensures ∙ ap (λ n. replicate n no_edits) c.len.ensures) c.new.ensures.empty c.new-2.ensures.items refl refl refl c.in_ok-first_numbers.ensures
